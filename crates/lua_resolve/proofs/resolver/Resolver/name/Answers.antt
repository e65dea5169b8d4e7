use Rattle.std.proofs.Common.{refl, sym, subst, option_map}
use Rattle.lua_syntax.specs.Tree.{NameE}
use Rattle.lua_code.specs.LuaSlotsIsCode.{IsExp}
use Rattle.lua_code.specs.Seen.{place_seen}
use Rattle.lua_code.proofs.Views.{expression-Local, expression-Global}
use Rattle.lua_scopes.specs.Scopes.{IsSighted}
use Rattle.lua_resolve.proofs.PartLaws.{next_trans, later}
use Rattle.lua_resolve.proofs.resolver.Resolver.name.Goals as goal

pub returns-in-Some-clause-code : goal.returns-in-Some-clause-code
returns-in-Some-clause-code c = λ at see l. subst (IsExp at see (NameE c.args.line c.args.name.now)) (sym (expression-Local c.in-Some.place))
    (subst (λ p. IsSighted (option_map place_seen p) (see c.args.name.now)) c.in-Some.is (c.in_ok-place.ensures.place at see l))

pub returns-in_ok-number-in-None-clause-next : goal.returns-in_ok-number-in-None-clause-next
returns-in_ok-number-in-None-clause-next c = next_trans _ _ _ c.in_ok-place.ensures.next c.in_ok-number-in-None.ensures.next

pub returns-in_ok-number-in-None-clause-code : goal.returns-in_ok-number-in-None-clause-code
returns-in_ok-number-in-None-clause-code c = λ at see l. subst (IsExp at see (NameE c.args.line c.args.name.now)) (sym (expression-Global c.in_ok-number-in-None.number c.args.line))
    (subst (λ p. IsSighted (option_map place_seen p) (see c.args.name.now)) c.in-None.is (c.in_ok-place.ensures.place at see (later _ _ at see c.in_ok-number-in-None.ensures.next l)), c.in_ok-number-in-None.ensures.there at see l, refl)
