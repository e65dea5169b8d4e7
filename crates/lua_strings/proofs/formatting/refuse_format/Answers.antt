use Rattle.std.proofs.Common.{◌∙◌, ap, sym, subst, ◌+◌, codes}
use Rattle.std.proofs.lemmas.List.{drop-map}
use Rattle.lua_basic.specs.LuaStoreSeen.{seen}
use Rattle.lua_basic.specs.Seen.{values_seen, Stops}
use Rattle.lua_basic.specs.LuaMeaningMessages.{bad_argument, expected}
use Rattle.lua_basic.specs.LuaMeaningArguments.{fails}
use Rattle.lua_basic.specs.LuaMeaningFormats.{wanted_kind}
use Rattle.lua_strings.proofs.formatting.refuse_format.Goals as goal

pub returns-in-WrongKind-clause-raises : goal.returns-in-WrongKind-clause-raises
returns-in-WrongKind-clause-raises c =
    let s = c.args.store.now in
    let t = c.refuse_value-in-WrongKind.new.store in
    let at = c.in-WrongKind.at in
    let given = ap (values_seen s.texts) c.values_behind.ensures ∙ sym (drop-map (seen s.texts) at c.args.values.now) in
    rw c.in-WrongKind.is (subst (λ vs. Stops (fails s.heap (bad_argument (at + 2) (codes "format") (expected (wanted_kind c.in-WrongKind.want) vs))) t c.refuse_value-in-WrongKind.result) given
    c.refuse_value-in-WrongKind.ensures.raises)
