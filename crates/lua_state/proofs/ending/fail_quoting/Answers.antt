use Rattle.lua_arms.specs.LuaStackDeclaredRaisingRaisingTheVariants as raising
use Rattle.lua_state.proofs.Raised.{may_be, failed_quoting}
use Rattle.lua_state.proofs.ending.fail_quoting.Goals as goal

pub raise_quote-requires : goal.raise_quote-requires
raise_quote-requires c = may_be c.args.store.now c.place_of_level-place.result (c.place_of_level-place.ensures.of c.args.store.now c.requires.state.functions)

pub returns-in-Raises-clause-makes : goal.returns-in-Raises-clause-makes
returns-in-Raises-clause-makes c =
    failed_quoting c.args.store.now c.raise_quote.new.store c.args.state.now c.args.left.now c.raise_quote.new.left c.args.line c.place_of_level-place.result c.args.message.now c.in_ok-raising.raising (raising.Raises c.in-Raises.value) c.in-Raises.is
    c.requires.state c.in_ok-raising.ensures.later c.in_ok-raising.ensures.heap c.in_ok-raising.ensures.of c.place_of_level-place.ensures.place c.in_ok-raising.ensures.move_

pub returns-in-Spent-clause-makes : goal.returns-in-Spent-clause-makes
returns-in-Spent-clause-makes c =
    failed_quoting c.args.store.now c.raise_quote.new.store c.args.state.now c.args.left.now c.raise_quote.new.left c.args.line c.place_of_level-place.result c.args.message.now c.in_ok-raising.raising (raising.Spent c.in-Spent.which) c.in-Spent.is
    c.requires.state c.in_ok-raising.ensures.later c.in_ok-raising.ensures.heap c.in_ok-raising.ensures.of c.place_of_level-place.ensures.place c.in_ok-raising.ensures.move_
