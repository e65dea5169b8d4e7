use Rattle.lua_arms.specs.LuaStackDeclaredRaisingRaisingTheVariants as raising
use Rattle.lua_state.proofs.Raised.{may_be, failed}
use Rattle.lua_state.proofs.ending.fail.Goals as goal

pub raise_text-requires : goal.raise_text-requires
raise_text-requires c = may_be c.args.store.now c.place_of_level-place.result (c.place_of_level-place.ensures.of c.args.store.now c.requires.state.functions)

pub returns-in-Raises-clause-makes : goal.returns-in-Raises-clause-makes
returns-in-Raises-clause-makes c =
    failed c.args.store.now c.raise_text.new.store c.args.state.now c.args.left.now c.raise_text.new.left c.args.line c.place_of_level-place.result c.args.message.now c.in_ok-raising.raising (raising.Raises c.in-Raises.value) c.in-Raises.is
    c.requires.state c.in_ok-raising.ensures.later c.in_ok-raising.ensures.heap c.in_ok-raising.ensures.of c.place_of_level-place.ensures.place c.in_ok-raising.ensures.move_

pub returns-in-Spent-clause-makes : goal.returns-in-Spent-clause-makes
returns-in-Spent-clause-makes c =
    failed c.args.store.now c.raise_text.new.store c.args.state.now c.args.left.now c.raise_text.new.left c.args.line c.place_of_level-place.result c.args.message.now c.in_ok-raising.raising (raising.Spent c.in-Spent.which) c.in-Spent.is
    c.requires.state c.in_ok-raising.ensures.later c.in_ok-raising.ensures.heap c.in_ok-raising.ensures.of c.place_of_level-place.ensures.place c.in_ok-raising.ensures.move_
