use Rattle.std.specs.Prelude.{Some}
use Rattle.lua_code.specs.LuaSlotsIndex.{set_index}
use Rattle.lua_state.specs.LuaStoreSeen.{seen}
use Rattle.lua_state.proofs.Staying.{state_later}
use Rattle.lua_blocks.proofs.Parts.{paid_ends}
use Rattle.lua_blocks.proofs.setting.set_entry.Goals as goal

pub finish_paid-requires-clause-state : goal.finish_paid-requires-clause-state
finish_paid-requires-clause-state c = state_later c.args.store.now c.set_index.new.store c.in_ok-paid.ensures.later c.args.state.now c.requires.state

pub returns : goal.returns
returns c =
    paid_ends c.args.store.now c.set_index.new.store c.finish_paid.new.store c.args.state.now c.args.left.now c.set_index.new.left c.finish_paid.new.left
    (λ fs s. set_index (seen c.args.store.now.texts c.args.of) (seen c.args.store.now.texts c.args.entry.0) (seen c.args.store.now.texts c.args.entry.1) (Some c.args.line) fs s) c.in_ok-paid.paid c.finish_paid.result c.requires.state
    c.in_ok-paid.ensures.later c.in_ok-paid.ensures.still c.in_ok-paid.ensures.move_ c.finish_paid.ensures.state c.finish_paid.ensures.later c.finish_paid.ensures.heap c.finish_paid.ensures.makes
