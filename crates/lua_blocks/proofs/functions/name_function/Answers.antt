use Rattle.lua_state.proofs.LuaStoreLater.{later-then}
use Rattle.lua_code.specs.Seen.{place_seen}
use Rattle.lua_state.proofs.LuaStackStay.{registers_later, registers_as, captured_stay}
use Rattle.lua_blocks.proofs.Changes.{closure_later, closure_written}
use Rattle.lua_blocks.proofs.functions.name_function.Goals as goal

pub write-requires-clause-registers : goal.write-requires-clause-registers
write-requires-clause-registers c = registers_later c.args.store.now c.new_function.new.store c.in_ok-id.ensures.later c.args.regs.now c.requires.registers

pub write-requires-clause-closure : goal.write-requires-clause-closure
write-requires-clause-closure c = closure_later c.args.store.now c.new_function.new.store c.in_ok-id.ensures.later c.args.closure c.requires.closure

pub returns-clause-later : goal.returns-clause-later
returns-clause-later c = later-then c.args.store.now c.new_function.new.store c.write.new.store c.in_ok-id.ensures.later c.write.ensures.later

pub returns-clause-named : goal.returns-clause-named
returns-clause-named c =
    closure_written c.args.store.now.heap c.new_function.new.store.heap _ _ _ _ (place_seen c.newest_place-place.result) c.in_ok-id.id.at c.args.boxed _ _ c.in_ok-id.ensures.made
    (registers_as c.args.store.now c.new_function.new.store c.in_ok-id.ensures.later c.args.regs.now c.requires.registers)
    (captured_stay c.args.store.now c.new_function.new.store c.in_ok-id.ensures.later c.args.closure c.requires.closure) c.newest_place-place.ensures c.in_ok-id.ensures.at c.write.ensures.written
