use Rattle.std.proofs.Common.{◌∙◌, ap}
use Rattle.lua_code.specs.LuaHeapProc.{Proc}
use Rattle.lua_code.specs.LuaHeapHeap.{Heap}
use Rattle.lua_blocks.specs.LuaSlotsSlots.{with_heap}
use Rattle.lua_home_laws.proofs.LuaPointsClauses.{clause_of_answer}
use Rattle.lua_blocks.specs.LuaStateSeen.{slots_of, frames_of}
use Rattle.lua_blocks.proofs.LuaStateStaying.{state_later, slots_stay}
use Rattle.lua_machine.specs.Events.{answer_outcome}
use Rattle.lua_machine.proofs.machine.Machine.answer.Goals as goal

pub returns-clause-of : goal.returns-clause-of
returns-clause-of c = record { state = state_later c.args.store.now c.told.new.store c.in_ok-next.ensures.later c.args.self.now.state c.requires.machine.state; next = c.in_ok-next.ensures.of }

pub returns-clause-slots : goal.returns-clause-slots
returns-clause-slots c =
    slots_stay c.args.store.now c.told.new.store c.in_ok-next.ensures.later c.args.self.now.state c.requires.machine.state
    ∙ ap (λ (h : Heap Proc). with_heap h (slots_of c.args.store.now c.args.self.now.state)) c.in_ok-next.ensures.heap

pub returns-clause-goes_on : goal.returns-clause-goes_on
returns-clause-goes_on c = λ code q a.
    clause_of_answer code q (frames_of c.told.new.store c.args.self.now.state) (slots_of c.told.new.store c.args.self.now.state) a (answer_outcome c.args.store.now.texts c.args.answer)
