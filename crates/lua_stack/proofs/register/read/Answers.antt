use Rattle.std.proofs.Common.{◌∙◌, ap}
use Rattle.lua_code.specs.LuaSlotsSlots.{slot_value}
use Rattle.lua_stack.proofs.PlaceLemmas.{slot_at, slot_seen_at}
use Rattle.lua_stack.proofs.register.read.Goals as goal

pub returns-in-Register-clause-of : goal.returns-in-Register-clause-of
returns-in-Register-clause-of c = c.value_of.ensures.of c.args.store.now (slot_at c.args.store.now c.args.regs.now c.in-Register.at _ c.requires.registers c.newest.ensures)

pub returns-in-Register-clause-value : goal.returns-in-Register-clause-value
returns-in-Register-clause-value c =
    rw c.in-Register.is (c.value_of.ensures.value c.args.store.now.texts ∙ ap slot_value (slot_seen_at c.args.store.now.texts c.args.regs.now c.in-Register.at _ c.newest.ensures))
