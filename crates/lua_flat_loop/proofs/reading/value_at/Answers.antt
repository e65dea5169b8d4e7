use Rattle.std.proofs.Common.{◌∙◌, ap}
use Rattle.lua_stack.specs.LuaSlotsSlots.{slot_value}
use Rattle.lua_stack.proofs.PlaceLemmas.{slot_at, slot_seen_at}
use Rattle.lua_flat_loop.proofs.reading.value_at.Goals as goal

pub returns-clause-of : goal.returns-clause-of
returns-clause-of c = λ s of. c.value_of.ensures.of s (slot_at s c.args.regs.now c.args.at _ of c.slot_at.ensures)

pub returns-clause-value : goal.returns-clause-value
returns-clause-value c = λ texts. c.value_of.ensures.value texts ∙ ap slot_value (slot_seen_at texts c.args.regs.now c.args.at _ c.slot_at.ensures)
