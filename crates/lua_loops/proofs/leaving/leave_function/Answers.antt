use Rattle.std.proofs.Common.{◌∙◌, ap, ℕ}
use Rattle.lua_state.specs.LuaSlotsSlots.{cut_to}
use Rattle.lua_state.specs.LuaStackSeen.{registers_seen}
use Rattle.lua_loops.proofs.leaving.leave_function.Goals as goal

pub returns-clause-cuts : goal.returns-clause-cuts
returns-clause-cuts c = λ s. c.keep_oldest.ensures.cuts s.texts ∙ ap (λ (d : ℕ). cut_to d (registers_seen s.texts c.args.regs.now)) (c.leave_newest-base.ensures.base s)
