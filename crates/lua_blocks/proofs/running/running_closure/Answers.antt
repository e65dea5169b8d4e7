use Rattle.std.proofs.Common.{◌∙◌, ap, sym}
use Rattle.std.specs.Option.{option_copied}
use Rattle.lua_state.specs.LuaSlotsSlots.{Activation}
use Rattle.lua_state.proofs.Newest.{found, found_of, absent}
use Rattle.lua_blocks.proofs.running.running_closure.Goals as goal

pub returns-in-Some-clause-of : goal.returns-in-Some-clause-of
returns-in-Some-clause-of c = λ s h. (found_of s c.args.functions.now c.in-Some.newest.now (ap option_copied (sym c.in-Some.is) ∙ c.newest.ensures) h).closure

pub returns-in-Some-clause-cells : goal.returns-in-Some-clause-cells
returns-in-Some-clause-cells c = λ s. sym (ap (λ (a : Activation). a.cells) (found s c.args.functions.now c.in-Some.newest.now (ap option_copied (sym c.in-Some.is) ∙ c.newest.ensures)))

pub returns-in-None-clause-cells : goal.returns-in-None-clause-cells
returns-in-None-clause-cells c = λ s. sym (ap (λ (a : Activation). a.cells) (absent s c.args.functions.now (ap option_copied (sym c.in-None.is) ∙ c.newest.ensures)))
