use Rattle.std.proofs.Common.{◌∙◌, ap, sym, length}
use Rattle.std.specs.Option.{option_copied}
use Rattle.std.proofs.lemmas.List.{length-map}
use Rattle.lua_operators.specs.LuaStoreSeen.{seen}
use Rattle.lua_operators.specs.LuaSlotsSlots.{Activation}
use Rattle.lua_state.proofs.Newest.{found, absent}
use Rattle.lua_evals.proofs.running.count_dots.Goals as goal

pub returns-in-Some : goal.returns-in-Some
returns-in-Some c = λ s. c.len.ensures ∙ sym (length-map c.in-Some.newest.now.dots (seen s.texts)) ∙ sym (ap (λ (a : Activation). length a.dots) (found s c.args.functions.now c.in-Some.newest.now (ap option_copied (sym c.in-Some.is) ∙ c.newest.ensures)))

pub returns-in-None : goal.returns-in-None
returns-in-None c = λ s. sym (ap (λ (a : Activation). length a.dots) (absent s c.args.functions.now (ap option_copied (sym c.in-None.is) ∙ c.newest.ensures)))
