use Rattle.std.proofs.Common.{◌∙◌, ap, sym, subst}
use Rattle.std.specs.Option.{option_copied}
use Rattle.lua_operators.specs.LuaSlotsSlots.{Activation}
use Rattle.lua_operators.specs.LuaStackOf.{ValuesOf}
use Rattle.lua_operators.specs.LuaStackSeen.{values_seen}
use Rattle.lua_state.proofs.Newest.{found, found_of, absent}
use Rattle.lua_evals.proofs.running.copy_dots.Goals as goal

pub returns-in_ok-values-in-Some-clause-of : goal.returns-in_ok-values-in-Some-clause-of
returns-in_ok-values-in-Some-clause-of c = λ s h. subst (ValuesOf s) (sym c.in_ok-values-in-Some.ensures) (found_of s c.args.functions.now c.in-Some.newest.now (ap option_copied (sym c.in-Some.is) ∙ c.newest.ensures) h).dots

pub returns-in_ok-values-in-Some-clause-values : goal.returns-in_ok-values-in-Some-clause-values
returns-in_ok-values-in-Some-clause-values c = λ s.
    ap (values_seen s.texts) c.in_ok-values-in-Some.ensures ∙ sym (ap (λ (a : Activation). a.dots) (found s c.args.functions.now c.in-Some.newest.now (ap option_copied (sym c.in-Some.is) ∙ c.newest.ensures)))

pub returns-in-None-clause-of : goal.returns-in-None-clause-of
returns-in-None-clause-of c = λ s h. subst (ValuesOf s) (sym c.new.ensures) tt

pub returns-in-None-clause-values : goal.returns-in-None-clause-values
returns-in-None-clause-values c = λ s.
    ap (values_seen s.texts) c.new.ensures ∙ sym (ap (λ (a : Activation). a.dots) (absent s c.args.functions.now (ap option_copied (sym c.in-None.is) ∙ c.newest.ensures)))
