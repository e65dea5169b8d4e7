use Rattle.std.proofs.lemmas.Result.{IfOk-weaker}
use Rattle.std.proofs.Common.{ℕ, subst}
use Rattle.page_run.specs.declared.which.Which.TheVariants.{Steps}
use Rattle.lua_operators.specs.LuaSlotsSlots.{function_of}
use Rattle.lua_operators.specs.LuaSlotsPoints.{Costs}
use Rattle.lua_operators.specs.LuaSlotsErrors.{gives}
use Rattle.lua_state.specs.declared.turn.Turn.TheVariants as turn
use Rattle.lua_state.specs.Seen.{slots_of, frames_of}
use Rattle.lua_state.specs.Makes.{Makes}
use Rattle.lua_evals.proofs.Ends.{costs, short}
use Rattle.lua_evals.proofs.forms.dots.Goals as goal

pub returns-then-not-pay : goal.returns-then-not-pay
returns-then-not-pay c =
    subst (λ (n : ℕ). Makes c.args.store.now c.args.state.now c.args.left.now c.args.store.now c.args.state.now c.pay.new.left
    (Costs n (gives (function_of (slots_of c.args.store.now c.args.state.now)).dots (frames_of c.args.store.now c.args.state.now) (slots_of c.args.store.now c.args.state.now))) (turn.Spent Steps))
    (c.count_dots-count.ensures c.args.store.now)
    (short c.args.store.now c.args.state.now c.args.left.now c.pay.new.left c.count_dots-count.result _ c.requires c.if-not-pay.ensures)

pub returns : goal.returns
returns c =
    IfOk-weaker c.copied_dots.result _ _ (λ r e. subst (λ (n : ℕ). Makes c.args.store.now c.args.state.now c.args.left.now c.args.store.now c.args.state.now c.pay.new.left
    (Costs n (gives (function_of (slots_of c.args.store.now c.args.state.now)).dots (frames_of c.args.store.now c.args.state.now) (slots_of c.args.store.now c.args.state.now))) r)
    (c.count_dots-count.ensures c.args.store.now)
    (costs c.args.store.now c.args.store.now c.args.state.now c.args.state.now c.args.left.now c.pay.new.left c.pay.new.left c.count_dots-count.result _ _
    c.if-not-pay.ensures e)) (c.copied_dots.ensures c.pay.new.left)
