use Rattle.std.proofs.lemmas.Result.{IfOk-weaker}
use Rattle.std.specs.Prelude.{◌∷◌}
use Rattle.lua_code.specs.Seen.{expression_seen, expressions_seen}
use Rattle.lua_operators.specs.LuaSlotsPoints.{Evals, MethodNext, Now}
use Rattle.lua_state.proofs.Looking.{over_constant}
use Rattle.lua_evals.proofs.forms.method_call.Goals as goal

pub returns : goal.returns
returns c = λ l.
    IfOk-weaker c.wait.result _ _ (λ r e. over_constant c.args.store.now c.constant.new.store c.constant.new.store c.args.state.now c.wait.new.state l l _ c.constant.new.state c.in_ok-name.name.at _
    (λ b fs s. Now (Evals (expression_seen c.args.of.now) (MethodNext b (expressions_seen c.args.arguments.now) c.args.line ∷ fs)) s) c.requires.state c.in_ok-name.ensures.later c.in_ok-name.ensures.heap c.in_ok-name.ensures.world
    c.in_ok-name.ensures.kept c.in_ok-name.ensures.text e) (c.wait.ensures l)
