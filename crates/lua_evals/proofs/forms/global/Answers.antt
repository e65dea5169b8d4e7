use Rattle.std.proofs.lemmas.Result.{IfOk-weaker}
use Rattle.std.specs.Prelude.{◌∷◌, Some}
use Rattle.lua_code.specs.LuaHeapValue as kind
use Rattle.lua_operators.specs.LuaSlotsPoints.{First}
use Rattle.lua_code.specs.LuaSlotsIndex.{index_table}
use Rattle.lua_state.proofs.Looking.{over_constant}
use Rattle.lua_evals.proofs.forms.global.Goals as goal

pub returns : goal.returns
returns c =
    IfOk-weaker c.global_named.result _ _ (λ r e. over_constant c.args.store.now c.constant.new.store c.global_named.new.store c.args.state.now c.global_named.new.state c.args.left.now c.global_named.new.left _ c.constant.new.state c.in_ok-name.name.at _
    (λ b fs s. index_table s.globals (kind.Text b) (Some c.args.line) (First ∷ fs) s) c.requires.state c.in_ok-name.ensures.later c.in_ok-name.ensures.heap c.in_ok-name.ensures.world c.in_ok-name.ensures.kept c.in_ok-name.ensures.text e) c.global_named.ensures
