use Rattle.std.specs.Prelude.{◌∷◌, []}
use Rattle.lua_code.specs.LuaHeapValue as kind
use Rattle.lua_operators.specs.LuaSlotsErrors.{gives}
use Rattle.lua_state.proofs.Looking.{over_constant}
use Rattle.lua_evals.proofs.forms.text.Goals as goal

pub returns : goal.returns
returns c = λ l.
    over_constant c.args.store.now c.constant.new.store c.constant.new.store c.args.state.now c.constant.new.state l l _ c.constant.new.state c.in_ok-text.text.at _ (λ b fs s. gives (kind.Text b ∷ []) fs s) c.requires
    c.in_ok-text.ensures.later c.in_ok-text.ensures.heap c.in_ok-text.ensures.world c.in_ok-text.ensures.kept c.in_ok-text.ensures.text (c.give.ensures l)
