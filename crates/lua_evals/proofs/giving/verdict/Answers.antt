use Rattle.std.proofs.Common.{subst}
use Rattle.std.specs.Prelude.{◌∷◌, []}
use Rattle.lua_code.specs.LuaHeapValue as kind
use Rattle.lua_operators.specs.LuaSlotsErrors.{gives}
use Rattle.lua_state.specs.Makes.{Makes}
use Rattle.lua_state.specs.Seen.{slots_of, frames_of}
use Rattle.lua_evals.proofs.giving.verdict.Goals as goal

pub returns : goal.returns
returns c = λ l.
    subst (λ b. Makes c.args.store.now c.args.state.now l c.args.store.now c.args.state.now l (gives (kind.Truth b ∷ []) (frames_of c.args.store.now c.args.state.now) (slots_of c.args.store.now c.args.state.now)) c.give.result)
    (c.tells-told.ensures c.args.store.now.texts) (c.give.ensures l)
