use Rattle.std.specs.Prelude.{◌∷◌, [], false, codes}
use Rattle.lua_code.specs.LuaHeapValue as kind
use Rattle.lua_state.specs.LuaSlotsErrors.{gives}
use Rattle.lua_state.proofs.Staying.{state_later}
use Rattle.lua_acts.proofs.Parts.{named}
use Rattle.lua_acts.proofs.protected.failed_twice.Goals as goal

pub failed-requires-clause-state : goal.failed-requires-clause-state
failed-requires-clause-state c = state_later c.args.store.now c.text.new.self c.in_ok-id.ensures.later c.args.state.now c.requires

pub returns : goal.returns
returns c = λ l.
    named c.args.store.now c.text.new.self c.text.new.self c.args.state.now c.args.state.now l l _ _ c.in_ok-id.id.at (codes "error in error handling") (λ b fs s. gives (kind.Truth false ∷ kind.Text b ∷ []) fs s) c.requires c.in_ok-id.ensures.later
    c.in_ok-id.ensures.added c.in_ok-id.ensures.there (c.in_ok-turn.ensures l)
