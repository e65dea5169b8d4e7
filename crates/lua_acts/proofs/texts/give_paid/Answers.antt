use Rattle.std.specs.Prelude.{◌∷◌, []}
use Rattle.lua_code.specs.LuaHeapValue as kind
use Rattle.lua_state.specs.LuaSlotsErrors.{gives}
use Rattle.lua_state.proofs.Staying.{state_later}
use Rattle.lua_acts.proofs.Parts.{named}
use Rattle.lua_acts.proofs.texts.give_paid.Goals as goal

pub give-requires-clause-state : goal.give-requires-clause-state
give-requires-clause-state c = state_later c.args.store.now c.text.new.self c.in_ok-text.ensures.later c.args.state.now c.requires

pub returns : goal.returns
returns c = λ l.
    named c.args.store.now c.text.new.self c.text.new.self c.args.state.now c.args.state.now l l _ _ c.in_ok-text.text.at c.args.bytes.now (λ b fs s. gives (kind.Text b ∷ []) fs s) c.requires c.in_ok-text.ensures.later
    c.in_ok-text.ensures.added c.in_ok-text.ensures.there (c.give.ensures l)
