use Rattle.std.proofs.Common.{◌∷◌}
use Rattle.mw_frame.specs.declared.question.Ask.TheVariants as ask
use Rattle.lua_code.specs.LuaMeaningQuestions.{DataAsked}
use Rattle.lua_state.specs.LuaSlotsPoints.{Now, Asking, Hears}
use Rattle.lua_state.proofs.Staying.{state_later}
use Rattle.lua_modules.proofs.Parts.{named}
use Rattle.lua_modules.proofs.loading.ask_data.Goals as goal

pub ask_named-requires-clause-state : goal.ask_named-requires-clause-state
ask_named-requires-clause-state c = state_later c.args.store.now c.text.new.self c.in_ok-id.ensures.later c.args.state.now c.requires.state

pub returns : goal.returns
returns c = λ l.
    named c.args.store.now c.text.new.self c.text.new.self c.args.state.now c.ask_named.new.state l l c.in_ok-turn.turn _ c.in_ok-id.id.at c.args.text.now
    (λ b fs s. Now (Asking (ask.Data c.args.title) (Hears (DataAsked b c.args.title) c.args.line ∷ fs)) s)
    c.requires.state c.in_ok-id.ensures.later c.in_ok-id.ensures.added c.in_ok-id.ensures.there (c.in_ok-turn.ensures l)
