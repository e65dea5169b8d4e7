use Rattle.lua_modules.proofs.LuaStackStay.{values_later}
use Rattle.lua_modules.proofs.LuaStateStaying.{state_later}
use Rattle.lua_runs.proofs.Behind.{follows, texts_later}
use Rattle.lua_runs.proofs.answers.follow_made.Goals as goal

pub follow-requires-clause-state : goal.follow-requires-clause-state
follow-requires-clause-state c = state_later c.args.store.now c.text.new.self c.in_ok-id.ensures.later c.args.state.now c.requires.state

pub follow-requires-clause-values : goal.follow-requires-clause-values
follow-requires-clause-values c = values_later c.args.store.now c.text.new.self c.in_ok-id.ensures.later c.args.values c.requires.values

pub follow-requires-clause-before : goal.follow-requires-clause-before
follow-requires-clause-before c = texts_later c.args.store.now c.text.new.self c.in_ok-id.ensures.later c.args.before c.requires.before

pub returns : goal.returns
returns c = λ l.
    follows c.args.store.now c.text.new.self c.args.state.now l _ c.args.values c.args.before c.in_ok-id.id c.args.text.now _ c.requires.state c.requires.values c.requires.before c.in_ok-id.ensures.later
    c.in_ok-id.ensures.added c.in_ok-id.ensures.there (c.in_ok-turn.ensures l)
