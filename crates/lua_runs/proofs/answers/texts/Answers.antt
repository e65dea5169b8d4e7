use Rattle.std.proofs.Common.{◌∙◌, sym, subst}
use Rattle.lua_code.specs.LuaSlotsStarts.{texts}
use Rattle.lua_modules.specs.LuaStackSeen.{joined_seen}
use Rattle.lua_modules.proofs.LuaStackOpenings.{first_of}
use Rattle.lua_modules.specs.LuaStateSeen.{slots_of, frames_of}
use Rattle.lua_modules.specs.LuaStateMakes.{Makes}
use Rattle.lua_runs.proofs.Behind.{opened, rest_of}
use Rattle.lua_runs.proofs.answers.texts.Goals as goal

pub next_text-requires-clause-value : goal.next_text-requires-clause-value
next_text-requires-clause-value c = first_of c.args.store.now c.args.values c.take_first-value.result c.take_first-value.ensures.first c.requires.values

pub next_text-requires-clause-values : goal.next_text-requires-clause-values
next_text-requires-clause-values c = rest_of c.args.store.now c.args.values c.take_first-value.new.self c.take_first-value.ensures.rest c.requires.values

pub returns : goal.returns
returns c =
    subst (λ vs. Makes c.args.store.now c.args.state.now c.args.left.now c.next_text.new.store c.next_text.new.state c.next_text.new.left (texts vs (joined_seen c.args.store.now.texts c.args.before) (frames_of c.args.store.now c.args.state.now) (slots_of c.args.store.now c.args.state.now)) c.in_ok-turn-2.turn)
    (sym (opened c.args.store.now.texts c.args.values c.take_first-value.new.self c.take_first-value.result (λ e. c.if-len-eq0.false (c.len.ensures ∙ e)) c.take_first-value.ensures.first c.take_first-value.ensures.rest)) c.in_ok-turn-2.ensures
