use Rattle.std.proofs.Common.{◌++◌, List, ℕ, subst}
use Rattle.mw_html_texts.specs.MwHtmlRender.{render}
use Rattle.lua_modules.specs.LuaSlotsPoints.{Texts, Now}
use Rattle.lua_modules.specs.LuaStackSeen.{values_seen, joined_seen}
use Rattle.lua_modules.specs.LuaStateMakes.{Makes}
use Rattle.lua_modules.specs.LuaStateSeen.{slots_of, frames_of}
use Rattle.lua_runs.proofs.Objects.{text_is_next, too_deep_is_raised, object_is_short}
use Rattle.lua_runs.proofs.answers.object_next.Goals as goal

pub returns-in_ok-turn-in-Text : goal.returns-in_ok-turn-in-Text
returns-in_ok-turn-in-Text c =
    let s = c.args.store.now in
    let m = c.args.state.now in
    let k = c.object_text.new.left in
    let vs = values_seen s.texts c.args.values in
    let before = joined_seen s.texts c.args.before in
    text_is_next s c.follow_made.new.store m c.args.left.now k k c.in_ok-turn-in-Text.turn vs before (render s.heap.markup c.args.id.at) c.in-Text.bytes
    (rw c.in-Text.is at c.in_ok-text.ensures)
    (subst (λ (b : List ℕ). Makes s m k c.follow_made.new.store m k (Now (Texts vs (before ++ b) (frames_of s m)) (slots_of s m)) c.in_ok-turn-in-Text.turn) c.as_slice.ensures.value (c.in_ok-turn-in-Text.ensures k))

pub returns-in_ok-turn-in-TooDeep : goal.returns-in_ok-turn-in-TooDeep
returns-in_ok-turn-in-TooDeep c =
    let s = c.args.store.now in
    let k = c.object_text.new.left in
    too_deep_is_raised s c.too_deep.new.store c.args.state.now c.args.left.now k k c.in_ok-turn-in-TooDeep.turn (values_seen s.texts c.args.values) (joined_seen s.texts c.args.before) (render s.heap.markup c.args.id.at)
    (rw c.in-TooDeep.is at c.in_ok-text.ensures) (c.in_ok-turn-in-TooDeep.ensures k)

pub returns-in-Spent : goal.returns-in-Spent
returns-in-Spent c =
    let s = c.args.store.now in
    object_is_short s c.args.state.now c.args.left.now c.object_text.new.left (values_seen s.texts c.args.values) (joined_seen s.texts c.args.before) (render s.heap.markup c.args.id.at) c.requires.state
    (rw c.in-Spent.is at c.in_ok-text.ensures)
