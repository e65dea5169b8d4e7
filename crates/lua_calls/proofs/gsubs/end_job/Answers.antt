use Rattle.std.proofs.Common.{◌≡◌, ◌∙◌, subst, rules, length, drop, List}
use Rattle.lua_code.specs.LuaHeapValue.{Value as Plain}
use Rattle.lua_gsubs.specs.LuaMeaningGsub.{made_values}
use Rattle.lua_modules.specs.LuaSlotsSlots.{Slots}
use Rattle.lua_modules.specs.LuaSlotsPoints.{SFrame}
use Rattle.lua_modules.specs.LuaSlotsErrors.{gives}
use Rattle.lua_modules.specs.LuaStackSeen.{values_seen}
use Rattle.lua_modules.specs.LuaStateSeen.{slots_of, frames_of}
use Rattle.lua_modules.specs.LuaStateMakes.{Makes}
use Rattle.lua_modules.proofs.LuaStateStaying.{state_later}
use Rattle.lua_acts.proofs.Parts.{over_text, costs, short}
use Rattle.lua_gsubs.specs.LuaReplacingSeen.{job_seen, far_seen}
use Rattle.lua_calls.proofs.Replaces.{took_pays, lacked_pays}
use Rattle.lua_calls.proofs.gsubs.end_job.Goals as goal

pub bytes-requires : goal.bytes-requires
bytes-requires c = c.requires.job.0

pub returns-in-Err-Spent : goal.returns-in-Err-Spent
returns-in-Err-Spent c =
    let s = c.args.store.now in
    let n = length (drop c.args.far.copied (job_seen s.texts c.args.job).subject) in
    let lacked = rw (c.in-Err-Spent.field-0-is, c.bytes.ensures) at c.in-Err-Spent.ensures.complete in
    short s c.args.state.now c.args.left.now c.complete.new.left n _ c.requires.state (lacked_pays n c.args.left.now c.complete.new.left lacked)

pub give_all-requires-clause-state : goal.give_all-requires-clause-state
give_all-requires-clause-state c = state_later c.args.store.now c.made_values.new.store c.made_values.ensures.later c.args.state.now c.requires.state

pub give_all-requires-clause-values : goal.give_all-requires-clause-values
give_all-requires-clause-values c = rw c.of_list.ensures c.in_ok-values-in-Ok.ensures.of

pub returns : goal.returns
returns c =
    let s = c.args.store.now in
    let t = c.made_values.new.store in
    let m = c.args.state.now in
    let k = c.complete.new.left in
    let job = job_seen s.texts c.args.job in
    let far = far_seen c.args.far in
    let n = length (drop far.copied job.subject) in
    let paid = rw c.bytes.ensures at c.in-Ok.ensures.complete in
    let made = rw c.of_list.ensures at c.give_all.ensures k in
    let text : c.as_slice.result.now ≡ c.complete.new.far.text.items = search rules in
    let values = rw (text ∙ paid.1, c.complete.ensures.count) at c.in_ok-values-in-Ok.ensures.values in
    costs s t m m c.args.left.now k k n _ _ (took_pays n c.args.left.now k paid.0)
    (over_text s t t m m k k c.give_all.result (λ (fs : List SFrame) (x : Slots). gives (made_values job far) fs x) c.requires.state c.made_values.ensures.later c.made_values.ensures.heap
    (subst (λ (vs : List Plain). Makes t m k t m k (gives vs (frames_of t m) (slots_of t m)) c.give_all.result) values made))
