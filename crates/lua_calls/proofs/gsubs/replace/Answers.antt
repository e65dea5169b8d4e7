use Rattle.std.proofs.Common.{◌≡◌, ◌∙◌, ◌-◌, ap, sym, subst, arith, ℕ, suc}
use Rattle.std.specs.Prelude.{IfOk}
use Rattle.lua_gsubs.specs.LuaStringWalk.{span}
use Rattle.lua_gsubs.specs.LuaMeaningGsub.{search, Job as PlainJob, Replacing as PlainReplacing}
use Rattle.lua_code.proofs.LuaMeaningGsubLaws.{matches_go_on}
use Rattle.page_run.specs.declared.which.Which.TheVariants.{Steps}
use Rattle.lua_code.specs.LuaSlotsGsub.{finish, replaces}
use Rattle.lua_tables.specs.LuaStoreSeen.{text_at}
use Rattle.lua_modules.specs.LuaStateDeclaredTurnTurnTheVariants as turn
use Rattle.lua_modules.specs.LuaStateMakes.{Makes}
use Rattle.lua_modules.specs.LuaStateSeen.{slots_of, frames_of}
use Rattle.lua_modules.proofs.LuaStateStaying.{state_later}
use Rattle.lua_gsubs.specs.LuaReplacingDeclaredJobReplacing.{Replacing}
use Rattle.lua_gsubs.specs.LuaReplacingSeen.{job_seen, far_seen, replacing_seen}
use Rattle.lua_gsubs.proofs.LuaReplacingStays.{replacing_later, replacing_stays}
use Rattle.lua_calls.proofs.Replaces.{seek_spent, seek_none, seek_matched, waits_is}
use Rattle.lua_calls.proofs.gsubs.replace.Goals as goal

pub returns-then-limit-eq0 : goal.returns-then-limit-eq0
returns-then-limit-eq0 c =
    let s = c.args.store.now in
    let m = c.args.state.now in
    subst (λ n. IfOk c.end_job.result (Makes s m c.args.left.now c.end_job.new.store m c.end_job.new.left (replaces (job_seen s.texts c.args.job) n (far_seen c.args.far) c.args.line (frames_of s m) (slots_of s m)))) (sym c.if-limit-eq0.true)
    c.end_job.ensures

pub returns-in-Err-Spent : goal.returns-in-Err-Spent
returns-in-Err-Spent c =
    let s = c.args.store.now in
    let m = c.args.state.now in
    let limit = c.args.limit - 1 in
    let more : c.args.limit ≡ suc limit = omega (arith, c.if-limit-eq0.false) in
    let job = job_seen s.texts c.args.job in
    let far = far_seen c.args.far in
    let spent = rw c.in-Err-Spent.field-0-is at c.in-Err-Spent.ensures.sought limit in
    subst (λ n. Makes s m c.args.left.now c.seek.new.store m c.seek.new.left (replaces job n far c.args.line (frames_of s m) (slots_of s m)) (turn.Spent Steps)) (sym more)
    (seek_spent s c.seek.new.store m c.requires.state c.seek.ensures.later c.seek.ensures.heap job c.args.line (search job limit far) (text_at s.texts c.args.job.subject.at) far c.args.far c.seek.new.far c.args.left.now
    c.seek.new.left spent)

pub end_job-requires-in-Ok-NoMatch-clause-state : goal.end_job-requires-in-Ok-NoMatch-clause-state
end_job-requires-in-Ok-NoMatch-clause-state c = state_later c.args.store.now c.seek.new.store c.seek.ensures.later c.args.state.now c.requires.state

pub end_job-requires-in-Ok-NoMatch-clause-job : goal.end_job-requires-in-Ok-NoMatch-clause-job
end_job-requires-in-Ok-NoMatch-clause-job c =
    let w : Replacing = record { job = c.args.job; limit = 0; far = c.args.far; start = 0; end = 0 } in
    (replacing_later c.args.store.now c.seek.new.store c.seek.ensures.later w (c.requires.job, c.requires.within)).0

pub returns-in-Ok-NoMatch : goal.returns-in-Ok-NoMatch
returns-in-Ok-NoMatch c =
    let s = c.args.store.now in
    let t = c.seek.new.store in
    let m = c.args.state.now in
    let k = c.seek.new.left in
    let r = c.end_job-in-Ok-NoMatch.result in
    let u = c.end_job-in-Ok-NoMatch.new.store in
    let k' = c.end_job-in-Ok-NoMatch.new.left in
    let limit = c.args.limit - 1 in
    let more : c.args.limit ≡ suc limit = omega (arith, c.if-limit-eq0.false) in
    let job = job_seen s.texts c.args.job in
    let far = far_seen c.args.far in
    let w : Replacing = record { job = c.args.job; limit = 0; far = c.args.far; start = 0; end = 0 } in
    let same : job_seen t.texts c.args.job ≡ job = ap (λ (x : PlainReplacing). x.job) (replacing_stays s t c.seek.ensures.later w (c.requires.job, c.requires.within)) in
    let sought = rw c.in-Ok-NoMatch.field-0-is at c.in-Ok-NoMatch.ensures.sought limit in
    let made = subst (λ (x : PlainJob). IfOk r (Makes t m k u m k' (finish x (far_seen c.seek.new.far) (frames_of t m) (slots_of t m)))) same c.end_job-in-Ok-NoMatch.ensures in
    subst (λ n. IfOk r (Makes s m c.args.left.now u m k' (replaces job n far c.args.line (frames_of s m) (slots_of s m)))) (sym more)
    (seek_none s t m c.requires.state c.seek.ensures.later c.seek.ensures.heap job c.args.line (search job limit far) (text_at s.texts c.args.job.subject.at) u m c.args.far c.seek.new.far c.args.left.now k k' r sought made)

pub ask-requires-clause-state : goal.ask-requires-clause-state
ask-requires-clause-state c = state_later c.args.store.now c.seek.new.store c.seek.ensures.later c.args.state.now c.requires.state

pub returns : goal.returns
returns c =
    let s = c.args.store.now in
    let t = c.seek.new.store in
    let m = c.args.state.now in
    let k = c.seek.new.left in
    let limit = c.args.limit - 1 in
    let more : c.args.limit ≡ suc limit = omega (arith, c.if-limit-eq0.false) in
    let job = job_seen s.texts c.args.job in
    let far = far_seen c.args.far in
    let subject = text_at s.texts c.args.job.subject.at in
    let x : Replacing = record { job = c.args.job; limit = limit; far = c.seek.new.far; start = c.in-Ok-Matched.start; end = c.in-Ok-Matched.end } in
    let stays = replacing_stays s t c.seek.ensures.later x (c.requires.job, c.in-Ok-Matched.ensures.within) in
    let sought = rw c.in-Ok-Matched.field-0-is at c.in-Ok-Matched.ensures.sought limit in
    subst (λ n. IfOk c.ask.result (Makes s m c.args.left.now c.ask.new.store c.ask.new.state c.ask.new.left (replaces job n far c.args.line (frames_of s m) (slots_of s m)))) (sym more)
    (seek_matched s t m c.requires.state c.seek.ensures.later c.seek.ensures.heap job c.args.line (search job limit far) limit subject c.ask.new.store c.ask.new.state c.args.far c.seek.new.far c.in-Ok-Matched.captures
    c.in-Ok-Matched.start c.in-Ok-Matched.end (replacing_seen t.texts x) c.args.left.now k c.ask.new.left c.ask.result sought (matches_go_on job limit far)
    (λ w a b e d. stays ∙ waits_is w job limit (far_seen c.seek.new.far) (span subject c.in-Ok-Matched.start c.in-Ok-Matched.end) a b e d) c.ask.ensures)
