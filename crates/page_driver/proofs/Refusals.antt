-- An invocation whose start can't be paid comes to its text, whatever it would have made.
use Rattle.std.proofs.Common.{◌≡◌, ◌+◌, ◌<◌, [], ap, arith}
use Rattle.page_meaning.specs.WkBaseDeclaredLeftLeft.{Left}
use Rattle.lua_code.specs.WkBaseDeclaredTitleTitle.{Title}
use Rattle.mw_frame.specs.declared.scene.Job.{Job}
use Rattle.page_meaning.specs.PageRunState.{Reply, start}
use Rattle.page_meaning.specs.LuaMeaningHome.{home}
use Rattle.page_meaning.specs.LuaMeaningQuestions.{Answer}
use Rattle.page_meaning.specs.LuaMeaningStart.{Invoke}
use Rattle.page_meaning.specs.LuaMeaningThings.{meaning_of}
use Rattle.page_meaning.specs.Wiki.{Wiki, world}
use Rattle.page_meaning.specs.Told.{Seen}
use Rattle.page_meaning.specs.Drive.{replies, drive}
use Rattle.page_meaning.specs.Points.{drive_after}
use Rattle.page_meaning.specs.Tasks.{OfPage, lua_reply, answer_to}
use Rattle.page_tasks.specs.Refusing.{start_charge, none_left}
use Rattle.page_tasks.proofs.Spending.{spent_at, first_spends}

-- the charge of a run is taken before anything else
abbrev seen_of : Left → Seen
seen_of l = spent_at (start {A = Answer} home l [])

run_spent : (wiki : Wiki) (page : Title) (job : Job) (l : Left) → l.steps < start_charge → drive_after wiki page (Invoke job) l [] ≡ seen_of l
run_spent wiki page job l h = first_spends (meaning_of (world wiki page)) (replies wiki page (drive wiki page)) start_charge _ (start home l []) h

abbrev pub refused_reply : Job → Left → Reply Answer
refused_reply job l = lua_reply (Invoke job) l (seen_of l)

pub is_refused : (wiki : Wiki) (page : Title) (job : Job) (l : Left) → l.steps < start_charge → answer_to wiki page (OfPage job) l ≡ refused_reply job l
is_refused wiki page job l h = ap (lua_reply (Invoke job) l) (run_spent wiki page job l h)

pub reply_leaves : (job : Job) (l : Left) → (refused_reply job l).left ≡ none_left l
reply_leaves job l =
    let e : l.calls + 0 ≡ l.calls = omega arith in
    ap (λ n. let left : Left = record l { steps = 0; calls = n } in left) e
