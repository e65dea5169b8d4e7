-- A RUN AT A POINT: after the replies that it was given it waits at a question, or is over; and what it then comes to.
use Rattle.std.specs.Prelude.{◌≡◌, ℕ, List, [], ◌∷◌, ◌++◌}
use Rattle.wk_base.specs.declared.title.Title.{Title}
use Rattle.wk_base.specs.declared.left.Left.{Left}
use Rattle.page_run.specs.State.{Reply, Event, Ended, Spent, Asked, start}
use Rattle.page_run.specs.Perform.{perform}
use Rattle.expand_meaning.specs.Expand.{thing_text}
use Rattle.expand_meaning.specs.Outcome.{Work as PageWork, expansion}
use Rattle.lua_meaning_laws.specs.LuaMeaningQuestions.{Answer}
use Rattle.lua_meaning_laws.specs.LuaMeaningThings.{meaning_of}
use Rattle.lua_meaning_laws.specs.LuaMeaningHome.{home}
use Rattle.lua_meaning_laws.specs.LuaMeaningStart.{Work, run_of}
use Rattle.page_meaning.specs.Wiki.{Wiki, setting, world}
use Rattle.page_meaning.specs.Told.{Seen, PageSeen}
use Rattle.page_meaning.specs.Drive.{invocation_reply, replies, drive}

module _ (wiki : Wiki) (page : Title) where
  -- what a run comes to after these replies, where the questions beyond them are answered
  abbrev pub drive_after : Work → Left → List (Reply Answer) → Seen
  drive_after work first given = perform (meaning_of (world wiki page)) (replies wiki page (drive wiki page)) (run_of (world wiki page) work) (start home first given)

  abbrev pub expand_after : PageWork → Left → List (Reply (List ℕ)) → PageSeen
  expand_after work first given = perform (thing_text (setting wiki page)) (invocation_reply wiki page (drive wiki page)) (expansion work) (start tt first given)

-- With the event that is seen of a run, what it comes to: that event, where it is over; and else what it comes to with the reply to its
-- question, computed from what is left there.
abbrev pub Follows : {H Q A O : Type 0} → Event H Q O → (Q → Left → Reply A) → (List (Reply A) → Event H Q O) → List (Reply A) → Type 0
Follows (Ended outcome m) reply after given = after given ≡ Ended outcome m
Follows (Spent which m) reply after given = after given ≡ Spent which m
Follows (Asked question m) reply after given = after given ≡ after (given ++ reply question m.left ∷ [])
