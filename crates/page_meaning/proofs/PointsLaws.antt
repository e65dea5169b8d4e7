-- A run at a point goes on as the meaning says: its next question has its reply, or it has come to its end.
use Rattle.std.proofs.Common.{◌≡◌, List, [], Some, refl, sym, ap, ◌∙◌}
use Rattle.wk_base.specs.declared.left.Left.{Left}
use Rattle.page_run.specs.Run.{Run, Meaning}
use Rattle.page_run.specs.State.{Reply, Replier, Event, Ended, Spent, Asked, start}
use Rattle.page_run.specs.Perform.{perform, wait, NoRise}
use Rattle.page_run.proofs.ReplyLaws.{end_stands, spent_stands, computed_is_given, add_no_replies}
use Rattle.expand_meaning.specs.Expand.{thing_text}
use Rattle.expand_meaning.specs.Outcome.{expansion, next_event}
use Rattle.lua_meaning_laws.specs.LuaMeaningThings.{meaning_of}
use Rattle.lua_meaning_laws.specs.LuaMeaningHome.{home}
use Rattle.lua_meaning_laws.specs.LuaMeaningStart.{Invoke, run_of}
use Rattle.page_meaning.specs.Wiki.{setting, world}
use Rattle.page_meaning.specs.Told.{invoked}
use Rattle.page_meaning.specs.Drive.{invocation_reply, reply, replies, drive}
use Rattle.page_meaning.specs.Points.{Follows}
use Rattle.page_meaning.specs.Laws.{RunsGoOn, ExpansionsGoOn}
use Rattle.page_meaning.proofs.DriveLaws.{drive-replies, drive-invocation}

module _ {M H T Q A O : Type 0} (meaning : Meaning M H T Q A O) (answer : Q → Left → Reply A) (b : Replier Q A) (nr : NoRise b) (is : (q : Q) (l : Left) → b q l ≡ Some (answer q l)) (p : Run M H T Q A O) (heap : H) (first : Left) (given : List (Reply A)) where
  goes_on : (e : Event H Q O) → perform meaning wait p (start heap first given) ≡ e → Follows e answer (λ replies. perform meaning b p (start heap first replies)) given
  goes_on (Ended o m) e = ap (perform meaning b p) (sym (add_no_replies (start heap first given))) ∙ end_stands meaning p (start heap first given) o m e b nr []
  goes_on (Spent w m) e = ap (perform meaning b p) (sym (add_no_replies (start heap first given))) ∙ spent_stands meaning p (start heap first given) w m e b nr []
  goes_on (Asked q m) e = computed_is_given meaning p (start heap first given) q m e b nr (answer q m.left) (is q m.left)

pub runs_go_on : RunsGoOn
runs_go_on wiki page work first given =
    goes_on (meaning_of (world wiki page)) (reply wiki page (drive wiki page)) (replies wiki page (drive wiki page)) (drive-replies wiki page) (λ q l. refl) (run_of (world wiki page) work) home first given (perform (meaning_of (world wiki page)) wait (run_of (world wiki page) work) (start home first given)) refl

pub expansions_go_on : ExpansionsGoOn
unfolding next_event
expansions_go_on wiki page work first given =
    goes_on (thing_text (setting wiki page)) (λ job l. invoked (drive wiki page (Invoke job) l)) (invocation_reply wiki page (drive wiki page)) (drive-invocation wiki page) (λ q l. refl) (expansion work) tt first given (perform (thing_text (setting wiki page)) wait (expansion work) (start tt first given)) refl
