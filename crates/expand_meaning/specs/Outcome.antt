-- What an expansion does next, after the replies that it was given.
use Rattle.std.specs.Prelude.{◌≡◌, ℕ, List, [], ◌∷◌}
use Rattle.page_run.specs.WkBaseDeclaredLeftLeft.{Left}
use Rattle.mw_frame.specs.WkBaseDeclaredTitleTitle.{Title}
use Rattle.wiki_markup.specs.Trees.{Trees}
use Rattle.mw_frame.specs.declared.scene.Scene.{Scene}
use Rattle.mw_frame.specs.declared.scene.Job.{Job}
use Rattle.page_run.specs.Run.{Ends}
use Rattle.page_run.specs.State.{Reply, Event, Ended, Spent, Asked, start}
use Rattle.page_run.specs.Perform.{perform, wait}
use Rattle.expand_meaning.specs.Expand.{Setting, Page, expand, template_body, thing_text}

-- AN EXPANSION that is a run of its own: of trees in a scene; or of a page that is included, with the arguments of the scene,
-- from a text with its chain
pub data Work : Type 0 where
  Reading : (trees : Trees) (scene : Scene) → Work
  Including : (trees : Trees) (title : Title) (scene : Scene) → Work

abbrev pub expansion : Work → Page
expansion (Reading trees sc) = expand trees sc Ends
expansion (Including trees title sc) = template_body trees title sc.args sc Ends

-- the next event, after these replies
unfoldable pub next_event : Setting → Work → Left → List (Reply (List ℕ)) → Event (Unit {0}) Job (List ℕ)
next_event w work first given = perform (thing_text w) wait (expansion work) (start tt first given)

-- it has come to this text, and so much is left
abbrev pub Comes : Event (Unit {0}) Job (List ℕ) → List ℕ → Left → Type 0
Comes (Ended x m) text left = (x ≡ text) × (m.left ≡ left)
Comes (Spent w m) text left = ⊥
Comes (Asked q m) text left = ⊥

-- it asks for this invocation, and so much is left
abbrev pub Asks : Event (Unit {0}) Job (List ℕ) → Job → Left → Type 0
Asks (Ended x m) job left = ⊥
Asks (Spent w m) job left = ⊥
Asks (Asked q m) job left = (q ≡ job) × (m.left ≡ left)

-- its text, or the empty text where it has come to none
abbrev pub text_in : Event (Unit {0}) Job (List ℕ) → List ℕ
text_in (Ended x m) = x
text_in (Spent w m) = []
text_in (Asked q m) = []

-- the scene of a page that is expanded: it has no arguments, and is in no chain
abbrev pub page_scene : Title → Scene
page_scene title = record { title = title; args = []; chain = [] }

-- THE TEXT OF A PAGE where no invocation is asked for
unfoldable pub page_text : Setting → Trees → Left → List ℕ
page_text w trees first = text_in (next_event w (Reading trees (page_scene w.page)) first [])
