-- Expansions begin.
use Rattle.std.proofs.Common.{◌≡◌, [], Result, Ok, Err, subst}
use Rattle.std.specs.Prelude.{IfSome, IfOk}
use Rattle.page_run.specs.WkBaseDeclaredLeftLeft.{Left}
use Rattle.lua_code.specs.WkBaseDeclaredTitleTitle.{Title}
use Rattle.wiki_expand.specs.WikiMarkupTrees.{Trees}
use Rattle.wiki_expand.specs.WikiMarkupDeclaredMarkedMarked.{Marked}
use Rattle.mw_frame.specs.declared.scene.Scene.{Scene}
use Rattle.wiki_expand.specs.ExpandMeaningPlaces.{trees_at}
use Rattle.wiki_expand.specs.ExpandMeaningOutcome.{Work as PageWork, Reading, Including, page_scene}
use Rattle.wiki_expand.specs.declared.expander.Expander.{Expander}
use Rattle.wiki_expand.specs.declared.expander.Source.{Source}
use Rattle.wiki_expand.specs.declared.expander.Source.TheVariants.{Page as OfPage, Template as OfTemplate, Text as OfText}
use Rattle.wiki_expand.specs.WikiPagesPages.{direct_in, included_in, setting_in}
use Rattle.wiki_expand.specs.Standing.{At, IsReady, setting_of, depth_in, templates_in, work_of, reading, including}
use Rattle.lua_machine.specs.LuaStoreSeen.{StoreView}
use Rattle.page_ground.specs.PageMeaningTasks.{Expanding}
use Rattle.page_tasks.specs.declared.task.Task.{Task}
use Rattle.page_tasks.specs.declared.task.Task.TheVariants as task
use Rattle.page_ground.specs.Ground.{Ground, page_of}
use Rattle.page_tasks.specs.Beginning.{Begins}
use Rattle.page_tasks.proofs.Starts.{of_made, expansion_begins, if_some, if_mapped}

-- AN EXPANSION, by the clauses of `start`
pub source_begins : {E : Type 0} (g : Ground) (source : Source) (scene : Scene) (r : Result Expander E) (e : Expander) → r ≡ Ok e → IfOk r (λ x. IfSome (work_of g.pages source scene) (λ work. (l : Left) → At x work l [] l)) → IfOk r (λ x. setting_of x ≡ setting_in g.pages (page_of g)) → IfOk r IsReady
    → IfOk r (λ x. (depth_in x ≡ 0) × (templates_in x ≡ 0)) → IfSome (work_of g.pages source scene) (λ work. (s : StoreView) → Begins g (Expanding work) s s (task.Expansion e))
source_begins g source scene r e same at on ready rests =
    if_some (λ (work : PageWork). (l : Left) → At e work l [] l) (λ (work : PageWork). (s : StoreView) → Begins g (Expanding work) s s (task.Expansion e)) (work_of g.pages source scene)
    (λ work i s. expansion_begins g work e i (of_made (λ (x : Expander). setting_of x ≡ setting_in g.pages (page_of g)) r e same on) (of_made IsReady r e same ready) (of_made (λ (x : Expander). (depth_in x ≡ 0) × (templates_in x ≡ 0)) r e same rests) s)
    (of_made (λ (x : Expander). IfSome (work_of g.pages source scene) (λ work. (l : Left) → At x work l [] l)) r e same at)

-- and so a text, a template and the page begin
abbrev BeginsSource : Ground → Source → Scene → Task → Type 0
BeginsSource g source scene t = IfSome (work_of g.pages source scene) (λ work. (s : StoreView) → Begins g (Expanding work) s s t)

pub text_begins : {E : Type 0} (g : Ground) (marked : Marked) (trees : Trees) (scene : Scene) (r : Result Task E) → trees_at 0 marked.nodes ≡ trees → IfOk r (BeginsSource g (OfText marked) scene) → IfOk r (λ t. (s : StoreView) → Begins g (Expanding (Reading trees scene)) s s t)
text_begins g marked trees scene (Ok t) same b = subst (λ (ts : Trees). (s : StoreView) → Begins g (Expanding (Reading ts scene)) s s t) same b
text_begins g marked trees scene (Err e) same b = tt

pub template_begins : {E : Type 0} (g : Ground) (title : Title) (scene : Scene) (r : Result Task E) → IfOk r (BeginsSource g (OfTemplate title) scene) → IfOk r (λ t. IfSome (included_in g.pages title) (λ trees. (s : StoreView) → Begins g (Expanding (Including trees title scene)) s s t))
template_begins g title scene (Ok t) b = if_mapped (including title scene) (λ (work : PageWork). (s : StoreView) → Begins g (Expanding work) s s t) (included_in g.pages title) b
template_begins g title scene (Err e) b = tt

abbrev PageBegins : Ground → Title → Scene → Task → Type 0
PageBegins g title scene t = IfSome (direct_in g.pages title) (λ trees. (s : StoreView) → Begins g (Expanding (Reading trees scene)) s s t)

pub page_begins_with : {E : Type 0} (g : Ground) (title : Title) (scene : Scene) (r : Result Task E) → title ≡ page_of g → scene ≡ page_scene (page_of g) → IfOk r (BeginsSource g (OfPage title) scene) → IfOk r (λ t. IfSome (direct_in g.pages (page_of g)) (λ trees. (s : StoreView) → Begins g (Expanding (Reading trees (page_scene (page_of g)))) s s t))
page_begins_with g title scene (Ok t) same same' b =
    subst (λ (sc : Scene). PageBegins g (page_of g) sc t) same'
    (subst (λ (x : Title). PageBegins g x scene t) same (if_mapped (reading scene) (λ (work : PageWork). (s : StoreView) → Begins g (Expanding work) s s t) (direct_in g.pages title) b))
page_begins_with g title scene (Err e) same same' b = tt
