-- What is known of each invocation that is asked for.
use Rattle.std.specs.Prelude.{◌≡◌, IsSome}
use Rattle.mw_frame.specs.WkBaseDeclaredTitleNamespaceTheVariants.{Module}
use Rattle.mw_frame.specs.declared.scene.Job.{Job}
use Rattle.mw_frame.specs.Scenes.{HaveNames}
use Rattle.wiki_pages.specs.Pages.{Pages, find_page}
use Rattle.wiki_expand.specs.declared.frame.Progress.{Progress}
use Rattle.wiki_expand.specs.declared.frame.Progress.TheVariants.{On, Deeper, Asks}

-- its module is a page that is held
abbrev pub HasModule : Pages → Job → Type 0
HasModule pages job = (job.«module».ns ≡ Module) × IsSome (find_page pages job.«module»)

-- and no two arguments of its frames have one name
abbrev pub AsksWell : Pages → Progress → Type 0
AsksWell pages (On f) = Unit {0}
AsksWell pages (Deeper f) = Unit {0}
AsksWell pages (Asks job) = HasModule pages job × HaveNames job
