-- SMALL WIKIS for worked pages: a page P, some templates, some modules.
use Rattle.std.specs.Prelude.{ℕ, ◌-◌, List, [], ◌∷◌, Option, Some, None}
use Rattle.std.specs.Map.{lookup}
use Rattle.wk_base.specs.declared.left.Left.{Left}
use Rattle.wk_base.specs.declared.title.Namespace.TheVariants.{Main, Template}
use Rattle.wk_base.specs.declared.title.Title.{Title}
use Rattle.wk_base.specs.contracts.title.TitlePartialEq.TheImpl as titles
use Rattle.expand_meaning.specs.WikiMarkupDeclaredMarkedModeTheVariants.{Transcluded}
use Rattle.expand_meaning.specs.WikiMarkupShown.{shown_of}
use Rattle.expand_meaning.specs.WikiMarkupTrees.{Trees, done, pairing}
use Rattle.lua_meaning_laws.specs.LuaMeaningWorld.{Module}
use Rattle.lua_meaning_laws.specs.LuaMeaningTrial.{ModuleText, modules_of}
use Rattle.page_meaning.specs.Wiki.{Wiki, read}
use Rattle.page_meaning.specs.Page.{Page, page}

abbrev pub Bytes : Type 0
Bytes = List ℕ

abbrev pub template : Bytes → Bytes → Title × Trees
template name text = (record { ns = Template; name = name }, pairing (shown_of Transcluded text))

-- a module's page is held too; no page of these examples includes one
abbrev pub or_module : Option Trees → Option Module → Option Trees
or_module (Some trees) m = Some trees
or_module None (Some m) = Some done
or_module None None = None

abbrev pub wiki : List (Title × Trees) → List ModuleText → Wiki
wiki templates texts = record {
  included = λ title. or_module (lookup (titles.ghosts.eq title) templates) (modules_of texts title);
  modules = modules_of texts;
}

-- so many steps and nested calls, and enough of all else
abbrev pub allowing : ℕ → ℕ → Left
allowing steps calls = record { steps = steps; nodes = 50; bytes = 1000; calls = calls; depth = 20; templates = 10 }

-- the page P with this text
abbrev pub shown : List (Title × Trees) → List ModuleText → Left → Bytes → Page
shown templates texts full text = page (wiki templates texts) (record { ns = Main; name = 80 ∷ [] }) (read text) full

-- its text, and no more than that
abbrev pub text_of : List (Title × Trees) → List ModuleText → Bytes → Bytes
text_of templates texts text = (shown templates texts (allowing 8000 200) text).text

-- the steps that it used, of so many
abbrev pub steps_of : List (Title × Trees) → List ModuleText → ℕ → Bytes → ℕ
steps_of templates texts steps text = steps - (shown templates texts (allowing steps 200) text).left.steps

-- its text, the steps left, the charges of repeated loads and what is begun
pub record Seen : Type 0 where
  pub text : Bytes
  pub steps : ℕ
  pub repeat_charges : ℕ
  pub begun : ℕ

abbrev pub seen : Page → Seen
seen p = record { text = p.text; steps = p.left.steps; repeat_charges = p.repeat_charges; begun = p.begun }
