-- WHAT NOTHING ON A PAGE CHANGES: its title, the pages and the modules of the wiki.
use Rattle.std.specs.Prelude.{◌≡◌, ◌⊎◌, ℕ, ◌==◌, Bool, true, false, IsTrue, List, None, is_some, codes}
use Rattle.std.specs.List.{starts_with}
use Rattle.wk_base.specs.Titles.{is_module, title_text}
use Rattle.wk_base.specs.declared.title.Title.{Title}
use Rattle.wiki_pages.specs.Pages.{Pages, included_in}
use Rattle.lua_code.specs.LuaMeaningWorld.{Modules}
use Rattle.lua_code.specs.LuaSlotsIsCode.{Agrees}
use Rattle.lua_state.specs.declared.codes.World.{World}
use Rattle.lua_code.specs.Held.{TitledModules, modules_seen}
use Rattle.page_ground.specs.declared.context.Context.{Context}
use Rattle.page_meaning.specs.Wiki.{Wiki}

pub record Ground : Type 0 where
  pub world : World
  pub pages : Pages

abbrev pub ground_of : Context → Ground
ground_of a = record { world = a.world; pages = a.pages.now }

abbrev pub page_of : Ground → Title
page_of g = g.world.page.now

-- the wiki with these pages, and with modules whose code is the modules of the ground
abbrev pub wiki_in : Pages → Modules → Wiki
wiki_in pages modules = record { included = included_in pages; modules = modules }

abbrev pub wiki_of : Ground → Modules → Wiki
wiki_of g modules = wiki_in g.pages modules

-- whether the text of a title is one of a module
abbrev pub named_module : List ℕ → Bool
named_module text = starts_with ◌==◌ text (codes "Module:")

-- MODULES whose code is that of the modules that are held, each named as a module is
pub record AreModulesIn (page : Title) (held : TitledModules) (modules : Modules) : Type 0 where
  pub agree : Agrees (record { page = page; modules = modules }) (record { page = page; modules = modules_seen held })
  pub named : (title : Title) → named_module (title_text title) ≡ false → modules title ≡ None

abbrev pub AreModulesOf : Ground → Modules → Type 0
AreModulesOf g modules = AreModulesIn (page_of g) g.world.modules.now modules

-- whether a module of a title is held: it is, and the title is that of a module; or it is not named as one, or none is held of that name
abbrev pub TellsHeld : TitledModules → Title → Bool → Type 0
TellsHeld held title true = IsTrue (is_some (modules_seen held (title_text title))) × (is_module title.ns ≡ true)
TellsHeld held title false = (named_module (title_text title) ≡ false) ⊎ (modules_seen held (title_text title) ≡ None)
