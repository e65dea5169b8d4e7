-- A WIKI, and what is seen of it while one of its pages is expanded.
use Rattle.std.specs.Prelude.{ℕ, List, Option}
use Rattle.wk_base.specs.declared.title.Title.{Title}
use Rattle.expand_meaning.specs.WikiMarkupDeclaredMarkedModeTheVariants.{Direct}
use Rattle.expand_meaning.specs.WikiMarkupShown.{shown_of}
use Rattle.expand_meaning.specs.WikiMarkupTrees.{Trees, pairing}
use Rattle.expand_meaning.specs.Expand.{Setting}
use Rattle.lua_meaning_laws.specs.LuaMeaningWorld.{Modules, World}

pub record Wiki : Type 0 where
  -- of each title its page, as it is read where it is included, if it is held (MediaWiki, Help:Templates)
  pub included : Title → Option Trees
  -- of each title its module, if it is held (Extension:Scribunto)
  pub modules : Modules

-- what an expansion sees, and what a run of Lua sees
abbrev pub setting : Wiki → Title → Setting
setting wiki page = record { included = wiki.included; page = page }

abbrev pub world : Wiki → Title → World
world wiki page = record { page = page; modules = wiki.modules }

-- the trees of a text that stands by itself, as `frame:preprocess` takes it
abbrev pub read : List ℕ → Trees
read text = pairing (shown_of Direct text)
