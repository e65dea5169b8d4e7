-- A WIKI: its pages and its modules.
use Rattle.std.specs.Prelude.{◌≡◌, true, is_some}
use Rattle.wk_base.specs.declared.title.Title.{Title}
use Rattle.wk_base.specs.Titles.{is_module}
use Rattle.wiki_texts.specs.WikiPagesPages.{Pages, find_page}
use Rattle.lua_code.specs.Held.{TitledModules, find_module}

-- the modules that are held are the pages of namespace Module that are
abbrev pub HoldsModules : Pages → TitledModules → Type 0
HoldsModules pages held = (title : Title) → is_module title.ns ≡ true → is_some (find_module held title) ≡ is_some (find_page pages title)
