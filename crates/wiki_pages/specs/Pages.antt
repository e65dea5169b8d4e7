-- The find_page pages, by title.
use Rattle.std.specs.Prelude.{List, Option, option_map}
use Rattle.std.specs.Map.{lookup}
use Rattle.mw_frame.specs.WkBaseDeclaredTitleTitle.{Title}
use Rattle.page_run.specs.WkBaseContractsTitleTitlePartialEqTheImpl as titles
use Rattle.wiki_markup.specs.Trees.{Trees}
use Rattle.wiki_pages.specs.Entries.{Entry}
use Rattle.expand_texts.specs.ExpandMeaningPlaces.{trees_at}
use Rattle.expand_texts.specs.ExpandMeaningExpand.{Setting}

-- a page: its title, and its text as it is read for itself and as it is included
abbrev pub Pages : Type 0
Pages = List (Title × Entry)

abbrev pub find_page : Pages → Title → Option Entry
find_page pages title = lookup (titles.ghosts.eq title) pages

abbrev pub direct_of : Entry → Trees
direct_of e = trees_at 0 e.direct.nodes

abbrev pub included_of : Entry → Trees
included_of e = trees_at 0 e.transcluded.nodes

abbrev pub direct_in : Pages → Title → Option Trees
direct_in pages title = option_map direct_of (find_page pages title)

abbrev pub included_in : Pages → Title → Option Trees
included_in pages title = option_map included_of (find_page pages title)

-- what an expansion of a page sees of them
abbrev pub setting_in : Pages → Title → Setting
setting_in pages page = record { included = included_in pages; page = page }
