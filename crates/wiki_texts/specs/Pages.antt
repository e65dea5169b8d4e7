-- THE PAGES of a wiki: of each title its text, cut and paired (MediaWiki, Help:Templates).
use Rattle.std.specs.Prelude.{ℕ, Bool, if◌then◌else◌, is_some, List, [], ◌∷◌, ◌++◌}
use Rattle.std.specs.List.{list_any}
use Rattle.wiki_pages.specs.WkBaseDeclaredTitleTitle.{Title}
use Rattle.wiki_pages.specs.WkBaseContractsTitleTitlePartialEqTheImpl as titles
use Rattle.wiki_markup.specs.Nodes.{Marked}
use Rattle.wiki_markup.specs.declared.marked.Mode.{Mode}
use Rattle.wiki_markup.specs.declared.marked.Mode.TheVariants.{Direct, Transcluded}
use Rattle.wiki_markup.specs.Shown.{shown_of}
use Rattle.wiki_markup.specs.Trees.{marked_of}
use Rattle.wiki_pages.specs.Entries.{Entry}
use Rattle.wiki_pages.specs.Pages.{Pages, find_page}
use Rattle.wiki_texts.specs.declared.raw.RawPage.{RawPage}

-- whether a page of this title is among these
abbrev pub is_held : List RawPage → Title → Bool
is_held pages title = list_any (λ page. titles.ghosts.eq title page.title) pages

-- a page's text as it is shown in a mode, its braces paired
abbrev pub marked_in : Mode → List ℕ → Marked
marked_in mode text = record { nodes = marked_of (shown_of mode text) }

-- a page as it is read for itself, and as it is included in others
abbrev pub entry_of : List ℕ → Entry
entry_of text = record { direct = marked_in Direct text; transcluded = marked_in Transcluded text }

-- one page more; the first of a title counts (a wiki has no second one)
abbrev pub with_page : Pages → RawPage → Pages
with_page map page = if is_some (find_page map page.title) then map else map ++ (page.title, entry_of page.bytes) ∷ []

abbrev pub with_pages : Pages → List RawPage → Pages
with_pages map [] = map
with_pages map (page ∷ pages) = with_pages (with_page map page) pages

-- the pages by title
unfoldable pub page_map : List RawPage → Pages
page_map pages = with_pages [] pages
