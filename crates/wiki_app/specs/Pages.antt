-- The pages that a command is about, and what is told of those that are expanded.
use Rattle.std.specs.Prelude.{ℕ, ◌-◌, if◌then◌else◌, is_some, List, [], ◌∷◌, map, Option, Some, None, option_map, Result, Ok}
use Rattle.wk_base.specs.declared.left.Left.{Left}
use Rattle.wk_base.specs.declared.left.Limits.{Limits}
use Rattle.wk_base.specs.declared.title.Title.{Title}
use Rattle.wk_tool.specs.WkShelfDeclaredFolderFolderPage.{FolderPage}
use Rattle.wk_tool.specs.WkShelfFiles.{StoredFile}
use Rattle.wk_tool.specs.WkShelfFolder.{files_of, wiki_of}
use Rattle.wiki_words.specs.declared.command.Asked.{Asked}
use Rattle.wiki_words.specs.declared.command.Asked.TheVariants.{Titles, AllPages}
use Rattle.wiki_words.specs.declared.command.Work.{Work}
use Rattle.wiki_words.specs.declared.command.Work.TheVariants.{Folder, Made}
use Rattle.wiki_output.specs.declared.made.Made.{Made as MadePage}
use Rattle.wiki_output.specs.declared.made.Used.{Used}
use Rattle.wiki_output.specs.declared.made.Form.{Form}
use Rattle.wiki_output.specs.declared.made.Form.TheVariants.{Alone, Blocks, Summary}
use Rattle.wiki_output.specs.Choice.{shown_titles, all_titles}
use Rattle.wiki_output.specs.Demo.{demo_pages}
use Rattle.wiki_pages.specs.Pages.{Pages, find_page}
use Rattle.wiki_batch.specs.PageDriverDeclaredWikiPage.{Page}
use Rattle.wiki_batch.specs.WikiTextsDeclaredRawRawPage.{RawPage}

-- the pages of the wiki, or the line of the folder's first fault, where they are known: those of a folder, if the shelf tells its files, or those
-- that the program makes
abbrev pub wiki_for : Work → Option (List StoredFile) → Option (Result (List FolderPage) (List ℕ))
wiki_for (Folder pages) files = option_map (λ known. wiki_of (files_of pages.folder known)) files
wiki_for (Made count) files = Some (Ok (demo_pages count))

-- ---- which of them are shown, and how

abbrev pub titles_asked : Asked → List FolderPage → List Title
titles_asked (Titles titles) pages = titles
titles_asked AllPages pages = all_titles pages

abbrev pub titles_of : Work → List FolderPage → List Title
titles_of (Folder asked) pages = titles_asked asked.asked pages
titles_of (Made count) pages = shown_titles pages

-- one page that is named is its text alone
abbrev pub form_asked : Asked → Form
form_asked (Titles (title ∷ [])) = Alone
form_asked _ = Blocks

abbrev pub form_of : Work → Form
form_of (Folder asked) = form_asked asked.asked
form_of (Made count) = Summary

-- ---- a wiki's pages

abbrev pub raw_page : FolderPage → RawPage
raw_page p = record { title = p.title; bytes = p.bytes }

abbrev pub raw_pages : List FolderPage → List RawPage
raw_pages pages = map raw_page pages

-- the first title that no page has
abbrev pub first_missing : Pages → List Title → Option Title
first_missing map [] = None
first_missing map (title ∷ titles) = if is_some (find_page map title) then first_missing map titles else Some title

-- what a page used: what it could use, less what is left
abbrev pub used_of : Limits → Left → Used
used_of limits left = record { steps = limits.steps - left.steps; nodes = limits.nodes - left.nodes; bytes = limits.bytes - left.bytes }

abbrev pub made_page : Limits → Page → MadePage
made_page limits page = record { title = page.title; text = page.text; used = used_of limits page.left }

abbrev pub made_pages : Limits → List Page → List MadePage
made_pages limits pages = map (made_page limits) pages
