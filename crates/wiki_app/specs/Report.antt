-- What a run is to answer and to write.
use Rattle.std.specs.Prelude.{◌≡◌, ◌⊎◌, ℕ, Bool, is_some, List, [], ◌∷◌, ◌++◌, Option, Some, None, IfSome, option_map, Result, Ok, Err, codes}
use Rattle.wk_base.specs.declared.title.Title.{Title}
use Rattle.wk_tool.specs.WkShelfDeclaredFolderFolderPage.{FolderPage}
use Rattle.wk_tool.specs.WkShelfFiles.{StoredFile}
use Rattle.wk_tool.specs.declared.report.Report.{Report}
use Rattle.wk_tool.specs.declared.report.Status.{Status}
use Rattle.wk_tool.specs.declared.report.Status.TheVariants.{Done, NoSuchPage, SourceFault}
use Rattle.wk_tool.specs.WkShelfPut.{PutsSome}
use Rattle.wk_tool.specs.Report.{read_line, usage_report, source_report, missing_report}
use Rattle.wk_tool.specs.Ending.{Stream}
use Rattle.wiki_words.specs.declared.command.Command.{Command}
use Rattle.wiki_words.specs.declared.command.Work.{Work}
use Rattle.wiki_words.specs.declared.command.Work.TheVariants.{Folder, Made}
use Rattle.wiki_words.specs.declared.settings.Settings.{Settings}
use Rattle.wiki_words.specs.Command.{command_of}
use Rattle.wiki_output.specs.declared.made.Form.{Form}
use Rattle.wiki_output.specs.Report.{done_report}
use Rattle.wiki_pages.specs.Pages.{Pages}
use Rattle.wiki_batch.specs.LuaMeaningWorld.{Modules}
use Rattle.wiki_batch.specs.WikiTextsDeclaredRawRawPage.{RawPage}
use Rattle.wiki_batch.specs.WikiTextsPages.{page_map}
use Rattle.wiki_batch.specs.WikiTextsModules.{AreMeantBy}
use Rattle.wiki_batch.specs.Batch.{pages_of}
use Rattle.wiki_app.specs.Pages.{wiki_for, titles_of, form_of, raw_pages, first_missing, made_pages}

abbrev pub tool : List ℕ
tool = codes "wikiexpand"

abbrev pub usage : List ℕ
usage = codes "usage: wikiexpand expand DIR PAGE [PAGE ...] | expand DIR --all | demo N" ++ 10 ∷ []

abbrev pub cannot_read : List ℕ
cannot_read = read_line tool

-- beside 0: no such page, no command, a fault of the folder
abbrev pub statuses : List ℕ
statuses = 1 ∷ 2 ∷ 3 ∷ []

-- ---- the pages of a wiki

abbrev pub unless_missing : Option Title → Report → Report
unless_missing None report = report
unless_missing (Some title) report = missing_report tool title

-- the pages of titles that are held, in a form
abbrev pub pages_report : Modules → Pages → Settings → Form → List Title → Report
pages_report modules map settings form titles = done_report form settings.stats (made_pages settings.limits (pages_of modules map settings.limits titles))

-- THE PAGES OF THESE TITLES on a wiki, each expanded by itself with all of its limits left, where each invocation gives what these modules mean
-- by it; or the first title that no page has
abbrev pub titles_report : Modules → Pages → Settings → Form → List Title → Report
titles_report modules map settings form titles =
    unless_missing (first_missing map titles) (pages_report modules map settings form titles)

abbrev pub wiki_report : Modules → Settings → Form → List Title → List RawPage → Report
wiki_report modules settings form titles pages = titles_report modules (page_map pages) settings form titles

-- what a command gives on the pages of a folder, or on its fault; the number of jobs changes nothing
abbrev pub report_of : Modules → Command → Result (List FolderPage) (List ℕ) → Report
report_of modules command (Err fault) = source_report tool fault
report_of modules command (Ok pages) = wiki_report modules command.settings (form_of command.work) (titles_of command.work pages) (raw_pages pages)

-- ---- the words

abbrev pub is_command : List (List ℕ) → Bool
is_command words = is_some (command_of words)

abbrev pub expected_for : Modules → Option Command → Option (List StoredFile) → Option Report
expected_for modules None files = Some (usage_report usage)
expected_for modules (Some command) files = option_map (report_of modules command) (wiki_for command.work files)

-- WHAT THE WORDS ARE TO GIVE where the shelf tells its files; words that are no command, and those that ask for pages that the program makes,
-- need none
abbrev pub expected : Modules → List (List ℕ) → Option (List StoredFile) → Option Report
expected modules words files = expected_for modules (command_of words) files

-- ---- the modules: those that the texts of the wiki mean; where there is no wiki, any

abbrev pub AreMeantIn : Result (List FolderPage) (List ℕ) → Modules → Type 0
AreMeantIn (Err fault) modules = Unit {0}
AreMeantIn (Ok pages) modules = AreMeantBy (raw_pages pages) modules

-- what is known of a command's report: it is that by whatever modules are meant; and there are such modules
abbrev pub IsReportOf : Command → Report → Result (List FolderPage) (List ℕ) → Type 0
IsReportOf command report wiki = (modules : Modules) → AreMeantIn wiki modules → report ≡ report_of modules command wiki

abbrev pub AreThere : Result (List FolderPage) (List ℕ) → Type 0
AreThere wiki = (modules : Modules) × AreMeantIn wiki modules

abbrev pub AreMeantFor : Option Command → Option (List StoredFile) → Modules → Type 0
AreMeantFor None files modules = Unit {0}
AreMeantFor (Some command) files modules = IfSome (wiki_for command.work files) (λ wiki. AreMeantIn wiki modules)

abbrev pub AreMeant : List (List ℕ) → Option (List StoredFile) → Modules → Type 0
AreMeant words files modules = AreMeantFor (command_of words) files modules

abbrev pub HasModules : List (List ℕ) → Option (List StoredFile) → Type 0
HasModules words files = (modules : Modules) × AreMeant words files modules

-- THE REPORT THAT IS DUE: what the words are to give, by modules that the texts of the wiki mean
abbrev pub IsDue : List (List ℕ) → Option (List StoredFile) → Report → Type 0
IsDue words files report = (modules : Modules) × AreMeant words files modules × (expected modules words files ≡ Some report)

-- ---- how the work on a command ends

-- the statuses of what a command gives
abbrev pub IsWork : Status → Type 0
IsWork Done = Unit {0}
IsWork NoSuchPage = Unit {0}
IsWork SourceFault = Unit {0}
IsWork _ = ⊥

-- the words are a command that reads a folder
abbrev pub IsOfFolder : Work → Type 0
IsOfFolder (Folder pages) = Unit {0}
IsOfFolder (Made count) = ⊥

abbrev pub ReadsFolder : Option Command → Type 0
ReadsFolder None = ⊥
ReadsFolder (Some command) = IsOfFolder command.work

-- a read failed: only a command that reads a folder reads, and the shelf counts the fault
abbrev pub ReadFailed : List (List ℕ) → Type 0 → Type 0
ReadFailed words shelf_rose = ReadsFolder (command_of words) × shelf_rose

-- what a put that failed cut off is a report of modules that there are, or it is the line of a read that failed
abbrev pub CutMeant : List (List ℕ) → Option (List StoredFile) → Type 0 → Stream → Stream → Type 0
CutMeant words files shelf_rose out err = HasModules words files ⊎ (ReadFailed words shelf_rose × out.same × PutsSome err.old err.new cannot_read)
