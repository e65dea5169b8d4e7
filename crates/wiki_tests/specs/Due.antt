-- WHAT A RUN IS TO ANSWER AND TO WRITE.
use Rattle.std.specs.Prelude.{◌≡◌, ℕ, ◌==◌, if◌then◌else◌, List, [], ◌∷◌, ◌++◌, map, Option, Some, None, Result, Ok, Err, codes}
use Rattle.wk_base.specs.declared.left.Limits.{Limits}
use Rattle.wk_shelf.specs.declared.folder.FolderPage.{FolderPage}
use Rattle.wk_shelf.specs.Files.{StoredFile}
use Rattle.wk_shelf.specs.Folder.{files_of, wiki_of}
use Rattle.wk_tool.specs.declared.report.Report.{Report}
use Rattle.wk_tool.specs.declared.report.Status.{Status}
use Rattle.wk_tool.specs.declared.report.Status.TheVariants.{Done, SourceFault, CaseFailed}
use Rattle.wk_tool.specs.Report.{read_line, usage_report, source_report}
use Rattle.lua_meaning.specs.World.{Modules}
use Rattle.wiki_batch.specs.WikiTextsDeclaredRawRawPage.{RawPage}
use Rattle.wiki_batch.specs.WikiTextsPages.{page_map}
use Rattle.wiki_batch.specs.WikiTextsModules.{AreMeantBy}
use Rattle.wiki_tests.specs.declared.reporting.TestReport.{TestReport}
use Rattle.wiki_tests.specs.Tested.{test_titles, all_tested}
use Rattle.wiki_tests.specs.Report.{report_of}
use Rattle.wiki_tests.specs.Command.{Command, command_of}

abbrev pub tool : List ℕ
tool = codes "wikitest"

abbrev pub usage : List ℕ
usage = codes "usage: wikitest DIR" ++ 10 ∷ []

abbrev pub cannot_read : List ℕ
cannot_read = read_line tool

-- beside 0: no command, a fault of the folder, a case that failed
abbrev pub statuses : List ℕ
statuses = 2 ∷ 3 ∷ 9 ∷ []

-- ---- the pages of a folder

abbrev pub raw_page : FolderPage → RawPage
raw_page p = record { title = p.title; bytes = p.bytes }

abbrev pub raw_pages : List FolderPage → List RawPage
raw_pages pages = map raw_page pages

abbrev pub status_of : ℕ → Status
status_of failed = if failed == 0 then Done else CaseFailed

-- a report is printed
abbrev pub printed : TestReport → Report
printed report = record { status = status_of report.failed; out = report.text; err = [] }

-- THE REPORT of all test modules of these pages, where their texts mean these modules
abbrev pub folder_report : Modules → Limits → List RawPage → TestReport
folder_report modules limits pages = report_of modules (page_map pages) limits (all_tested modules (test_titles pages))

abbrev pub IsPagesReport : Limits → List RawPage → Report → Type 0
IsPagesReport limits pages report = (modules : Modules) × AreMeantBy pages modules × (report ≡ printed (folder_report modules limits pages))

-- where the folder's files make no wiki, its first fault is told
abbrev pub IsWikiReport : Limits → Result (List FolderPage) (List ℕ) → Report → Type 0
IsWikiReport limits (Err fault) report = report ≡ source_report tool fault
IsWikiReport limits (Ok pages) report = IsPagesReport limits (raw_pages pages) report

-- the report that is due, and there is no other
abbrev pub IsFolderReport : Limits → List RawPage → Report → Type 0
IsFolderReport limits pages report = IsPagesReport limits pages report × ((modules : Modules) → AreMeantBy pages modules → report ≡ printed (folder_report modules limits pages))

abbrev pub IsOnlyReport : Limits → Result (List FolderPage) (List ℕ) → Report → Type 0
IsOnlyReport limits (Err fault) report = report ≡ source_report tool fault
IsOnlyReport limits (Ok pages) report = IsFolderReport limits (raw_pages pages) report

-- ---- the words

-- THE REPORT THAT IS DUE: where the words are a command, and the shelf doesn't tell its files, none is known to be. The number of jobs
-- changes nothing.
abbrev pub IsDueFor : Option Command → Option (List StoredFile) → Report → Type 0
IsDueFor None files report = report ≡ usage_report usage
IsDueFor (Some command) None report = ⊥
IsDueFor (Some command) (Some files) report = IsWikiReport command.limits (wiki_of (files_of command.folder files)) report

abbrev pub IsDue : List (List ℕ) → Option (List StoredFile) → Report → Type 0
IsDue words files report = IsDueFor (command_of words) files report

-- There is a report that is due, where the files are known.
abbrev pub HasDueFor : Option Command → Option (List StoredFile) → Type 0
HasDueFor None files = Unit {0}
HasDueFor (Some command) None = Unit {0}
HasDueFor (Some command) (Some files) = (report : Report) × IsWikiReport command.limits (wiki_of (files_of command.folder files)) report

abbrev pub HasDue : List (List ℕ) → Option (List StoredFile) → Type 0
HasDue words files = HasDueFor (command_of words) files

-- the statuses of what a command gives
abbrev pub IsAnswer : Status → Type 0
IsAnswer Done = Unit {0}
IsAnswer SourceFault = Unit {0}
IsAnswer CaseFailed = Unit {0}
IsAnswer _ = ⊥
