-- WHAT A RUN IS TO ANSWER AND TO WRITE.
use Rattle.std.specs.Prelude.{◌≡◌, ℕ, ◌⊎◌, if◌then◌else◌, List, [], ◌∷◌, ◌++◌, Option, Some, None, Result, Ok, Err, codes}
use Rattle.wk_tool.specs.WkBaseDeclaredTitleTitle.{Title}
use Rattle.wk_tool.specs.WkBaseContractsTitleTitlePartialEqTheImpl as titles
use Rattle.wiki_lint.specs.WkShelfDeclaredFolderFolderPage.{FolderPage}
use Rattle.wk_tool.specs.WkShelfFiles.{StoredFile}
use Rattle.wk_tool.specs.WkShelfFolder.{files_of, wiki_of}
use Rattle.lua_print.specs.LuaSyntaxDeclaredFaultFaultAt.{FaultAt}
use Rattle.lua_print.specs.LuaSyntaxDeclaredFaultSyntaxFaultTheVariants.{At}
use Rattle.lua_print.specs.LuaSyntaxFaultTexts.{fault_message}
use Rattle.lua_print.specs.Answers.{IsLayout}
use Rattle.wk_tool.specs.declared.report.Report.{Report}
use Rattle.wk_tool.specs.declared.report.Status.{Status}
use Rattle.wk_tool.specs.declared.report.Status.TheVariants.{Done, NoSuchPage, SourceFault, SyntaxFault, CannotTell}
use Rattle.wk_tool.specs.Report.{read_line, refusal, usage_report, source_report, missing_report}
use Rattle.wiki_lint.specs.Told.{tool, printed}
use Rattle.wiki_lint.specs.Linting.{IsLinted}
use Rattle.wiki_fmt.specs.declared.command.Verb.{Verb}
use Rattle.wiki_fmt.specs.declared.command.Verb.TheVariants.{Print, Lint}
use Rattle.wiki_fmt.specs.Command.{Command, command_of}

abbrev pub usage : List ℕ
usage = codes "usage: wikifmt print DIR MODULE | lint DIR MODULE" ++ 10 ∷ []

abbrev pub cannot_read : List ℕ
cannot_read = read_line tool

-- beside 0: no such page, no command, a fault of the folder, a fault of the module's text, globals that can't be told
abbrev pub statuses : List ℕ
statuses = 1 ∷ 2 ∷ 3 ∷ 8 ∷ 10 ∷ []

-- ---- the text of a module

-- the fault is told, with its place
abbrev pub refused : Title → FaultAt → Report
refused title fault = refusal SyntaxFault (fault_message title fault ++ 10 ∷ [])

abbrev pub IsTextReport : Title → List ℕ → Report → Type 0
IsTextReport title text report =
    ((bytes : List ℕ) × IsLayout (Ok bytes) text × (report ≡ printed bytes)) ⊎ ((fault : FaultAt) × IsLayout (Err (At fault)) text × (report ≡ refused title fault))

-- ---- the pages of a folder

-- the text of the page of a title
abbrev pub text_of : Title → List FolderPage → Option (List ℕ)
text_of title [] = None
text_of title (page ∷ pages) = if titles.ghosts.eq page.title title then Some page.bytes else text_of title pages

abbrev pub IsPageReport : Title → Option (List ℕ) → Report → Type 0
IsPageReport title None report = report ≡ missing_report tool title
IsPageReport title (Some text) report = IsTextReport title text report

-- the globals that a module with this text uses, or its fault
abbrev pub IsGlobalsReport : Title → List FolderPage → List ℕ → Report → Type 0
IsGlobalsReport title pages text report =
    IsLinted title pages text (Ok report) ⊎ ((fault : FaultAt) × IsLinted title pages text (Err (At fault)) × (report ≡ refused title fault))

abbrev pub IsLintReport : Title → List FolderPage → Option (List ℕ) → Report → Type 0
IsLintReport title pages None report = report ≡ missing_report tool title
IsLintReport title pages (Some text) report = IsGlobalsReport title pages text report

-- by what is asked
abbrev pub IsAsked : Verb → Title → List FolderPage → Report → Type 0
IsAsked Print title pages report = IsPageReport title (text_of title pages) report
IsAsked Lint title pages report = IsLintReport title pages (text_of title pages) report

abbrev pub IsWikiReport : Verb → Title → Result (List FolderPage) (List ℕ) → Report → Type 0
IsWikiReport verb title (Err fault) report = report ≡ source_report tool fault
IsWikiReport verb title (Ok pages) report = IsAsked verb title pages report

-- ---- the words

-- THE REPORT THAT IS DUE: where the words are a command, and the shelf doesn't tell its files, none is known to be.
abbrev pub IsDueFor : Option Command → Option (List StoredFile) → Report → Type 0
IsDueFor None files report = report ≡ usage_report usage
IsDueFor (Some command) None report = ⊥
IsDueFor (Some command) (Some files) report = IsWikiReport command.verb command.title (wiki_of (files_of command.folder files)) report

abbrev pub IsDue : List (List ℕ) → Option (List StoredFile) → Report → Type 0
IsDue words files report = IsDueFor (command_of words) files report

-- There is a report that is due, where its files are known.
abbrev pub HasDueFor : Option Command → Option (List StoredFile) → Type 0
HasDueFor None files = Unit {0}
HasDueFor (Some command) None = Unit {0}
HasDueFor (Some command) (Some files) = (report : Report) × IsWikiReport command.verb command.title (wiki_of (files_of command.folder files)) report

abbrev pub HasDue : List (List ℕ) → Option (List StoredFile) → Type 0
HasDue words files = HasDueFor (command_of words) files

-- the statuses of what a command gives
abbrev pub IsAnswer : Status → Type 0
IsAnswer Done = Unit {0}
IsAnswer NoSuchPage = Unit {0}
IsAnswer SourceFault = Unit {0}
IsAnswer SyntaxFault = Unit {0}
IsAnswer CannotTell = Unit {0}
IsAnswer _ = ⊥
