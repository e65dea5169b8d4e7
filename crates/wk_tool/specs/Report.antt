-- What a run is to answer: a status, and bytes for the two streams.
use Rattle.std.specs.Prelude.{ℕ, List, [], ◌∷◌, ◌++◌, codes}
use Rattle.wk_shelf.specs.WkBaseDeclaredTitleTitle.{Title}
use Rattle.wk_shelf.specs.WkBaseTitles.{title_text}
use Rattle.wk_tool.specs.declared.report.Status.{Status}
use Rattle.wk_tool.specs.declared.report.Status.TheVariants.{Done, NoSuchPage, Usage, SourceFault, ReadFault, WriteFault, NoMemory, SyntaxFault, CaseFailed, CannotTell}
use Rattle.wk_tool.specs.declared.report.Report.{Report}

-- the exit status
abbrev pub status_code : Status → ℕ
status_code Done = 0
status_code NoSuchPage = 1
status_code Usage = 2
status_code SourceFault = 3
status_code ReadFault = 4
status_code WriteFault = 5
status_code NoMemory = 6
status_code SyntaxFault = 8
status_code CaseFailed = 9
status_code CannotTell = 10

-- a line on standard error, with the tool's name in front
abbrev pub line : List ℕ → List ℕ → List ℕ
line tool text = tool ++ codes ": " ++ text ++ 10 ∷ []

-- a folder, or a file in it, can't be read
abbrev pub read_line : List ℕ → List ℕ
read_line tool = line tool (codes "cannot read")

-- ---- the reports that print nothing

abbrev pub refusal : Status → List ℕ → Report
refusal status err = record { status = status; out = []; err = err }

-- the words are no command
abbrev pub usage_report : List ℕ → Report
usage_report usage = refusal Usage usage

-- a folder's files make no wiki
abbrev pub source_report : List ℕ → List ℕ → Report
source_report tool fault = refusal SourceFault (line tool (codes "source fault: " ++ fault))

-- a page that is asked for isn't held
abbrev pub missing_report : List ℕ → Title → Report
missing_report tool title = refusal NoSuchPage (line tool (codes "no such page: " ++ title_text title))
