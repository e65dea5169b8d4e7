-- THE REPORT of test modules: the lines of their cases, and how many passed and failed.
use Rattle.std.specs.Prelude.{◌≡◌, ℕ, ◌<◌, Bool, ◌==◌, List, [], ◌∷◌, ◌++◌, filter, flat_map, length, map, slice_index_or, Result, IfOk, codes}
use Rattle.std.specs.List.{starts_with}
use Rattle.std.specs.Fmt.{decimal}
use Rattle.wk_base.specs.declared.NoMemory.{NoMemory}
use Rattle.wk_base.specs.declared.left.Limits.{Limits}
use Rattle.wk_base.specs.declared.title.Title.{Title}
use Rattle.lua_meaning.specs.World.{Modules}
use Rattle.wiki_pages.specs.Pages.{Pages}
use Rattle.page_meaning.specs.declared.outcome.JobOutcome.{JobOutcome}
use Rattle.wiki_batch.specs.PageDriverDeclaredWikiWiki.{Wiki}
use Rattle.wiki_batch.specs.Batch.{AreOf}
use Rattle.wiki_tests.specs.declared.tested.TestModule.{TestModule}
use Rattle.wiki_tests.specs.declared.subjects.Subject.{Subject}
use Rattle.wiki_tests.specs.declared.reporting.TestReport.{TestReport}
use Rattle.wiki_tests.specs.Lines.{case_outcome, line_of, lines_of}

abbrev pub begins_with : List ℕ → List ℕ → Bool
begins_with begin line = starts_with ◌==◌ line begin

-- how many lines begin so
abbrev pub count_of : List ℕ → List (List ℕ) → ℕ
count_of begin lines = length (filter (begins_with begin) lines)

abbrev pub with_break : List ℕ → List ℕ
with_break line = line ++ 10 ∷ []

abbrev pub counts : ℕ → ℕ → List ℕ
counts passed failed = codes "passed " ++ decimal passed ++ codes " failed " ++ decimal failed ++ 10 ∷ []

-- the lines, each with a newline, and the numbers of those that begin with `ok` and with `not ok`
abbrev pub report_of_lines : List (List ℕ) → TestReport
report_of_lines lines =
    let passed = count_of (codes "ok") lines in
    let failed = count_of (codes "not ok") lines in
    record { text = flat_map with_break lines ++ counts passed failed; passed = passed; failed = failed }

-- THE REPORT of what is tested, on a wiki of these pages and modules; each case with all of the limits
abbrev pub report_of : Modules → Pages → Limits → List TestModule → TestReport
report_of modules pages limits tests = report_of_lines (lines_of modules pages limits tests)

-- ---- of a wiki, whatever modules the code that is held is of

abbrev pub IsOutcome : Wiki → Limits → Title → List ℕ → JobOutcome → Type 0
IsOutcome wiki limits title name outcome = (modules : Modules) → AreOf wiki modules → outcome ≡ case_outcome modules wiki.pages limits title name

abbrev pub IsLine : Wiki → Limits → Subject → List ℕ → Type 0
IsLine wiki limits subject line = (modules : Modules) → AreOf wiki modules → line ≡ line_of modules wiki.pages limits subject

-- the line about the thing with the number i
abbrev pub IsLineAt : Wiki → Limits → List Subject → ℕ → List ℕ → Type 0
IsLineAt wiki limits about i line = (d : Subject) → IsLine wiki limits (slice_index_or about i d) line

-- each part that was made is the line about the thing of its number
abbrev pub AreLineParts : Wiki → Limits → List Subject → List (Result (List ℕ) NoMemory) → Type 0
AreLineParts wiki limits about parts =
    (length parts ≡ length about) × ((j : ℕ) (e : Result (List ℕ) NoMemory) → j < length about → IfOk (slice_index_or parts j e) (λ line. IsLineAt wiki limits about j line))

abbrev pub AreLines : Wiki → Limits → List Subject → List (List ℕ) → Type 0
AreLines wiki limits about lines = (modules : Modules) → AreOf wiki modules → lines ≡ map (line_of modules wiki.pages limits) about

abbrev pub IsReport : Wiki → Limits → List TestModule → TestReport → Type 0
IsReport wiki limits tests report = (modules : Modules) → AreOf wiki modules → report ≡ report_of modules wiki.pages limits tests
