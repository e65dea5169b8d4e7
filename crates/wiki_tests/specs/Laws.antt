-- LAWS of reports.
use Rattle.std.specs.Prelude.{◌≡◌, ℕ, ◌+◌, ◌==◌, List, ◌++◌, length, codes}
use Rattle.std.specs.List.{list_any}
use Rattle.wk_base.specs.declared.left.Limits.{Limits}
use Rattle.page_run.specs.declared.which.Which.{Which}
use Rattle.wk_tool.specs.Report.{status_code}
use Rattle.lua_meaning.specs.World.{Modules}
use Rattle.wiki_pages.specs.Pages.{Pages}
use Rattle.page_meaning.specs.Told.{failure_text, spent_text}
use Rattle.wiki_tests.specs.declared.tested.TestModule.{TestModule}
use Rattle.wiki_tests.specs.Lines.{spent_message, lines_of}
use Rattle.wiki_tests.specs.Report.{begins_with, report_of_lines}
use Rattle.wiki_tests.specs.Due.{printed}

-- no line hangs on another module's, nor on what was run before
abbrev pub ModulesStandAlone : Type 0
ModulesStandAlone = (modules : Modules) (pages : Pages) (limits : Limits) (tests more : List TestModule) → lines_of modules pages limits (tests ++ more) ≡ lines_of modules pages limits tests ++ lines_of modules pages limits more

-- the status is 9 exactly where a line begins with `not ok`
abbrev pub FailedIsTold : Type 0
FailedIsTold = (lines : List (List ℕ)) → (status_code (printed (report_of_lines lines)).status == 9) ≡ list_any (begins_with (codes "not ok")) lines

-- each line is counted
abbrev pub LinesAreCounted : Type 0
LinesAreCounted = (modules : Modules) (pages : Pages) (limits : Limits) (tests : List TestModule) →
    let lines = lines_of modules pages limits tests in
    (report_of_lines lines).passed + (report_of_lines lines).failed ≡ length lines

-- what is told of an allowance that is spent is what stands between the tags on a page
abbrev pub SpentAsOnPages : Type 0
SpentAsOnPages = (which : Which) → spent_text which ≡ failure_text (spent_message which)
