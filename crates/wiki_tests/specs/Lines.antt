-- THE LINES of a report: one for each case, by itself.
use Rattle.std.specs.Prelude.{ℕ, ◌==◌, if◌then◌else◌, List, [], ◌∷◌, ◌++◌, map, flat_map, Result, Ok, Err, codes}
use Rattle.wk_base.specs.declared.left.Limits.{Limits}
use Rattle.wk_base.specs.declared.title.Title.{Title}
use Rattle.wk_base.specs.Titles.{title_text}
use Rattle.page_run.specs.declared.which.Which.{Which}
use Rattle.page_run.specs.declared.which.Which.TheVariants.{Steps, Calls}
use Rattle.mw_frame.specs.declared.scene.Job.{Job}
use Rattle.expand_meaning.specs.Outcome.{page_scene}
use Rattle.lua_syntax.specs.declared.fault.FaultAt.{FaultAt}
use Rattle.lua_syntax.specs.FaultTexts.{fault_message}
use Rattle.lua_meaning.specs.Start.{Invoke, escape_byte}
use Rattle.lua_meaning.specs.World.{Modules}
use Rattle.wiki_pages.specs.Pages.{Pages}
use Rattle.page_meaning.specs.declared.outcome.JobOutcome.{JobOutcome}
use Rattle.page_meaning.specs.declared.outcome.JobOutcome.TheVariants.{Done, Failed, Spent}
use Rattle.page_meaning.specs.Outcomes.{job_outcome}
use Rattle.page_meaning.specs.Drive.{drive}
use Rattle.wiki_batch.specs.PageDriverGround.{wiki_in}
use Rattle.wiki_batch.specs.PageDriverPage.{full_of}
use Rattle.wiki_tests.specs.declared.tested.TestModule.{TestModule}
use Rattle.wiki_tests.specs.declared.subjects.Subject.{Subject}
use Rattle.wiki_tests.specs.declared.subjects.Subject.TheVariants.{Case, Fault}

-- ---- what a line says

-- a line break is a space
abbrev pub in_line : ℕ → ℕ
in_line c = if c == 10 then 32 else if c == 13 then 32 else c

abbrev pub one_line : List ℕ → List ℕ
one_line text = map in_line text

abbrev pub ok_line : List ℕ → List ℕ
ok_line what = one_line (codes "ok " ++ what)

abbrev pub not_ok_line : List ℕ → List ℕ → List ℕ
not_ok_line what message = one_line (codes "not ok " ++ what ++ codes ": " ++ message)

-- what stands between the tags of the text on a page (`spent_text` of `page_meaning`)
abbrev pub spent_message : Which → List ℕ
spent_message Steps = codes "Script error: The allowance of steps is spent."
spent_message Calls = codes "Script error: The allowance of nested calls is spent."

-- a case that gave a text is passed, whatever the text
abbrev pub outcome_line : List ℕ → JobOutcome → List ℕ
outcome_line what (Done text) = ok_line what
outcome_line what (Failed message) = not_ok_line what message
outcome_line what (Spent which) = not_ok_line what (spent_message which)

-- ---- a case

-- A case is run as `#invoke` runs a function (Extension:Scribunto): with a frame without arguments, whose title is that of the module and
-- whose parent is such a frame too; and the page is the module's own.
abbrev pub job_of : Title → List ℕ → Job
job_of title name = record { «module» = title; function = name; scene = page_scene title; parent = page_scene title }

-- how it ends, as the first run on its page, with all of the limits
abbrev pub case_outcome : Modules → Pages → Limits → Title → List ℕ → JobOutcome
case_outcome modules pages limits title name = job_outcome (drive (wiki_in pages modules) title (Invoke (job_of title name)) (full_of limits))

abbrev pub case_line : Modules → Pages → Limits → Title → List ℕ → List ℕ
case_line modules pages limits title name = outcome_line (title_text title ++ codes " " ++ name) (case_outcome modules pages limits title name)

-- ---- a text that is no Lua

-- what an invocation of the module tells, without marks of HTML
abbrev pub fault_shown : Title → FaultAt → List ℕ
fault_shown title fault = flat_map escape_byte (codes "Lua error: " ++ fault_message title fault)

abbrev pub fault_line : Title → FaultAt → List ℕ
fault_line title fault = not_ok_line (title_text title) (fault_shown title fault)

-- ---- the lines

-- THE LINE of a case hangs on the pages, the modules and the limits, on its module and its name, and on no other case.
abbrev pub line_of : Modules → Pages → Limits → Subject → List ℕ
line_of modules pages limits (Case title name) = case_line modules pages limits title name
line_of modules pages limits (Fault title fault) = fault_line title fault

-- the cases of a module, or the fault of its text
abbrev pub subjects_of : Title → Result (List (List ℕ)) FaultAt → List Subject
subjects_of title (Ok names) = map (λ name. Case title name) names
subjects_of title (Err fault) = Fault title fault ∷ []

abbrev pub subjects : List TestModule → List Subject
subjects tests = flat_map (λ t. subjects_of t.title t.cases) tests

abbrev pub lines_of : Modules → Pages → Limits → List TestModule → List (List ℕ)
lines_of modules pages limits tests = map (line_of modules pages limits) (subjects tests)
