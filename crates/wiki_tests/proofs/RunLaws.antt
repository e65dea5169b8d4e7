-- The lines of all cases, by their numbers, and what is made of them.
use Rattle.std.proofs.Common.{◌≡◌, ◌∙◌, ℕ, zero, suc, ◌<◌, List, [], ◌∷◌, ◌++◌, map, length, refl, sym, ap, subst, slice_index_or, arith, codes, Result, Ok, Err, IfOk}
use Rattle.wk_base.specs.declared.NoMemory.{NoMemory}
use Rattle.wk_base.specs.declared.left.Limits.{Limits}
use Rattle.wk_base.specs.declared.title.Title.{Title}
use Rattle.wk_base.specs.Titles.{title_text}
use Rattle.mw_frame.specs.declared.scene.Job.{Job}
use Rattle.mw_frame.specs.Scenes.{HaveNames}
use Rattle.lua_syntax.specs.declared.fault.FaultAt.{FaultAt}
use Rattle.lua_meaning.specs.World.{Modules}
use Rattle.lua_meaning.specs.Start.{Invoke}
use Rattle.wiki_pages.specs.Pages.{Pages}
use Rattle.page_meaning.specs.declared.outcome.JobOutcome.{JobOutcome}
use Rattle.page_meaning.specs.Outcomes.{job_outcome}
use Rattle.page_meaning.specs.Drive.{drive}
use Rattle.wiki_batch.specs.PageDriverDeclaredJobJobEnd.{JobEnd}
use Rattle.wiki_batch.specs.PageDriverDeclaredWikiWiki.{Wiki}
use Rattle.wiki_batch.specs.PageDriverGround.{wiki_in}
use Rattle.wiki_batch.specs.PageDriverJob.{IsJob}
use Rattle.wiki_batch.specs.PageDriverPage.{full_of}
use Rattle.wiki_batch.specs.WikiTextsDeclaredRawRawPage.{RawPage}
use Rattle.wiki_batch.specs.WikiTextsPages.{page_map}
use Rattle.wiki_batch.specs.WikiTextsModules.{AreMeantBy}
use Rattle.wiki_batch.specs.Batch.{AreOf}
use Rattle.wiki_tests.specs.declared.tested.TestModule.{TestModule}
use Rattle.wiki_tests.specs.declared.subjects.Subject.{Subject}
use Rattle.wiki_tests.specs.declared.subjects.Subject.TheVariants.{Case, Fault}
use Rattle.wiki_tests.specs.declared.reporting.TestReport.{TestReport}
use Rattle.wiki_tests.specs.Lines.{job_of, case_outcome, outcome_line, fault_line, line_of, subjects}
use Rattle.wiki_tests.specs.Report.{report_of_lines, report_of, IsOutcome, IsLine, IsLineAt, AreLines, IsReport}
use Rattle.wiki_tests.specs.Texts.{AreTestModules}
use Rattle.wiki_tests.specs.Due.{folder_report}

-- ---- a line

pub no_arguments : (title : Title) (name : List ℕ) (job : Job) → job ≡ job_of title name → HaveNames job
no_arguments title name job is = subst HaveNames (sym is) (tt, tt)

pub outcome_made : (wiki : Wiki) (limits : Limits) (title : Title) (name : List ℕ) (job : Job) (k k' : ℕ) (e : JobEnd) (modules : Modules) → job ≡ job_of title name → IsJob (wiki_in wiki.pages modules) title job (full_of limits) k k' e → e.outcome ≡ case_outcome modules wiki.pages limits title name
outcome_made wiki limits title name job k k' e modules is h = h.outcome_is ∙ ap (λ (j : Job). job_outcome (drive (wiki_in wiki.pages modules) title (Invoke j) (full_of limits))) is

pub case_made : (r : Result (List ℕ) NoMemory) (wiki : Wiki) (limits : Limits) (title : Title) (name what : List ℕ) (outcome : JobOutcome) → what ≡ title_text title ++ codes " " ++ name → IsOutcome wiki limits title name outcome → IfOk r (λ line. line ≡ outcome_line what outcome) → IfOk r (λ line. IsLine wiki limits (Case title name) line)
case_made (Err m) wiki limits title name what outcome named ends is = tt
case_made (Ok line) wiki limits title name what outcome named ends is = λ modules are.
    is ∙ ap (λ (w : List ℕ). outcome_line w outcome) named ∙ ap (λ (o : JobOutcome). outcome_line (title_text title ++ codes " " ++ name) o) (ends modules are)

pub fault_made : (r : Result (List ℕ) NoMemory) (wiki : Wiki) (limits : Limits) (title : Title) (fault : FaultAt) → IfOk r (λ line. line ≡ fault_line title fault) → IfOk r (λ line. IsLine wiki limits (Fault title fault) line)
fault_made (Err m) wiki limits title fault is = tt
fault_made (Ok line) wiki limits title fault is = λ modules are. is

-- ---- the lines

-- the thing with a number is the same, whatever is named for one that isn't there
pub at_number : (r : Result (List ℕ) NoMemory) (wiki : Wiki) (limits : Limits) (about : List Subject) (i : ℕ) (s : Subject) → ((d : Subject) → s ≡ slice_index_or about i d) → IfOk r (λ line. IsLine wiki limits s line) → IfOk r (λ line. IsLineAt wiki limits about i line)
at_number (Err m) wiki limits about i s same is = tt
at_number (Ok line) wiki limits about i s same is = λ d. subst (λ (s : Subject). IsLine wiki limits s line) (same d) is

abbrev Part : Type 0
Part = Result (List ℕ) NoMemory

abbrev pub AreParts : Wiki → Limits → List Subject → List Part → Type 0
AreParts wiki limits about parts = (length parts ≡ length about) × ((j : ℕ) (e : Part) → j < length about → IfOk (slice_index_or parts j e) (λ line. IsLineAt wiki limits about j line))

all_lines : (wiki : Wiki) (limits : Limits) (about : List Subject) (lines : List (List ℕ)) → AreParts wiki limits about (map Ok lines) → AreLines wiki limits about lines
all_lines wiki limits [] [] parts modules are = refl
all_lines wiki limits [] (line ∷ lines) parts modules are = absurd (omega (arith, parts.0))
all_lines wiki limits (s ∷ about) [] parts modules are = absurd (omega (arith, parts.0))
all_lines wiki limits (s ∷ about) (line ∷ lines) parts modules are =
    let rest : AreParts wiki limits about (map Ok lines) = (omega (arith, parts.0), λ j e less. parts.1 (suc j) e (omega (arith, less))) in
    ap (λ (l : List ℕ). l ∷ lines) (parts.1 zero (Ok line) (omega arith) s modules are)
    ∙ ap (λ (ls : List (List ℕ)). line_of modules wiki.pages limits s ∷ ls) (all_lines wiki limits about lines rest modules are)

pub of_parts : (wiki : Wiki) (limits : Limits) (about : List Subject) (parts : List Part) (r : Result (List (List ℕ)) NoMemory) → AreParts wiki limits about parts → IfOk r (λ lines. parts ≡ map Ok lines) → IfOk r (λ lines. AreLines wiki limits about lines)
of_parts wiki limits about parts (Err m) each is = tt
of_parts wiki limits about parts (Ok lines) each is = all_lines wiki limits about lines (subst (λ (ps : List Part). AreParts wiki limits about ps) is each)

-- ---- the report

pub report_made : (r : Result TestReport NoMemory) (wiki : Wiki) (limits : Limits) (tests : List TestModule) (about : List Subject) (lines : List (List ℕ)) → about ≡ subjects tests → AreLines wiki limits about lines → IfOk r (λ report. report ≡ report_of_lines lines) → IfOk r (λ report. IsReport wiki limits tests report)
report_made (Err m) wiki limits tests about lines are_about are_lines is = tt
report_made (Ok report) wiki limits tests about lines are_about are_lines is = λ modules are.
    is ∙ ap report_of_lines (are_lines modules are ∙ ap (map (line_of modules wiki.pages limits)) are_about)

pub folder_made : (r : Result TestReport NoMemory) (wiki : Wiki) (limits : Limits) (pages : List RawPage) (tests : List TestModule) → AreTestModules pages tests → wiki.pages ≡ page_map pages → ((modules : Modules) → AreMeantBy pages modules → AreOf wiki modules) → IfOk r (λ report. IsReport wiki limits tests report) → IfOk r (λ report. (modules : Modules) → AreMeantBy pages modules → report ≡ folder_report modules limits pages)
folder_made (Err m) wiki limits pages tests are_tests is_map code made = tt
folder_made (Ok report) wiki limits pages tests are_tests is_map code made = λ modules mean.
    made modules (code modules mean)
    ∙ ap (λ (m : Pages). report_of modules m limits tests) is_map
    ∙ ap (λ (ts : List TestModule). report_of modules (page_map pages) limits ts) (are_tests modules mean)

-- what holds, whatever the report is
pub whatever : {P : Type 0} (r : Result TestReport NoMemory) → P → IfOk r (λ report. P)
whatever (Err m) h = tt
whatever (Ok report) h = h
