-- Laws of lines and of their counts.
use Rattle.std.proofs.Common.{◌≡◌, ◌∙◌, ℕ, suc, ◌+◌, ◌==◌, Bool, true, false, ◌||◌, ◌⊎◌, inl, inr, cond, List, [], ◌∷◌, ◌++◌, map, length, refl, sym, ap, append_assoc, arith, codes}
use Rattle.std.specs.Prelude.{filter, if◌then◌else◌}
use Rattle.std.proofs.Math.Dec.{eqb-suc-zero}
use Rattle.std.specs.List.{list_any}
use Rattle.std.proofs.lemmas.List.{map-append}
use Rattle.wk_base.specs.declared.left.Limits.{Limits}
use Rattle.wk_base.specs.Titles.{title_text}
use Rattle.page_run.specs.declared.which.Which.TheVariants.{Steps, Calls}
use Rattle.wk_tool.specs.declared.report.Status.TheVariants.{Done as Printed, CaseFailed}
use Rattle.wk_tool.specs.Report.{status_code}
use Rattle.lua_meaning.specs.World.{Modules}
use Rattle.wiki_pages.specs.Pages.{Pages}
use Rattle.expand_meaning.specs.Texts.{error_text, escape_byte}
use Rattle.page_meaning.specs.declared.outcome.JobOutcome.{JobOutcome}
use Rattle.page_meaning.specs.declared.outcome.JobOutcome.TheVariants.{Done, Failed, Spent}
use Rattle.wiki_tests.specs.declared.tested.TestModule.{TestModule}
use Rattle.wiki_tests.specs.declared.subjects.Subject.{Subject}
use Rattle.wiki_tests.specs.declared.subjects.Subject.TheVariants.{Case, Fault}
use Rattle.wiki_tests.specs.Lines.{case_outcome, outcome_line, line_of, subjects_of, subjects}
use Rattle.wiki_tests.specs.Report.{begins_with, count_of}
use Rattle.wiki_tests.specs.Due.{status_of}
use Rattle.wiki_tests.specs.Laws.{ModulesStandAlone, FailedIsTold, LinesAreCounted, SpentAsOnPages}

-- ---- modules by themselves

both_subjects : (tests more : List TestModule) → subjects (tests ++ more) ≡ subjects tests ++ subjects more
both_subjects [] more = refl
both_subjects (t ∷ tests) more =
    ap (λ (xs : List Subject). subjects_of t.title t.cases ++ xs) (both_subjects tests more)
    ∙ sym (append_assoc (subjects_of t.title t.cases) (subjects tests) (subjects more))

pub modules_stand_alone : ModulesStandAlone
modules_stand_alone modules pages limits tests more =
    ap (map (line_of modules pages limits)) (both_subjects tests more)
    ∙ map-append (line_of modules pages limits) (subjects tests) (subjects more)

-- ---- counts

-- whether the status tells of these lines that failed
abbrev told : List (List ℕ) → Bool
told failed = status_code (status_of (length failed)) == 9

pub failed_is_told : FailedIsTold
failed_is_told [] = refl
failed_is_told (line ∷ lines) = go (begins_with (codes "not ok") line) (failed_is_told lines)
  where
    go : (b : Bool) → told (filter (begins_with (codes "not ok")) lines) ≡ list_any (begins_with (codes "not ok")) lines → told (cond b (line ∷ filter (begins_with (codes "not ok")) lines) (filter (begins_with (codes "not ok")) lines)) ≡ (b || list_any (begins_with (codes "not ok")) lines)
    go true later = ap (λ (b : Bool). status_code (if b then Printed else CaseFailed) == 9) (eqb-suc-zero (length (filter (begins_with (codes "not ok")) lines)))
    go false later = later

-- a line more, that begins so or not
begins_more : (begin line : List ℕ) (lines : List (List ℕ)) → begins_with begin line ≡ true → count_of begin (line ∷ lines) ≡ suc (count_of begin lines)
begins_more begin line lines h = ap (λ (b : Bool). length (cond b (line ∷ filter (begins_with begin) lines) (filter (begins_with begin) lines))) h

begins_no_more : (begin line : List ℕ) (lines : List (List ℕ)) → begins_with begin line ≡ false → count_of begin (line ∷ lines) ≡ count_of begin lines
begins_no_more begin line lines h = ap (λ (b : Bool). length (cond b (line ∷ filter (begins_with begin) lines) (filter (begins_with begin) lines))) h

one_more_of : (x y a b n : ℕ) → a ≡ suc x → b ≡ y → x + y ≡ n → a + b ≡ suc n
one_more_of x y a b n p q h = omega (arith, p, q, h)

one_more_behind : (x y a b n : ℕ) → a ≡ x → b ≡ suc y → x + y ≡ n → a + b ≡ suc n
one_more_behind x y a b n p q h = omega (arith, p, q, h)

abbrev Counted : List ℕ → Type 0
Counted line = ((begins_with (codes "ok") line ≡ true) × (begins_with (codes "not ok") line ≡ false)) ⊎ ((begins_with (codes "ok") line ≡ false) × (begins_with (codes "not ok") line ≡ true))

outcome_counted : (what : List ℕ) (outcome : JobOutcome) → Counted (outcome_line what outcome)
outcome_counted what (Done text) = inl (refl, refl)
outcome_counted what (Failed message) = inr (refl, refl)
outcome_counted what (Spent which) = inr (refl, refl)

line_counted : (modules : Modules) (pages : Pages) (limits : Limits) (subject : Subject) → Counted (line_of modules pages limits subject)
line_counted modules pages limits (Case title name) = outcome_counted (title_text title ++ codes " " ++ name) (case_outcome modules pages limits title name)
line_counted modules pages limits (Fault title fault) = inr (refl, refl)

one_more : (line : List ℕ) (lines : List (List ℕ)) → Counted line → count_of (codes "ok") lines + count_of (codes "not ok") lines ≡ length lines → count_of (codes "ok") (line ∷ lines) + count_of (codes "not ok") (line ∷ lines) ≡ suc (length lines)
one_more line lines (inl (p, n)) h =
    one_more_of (count_of (codes "ok") lines) (count_of (codes "not ok") lines) (count_of (codes "ok") (line ∷ lines)) (count_of (codes "not ok") (line ∷ lines)) (length lines)
    (begins_more (codes "ok") line lines p) (begins_no_more (codes "not ok") line lines n) h
one_more line lines (inr (p, n)) h =
    one_more_behind (count_of (codes "ok") lines) (count_of (codes "not ok") lines) (count_of (codes "ok") (line ∷ lines)) (count_of (codes "not ok") (line ∷ lines)) (length lines)
    (begins_no_more (codes "ok") line lines p) (begins_more (codes "not ok") line lines n) h

all_counted : (modules : Modules) (pages : Pages) (limits : Limits) (about : List Subject) → let lines = map (line_of modules pages limits) about in count_of (codes "ok") lines + count_of (codes "not ok") lines ≡ length lines
all_counted modules pages limits [] = refl
all_counted modules pages limits (subject ∷ about) = one_more (line_of modules pages limits subject) (map (line_of modules pages limits) about) (line_counted modules pages limits subject) (all_counted modules pages limits about)

pub lines_are_counted : LinesAreCounted
lines_are_counted modules pages limits tests = all_counted modules pages limits (subjects tests)

-- ---- allowances

pub spent_as_on_pages : SpentAsOnPages
unfolding error_text escape_byte
spent_as_on_pages Steps = refl
spent_as_on_pages Calls = refl
