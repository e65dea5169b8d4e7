-- WORKED TEST MODULES, and their reports.
use Rattle.std.specs.Prelude.{◌≡◌, ℕ, pos, false, List, [], ◌∷◌, ◌++◌, Some, Err, codes}
use Rattle.wk_base.specs.declared.left.Limits.{Limits}
use Rattle.wk_base.specs.declared.title.Title.{Title}
use Rattle.wk_base.specs.declared.title.Namespace.{Namespace}
use Rattle.wk_base.specs.declared.title.Namespace.TheVariants.{Main, Module as ModuleSpace, Template}
use Rattle.lua_syntax.specs.declared.BinaryOp.TheVariants.{Add, Eq}
use Rattle.lua_syntax.specs.Tree.{Exp, Block, NumberE, TextE, FunctionE, NameE, CallE, TableE, BinaryE, Pair, Lambda, AssignS, CallS, ReturnS}
use Rattle.lua_syntax.specs.View.{exps_of, fields_of, stats_of}
use Rattle.lua_meaning.specs.World.{Modules}
use Rattle.lua_meaning.specs.Trial.{module_text, modules_of}
use Rattle.wiki_batch.specs.WikiTextsDeclaredRawRawPage.{RawPage}
use Rattle.wiki_tests.specs.Tested.{test_titles, all_tested}
use Rattle.wiki_tests.specs.Report.{counts, report_of}

abbrev pub title : Namespace → List ℕ → Title
title ns name = record { ns = ns; name = name }

-- the title Module:T/testcases
abbrev pub tests : Title
tests = title ModuleSpace (codes "T/testcases")

abbrev pub limits : ℕ → Limits
limits steps = record { steps = steps; nodes = 50; bytes = 1000; calls = 20; depth = 20; templates = 10 }

-- the text of the report of this module alone, each case with so many steps
abbrev pub told : Modules → ℕ → List ℕ
told modules steps = (report_of modules [] (limits steps) (all_tested modules (tests ∷ []))).text

-- ---- n=0 return {testA=function() n=n+1 assert(n==1) end, testB=function() n=n+1 assert(n==1) end, testBad=function() error('no') end}

abbrev pub n : Exp
n = NameE 1 (codes "n")

abbrev pub one : Exp
one = NumberE 1 (pos 1)

abbrev pub call : List ℕ → Exp → Exp
call name arg = CallE 1 (NameE 1 name) (exps_of (arg ∷ []))

abbrev pub counts_to_one : Exp
counts_to_one = FunctionE 1 (Lambda [] false (stats_of (
    AssignS 1 (exps_of (n ∷ [])) (exps_of (BinaryE 1 Add n one ∷ []))
    ∷ CallS 1 (call (codes "assert") (BinaryE 1 Eq n one)) ∷ [])))

abbrev pub fails : Exp
fails = FunctionE 1 (Lambda [] false (stats_of (CallS 1 (call (codes "error") (TextE 1 (codes "no"))) ∷ [])))

abbrev pub text : Block
text = stats_of (
    AssignS 1 (exps_of (n ∷ [])) (exps_of (NumberE 1 (pos 0) ∷ []))
    ∷ ReturnS 1 (exps_of (TableE 1 (fields_of (
    Pair (TextE 1 (codes "testA")) counts_to_one
    ∷ Pair (TextE 1 (codes "testB")) counts_to_one
    ∷ Pair (TextE 1 (codes "testBad")) fails ∷ []
    )) ∷ []))
    ∷ [])

-- Each case begins afresh: both find 0 in the global variable. A case that fails fails alone.
abbrev pub CasesAreAlone : Type 0
CasesAreAlone = told (modules_of (module_text (codes "T/testcases") 120 text ∷ [])) 5000
    ≡ codes "ok Module:T/testcases testA" ++ 10 ∷ codes "ok Module:T/testcases testB" ++ 10 ∷ codes "not ok Module:T/testcases testBad: Lua error: Module:T/testcases:1: no" ++ 10 ∷ counts 2 1

-- Each case has all of the steps: 1,000 are too few for one, and for each.
abbrev pub spent : List ℕ → List ℕ
spent name = codes "not ok Module:T/testcases " ++ name ++ codes ": Script error: The allowance of steps is spent." ++ 10 ∷ []

abbrev pub StepsAreSpent : Type 0
StepsAreSpent = told (modules_of (module_text (codes "T/testcases") 120 text ∷ [])) 1000 ≡ spent (codes "testA") ++ spent (codes "testB") ++ spent (codes "testBad") ++ counts 0 3

-- A text that is no Lua has one line.
abbrev pub FaultsAreTold : Type 0
FaultsAreTold = told (λ t. Some (record { size = 9; chunk = Err (record { kind = 5; line = 2 }) })) 5000
    ≡ codes "not ok Module:T/testcases: Lua error: Module:T/testcases:2: unexpected token" ++ 10 ∷ counts 0 1

-- ---- which pages are tested, in which order

abbrev pub empty : Namespace → List ℕ → RawPage
empty ns name = record { title = title ns name; bytes = [] }

abbrev pub TitlesAreInOrder : Type 0
TitlesAreInOrder =
    test_titles (empty ModuleSpace (codes "B/testcases") ∷ empty ModuleSpace (codes "A/testcases") ∷ empty ModuleSpace (codes "A") ∷ empty ModuleSpace (codes "A/testcases/doc")
    ∷ empty Template (codes "A/testcases") ∷ empty Main (codes "Module/testcases") ∷ empty ModuleSpace (codes "A&b/testcases") ∷ [])
    ≡ title ModuleSpace (codes "A&b/testcases") ∷ title ModuleSpace (codes "A/testcases") ∷ title ModuleSpace (codes "B/testcases") ∷ []
