-- WORKED TEXTS, as trees, with the cases that they name.
use Rattle.std.specs.Prelude.{◌≡◌, ℕ, false, List, [], ◌∷◌, codes}
use Rattle.lua_syntax.specs.Tree.{Exp, Exps, Block, Stat, TextE, FunctionE, NameE, IndexE, TableE, NoExp, MoreExp, NoField, Item, Pair, Lambda, NoStat, MoreStat, AssignS, DoS, LocalFunctionS, LocalS, ReturnS}
use Rattle.case_names.specs.Cases.{cases_of}

abbrev pub one : Exp → Exps
one e = MoreExp e NoExp

abbrev pub text : List ℕ → Exp
text bytes = TextE 1 bytes

-- `function() end`
abbrev pub nothing : Exp
nothing = FunctionE 1 (Lambda [] false NoStat)

-- `p.key`
abbrev pub at : List ℕ → Exp
at key = IndexE 1 (NameE 1 (codes "p")) (text key)

abbrev pub assign : Exp → Exp → Stat
assign target value = AssignS 1 (one target) (one value)

abbrev pub return_p : Block
return_p = MoreStat (ReturnS 1 (one (NameE 1 (codes "p")))) NoStat

-- local p = {} function p.testAdd() end function p.helper() end p['testBad'] = function() end return p
abbrev pub Assigned : Type 0
Assigned =
    cases_of (
    MoreStat (LocalS 1 (codes "p" ∷ []) (one (TableE 1 NoField)))
    (MoreStat (assign (at (codes "testAdd")) nothing)
    (MoreStat (assign (at (codes "helper")) nothing)
    (MoreStat (assign (at (codes "testBad")) nothing) return_p)))
    ) ≡ codes "testAdd" ∷ codes "testBad" ∷ []

-- return {testOne = function() end, 1, testNone = p, ['testTwo'] = function() end, testOne = function() end}
abbrev pub Returned : Type 0
Returned =
    cases_of (
    MoreStat (ReturnS 1 (one (TableE 1 (
    Pair (text (codes "testOne")) nothing
    (Item (NameE 1 (codes "p"))
    (Pair (text (codes "testNone")) (NameE 1 (codes "p"))
    (Pair (text (codes "testTwo")) nothing
    (Pair (text (codes "testOne")) nothing NoField))))
    )))) NoStat
    ) ≡ codes "testOne" ∷ codes "testTwo" ∷ []

-- p.test = function() end; p.test, p.testB = function() end; testC = function() end; do p.testD = function() end end
-- local function testE() end; p[p] = function() end; p.test = function() end
abbrev pub Others : Type 0
Others =
    cases_of (
    MoreStat (assign (at (codes "test")) nothing)
    (MoreStat (AssignS 1 (MoreExp (at (codes "test")) (one (at (codes "testB")))) (one nothing))
    (MoreStat (assign (NameE 1 (codes "testC")) nothing)
    (MoreStat (DoS 1 (MoreStat (assign (at (codes "testD")) nothing) NoStat))
    (MoreStat (LocalFunctionS 1 (codes "testE") (Lambda [] false NoStat))
    (MoreStat (assign (IndexE 1 (NameE 1 (codes "p")) (NameE 1 (codes "p"))) nothing)
    (MoreStat (assign (at (codes "test")) nothing) return_p))))))
    ) ≡ codes "test" ∷ []
