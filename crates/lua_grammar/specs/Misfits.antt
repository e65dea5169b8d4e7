-- TREES THAT NO TEXT SPELLS, for each of the facts of a chunk one or two that lack it
use Rattle.std.specs.Prelude.{true, false, [], pos, negsuc}
use Rattle.lua_grammar.specs.Facts.{FitsChunk, FitsExp}
use Rattle.lua_lexer.specs.LuaSyntaxTree.{Exp, Exps, Block, Stat, TrueE, NumberE, DotsE, FunctionE, NameE, NoExp, MoreExp, Lambda, NoStat, MoreStat, NoArm, AssignS, CallS, WhileS, IfS, EachS, LocalS, ReturnS, BreakS}

-- The statement alone is no chunk.
abbrev pub Refused : Stat → Type 0
Refused s = FitsChunk (MoreStat s NoStat) → ⊥

-- The expression alone is nothing to return.
abbrev pub NoValue : Exp → Type 0
NoValue e = Refused (ReturnS 1 (MoreExp e NoExp))

-- A function without parameters, and with this statement.
abbrev pub function : Stat → Exp
function s = FunctionE 1 (Lambda [] false (MoreStat s NoStat))

abbrev pub loop : Block → Stat
loop b = WhileS 1 (TrueE 1) b

abbrev pub one : Exps
one = MoreExp (NumberE 1 (pos 1)) NoExp

-- `break` outside a loop, and in a function that is in a loop; something behind it
abbrev pub BreaksAreInLoops : Type 0
BreaksAreInLoops = Refused (BreakS 1)
    × Refused (loop (MoreStat (ReturnS 1 (MoreExp (function (BreakS 1)) NoExp)) NoStat))
    × Refused (loop (MoreStat (BreakS 1) (MoreStat (BreakS 1) NoStat)))

-- `...` in a function without it
abbrev pub DotsAreOfTheirFunction : Type 0
DotsAreOfTheirFunction = NoValue (function (ReturnS 1 (MoreExp (DotsE 1) NoExp)))

-- numbers below 0 and from 2^63 on
abbrev pub NumeralsAreInRange : Type 0
NumeralsAreInRange = NoValue (NumberE 1 (negsuc 0)) × NoValue (NumberE 1 (pos 9223372036854775808))

-- a number as a target and as a call; statements in which a list is empty
abbrev pub StatementsAreWhole : Type 0
StatementsAreWhole = Refused (AssignS 1 one one)
    × Refused (AssignS 1 NoExp one)
    × Refused (AssignS 1 (MoreExp (NameE 1 []) NoExp) NoExp)
    × Refused (CallS 1 (NumberE 1 (pos 1)))
    × Refused (LocalS 1 [] one)
    × Refused (EachS 1 [] one NoStat)
    × Refused (IfS 1 NoArm)

-- a node below 201 others
abbrev pub NodesAreFew : Type 0
NodesAreFew = FitsExp (record { above = 201; inside_loop = false; vararg = true }) (TrueE 1) → ⊥

abbrev pub MisfitsAreRefused : Type 0
MisfitsAreRefused = BreaksAreInLoops × DotsAreOfTheirFunction × NumeralsAreInRange × StatementsAreWhole × NodesAreFew
