-- EXAMPLES of statements, loops and constructors.
use Rattle.std.specs.Prelude.{◌≡◌, pos, true, false, [], ◌∷◌, codes}
use Rattle.lua_syntax.specs.declared.BinaryOp.TheVariants as op
use Rattle.lua_syntax.specs.declared.UnaryOp.TheVariants as sign
use Rattle.lua_syntax.specs.Tree.{NilE, TrueE, NumberE, TextE, FunctionE, NameE, IndexE, CallE, MethodE, TableE, BinaryE, UnaryE}
use Rattle.lua_syntax.specs.Tree.{NoExp, NoField, Item, Pair, Lambda, Block, NoStat, Arm}
use Rattle.lua_syntax.specs.Tree.{AssignS, DoS, WhileS, RepeatS, IfS, IfElseS, CountS, CountByS, EachS, LocalFunctionS, LocalS, ReturnS, BreakS}
use Rattle.lua_syntax.specs.View.{exps_of, fields_of, arms_of, stats_of}
use Rattle.lua_meaning.specs.Trial.{Gives, Fails, without_steps, invoke_module}

-- The right sides are evaluated before any target is assigned.
--     return {f=function(...)
--     local a,b = 1,2
--     a,b = b,a
--     return a,b
--     end}
abbrev pub swap : Block
swap = stats_of (ReturnS 1 (exps_of (TableE 1 (fields_of (Pair (TextE 1 (codes "f")) (FunctionE 1 (Lambda [] true (stats_of (
    LocalS 2 (codes "a" ∷ codes "b" ∷ []) (exps_of (NumberE 2 (pos 1) ∷ NumberE 2 (pos 2) ∷ []))
    ∷ AssignS 3 (exps_of (NameE 3 (codes "a") ∷ NameE 3 (codes "b") ∷ [])) (exps_of (NameE 3 (codes "b") ∷ NameE 3 (codes "a") ∷ []))
    ∷ ReturnS 4 (exps_of (NameE 4 (codes "a") ∷ NameE 4 (codes "b") ∷ []))
    ∷ [])))) ∷ [])) ∷ [])) ∷ [])

abbrev pub Swap : Type 0
Swap = without_steps (invoke_module (codes "X") 65 swap 6000) ≡ Gives (codes "21") 0

-- The keys of the targets are evaluated before the right sides.
--     return {f=function(...)
--     local i=1
--     local t={}
--     i,t[i] = i+1,20
--     return i,t[1],t[2]
--     end}
abbrev pub keys_first : Block
keys_first = stats_of (ReturnS 1 (exps_of (TableE 1 (fields_of (Pair (TextE 1 (codes "f")) (FunctionE 1 (Lambda [] true (stats_of (
    LocalS 2 (codes "i" ∷ []) (exps_of (NumberE 2 (pos 1) ∷ []))
    ∷ LocalS 3 (codes "t" ∷ []) (exps_of (TableE 3 NoField ∷ []))
    ∷ AssignS 4 (exps_of (NameE 4 (codes "i") ∷ IndexE 4 (NameE 4 (codes "t")) (NameE 4 (codes "i")) ∷ [])) (exps_of (BinaryE 4 op.Add (NameE 4 (codes "i")) (NumberE 4 (pos 1)) ∷ NumberE 4 (pos 20) ∷ []))
    ∷ ReturnS 5 (exps_of (
    NameE 5 (codes "i")
    ∷ IndexE 5 (NameE 5 (codes "t")) (NumberE 5 (pos 1))
    ∷ IndexE 5 (NameE 5 (codes "t")) (NumberE 5 (pos 2))
    ∷ []))
    ∷ [])))) ∷ [])) ∷ [])) ∷ [])

abbrev pub KeysFirst : Type 0
KeysFirst = without_steps (invoke_module (codes "X") 84 keys_first 6000) ≡ Gives (codes "220nil") 0

-- The last target is assigned first.
--     return {f=function(...)
--     local a
--     a,a,a = 1,2,3
--     return a
--     end}
abbrev pub last_first : Block
last_first = stats_of (ReturnS 1 (exps_of (TableE 1 (fields_of (Pair (TextE 1 (codes "f")) (FunctionE 1 (Lambda [] true (stats_of (
    LocalS 2 (codes "a" ∷ []) NoExp
    ∷ AssignS 3 (exps_of (NameE 3 (codes "a") ∷ NameE 3 (codes "a") ∷ NameE 3 (codes "a") ∷ [])) (exps_of (NumberE 3 (pos 1) ∷ NumberE 3 (pos 2) ∷ NumberE 3 (pos 3) ∷ []))
    ∷ ReturnS 4 (exps_of (NameE 4 (codes "a") ∷ []))
    ∷ [])))) ∷ [])) ∷ [])) ∷ [])

abbrev pub LastFirst : Type 0
LastFirst = without_steps (invoke_module (codes "X") 59 last_first 6000) ≡ Gives (codes "1") 0

-- Targets without a value get nil.
--     return {f=function(...)
--     local a,b,c = 1
--     b = 5
--     a,b = 7
--     return a,b,c
--     end}
abbrev pub more_targets : Block
more_targets = stats_of (ReturnS 1 (exps_of (TableE 1 (fields_of (Pair (TextE 1 (codes "f")) (FunctionE 1 (Lambda [] true (stats_of (
    LocalS 2 (codes "a" ∷ codes "b" ∷ codes "c" ∷ []) (exps_of (NumberE 2 (pos 1) ∷ []))
    ∷ AssignS 3 (exps_of (NameE 3 (codes "b") ∷ [])) (exps_of (NumberE 3 (pos 5) ∷ []))
    ∷ AssignS 4 (exps_of (NameE 4 (codes "a") ∷ NameE 4 (codes "b") ∷ [])) (exps_of (NumberE 4 (pos 7) ∷ []))
    ∷ ReturnS 5 (exps_of (NameE 5 (codes "a") ∷ NameE 5 (codes "b") ∷ NameE 5 (codes "c") ∷ []))
    ∷ [])))) ∷ [])) ∷ [])) ∷ [])

abbrev pub MoreTargets : Type 0
MoreTargets = without_steps (invoke_module (codes "X") 71 more_targets 6000) ≡ Gives (codes "7nilnil") 0

-- A local variable is seen from the next statement on, to the end of its block.
--     return {f=function(...)
--     local x=1
--     do local x=x+1 x=x+1 end
--     local x=x..'!'
--     return x
--     end}
abbrev pub shadowed : Block
shadowed = stats_of (ReturnS 1 (exps_of (TableE 1 (fields_of (Pair (TextE 1 (codes "f")) (FunctionE 1 (Lambda [] true (stats_of (
    LocalS 2 (codes "x" ∷ []) (exps_of (NumberE 2 (pos 1) ∷ []))
    ∷ DoS 3 (stats_of (
    LocalS 3 (codes "x" ∷ []) (exps_of (BinaryE 3 op.Add (NameE 3 (codes "x")) (NumberE 3 (pos 1)) ∷ []))
    ∷ AssignS 3 (exps_of (NameE 3 (codes "x") ∷ [])) (exps_of (BinaryE 3 op.Add (NameE 3 (codes "x")) (NumberE 3 (pos 1)) ∷ []))
    ∷ []))
    ∷ LocalS 4 (codes "x" ∷ []) (exps_of (BinaryE 4 op.Concat (NameE 4 (codes "x")) (TextE 4 (codes "!")) ∷ []))
    ∷ ReturnS 5 (exps_of (NameE 5 (codes "x") ∷ []))
    ∷ [])))) ∷ [])) ∷ [])) ∷ [])

abbrev pub Shadowed : Type 0
Shadowed = without_steps (invoke_module (codes "X") 87 shadowed 6000) ≡ Gives (codes "1!") 0

-- The name of a local function is seen in its body.
--     return {f=function(...)
--     local function fact(n) if n<=1 then return 1 end return n*fact(n-1) end
--     return fact(5)
--     end}
abbrev pub local_functions : Block
local_functions = stats_of (ReturnS 1 (exps_of (TableE 1 (fields_of (Pair (TextE 1 (codes "f")) (FunctionE 1 (Lambda [] true (stats_of (
    LocalFunctionS 2 (codes "fact") (Lambda (codes "n" ∷ []) false (stats_of (
    IfS 2 (arms_of (
    Arm (BinaryE 2 op.Le (NameE 2 (codes "n")) (NumberE 2 (pos 1))) (stats_of (ReturnS 2 (exps_of (NumberE 2 (pos 1) ∷ [])) ∷ []))
    ∷ []))
    ∷ ReturnS 2 (exps_of (
    BinaryE 2 op.Mul (NameE 2 (codes "n")) (CallE 2 (NameE 2 (codes "fact")) (exps_of (BinaryE 2 op.Sub (NameE 2 (codes "n")) (NumberE 2 (pos 1)) ∷ [])))
    ∷ []))
    ∷ [])))
    ∷ ReturnS 3 (exps_of (CallE 3 (NameE 3 (codes "fact")) (exps_of (NumberE 3 (pos 5) ∷ [])) ∷ []))
    ∷ [])))) ∷ [])) ∷ [])) ∷ [])

abbrev pub LocalFunctions : Type 0
LocalFunctions = without_steps (invoke_module (codes "X") 115 local_functions 6000) ≡ Gives (codes "120") 0

-- A function that is assigned to a local name sees the global one.
--     return {f=function(...)
--     local g = function() return g end
--     return tostring(g())
--     end}
abbrev pub global_functions : Block
global_functions = stats_of (ReturnS 1 (exps_of (TableE 1 (fields_of (Pair (TextE 1 (codes "f")) (FunctionE 1 (Lambda [] true (stats_of (
    LocalS 2 (codes "g" ∷ []) (exps_of (FunctionE 2 (Lambda [] false (stats_of (ReturnS 2 (exps_of (NameE 2 (codes "g") ∷ [])) ∷ []))) ∷ []))
    ∷ ReturnS 3 (exps_of (CallE 3 (NameE 3 (codes "tostring")) (exps_of (CallE 3 (NameE 3 (codes "g")) NoExp ∷ [])) ∷ []))
    ∷ [])))) ∷ [])) ∷ [])) ∷ [])

abbrev pub GlobalFunctions : Type 0
GlobalFunctions = without_steps (invoke_module (codes "X") 83 global_functions 6000) ≡ Gives (codes "nil") 0

-- The first branch whose test is true.
--     return {f=function(...)
--     local function sign(n) if n<0 then return 'neg' elseif n==0 then return 'zero' else return 'pos' end end
--     return sign(-1),sign(0),sign(1)
--     end}
abbrev pub branches : Block
branches = stats_of (ReturnS 1 (exps_of (TableE 1 (fields_of (Pair (TextE 1 (codes "f")) (FunctionE 1 (Lambda [] true (stats_of (
    LocalFunctionS 2 (codes "sign") (Lambda (codes "n" ∷ []) false (stats_of (IfElseS 2 (arms_of (
    Arm (BinaryE 2 op.Lt (NameE 2 (codes "n")) (NumberE 2 (pos 0))) (stats_of (ReturnS 2 (exps_of (TextE 2 (codes "neg") ∷ [])) ∷ []))
    ∷ Arm (BinaryE 2 op.Eq (NameE 2 (codes "n")) (NumberE 2 (pos 0))) (stats_of (ReturnS 2 (exps_of (TextE 2 (codes "zero") ∷ [])) ∷ []))
    ∷ [])) (stats_of (ReturnS 2 (exps_of (TextE 2 (codes "pos") ∷ [])) ∷ [])) ∷ [])))
    ∷ ReturnS 3 (exps_of (
    CallE 3 (NameE 3 (codes "sign")) (exps_of (UnaryE 3 sign.Minus (NumberE 3 (pos 1)) ∷ []))
    ∷ CallE 3 (NameE 3 (codes "sign")) (exps_of (NumberE 3 (pos 0) ∷ []))
    ∷ CallE 3 (NameE 3 (codes "sign")) (exps_of (NumberE 3 (pos 1) ∷ []))
    ∷ []))
    ∷ [])))) ∷ [])) ∷ [])) ∷ [])

abbrev pub Branches : Type 0
Branches = without_steps (invoke_module (codes "X") 165 branches 6000) ≡ Gives (codes "negzeropos") 0

-- `while`, and `break` out of the inner loop alone.
--     return {f=function(...)
--     local s=''
--     local i=0
--     while i<3 do i=i+1 local j=0 while true do j=j+1 if j>i then break end s=s..j end end
--     return s
--     end}
abbrev pub while_loop : Block
while_loop = stats_of (ReturnS 1 (exps_of (TableE 1 (fields_of (Pair (TextE 1 (codes "f")) (FunctionE 1 (Lambda [] true (stats_of (
    LocalS 2 (codes "s" ∷ []) (exps_of (TextE 2 [] ∷ []))
    ∷ LocalS 3 (codes "i" ∷ []) (exps_of (NumberE 3 (pos 0) ∷ []))
    ∷ WhileS 4 (BinaryE 4 op.Lt (NameE 4 (codes "i")) (NumberE 4 (pos 3))) (stats_of (
    AssignS 4 (exps_of (NameE 4 (codes "i") ∷ [])) (exps_of (BinaryE 4 op.Add (NameE 4 (codes "i")) (NumberE 4 (pos 1)) ∷ []))
    ∷ LocalS 4 (codes "j" ∷ []) (exps_of (NumberE 4 (pos 0) ∷ []))
    ∷ WhileS 4 (TrueE 4) (stats_of (
    AssignS 4 (exps_of (NameE 4 (codes "j") ∷ [])) (exps_of (BinaryE 4 op.Add (NameE 4 (codes "j")) (NumberE 4 (pos 1)) ∷ []))
    ∷ IfS 4 (arms_of (Arm (BinaryE 4 op.Gt (NameE 4 (codes "j")) (NameE 4 (codes "i"))) (stats_of (BreakS 4 ∷ [])) ∷ []))
    ∷ AssignS 4 (exps_of (NameE 4 (codes "s") ∷ [])) (exps_of (BinaryE 4 op.Concat (NameE 4 (codes "s")) (NameE 4 (codes "j")) ∷ []))
    ∷ []))
    ∷ []))
    ∷ ReturnS 5 (exps_of (NameE 5 (codes "s") ∷ []))
    ∷ [])))) ∷ [])) ∷ [])) ∷ [])

abbrev pub WhileLoop : Type 0
WhileLoop = without_steps (invoke_module (codes "X") 144 while_loop 6000) ≡ Gives (codes "112123") 0

-- The test of `repeat` sees the variables of the body.
--     return {f=function(...)
--     local n=0
--     repeat local done = n>=2 n=n+1 until done
--     return n
--     end}
abbrev pub repeat_loop : Block
repeat_loop = stats_of (ReturnS 1 (exps_of (TableE 1 (fields_of (Pair (TextE 1 (codes "f")) (FunctionE 1 (Lambda [] true (stats_of (
    LocalS 2 (codes "n" ∷ []) (exps_of (NumberE 2 (pos 0) ∷ []))
    ∷ RepeatS 3 (stats_of (
    LocalS 3 (codes "done" ∷ []) (exps_of (BinaryE 3 op.Ge (NameE 3 (codes "n")) (NumberE 3 (pos 2)) ∷ []))
    ∷ AssignS 3 (exps_of (NameE 3 (codes "n") ∷ [])) (exps_of (BinaryE 3 op.Add (NameE 3 (codes "n")) (NumberE 3 (pos 1)) ∷ []))
    ∷ [])) (NameE 3 (codes "done"))
    ∷ ReturnS 4 (exps_of (NameE 4 (codes "n") ∷ []))
    ∷ [])))) ∷ [])) ∷ [])) ∷ [])

abbrev pub RepeatLoop : Type 0
RepeatLoop = without_steps (invoke_module (codes "X") 89 repeat_loop 6000) ≡ Gives (codes "3") 0

-- A `break` in `repeat` passes the test over.
--     return {f=function(...)
--     local n=0
--     repeat n=n+1 if n==2 then break end until error('no', 0) or n==1
--     return n
--     end}
abbrev pub repeat_break : Block
repeat_break = stats_of (ReturnS 1 (exps_of (TableE 1 (fields_of (Pair (TextE 1 (codes "f")) (FunctionE 1 (Lambda [] true (stats_of (
    LocalS 2 (codes "n" ∷ []) (exps_of (NumberE 2 (pos 0) ∷ []))
    ∷ RepeatS 3 (stats_of (
    AssignS 3 (exps_of (NameE 3 (codes "n") ∷ [])) (exps_of (BinaryE 3 op.Add (NameE 3 (codes "n")) (NumberE 3 (pos 1)) ∷ []))
    ∷ IfS 3 (arms_of (Arm (BinaryE 3 op.Eq (NameE 3 (codes "n")) (NumberE 3 (pos 2))) (stats_of (BreakS 3 ∷ [])) ∷ []))
    ∷ [])) (BinaryE 3 op.Or (CallE 3 (NameE 3 (codes "error")) (exps_of (TextE 3 (codes "no") ∷ NumberE 3 (pos 0) ∷ []))) (BinaryE 3 op.Eq (NameE 3 (codes "n")) (NumberE 3 (pos 1))))
    ∷ ReturnS 4 (exps_of (NameE 4 (codes "n") ∷ []))
    ∷ [])))) ∷ [])) ∷ [])) ∷ [])

abbrev pub RepeatBreak : Type 0
RepeatBreak = without_steps (invoke_module (codes "X") 112 repeat_break 6000) ≡ Fails (codes "Lua error: no") 0

-- The index counts up or down, and its copy in the body may change.
--     return {f=function(...)
--     local s=''
--     for i=1,3 do s=s..i i=10 end
--     for i=3,1,-1 do s=s..i end
--     for i=1,0 do s=s..'x' end
--     for i='1','2' do s=s..i end
--     return s
--     end}
abbrev pub counting : Block
counting = stats_of (ReturnS 1 (exps_of (TableE 1 (fields_of (Pair (TextE 1 (codes "f")) (FunctionE 1 (Lambda [] true (stats_of (
    LocalS 2 (codes "s" ∷ []) (exps_of (TextE 2 [] ∷ []))
    ∷ CountS 3 (codes "i") (NumberE 3 (pos 1)) (NumberE 3 (pos 3)) (stats_of (
    AssignS 3 (exps_of (NameE 3 (codes "s") ∷ [])) (exps_of (BinaryE 3 op.Concat (NameE 3 (codes "s")) (NameE 3 (codes "i")) ∷ []))
    ∷ AssignS 3 (exps_of (NameE 3 (codes "i") ∷ [])) (exps_of (NumberE 3 (pos 10) ∷ []))
    ∷ []))
    ∷ CountByS 4 (codes "i") (NumberE 4 (pos 3)) (NumberE 4 (pos 1)) (UnaryE 4 sign.Minus (NumberE 4 (pos 1))) (stats_of (
    AssignS 4 (exps_of (NameE 4 (codes "s") ∷ [])) (exps_of (BinaryE 4 op.Concat (NameE 4 (codes "s")) (NameE 4 (codes "i")) ∷ []))
    ∷ []))
    ∷ CountS 5 (codes "i") (NumberE 5 (pos 1)) (NumberE 5 (pos 0)) (stats_of (
    AssignS 5 (exps_of (NameE 5 (codes "s") ∷ [])) (exps_of (BinaryE 5 op.Concat (NameE 5 (codes "s")) (TextE 5 (codes "x")) ∷ []))
    ∷ []))
    ∷ CountS 6 (codes "i") (TextE 6 (codes "1")) (TextE 6 (codes "2")) (stats_of (
    AssignS 6 (exps_of (NameE 6 (codes "s") ∷ [])) (exps_of (BinaryE 6 op.Concat (NameE 6 (codes "s")) (NameE 6 (codes "i")) ∷ []))
    ∷ []))
    ∷ ReturnS 7 (exps_of (NameE 7 (codes "s") ∷ []))
    ∷ [])))) ∷ [])) ∷ [])) ∷ [])

abbrev pub Counting : Type 0
Counting = without_steps (invoke_module (codes "X") 158 counting 6000) ≡ Gives (codes "12332112") 0

-- Where the next index is out of range the loop ends.
--     return {f=function(...)
--     local n=0
--     for i=9223372036854775806,9223372036854775807 do n=n+1 end
--     return n
--     end}
abbrev pub counting_to_the_end : Block
counting_to_the_end = stats_of (ReturnS 1 (exps_of (TableE 1 (fields_of (Pair (TextE 1 (codes "f")) (FunctionE 1 (Lambda [] true (stats_of (
    LocalS 2 (codes "n" ∷ []) (exps_of (NumberE 2 (pos 0) ∷ []))
    ∷ CountS 3 (codes "i") (NumberE 3 (pos 9223372036854775806)) (NumberE 3 (pos 9223372036854775807)) (stats_of (
    AssignS 3 (exps_of (NameE 3 (codes "n") ∷ [])) (exps_of (BinaryE 3 op.Add (NameE 3 (codes "n")) (NumberE 3 (pos 1)) ∷ []))
    ∷ []))
    ∷ ReturnS 4 (exps_of (NameE 4 (codes "n") ∷ []))
    ∷ [])))) ∷ [])) ∷ [])) ∷ [])

abbrev pub CountingToTheEnd : Type 0
CountingToTheEnd = without_steps (invoke_module (codes "X") 106 counting_to_the_end 6000) ≡ Gives (codes "2") 0

-- A step of 0 counts as a negative one.
--     return {f=function(...)
--     local n=0
--     for i=1,2,0 do n=n+1 end
--     for i=2,1,0 do n=n+1 if n==3 then break end end
--     return n
--     end}
abbrev pub step_of_zero : Block
step_of_zero = stats_of (ReturnS 1 (exps_of (TableE 1 (fields_of (Pair (TextE 1 (codes "f")) (FunctionE 1 (Lambda [] true (stats_of (
    LocalS 2 (codes "n" ∷ []) (exps_of (NumberE 2 (pos 0) ∷ []))
    ∷ CountByS 3 (codes "i") (NumberE 3 (pos 1)) (NumberE 3 (pos 2)) (NumberE 3 (pos 0)) (stats_of (
    AssignS 3 (exps_of (NameE 3 (codes "n") ∷ [])) (exps_of (BinaryE 3 op.Add (NameE 3 (codes "n")) (NumberE 3 (pos 1)) ∷ []))
    ∷ []))
    ∷ CountByS 4 (codes "i") (NumberE 4 (pos 2)) (NumberE 4 (pos 1)) (NumberE 4 (pos 0)) (stats_of (
    AssignS 4 (exps_of (NameE 4 (codes "n") ∷ [])) (exps_of (BinaryE 4 op.Add (NameE 4 (codes "n")) (NumberE 4 (pos 1)) ∷ []))
    ∷ IfS 4 (arms_of (Arm (BinaryE 4 op.Eq (NameE 4 (codes "n")) (NumberE 4 (pos 3))) (stats_of (BreakS 4 ∷ [])) ∷ []))
    ∷ []))
    ∷ ReturnS 5 (exps_of (NameE 5 (codes "n") ∷ []))
    ∷ [])))) ∷ [])) ∷ [])) ∷ [])

abbrev pub StepOfZero : Type 0
StepOfZero = without_steps (invoke_module (codes "X") 120 step_of_zero 6000) ≡ Gives (codes "3") 0

-- `ipairs` stops at the first nil, and `pairs` goes through all in order.
--     return {f=function(...)
--     local s=''
--     for i,v in ipairs({'a','b',nil,'d'}) do s=s..i..v end
--     for k,v in pairs({'x','y',z='w'}) do s=s..k..v end
--     return s
--     end}
abbrev pub generic : Block
generic = stats_of (ReturnS 1 (exps_of (TableE 1 (fields_of (Pair (TextE 1 (codes "f")) (FunctionE 1 (Lambda [] true (stats_of (
    LocalS 2 (codes "s" ∷ []) (exps_of (TextE 2 [] ∷ []))
    ∷ EachS 3 (codes "i" ∷ codes "v" ∷ []) (exps_of (CallE 3 (NameE 3 (codes "ipairs")) (exps_of (
    TableE 3 (fields_of (Item (TextE 3 (codes "a")) ∷ Item (TextE 3 (codes "b")) ∷ Item (NilE 3) ∷ Item (TextE 3 (codes "d")) ∷ []))
    ∷ [])) ∷ [])) (stats_of (
    AssignS 3 (exps_of (NameE 3 (codes "s") ∷ [])) (exps_of (BinaryE 3 op.Concat (NameE 3 (codes "s")) (BinaryE 3 op.Concat (NameE 3 (codes "i")) (NameE 3 (codes "v"))) ∷ []))
    ∷ []))
    ∷ EachS 4 (codes "k" ∷ codes "v" ∷ []) (exps_of (CallE 4 (NameE 4 (codes "pairs")) (exps_of (
    TableE 4 (fields_of (Item (TextE 4 (codes "x")) ∷ Item (TextE 4 (codes "y")) ∷ Pair (TextE 4 (codes "z")) (TextE 4 (codes "w")) ∷ []))
    ∷ [])) ∷ [])) (stats_of (
    AssignS 4 (exps_of (NameE 4 (codes "s") ∷ [])) (exps_of (BinaryE 4 op.Concat (NameE 4 (codes "s")) (BinaryE 4 op.Concat (NameE 4 (codes "k")) (NameE 4 (codes "v"))) ∷ []))
    ∷ []))
    ∷ ReturnS 5 (exps_of (NameE 5 (codes "s") ∷ []))
    ∷ [])))) ∷ [])) ∷ [])) ∷ [])

abbrev pub Generic : Type 0
Generic = without_steps (invoke_module (codes "X") 153 generic 6000) ≡ Gives (codes "1a2b1x2yzw") 0

-- Any function is an iterator.
--     return {f=function(...)
--     local function to(n,i) if i<n then return i+1,i*i end end
--     local s=''
--     for i,q in to,3,0 do s=s..i..q end
--     return s
--     end}
abbrev pub own_iterator : Block
own_iterator = stats_of (ReturnS 1 (exps_of (TableE 1 (fields_of (Pair (TextE 1 (codes "f")) (FunctionE 1 (Lambda [] true (stats_of (
    LocalFunctionS 2 (codes "to") (Lambda (codes "n" ∷ codes "i" ∷ []) false (stats_of (IfS 2 (arms_of (Arm (BinaryE 2 op.Lt (NameE 2 (codes "i")) (NameE 2 (codes "n"))) (stats_of (ReturnS 2 (exps_of (
    BinaryE 2 op.Add (NameE 2 (codes "i")) (NumberE 2 (pos 1))
    ∷ BinaryE 2 op.Mul (NameE 2 (codes "i")) (NameE 2 (codes "i"))
    ∷ [])) ∷ [])) ∷ [])) ∷ [])))
    ∷ LocalS 3 (codes "s" ∷ []) (exps_of (TextE 3 [] ∷ []))
    ∷ EachS 4 (codes "i" ∷ codes "q" ∷ []) (exps_of (NameE 4 (codes "to") ∷ NumberE 4 (pos 3) ∷ NumberE 4 (pos 0) ∷ [])) (stats_of (
    AssignS 4 (exps_of (NameE 4 (codes "s") ∷ [])) (exps_of (BinaryE 4 op.Concat (NameE 4 (codes "s")) (BinaryE 4 op.Concat (NameE 4 (codes "i")) (NameE 4 (codes "q"))) ∷ []))
    ∷ []))
    ∷ ReturnS 5 (exps_of (NameE 5 (codes "s") ∷ []))
    ∷ [])))) ∷ [])) ∷ [])) ∷ [])

abbrev pub OwnIterator : Type 0
OwnIterator = without_steps (invoke_module (codes "X") 141 own_iterator 6000) ≡ Gives (codes "102134") 0

-- A cleared key keeps its place, and a walk passes it.
--     return {f=function(...)
--     local t={a=1,b=2,c=3}
--     t.b=nil
--     local s=''
--     for k,v in pairs(t) do s=s..k..v t[k]=nil end
--     return s,tostring(next(t))
--     end}
abbrev pub cleared : Block
cleared = stats_of (ReturnS 1 (exps_of (TableE 1 (fields_of (Pair (TextE 1 (codes "f")) (FunctionE 1 (Lambda [] true (stats_of (
    LocalS 2 (codes "t" ∷ []) (exps_of (TableE 2 (fields_of (
    Pair (TextE 2 (codes "a")) (NumberE 2 (pos 1))
    ∷ Pair (TextE 2 (codes "b")) (NumberE 2 (pos 2))
    ∷ Pair (TextE 2 (codes "c")) (NumberE 2 (pos 3))
    ∷ [])) ∷ []))
    ∷ AssignS 3 (exps_of (IndexE 3 (NameE 3 (codes "t")) (TextE 3 (codes "b")) ∷ [])) (exps_of (NilE 3 ∷ []))
    ∷ LocalS 4 (codes "s" ∷ []) (exps_of (TextE 4 [] ∷ []))
    ∷ EachS 5 (codes "k" ∷ codes "v" ∷ []) (exps_of (CallE 5 (NameE 5 (codes "pairs")) (exps_of (NameE 5 (codes "t") ∷ [])) ∷ [])) (stats_of (
    AssignS 5 (exps_of (NameE 5 (codes "s") ∷ [])) (exps_of (BinaryE 5 op.Concat (NameE 5 (codes "s")) (BinaryE 5 op.Concat (NameE 5 (codes "k")) (NameE 5 (codes "v"))) ∷ []))
    ∷ AssignS 5 (exps_of (IndexE 5 (NameE 5 (codes "t")) (NameE 5 (codes "k")) ∷ [])) (exps_of (NilE 5 ∷ []))
    ∷ []))
    ∷ ReturnS 6 (exps_of (
    NameE 6 (codes "s")
    ∷ CallE 6 (NameE 6 (codes "tostring")) (exps_of (CallE 6 (NameE 6 (codes "next")) (exps_of (NameE 6 (codes "t") ∷ [])) ∷ []))
    ∷ []))
    ∷ [])))) ∷ [])) ∷ [])) ∷ [])

abbrev pub Cleared : Type 0
Cleared = without_steps (invoke_module (codes "X") 142 cleared 6000) ≡ Gives (codes "a1c3nil") 0

-- Messages of loops.
--     return {f=function(...)
--     local function e(f) local ok,v = pcall(f) return v..';' end
--     return e(function() for i={},1 do end end),e(function() for i=1,'x' do end end),e(function() for i=1,2,{} do end end),e(function() for x in nil do end end)
--     end}
abbrev pub loop_messages : Block
loop_messages = stats_of (ReturnS 1 (exps_of (TableE 1 (fields_of (Pair (TextE 1 (codes "f")) (FunctionE 1 (Lambda [] true (stats_of (
    LocalFunctionS 2 (codes "e") (Lambda (codes "f" ∷ []) false (stats_of (
    LocalS 2 (codes "ok" ∷ codes "v" ∷ []) (exps_of (CallE 2 (NameE 2 (codes "pcall")) (exps_of (NameE 2 (codes "f") ∷ [])) ∷ []))
    ∷ ReturnS 2 (exps_of (BinaryE 2 op.Concat (NameE 2 (codes "v")) (TextE 2 (codes ";")) ∷ []))
    ∷ [])))
    ∷ ReturnS 3 (exps_of (
    CallE 3 (NameE 3 (codes "e")) (exps_of (
    FunctionE 3 (Lambda [] false (stats_of (CountS 3 (codes "i") (TableE 3 NoField) (NumberE 3 (pos 1)) NoStat ∷ [])))
    ∷ []))
    ∷ CallE 3 (NameE 3 (codes "e")) (exps_of (
    FunctionE 3 (Lambda [] false (stats_of (CountS 3 (codes "i") (NumberE 3 (pos 1)) (TextE 3 (codes "x")) NoStat ∷ [])))
    ∷ []))
    ∷ CallE 3 (NameE 3 (codes "e")) (exps_of (
    FunctionE 3 (Lambda [] false (stats_of (CountByS 3 (codes "i") (NumberE 3 (pos 1)) (NumberE 3 (pos 2)) (TableE 3 NoField) NoStat ∷ [])))
    ∷ []))
    ∷ CallE 3 (NameE 3 (codes "e")) (exps_of (FunctionE 3 (Lambda [] false (stats_of (EachS 3 (codes "x" ∷ []) (exps_of (NilE 3 ∷ [])) NoStat ∷ []))) ∷ []))
    ∷ []))
    ∷ [])))) ∷ [])) ∷ [])) ∷ [])

abbrev pub LoopMessages : Type 0
LoopMessages = without_steps (invoke_module (codes "X") 244 loop_messages 6000) ≡ Gives (codes "Module:X:3: 'for' initial value must be a number;Module:X:3: 'for' limit must be a number;Module:X:3: 'for' step must be a number;Module:X:3: attempt to call a nil value;") 0

-- `pairs` and `ipairs` ask `__pairs` and `__ipairs`.
--     return {f=function(...)
--     local t=setmetatable({},{__pairs=function(t) return next,{k='v'} end,__ipairs=function() return function(s,i) if i<2 then return i+1,i end end,nil,0 end})
--     local s=''
--     for k,v in pairs(t) do s=s..k..v end
--     for i,v in ipairs(t) do s=s..i..v end
--     return s
--     end}
abbrev pub walk_handlers : Block
walk_handlers = stats_of (ReturnS 1 (exps_of (TableE 1 (fields_of (Pair (TextE 1 (codes "f")) (FunctionE 1 (Lambda [] true (stats_of (
    LocalS 2 (codes "t" ∷ []) (exps_of (CallE 2 (NameE 2 (codes "setmetatable")) (exps_of (
    TableE 2 NoField
    ∷ TableE 2 (fields_of (
    Pair (TextE 2 (codes "__pairs")) (FunctionE 2 (Lambda (codes "t" ∷ []) false (stats_of (
    ReturnS 2 (exps_of (NameE 2 (codes "next") ∷ TableE 2 (fields_of (Pair (TextE 2 (codes "k")) (TextE 2 (codes "v")) ∷ [])) ∷ []))
    ∷ []))))
    ∷ Pair (TextE 2 (codes "__ipairs")) (FunctionE 2 (Lambda [] false (stats_of (ReturnS 2 (exps_of (
    FunctionE 2 (Lambda (codes "s" ∷ codes "i" ∷ []) false (stats_of (IfS 2 (arms_of (
    Arm (BinaryE 2 op.Lt (NameE 2 (codes "i")) (NumberE 2 (pos 2))) (stats_of (ReturnS 2 (exps_of (BinaryE 2 op.Add (NameE 2 (codes "i")) (NumberE 2 (pos 1)) ∷ NameE 2 (codes "i") ∷ [])) ∷ []))
    ∷ [])) ∷ [])))
    ∷ NilE 2
    ∷ NumberE 2 (pos 0)
    ∷ [])) ∷ []))))
    ∷ []))
    ∷ [])) ∷ []))
    ∷ LocalS 3 (codes "s" ∷ []) (exps_of (TextE 3 [] ∷ []))
    ∷ EachS 4 (codes "k" ∷ codes "v" ∷ []) (exps_of (CallE 4 (NameE 4 (codes "pairs")) (exps_of (NameE 4 (codes "t") ∷ [])) ∷ [])) (stats_of (
    AssignS 4 (exps_of (NameE 4 (codes "s") ∷ [])) (exps_of (BinaryE 4 op.Concat (NameE 4 (codes "s")) (BinaryE 4 op.Concat (NameE 4 (codes "k")) (NameE 4 (codes "v"))) ∷ []))
    ∷ []))
    ∷ EachS 5 (codes "i" ∷ codes "v" ∷ []) (exps_of (CallE 5 (NameE 5 (codes "ipairs")) (exps_of (NameE 5 (codes "t") ∷ [])) ∷ [])) (stats_of (
    AssignS 5 (exps_of (NameE 5 (codes "s") ∷ [])) (exps_of (BinaryE 5 op.Concat (NameE 5 (codes "s")) (BinaryE 5 op.Concat (NameE 5 (codes "i")) (NameE 5 (codes "v"))) ∷ []))
    ∷ []))
    ∷ ReturnS 6 (exps_of (NameE 6 (codes "s") ∷ []))
    ∷ [])))) ∷ [])) ∷ [])) ∷ [])

abbrev pub WalkHandlers : Type 0
WalkHandlers = without_steps (invoke_module (codes "X") 278 walk_handlers 6000) ≡ Gives (codes "kv1021") 0

-- After the last number `ipairs` gives nil.
--     return {f=function(...)
--     local step=ipairs({})
--     return tostring(step({},9223372036854775807))
--     end}
abbrev pub last_place : Block
last_place = stats_of (ReturnS 1 (exps_of (TableE 1 (fields_of (Pair (TextE 1 (codes "f")) (FunctionE 1 (Lambda [] true (stats_of (
    LocalS 2 (codes "step" ∷ []) (exps_of (CallE 2 (NameE 2 (codes "ipairs")) (exps_of (TableE 2 NoField ∷ [])) ∷ []))
    ∷ ReturnS 3 (exps_of (
    CallE 3 (NameE 3 (codes "tostring")) (exps_of (CallE 3 (NameE 3 (codes "step")) (exps_of (TableE 3 NoField ∷ NumberE 3 (pos 9223372036854775807) ∷ [])) ∷ []))
    ∷ []))
    ∷ [])))) ∷ [])) ∷ [])) ∷ [])

abbrev pub LastPlace : Type 0
LastPlace = without_steps (invoke_module (codes "X") 96 last_place 6000) ≡ Gives (codes "nil") 0

-- A `return` leaves all loops.
--     return {f=function(...)
--     for i=1,3 do for j=1,3 do if i*j==4 then return i..j end end end
--     end}
abbrev pub return_from_loops : Block
return_from_loops = stats_of (ReturnS 1 (exps_of (TableE 1 (fields_of (Pair (TextE 1 (codes "f")) (FunctionE 1 (Lambda [] true (stats_of (CountS 2 (codes "i") (NumberE 2 (pos 1)) (NumberE 2 (pos 3)) (stats_of (CountS 2 (codes "j") (NumberE 2 (pos 1)) (NumberE 2 (pos 3)) (stats_of (IfS 2 (arms_of (
    Arm (BinaryE 2 op.Eq (BinaryE 2 op.Mul (NameE 2 (codes "i")) (NameE 2 (codes "j"))) (NumberE 2 (pos 4))) (stats_of (ReturnS 2 (exps_of (BinaryE 2 op.Concat (NameE 2 (codes "i")) (NameE 2 (codes "j")) ∷ [])) ∷ []))
    ∷ [])) ∷ [])) ∷ [])) ∷ [])))) ∷ [])) ∷ [])) ∷ [])

abbrev pub ReturnFromLoops : Type 0
ReturnFromLoops = without_steps (invoke_module (codes "X") 93 return_from_loops 6000) ≡ Gives (codes "22") 0

-- A constructor sets its fields in order, and its last item gives all its values.
--     return {f=function(...)
--     local function two() return 'p','q' end
--     local t={two(),two(),['k']=1,x=2;two()}
--     return #t,t[1],t[2],t[3],t[4],t.k,t.x
--     end}
abbrev pub constructors : Block
constructors = stats_of (ReturnS 1 (exps_of (TableE 1 (fields_of (Pair (TextE 1 (codes "f")) (FunctionE 1 (Lambda [] true (stats_of (
    LocalFunctionS 2 (codes "two") (Lambda [] false (stats_of (ReturnS 2 (exps_of (TextE 2 (codes "p") ∷ TextE 2 (codes "q") ∷ [])) ∷ [])))
    ∷ LocalS 3 (codes "t" ∷ []) (exps_of (TableE 3 (fields_of (
    Item (CallE 3 (NameE 3 (codes "two")) NoExp)
    ∷ Item (CallE 3 (NameE 3 (codes "two")) NoExp)
    ∷ Pair (TextE 3 (codes "k")) (NumberE 3 (pos 1))
    ∷ Pair (TextE 3 (codes "x")) (NumberE 3 (pos 2))
    ∷ Item (CallE 3 (NameE 3 (codes "two")) NoExp)
    ∷ [])) ∷ []))
    ∷ ReturnS 4 (exps_of (
    UnaryE 4 sign.Len (NameE 4 (codes "t"))
    ∷ IndexE 4 (NameE 4 (codes "t")) (NumberE 4 (pos 1))
    ∷ IndexE 4 (NameE 4 (codes "t")) (NumberE 4 (pos 2))
    ∷ IndexE 4 (NameE 4 (codes "t")) (NumberE 4 (pos 3))
    ∷ IndexE 4 (NameE 4 (codes "t")) (NumberE 4 (pos 4))
    ∷ IndexE 4 (NameE 4 (codes "t")) (TextE 4 (codes "k"))
    ∷ IndexE 4 (NameE 4 (codes "t")) (TextE 4 (codes "x"))
    ∷ []))
    ∷ [])))) ∷ [])) ∷ [])) ∷ [])

abbrev pub Constructors : Type 0
Constructors = without_steps (invoke_module (codes "X") 146 constructors 6000) ≡ Gives (codes "4pppq12") 0

-- A method gets its object first.
--     return {f=function(...)
--     local o={n=3}
--     function o:add(k) self.n=self.n+k return self end
--     function o.get(x) return x.n end
--     return o:add(4):get()
--     end}
abbrev pub methods : Block
methods = stats_of (ReturnS 1 (exps_of (TableE 1 (fields_of (Pair (TextE 1 (codes "f")) (FunctionE 1 (Lambda [] true (stats_of (
    LocalS 2 (codes "o" ∷ []) (exps_of (TableE 2 (fields_of (Pair (TextE 2 (codes "n")) (NumberE 2 (pos 3)) ∷ [])) ∷ []))
    ∷ AssignS 3 (exps_of (IndexE 3 (NameE 3 (codes "o")) (TextE 3 (codes "add")) ∷ [])) (exps_of (FunctionE 3 (Lambda (codes "self" ∷ codes "k" ∷ []) false (stats_of (
    AssignS 3 (exps_of (IndexE 3 (NameE 3 (codes "self")) (TextE 3 (codes "n")) ∷ [])) (exps_of (BinaryE 3 op.Add (IndexE 3 (NameE 3 (codes "self")) (TextE 3 (codes "n"))) (NameE 3 (codes "k")) ∷ []))
    ∷ ReturnS 3 (exps_of (NameE 3 (codes "self") ∷ []))
    ∷ []))) ∷ []))
    ∷ AssignS 4 (exps_of (IndexE 4 (NameE 4 (codes "o")) (TextE 4 (codes "get")) ∷ [])) (exps_of (
    FunctionE 4 (Lambda (codes "x" ∷ []) false (stats_of (ReturnS 4 (exps_of (IndexE 4 (NameE 4 (codes "x")) (TextE 4 (codes "n")) ∷ [])) ∷ [])))
    ∷ []))
    ∷ ReturnS 5 (exps_of (MethodE 5 (MethodE 5 (NameE 5 (codes "o")) (codes "add") (exps_of (NumberE 5 (pos 4) ∷ []))) (codes "get") NoExp ∷ []))
    ∷ [])))) ∷ [])) ∷ [])) ∷ [])

abbrev pub Methods : Type 0
Methods = without_steps (invoke_module (codes "X") 147 methods 6000) ≡ Gives (codes "7") 0

-- ALL OF THEM
abbrev pub AllStatements : Type 0
AllStatements =
    Swap
    × KeysFirst
    × LastFirst
    × MoreTargets
    × Shadowed
    × LocalFunctions
    × GlobalFunctions
    × Branches
    × WhileLoop
    × RepeatLoop
    × RepeatBreak
    × Counting
    × CountingToTheEnd
    × StepOfZero
    × Generic
    × OwnIterator
    × Cleared
    × LoopMessages
    × WalkHandlers
    × LastPlace
    × ReturnFromLoops
    × Constructors
    × Methods
