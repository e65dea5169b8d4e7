-- EXAMPLES of single charges, worked out by hand.
use Rattle.std.specs.Prelude.{◌≡◌, pos, true, false, [], ◌∷◌, codes}
use Rattle.lua_syntax.specs.declared.BinaryOp.TheVariants as op
use Rattle.lua_syntax.specs.declared.UnaryOp.TheVariants as sign
use Rattle.lua_syntax.specs.Tree.{NilE, NumberE, TextE, DotsE, FunctionE, NameE, IndexE, CallE, MethodE, TableE, BinaryE, UnaryE, ParenE}
use Rattle.lua_syntax.specs.Tree.{NoExp, NoField, Item, Pair, Lambda, Block, NoStat, Arm}
use Rattle.lua_syntax.specs.Tree.{AssignS, CallS, WhileS, RepeatS, IfS, CountS, EachS, LocalFunctionS, LocalS, ReturnS}
use Rattle.lua_syntax.specs.View.{exps_of, fields_of, arms_of, stats_of}
use Rattle.page_run.specs.declared.which.Which.TheVariants.{Steps}
use Rattle.lua_meaning.specs.Trial.{Gives, Spends, invoke_module}

-- A function that does nothing.
--     return {f=function(...)
--
--     end}
abbrev pub nothing : Block
nothing = stats_of (
    ReturnS 1 (exps_of (TableE 1 (fields_of (Pair (TextE 1 (codes "f")) (FunctionE 1 (Lambda [] true NoStat)) ∷ [])) ∷ []))
    ∷ [])

abbrev pub Nothing : Type 0
Nothing = (invoke_module (codes "X") 29 nothing 1055 ≡ Gives [] 0) × (invoke_module (codes "X") 29 nothing 1054 ≡ Spends Steps 0)

-- `...` costs a step more for each value: here it has one, the frame.
--     return {f=function(...)
--     return ...
--     end}
abbrev pub dots_cost : Block
dots_cost = stats_of (ReturnS 1 (exps_of (
    TableE 1 (fields_of (Pair (TextE 1 (codes "f")) (FunctionE 1 (Lambda [] true (stats_of (ReturnS 2 (exps_of (DotsE 2 ∷ [])) ∷ [])))) ∷ []))
    ∷ [])) ∷ [])

abbrev pub DotsCost : Type 0
DotsCost = (invoke_module (codes "X") 39 dots_cost 1073 ≡ Gives (codes "table") 0) × (invoke_module (codes "X") 39 dots_cost 1072 ≡ Spends Steps 0)

-- `while`: three tests, and two turns.
--     return {f=function(...)
--     local i=0 while i<2 do i=i+1 end
--     end}
abbrev pub while_costs : Block
while_costs = stats_of (ReturnS 1 (exps_of (TableE 1 (fields_of (Pair (TextE 1 (codes "f")) (FunctionE 1 (Lambda [] true (stats_of (
    LocalS 2 (codes "i" ∷ []) (exps_of (NumberE 2 (pos 0) ∷ []))
    ∷ WhileS 2 (BinaryE 2 op.Lt (NameE 2 (codes "i")) (NumberE 2 (pos 2))) (stats_of (
    AssignS 2 (exps_of (NameE 2 (codes "i") ∷ [])) (exps_of (BinaryE 2 op.Add (NameE 2 (codes "i")) (NumberE 2 (pos 1)) ∷ []))
    ∷ []))
    ∷ [])))) ∷ [])) ∷ [])) ∷ [])

abbrev pub WhileCosts : Type 0
WhileCosts = (invoke_module (codes "X") 61 while_costs 1109 ≡ Gives [] 0) × (invoke_module (codes "X") 61 while_costs 1108 ≡ Spends Steps 0)

-- `repeat`: two turns, each with its test.
--     return {f=function(...)
--     local i=0 repeat i=i+1 until i>=2
--     end}
abbrev pub repeat_costs : Block
repeat_costs = stats_of (ReturnS 1 (exps_of (TableE 1 (fields_of (Pair (TextE 1 (codes "f")) (FunctionE 1 (Lambda [] true (stats_of (
    LocalS 2 (codes "i" ∷ []) (exps_of (NumberE 2 (pos 0) ∷ []))
    ∷ RepeatS 2 (stats_of (
    AssignS 2 (exps_of (NameE 2 (codes "i") ∷ [])) (exps_of (BinaryE 2 op.Add (NameE 2 (codes "i")) (NumberE 2 (pos 1)) ∷ []))
    ∷ [])) (BinaryE 2 op.Ge (NameE 2 (codes "i")) (NumberE 2 (pos 2)))
    ∷ [])))) ∷ [])) ∷ [])) ∷ [])

abbrev pub RepeatCosts : Type 0
RepeatCosts = (invoke_module (codes "X") 62 repeat_costs 1107 ≡ Gives [] 0) × (invoke_module (codes "X") 62 repeat_costs 1106 ≡ Spends Steps 0)

-- A counting loop: its numbers, and a step for each turn.
--     return {f=function(...)
--     for i=1,2 do end
--     end}
abbrev pub for_costs : Block
for_costs = stats_of (ReturnS 1 (exps_of (TableE 1 (fields_of (
    Pair (TextE 1 (codes "f")) (FunctionE 1 (Lambda [] true (stats_of (CountS 2 (codes "i") (NumberE 2 (pos 1)) (NumberE 2 (pos 2)) NoStat ∷ []))))
    ∷ [])) ∷ [])) ∷ [])

abbrev pub ForCosts : Type 0
ForCosts = (invoke_module (codes "X") 45 for_costs 1076 ≡ Gives [] 0) × (invoke_module (codes "X") 45 for_costs 1075 ≡ Spends Steps 0)

-- A generic loop: the function is entered three times, and there are two turns.
--     return {f=function(...)
--     for k in next,{1,2} do end
--     end}
abbrev pub each_costs : Block
each_costs = stats_of (ReturnS 1 (exps_of (TableE 1 (fields_of (Pair (TextE 1 (codes "f")) (FunctionE 1 (Lambda [] true (stats_of (
    EachS 2 (codes "k" ∷ []) (exps_of (NameE 2 (codes "next") ∷ TableE 2 (fields_of (Item (NumberE 2 (pos 1)) ∷ Item (NumberE 2 (pos 2)) ∷ [])) ∷ [])) NoStat
    ∷ [])))) ∷ [])) ∷ [])) ∷ [])

abbrev pub EachCosts : Type 0
EachCosts = (invoke_module (codes "X") 55 each_costs 1107 ≡ Gives [] 0) × (invoke_module (codes "X") 55 each_costs 1106 ≡ Spends Steps 0)

-- `next` passes a cleared entry; a key that is cleared is no new entry.
--     return {f=function(...)
--     local t={1,2} t[1]=nil return next(t)
--     end}
abbrev pub cleared_costs : Block
cleared_costs = stats_of (ReturnS 1 (exps_of (TableE 1 (fields_of (Pair (TextE 1 (codes "f")) (FunctionE 1 (Lambda [] true (stats_of (
    LocalS 2 (codes "t" ∷ []) (exps_of (TableE 2 (fields_of (Item (NumberE 2 (pos 1)) ∷ Item (NumberE 2 (pos 2)) ∷ [])) ∷ []))
    ∷ AssignS 2 (exps_of (IndexE 2 (NameE 2 (codes "t")) (NumberE 2 (pos 1)) ∷ [])) (exps_of (NilE 2 ∷ []))
    ∷ ReturnS 2 (exps_of (CallE 2 (NameE 2 (codes "next")) (exps_of (NameE 2 (codes "t") ∷ [])) ∷ []))
    ∷ [])))) ∷ [])) ∷ [])) ∷ [])

abbrev pub ClearedCosts : Type 0
ClearedCosts = (invoke_module (codes "X") 66 cleared_costs 1125 ≡ Gives (codes "22") 0) × (invoke_module (codes "X") 66 cleared_costs 1124 ≡ Spends Steps 0)

-- `..` costs the length of what it gives.
--     return {f=function(...)
--     return 'ab'..'c'
--     end}
abbrev pub joins_cost : Block
joins_cost = stats_of (ReturnS 1 (exps_of (TableE 1 (fields_of (
    Pair (TextE 1 (codes "f")) (FunctionE 1 (Lambda [] true (stats_of (ReturnS 2 (exps_of (BinaryE 2 op.Concat (TextE 2 (codes "ab")) (TextE 2 (codes "c")) ∷ [])) ∷ []))))
    ∷ [])) ∷ [])) ∷ [])

abbrev pub JoinsCost : Type 0
JoinsCost = (invoke_module (codes "X") 45 joins_cost 1081 ≡ Gives (codes "abc") 0) × (invoke_module (codes "X") 45 joins_cost 1080 ≡ Spends Steps 0)

-- The order of two texts costs the length of the shorter one.
--     return {f=function(...)
--     return 'abc'<'abde'
--     end}
abbrev pub order_costs : Block
order_costs = stats_of (ReturnS 1 (exps_of (TableE 1 (fields_of (
    Pair (TextE 1 (codes "f")) (FunctionE 1 (Lambda [] true (stats_of (ReturnS 2 (exps_of (BinaryE 2 op.Lt (TextE 2 (codes "abc")) (TextE 2 (codes "abde")) ∷ [])) ∷ []))))
    ∷ [])) ∷ [])) ∷ [])

abbrev pub OrderCosts : Type 0
OrderCosts = (invoke_module (codes "X") 48 order_costs 1085 ≡ Gives (codes "true") 0) × (invoke_module (codes "X") 48 order_costs 1084 ≡ Spends Steps 0)

-- Their equality costs nothing.
--     return {f=function(...)
--     return 'abc'=='abc'
--     end}
abbrev pub equality_is_free : Block
equality_is_free = stats_of (ReturnS 1 (exps_of (TableE 1 (fields_of (
    Pair (TextE 1 (codes "f")) (FunctionE 1 (Lambda [] true (stats_of (ReturnS 2 (exps_of (BinaryE 2 op.Eq (TextE 2 (codes "abc")) (TextE 2 (codes "abc")) ∷ [])) ∷ []))))
    ∷ [])) ∷ [])) ∷ [])

abbrev pub EqualityIsFree : Type 0
EqualityIsFree = (invoke_module (codes "X") 48 equality_is_free 1082 ≡ Gives (codes "true") 0) × (invoke_module (codes "X") 48 equality_is_free 1081 ≡ Spends Steps 0)

-- `tostring` costs the length of the text.
--     return {f=function(...)
--     return tostring('abc')
--     end}
abbrev pub text_costs : Block
text_costs = stats_of (ReturnS 1 (exps_of (TableE 1 (fields_of (
    Pair (TextE 1 (codes "f")) (FunctionE 1 (Lambda [] true (stats_of (ReturnS 2 (exps_of (CallE 2 (NameE 2 (codes "tostring")) (exps_of (TextE 2 (codes "abc") ∷ [])) ∷ [])) ∷ []))))
    ∷ [])) ∷ [])) ∷ [])

abbrev pub TextCosts : Type 0
TextCosts = (invoke_module (codes "X") 51 text_costs 1088 ≡ Gives (codes "abc") 0) × (invoke_module (codes "X") 51 text_costs 1087 ≡ Spends Steps 0)

-- `unpack` costs a step for each entry.
--     return {f=function(...)
--     return unpack({1,2})
--     end}
abbrev pub unpack_costs : Block
unpack_costs = stats_of (ReturnS 1 (exps_of (TableE 1 (fields_of (Pair (TextE 1 (codes "f")) (FunctionE 1 (Lambda [] true (stats_of (ReturnS 2 (exps_of (
    CallE 2 (NameE 2 (codes "unpack")) (exps_of (TableE 2 (fields_of (Item (NumberE 2 (pos 1)) ∷ Item (NumberE 2 (pos 2)) ∷ [])) ∷ []))
    ∷ [])) ∷ [])))) ∷ [])) ∷ [])) ∷ [])

abbrev pub UnpackCosts : Type 0
UnpackCosts = (invoke_module (codes "X") 49 unpack_costs 1102 ≡ Gives (codes "12") 0) × (invoke_module (codes "X") 49 unpack_costs 1101 ≡ Spends Steps 0)

-- A link to a table costs a step.
--     return {f=function(...)
--     return setmetatable({},{__index={x=1}}).x
--     end}
abbrev pub link_costs : Block
link_costs = stats_of (ReturnS 1 (exps_of (TableE 1 (fields_of (Pair (TextE 1 (codes "f")) (FunctionE 1 (Lambda [] true (stats_of (ReturnS 2 (exps_of (IndexE 2 (CallE 2 (NameE 2 (codes "setmetatable")) (exps_of (
    TableE 2 NoField
    ∷ TableE 2 (fields_of (Pair (TextE 2 (codes "__index")) (TableE 2 (fields_of (Pair (TextE 2 (codes "x")) (NumberE 2 (pos 1)) ∷ []))) ∷ []))
    ∷ []))) (TextE 2 (codes "x")) ∷ [])) ∷ [])))) ∷ [])) ∷ [])) ∷ [])

abbrev pub LinkCosts : Type 0
LinkCosts = (invoke_module (codes "X") 70 link_costs 1142 ≡ Gives (codes "1") 0) × (invoke_module (codes "X") 70 link_costs 1141 ≡ Spends Steps 0)

-- A link to a function costs a step, and the function's entry another.
--     return {f=function(...)
--     return setmetatable({},{__call=function() return 1 end})()
--     end}
abbrev pub call_link_costs : Block
call_link_costs = stats_of (ReturnS 1 (exps_of (TableE 1 (fields_of (Pair (TextE 1 (codes "f")) (FunctionE 1 (Lambda [] true (stats_of (ReturnS 2 (exps_of (CallE 2 (CallE 2 (NameE 2 (codes "setmetatable")) (exps_of (
    TableE 2 NoField
    ∷ TableE 2 (fields_of (
    Pair (TextE 2 (codes "__call")) (FunctionE 2 (Lambda [] false (stats_of (ReturnS 2 (exps_of (NumberE 2 (pos 1) ∷ [])) ∷ []))))
    ∷ []))
    ∷ []))) NoExp ∷ [])) ∷ [])))) ∷ [])) ∷ [])) ∷ [])

abbrev pub CallLinkCosts : Type 0
CallLinkCosts = (invoke_module (codes "X") 87 call_link_costs 1155 ≡ Gives (codes "1") 0) × (invoke_module (codes "X") 87 call_link_costs 1154 ≡ Spends Steps 0)

-- A message costs its length with its place.
--     return {f=function(...)
--     return pcall(function() error('m') end)
--     end}
abbrev pub message_costs : Block
message_costs = stats_of (ReturnS 1 (exps_of (TableE 1 (fields_of (Pair (TextE 1 (codes "f")) (FunctionE 1 (Lambda [] true (stats_of (ReturnS 2 (exps_of (CallE 2 (NameE 2 (codes "pcall")) (exps_of (
    FunctionE 2 (Lambda [] false (stats_of (CallS 2 (CallE 2 (NameE 2 (codes "error")) (exps_of (TextE 2 (codes "m") ∷ []))) ∷ [])))
    ∷ [])) ∷ [])) ∷ [])))) ∷ [])) ∷ [])) ∷ [])

abbrev pub MessageCosts : Type 0
MessageCosts = (invoke_module (codes "X") 68 message_costs 1144 ≡ Gives (codes "falseModule:X:2: m") 0) × (invoke_module (codes "X") 68 message_costs 1143 ≡ Spends Steps 0)

-- A method's name costs nothing.
--     return {f=function(...)
--     local o={m=function(s) return 1 end} return o:m()
--     end}
abbrev pub method_costs : Block
method_costs = stats_of (ReturnS 1 (exps_of (TableE 1 (fields_of (Pair (TextE 1 (codes "f")) (FunctionE 1 (Lambda [] true (stats_of (
    LocalS 2 (codes "o" ∷ []) (exps_of (TableE 2 (fields_of (
    Pair (TextE 2 (codes "m")) (FunctionE 2 (Lambda (codes "s" ∷ []) false (stats_of (ReturnS 2 (exps_of (NumberE 2 (pos 1) ∷ [])) ∷ []))))
    ∷ [])) ∷ []))
    ∷ ReturnS 2 (exps_of (MethodE 2 (NameE 2 (codes "o")) (codes "m") NoExp ∷ []))
    ∷ [])))) ∷ [])) ∷ [])) ∷ [])

abbrev pub MethodCosts : Type 0
MethodCosts = (invoke_module (codes "X") 78 method_costs 1135 ≡ Gives (codes "1") 0) × (invoke_module (codes "X") 78 method_costs 1134 ≡ Spends Steps 0)

-- A local function is a statement, and a closure.
--     return {f=function(...)
--     local function g() end g()
--     end}
abbrev pub local_function_costs : Block
local_function_costs = stats_of (ReturnS 1 (exps_of (TableE 1 (fields_of (
    Pair (TextE 1 (codes "f")) (FunctionE 1 (Lambda [] true (stats_of (LocalFunctionS 2 (codes "g") (Lambda [] false NoStat) ∷ CallS 2 (CallE 2 (NameE 2 (codes "g")) NoExp) ∷ []))))
    ∷ [])) ∷ [])) ∷ [])

abbrev pub LocalFunctionCosts : Type 0
LocalFunctionCosts = (invoke_module (codes "X") 55 local_function_costs 1094 ≡ Gives [] 0) × (invoke_module (codes "X") 55 local_function_costs 1093 ≡ Spends Steps 0)

-- A global variable that is new is a new entry, and a name as a target costs nothing.
--     return {f=function(...)
--     x=1 x=2
--     end}
abbrev pub global_costs : Block
global_costs = stats_of (ReturnS 1 (exps_of (TableE 1 (fields_of (Pair (TextE 1 (codes "f")) (FunctionE 1 (Lambda [] true (stats_of (
    AssignS 2 (exps_of (NameE 2 (codes "x") ∷ [])) (exps_of (NumberE 2 (pos 1) ∷ []))
    ∷ AssignS 2 (exps_of (NameE 2 (codes "x") ∷ [])) (exps_of (NumberE 2 (pos 2) ∷ []))
    ∷ [])))) ∷ [])) ∷ [])) ∷ [])

abbrev pub GlobalCosts : Type 0
GlobalCosts = (invoke_module (codes "X") 36 global_costs 1070 ≡ Gives [] 0) × (invoke_module (codes "X") 36 global_costs 1069 ≡ Spends Steps 0)

-- What is not evaluated costs nothing.
--     return {f=function(...)
--     return nil and error() or 'a'
--     end}
abbrev pub choices_cost : Block
choices_cost = stats_of (ReturnS 1 (exps_of (TableE 1 (fields_of (Pair (TextE 1 (codes "f")) (FunctionE 1 (Lambda [] true (stats_of (
    ReturnS 2 (exps_of (BinaryE 2 op.Or (BinaryE 2 op.And (NilE 2) (CallE 2 (NameE 2 (codes "error")) NoExp)) (TextE 2 (codes "a")) ∷ []))
    ∷ [])))) ∷ [])) ∷ [])) ∷ [])

abbrev pub ChoicesCost : Type 0
ChoicesCost = (invoke_module (codes "X") 58 choices_cost 1090 ≡ Gives (codes "a") 0) × (invoke_module (codes "X") 58 choices_cost 1089 ≡ Spends Steps 0)

-- Of a condition the tests that are made.
--     return {f=function(...)
--     if nil then elseif 1 then elseif 2 then end
--     end}
abbrev pub branches_cost : Block
branches_cost = stats_of (ReturnS 1 (exps_of (TableE 1 (fields_of (
    Pair (TextE 1 (codes "f")) (FunctionE 1 (Lambda [] true (stats_of (IfS 2 (arms_of (Arm (NilE 2) NoStat ∷ Arm (NumberE 2 (pos 1)) NoStat ∷ Arm (NumberE 2 (pos 2)) NoStat ∷ [])) ∷ []))))
    ∷ [])) ∷ [])) ∷ [])

abbrev pub BranchesCost : Type 0
BranchesCost = (invoke_module (codes "X") 72 branches_cost 1101 ≡ Gives [] 0) × (invoke_module (codes "X") 72 branches_cost 1100 ≡ Spends Steps 0)

-- Targets that are indices are nodes; nil makes no entry.
--     return {f=function(...)
--     local t={} t.a,t.b=1
--     end}
abbrev pub targets_cost : Block
targets_cost = stats_of (ReturnS 1 (exps_of (TableE 1 (fields_of (Pair (TextE 1 (codes "f")) (FunctionE 1 (Lambda [] true (stats_of (
    LocalS 2 (codes "t" ∷ []) (exps_of (TableE 2 NoField ∷ []))
    ∷ AssignS 2 (exps_of (IndexE 2 (NameE 2 (codes "t")) (TextE 2 (codes "a")) ∷ IndexE 2 (NameE 2 (codes "t")) (TextE 2 (codes "b")) ∷ [])) (exps_of (NumberE 2 (pos 1) ∷ []))
    ∷ [])))) ∷ [])) ∷ [])) ∷ [])

abbrev pub TargetsCost : Type 0
TargetsCost = (invoke_module (codes "X") 49 targets_cost 1097 ≡ Gives [] 0) × (invoke_module (codes "X") 49 targets_cost 1096 ≡ Spends Steps 0)

-- A link of an assignment costs a step.
--     return {f=function(...)
--     setmetatable({},{__newindex={}}).x=1
--     end}
abbrev pub set_link_costs : Block
set_link_costs = stats_of (ReturnS 1 (exps_of (TableE 1 (fields_of (Pair (TextE 1 (codes "f")) (FunctionE 1 (Lambda [] true (stats_of (AssignS 2 (exps_of (
    IndexE 2 (CallE 2 (NameE 2 (codes "setmetatable")) (exps_of (TableE 2 NoField ∷ TableE 2 (fields_of (Pair (TextE 2 (codes "__newindex")) (TableE 2 NoField) ∷ [])) ∷ []))) (TextE 2 (codes "x"))
    ∷ [])) (exps_of (NumberE 2 (pos 1) ∷ [])) ∷ [])))) ∷ [])) ∷ [])) ∷ [])

abbrev pub SetLinkCosts : Type 0
SetLinkCosts = (invoke_module (codes "X") 65 set_link_costs 1135 ≡ Gives [] 0) × (invoke_module (codes "X") 65 set_link_costs 1134 ≡ Spends Steps 0)

-- `rawset` of a new key costs an entry.
--     return {f=function(...)
--     local t={} rawset(t,1,2) rawset(t,1,3)
--     end}
abbrev pub rawset_costs : Block
rawset_costs = stats_of (ReturnS 1 (exps_of (TableE 1 (fields_of (Pair (TextE 1 (codes "f")) (FunctionE 1 (Lambda [] true (stats_of (
    LocalS 2 (codes "t" ∷ []) (exps_of (TableE 2 NoField ∷ []))
    ∷ CallS 2 (CallE 2 (NameE 2 (codes "rawset")) (exps_of (NameE 2 (codes "t") ∷ NumberE 2 (pos 1) ∷ NumberE 2 (pos 2) ∷ [])))
    ∷ CallS 2 (CallE 2 (NameE 2 (codes "rawset")) (exps_of (NameE 2 (codes "t") ∷ NumberE 2 (pos 1) ∷ NumberE 2 (pos 3) ∷ [])))
    ∷ [])))) ∷ [])) ∷ [])) ∷ [])

abbrev pub RawsetCosts : Type 0
RawsetCosts = (invoke_module (codes "X") 67 rawset_costs 1121 ≡ Gives [] 0) × (invoke_module (codes "X") 67 rawset_costs 1120 ≡ Spends Steps 0)

-- `<=` on texts costs the shorter one too.
--     return {f=function(...)
--     return 'abc'<='abde'
--     end}
abbrev pub at_most_costs : Block
at_most_costs = stats_of (ReturnS 1 (exps_of (TableE 1 (fields_of (
    Pair (TextE 1 (codes "f")) (FunctionE 1 (Lambda [] true (stats_of (ReturnS 2 (exps_of (BinaryE 2 op.Le (TextE 2 (codes "abc")) (TextE 2 (codes "abde")) ∷ [])) ∷ []))))
    ∷ [])) ∷ [])) ∷ [])

abbrev pub AtMostCosts : Type 0
AtMostCosts = (invoke_module (codes "X") 49 at_most_costs 1086 ≡ Gives (codes "true") 0) × (invoke_module (codes "X") 49 at_most_costs 1085 ≡ Spends Steps 0)

-- `next` pays for the cleared entries that it passes at the end.
--     return {f=function(...)
--     local t={1,2} t[2]=nil return next(t,1)
--     end}
abbrev pub end_costs : Block
end_costs = stats_of (ReturnS 1 (exps_of (TableE 1 (fields_of (Pair (TextE 1 (codes "f")) (FunctionE 1 (Lambda [] true (stats_of (
    LocalS 2 (codes "t" ∷ []) (exps_of (TableE 2 (fields_of (Item (NumberE 2 (pos 1)) ∷ Item (NumberE 2 (pos 2)) ∷ [])) ∷ []))
    ∷ AssignS 2 (exps_of (IndexE 2 (NameE 2 (codes "t")) (NumberE 2 (pos 2)) ∷ [])) (exps_of (NilE 2 ∷ []))
    ∷ ReturnS 2 (exps_of (CallE 2 (NameE 2 (codes "next")) (exps_of (NameE 2 (codes "t") ∷ NumberE 2 (pos 1) ∷ [])) ∷ []))
    ∷ [])))) ∷ [])) ∷ [])) ∷ [])

abbrev pub EndCosts : Type 0
EndCosts = (invoke_module (codes "X") 68 end_costs 1129 ≡ Gives (codes "nil") 0) × (invoke_module (codes "X") 68 end_costs 1128 ≡ Spends Steps 0)

-- What a handler of `..` gives costs nothing beyond its call.
--     return {f=function(...)
--     local t=setmetatable({},{__concat=function() return 'abcdef' end}) return #(t..t)
--     end}
abbrev pub handler_makes_no_text : Block
handler_makes_no_text = stats_of (ReturnS 1 (exps_of (TableE 1 (fields_of (Pair (TextE 1 (codes "f")) (FunctionE 1 (Lambda [] true (stats_of (
    LocalS 2 (codes "t" ∷ []) (exps_of (CallE 2 (NameE 2 (codes "setmetatable")) (exps_of (
    TableE 2 NoField
    ∷ TableE 2 (fields_of (
    Pair (TextE 2 (codes "__concat")) (FunctionE 2 (Lambda [] false (stats_of (ReturnS 2 (exps_of (TextE 2 (codes "abcdef") ∷ [])) ∷ []))))
    ∷ []))
    ∷ [])) ∷ []))
    ∷ ReturnS 2 (exps_of (UnaryE 2 sign.Len (ParenE 2 (BinaryE 2 op.Concat (NameE 2 (codes "t")) (NameE 2 (codes "t")))) ∷ []))
    ∷ [])))) ∷ [])) ∷ [])) ∷ [])

abbrev pub HandlerMakesNoText : Type 0
HandlerMakesNoText = (invoke_module (codes "X") 110 handler_makes_no_text 1182 ≡ Gives (codes "6") 0) × (invoke_module (codes "X") 110 handler_makes_no_text 1181 ≡ Spends Steps 0)

-- What `__tostring` gives costs its length.
--     return {f=function(...)
--     local t=setmetatable({},{__tostring=function() return 'abcdef' end}) return #tostring(t)
--     end}
abbrev pub handler_of_text_costs : Block
handler_of_text_costs = stats_of (ReturnS 1 (exps_of (TableE 1 (fields_of (Pair (TextE 1 (codes "f")) (FunctionE 1 (Lambda [] true (stats_of (
    LocalS 2 (codes "t" ∷ []) (exps_of (CallE 2 (NameE 2 (codes "setmetatable")) (exps_of (
    TableE 2 NoField
    ∷ TableE 2 (fields_of (
    Pair (TextE 2 (codes "__tostring")) (FunctionE 2 (Lambda [] false (stats_of (ReturnS 2 (exps_of (TextE 2 (codes "abcdef") ∷ [])) ∷ []))))
    ∷ []))
    ∷ [])) ∷ []))
    ∷ ReturnS 2 (exps_of (UnaryE 2 sign.Len (CallE 2 (NameE 2 (codes "tostring")) (exps_of (NameE 2 (codes "t") ∷ []))) ∷ []))
    ∷ [])))) ∷ [])) ∷ [])) ∷ [])

abbrev pub HandlerOfTextCosts : Type 0
HandlerOfTextCosts = (invoke_module (codes "X") 117 handler_of_text_costs 1195 ≡ Gives (codes "6") 0) × (invoke_module (codes "X") 117 handler_of_text_costs 1194 ≡ Spends Steps 0)

-- In the answer `__tostring` costs what it does, and its text nothing more.
--     return {f=function(...)
--     return setmetatable({},{__tostring=function() return 'abc' end})
--     end}
abbrev pub answer_asks_handlers : Block
answer_asks_handlers = stats_of (ReturnS 1 (exps_of (TableE 1 (fields_of (Pair (TextE 1 (codes "f")) (FunctionE 1 (Lambda [] true (stats_of (ReturnS 2 (exps_of (CallE 2 (NameE 2 (codes "setmetatable")) (exps_of (
    TableE 2 NoField
    ∷ TableE 2 (fields_of (
    Pair (TextE 2 (codes "__tostring")) (FunctionE 2 (Lambda [] false (stats_of (ReturnS 2 (exps_of (TextE 2 (codes "abc") ∷ [])) ∷ []))))
    ∷ []))
    ∷ [])) ∷ [])) ∷ [])))) ∷ [])) ∷ [])) ∷ [])

abbrev pub AnswerAsksHandlers : Type 0
AnswerAsksHandlers = (invoke_module (codes "X") 93 answer_asks_handlers 1161 ≡ Gives (codes "abc") 0) × (invoke_module (codes "X") 93 answer_asks_handlers 1160 ≡ Spends Steps 0)

-- The handler of `xpcall` is called by the library, so level 2 has no place in it: its message costs nothing.
--     return {f=function(...)
--     return xpcall(function() error('x',0) end,function() error('m',2) end)
--     end}
abbrev pub no_levels_in_handlers : Block
no_levels_in_handlers = stats_of (ReturnS 1 (exps_of (TableE 1 (fields_of (Pair (TextE 1 (codes "f")) (FunctionE 1 (Lambda [] true (stats_of (ReturnS 2 (exps_of (CallE 2 (NameE 2 (codes "xpcall")) (exps_of (
    FunctionE 2 (Lambda [] false (stats_of (CallS 2 (CallE 2 (NameE 2 (codes "error")) (exps_of (TextE 2 (codes "x") ∷ NumberE 2 (pos 0) ∷ []))) ∷ [])))
    ∷ FunctionE 2 (Lambda [] false (stats_of (CallS 2 (CallE 2 (NameE 2 (codes "error")) (exps_of (TextE 2 (codes "m") ∷ NumberE 2 (pos 2) ∷ []))) ∷ [])))
    ∷ [])) ∷ [])) ∷ [])))) ∷ [])) ∷ [])) ∷ [])

abbrev pub NoLevelsInHandlers : Type 0
NoLevelsInHandlers = (invoke_module (codes "X") 99 no_levels_in_handlers 1189 ≡ Gives (codes "falseerror in error handling") 0) × (invoke_module (codes "X") 99 no_levels_in_handlers 1188 ≡ Spends Steps 0)

-- `strict` costs a table with two entries.
--     return {f=function(...)
--     return require('strict')
--     end}
abbrev pub require_costs : Block
require_costs = stats_of (ReturnS 1 (exps_of (TableE 1 (fields_of (
    Pair (TextE 1 (codes "f")) (FunctionE 1 (Lambda [] true (stats_of (ReturnS 2 (exps_of (CallE 2 (NameE 2 (codes "require")) (exps_of (TextE 2 (codes "strict") ∷ [])) ∷ [])) ∷ []))))
    ∷ [])) ∷ [])) ∷ [])

abbrev pub RequireCosts : Type 0
RequireCosts = (invoke_module (codes "X") 53 require_costs 1104 ≡ Gives (codes "true") 0) × (invoke_module (codes "X") 53 require_costs 1103 ≡ Spends Steps 0)

-- ALL OF THEM
abbrev pub AllCosts : Type 0
AllCosts =
    Nothing
    × DotsCost
    × WhileCosts
    × RepeatCosts
    × ForCosts
    × EachCosts
    × ClearedCosts
    × JoinsCost
    × OrderCosts
    × EqualityIsFree
    × TextCosts
    × UnpackCosts
    × LinkCosts
    × CallLinkCosts
    × MessageCosts
    × MethodCosts
    × LocalFunctionCosts
    × GlobalCosts
    × ChoicesCost
    × BranchesCost
    × TargetsCost
    × SetLinkCosts
    × RawsetCosts
    × AtMostCosts
    × EndCosts
    × HandlerMakesNoText
    × HandlerOfTextCosts
    × AnswerAsksHandlers
    × NoLevelsInHandlers
    × RequireCosts
