-- FLAT CODE OF SMALL MODULES, beside their resolved code: both end alike, with the same steps.
use Rattle.std.specs.Prelude.{◌≡◌, pos, true, false, [], ◌∷◌, codes}
use Rattle.lua_flat.specs.LuaHeapValue.{Nil, Truth, Number}
use Rattle.lua_flat.specs.LuaMeaningOperators.{Add, Sub, Less, Equal, Concatenate, Calculate}
use Rattle.lua_flat.specs.Operations.{RegisterO, ConstantO, TextO, Exactly, Every, InRegister, PayF, LoadF, DotsF, ClosureF, NamedF, OpenF, GetCellF, GetUpF, GetGlobalF, IndexF, TableF, SetFieldF, OperateF, UnaryF, JumpF, TestF, CompareF, CallF, ReturnF, FlatFunction}
use Rattle.lua_flat.specs.LuaSyntaxDeclaredUnaryOpTheVariants as sign
use Rattle.lua_flat.specs.LuaSlotsCode.{Reg, Box, Up, ConstantC, TextC, DotsC, FunctionC, LocalC, GlobalC, IndexC, CallC, TableC, AndC, OrC, OperateC, UnaryC, ParenC, NoC, MoreC, NoFieldC, PairC, PlaceC, AssignC, CallStatC, WhileC, IfC, ReturnC, EndC, DeclareC, LocalFunctionC, ThenC, NoArmC, ArmC, CProto, Protos}
use Rattle.lua_flat.specs.LuaSlotsTrial.{code_with}
use Rattle.lua_flat.specs.IsStatement.{IsFlatFunction}
use Rattle.lua_flat.specs.Trial.{flat_invoke}
use Rattle.lua_flat.specs.LuaSlotsTrial as run

-- Tests by `and`, `or` and `not`.
--     return {f=function(...)
--     local function t(a,b) local s='' if a and b then s=s..'1' end if a or b then s=s..'2' end if not a and not b or a==b then s=s..'3' end while not (a or b) do a=1 s=s..'4' end return s end
--     return t(true,true),t(true,false),t(false,nil),t(nil,1)
--     end}
abbrev pub tests_0 : CProto
tests_0 = record { flags = []; dots = false; body = (ThenC (ReturnC (MoreC (TableC (PairC (TextC 0) (FunctionC 1 []) NoFieldC) 1) NoC)) EndC) }

abbrev pub tests_1 : CProto
tests_1 = record { flags = []; dots = true; body = (LocalFunctionC false 2 [] (ThenC (ReturnC (MoreC (CallC (LocalC (Reg 0)) (MoreC (ConstantC (Truth true)) (MoreC (ConstantC (Truth true)) NoC)) 3) (MoreC (CallC (LocalC (Reg 0)) (MoreC (ConstantC (Truth true)) (MoreC (ConstantC (Truth false)) NoC)) 3) (MoreC (CallC (LocalC (Reg 0)) (MoreC (ConstantC (Truth false)) (MoreC (ConstantC Nil) NoC)) 3) (MoreC (CallC (LocalC (Reg 0)) (MoreC (ConstantC Nil) (MoreC (ConstantC (Number (pos 1))) NoC)) 3) NoC))))) EndC)) }

abbrev pub tests_2 : CProto
tests_2 = record { flags = (false ∷ false ∷ []); dots = false; body = (DeclareC (false ∷ []) (MoreC (TextC 1) NoC) (ThenC (IfC (ArmC (AndC (LocalC (Reg 2)) (LocalC (Reg 1))) (ThenC (AssignC ((PlaceC (Reg 0)) ∷ []) (MoreC (OperateC Concatenate (LocalC (Reg 0)) (TextC 2) 2) NoC)) EndC) NoArmC)) (ThenC (IfC (ArmC (OrC (LocalC (Reg 2)) (LocalC (Reg 1))) (ThenC (AssignC ((PlaceC (Reg 0)) ∷ []) (MoreC (OperateC Concatenate (LocalC (Reg 0)) (TextC 3) 2) NoC)) EndC) NoArmC)) (ThenC (IfC (ArmC (OrC (AndC (UnaryC sign.Not (LocalC (Reg 2)) 2) (UnaryC sign.Not (LocalC (Reg 1)) 2)) (OperateC Equal (LocalC (Reg 2)) (LocalC (Reg 1)) 2)) (ThenC (AssignC ((PlaceC (Reg 0)) ∷ []) (MoreC (OperateC Concatenate (LocalC (Reg 0)) (TextC 4) 2) NoC)) EndC) NoArmC)) (ThenC (WhileC (UnaryC sign.Not (ParenC (OrC (LocalC (Reg 2)) (LocalC (Reg 1)))) 2) (ThenC (AssignC ((PlaceC (Reg 2)) ∷ []) (MoreC (ConstantC (Number (pos 1))) NoC)) (ThenC (AssignC ((PlaceC (Reg 0)) ∷ []) (MoreC (OperateC Concatenate (LocalC (Reg 0)) (TextC 5) 2) NoC)) EndC))) (ThenC (ReturnC (MoreC (LocalC (Reg 0)) NoC)) EndC)))))) }

abbrev pub tests_code : Protos
tests_code = code_with (codes "f" ∷ codes "" ∷ codes "1" ∷ codes "2" ∷ codes "3" ∷ codes "4" ∷ []) (tests_0 ∷ tests_1 ∷ tests_2 ∷ [])

abbrev pub tests_flat_0 : FlatFunction
tests_flat_0 = record {
  flags = [];
  dots = false;
  registers = 2;
  steps =
      record { charge = 2; op = TableF 0 } ∷
      record { charge = 2; op = ClosureF 1 1 [] } ∷
      record { charge = 0; op = SetFieldF 0 (TextO 0) (RegisterO 1) } ∷
      record { charge = 0; op = ReturnF 0 (Exactly 1) } ∷
      record { charge = 0; op = ReturnF 0 (Exactly 0) } ∷ [];
  lines = 0 ∷ 0 ∷ 1 ∷ 0 ∷ 0 ∷ [];
}

abbrev pub tests_flat_1 : FlatFunction
tests_flat_1 = record {
  flags = [];
  dots = true;
  registers = 7;
  steps =
      record { charge = 1; op = NamedF false 0 2 [] } ∷
      record { charge = 3; op = LoadF 2 (RegisterO 0) } ∷
      record { charge = 1; op = LoadF 3 (ConstantO (Truth true)) } ∷
      record { charge = 1; op = LoadF 4 (ConstantO (Truth true)) } ∷
      record { charge = 0; op = CallF 1 2 (Exactly 2) (Exactly 1) } ∷
      record { charge = 2; op = LoadF 3 (RegisterO 0) } ∷
      record { charge = 1; op = LoadF 4 (ConstantO (Truth true)) } ∷
      record { charge = 1; op = LoadF 5 (ConstantO (Truth false)) } ∷
      record { charge = 0; op = CallF 2 3 (Exactly 2) (Exactly 1) } ∷
      record { charge = 2; op = LoadF 4 (RegisterO 0) } ∷
      record { charge = 1; op = LoadF 5 (ConstantO (Truth false)) } ∷
      record { charge = 1; op = LoadF 6 (ConstantO Nil) } ∷
      record { charge = 0; op = CallF 3 4 (Exactly 2) (Exactly 1) } ∷
      record { charge = 2; op = LoadF 4 (RegisterO 0) } ∷
      record { charge = 1; op = LoadF 5 (ConstantO Nil) } ∷
      record { charge = 1; op = LoadF 6 (ConstantO (Number (pos 1))) } ∷
      record { charge = 0; op = CallF 4 4 (Exactly 2) Every } ∷
      record { charge = 0; op = ReturnF 1 Every } ∷
      record { charge = 0; op = ReturnF 0 (Exactly 0) } ∷ [];
  lines = 0 ∷ 0 ∷ 0 ∷ 0 ∷ 3 ∷ 0 ∷ 0 ∷ 0 ∷ 3 ∷ 0 ∷ 0 ∷ 0 ∷ 3 ∷ 0 ∷ 0 ∷ 0 ∷ 3 ∷ 0 ∷ 0 ∷ [];
}

abbrev pub tests_flat_2 : FlatFunction
tests_flat_2 = record {
  flags = (false ∷ false ∷ []);
  dots = false;
  registers = 3;
  steps =
      record { charge = 2; op = LoadF 2 (TextO 1) } ∷
      record { charge = 3; op = TestF false (RegisterO 0) 4 } ∷
      record { charge = 1; op = TestF false (RegisterO 1) 4 } ∷
      record { charge = 4; op = OperateF Concatenate 2 (RegisterO 2) (TextO 2) } ∷
      record { charge = 3; op = TestF true (RegisterO 0) 6 } ∷
      record { charge = 1; op = TestF false (RegisterO 1) 7 } ∷
      record { charge = 4; op = OperateF Concatenate 2 (RegisterO 2) (TextO 3) } ∷
      record { charge = 5; op = TestF true (RegisterO 0) 9 } ∷
      record { charge = 2; op = TestF false (RegisterO 1) 10 } ∷
      record { charge = 3; op = CompareF Equal (RegisterO 0) (RegisterO 1) false 11 } ∷
      record { charge = 4; op = OperateF Concatenate 2 (RegisterO 2) (TextO 4) } ∷
      record { charge = 1; op = PayF } ∷
      record { charge = 4; op = TestF true (RegisterO 0) 17 } ∷
      record { charge = 1; op = TestF true (RegisterO 1) 17 } ∷
      record { charge = 3; op = LoadF 0 (ConstantO (Number (pos 1))) } ∷
      record { charge = 4; op = OperateF Concatenate 2 (RegisterO 2) (TextO 5) } ∷
      record { charge = 0; op = JumpF 12 } ∷
      record { charge = 2; op = ReturnF 2 (Exactly 1) } ∷
      record { charge = 0; op = ReturnF 0 (Exactly 0) } ∷ [];
  lines = 0 ∷ 0 ∷ 0 ∷ 2 ∷ 0 ∷ 0 ∷ 2 ∷ 0 ∷ 0 ∷ 2 ∷ 2 ∷ 0 ∷ 0 ∷ 0 ∷ 0 ∷ 2 ∷ 0 ∷ 0 ∷ 0 ∷ [];
}

abbrev pub TestsFlatAlike : Type 0
TestsFlatAlike = flat_invoke (codes "X") 271 tests_code (tests_flat_0 ∷ tests_flat_1 ∷ tests_flat_2 ∷ []) 20000 ≡ run.invoke_module (codes "X") 271 tests_code 20000

abbrev pub TestsIsFlat : Type 0
TestsIsFlat = IsFlatFunction tests_0 tests_flat_0 × IsFlatFunction tests_1 tests_flat_1 × IsFlatFunction tests_2 tests_flat_2

-- `and` and `or` as values.
--     return {f=function(...)
--     local function c(x) return x and x.y or 'none' end return c(nil),c({}),c({y=1}),(nil or false) and 1 or 2,1 and nil
--     end}
abbrev pub choices_0 : CProto
choices_0 = record { flags = []; dots = false; body = (ThenC (ReturnC (MoreC (TableC (PairC (TextC 0) (FunctionC 1 []) NoFieldC) 1) NoC)) EndC) }

abbrev pub choices_1 : CProto
choices_1 = record { flags = []; dots = true; body = (LocalFunctionC false 2 [] (ThenC (ReturnC (MoreC (CallC (LocalC (Reg 0)) (MoreC (ConstantC Nil) NoC) 2) (MoreC (CallC (LocalC (Reg 0)) (MoreC (TableC NoFieldC 2) NoC) 2) (MoreC (CallC (LocalC (Reg 0)) (MoreC (TableC (PairC (TextC 1) (ConstantC (Number (pos 1))) NoFieldC) 2) NoC) 2) (MoreC (OrC (AndC (ParenC (OrC (ConstantC Nil) (ConstantC (Truth false)))) (ConstantC (Number (pos 1)))) (ConstantC (Number (pos 2)))) (MoreC (AndC (ConstantC (Number (pos 1))) (ConstantC Nil)) NoC)))))) EndC)) }

abbrev pub choices_2 : CProto
choices_2 = record { flags = (false ∷ []); dots = false; body = (ThenC (ReturnC (MoreC (OrC (AndC (LocalC (Reg 0)) (IndexC (LocalC (Reg 0)) (TextC 1) 2)) (TextC 2)) NoC)) EndC) }

abbrev pub choices_code : Protos
choices_code = code_with (codes "f" ∷ codes "y" ∷ codes "none" ∷ []) (choices_0 ∷ choices_1 ∷ choices_2 ∷ [])

abbrev pub choices_flat_0 : FlatFunction
choices_flat_0 = record {
  flags = [];
  dots = false;
  registers = 2;
  steps =
      record { charge = 2; op = TableF 0 } ∷
      record { charge = 2; op = ClosureF 1 1 [] } ∷
      record { charge = 0; op = SetFieldF 0 (TextO 0) (RegisterO 1) } ∷
      record { charge = 0; op = ReturnF 0 (Exactly 1) } ∷
      record { charge = 0; op = ReturnF 0 (Exactly 0) } ∷ [];
  lines = 0 ∷ 0 ∷ 1 ∷ 0 ∷ 0 ∷ [];
}

abbrev pub choices_flat_1 : FlatFunction
choices_flat_1 = record {
  flags = [];
  dots = true;
  registers = 6;
  steps =
      record { charge = 1; op = NamedF false 0 2 [] } ∷
      record { charge = 3; op = LoadF 2 (RegisterO 0) } ∷
      record { charge = 1; op = LoadF 3 (ConstantO Nil) } ∷
      record { charge = 0; op = CallF 1 2 (Exactly 1) (Exactly 1) } ∷
      record { charge = 2; op = LoadF 3 (RegisterO 0) } ∷
      record { charge = 1; op = TableF 4 } ∷
      record { charge = 0; op = CallF 2 3 (Exactly 1) (Exactly 1) } ∷
      record { charge = 2; op = LoadF 4 (RegisterO 0) } ∷
      record { charge = 1; op = TableF 5 } ∷
      record { charge = 2; op = SetFieldF 5 (TextO 1) (ConstantO (Number (pos 1))) } ∷
      record { charge = 0; op = CallF 3 4 (Exactly 1) (Exactly 1) } ∷
      record { charge = 5; op = LoadF 4 (ConstantO Nil) } ∷
      record { charge = 0; op = TestF true (RegisterO 4) 14 } ∷
      record { charge = 1; op = LoadF 4 (ConstantO (Truth false)) } ∷
      record { charge = 0; op = TestF false (RegisterO 4) 16 } ∷
      record { charge = 1; op = LoadF 4 (ConstantO (Number (pos 1))) } ∷
      record { charge = 0; op = TestF true (RegisterO 4) 18 } ∷
      record { charge = 1; op = LoadF 4 (ConstantO (Number (pos 2))) } ∷
      record { charge = 2; op = LoadF 5 (ConstantO (Number (pos 1))) } ∷
      record { charge = 0; op = TestF false (RegisterO 5) 21 } ∷
      record { charge = 1; op = LoadF 5 (ConstantO Nil) } ∷
      record { charge = 0; op = ReturnF 1 (Exactly 5) } ∷
      record { charge = 0; op = ReturnF 0 (Exactly 0) } ∷ [];
  lines = 0 ∷ 0 ∷ 0 ∷ 2 ∷ 0 ∷ 0 ∷ 2 ∷ 0 ∷ 0 ∷ 2 ∷ 2 ∷ 0 ∷ 0 ∷ 0 ∷ 0 ∷ 0 ∷ 0 ∷ 0 ∷ 0 ∷ 0 ∷ 0 ∷ 0 ∷ 0 ∷ [];
}

abbrev pub choices_flat_2 : FlatFunction
choices_flat_2 = record {
  flags = (false ∷ []);
  dots = false;
  registers = 2;
  steps =
      record { charge = 4; op = LoadF 1 (RegisterO 0) } ∷
      record { charge = 0; op = TestF false (RegisterO 1) 3 } ∷
      record { charge = 3; op = IndexF 1 (RegisterO 0) (TextO 1) } ∷
      record { charge = 0; op = TestF true (RegisterO 1) 5 } ∷
      record { charge = 1; op = LoadF 1 (TextO 2) } ∷
      record { charge = 0; op = ReturnF 1 (Exactly 1) } ∷
      record { charge = 0; op = ReturnF 0 (Exactly 0) } ∷ [];
  lines = 0 ∷ 0 ∷ 2 ∷ 0 ∷ 0 ∷ 0 ∷ 0 ∷ [];
}

abbrev pub ChoicesFlatAlike : Type 0
ChoicesFlatAlike = flat_invoke (codes "X") 144 choices_code (choices_flat_0 ∷ choices_flat_1 ∷ choices_flat_2 ∷ []) 20000 ≡ run.invoke_module (codes "X") 144 choices_code 20000

abbrev pub ChoicesIsFlat : Type 0
ChoicesIsFlat = IsFlatFunction choices_0 choices_flat_0 × IsFlatFunction choices_1 choices_flat_1 × IsFlatFunction choices_2 choices_flat_2

-- Errors that are no texts, and errors of operators.
--     return {f=function(...)
--     local function m(f,...) return select(2,pcall(f,...)) end
--     local t={} return tostring(m(error,t)==t),m(function() return t.x.y end),m(function(a) return a+1 end,'z'),m(function() return #nil end),m(function() t() end)
--     end}
abbrev pub error_values_0 : CProto
error_values_0 = record { flags = []; dots = false; body = (ThenC (ReturnC (MoreC (TableC (PairC (TextC 0) (FunctionC 1 []) NoFieldC) 1) NoC)) EndC) }

abbrev pub error_values_1 : CProto
error_values_1 = record { flags = []; dots = true; body = (LocalFunctionC false 2 [] (DeclareC (true ∷ []) (MoreC (TableC NoFieldC 3) NoC) (ThenC (ReturnC (MoreC (CallC (GlobalC 3 3) (MoreC (OperateC Equal (CallC (LocalC (Reg 1)) (MoreC (GlobalC 4 3) (MoreC (LocalC (Box 0)) NoC)) 3) (LocalC (Box 0)) 3) NoC) 3) (MoreC (CallC (LocalC (Reg 1)) (MoreC (FunctionC 3 ((Box 0) ∷ [])) NoC) 3) (MoreC (CallC (LocalC (Reg 1)) (MoreC (FunctionC 4 []) (MoreC (TextC 7) NoC)) 3) (MoreC (CallC (LocalC (Reg 1)) (MoreC (FunctionC 5 []) NoC) 3) (MoreC (CallC (LocalC (Reg 1)) (MoreC (FunctionC 6 ((Box 0) ∷ [])) NoC) 3) NoC)))))) EndC))) }

abbrev pub error_values_2 : CProto
error_values_2 = record { flags = (false ∷ []); dots = true; body = (ThenC (ReturnC (MoreC (CallC (GlobalC 1 2) (MoreC (ConstantC (Number (pos 2))) (MoreC (CallC (GlobalC 2 2) (MoreC (LocalC (Reg 0)) (MoreC DotsC NoC)) 2) NoC)) 2) NoC)) EndC) }

abbrev pub error_values_3 : CProto
error_values_3 = record { flags = []; dots = false; body = (ThenC (ReturnC (MoreC (IndexC (IndexC (LocalC (Up 0)) (TextC 5) 3) (TextC 6) 3) NoC)) EndC) }

abbrev pub error_values_4 : CProto
error_values_4 = record { flags = (false ∷ []); dots = false; body = (ThenC (ReturnC (MoreC (OperateC (Calculate Add) (LocalC (Reg 0)) (ConstantC (Number (pos 1))) 3) NoC)) EndC) }

abbrev pub error_values_5 : CProto
error_values_5 = record { flags = []; dots = false; body = (ThenC (ReturnC (MoreC (UnaryC sign.Len (ConstantC Nil) 3) NoC)) EndC) }

abbrev pub error_values_6 : CProto
error_values_6 = record { flags = []; dots = false; body = (ThenC (CallStatC (CallC (LocalC (Up 0)) NoC 3)) EndC) }

abbrev pub error_values_code : Protos
error_values_code = code_with (codes "f" ∷ codes "select" ∷ codes "pcall" ∷ codes "tostring" ∷ codes "error" ∷ codes "x" ∷ codes "y" ∷ codes "z" ∷ []) (error_values_0 ∷ error_values_1 ∷ error_values_2 ∷ error_values_3 ∷ error_values_4 ∷ error_values_5 ∷ error_values_6 ∷ [])

abbrev pub error_values_flat_0 : FlatFunction
error_values_flat_0 = record {
  flags = [];
  dots = false;
  registers = 2;
  steps =
      record { charge = 2; op = TableF 0 } ∷
      record { charge = 2; op = ClosureF 1 1 [] } ∷
      record { charge = 0; op = SetFieldF 0 (TextO 0) (RegisterO 1) } ∷
      record { charge = 0; op = ReturnF 0 (Exactly 1) } ∷
      record { charge = 0; op = ReturnF 0 (Exactly 0) } ∷ [];
  lines = 0 ∷ 0 ∷ 1 ∷ 0 ∷ 0 ∷ [];
}

abbrev pub error_values_flat_1 : FlatFunction
error_values_flat_1 = record {
  flags = [];
  dots = true;
  registers = 9;
  steps =
      record { charge = 1; op = NamedF false 0 2 [] } ∷
      record { charge = 2; op = TableF 1 } ∷
      record { charge = 0; op = OpenF 1 (true ∷ []) } ∷
      record { charge = 3; op = GetGlobalF 3 3 } ∷
      record { charge = 3; op = LoadF 6 (RegisterO 0) } ∷
      record { charge = 1; op = GetGlobalF 7 4 } ∷
      record { charge = 1; op = GetCellF 8 1 } ∷
      record { charge = 0; op = CallF 5 6 (Exactly 2) (Exactly 1) } ∷
      record { charge = 1; op = GetCellF 6 1 } ∷
      record { charge = 0; op = OperateF Equal 4 (RegisterO 5) (RegisterO 6) } ∷
      record { charge = 0; op = CallF 2 3 (Exactly 1) (Exactly 1) } ∷
      record { charge = 2; op = LoadF 4 (RegisterO 0) } ∷
      record { charge = 1; op = ClosureF 5 3 ((InRegister 1) ∷ []) } ∷
      record { charge = 0; op = CallF 3 4 (Exactly 1) (Exactly 1) } ∷
      record { charge = 2; op = LoadF 5 (RegisterO 0) } ∷
      record { charge = 1; op = ClosureF 6 4 [] } ∷
      record { charge = 1; op = LoadF 7 (TextO 7) } ∷
      record { charge = 0; op = CallF 4 5 (Exactly 2) (Exactly 1) } ∷
      record { charge = 2; op = LoadF 6 (RegisterO 0) } ∷
      record { charge = 1; op = ClosureF 7 5 [] } ∷
      record { charge = 0; op = CallF 5 6 (Exactly 1) (Exactly 1) } ∷
      record { charge = 2; op = LoadF 6 (RegisterO 0) } ∷
      record { charge = 1; op = ClosureF 7 6 ((InRegister 1) ∷ []) } ∷
      record { charge = 0; op = CallF 6 6 (Exactly 1) Every } ∷
      record { charge = 0; op = ReturnF 2 Every } ∷
      record { charge = 0; op = ReturnF 0 (Exactly 0) } ∷ [];
  lines = 0 ∷ 0 ∷ 0 ∷ 3 ∷ 0 ∷ 3 ∷ 0 ∷ 3 ∷ 0 ∷ 3 ∷ 3 ∷ 0 ∷ 0 ∷ 3 ∷ 0 ∷ 0 ∷ 0 ∷ 3 ∷ 0 ∷ 0 ∷ 3 ∷ 0 ∷ 0 ∷ 3 ∷ 0 ∷ 0 ∷ [];
}

abbrev pub error_values_flat_2 : FlatFunction
error_values_flat_2 = record {
  flags = (false ∷ []);
  dots = true;
  registers = 5;
  steps =
      record { charge = 3; op = GetGlobalF 1 1 } ∷
      record { charge = 1; op = LoadF 2 (ConstantO (Number (pos 2))) } ∷
      record { charge = 2; op = GetGlobalF 3 2 } ∷
      record { charge = 1; op = LoadF 4 (RegisterO 0) } ∷
      record { charge = 1; op = DotsF 5 Every } ∷
      record { charge = 0; op = CallF 3 3 Every Every } ∷
      record { charge = 0; op = CallF 1 1 Every Every } ∷
      record { charge = 0; op = ReturnF 1 Every } ∷
      record { charge = 0; op = ReturnF 0 (Exactly 0) } ∷ [];
  lines = 2 ∷ 0 ∷ 2 ∷ 0 ∷ 0 ∷ 2 ∷ 2 ∷ 0 ∷ 0 ∷ [];
}

abbrev pub error_values_flat_3 : FlatFunction
error_values_flat_3 = record {
  flags = [];
  dots = false;
  registers = 3;
  steps =
      record { charge = 4; op = GetUpF 2 0 } ∷
      record { charge = 1; op = IndexF 1 (RegisterO 2) (TextO 5) } ∷
      record { charge = 1; op = IndexF 0 (RegisterO 1) (TextO 6) } ∷
      record { charge = 0; op = ReturnF 0 (Exactly 1) } ∷
      record { charge = 0; op = ReturnF 0 (Exactly 0) } ∷ [];
  lines = 0 ∷ 3 ∷ 3 ∷ 0 ∷ 0 ∷ [];
}

abbrev pub error_values_flat_4 : FlatFunction
error_values_flat_4 = record {
  flags = (false ∷ []);
  dots = false;
  registers = 2;
  steps =
      record { charge = 4; op = OperateF (Calculate Add) 1 (RegisterO 0) (ConstantO (Number (pos 1))) } ∷
      record { charge = 0; op = ReturnF 1 (Exactly 1) } ∷
      record { charge = 0; op = ReturnF 0 (Exactly 0) } ∷ [];
  lines = 3 ∷ 0 ∷ 0 ∷ [];
}

abbrev pub error_values_flat_5 : FlatFunction
error_values_flat_5 = record {
  flags = [];
  dots = false;
  registers = 1;
  steps =
      record { charge = 3; op = UnaryF sign.Len 0 (ConstantO Nil) } ∷
      record { charge = 0; op = ReturnF 0 (Exactly 1) } ∷
      record { charge = 0; op = ReturnF 0 (Exactly 0) } ∷ [];
  lines = 3 ∷ 0 ∷ 0 ∷ [];
}

abbrev pub error_values_flat_6 : FlatFunction
error_values_flat_6 = record {
  flags = [];
  dots = false;
  registers = 1;
  steps =
      record { charge = 3; op = GetUpF 0 0 } ∷
      record { charge = 0; op = CallF 0 0 (Exactly 0) (Exactly 0) } ∷
      record { charge = 0; op = ReturnF 0 (Exactly 0) } ∷ [];
  lines = 0 ∷ 3 ∷ 0 ∷ [];
}

abbrev pub ErrorValuesFlatAlike : Type 0
ErrorValuesFlatAlike = flat_invoke (codes "X") 245 error_values_code (error_values_flat_0 ∷ error_values_flat_1 ∷ error_values_flat_2 ∷ error_values_flat_3 ∷ error_values_flat_4 ∷ error_values_flat_5 ∷ error_values_flat_6 ∷ []) 20000 ≡ run.invoke_module (codes "X") 245 error_values_code 20000

abbrev pub ErrorValuesIsFlat : Type 0
ErrorValuesIsFlat = IsFlatFunction error_values_0 error_values_flat_0 × IsFlatFunction error_values_1 error_values_flat_1 × IsFlatFunction error_values_2 error_values_flat_2 × IsFlatFunction error_values_3 error_values_flat_3 × IsFlatFunction error_values_4 error_values_flat_4 × IsFlatFunction error_values_5 error_values_flat_5 × IsFlatFunction error_values_6 error_values_flat_6

-- Protected calls in one another.
--     return {f=function(...)
--     local ok,a,b=pcall(function(x) local ok2,e=pcall(error,x) return e,ok2 end,'k') return tostring(ok),a,tostring(b),tostring(pcall(pcall)),tostring(xpcall(function() error('q',0) end,function(e) return e..'h' end))
--     end}
abbrev pub nested_pcall_0 : CProto
nested_pcall_0 = record { flags = []; dots = false; body = (ThenC (ReturnC (MoreC (TableC (PairC (TextC 0) (FunctionC 1 []) NoFieldC) 1) NoC)) EndC) }

abbrev pub nested_pcall_1 : CProto
nested_pcall_1 = record { flags = []; dots = true; body = (DeclareC (false ∷ (false ∷ (false ∷ []))) (MoreC (CallC (GlobalC 1 2) (MoreC (FunctionC 2 []) (MoreC (TextC 3) NoC)) 2) NoC) (ThenC (ReturnC (MoreC (CallC (GlobalC 4 2) (MoreC (LocalC (Reg 2)) NoC) 2) (MoreC (LocalC (Reg 1)) (MoreC (CallC (GlobalC 4 2) (MoreC (LocalC (Reg 0)) NoC) 2) (MoreC (CallC (GlobalC 4 2) (MoreC (CallC (GlobalC 1 2) (MoreC (GlobalC 1 2) NoC) 2) NoC) 2) (MoreC (CallC (GlobalC 4 2) (MoreC (CallC (GlobalC 5 2) (MoreC (FunctionC 3 []) (MoreC (FunctionC 4 []) NoC)) 2) NoC) 2) NoC)))))) EndC)) }

abbrev pub nested_pcall_2 : CProto
nested_pcall_2 = record { flags = (false ∷ []); dots = false; body = (DeclareC (false ∷ (false ∷ [])) (MoreC (CallC (GlobalC 1 2) (MoreC (GlobalC 2 2) (MoreC (LocalC (Reg 0)) NoC)) 2) NoC) (ThenC (ReturnC (MoreC (LocalC (Reg 0)) (MoreC (LocalC (Reg 1)) NoC))) EndC)) }

abbrev pub nested_pcall_3 : CProto
nested_pcall_3 = record { flags = []; dots = false; body = (ThenC (CallStatC (CallC (GlobalC 2 2) (MoreC (TextC 6) (MoreC (ConstantC (Number (pos 0))) NoC)) 2)) EndC) }

abbrev pub nested_pcall_4 : CProto
nested_pcall_4 = record { flags = (false ∷ []); dots = false; body = (ThenC (ReturnC (MoreC (OperateC Concatenate (LocalC (Reg 0)) (TextC 7) 2) NoC)) EndC) }

abbrev pub nested_pcall_code : Protos
nested_pcall_code = code_with (codes "f" ∷ codes "pcall" ∷ codes "error" ∷ codes "k" ∷ codes "tostring" ∷ codes "xpcall" ∷ codes "q" ∷ codes "h" ∷ []) (nested_pcall_0 ∷ nested_pcall_1 ∷ nested_pcall_2 ∷ nested_pcall_3 ∷ nested_pcall_4 ∷ [])

abbrev pub nested_pcall_flat_0 : FlatFunction
nested_pcall_flat_0 = record {
  flags = [];
  dots = false;
  registers = 2;
  steps =
      record { charge = 2; op = TableF 0 } ∷
      record { charge = 2; op = ClosureF 1 1 [] } ∷
      record { charge = 0; op = SetFieldF 0 (TextO 0) (RegisterO 1) } ∷
      record { charge = 0; op = ReturnF 0 (Exactly 1) } ∷
      record { charge = 0; op = ReturnF 0 (Exactly 0) } ∷ [];
  lines = 0 ∷ 0 ∷ 1 ∷ 0 ∷ 0 ∷ [];
}

abbrev pub nested_pcall_flat_1 : FlatFunction
nested_pcall_flat_1 = record {
  flags = [];
  dots = true;
  registers = 11;
  steps =
      record { charge = 3; op = GetGlobalF 0 1 } ∷
      record { charge = 1; op = ClosureF 1 2 [] } ∷
      record { charge = 1; op = LoadF 2 (TextO 3) } ∷
      record { charge = 0; op = CallF 0 0 (Exactly 2) (Exactly 3) } ∷
      record { charge = 3; op = GetGlobalF 4 4 } ∷
      record { charge = 1; op = LoadF 5 (RegisterO 0) } ∷
      record { charge = 0; op = CallF 3 4 (Exactly 1) (Exactly 1) } ∷
      record { charge = 1; op = LoadF 4 (RegisterO 1) } ∷
      record { charge = 2; op = GetGlobalF 6 4 } ∷
      record { charge = 1; op = LoadF 7 (RegisterO 2) } ∷
      record { charge = 0; op = CallF 5 6 (Exactly 1) (Exactly 1) } ∷
      record { charge = 2; op = GetGlobalF 7 4 } ∷
      record { charge = 2; op = GetGlobalF 8 1 } ∷
      record { charge = 1; op = GetGlobalF 9 1 } ∷
      record { charge = 0; op = CallF 8 8 (Exactly 1) Every } ∷
      record { charge = 0; op = CallF 6 7 Every (Exactly 1) } ∷
      record { charge = 2; op = GetGlobalF 7 4 } ∷
      record { charge = 2; op = GetGlobalF 8 5 } ∷
      record { charge = 1; op = ClosureF 9 3 [] } ∷
      record { charge = 1; op = ClosureF 10 4 [] } ∷
      record { charge = 0; op = CallF 8 8 (Exactly 2) Every } ∷
      record { charge = 0; op = CallF 7 7 Every Every } ∷
      record { charge = 0; op = ReturnF 3 Every } ∷
      record { charge = 0; op = ReturnF 0 (Exactly 0) } ∷ [];
  lines = 2 ∷ 0 ∷ 0 ∷ 2 ∷ 2 ∷ 0 ∷ 2 ∷ 0 ∷ 2 ∷ 0 ∷ 2 ∷ 2 ∷ 2 ∷ 2 ∷ 2 ∷ 2 ∷ 2 ∷ 2 ∷ 0 ∷ 0 ∷ 2 ∷ 2 ∷ 0 ∷ 0 ∷ [];
}

abbrev pub nested_pcall_flat_2 : FlatFunction
nested_pcall_flat_2 = record {
  flags = (false ∷ []);
  dots = false;
  registers = 5;
  steps =
      record { charge = 3; op = GetGlobalF 1 1 } ∷
      record { charge = 1; op = GetGlobalF 2 2 } ∷
      record { charge = 1; op = LoadF 3 (RegisterO 0) } ∷
      record { charge = 0; op = CallF 1 1 (Exactly 2) (Exactly 2) } ∷
      record { charge = 2; op = LoadF 3 (RegisterO 2) } ∷
      record { charge = 1; op = LoadF 4 (RegisterO 1) } ∷
      record { charge = 0; op = ReturnF 3 (Exactly 2) } ∷
      record { charge = 0; op = ReturnF 0 (Exactly 0) } ∷ [];
  lines = 2 ∷ 2 ∷ 0 ∷ 2 ∷ 0 ∷ 0 ∷ 0 ∷ 0 ∷ [];
}

abbrev pub nested_pcall_flat_3 : FlatFunction
nested_pcall_flat_3 = record {
  flags = [];
  dots = false;
  registers = 3;
  steps =
      record { charge = 3; op = GetGlobalF 0 2 } ∷
      record { charge = 1; op = LoadF 1 (TextO 6) } ∷
      record { charge = 1; op = LoadF 2 (ConstantO (Number (pos 0))) } ∷
      record { charge = 0; op = CallF 0 0 (Exactly 2) (Exactly 0) } ∷
      record { charge = 0; op = ReturnF 0 (Exactly 0) } ∷ [];
  lines = 2 ∷ 0 ∷ 0 ∷ 2 ∷ 0 ∷ [];
}

abbrev pub nested_pcall_flat_4 : FlatFunction
nested_pcall_flat_4 = record {
  flags = (false ∷ []);
  dots = false;
  registers = 2;
  steps =
      record { charge = 4; op = OperateF Concatenate 1 (RegisterO 0) (TextO 7) } ∷
      record { charge = 0; op = ReturnF 1 (Exactly 1) } ∷
      record { charge = 0; op = ReturnF 0 (Exactly 0) } ∷ [];
  lines = 2 ∷ 0 ∷ 0 ∷ [];
}

abbrev pub NestedPcallFlatAlike : Type 0
NestedPcallFlatAlike = flat_invoke (codes "X") 241 nested_pcall_code (nested_pcall_flat_0 ∷ nested_pcall_flat_1 ∷ nested_pcall_flat_2 ∷ nested_pcall_flat_3 ∷ nested_pcall_flat_4 ∷ []) 20000 ≡ run.invoke_module (codes "X") 241 nested_pcall_code 20000

abbrev pub NestedPcallIsFlat : Type 0
NestedPcallIsFlat = IsFlatFunction nested_pcall_0 nested_pcall_flat_0 × IsFlatFunction nested_pcall_1 nested_pcall_flat_1 × IsFlatFunction nested_pcall_2 nested_pcall_flat_2 × IsFlatFunction nested_pcall_3 nested_pcall_flat_3 × IsFlatFunction nested_pcall_4 nested_pcall_flat_4

-- A function that calls itself.
--     return {f=function(...)
--     local function fib(n) if n<2 then return n end return fib(n-1)+fib(n-2) end return fib(5)
--     end}
abbrev pub fib_0 : CProto
fib_0 = record { flags = []; dots = false; body = (ThenC (ReturnC (MoreC (TableC (PairC (TextC 0) (FunctionC 1 []) NoFieldC) 1) NoC)) EndC) }

abbrev pub fib_1 : CProto
fib_1 = record { flags = []; dots = true; body = (LocalFunctionC true 2 ((Box 0) ∷ []) (ThenC (ReturnC (MoreC (CallC (LocalC (Box 0)) (MoreC (ConstantC (Number (pos 5))) NoC) 2) NoC)) EndC)) }

abbrev pub fib_2 : CProto
fib_2 = record { flags = (false ∷ []); dots = false; body = (ThenC (IfC (ArmC (OperateC Less (LocalC (Reg 0)) (ConstantC (Number (pos 2))) 2) (ThenC (ReturnC (MoreC (LocalC (Reg 0)) NoC)) EndC) NoArmC)) (ThenC (ReturnC (MoreC (OperateC (Calculate Add) (CallC (LocalC (Up 0)) (MoreC (OperateC (Calculate Sub) (LocalC (Reg 0)) (ConstantC (Number (pos 1))) 2) NoC) 2) (CallC (LocalC (Up 0)) (MoreC (OperateC (Calculate Sub) (LocalC (Reg 0)) (ConstantC (Number (pos 2))) 2) NoC) 2) 2) NoC)) EndC)) }

abbrev pub fib_code : Protos
fib_code = code_with (codes "f" ∷ []) (fib_0 ∷ fib_1 ∷ fib_2 ∷ [])

abbrev pub fib_flat_0 : FlatFunction
fib_flat_0 = record {
  flags = [];
  dots = false;
  registers = 2;
  steps =
      record { charge = 2; op = TableF 0 } ∷
      record { charge = 2; op = ClosureF 1 1 [] } ∷
      record { charge = 0; op = SetFieldF 0 (TextO 0) (RegisterO 1) } ∷
      record { charge = 0; op = ReturnF 0 (Exactly 1) } ∷
      record { charge = 0; op = ReturnF 0 (Exactly 0) } ∷ [];
  lines = 0 ∷ 0 ∷ 1 ∷ 0 ∷ 0 ∷ [];
}

abbrev pub fib_flat_1 : FlatFunction
fib_flat_1 = record {
  flags = [];
  dots = true;
  registers = 3;
  steps =
      record { charge = 1; op = NamedF true 0 2 ((InRegister 0) ∷ []) } ∷
      record { charge = 3; op = GetCellF 1 0 } ∷
      record { charge = 1; op = LoadF 2 (ConstantO (Number (pos 5))) } ∷
      record { charge = 0; op = CallF 1 1 (Exactly 1) Every } ∷
      record { charge = 0; op = ReturnF 1 Every } ∷
      record { charge = 0; op = ReturnF 0 (Exactly 0) } ∷ [];
  lines = 0 ∷ 0 ∷ 0 ∷ 2 ∷ 0 ∷ 0 ∷ [];
}

abbrev pub fib_flat_2 : FlatFunction
fib_flat_2 = record {
  flags = (false ∷ []);
  dots = false;
  registers = 6;
  steps =
      record { charge = 4; op = CompareF Less (RegisterO 0) (ConstantO (Number (pos 2))) false 2 } ∷
      record { charge = 2; op = ReturnF 0 (Exactly 1) } ∷
      record { charge = 4; op = GetUpF 3 0 } ∷
      record { charge = 3; op = OperateF (Calculate Sub) 4 (RegisterO 0) (ConstantO (Number (pos 1))) } ∷
      record { charge = 0; op = CallF 2 3 (Exactly 1) (Exactly 1) } ∷
      record { charge = 2; op = GetUpF 4 0 } ∷
      record { charge = 3; op = OperateF (Calculate Sub) 5 (RegisterO 0) (ConstantO (Number (pos 2))) } ∷
      record { charge = 0; op = CallF 3 4 (Exactly 1) (Exactly 1) } ∷
      record { charge = 0; op = OperateF (Calculate Add) 1 (RegisterO 2) (RegisterO 3) } ∷
      record { charge = 0; op = ReturnF 1 (Exactly 1) } ∷
      record { charge = 0; op = ReturnF 0 (Exactly 0) } ∷ [];
  lines = 2 ∷ 0 ∷ 0 ∷ 2 ∷ 2 ∷ 0 ∷ 2 ∷ 2 ∷ 2 ∷ 0 ∷ 0 ∷ [];
}

abbrev pub FibFlatAlike : Type 0
FibFlatAlike = flat_invoke (codes "X") 118 fib_code (fib_flat_0 ∷ fib_flat_1 ∷ fib_flat_2 ∷ []) 20000 ≡ run.invoke_module (codes "X") 118 fib_code 20000

abbrev pub FibIsFlat : Type 0
FibIsFlat = IsFlatFunction fib_0 fib_flat_0 × IsFlatFunction fib_1 fib_flat_1 × IsFlatFunction fib_2 fib_flat_2

-- all of these
abbrev pub AllTests : Type 0
AllTests = TestsFlatAlike × ChoicesFlatAlike × ErrorValuesFlatAlike × NestedPcallFlatAlike × FibFlatAlike

abbrev pub AllFlatTests : Type 0
AllFlatTests = TestsIsFlat × ChoicesIsFlat × ErrorValuesIsFlat × NestedPcallIsFlat × FibIsFlat
