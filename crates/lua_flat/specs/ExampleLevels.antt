-- FLAT CODE OF ERRORS WITH LEVELS, AND OF BLOCKS, beside their resolved code: both end alike, with the same steps.
use Rattle.std.specs.Prelude.{◌≡◌, pos, true, false, [], ◌∷◌, codes}
use Rattle.lua_slots.specs.LuaHeapValue.{Number}
use Rattle.lua_slots.specs.LuaMeaningOperators.{Add, Concatenate, Calculate}
use Rattle.lua_flat.specs.Operations.{RegisterO, ConstantO, TextO, Exactly, Every, InRegister, LoadF, ClosureF, NamedF, GetUpF, GetGlobalF, TableF, SetFieldF, OperateF, CallF, ReturnF, FlatFunction}
use Rattle.lua_slots.specs.Code.{Reg, Box, Up, ConstantC, TextC, FunctionC, LocalC, GlobalC, CallC, TableC, OperateC, NoC, MoreC, NoFieldC, PairC, PlaceC, AssignC, CallStatC, ReturnC, EndC, DeclareC, LocalFunctionC, ThenC, CProto, Protos, DoC}
use Rattle.lua_slots.specs.Trial.{code_with}
use Rattle.lua_flat.specs.IsStatement.{IsFlatFunction}
use Rattle.lua_flat.specs.Trial.{flat_invoke}
use Rattle.lua_slots.specs.Trial as run

-- The line and the level of an error.
--     return {f=function(...)
--     local function e(l) error('m',l) end
--     local function g(l)
--     e(l)
--     end
--     local function r(l)
--     return select(2,pcall(g,l))
--     end
--     return r(0)..r(1)..r(2)..r(3)
--     end}
abbrev pub error_levels_0 : CProto
error_levels_0 = record { flags = []; dots = false; body = (ThenC (ReturnC (MoreC (TableC (PairC (TextC 0) (FunctionC 1 []) NoFieldC) 1) NoC)) EndC) }

abbrev pub error_levels_1 : CProto
error_levels_1 = record { flags = []; dots = true; body = (LocalFunctionC true 2 [] (LocalFunctionC true 3 ((Box 1) ∷ []) (LocalFunctionC false 4 ((Box 1) ∷ []) (ThenC (ReturnC (MoreC (OperateC Concatenate (CallC (LocalC (Reg 0)) (MoreC (ConstantC (Number (pos 0))) NoC) 9) (OperateC Concatenate (CallC (LocalC (Reg 0)) (MoreC (ConstantC (Number (pos 1))) NoC) 9) (OperateC Concatenate (CallC (LocalC (Reg 0)) (MoreC (ConstantC (Number (pos 2))) NoC) 9) (CallC (LocalC (Reg 0)) (MoreC (ConstantC (Number (pos 3))) NoC) 9) 9) 9) 9) NoC)) EndC)))) }

abbrev pub error_levels_2 : CProto
error_levels_2 = record { flags = (false ∷ []); dots = false; body = (ThenC (CallStatC (CallC (GlobalC 1 2) (MoreC (TextC 2) (MoreC (LocalC (Reg 0)) NoC)) 2)) EndC) }

abbrev pub error_levels_3 : CProto
error_levels_3 = record { flags = (false ∷ []); dots = false; body = (ThenC (CallStatC (CallC (LocalC (Up 0)) (MoreC (LocalC (Reg 0)) NoC) 4)) EndC) }

abbrev pub error_levels_4 : CProto
error_levels_4 = record { flags = (false ∷ []); dots = false; body = (ThenC (ReturnC (MoreC (CallC (GlobalC 3 7) (MoreC (ConstantC (Number (pos 2))) (MoreC (CallC (GlobalC 4 7) (MoreC (LocalC (Up 0)) (MoreC (LocalC (Reg 0)) NoC)) 7) NoC)) 7) NoC)) EndC) }

abbrev pub error_levels_code : Protos
error_levels_code = code_with (codes "f" ∷ codes "error" ∷ codes "m" ∷ codes "select" ∷ codes "pcall" ∷ []) (error_levels_0 ∷ error_levels_1 ∷ error_levels_2 ∷ error_levels_3 ∷ error_levels_4 ∷ [])

abbrev pub error_levels_flat_0 : FlatFunction
error_levels_flat_0 = record {
  flags = [];
  dots = false;
  registers = 2;
  steps =
      record { charge = 2; op = TableF 0 } ∷
      record { charge = 2; op = ClosureF 1 1 [] } ∷
      record { charge = 0; op = SetFieldF 0 (TextO 0) (RegisterO 1) } ∷
      record { charge = 0; op = ReturnF 0 (Exactly 1) } ∷
      record { charge = 0; op = ReturnF 0 (Exactly 0) } ∷ [];
  lines = 0 ∷ 0 ∷ 1 ∷ 0 ∷ 0 ∷ [];
}

abbrev pub error_levels_flat_1 : FlatFunction
error_levels_flat_1 = record {
  flags = [];
  dots = true;
  registers = 12;
  steps =
      record { charge = 1; op = NamedF true 0 2 [] } ∷
      record { charge = 1; op = NamedF true 1 3 ((InRegister 0) ∷ []) } ∷
      record { charge = 1; op = NamedF false 2 4 ((InRegister 1) ∷ []) } ∷
      record { charge = 4; op = LoadF 5 (RegisterO 2) } ∷
      record { charge = 1; op = LoadF 6 (ConstantO (Number (pos 0))) } ∷
      record { charge = 0; op = CallF 4 5 (Exactly 1) (Exactly 1) } ∷
      record { charge = 3; op = LoadF 7 (RegisterO 2) } ∷
      record { charge = 1; op = LoadF 8 (ConstantO (Number (pos 1))) } ∷
      record { charge = 0; op = CallF 6 7 (Exactly 1) (Exactly 1) } ∷
      record { charge = 3; op = LoadF 9 (RegisterO 2) } ∷
      record { charge = 1; op = LoadF 10 (ConstantO (Number (pos 2))) } ∷
      record { charge = 0; op = CallF 8 9 (Exactly 1) (Exactly 1) } ∷
      record { charge = 2; op = LoadF 10 (RegisterO 2) } ∷
      record { charge = 1; op = LoadF 11 (ConstantO (Number (pos 3))) } ∷
      record { charge = 0; op = CallF 9 10 (Exactly 1) (Exactly 1) } ∷
      record { charge = 0; op = OperateF Concatenate 7 (RegisterO 8) (RegisterO 9) } ∷
      record { charge = 0; op = OperateF Concatenate 5 (RegisterO 6) (RegisterO 7) } ∷
      record { charge = 0; op = OperateF Concatenate 3 (RegisterO 4) (RegisterO 5) } ∷
      record { charge = 0; op = ReturnF 3 (Exactly 1) } ∷
      record { charge = 0; op = ReturnF 0 (Exactly 0) } ∷ [];
  lines = 0 ∷ 0 ∷ 0 ∷ 0 ∷ 0 ∷ 9 ∷ 0 ∷ 0 ∷ 9 ∷ 0 ∷ 0 ∷ 9 ∷ 0 ∷ 0 ∷ 9 ∷ 9 ∷ 9 ∷ 9 ∷ 0 ∷ 0 ∷ [];
}

abbrev pub error_levels_flat_2 : FlatFunction
error_levels_flat_2 = record {
  flags = (false ∷ []);
  dots = false;
  registers = 4;
  steps =
      record { charge = 3; op = GetGlobalF 1 1 } ∷
      record { charge = 1; op = LoadF 2 (TextO 2) } ∷
      record { charge = 1; op = LoadF 3 (RegisterO 0) } ∷
      record { charge = 0; op = CallF 1 1 (Exactly 2) (Exactly 0) } ∷
      record { charge = 0; op = ReturnF 0 (Exactly 0) } ∷ [];
  lines = 2 ∷ 0 ∷ 0 ∷ 2 ∷ 0 ∷ [];
}

abbrev pub error_levels_flat_3 : FlatFunction
error_levels_flat_3 = record {
  flags = (false ∷ []);
  dots = false;
  registers = 3;
  steps =
      record { charge = 3; op = GetUpF 1 0 } ∷
      record { charge = 1; op = LoadF 2 (RegisterO 0) } ∷
      record { charge = 0; op = CallF 1 1 (Exactly 1) (Exactly 0) } ∷
      record { charge = 0; op = ReturnF 0 (Exactly 0) } ∷ [];
  lines = 0 ∷ 0 ∷ 4 ∷ 0 ∷ [];
}

abbrev pub error_levels_flat_4 : FlatFunction
error_levels_flat_4 = record {
  flags = (false ∷ []);
  dots = false;
  registers = 6;
  steps =
      record { charge = 3; op = GetGlobalF 1 3 } ∷
      record { charge = 1; op = LoadF 2 (ConstantO (Number (pos 2))) } ∷
      record { charge = 2; op = GetGlobalF 3 4 } ∷
      record { charge = 1; op = GetUpF 4 0 } ∷
      record { charge = 1; op = LoadF 5 (RegisterO 0) } ∷
      record { charge = 0; op = CallF 3 3 (Exactly 2) Every } ∷
      record { charge = 0; op = CallF 1 1 Every Every } ∷
      record { charge = 0; op = ReturnF 1 Every } ∷
      record { charge = 0; op = ReturnF 0 (Exactly 0) } ∷ [];
  lines = 7 ∷ 0 ∷ 7 ∷ 0 ∷ 0 ∷ 7 ∷ 7 ∷ 0 ∷ 0 ∷ [];
}

abbrev pub ErrorLevelsFlatAlike : Type 0
ErrorLevelsFlatAlike = flat_invoke (codes "X") 176 error_levels_code (error_levels_flat_0 ∷ error_levels_flat_1 ∷ error_levels_flat_2 ∷ error_levels_flat_3 ∷ error_levels_flat_4 ∷ []) 20000 ≡ run.invoke_module (codes "X") 176 error_levels_code 20000

abbrev pub ErrorLevelsIsFlat : Type 0
ErrorLevelsIsFlat = IsFlatFunction error_levels_0 error_levels_flat_0 × IsFlatFunction error_levels_1 error_levels_flat_1 × IsFlatFunction error_levels_2 error_levels_flat_2 × IsFlatFunction error_levels_3 error_levels_flat_3 × IsFlatFunction error_levels_4 error_levels_flat_4

-- Blocks, and names that are hidden.
--     return {f=function(...)
--     local x=1 do local x=2 do local x=3 end x=x+10 end local x=x+100 do end return x
--     end}
abbrev pub blocks_0 : CProto
blocks_0 = record { flags = []; dots = false; body = (ThenC (ReturnC (MoreC (TableC (PairC (TextC 0) (FunctionC 1 []) NoFieldC) 1) NoC)) EndC) }

abbrev pub blocks_1 : CProto
blocks_1 = record { flags = []; dots = true; body = (DeclareC (false ∷ []) (MoreC (ConstantC (Number (pos 1))) NoC) (ThenC (DoC (DeclareC (false ∷ []) (MoreC (ConstantC (Number (pos 2))) NoC) (ThenC (DoC (DeclareC (false ∷ []) (MoreC (ConstantC (Number (pos 3))) NoC) EndC)) (ThenC (AssignC ((PlaceC (Reg 0)) ∷ []) (MoreC (OperateC (Calculate Add) (LocalC (Reg 0)) (ConstantC (Number (pos 10))) 2) NoC)) EndC)))) (DeclareC (false ∷ []) (MoreC (OperateC (Calculate Add) (LocalC (Reg 0)) (ConstantC (Number (pos 100))) 2) NoC) (ThenC (DoC EndC) (ThenC (ReturnC (MoreC (LocalC (Reg 0)) NoC)) EndC))))) }

abbrev pub blocks_code : Protos
blocks_code = code_with (codes "f" ∷ []) (blocks_0 ∷ blocks_1 ∷ [])

abbrev pub blocks_flat_0 : FlatFunction
blocks_flat_0 = record {
  flags = [];
  dots = false;
  registers = 2;
  steps =
      record { charge = 2; op = TableF 0 } ∷
      record { charge = 2; op = ClosureF 1 1 [] } ∷
      record { charge = 0; op = SetFieldF 0 (TextO 0) (RegisterO 1) } ∷
      record { charge = 0; op = ReturnF 0 (Exactly 1) } ∷
      record { charge = 0; op = ReturnF 0 (Exactly 0) } ∷ [];
  lines = 0 ∷ 0 ∷ 1 ∷ 0 ∷ 0 ∷ [];
}

abbrev pub blocks_flat_1 : FlatFunction
blocks_flat_1 = record {
  flags = [];
  dots = true;
  registers = 3;
  steps =
      record { charge = 2; op = LoadF 0 (ConstantO (Number (pos 1))) } ∷
      record { charge = 3; op = LoadF 1 (ConstantO (Number (pos 2))) } ∷
      record { charge = 3; op = LoadF 2 (ConstantO (Number (pos 3))) } ∷
      record { charge = 4; op = OperateF (Calculate Add) 1 (RegisterO 1) (ConstantO (Number (pos 10))) } ∷
      record { charge = 4; op = OperateF (Calculate Add) 1 (RegisterO 0) (ConstantO (Number (pos 100))) } ∷
      record { charge = 3; op = ReturnF 1 (Exactly 1) } ∷
      record { charge = 0; op = ReturnF 0 (Exactly 0) } ∷ [];
  lines = 0 ∷ 0 ∷ 0 ∷ 2 ∷ 2 ∷ 0 ∷ 0 ∷ [];
}

abbrev pub BlocksFlatAlike : Type 0
BlocksFlatAlike = flat_invoke (codes "X") 109 blocks_code (blocks_flat_0 ∷ blocks_flat_1 ∷ []) 20000 ≡ run.invoke_module (codes "X") 109 blocks_code 20000

abbrev pub BlocksIsFlat : Type 0
BlocksIsFlat = IsFlatFunction blocks_0 blocks_flat_0 × IsFlatFunction blocks_1 blocks_flat_1

-- all of these
abbrev pub AllExampleLevels : Type 0
AllExampleLevels = ErrorLevelsFlatAlike × BlocksFlatAlike

abbrev pub AllFlatExampleLevels : Type 0
AllFlatExampleLevels = ErrorLevelsIsFlat × BlocksIsFlat
