-- FLAT CODE OF SMALL MODULES, beside their resolved code: both end alike, with the same steps.
use Rattle.std.specs.Prelude.{◌≡◌, pos, true, false, [], ◌∷◌, codes}
use Rattle.lua_flat.specs.LuaHeapValue.{Number}
use Rattle.lua_flat.specs.LuaMeaningOperators.{Add, Sub, AtLeast, Concatenate, Calculate}
use Rattle.lua_flat.specs.Operations.{RegisterO, ConstantO, TextO, Exactly, Every, InRegister, InCaptured, PayF, LoadF, ClosureF, NamedF, OpenF, GetCellF, GetUpF, SetUpF, GetGlobalF, SetGlobalF, IndexF, SetIndexF, TableF, SetFieldF, SetItemsF, OperateF, UnaryF, CompareF, CallF, ReturnF, FlatFunction}
use Rattle.lua_flat.specs.LuaSyntaxDeclaredUnaryOpTheVariants as sign
use Rattle.lua_flat.specs.LuaSlotsCode.{Reg, Box, Up, ConstantC, TextC, FunctionC, LocalC, GlobalC, IndexC, CallC, TableC, OperateC, UnaryC, ParenC, NoC, MoreC, NoFieldC, ItemC, PairC, PlaceC, GlobalTargetC, EntryC, AssignC, RepeatC, ReturnC, EndC, DeclareC, LocalFunctionC, ThenC, CProto, Protos}
use Rattle.lua_flat.specs.LuaSlotsTrial.{code_with}
use Rattle.lua_flat.specs.IsStatement.{IsFlatFunction}
use Rattle.lua_flat.specs.Trial.{flat_invoke}
use Rattle.lua_flat.specs.LuaSlotsTrial as run

-- Cells that two functions share.
--     return {f=function(...)
--     local function make() local n=0 return function() n=n+1 return n end,function() n=n-1 return n end end
--     local up,down=make() local other=make() return up()..up()..down()..other()
--     end}
abbrev pub counters_0 : CProto
counters_0 = record { flags = []; dots = false; body = (ThenC (ReturnC (MoreC (TableC (PairC (TextC 0) (FunctionC 1 []) NoFieldC) 1) NoC)) EndC) }

abbrev pub counters_1 : CProto
counters_1 = record { flags = []; dots = true; body = (LocalFunctionC false 2 [] (DeclareC (false ∷ (false ∷ [])) (MoreC (CallC (LocalC (Reg 0)) NoC 3) NoC) (DeclareC (false ∷ []) (MoreC (CallC (LocalC (Reg 2)) NoC 3) NoC) (ThenC (ReturnC (MoreC (OperateC Concatenate (CallC (LocalC (Reg 2)) NoC 3) (OperateC Concatenate (CallC (LocalC (Reg 2)) NoC 3) (OperateC Concatenate (CallC (LocalC (Reg 1)) NoC 3) (CallC (LocalC (Reg 0)) NoC 3) 3) 3) 3) NoC)) EndC)))) }

abbrev pub counters_2 : CProto
counters_2 = record { flags = []; dots = false; body = (DeclareC (true ∷ []) (MoreC (ConstantC (Number (pos 0))) NoC) (ThenC (ReturnC (MoreC (FunctionC 3 ((Box 0) ∷ [])) (MoreC (FunctionC 4 ((Box 0) ∷ [])) NoC))) EndC)) }

abbrev pub counters_3 : CProto
counters_3 = record { flags = []; dots = false; body = (ThenC (AssignC ((PlaceC (Up 0)) ∷ []) (MoreC (OperateC (Calculate Add) (LocalC (Up 0)) (ConstantC (Number (pos 1))) 2) NoC)) (ThenC (ReturnC (MoreC (LocalC (Up 0)) NoC)) EndC)) }

abbrev pub counters_4 : CProto
counters_4 = record { flags = []; dots = false; body = (ThenC (AssignC ((PlaceC (Up 0)) ∷ []) (MoreC (OperateC (Calculate Sub) (LocalC (Up 0)) (ConstantC (Number (pos 1))) 2) NoC)) (ThenC (ReturnC (MoreC (LocalC (Up 0)) NoC)) EndC)) }

abbrev pub counters_code : Protos
counters_code = code_with (codes "f" ∷ []) (counters_0 ∷ counters_1 ∷ counters_2 ∷ counters_3 ∷ counters_4 ∷ [])

abbrev pub counters_flat_0 : FlatFunction
counters_flat_0 = record {
  flags = [];
  dots = false;
  registers = 2;
  steps =
      record { charge = 2; op = TableF 0 } ∷
      record { charge = 2; op = ClosureF 1 1 [] } ∷
      record { charge = 0; op = SetFieldF 0 (TextO 0) (RegisterO 1) } ∷
      record { charge = 0; op = ReturnF 0 (Exactly 1) } ∷
      record { charge = 0; op = ReturnF 0 (Exactly 0) } ∷ [];
  lines = 0 ∷ 0 ∷ 1 ∷ 0 ∷ 0 ∷ [];
}

abbrev pub counters_flat_1 : FlatFunction
counters_flat_1 = record {
  flags = [];
  dots = true;
  registers = 12;
  steps =
      record { charge = 1; op = NamedF false 0 2 [] } ∷
      record { charge = 3; op = LoadF 1 (RegisterO 0) } ∷
      record { charge = 0; op = CallF 1 1 (Exactly 0) (Exactly 2) } ∷
      record { charge = 3; op = LoadF 3 (RegisterO 0) } ∷
      record { charge = 0; op = CallF 3 3 (Exactly 0) (Exactly 1) } ∷
      record { charge = 4; op = LoadF 6 (RegisterO 1) } ∷
      record { charge = 0; op = CallF 5 6 (Exactly 0) (Exactly 1) } ∷
      record { charge = 3; op = LoadF 8 (RegisterO 1) } ∷
      record { charge = 0; op = CallF 7 8 (Exactly 0) (Exactly 1) } ∷
      record { charge = 3; op = LoadF 10 (RegisterO 2) } ∷
      record { charge = 0; op = CallF 9 10 (Exactly 0) (Exactly 1) } ∷
      record { charge = 2; op = LoadF 11 (RegisterO 3) } ∷
      record { charge = 0; op = CallF 10 11 (Exactly 0) (Exactly 1) } ∷
      record { charge = 0; op = OperateF Concatenate 8 (RegisterO 9) (RegisterO 10) } ∷
      record { charge = 0; op = OperateF Concatenate 6 (RegisterO 7) (RegisterO 8) } ∷
      record { charge = 0; op = OperateF Concatenate 4 (RegisterO 5) (RegisterO 6) } ∷
      record { charge = 0; op = ReturnF 4 (Exactly 1) } ∷
      record { charge = 0; op = ReturnF 0 (Exactly 0) } ∷ [];
  lines = 0 ∷ 0 ∷ 3 ∷ 0 ∷ 3 ∷ 0 ∷ 3 ∷ 0 ∷ 3 ∷ 0 ∷ 3 ∷ 0 ∷ 3 ∷ 3 ∷ 3 ∷ 3 ∷ 0 ∷ 0 ∷ [];
}

abbrev pub counters_flat_2 : FlatFunction
counters_flat_2 = record {
  flags = [];
  dots = false;
  registers = 3;
  steps =
      record { charge = 2; op = LoadF 0 (ConstantO (Number (pos 0))) } ∷
      record { charge = 0; op = OpenF 0 (true ∷ []) } ∷
      record { charge = 2; op = ClosureF 1 3 ((InRegister 0) ∷ []) } ∷
      record { charge = 1; op = ClosureF 2 4 ((InRegister 0) ∷ []) } ∷
      record { charge = 0; op = ReturnF 1 (Exactly 2) } ∷
      record { charge = 0; op = ReturnF 0 (Exactly 0) } ∷ [];
  lines = 0 ∷ 0 ∷ 0 ∷ 0 ∷ 0 ∷ 0 ∷ [];
}

abbrev pub counters_flat_3 : FlatFunction
counters_flat_3 = record {
  flags = [];
  dots = false;
  registers = 2;
  steps =
      record { charge = 3; op = GetUpF 1 0 } ∷
      record { charge = 1; op = OperateF (Calculate Add) 0 (RegisterO 1) (ConstantO (Number (pos 1))) } ∷
      record { charge = 0; op = SetUpF 0 (RegisterO 0) } ∷
      record { charge = 2; op = GetUpF 0 0 } ∷
      record { charge = 0; op = ReturnF 0 (Exactly 1) } ∷
      record { charge = 0; op = ReturnF 0 (Exactly 0) } ∷ [];
  lines = 0 ∷ 2 ∷ 0 ∷ 0 ∷ 0 ∷ 0 ∷ [];
}

abbrev pub counters_flat_4 : FlatFunction
counters_flat_4 = record {
  flags = [];
  dots = false;
  registers = 2;
  steps =
      record { charge = 3; op = GetUpF 1 0 } ∷
      record { charge = 1; op = OperateF (Calculate Sub) 0 (RegisterO 1) (ConstantO (Number (pos 1))) } ∷
      record { charge = 0; op = SetUpF 0 (RegisterO 0) } ∷
      record { charge = 2; op = GetUpF 0 0 } ∷
      record { charge = 0; op = ReturnF 0 (Exactly 1) } ∷
      record { charge = 0; op = ReturnF 0 (Exactly 0) } ∷ [];
  lines = 0 ∷ 2 ∷ 0 ∷ 0 ∷ 0 ∷ 0 ∷ [];
}

abbrev pub CountersFlatAlike : Type 0
CountersFlatAlike = flat_invoke (codes "X") 206 counters_code (counters_flat_0 ∷ counters_flat_1 ∷ counters_flat_2 ∷ counters_flat_3 ∷ counters_flat_4 ∷ []) 20000 ≡ run.invoke_module (codes "X") 206 counters_code 20000

abbrev pub CountersIsFlat : Type 0
CountersIsFlat = IsFlatFunction counters_0 counters_flat_0 × IsFlatFunction counters_1 counters_flat_1 × IsFlatFunction counters_2 counters_flat_2 × IsFlatFunction counters_3 counters_flat_3 × IsFlatFunction counters_4 counters_flat_4

-- A variable is kept by functions two levels down.
--     return {f=function(...)
--     local x=1 local function a() local y=x+1 return function() x=x+y y=y+1 return x end end
--     local f=a() return f()..f()..x
--     end}
abbrev pub shared_cells_0 : CProto
shared_cells_0 = record { flags = []; dots = false; body = (ThenC (ReturnC (MoreC (TableC (PairC (TextC 0) (FunctionC 1 []) NoFieldC) 1) NoC)) EndC) }

abbrev pub shared_cells_1 : CProto
shared_cells_1 = record { flags = []; dots = true; body = (DeclareC (true ∷ []) (MoreC (ConstantC (Number (pos 1))) NoC) (LocalFunctionC false 2 ((Box 1) ∷ []) (DeclareC (false ∷ []) (MoreC (CallC (LocalC (Reg 0)) NoC 3) NoC) (ThenC (ReturnC (MoreC (OperateC Concatenate (CallC (LocalC (Reg 0)) NoC 3) (OperateC Concatenate (CallC (LocalC (Reg 0)) NoC 3) (LocalC (Box 2)) 3) 3) NoC)) EndC)))) }

abbrev pub shared_cells_2 : CProto
shared_cells_2 = record { flags = []; dots = false; body = (DeclareC (true ∷ []) (MoreC (OperateC (Calculate Add) (LocalC (Up 0)) (ConstantC (Number (pos 1))) 2) NoC) (ThenC (ReturnC (MoreC (FunctionC 3 ((Up 0) ∷ ((Box 0) ∷ []))) NoC)) EndC)) }

abbrev pub shared_cells_3 : CProto
shared_cells_3 = record { flags = []; dots = false; body = (ThenC (AssignC ((PlaceC (Up 0)) ∷ []) (MoreC (OperateC (Calculate Add) (LocalC (Up 0)) (LocalC (Up 1)) 2) NoC)) (ThenC (AssignC ((PlaceC (Up 1)) ∷ []) (MoreC (OperateC (Calculate Add) (LocalC (Up 1)) (ConstantC (Number (pos 1))) 2) NoC)) (ThenC (ReturnC (MoreC (LocalC (Up 0)) NoC)) EndC))) }

abbrev pub shared_cells_code : Protos
shared_cells_code = code_with (codes "f" ∷ []) (shared_cells_0 ∷ shared_cells_1 ∷ shared_cells_2 ∷ shared_cells_3 ∷ [])

abbrev pub shared_cells_flat_0 : FlatFunction
shared_cells_flat_0 = record {
  flags = [];
  dots = false;
  registers = 2;
  steps =
      record { charge = 2; op = TableF 0 } ∷
      record { charge = 2; op = ClosureF 1 1 [] } ∷
      record { charge = 0; op = SetFieldF 0 (TextO 0) (RegisterO 1) } ∷
      record { charge = 0; op = ReturnF 0 (Exactly 1) } ∷
      record { charge = 0; op = ReturnF 0 (Exactly 0) } ∷ [];
  lines = 0 ∷ 0 ∷ 1 ∷ 0 ∷ 0 ∷ [];
}

abbrev pub shared_cells_flat_1 : FlatFunction
shared_cells_flat_1 = record {
  flags = [];
  dots = true;
  registers = 8;
  steps =
      record { charge = 2; op = LoadF 0 (ConstantO (Number (pos 1))) } ∷
      record { charge = 0; op = OpenF 0 (true ∷ []) } ∷
      record { charge = 1; op = NamedF false 1 2 ((InRegister 0) ∷ []) } ∷
      record { charge = 3; op = LoadF 2 (RegisterO 1) } ∷
      record { charge = 0; op = CallF 2 2 (Exactly 0) (Exactly 1) } ∷
      record { charge = 4; op = LoadF 5 (RegisterO 2) } ∷
      record { charge = 0; op = CallF 4 5 (Exactly 0) (Exactly 1) } ∷
      record { charge = 3; op = LoadF 7 (RegisterO 2) } ∷
      record { charge = 0; op = CallF 6 7 (Exactly 0) (Exactly 1) } ∷
      record { charge = 1; op = GetCellF 7 0 } ∷
      record { charge = 0; op = OperateF Concatenate 5 (RegisterO 6) (RegisterO 7) } ∷
      record { charge = 0; op = OperateF Concatenate 3 (RegisterO 4) (RegisterO 5) } ∷
      record { charge = 0; op = ReturnF 3 (Exactly 1) } ∷
      record { charge = 0; op = ReturnF 0 (Exactly 0) } ∷ [];
  lines = 0 ∷ 0 ∷ 0 ∷ 0 ∷ 3 ∷ 0 ∷ 3 ∷ 0 ∷ 3 ∷ 0 ∷ 3 ∷ 3 ∷ 0 ∷ 0 ∷ [];
}

abbrev pub shared_cells_flat_2 : FlatFunction
shared_cells_flat_2 = record {
  flags = [];
  dots = false;
  registers = 2;
  steps =
      record { charge = 3; op = GetUpF 1 0 } ∷
      record { charge = 1; op = OperateF (Calculate Add) 0 (RegisterO 1) (ConstantO (Number (pos 1))) } ∷
      record { charge = 0; op = OpenF 0 (true ∷ []) } ∷
      record { charge = 2; op = ClosureF 1 3 ((InCaptured 0) ∷ (InRegister 0) ∷ []) } ∷
      record { charge = 0; op = ReturnF 1 (Exactly 1) } ∷
      record { charge = 0; op = ReturnF 0 (Exactly 0) } ∷ [];
  lines = 0 ∷ 2 ∷ 0 ∷ 0 ∷ 0 ∷ 0 ∷ [];
}

abbrev pub shared_cells_flat_3 : FlatFunction
shared_cells_flat_3 = record {
  flags = [];
  dots = false;
  registers = 3;
  steps =
      record { charge = 3; op = GetUpF 1 0 } ∷
      record { charge = 1; op = GetUpF 2 1 } ∷
      record { charge = 0; op = OperateF (Calculate Add) 0 (RegisterO 1) (RegisterO 2) } ∷
      record { charge = 0; op = SetUpF 0 (RegisterO 0) } ∷
      record { charge = 3; op = GetUpF 1 1 } ∷
      record { charge = 1; op = OperateF (Calculate Add) 0 (RegisterO 1) (ConstantO (Number (pos 1))) } ∷
      record { charge = 0; op = SetUpF 1 (RegisterO 0) } ∷
      record { charge = 2; op = GetUpF 0 0 } ∷
      record { charge = 0; op = ReturnF 0 (Exactly 1) } ∷
      record { charge = 0; op = ReturnF 0 (Exactly 0) } ∷ [];
  lines = 0 ∷ 0 ∷ 2 ∷ 0 ∷ 0 ∷ 2 ∷ 0 ∷ 0 ∷ 0 ∷ 0 ∷ [];
}

abbrev pub SharedCellsFlatAlike : Type 0
SharedCellsFlatAlike = flat_invoke (codes "X") 147 shared_cells_code (shared_cells_flat_0 ∷ shared_cells_flat_1 ∷ shared_cells_flat_2 ∷ shared_cells_flat_3 ∷ []) 20000 ≡ run.invoke_module (codes "X") 147 shared_cells_code 20000

abbrev pub SharedCellsIsFlat : Type 0
SharedCellsIsFlat = IsFlatFunction shared_cells_0 shared_cells_flat_0 × IsFlatFunction shared_cells_1 shared_cells_flat_1 × IsFlatFunction shared_cells_2 shared_cells_flat_2 × IsFlatFunction shared_cells_3 shared_cells_flat_3

-- The test of `repeat` sees a variable that has a cell.
--     return {f=function(...)
--     local fs={} local i=0 repeat local k=i fs[#fs+1]=function() return k end i=i+1 until k>=2 return fs[1]()..fs[2]()..fs[3]()
--     end}
abbrev pub repeat_sees_0 : CProto
repeat_sees_0 = record { flags = []; dots = false; body = (ThenC (ReturnC (MoreC (TableC (PairC (TextC 0) (FunctionC 1 []) NoFieldC) 1) NoC)) EndC) }

abbrev pub repeat_sees_1 : CProto
repeat_sees_1 = record { flags = []; dots = true; body = (DeclareC (false ∷ []) (MoreC (TableC NoFieldC 2) NoC) (DeclareC (false ∷ []) (MoreC (ConstantC (Number (pos 0))) NoC) (ThenC (RepeatC (DeclareC (true ∷ []) (MoreC (LocalC (Reg 0)) NoC) (ThenC (AssignC ((EntryC (LocalC (Reg 2)) (OperateC (Calculate Add) (UnaryC sign.Len (LocalC (Reg 2)) 2) (ConstantC (Number (pos 1))) 2) 2) ∷ []) (MoreC (FunctionC 2 ((Box 0) ∷ [])) NoC)) (ThenC (AssignC ((PlaceC (Reg 1)) ∷ []) (MoreC (OperateC (Calculate Add) (LocalC (Reg 1)) (ConstantC (Number (pos 1))) 2) NoC)) EndC))) (OperateC AtLeast (LocalC (Box 0)) (ConstantC (Number (pos 2))) 2)) (ThenC (ReturnC (MoreC (OperateC Concatenate (CallC (IndexC (LocalC (Reg 1)) (ConstantC (Number (pos 1))) 2) NoC 2) (OperateC Concatenate (CallC (IndexC (LocalC (Reg 1)) (ConstantC (Number (pos 2))) 2) NoC 2) (CallC (IndexC (LocalC (Reg 1)) (ConstantC (Number (pos 3))) 2) NoC 2) 2) 2) NoC)) EndC)))) }

abbrev pub repeat_sees_2 : CProto
repeat_sees_2 = record { flags = []; dots = false; body = (ThenC (ReturnC (MoreC (LocalC (Up 0)) NoC)) EndC) }

abbrev pub repeat_sees_code : Protos
repeat_sees_code = code_with (codes "f" ∷ []) (repeat_sees_0 ∷ repeat_sees_1 ∷ repeat_sees_2 ∷ [])

abbrev pub repeat_sees_flat_0 : FlatFunction
repeat_sees_flat_0 = record {
  flags = [];
  dots = false;
  registers = 2;
  steps =
      record { charge = 2; op = TableF 0 } ∷
      record { charge = 2; op = ClosureF 1 1 [] } ∷
      record { charge = 0; op = SetFieldF 0 (TextO 0) (RegisterO 1) } ∷
      record { charge = 0; op = ReturnF 0 (Exactly 1) } ∷
      record { charge = 0; op = ReturnF 0 (Exactly 0) } ∷ [];
  lines = 0 ∷ 0 ∷ 1 ∷ 0 ∷ 0 ∷ [];
}

abbrev pub repeat_sees_flat_1 : FlatFunction
repeat_sees_flat_1 = record {
  flags = [];
  dots = true;
  registers = 8;
  steps =
      record { charge = 2; op = TableF 0 } ∷
      record { charge = 2; op = LoadF 1 (ConstantO (Number (pos 0))) } ∷
      record { charge = 1; op = PayF } ∷
      record { charge = 3; op = LoadF 2 (RegisterO 1) } ∷
      record { charge = 0; op = OpenF 2 (true ∷ []) } ∷
      record { charge = 6; op = UnaryF sign.Len 4 (RegisterO 0) } ∷
      record { charge = 1; op = OperateF (Calculate Add) 3 (RegisterO 4) (ConstantO (Number (pos 1))) } ∷
      record { charge = 1; op = ClosureF 4 2 ((InRegister 2) ∷ []) } ∷
      record { charge = 0; op = SetIndexF (RegisterO 0) (RegisterO 3) (RegisterO 4) } ∷
      record { charge = 4; op = OperateF (Calculate Add) 1 (RegisterO 1) (ConstantO (Number (pos 1))) } ∷
      record { charge = 2; op = GetCellF 3 2 } ∷
      record { charge = 1; op = CompareF AtLeast (RegisterO 3) (ConstantO (Number (pos 2))) false 3 } ∷
      record { charge = 6; op = IndexF 4 (RegisterO 0) (ConstantO (Number (pos 1))) } ∷
      record { charge = 0; op = CallF 3 4 (Exactly 0) (Exactly 1) } ∷
      record { charge = 5; op = IndexF 6 (RegisterO 0) (ConstantO (Number (pos 2))) } ∷
      record { charge = 0; op = CallF 5 6 (Exactly 0) (Exactly 1) } ∷
      record { charge = 4; op = IndexF 7 (RegisterO 0) (ConstantO (Number (pos 3))) } ∷
      record { charge = 0; op = CallF 6 7 (Exactly 0) (Exactly 1) } ∷
      record { charge = 0; op = OperateF Concatenate 4 (RegisterO 5) (RegisterO 6) } ∷
      record { charge = 0; op = OperateF Concatenate 2 (RegisterO 3) (RegisterO 4) } ∷
      record { charge = 0; op = ReturnF 2 (Exactly 1) } ∷
      record { charge = 0; op = ReturnF 0 (Exactly 0) } ∷ [];
  lines = 0 ∷ 0 ∷ 0 ∷ 0 ∷ 0 ∷ 2 ∷ 2 ∷ 0 ∷ 2 ∷ 2 ∷ 0 ∷ 2 ∷ 2 ∷ 2 ∷ 2 ∷ 2 ∷ 2 ∷ 2 ∷ 2 ∷ 2 ∷ 0 ∷ 0 ∷ [];
}

abbrev pub repeat_sees_flat_2 : FlatFunction
repeat_sees_flat_2 = record {
  flags = [];
  dots = false;
  registers = 1;
  steps =
      record { charge = 2; op = GetUpF 0 0 } ∷
      record { charge = 0; op = ReturnF 0 (Exactly 1) } ∷
      record { charge = 0; op = ReturnF 0 (Exactly 0) } ∷ [];
  lines = 0 ∷ 0 ∷ 0 ∷ [];
}

abbrev pub RepeatSeesFlatAlike : Type 0
RepeatSeesFlatAlike = flat_invoke (codes "X") 151 repeat_sees_code (repeat_sees_flat_0 ∷ repeat_sees_flat_1 ∷ repeat_sees_flat_2 ∷ []) 20000 ≡ run.invoke_module (codes "X") 151 repeat_sees_code 20000

abbrev pub RepeatSeesIsFlat : Type 0
RepeatSeesIsFlat = IsFlatFunction repeat_sees_0 repeat_sees_flat_0 × IsFlatFunction repeat_sees_1 repeat_sees_flat_1 × IsFlatFunction repeat_sees_2 repeat_sees_flat_2

-- Constructors, in order, with a last item that gives several values.
--     return {f=function(...)
--     local function two() return 1,2 end local t={two(),two(),[9]='n',x='f',(two()),two()} return #t,t[1],t[2],t[3],t[4],t[5],t[9],t.x
--     end}
abbrev pub constructor_0 : CProto
constructor_0 = record { flags = []; dots = false; body = (ThenC (ReturnC (MoreC (TableC (PairC (TextC 0) (FunctionC 1 []) NoFieldC) 1) NoC)) EndC) }

abbrev pub constructor_1 : CProto
constructor_1 = record { flags = []; dots = true; body = (LocalFunctionC false 2 [] (DeclareC (false ∷ []) (MoreC (TableC (ItemC (CallC (LocalC (Reg 0)) NoC 2) (ItemC (CallC (LocalC (Reg 0)) NoC 2) (PairC (ConstantC (Number (pos 9))) (TextC 1) (PairC (TextC 2) (TextC 0) (ItemC (ParenC (CallC (LocalC (Reg 0)) NoC 2)) (ItemC (CallC (LocalC (Reg 0)) NoC 2) NoFieldC)))))) 2) NoC) (ThenC (ReturnC (MoreC (UnaryC sign.Len (LocalC (Reg 0)) 2) (MoreC (IndexC (LocalC (Reg 0)) (ConstantC (Number (pos 1))) 2) (MoreC (IndexC (LocalC (Reg 0)) (ConstantC (Number (pos 2))) 2) (MoreC (IndexC (LocalC (Reg 0)) (ConstantC (Number (pos 3))) 2) (MoreC (IndexC (LocalC (Reg 0)) (ConstantC (Number (pos 4))) 2) (MoreC (IndexC (LocalC (Reg 0)) (ConstantC (Number (pos 5))) 2) (MoreC (IndexC (LocalC (Reg 0)) (ConstantC (Number (pos 9))) 2) (MoreC (IndexC (LocalC (Reg 0)) (TextC 2) 2) NoC))))))))) EndC))) }

abbrev pub constructor_2 : CProto
constructor_2 = record { flags = []; dots = false; body = (ThenC (ReturnC (MoreC (ConstantC (Number (pos 1))) (MoreC (ConstantC (Number (pos 2))) NoC))) EndC) }

abbrev pub constructor_code : Protos
constructor_code = code_with (codes "f" ∷ codes "n" ∷ codes "x" ∷ []) (constructor_0 ∷ constructor_1 ∷ constructor_2 ∷ [])

abbrev pub constructor_flat_0 : FlatFunction
constructor_flat_0 = record {
  flags = [];
  dots = false;
  registers = 2;
  steps =
      record { charge = 2; op = TableF 0 } ∷
      record { charge = 2; op = ClosureF 1 1 [] } ∷
      record { charge = 0; op = SetFieldF 0 (TextO 0) (RegisterO 1) } ∷
      record { charge = 0; op = ReturnF 0 (Exactly 1) } ∷
      record { charge = 0; op = ReturnF 0 (Exactly 0) } ∷ [];
  lines = 0 ∷ 0 ∷ 1 ∷ 0 ∷ 0 ∷ [];
}

abbrev pub constructor_flat_1 : FlatFunction
constructor_flat_1 = record {
  flags = [];
  dots = true;
  registers = 10;
  steps =
      record { charge = 1; op = NamedF false 0 2 [] } ∷
      record { charge = 2; op = TableF 1 } ∷
      record { charge = 2; op = LoadF 3 (RegisterO 0) } ∷
      record { charge = 0; op = CallF 2 3 (Exactly 0) (Exactly 1) } ∷
      record { charge = 0; op = SetFieldF 1 (ConstantO (Number (pos 1))) (RegisterO 2) } ∷
      record { charge = 2; op = LoadF 3 (RegisterO 0) } ∷
      record { charge = 0; op = CallF 2 3 (Exactly 0) (Exactly 1) } ∷
      record { charge = 0; op = SetFieldF 1 (ConstantO (Number (pos 2))) (RegisterO 2) } ∷
      record { charge = 2; op = SetFieldF 1 (ConstantO (Number (pos 9))) (TextO 1) } ∷
      record { charge = 2; op = SetFieldF 1 (TextO 2) (TextO 0) } ∷
      record { charge = 3; op = LoadF 3 (RegisterO 0) } ∷
      record { charge = 0; op = CallF 2 3 (Exactly 0) (Exactly 1) } ∷
      record { charge = 0; op = SetFieldF 1 (ConstantO (Number (pos 3))) (RegisterO 2) } ∷
      record { charge = 2; op = LoadF 2 (RegisterO 0) } ∷
      record { charge = 0; op = CallF 2 2 (Exactly 0) Every } ∷
      record { charge = 0; op = SetItemsF 1 4 2 } ∷
      record { charge = 3; op = UnaryF sign.Len 2 (RegisterO 1) } ∷
      record { charge = 3; op = IndexF 3 (RegisterO 1) (ConstantO (Number (pos 1))) } ∷
      record { charge = 3; op = IndexF 4 (RegisterO 1) (ConstantO (Number (pos 2))) } ∷
      record { charge = 3; op = IndexF 5 (RegisterO 1) (ConstantO (Number (pos 3))) } ∷
      record { charge = 3; op = IndexF 6 (RegisterO 1) (ConstantO (Number (pos 4))) } ∷
      record { charge = 3; op = IndexF 7 (RegisterO 1) (ConstantO (Number (pos 5))) } ∷
      record { charge = 3; op = IndexF 8 (RegisterO 1) (ConstantO (Number (pos 9))) } ∷
      record { charge = 3; op = IndexF 9 (RegisterO 1) (TextO 2) } ∷
      record { charge = 0; op = ReturnF 2 (Exactly 8) } ∷
      record { charge = 0; op = ReturnF 0 (Exactly 0) } ∷ [];
  lines = 0 ∷ 0 ∷ 0 ∷ 2 ∷ 2 ∷ 0 ∷ 2 ∷ 2 ∷ 2 ∷ 2 ∷ 0 ∷ 2 ∷ 2 ∷ 0 ∷ 2 ∷ 2 ∷ 2 ∷ 2 ∷ 2 ∷ 2 ∷ 2 ∷ 2 ∷ 2 ∷ 2 ∷ 0 ∷ 0 ∷ [];
}

abbrev pub constructor_flat_2 : FlatFunction
constructor_flat_2 = record {
  flags = [];
  dots = false;
  registers = 2;
  steps =
      record { charge = 2; op = LoadF 0 (ConstantO (Number (pos 1))) } ∷
      record { charge = 1; op = LoadF 1 (ConstantO (Number (pos 2))) } ∷
      record { charge = 0; op = ReturnF 0 (Exactly 2) } ∷
      record { charge = 0; op = ReturnF 0 (Exactly 0) } ∷ [];
  lines = 0 ∷ 0 ∷ 0 ∷ 0 ∷ [];
}

abbrev pub ConstructorFlatAlike : Type 0
ConstructorFlatAlike = flat_invoke (codes "X") 158 constructor_code (constructor_flat_0 ∷ constructor_flat_1 ∷ constructor_flat_2 ∷ []) 20000 ≡ run.invoke_module (codes "X") 158 constructor_code 20000

abbrev pub ConstructorIsFlat : Type 0
ConstructorIsFlat = IsFlatFunction constructor_0 constructor_flat_0 × IsFlatFunction constructor_1 constructor_flat_1 × IsFlatFunction constructor_2 constructor_flat_2

-- Global variables, and one that is not there.
--     return {f=function(...)
--     g=1 g=g+1 local function set(v) g=v return g end return g,set(5),g,tostring(h)
--     end}
abbrev pub globals_0 : CProto
globals_0 = record { flags = []; dots = false; body = (ThenC (ReturnC (MoreC (TableC (PairC (TextC 0) (FunctionC 1 []) NoFieldC) 1) NoC)) EndC) }

abbrev pub globals_1 : CProto
globals_1 = record { flags = []; dots = true; body = (ThenC (AssignC ((GlobalTargetC 1 2) ∷ []) (MoreC (ConstantC (Number (pos 1))) NoC)) (ThenC (AssignC ((GlobalTargetC 1 2) ∷ []) (MoreC (OperateC (Calculate Add) (GlobalC 1 2) (ConstantC (Number (pos 1))) 2) NoC)) (LocalFunctionC false 2 [] (ThenC (ReturnC (MoreC (GlobalC 1 2) (MoreC (CallC (LocalC (Reg 0)) (MoreC (ConstantC (Number (pos 5))) NoC) 2) (MoreC (GlobalC 1 2) (MoreC (CallC (GlobalC 2 2) (MoreC (GlobalC 3 2) NoC) 2) NoC))))) EndC)))) }

abbrev pub globals_2 : CProto
globals_2 = record { flags = (false ∷ []); dots = false; body = (ThenC (AssignC ((GlobalTargetC 1 2) ∷ []) (MoreC (LocalC (Reg 0)) NoC)) (ThenC (ReturnC (MoreC (GlobalC 1 2) NoC)) EndC)) }

abbrev pub globals_code : Protos
globals_code = code_with (codes "f" ∷ codes "g" ∷ codes "tostring" ∷ codes "h" ∷ []) (globals_0 ∷ globals_1 ∷ globals_2 ∷ [])

abbrev pub globals_flat_0 : FlatFunction
globals_flat_0 = record {
  flags = [];
  dots = false;
  registers = 2;
  steps =
      record { charge = 2; op = TableF 0 } ∷
      record { charge = 2; op = ClosureF 1 1 [] } ∷
      record { charge = 0; op = SetFieldF 0 (TextO 0) (RegisterO 1) } ∷
      record { charge = 0; op = ReturnF 0 (Exactly 1) } ∷
      record { charge = 0; op = ReturnF 0 (Exactly 0) } ∷ [];
  lines = 0 ∷ 0 ∷ 1 ∷ 0 ∷ 0 ∷ [];
}

abbrev pub globals_flat_1 : FlatFunction
globals_flat_1 = record {
  flags = [];
  dots = true;
  registers = 6;
  steps =
      record { charge = 2; op = SetGlobalF 1 (ConstantO (Number (pos 1))) } ∷
      record { charge = 3; op = GetGlobalF 1 1 } ∷
      record { charge = 1; op = OperateF (Calculate Add) 0 (RegisterO 1) (ConstantO (Number (pos 1))) } ∷
      record { charge = 0; op = SetGlobalF 1 (RegisterO 0) } ∷
      record { charge = 1; op = NamedF false 0 2 [] } ∷
      record { charge = 2; op = GetGlobalF 1 1 } ∷
      record { charge = 2; op = LoadF 3 (RegisterO 0) } ∷
      record { charge = 1; op = LoadF 4 (ConstantO (Number (pos 5))) } ∷
      record { charge = 0; op = CallF 2 3 (Exactly 1) (Exactly 1) } ∷
      record { charge = 1; op = GetGlobalF 3 1 } ∷
      record { charge = 2; op = GetGlobalF 4 2 } ∷
      record { charge = 1; op = GetGlobalF 5 3 } ∷
      record { charge = 0; op = CallF 4 4 (Exactly 1) Every } ∷
      record { charge = 0; op = ReturnF 1 Every } ∷
      record { charge = 0; op = ReturnF 0 (Exactly 0) } ∷ [];
  lines = 2 ∷ 2 ∷ 2 ∷ 2 ∷ 0 ∷ 2 ∷ 0 ∷ 0 ∷ 2 ∷ 2 ∷ 2 ∷ 2 ∷ 2 ∷ 0 ∷ 0 ∷ [];
}

abbrev pub globals_flat_2 : FlatFunction
globals_flat_2 = record {
  flags = (false ∷ []);
  dots = false;
  registers = 2;
  steps =
      record { charge = 2; op = SetGlobalF 1 (RegisterO 0) } ∷
      record { charge = 2; op = GetGlobalF 1 1 } ∷
      record { charge = 0; op = ReturnF 1 (Exactly 1) } ∷
      record { charge = 0; op = ReturnF 0 (Exactly 0) } ∷ [];
  lines = 2 ∷ 2 ∷ 0 ∷ 0 ∷ [];
}

abbrev pub GlobalsFlatAlike : Type 0
GlobalsFlatAlike = flat_invoke (codes "X") 107 globals_code (globals_flat_0 ∷ globals_flat_1 ∷ globals_flat_2 ∷ []) 20000 ≡ run.invoke_module (codes "X") 107 globals_code 20000

abbrev pub GlobalsIsFlat : Type 0
GlobalsIsFlat = IsFlatFunction globals_0 globals_flat_0 × IsFlatFunction globals_1 globals_flat_1 × IsFlatFunction globals_2 globals_flat_2

-- all of these
abbrev pub AllCells : Type 0
AllCells = CountersFlatAlike × SharedCellsFlatAlike × RepeatSeesFlatAlike × ConstructorFlatAlike × GlobalsFlatAlike

abbrev pub AllFlatCells : Type 0
AllFlatCells = CountersIsFlat × SharedCellsIsFlat × RepeatSeesIsFlat × ConstructorIsFlat × GlobalsIsFlat
