-- FLAT CODE OF SMALL MODULES, beside their resolved code: both end alike, with the same steps.
use Rattle.std.specs.Prelude.{◌≡◌, pos, true, false, [], ◌∷◌, codes}
use Rattle.lua_flat.specs.LuaHeapValue.{Truth, Number}
use Rattle.lua_flat.specs.LuaMeaningOperators.{Add, Mul, Greater, AtMost, Concatenate, Calculate}
use Rattle.lua_flat.specs.Operations.{RegisterO, ConstantO, TextO, Exactly, Every, InRegister, PayF, LoadF, ClosureF, NamedF, OpenF, GetCellF, GetUpF, SetUpF, GetGlobalF, IndexF, SetIndexF, TableF, SetFieldF, OperateF, UnaryF, JumpF, CompareF, CountBeginsF, CountGoesOnF, EachCallsF, EachTestsF, CallF, ReturnF, FlatFunction}
use Rattle.lua_flat.specs.LuaSyntaxDeclaredUnaryOpTheVariants as sign
use Rattle.lua_flat.specs.LuaSlotsCode.{Reg, Box, Up, ConstantC, TextC, FunctionC, LocalC, GlobalC, IndexC, CallC, TableC, OperateC, UnaryC, NoC, MoreC, NoFieldC, ItemC, PairC, PlaceC, EntryC, AssignC, WhileC, IfC, CountC, CountByC, EachC, ReturnC, BreakC, EndC, DeclareC, LocalFunctionC, ThenC, NoArmC, ArmC, CProto, Protos}
use Rattle.lua_flat.specs.LuaSlotsTrial.{code_with}
use Rattle.lua_flat.specs.IsStatement.{IsFlatFunction}
use Rattle.lua_flat.specs.Trial.{flat_invoke}
use Rattle.lua_flat.specs.LuaSlotsTrial as run

-- A loop that is left.
--     return {f=function(...)
--     local n=0 while true do n=n+1 if n>4 then break end end return n
--     end}
abbrev pub while_break_0 : CProto
while_break_0 = record { flags = []; dots = false; body = (ThenC (ReturnC (MoreC (TableC (PairC (TextC 0) (FunctionC 1 []) NoFieldC) 1) NoC)) EndC) }

abbrev pub while_break_1 : CProto
while_break_1 = record { flags = []; dots = true; body = (DeclareC (false ∷ []) (MoreC (ConstantC (Number (pos 0))) NoC) (ThenC (WhileC (ConstantC (Truth true)) (ThenC (AssignC ((PlaceC (Reg 0)) ∷ []) (MoreC (OperateC (Calculate Add) (LocalC (Reg 0)) (ConstantC (Number (pos 1))) 2) NoC)) (ThenC (IfC (ArmC (OperateC Greater (LocalC (Reg 0)) (ConstantC (Number (pos 4))) 2) (ThenC BreakC EndC) NoArmC)) EndC))) (ThenC (ReturnC (MoreC (LocalC (Reg 0)) NoC)) EndC))) }

abbrev pub while_break_code : Protos
while_break_code = code_with (codes "f" ∷ []) (while_break_0 ∷ while_break_1 ∷ [])

abbrev pub while_break_flat_0 : FlatFunction
while_break_flat_0 = record {
  flags = [];
  dots = false;
  registers = 2;
  steps =
      record { charge = 2; op = TableF 0 } ∷
      record { charge = 2; op = ClosureF 1 1 [] } ∷
      record { charge = 0; op = SetFieldF 0 (TextO 0) (RegisterO 1) } ∷
      record { charge = 0; op = ReturnF 0 (Exactly 1) } ∷
      record { charge = 0; op = ReturnF 0 (Exactly 0) } ∷ [];
  lines = 0 ∷ 0 ∷ 1 ∷ 0 ∷ 0 ∷ [];
}

abbrev pub while_break_flat_1 : FlatFunction
while_break_flat_1 = record {
  flags = [];
  dots = true;
  registers = 1;
  steps =
      record { charge = 2; op = LoadF 0 (ConstantO (Number (pos 0))) } ∷
      record { charge = 1; op = PayF } ∷
      record { charge = 6; op = OperateF (Calculate Add) 0 (RegisterO 0) (ConstantO (Number (pos 1))) } ∷
      record { charge = 4; op = CompareF Greater (RegisterO 0) (ConstantO (Number (pos 4))) false 5 } ∷
      record { charge = 1; op = JumpF 6 } ∷
      record { charge = 0; op = JumpF 2 } ∷
      record { charge = 2; op = ReturnF 0 (Exactly 1) } ∷
      record { charge = 0; op = ReturnF 0 (Exactly 0) } ∷ [];
  lines = 0 ∷ 0 ∷ 2 ∷ 2 ∷ 0 ∷ 0 ∷ 0 ∷ 0 ∷ [];
}

abbrev pub WhileBreakFlatAlike : Type 0
WhileBreakFlatAlike = flat_invoke (codes "X") 93 while_break_code (while_break_flat_0 ∷ while_break_flat_1 ∷ []) 20000 ≡ run.invoke_module (codes "X") 93 while_break_code 20000

abbrev pub WhileBreakIsFlat : Type 0
WhileBreakIsFlat = IsFlatFunction while_break_0 while_break_flat_0 × IsFlatFunction while_break_1 while_break_flat_1

-- A `break` leaves the loop around it alone.
--     return {f=function(...)
--     local s='' for i=1,3 do for j=1,5 do if j>i then break end s=s..j end s=s..';' end return s
--     end}
abbrev pub nested_breaks_0 : CProto
nested_breaks_0 = record { flags = []; dots = false; body = (ThenC (ReturnC (MoreC (TableC (PairC (TextC 0) (FunctionC 1 []) NoFieldC) 1) NoC)) EndC) }

abbrev pub nested_breaks_1 : CProto
nested_breaks_1 = record { flags = []; dots = true; body = (DeclareC (false ∷ []) (MoreC (TextC 1) NoC) (ThenC (CountC false (ConstantC (Number (pos 1))) (ConstantC (Number (pos 3))) (ThenC (CountC false (ConstantC (Number (pos 1))) (ConstantC (Number (pos 5))) (ThenC (IfC (ArmC (OperateC Greater (LocalC (Reg 0)) (LocalC (Reg 1)) 2) (ThenC BreakC EndC) NoArmC)) (ThenC (AssignC ((PlaceC (Reg 2)) ∷ []) (MoreC (OperateC Concatenate (LocalC (Reg 2)) (LocalC (Reg 0)) 2) NoC)) EndC)) 2) (ThenC (AssignC ((PlaceC (Reg 1)) ∷ []) (MoreC (OperateC Concatenate (LocalC (Reg 1)) (TextC 2) 2) NoC)) EndC)) 2) (ThenC (ReturnC (MoreC (LocalC (Reg 0)) NoC)) EndC))) }

abbrev pub nested_breaks_code : Protos
nested_breaks_code = code_with (codes "f" ∷ codes "" ∷ codes ";" ∷ []) (nested_breaks_0 ∷ nested_breaks_1 ∷ [])

abbrev pub nested_breaks_flat_0 : FlatFunction
nested_breaks_flat_0 = record {
  flags = [];
  dots = false;
  registers = 2;
  steps =
      record { charge = 2; op = TableF 0 } ∷
      record { charge = 2; op = ClosureF 1 1 [] } ∷
      record { charge = 0; op = SetFieldF 0 (TextO 0) (RegisterO 1) } ∷
      record { charge = 0; op = ReturnF 0 (Exactly 1) } ∷
      record { charge = 0; op = ReturnF 0 (Exactly 0) } ∷ [];
  lines = 0 ∷ 0 ∷ 1 ∷ 0 ∷ 0 ∷ [];
}

abbrev pub nested_breaks_flat_1 : FlatFunction
nested_breaks_flat_1 = record {
  flags = [];
  dots = true;
  registers = 9;
  steps =
      record { charge = 2; op = LoadF 0 (TextO 1) } ∷
      record { charge = 2; op = LoadF 1 (ConstantO (Number (pos 1))) } ∷
      record { charge = 1; op = LoadF 2 (ConstantO (Number (pos 3))) } ∷
      record { charge = 0; op = LoadF 3 (ConstantO (Number (pos 1))) } ∷
      record { charge = 0; op = CountBeginsF 1 15 } ∷
      record { charge = 3; op = LoadF 5 (ConstantO (Number (pos 1))) } ∷
      record { charge = 1; op = LoadF 6 (ConstantO (Number (pos 5))) } ∷
      record { charge = 0; op = LoadF 7 (ConstantO (Number (pos 1))) } ∷
      record { charge = 0; op = CountBeginsF 5 13 } ∷
      record { charge = 5; op = CompareF Greater (RegisterO 8) (RegisterO 4) false 11 } ∷
      record { charge = 1; op = JumpF 13 } ∷
      record { charge = 4; op = OperateF Concatenate 0 (RegisterO 0) (RegisterO 8) } ∷
      record { charge = 0; op = CountGoesOnF 5 9 } ∷
      record { charge = 4; op = OperateF Concatenate 0 (RegisterO 0) (TextO 2) } ∷
      record { charge = 0; op = CountGoesOnF 1 5 } ∷
      record { charge = 2; op = ReturnF 0 (Exactly 1) } ∷
      record { charge = 0; op = ReturnF 0 (Exactly 0) } ∷ [];
  lines = 0 ∷ 0 ∷ 0 ∷ 0 ∷ 2 ∷ 0 ∷ 0 ∷ 0 ∷ 2 ∷ 2 ∷ 0 ∷ 2 ∷ 0 ∷ 2 ∷ 0 ∷ 0 ∷ 0 ∷ [];
}

abbrev pub NestedBreaksFlatAlike : Type 0
NestedBreaksFlatAlike = flat_invoke (codes "X") 120 nested_breaks_code (nested_breaks_flat_0 ∷ nested_breaks_flat_1 ∷ []) 20000 ≡ run.invoke_module (codes "X") 120 nested_breaks_code 20000

abbrev pub NestedBreaksIsFlat : Type 0
NestedBreaksIsFlat = IsFlatFunction nested_breaks_0 nested_breaks_flat_0 × IsFlatFunction nested_breaks_1 nested_breaks_flat_1

-- A step, and one that is negative; an empty loop.
--     return {f=function(...)
--     local s='' for i=6,1,-2 do s=s..i end for i=3,1 do s=s..'x' end for i='1','3' do s=s..i end return s
--     end}
abbrev pub count_down_0 : CProto
count_down_0 = record { flags = []; dots = false; body = (ThenC (ReturnC (MoreC (TableC (PairC (TextC 0) (FunctionC 1 []) NoFieldC) 1) NoC)) EndC) }

abbrev pub count_down_1 : CProto
count_down_1 = record { flags = []; dots = true; body = (DeclareC (false ∷ []) (MoreC (TextC 1) NoC) (ThenC (CountByC false (ConstantC (Number (pos 6))) (ConstantC (Number (pos 1))) (UnaryC sign.Minus (ConstantC (Number (pos 2))) 2) (ThenC (AssignC ((PlaceC (Reg 1)) ∷ []) (MoreC (OperateC Concatenate (LocalC (Reg 1)) (LocalC (Reg 0)) 2) NoC)) EndC) 2) (ThenC (CountC false (ConstantC (Number (pos 3))) (ConstantC (Number (pos 1))) (ThenC (AssignC ((PlaceC (Reg 1)) ∷ []) (MoreC (OperateC Concatenate (LocalC (Reg 1)) (TextC 2) 2) NoC)) EndC) 2) (ThenC (CountC false (TextC 3) (TextC 4) (ThenC (AssignC ((PlaceC (Reg 1)) ∷ []) (MoreC (OperateC Concatenate (LocalC (Reg 1)) (LocalC (Reg 0)) 2) NoC)) EndC) 2) (ThenC (ReturnC (MoreC (LocalC (Reg 0)) NoC)) EndC))))) }

abbrev pub count_down_code : Protos
count_down_code = code_with (codes "f" ∷ codes "" ∷ codes "x" ∷ codes "1" ∷ codes "3" ∷ []) (count_down_0 ∷ count_down_1 ∷ [])

abbrev pub count_down_flat_0 : FlatFunction
count_down_flat_0 = record {
  flags = [];
  dots = false;
  registers = 2;
  steps =
      record { charge = 2; op = TableF 0 } ∷
      record { charge = 2; op = ClosureF 1 1 [] } ∷
      record { charge = 0; op = SetFieldF 0 (TextO 0) (RegisterO 1) } ∷
      record { charge = 0; op = ReturnF 0 (Exactly 1) } ∷
      record { charge = 0; op = ReturnF 0 (Exactly 0) } ∷ [];
  lines = 0 ∷ 0 ∷ 1 ∷ 0 ∷ 0 ∷ [];
}

abbrev pub count_down_flat_1 : FlatFunction
count_down_flat_1 = record {
  flags = [];
  dots = true;
  registers = 5;
  steps =
      record { charge = 2; op = LoadF 0 (TextO 1) } ∷
      record { charge = 2; op = LoadF 1 (ConstantO (Number (pos 6))) } ∷
      record { charge = 1; op = LoadF 2 (ConstantO (Number (pos 1))) } ∷
      record { charge = 2; op = UnaryF sign.Minus 3 (ConstantO (Number (pos 2))) } ∷
      record { charge = 0; op = CountBeginsF 1 7 } ∷
      record { charge = 5; op = OperateF Concatenate 0 (RegisterO 0) (RegisterO 4) } ∷
      record { charge = 0; op = CountGoesOnF 1 5 } ∷
      record { charge = 2; op = LoadF 1 (ConstantO (Number (pos 3))) } ∷
      record { charge = 1; op = LoadF 2 (ConstantO (Number (pos 1))) } ∷
      record { charge = 0; op = LoadF 3 (ConstantO (Number (pos 1))) } ∷
      record { charge = 0; op = CountBeginsF 1 13 } ∷
      record { charge = 5; op = OperateF Concatenate 0 (RegisterO 0) (TextO 2) } ∷
      record { charge = 0; op = CountGoesOnF 1 11 } ∷
      record { charge = 2; op = LoadF 1 (TextO 3) } ∷
      record { charge = 1; op = LoadF 2 (TextO 4) } ∷
      record { charge = 0; op = LoadF 3 (ConstantO (Number (pos 1))) } ∷
      record { charge = 0; op = CountBeginsF 1 19 } ∷
      record { charge = 5; op = OperateF Concatenate 0 (RegisterO 0) (RegisterO 4) } ∷
      record { charge = 0; op = CountGoesOnF 1 17 } ∷
      record { charge = 2; op = ReturnF 0 (Exactly 1) } ∷
      record { charge = 0; op = ReturnF 0 (Exactly 0) } ∷ [];
  lines = 0 ∷ 0 ∷ 0 ∷ 2 ∷ 2 ∷ 2 ∷ 0 ∷ 0 ∷ 0 ∷ 0 ∷ 2 ∷ 2 ∷ 0 ∷ 0 ∷ 0 ∷ 0 ∷ 2 ∷ 2 ∷ 0 ∷ 0 ∷ 0 ∷ [];
}

abbrev pub CountDownFlatAlike : Type 0
CountDownFlatAlike = flat_invoke (codes "X") 129 count_down_code (count_down_flat_0 ∷ count_down_flat_1 ∷ []) 20000 ≡ run.invoke_module (codes "X") 129 count_down_code 20000

abbrev pub CountDownIsFlat : Type 0
CountDownIsFlat = IsFlatFunction count_down_0 count_down_flat_0 × IsFlatFunction count_down_1 count_down_flat_1

-- What a counting loop can't count.
--     return {f=function(...)
--     local function try(a,b,c) return select(2,pcall(function() for i=a,b,c do end end)) end
--     return try('x',1,1)..try(1,{},1)..try(1,2,'y')
--     end}
abbrev pub no_numbers_0 : CProto
no_numbers_0 = record { flags = []; dots = false; body = (ThenC (ReturnC (MoreC (TableC (PairC (TextC 0) (FunctionC 1 []) NoFieldC) 1) NoC)) EndC) }

abbrev pub no_numbers_1 : CProto
no_numbers_1 = record { flags = []; dots = true; body = (LocalFunctionC false 2 [] (ThenC (ReturnC (MoreC (OperateC Concatenate (CallC (LocalC (Reg 0)) (MoreC (TextC 3) (MoreC (ConstantC (Number (pos 1))) (MoreC (ConstantC (Number (pos 1))) NoC))) 3) (OperateC Concatenate (CallC (LocalC (Reg 0)) (MoreC (ConstantC (Number (pos 1))) (MoreC (TableC NoFieldC 3) (MoreC (ConstantC (Number (pos 1))) NoC))) 3) (CallC (LocalC (Reg 0)) (MoreC (ConstantC (Number (pos 1))) (MoreC (ConstantC (Number (pos 2))) (MoreC (TextC 4) NoC))) 3) 3) 3) NoC)) EndC)) }

abbrev pub no_numbers_2 : CProto
no_numbers_2 = record { flags = (true ∷ true ∷ true ∷ []); dots = false; body = (ThenC (ReturnC (MoreC (CallC (GlobalC 1 2) (MoreC (ConstantC (Number (pos 2))) (MoreC (CallC (GlobalC 2 2) (MoreC (FunctionC 3 ((Box 2) ∷ ((Box 1) ∷ ((Box 0) ∷ [])))) NoC) 2) NoC)) 2) NoC)) EndC) }

abbrev pub no_numbers_3 : CProto
no_numbers_3 = record { flags = []; dots = false; body = (ThenC (CountByC false (LocalC (Up 0)) (LocalC (Up 1)) (LocalC (Up 2)) EndC 2) EndC) }

abbrev pub no_numbers_code : Protos
no_numbers_code = code_with (codes "f" ∷ codes "select" ∷ codes "pcall" ∷ codes "x" ∷ codes "y" ∷ []) (no_numbers_0 ∷ no_numbers_1 ∷ no_numbers_2 ∷ no_numbers_3 ∷ [])

abbrev pub no_numbers_flat_0 : FlatFunction
no_numbers_flat_0 = record {
  flags = [];
  dots = false;
  registers = 2;
  steps =
      record { charge = 2; op = TableF 0 } ∷
      record { charge = 2; op = ClosureF 1 1 [] } ∷
      record { charge = 0; op = SetFieldF 0 (TextO 0) (RegisterO 1) } ∷
      record { charge = 0; op = ReturnF 0 (Exactly 1) } ∷
      record { charge = 0; op = ReturnF 0 (Exactly 0) } ∷ [];
  lines = 0 ∷ 0 ∷ 1 ∷ 0 ∷ 0 ∷ [];
}

abbrev pub no_numbers_flat_1 : FlatFunction
no_numbers_flat_1 = record {
  flags = [];
  dots = true;
  registers = 10;
  steps =
      record { charge = 1; op = NamedF false 0 2 [] } ∷
      record { charge = 4; op = LoadF 3 (RegisterO 0) } ∷
      record { charge = 1; op = LoadF 4 (TextO 3) } ∷
      record { charge = 1; op = LoadF 5 (ConstantO (Number (pos 1))) } ∷
      record { charge = 1; op = LoadF 6 (ConstantO (Number (pos 1))) } ∷
      record { charge = 0; op = CallF 2 3 (Exactly 3) (Exactly 1) } ∷
      record { charge = 3; op = LoadF 5 (RegisterO 0) } ∷
      record { charge = 1; op = LoadF 6 (ConstantO (Number (pos 1))) } ∷
      record { charge = 1; op = TableF 7 } ∷
      record { charge = 1; op = LoadF 8 (ConstantO (Number (pos 1))) } ∷
      record { charge = 0; op = CallF 4 5 (Exactly 3) (Exactly 1) } ∷
      record { charge = 2; op = LoadF 6 (RegisterO 0) } ∷
      record { charge = 1; op = LoadF 7 (ConstantO (Number (pos 1))) } ∷
      record { charge = 1; op = LoadF 8 (ConstantO (Number (pos 2))) } ∷
      record { charge = 1; op = LoadF 9 (TextO 4) } ∷
      record { charge = 0; op = CallF 5 6 (Exactly 3) (Exactly 1) } ∷
      record { charge = 0; op = OperateF Concatenate 3 (RegisterO 4) (RegisterO 5) } ∷
      record { charge = 0; op = OperateF Concatenate 1 (RegisterO 2) (RegisterO 3) } ∷
      record { charge = 0; op = ReturnF 1 (Exactly 1) } ∷
      record { charge = 0; op = ReturnF 0 (Exactly 0) } ∷ [];
  lines = 0 ∷ 0 ∷ 0 ∷ 0 ∷ 0 ∷ 3 ∷ 0 ∷ 0 ∷ 0 ∷ 0 ∷ 3 ∷ 0 ∷ 0 ∷ 0 ∷ 0 ∷ 3 ∷ 3 ∷ 3 ∷ 0 ∷ 0 ∷ [];
}

abbrev pub no_numbers_flat_2 : FlatFunction
no_numbers_flat_2 = record {
  flags = (true ∷ true ∷ true ∷ []);
  dots = false;
  registers = 7;
  steps =
      record { charge = 3; op = GetGlobalF 3 1 } ∷
      record { charge = 1; op = LoadF 4 (ConstantO (Number (pos 2))) } ∷
      record { charge = 2; op = GetGlobalF 5 2 } ∷
      record { charge = 1; op = ClosureF 6 3 ((InRegister 0) ∷ (InRegister 1) ∷ (InRegister 2) ∷ []) } ∷
      record { charge = 0; op = CallF 5 5 (Exactly 1) Every } ∷
      record { charge = 0; op = CallF 3 3 Every Every } ∷
      record { charge = 0; op = ReturnF 3 Every } ∷
      record { charge = 0; op = ReturnF 0 (Exactly 0) } ∷ [];
  lines = 2 ∷ 0 ∷ 2 ∷ 0 ∷ 2 ∷ 2 ∷ 0 ∷ 0 ∷ [];
}

abbrev pub no_numbers_flat_3 : FlatFunction
no_numbers_flat_3 = record {
  flags = [];
  dots = false;
  registers = 4;
  steps =
      record { charge = 2; op = GetUpF 0 0 } ∷
      record { charge = 1; op = GetUpF 1 1 } ∷
      record { charge = 1; op = GetUpF 2 2 } ∷
      record { charge = 0; op = CountBeginsF 0 5 } ∷
      record { charge = 1; op = CountGoesOnF 0 4 } ∷
      record { charge = 0; op = ReturnF 0 (Exactly 0) } ∷ [];
  lines = 0 ∷ 0 ∷ 0 ∷ 2 ∷ 0 ∷ 0 ∷ [];
}

abbrev pub NoNumbersFlatAlike : Type 0
NoNumbersFlatAlike = flat_invoke (codes "X") 163 no_numbers_code (no_numbers_flat_0 ∷ no_numbers_flat_1 ∷ no_numbers_flat_2 ∷ no_numbers_flat_3 ∷ []) 20000 ≡ run.invoke_module (codes "X") 163 no_numbers_code 20000

abbrev pub NoNumbersIsFlat : Type 0
NoNumbersIsFlat = IsFlatFunction no_numbers_0 no_numbers_flat_0 × IsFlatFunction no_numbers_1 no_numbers_flat_1 × IsFlatFunction no_numbers_2 no_numbers_flat_2 × IsFlatFunction no_numbers_3 no_numbers_flat_3

-- `pairs` and `ipairs`.
--     return {f=function(...)
--     local t={10,20,x='y'} local s='' for k,v in pairs(t) do s=s..tostring(k)..tostring(v) end for i,v in ipairs(t) do s=s..i..v end return s
--     end}
abbrev pub pairs_loop_0 : CProto
pairs_loop_0 = record { flags = []; dots = false; body = (ThenC (ReturnC (MoreC (TableC (PairC (TextC 0) (FunctionC 1 []) NoFieldC) 1) NoC)) EndC) }

abbrev pub pairs_loop_1 : CProto
pairs_loop_1 = record { flags = []; dots = true; body = (DeclareC (false ∷ []) (MoreC (TableC (ItemC (ConstantC (Number (pos 10))) (ItemC (ConstantC (Number (pos 20))) (PairC (TextC 1) (TextC 2) NoFieldC))) 2) NoC) (DeclareC (false ∷ []) (MoreC (TextC 3) NoC) (ThenC (EachC (false ∷ (false ∷ [])) (MoreC (CallC (GlobalC 4 2) (MoreC (LocalC (Reg 1)) NoC) 2) NoC) (ThenC (AssignC ((PlaceC (Reg 2)) ∷ []) (MoreC (OperateC Concatenate (LocalC (Reg 2)) (OperateC Concatenate (CallC (GlobalC 5 2) (MoreC (LocalC (Reg 1)) NoC) 2) (CallC (GlobalC 5 2) (MoreC (LocalC (Reg 0)) NoC) 2) 2) 2) NoC)) EndC) 2) (ThenC (EachC (false ∷ (false ∷ [])) (MoreC (CallC (GlobalC 6 2) (MoreC (LocalC (Reg 1)) NoC) 2) NoC) (ThenC (AssignC ((PlaceC (Reg 2)) ∷ []) (MoreC (OperateC Concatenate (LocalC (Reg 2)) (OperateC Concatenate (LocalC (Reg 1)) (LocalC (Reg 0)) 2) 2) NoC)) EndC) 2) (ThenC (ReturnC (MoreC (LocalC (Reg 0)) NoC)) EndC))))) }

abbrev pub pairs_loop_code : Protos
pairs_loop_code = code_with (codes "f" ∷ codes "x" ∷ codes "y" ∷ codes "" ∷ codes "pairs" ∷ codes "tostring" ∷ codes "ipairs" ∷ []) (pairs_loop_0 ∷ pairs_loop_1 ∷ [])

abbrev pub pairs_loop_flat_0 : FlatFunction
pairs_loop_flat_0 = record {
  flags = [];
  dots = false;
  registers = 2;
  steps =
      record { charge = 2; op = TableF 0 } ∷
      record { charge = 2; op = ClosureF 1 1 [] } ∷
      record { charge = 0; op = SetFieldF 0 (TextO 0) (RegisterO 1) } ∷
      record { charge = 0; op = ReturnF 0 (Exactly 1) } ∷
      record { charge = 0; op = ReturnF 0 (Exactly 0) } ∷ [];
  lines = 0 ∷ 0 ∷ 1 ∷ 0 ∷ 0 ∷ [];
}

abbrev pub pairs_loop_flat_1 : FlatFunction
pairs_loop_flat_1 = record {
  flags = [];
  dots = true;
  registers = 12;
  steps =
      record { charge = 2; op = TableF 0 } ∷
      record { charge = 1; op = SetFieldF 0 (ConstantO (Number (pos 1))) (ConstantO (Number (pos 10))) } ∷
      record { charge = 1; op = SetFieldF 0 (ConstantO (Number (pos 2))) (ConstantO (Number (pos 20))) } ∷
      record { charge = 2; op = SetFieldF 0 (TextO 1) (TextO 2) } ∷
      record { charge = 2; op = LoadF 1 (TextO 3) } ∷
      record { charge = 3; op = GetGlobalF 2 4 } ∷
      record { charge = 1; op = LoadF 3 (RegisterO 0) } ∷
      record { charge = 0; op = CallF 2 2 (Exactly 1) (Exactly 3) } ∷
      record { charge = 0; op = EachCallsF 2 2 } ∷
      record { charge = 0; op = EachTestsF 2 19 } ∷
      record { charge = 7; op = GetGlobalF 9 5 } ∷
      record { charge = 1; op = LoadF 10 (RegisterO 5) } ∷
      record { charge = 0; op = CallF 8 9 (Exactly 1) (Exactly 1) } ∷
      record { charge = 2; op = GetGlobalF 10 5 } ∷
      record { charge = 1; op = LoadF 11 (RegisterO 6) } ∷
      record { charge = 0; op = CallF 9 10 (Exactly 1) (Exactly 1) } ∷
      record { charge = 0; op = OperateF Concatenate 7 (RegisterO 8) (RegisterO 9) } ∷
      record { charge = 0; op = OperateF Concatenate 1 (RegisterO 1) (RegisterO 7) } ∷
      record { charge = 0; op = JumpF 8 } ∷
      record { charge = 3; op = GetGlobalF 2 6 } ∷
      record { charge = 1; op = LoadF 3 (RegisterO 0) } ∷
      record { charge = 0; op = CallF 2 2 (Exactly 1) (Exactly 3) } ∷
      record { charge = 0; op = EachCallsF 2 2 } ∷
      record { charge = 0; op = EachTestsF 2 27 } ∷
      record { charge = 7; op = OperateF Concatenate 7 (RegisterO 5) (RegisterO 6) } ∷
      record { charge = 0; op = OperateF Concatenate 1 (RegisterO 1) (RegisterO 7) } ∷
      record { charge = 0; op = JumpF 22 } ∷
      record { charge = 2; op = ReturnF 1 (Exactly 1) } ∷
      record { charge = 0; op = ReturnF 0 (Exactly 0) } ∷ [];
  lines = 0 ∷ 2 ∷ 2 ∷ 2 ∷ 0 ∷ 2 ∷ 0 ∷ 2 ∷ 2 ∷ 0 ∷ 2 ∷ 0 ∷ 2 ∷ 2 ∷ 0 ∷ 2 ∷ 2 ∷ 2 ∷ 0 ∷ 2 ∷ 0 ∷ 2 ∷ 2 ∷ 0 ∷ 2 ∷ 2 ∷ 0 ∷ 0 ∷ 0 ∷ [];
}

abbrev pub PairsLoopFlatAlike : Type 0
PairsLoopFlatAlike = flat_invoke (codes "X") 165 pairs_loop_code (pairs_loop_flat_0 ∷ pairs_loop_flat_1 ∷ []) 20000 ≡ run.invoke_module (codes "X") 165 pairs_loop_code 20000

abbrev pub PairsLoopIsFlat : Type 0
PairsLoopIsFlat = IsFlatFunction pairs_loop_0 pairs_loop_flat_0 × IsFlatFunction pairs_loop_1 pairs_loop_flat_1

-- An iterator that is a function of Lua, with cells for its variables.
--     return {f=function(...)
--     local function upto(n) local i=0 return function() i=i+1 if i<=n then return i,i*i end end end
--     local fs={} for i,q in upto(3) do fs[i]=function() q=q+i return q end end return fs[1]()..fs[2]()..fs[2]()..fs[3]()
--     end}
abbrev pub own_iterator_0 : CProto
own_iterator_0 = record { flags = []; dots = false; body = (ThenC (ReturnC (MoreC (TableC (PairC (TextC 0) (FunctionC 1 []) NoFieldC) 1) NoC)) EndC) }

abbrev pub own_iterator_1 : CProto
own_iterator_1 = record { flags = []; dots = true; body = (LocalFunctionC false 2 [] (DeclareC (false ∷ []) (MoreC (TableC NoFieldC 3) NoC) (ThenC (EachC (true ∷ (true ∷ [])) (MoreC (CallC (LocalC (Reg 1)) (MoreC (ConstantC (Number (pos 3))) NoC) 3) NoC) (ThenC (AssignC ((EntryC (LocalC (Reg 2)) (LocalC (Box 1)) 3) ∷ []) (MoreC (FunctionC 4 ((Box 0) ∷ ((Box 1) ∷ []))) NoC)) EndC) 3) (ThenC (ReturnC (MoreC (OperateC Concatenate (CallC (IndexC (LocalC (Reg 0)) (ConstantC (Number (pos 1))) 3) NoC 3) (OperateC Concatenate (CallC (IndexC (LocalC (Reg 0)) (ConstantC (Number (pos 2))) 3) NoC 3) (OperateC Concatenate (CallC (IndexC (LocalC (Reg 0)) (ConstantC (Number (pos 2))) 3) NoC 3) (CallC (IndexC (LocalC (Reg 0)) (ConstantC (Number (pos 3))) 3) NoC 3) 3) 3) 3) NoC)) EndC)))) }

abbrev pub own_iterator_2 : CProto
own_iterator_2 = record { flags = (true ∷ []); dots = false; body = (DeclareC (true ∷ []) (MoreC (ConstantC (Number (pos 0))) NoC) (ThenC (ReturnC (MoreC (FunctionC 3 ((Box 0) ∷ ((Box 1) ∷ []))) NoC)) EndC)) }

abbrev pub own_iterator_3 : CProto
own_iterator_3 = record { flags = []; dots = false; body = (ThenC (AssignC ((PlaceC (Up 0)) ∷ []) (MoreC (OperateC (Calculate Add) (LocalC (Up 0)) (ConstantC (Number (pos 1))) 2) NoC)) (ThenC (IfC (ArmC (OperateC AtMost (LocalC (Up 0)) (LocalC (Up 1)) 2) (ThenC (ReturnC (MoreC (LocalC (Up 0)) (MoreC (OperateC (Calculate Mul) (LocalC (Up 0)) (LocalC (Up 0)) 2) NoC))) EndC) NoArmC)) EndC)) }

abbrev pub own_iterator_4 : CProto
own_iterator_4 = record { flags = []; dots = false; body = (ThenC (AssignC ((PlaceC (Up 0)) ∷ []) (MoreC (OperateC (Calculate Add) (LocalC (Up 0)) (LocalC (Up 1)) 3) NoC)) (ThenC (ReturnC (MoreC (LocalC (Up 0)) NoC)) EndC)) }

abbrev pub own_iterator_code : Protos
own_iterator_code = code_with (codes "f" ∷ []) (own_iterator_0 ∷ own_iterator_1 ∷ own_iterator_2 ∷ own_iterator_3 ∷ own_iterator_4 ∷ [])

abbrev pub own_iterator_flat_0 : FlatFunction
own_iterator_flat_0 = record {
  flags = [];
  dots = false;
  registers = 2;
  steps =
      record { charge = 2; op = TableF 0 } ∷
      record { charge = 2; op = ClosureF 1 1 [] } ∷
      record { charge = 0; op = SetFieldF 0 (TextO 0) (RegisterO 1) } ∷
      record { charge = 0; op = ReturnF 0 (Exactly 1) } ∷
      record { charge = 0; op = ReturnF 0 (Exactly 0) } ∷ [];
  lines = 0 ∷ 0 ∷ 1 ∷ 0 ∷ 0 ∷ [];
}

abbrev pub own_iterator_flat_1 : FlatFunction
own_iterator_flat_1 = record {
  flags = [];
  dots = true;
  registers = 10;
  steps =
      record { charge = 1; op = NamedF false 0 2 [] } ∷
      record { charge = 2; op = TableF 1 } ∷
      record { charge = 3; op = LoadF 2 (RegisterO 0) } ∷
      record { charge = 1; op = LoadF 3 (ConstantO (Number (pos 3))) } ∷
      record { charge = 0; op = CallF 2 2 (Exactly 1) (Exactly 3) } ∷
      record { charge = 0; op = EachCallsF 2 2 } ∷
      record { charge = 0; op = EachTestsF 2 12 } ∷
      record { charge = 1; op = OpenF 5 (true ∷ true ∷ []) } ∷
      record { charge = 4; op = GetCellF 7 5 } ∷
      record { charge = 1; op = ClosureF 8 4 ((InRegister 6) ∷ (InRegister 5) ∷ []) } ∷
      record { charge = 0; op = SetIndexF (RegisterO 1) (RegisterO 7) (RegisterO 8) } ∷
      record { charge = 0; op = JumpF 5 } ∷
      record { charge = 6; op = IndexF 4 (RegisterO 1) (ConstantO (Number (pos 1))) } ∷
      record { charge = 0; op = CallF 3 4 (Exactly 0) (Exactly 1) } ∷
      record { charge = 5; op = IndexF 6 (RegisterO 1) (ConstantO (Number (pos 2))) } ∷
      record { charge = 0; op = CallF 5 6 (Exactly 0) (Exactly 1) } ∷
      record { charge = 5; op = IndexF 8 (RegisterO 1) (ConstantO (Number (pos 2))) } ∷
      record { charge = 0; op = CallF 7 8 (Exactly 0) (Exactly 1) } ∷
      record { charge = 4; op = IndexF 9 (RegisterO 1) (ConstantO (Number (pos 3))) } ∷
      record { charge = 0; op = CallF 8 9 (Exactly 0) (Exactly 1) } ∷
      record { charge = 0; op = OperateF Concatenate 6 (RegisterO 7) (RegisterO 8) } ∷
      record { charge = 0; op = OperateF Concatenate 4 (RegisterO 5) (RegisterO 6) } ∷
      record { charge = 0; op = OperateF Concatenate 2 (RegisterO 3) (RegisterO 4) } ∷
      record { charge = 0; op = ReturnF 2 (Exactly 1) } ∷
      record { charge = 0; op = ReturnF 0 (Exactly 0) } ∷ [];
  lines = 0 ∷ 0 ∷ 0 ∷ 0 ∷ 3 ∷ 3 ∷ 0 ∷ 0 ∷ 0 ∷ 0 ∷ 3 ∷ 0 ∷ 3 ∷ 3 ∷ 3 ∷ 3 ∷ 3 ∷ 3 ∷ 3 ∷ 3 ∷ 3 ∷ 3 ∷ 3 ∷ 0 ∷ 0 ∷ [];
}

abbrev pub own_iterator_flat_2 : FlatFunction
own_iterator_flat_2 = record {
  flags = (true ∷ []);
  dots = false;
  registers = 3;
  steps =
      record { charge = 2; op = LoadF 1 (ConstantO (Number (pos 0))) } ∷
      record { charge = 0; op = OpenF 1 (true ∷ []) } ∷
      record { charge = 2; op = ClosureF 2 3 ((InRegister 1) ∷ (InRegister 0) ∷ []) } ∷
      record { charge = 0; op = ReturnF 2 (Exactly 1) } ∷
      record { charge = 0; op = ReturnF 0 (Exactly 0) } ∷ [];
  lines = 0 ∷ 0 ∷ 0 ∷ 0 ∷ 0 ∷ [];
}

abbrev pub own_iterator_flat_3 : FlatFunction
own_iterator_flat_3 = record {
  flags = [];
  dots = false;
  registers = 4;
  steps =
      record { charge = 3; op = GetUpF 1 0 } ∷
      record { charge = 1; op = OperateF (Calculate Add) 0 (RegisterO 1) (ConstantO (Number (pos 1))) } ∷
      record { charge = 0; op = SetUpF 0 (RegisterO 0) } ∷
      record { charge = 3; op = GetUpF 0 0 } ∷
      record { charge = 1; op = GetUpF 1 1 } ∷
      record { charge = 0; op = CompareF AtMost (RegisterO 0) (RegisterO 1) false 11 } ∷
      record { charge = 2; op = GetUpF 0 0 } ∷
      record { charge = 2; op = GetUpF 2 0 } ∷
      record { charge = 1; op = GetUpF 3 0 } ∷
      record { charge = 0; op = OperateF (Calculate Mul) 1 (RegisterO 2) (RegisterO 3) } ∷
      record { charge = 0; op = ReturnF 0 (Exactly 2) } ∷
      record { charge = 0; op = ReturnF 0 (Exactly 0) } ∷ [];
  lines = 0 ∷ 2 ∷ 0 ∷ 0 ∷ 0 ∷ 2 ∷ 0 ∷ 0 ∷ 0 ∷ 2 ∷ 0 ∷ 0 ∷ [];
}

abbrev pub own_iterator_flat_4 : FlatFunction
own_iterator_flat_4 = record {
  flags = [];
  dots = false;
  registers = 3;
  steps =
      record { charge = 3; op = GetUpF 1 0 } ∷
      record { charge = 1; op = GetUpF 2 1 } ∷
      record { charge = 0; op = OperateF (Calculate Add) 0 (RegisterO 1) (RegisterO 2) } ∷
      record { charge = 0; op = SetUpF 0 (RegisterO 0) } ∷
      record { charge = 2; op = GetUpF 0 0 } ∷
      record { charge = 0; op = ReturnF 0 (Exactly 1) } ∷
      record { charge = 0; op = ReturnF 0 (Exactly 0) } ∷ [];
  lines = 0 ∷ 0 ∷ 3 ∷ 0 ∷ 0 ∷ 0 ∷ 0 ∷ [];
}

abbrev pub OwnIteratorFlatAlike : Type 0
OwnIteratorFlatAlike = flat_invoke (codes "X") 239 own_iterator_code (own_iterator_flat_0 ∷ own_iterator_flat_1 ∷ own_iterator_flat_2 ∷ own_iterator_flat_3 ∷ own_iterator_flat_4 ∷ []) 20000 ≡ run.invoke_module (codes "X") 239 own_iterator_code 20000

abbrev pub OwnIteratorIsFlat : Type 0
OwnIteratorIsFlat = IsFlatFunction own_iterator_0 own_iterator_flat_0 × IsFlatFunction own_iterator_1 own_iterator_flat_1 × IsFlatFunction own_iterator_2 own_iterator_flat_2 × IsFlatFunction own_iterator_3 own_iterator_flat_3 × IsFlatFunction own_iterator_4 own_iterator_flat_4

-- all of these
abbrev pub AllLoops : Type 0
AllLoops = WhileBreakFlatAlike × NestedBreaksFlatAlike × CountDownFlatAlike × NoNumbersFlatAlike × PairsLoopFlatAlike × OwnIteratorFlatAlike

abbrev pub AllFlatLoops : Type 0
AllFlatLoops = WhileBreakIsFlat × NestedBreaksIsFlat × CountDownIsFlat × NoNumbersIsFlat × PairsLoopIsFlat × OwnIteratorIsFlat
