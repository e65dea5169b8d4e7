-- FLAT CODE OF SMALL MODULES, beside their resolved code: both end alike, with the same steps.
use Rattle.std.specs.Prelude.{◌≡◌, pos, true, false, [], ◌∷◌, codes}
use Rattle.lua_flat.specs.LuaHeapValue.{Nil, Number}
use Rattle.lua_flat.specs.LuaMeaningOperators.{Add, Less, Greater, AtMost, AtLeast, Equal, Unequal, Concatenate, Calculate}
use Rattle.lua_flat.specs.Operations.{RegisterO, ConstantO, TextO, Exactly, Every, InRegister, LoadF, NilsF, DotsF, ClosureF, NamedF, OpenF, GetCellF, GetUpF, SetUpF, GetGlobalF, IndexF, SetIndexF, MethodF, TableF, SetFieldF, OperateF, CompareF, CallF, ReturnF, FlatFunction}
use Rattle.lua_flat.specs.LuaSyntaxDeclaredUnaryOpTheVariants as sign
use Rattle.lua_flat.specs.LuaSlotsCode.{Reg, Box, Up, ConstantC, TextC, DotsC, FunctionC, LocalC, GlobalC, IndexC, CallC, MethodC, TableC, AndC, OperateC, UnaryC, ParenC, NoC, MoreC, NoFieldC, ItemC, PairC, PlaceC, EntryC, AssignC, CallStatC, IfC, ReturnC, EndC, DeclareC, LocalFunctionC, ThenC, NoArmC, ArmC, CProto, Protos}
use Rattle.lua_flat.specs.LuaSlotsTrial.{code_with}
use Rattle.lua_flat.specs.IsStatement.{IsFlatFunction}
use Rattle.lua_flat.specs.Trial.{flat_invoke}
use Rattle.lua_flat.specs.LuaSlotsTrial as run

-- Values of `...`.
--     return {f=function(...)
--     local function count(...) return select('#',...) end
--     local function both(...) local a,b=... return b,a,... end
--     return count(),count(nil,nil),count(both(1,2,3)),(both(7,8))
--     end}
abbrev pub dots_0 : CProto
dots_0 = record { flags = []; dots = false; body = (ThenC (ReturnC (MoreC (TableC (PairC (TextC 0) (FunctionC 1 []) NoFieldC) 1) NoC)) EndC) }

abbrev pub dots_1 : CProto
dots_1 = record { flags = []; dots = true; body = (LocalFunctionC false 2 [] (LocalFunctionC false 3 [] (ThenC (ReturnC (MoreC (CallC (LocalC (Reg 1)) NoC 4) (MoreC (CallC (LocalC (Reg 1)) (MoreC (ConstantC Nil) (MoreC (ConstantC Nil) NoC)) 4) (MoreC (CallC (LocalC (Reg 1)) (MoreC (CallC (LocalC (Reg 0)) (MoreC (ConstantC (Number (pos 1))) (MoreC (ConstantC (Number (pos 2))) (MoreC (ConstantC (Number (pos 3))) NoC))) 4) NoC) 4) (MoreC (ParenC (CallC (LocalC (Reg 0)) (MoreC (ConstantC (Number (pos 7))) (MoreC (ConstantC (Number (pos 8))) NoC)) 4)) NoC))))) EndC))) }

abbrev pub dots_2 : CProto
dots_2 = record { flags = []; dots = true; body = (ThenC (ReturnC (MoreC (CallC (GlobalC 1 2) (MoreC (TextC 2) (MoreC DotsC NoC)) 2) NoC)) EndC) }

abbrev pub dots_3 : CProto
dots_3 = record { flags = []; dots = true; body = (DeclareC (false ∷ (false ∷ [])) (MoreC DotsC NoC) (ThenC (ReturnC (MoreC (LocalC (Reg 0)) (MoreC (LocalC (Reg 1)) (MoreC DotsC NoC)))) EndC)) }

abbrev pub dots_code : Protos
dots_code = code_with (codes "f" ∷ codes "select" ∷ codes "#" ∷ []) (dots_0 ∷ dots_1 ∷ dots_2 ∷ dots_3 ∷ [])

abbrev pub dots_flat_0 : FlatFunction
dots_flat_0 = record {
  flags = [];
  dots = false;
  registers = 2;
  steps =
      record { charge = 2; op = TableF 0 } ∷
      record { charge = 2; op = ClosureF 1 1 [] } ∷
      record { charge = 0; op = SetFieldF 0 (TextO 0) (RegisterO 1) } ∷
      record { charge = 0; op = ReturnF 0 (Exactly 1) } ∷
      record { charge = 0; op = ReturnF 0 (Exactly 0) } ∷ [];
  lines = 0 ∷ 0 ∷ 1 ∷ 0 ∷ 0 ∷ [];
}

abbrev pub dots_flat_1 : FlatFunction
dots_flat_1 = record {
  flags = [];
  dots = true;
  registers = 10;
  steps =
      record { charge = 1; op = NamedF false 0 2 [] } ∷
      record { charge = 1; op = NamedF false 1 3 [] } ∷
      record { charge = 3; op = LoadF 3 (RegisterO 0) } ∷
      record { charge = 0; op = CallF 2 3 (Exactly 0) (Exactly 1) } ∷
      record { charge = 2; op = LoadF 4 (RegisterO 0) } ∷
      record { charge = 1; op = LoadF 5 (ConstantO Nil) } ∷
      record { charge = 1; op = LoadF 6 (ConstantO Nil) } ∷
      record { charge = 0; op = CallF 3 4 (Exactly 2) (Exactly 1) } ∷
      record { charge = 2; op = LoadF 5 (RegisterO 0) } ∷
      record { charge = 2; op = LoadF 6 (RegisterO 1) } ∷
      record { charge = 1; op = LoadF 7 (ConstantO (Number (pos 1))) } ∷
      record { charge = 1; op = LoadF 8 (ConstantO (Number (pos 2))) } ∷
      record { charge = 1; op = LoadF 9 (ConstantO (Number (pos 3))) } ∷
      record { charge = 0; op = CallF 6 6 (Exactly 3) Every } ∷
      record { charge = 0; op = CallF 4 5 Every (Exactly 1) } ∷
      record { charge = 3; op = LoadF 6 (RegisterO 1) } ∷
      record { charge = 1; op = LoadF 7 (ConstantO (Number (pos 7))) } ∷
      record { charge = 1; op = LoadF 8 (ConstantO (Number (pos 8))) } ∷
      record { charge = 0; op = CallF 5 6 (Exactly 2) (Exactly 1) } ∷
      record { charge = 0; op = ReturnF 2 (Exactly 4) } ∷
      record { charge = 0; op = ReturnF 0 (Exactly 0) } ∷ [];
  lines = 0 ∷ 0 ∷ 0 ∷ 4 ∷ 0 ∷ 0 ∷ 0 ∷ 4 ∷ 0 ∷ 0 ∷ 0 ∷ 0 ∷ 0 ∷ 4 ∷ 4 ∷ 0 ∷ 0 ∷ 0 ∷ 4 ∷ 0 ∷ 0 ∷ [];
}

abbrev pub dots_flat_2 : FlatFunction
dots_flat_2 = record {
  flags = [];
  dots = true;
  registers = 2;
  steps =
      record { charge = 3; op = GetGlobalF 0 1 } ∷
      record { charge = 1; op = LoadF 1 (TextO 2) } ∷
      record { charge = 1; op = DotsF 2 Every } ∷
      record { charge = 0; op = CallF 0 0 Every Every } ∷
      record { charge = 0; op = ReturnF 0 Every } ∷
      record { charge = 0; op = ReturnF 0 (Exactly 0) } ∷ [];
  lines = 2 ∷ 0 ∷ 0 ∷ 2 ∷ 0 ∷ 0 ∷ [];
}

abbrev pub dots_flat_3 : FlatFunction
dots_flat_3 = record {
  flags = [];
  dots = true;
  registers = 4;
  steps =
      record { charge = 2; op = DotsF 0 (Exactly 2) } ∷
      record { charge = 2; op = LoadF 2 (RegisterO 1) } ∷
      record { charge = 1; op = LoadF 3 (RegisterO 0) } ∷
      record { charge = 1; op = DotsF 4 Every } ∷
      record { charge = 0; op = ReturnF 2 Every } ∷
      record { charge = 0; op = ReturnF 0 (Exactly 0) } ∷ [];
  lines = 0 ∷ 0 ∷ 0 ∷ 0 ∷ 0 ∷ 0 ∷ [];
}

abbrev pub DotsFlatAlike : Type 0
DotsFlatAlike = flat_invoke (codes "X") 200 dots_code (dots_flat_0 ∷ dots_flat_1 ∷ dots_flat_2 ∷ dots_flat_3 ∷ []) 20000 ≡ run.invoke_module (codes "X") 200 dots_code 20000

abbrev pub DotsIsFlat : Type 0
DotsIsFlat = IsFlatFunction dots_0 dots_flat_0 × IsFlatFunction dots_1 dots_flat_1 × IsFlatFunction dots_2 dots_flat_2 × IsFlatFunction dots_3 dots_flat_3

-- Lists are adjusted.
--     return {f=function(...)
--     local function three() return 1,2,3 end
--     local a,b,c,d=three() local e,f=three(),4 local g=three(),5 local h,i,j=0,(three()) return a,b,c,tostring(d),e,f,g,h,i,tostring(j)
--     end}
abbrev pub adjusted_0 : CProto
adjusted_0 = record { flags = []; dots = false; body = (ThenC (ReturnC (MoreC (TableC (PairC (TextC 0) (FunctionC 1 []) NoFieldC) 1) NoC)) EndC) }

abbrev pub adjusted_1 : CProto
adjusted_1 = record { flags = []; dots = true; body = (LocalFunctionC false 2 [] (DeclareC (false ∷ (false ∷ (false ∷ (false ∷ [])))) (MoreC (CallC (LocalC (Reg 0)) NoC 3) NoC) (DeclareC (false ∷ (false ∷ [])) (MoreC (CallC (LocalC (Reg 4)) NoC 3) (MoreC (ConstantC (Number (pos 4))) NoC)) (DeclareC (false ∷ []) (MoreC (CallC (LocalC (Reg 6)) NoC 3) (MoreC (ConstantC (Number (pos 5))) NoC)) (DeclareC (false ∷ (false ∷ (false ∷ []))) (MoreC (ConstantC (Number (pos 0))) (MoreC (ParenC (CallC (LocalC (Reg 7)) NoC 3)) NoC)) (ThenC (ReturnC (MoreC (LocalC (Reg 9)) (MoreC (LocalC (Reg 8)) (MoreC (LocalC (Reg 7)) (MoreC (CallC (GlobalC 1 3) (MoreC (LocalC (Reg 6)) NoC) 3) (MoreC (LocalC (Reg 5)) (MoreC (LocalC (Reg 4)) (MoreC (LocalC (Reg 3)) (MoreC (LocalC (Reg 2)) (MoreC (LocalC (Reg 1)) (MoreC (CallC (GlobalC 1 3) (MoreC (LocalC (Reg 0)) NoC) 3) NoC))))))))))) EndC)))))) }

abbrev pub adjusted_2 : CProto
adjusted_2 = record { flags = []; dots = false; body = (ThenC (ReturnC (MoreC (ConstantC (Number (pos 1))) (MoreC (ConstantC (Number (pos 2))) (MoreC (ConstantC (Number (pos 3))) NoC)))) EndC) }

abbrev pub adjusted_code : Protos
adjusted_code = code_with (codes "f" ∷ codes "tostring" ∷ []) (adjusted_0 ∷ adjusted_1 ∷ adjusted_2 ∷ [])

abbrev pub adjusted_flat_0 : FlatFunction
adjusted_flat_0 = record {
  flags = [];
  dots = false;
  registers = 2;
  steps =
      record { charge = 2; op = TableF 0 } ∷
      record { charge = 2; op = ClosureF 1 1 [] } ∷
      record { charge = 0; op = SetFieldF 0 (TextO 0) (RegisterO 1) } ∷
      record { charge = 0; op = ReturnF 0 (Exactly 1) } ∷
      record { charge = 0; op = ReturnF 0 (Exactly 0) } ∷ [];
  lines = 0 ∷ 0 ∷ 1 ∷ 0 ∷ 0 ∷ [];
}

abbrev pub adjusted_flat_1 : FlatFunction
adjusted_flat_1 = record {
  flags = [];
  dots = true;
  registers = 22;
  steps =
      record { charge = 1; op = NamedF false 0 2 [] } ∷
      record { charge = 3; op = LoadF 1 (RegisterO 0) } ∷
      record { charge = 0; op = CallF 1 1 (Exactly 0) (Exactly 4) } ∷
      record { charge = 3; op = LoadF 6 (RegisterO 0) } ∷
      record { charge = 0; op = CallF 5 6 (Exactly 0) (Exactly 1) } ∷
      record { charge = 1; op = LoadF 6 (ConstantO (Number (pos 4))) } ∷
      record { charge = 3; op = LoadF 8 (RegisterO 0) } ∷
      record { charge = 0; op = CallF 7 8 (Exactly 0) (Exactly 1) } ∷
      record { charge = 1; op = LoadF 8 (ConstantO (Number (pos 5))) } ∷
      record { charge = 2; op = LoadF 8 (ConstantO (Number (pos 0))) } ∷
      record { charge = 3; op = LoadF 10 (RegisterO 0) } ∷
      record { charge = 0; op = CallF 9 10 (Exactly 0) (Exactly 1) } ∷
      record { charge = 0; op = NilsF 10 1 } ∷
      record { charge = 2; op = LoadF 11 (RegisterO 1) } ∷
      record { charge = 1; op = LoadF 12 (RegisterO 2) } ∷
      record { charge = 1; op = LoadF 13 (RegisterO 3) } ∷
      record { charge = 2; op = GetGlobalF 15 1 } ∷
      record { charge = 1; op = LoadF 16 (RegisterO 4) } ∷
      record { charge = 0; op = CallF 14 15 (Exactly 1) (Exactly 1) } ∷
      record { charge = 1; op = LoadF 15 (RegisterO 5) } ∷
      record { charge = 1; op = LoadF 16 (RegisterO 6) } ∷
      record { charge = 1; op = LoadF 17 (RegisterO 7) } ∷
      record { charge = 1; op = LoadF 18 (RegisterO 8) } ∷
      record { charge = 1; op = LoadF 19 (RegisterO 9) } ∷
      record { charge = 2; op = GetGlobalF 20 1 } ∷
      record { charge = 1; op = LoadF 21 (RegisterO 10) } ∷
      record { charge = 0; op = CallF 20 20 (Exactly 1) Every } ∷
      record { charge = 0; op = ReturnF 11 Every } ∷
      record { charge = 0; op = ReturnF 0 (Exactly 0) } ∷ [];
  lines = 0 ∷ 0 ∷ 3 ∷ 0 ∷ 3 ∷ 0 ∷ 0 ∷ 3 ∷ 0 ∷ 0 ∷ 0 ∷ 3 ∷ 0 ∷ 0 ∷ 0 ∷ 0 ∷ 3 ∷ 0 ∷ 3 ∷ 0 ∷ 0 ∷ 0 ∷ 0 ∷ 0 ∷ 3 ∷ 0 ∷ 3 ∷ 0 ∷ 0 ∷ [];
}

abbrev pub adjusted_flat_2 : FlatFunction
adjusted_flat_2 = record {
  flags = [];
  dots = false;
  registers = 3;
  steps =
      record { charge = 2; op = LoadF 0 (ConstantO (Number (pos 1))) } ∷
      record { charge = 1; op = LoadF 1 (ConstantO (Number (pos 2))) } ∷
      record { charge = 1; op = LoadF 2 (ConstantO (Number (pos 3))) } ∷
      record { charge = 0; op = ReturnF 0 (Exactly 3) } ∷
      record { charge = 0; op = ReturnF 0 (Exactly 0) } ∷ [];
  lines = 0 ∷ 0 ∷ 0 ∷ 0 ∷ 0 ∷ [];
}

abbrev pub AdjustedFlatAlike : Type 0
AdjustedFlatAlike = flat_invoke (codes "X") 199 adjusted_code (adjusted_flat_0 ∷ adjusted_flat_1 ∷ adjusted_flat_2 ∷ []) 20000 ≡ run.invoke_module (codes "X") 199 adjusted_code 20000

abbrev pub AdjustedIsFlat : Type 0
AdjustedIsFlat = IsFlatFunction adjusted_0 adjusted_flat_0 × IsFlatFunction adjusted_1 adjusted_flat_1 × IsFlatFunction adjusted_2 adjusted_flat_2

-- Several targets, from the last to the first.
--     return {f=function(...)
--     local a,b=1,2 a,b=b,a local t={1,2} local i=1 i,t[i]=2,7 t[1],t[2],i=t[2],t[1] return a,b,t[1],t[2],tostring(i)
--     end}
abbrev pub swap_0 : CProto
swap_0 = record { flags = []; dots = false; body = (ThenC (ReturnC (MoreC (TableC (PairC (TextC 0) (FunctionC 1 []) NoFieldC) 1) NoC)) EndC) }

abbrev pub swap_1 : CProto
swap_1 = record { flags = []; dots = true; body = (DeclareC (false ∷ (false ∷ [])) (MoreC (ConstantC (Number (pos 1))) (MoreC (ConstantC (Number (pos 2))) NoC)) (ThenC (AssignC ((PlaceC (Reg 1)) ∷ ((PlaceC (Reg 0)) ∷ [])) (MoreC (LocalC (Reg 0)) (MoreC (LocalC (Reg 1)) NoC))) (DeclareC (false ∷ []) (MoreC (TableC (ItemC (ConstantC (Number (pos 1))) (ItemC (ConstantC (Number (pos 2))) NoFieldC)) 2) NoC) (DeclareC (false ∷ []) (MoreC (ConstantC (Number (pos 1))) NoC) (ThenC (AssignC ((PlaceC (Reg 0)) ∷ ((EntryC (LocalC (Reg 1)) (LocalC (Reg 0)) 2) ∷ [])) (MoreC (ConstantC (Number (pos 2))) (MoreC (ConstantC (Number (pos 7))) NoC))) (ThenC (AssignC ((EntryC (LocalC (Reg 1)) (ConstantC (Number (pos 1))) 2) ∷ ((EntryC (LocalC (Reg 1)) (ConstantC (Number (pos 2))) 2) ∷ ((PlaceC (Reg 0)) ∷ []))) (MoreC (IndexC (LocalC (Reg 1)) (ConstantC (Number (pos 2))) 2) (MoreC (IndexC (LocalC (Reg 1)) (ConstantC (Number (pos 1))) 2) NoC))) (ThenC (ReturnC (MoreC (LocalC (Reg 3)) (MoreC (LocalC (Reg 2)) (MoreC (IndexC (LocalC (Reg 1)) (ConstantC (Number (pos 1))) 2) (MoreC (IndexC (LocalC (Reg 1)) (ConstantC (Number (pos 2))) 2) (MoreC (CallC (GlobalC 1 2) (MoreC (LocalC (Reg 0)) NoC) 2) NoC)))))) EndC))))))) }

abbrev pub swap_code : Protos
swap_code = code_with (codes "f" ∷ codes "tostring" ∷ []) (swap_0 ∷ swap_1 ∷ [])

abbrev pub swap_flat_0 : FlatFunction
swap_flat_0 = record {
  flags = [];
  dots = false;
  registers = 2;
  steps =
      record { charge = 2; op = TableF 0 } ∷
      record { charge = 2; op = ClosureF 1 1 [] } ∷
      record { charge = 0; op = SetFieldF 0 (TextO 0) (RegisterO 1) } ∷
      record { charge = 0; op = ReturnF 0 (Exactly 1) } ∷
      record { charge = 0; op = ReturnF 0 (Exactly 0) } ∷ [];
  lines = 0 ∷ 0 ∷ 1 ∷ 0 ∷ 0 ∷ [];
}

abbrev pub swap_flat_1 : FlatFunction
swap_flat_1 = record {
  flags = [];
  dots = true;
  registers = 11;
  steps =
      record { charge = 2; op = LoadF 0 (ConstantO (Number (pos 1))) } ∷
      record { charge = 1; op = LoadF 1 (ConstantO (Number (pos 2))) } ∷
      record { charge = 2; op = LoadF 2 (RegisterO 1) } ∷
      record { charge = 1; op = LoadF 3 (RegisterO 0) } ∷
      record { charge = 0; op = LoadF 1 (RegisterO 3) } ∷
      record { charge = 0; op = LoadF 0 (RegisterO 2) } ∷
      record { charge = 2; op = TableF 2 } ∷
      record { charge = 1; op = SetFieldF 2 (ConstantO (Number (pos 1))) (ConstantO (Number (pos 1))) } ∷
      record { charge = 1; op = SetFieldF 2 (ConstantO (Number (pos 2))) (ConstantO (Number (pos 2))) } ∷
      record { charge = 2; op = LoadF 3 (ConstantO (Number (pos 1))) } ∷
      record { charge = 3; op = LoadF 4 (RegisterO 2) } ∷
      record { charge = 1; op = LoadF 5 (RegisterO 3) } ∷
      record { charge = 1; op = LoadF 6 (ConstantO (Number (pos 2))) } ∷
      record { charge = 1; op = LoadF 7 (ConstantO (Number (pos 7))) } ∷
      record { charge = 0; op = SetIndexF (RegisterO 4) (RegisterO 5) (RegisterO 7) } ∷
      record { charge = 0; op = LoadF 3 (RegisterO 6) } ∷
      record { charge = 3; op = LoadF 4 (RegisterO 2) } ∷
      record { charge = 1; op = LoadF 5 (ConstantO (Number (pos 1))) } ∷
      record { charge = 2; op = LoadF 6 (RegisterO 2) } ∷
      record { charge = 1; op = LoadF 7 (ConstantO (Number (pos 2))) } ∷
      record { charge = 3; op = IndexF 8 (RegisterO 2) (ConstantO (Number (pos 2))) } ∷
      record { charge = 3; op = IndexF 9 (RegisterO 2) (ConstantO (Number (pos 1))) } ∷
      record { charge = 0; op = NilsF 10 1 } ∷
      record { charge = 0; op = LoadF 3 (RegisterO 10) } ∷
      record { charge = 0; op = SetIndexF (RegisterO 6) (RegisterO 7) (RegisterO 9) } ∷
      record { charge = 0; op = SetIndexF (RegisterO 4) (RegisterO 5) (RegisterO 8) } ∷
      record { charge = 2; op = LoadF 4 (RegisterO 0) } ∷
      record { charge = 1; op = LoadF 5 (RegisterO 1) } ∷
      record { charge = 3; op = IndexF 6 (RegisterO 2) (ConstantO (Number (pos 1))) } ∷
      record { charge = 3; op = IndexF 7 (RegisterO 2) (ConstantO (Number (pos 2))) } ∷
      record { charge = 2; op = GetGlobalF 8 1 } ∷
      record { charge = 1; op = LoadF 9 (RegisterO 3) } ∷
      record { charge = 0; op = CallF 8 8 (Exactly 1) Every } ∷
      record { charge = 0; op = ReturnF 4 Every } ∷
      record { charge = 0; op = ReturnF 0 (Exactly 0) } ∷ [];
  lines = 0 ∷ 0 ∷ 0 ∷ 0 ∷ 0 ∷ 0 ∷ 0 ∷ 2 ∷ 2 ∷ 0 ∷ 0 ∷ 0 ∷ 0 ∷ 0 ∷ 2 ∷ 0 ∷ 0 ∷ 0 ∷ 0 ∷ 0 ∷ 2 ∷ 2 ∷ 0 ∷ 0 ∷ 2 ∷ 2 ∷ 0 ∷ 0 ∷ 2 ∷ 2 ∷ 2 ∷ 0 ∷ 2 ∷ 0 ∷ 0 ∷ [];
}

abbrev pub SwapFlatAlike : Type 0
SwapFlatAlike = flat_invoke (codes "X") 140 swap_code (swap_flat_0 ∷ swap_flat_1 ∷ []) 20000 ≡ run.invoke_module (codes "X") 140 swap_code 20000

abbrev pub SwapIsFlat : Type 0
SwapIsFlat = IsFlatFunction swap_0 swap_flat_0 × IsFlatFunction swap_1 swap_flat_1

-- Methods by an `__index` table.
--     return {f=function(...)
--     local P={} P.__index=P function P.new(x) return setmetatable({x=x},P) end function P:add(n) self.x=self.x+n return self end
--     return P.new(3):add(4):add(5).x
--     end}
abbrev pub methods_0 : CProto
methods_0 = record { flags = []; dots = false; body = (ThenC (ReturnC (MoreC (TableC (PairC (TextC 0) (FunctionC 1 []) NoFieldC) 1) NoC)) EndC) }

abbrev pub methods_1 : CProto
methods_1 = record { flags = []; dots = true; body = (DeclareC (true ∷ []) (MoreC (TableC NoFieldC 2) NoC) (ThenC (AssignC ((EntryC (LocalC (Box 0)) (TextC 1) 2) ∷ []) (MoreC (LocalC (Box 0)) NoC)) (ThenC (AssignC ((EntryC (LocalC (Box 0)) (TextC 2) 2) ∷ []) (MoreC (FunctionC 2 ((Box 0) ∷ [])) NoC)) (ThenC (AssignC ((EntryC (LocalC (Box 0)) (TextC 5) 2) ∷ []) (MoreC (FunctionC 3 []) NoC)) (ThenC (ReturnC (MoreC (IndexC (MethodC (MethodC (CallC (IndexC (LocalC (Box 0)) (TextC 2) 3) (MoreC (ConstantC (Number (pos 3))) NoC) 3) 5 (MoreC (ConstantC (Number (pos 4))) NoC) 3) 5 (MoreC (ConstantC (Number (pos 5))) NoC) 3) (TextC 4) 3) NoC)) EndC))))) }

abbrev pub methods_2 : CProto
methods_2 = record { flags = (false ∷ []); dots = false; body = (ThenC (ReturnC (MoreC (CallC (GlobalC 3 2) (MoreC (TableC (PairC (TextC 4) (LocalC (Reg 0)) NoFieldC) 2) (MoreC (LocalC (Up 0)) NoC)) 2) NoC)) EndC) }

abbrev pub methods_3 : CProto
methods_3 = record { flags = (false ∷ false ∷ []); dots = false; body = (ThenC (AssignC ((EntryC (LocalC (Reg 1)) (TextC 4) 2) ∷ []) (MoreC (OperateC (Calculate Add) (IndexC (LocalC (Reg 1)) (TextC 4) 2) (LocalC (Reg 0)) 2) NoC)) (ThenC (ReturnC (MoreC (LocalC (Reg 1)) NoC)) EndC)) }

abbrev pub methods_code : Protos
methods_code = code_with (codes "f" ∷ codes "__index" ∷ codes "new" ∷ codes "setmetatable" ∷ codes "x" ∷ codes "add" ∷ []) (methods_0 ∷ methods_1 ∷ methods_2 ∷ methods_3 ∷ [])

abbrev pub methods_flat_0 : FlatFunction
methods_flat_0 = record {
  flags = [];
  dots = false;
  registers = 2;
  steps =
      record { charge = 2; op = TableF 0 } ∷
      record { charge = 2; op = ClosureF 1 1 [] } ∷
      record { charge = 0; op = SetFieldF 0 (TextO 0) (RegisterO 1) } ∷
      record { charge = 0; op = ReturnF 0 (Exactly 1) } ∷
      record { charge = 0; op = ReturnF 0 (Exactly 0) } ∷ [];
  lines = 0 ∷ 0 ∷ 1 ∷ 0 ∷ 0 ∷ [];
}

abbrev pub methods_flat_1 : FlatFunction
methods_flat_1 = record {
  flags = [];
  dots = true;
  registers = 9;
  steps =
      record { charge = 2; op = TableF 0 } ∷
      record { charge = 0; op = OpenF 0 (true ∷ []) } ∷
      record { charge = 3; op = GetCellF 1 0 } ∷
      record { charge = 2; op = GetCellF 2 0 } ∷
      record { charge = 0; op = SetIndexF (RegisterO 1) (TextO 1) (RegisterO 2) } ∷
      record { charge = 3; op = GetCellF 1 0 } ∷
      record { charge = 2; op = ClosureF 2 2 ((InRegister 0) ∷ []) } ∷
      record { charge = 0; op = SetIndexF (RegisterO 1) (TextO 2) (RegisterO 2) } ∷
      record { charge = 3; op = GetCellF 1 0 } ∷
      record { charge = 2; op = ClosureF 2 3 [] } ∷
      record { charge = 0; op = SetIndexF (RegisterO 1) (TextO 5) (RegisterO 2) } ∷
      record { charge = 7; op = GetCellF 8 0 } ∷
      record { charge = 1; op = IndexF 7 (RegisterO 8) (TextO 2) } ∷
      record { charge = 1; op = LoadF 8 (ConstantO (Number (pos 3))) } ∷
      record { charge = 0; op = CallF 6 7 (Exactly 1) (Exactly 1) } ∷
      record { charge = 0; op = MethodF 5 (RegisterO 6) 5 } ∷
      record { charge = 1; op = LoadF 7 (ConstantO (Number (pos 4))) } ∷
      record { charge = 0; op = CallF 4 5 (Exactly 2) (Exactly 1) } ∷
      record { charge = 0; op = MethodF 3 (RegisterO 4) 5 } ∷
      record { charge = 1; op = LoadF 5 (ConstantO (Number (pos 5))) } ∷
      record { charge = 0; op = CallF 2 3 (Exactly 2) (Exactly 1) } ∷
      record { charge = 1; op = IndexF 1 (RegisterO 2) (TextO 4) } ∷
      record { charge = 0; op = ReturnF 1 (Exactly 1) } ∷
      record { charge = 0; op = ReturnF 0 (Exactly 0) } ∷ [];
  lines = 0 ∷ 0 ∷ 0 ∷ 0 ∷ 2 ∷ 0 ∷ 0 ∷ 2 ∷ 0 ∷ 0 ∷ 2 ∷ 0 ∷ 3 ∷ 0 ∷ 3 ∷ 3 ∷ 0 ∷ 3 ∷ 3 ∷ 0 ∷ 3 ∷ 3 ∷ 0 ∷ 0 ∷ [];
}

abbrev pub methods_flat_2 : FlatFunction
methods_flat_2 = record {
  flags = (false ∷ []);
  dots = false;
  registers = 4;
  steps =
      record { charge = 3; op = GetGlobalF 1 3 } ∷
      record { charge = 1; op = TableF 2 } ∷
      record { charge = 2; op = SetFieldF 2 (TextO 4) (RegisterO 0) } ∷
      record { charge = 1; op = GetUpF 3 0 } ∷
      record { charge = 0; op = CallF 1 1 (Exactly 2) Every } ∷
      record { charge = 0; op = ReturnF 1 Every } ∷
      record { charge = 0; op = ReturnF 0 (Exactly 0) } ∷ [];
  lines = 2 ∷ 0 ∷ 2 ∷ 0 ∷ 2 ∷ 0 ∷ 0 ∷ [];
}

abbrev pub methods_flat_3 : FlatFunction
methods_flat_3 = record {
  flags = (false ∷ false ∷ []);
  dots = false;
  registers = 4;
  steps =
      record { charge = 8; op = IndexF 3 (RegisterO 0) (TextO 4) } ∷
      record { charge = 1; op = OperateF (Calculate Add) 2 (RegisterO 3) (RegisterO 1) } ∷
      record { charge = 0; op = SetIndexF (RegisterO 0) (TextO 4) (RegisterO 2) } ∷
      record { charge = 2; op = ReturnF 0 (Exactly 1) } ∷
      record { charge = 0; op = ReturnF 0 (Exactly 0) } ∷ [];
  lines = 2 ∷ 2 ∷ 2 ∷ 0 ∷ 0 ∷ [];
}

abbrev pub MethodsFlatAlike : Type 0
MethodsFlatAlike = flat_invoke (codes "X") 184 methods_code (methods_flat_0 ∷ methods_flat_1 ∷ methods_flat_2 ∷ methods_flat_3 ∷ []) 20000 ≡ run.invoke_module (codes "X") 184 methods_code 20000

abbrev pub MethodsIsFlat : Type 0
MethodsIsFlat = IsFlatFunction methods_0 methods_flat_0 × IsFlatFunction methods_1 methods_flat_1 × IsFlatFunction methods_2 methods_flat_2 × IsFlatFunction methods_3 methods_flat_3

-- An `__index` and a `__newindex` that are functions.
--     return {f=function(...)
--     local log='' local t=setmetatable({},{__index=function(t,k) return k..'!' end,__newindex=function(t,k,v) log=log..k..v rawset(t,k,v) end})
--     t.a=1 t.a=2 t.b=3 return t.a,t.b,t.c,log
--     end}
abbrev pub index_function_0 : CProto
index_function_0 = record { flags = []; dots = false; body = (ThenC (ReturnC (MoreC (TableC (PairC (TextC 0) (FunctionC 1 []) NoFieldC) 1) NoC)) EndC) }

abbrev pub index_function_1 : CProto
index_function_1 = record { flags = []; dots = true; body = (DeclareC (true ∷ []) (MoreC (TextC 1) NoC) (DeclareC (false ∷ []) (MoreC (CallC (GlobalC 2 2) (MoreC (TableC NoFieldC 2) (MoreC (TableC (PairC (TextC 3) (FunctionC 2 []) (PairC (TextC 5) (FunctionC 3 ((Box 0) ∷ [])) NoFieldC)) 2) NoC)) 2) NoC) (ThenC (AssignC ((EntryC (LocalC (Reg 0)) (TextC 7) 3) ∷ []) (MoreC (ConstantC (Number (pos 1))) NoC)) (ThenC (AssignC ((EntryC (LocalC (Reg 0)) (TextC 7) 3) ∷ []) (MoreC (ConstantC (Number (pos 2))) NoC)) (ThenC (AssignC ((EntryC (LocalC (Reg 0)) (TextC 8) 3) ∷ []) (MoreC (ConstantC (Number (pos 3))) NoC)) (ThenC (ReturnC (MoreC (IndexC (LocalC (Reg 0)) (TextC 7) 3) (MoreC (IndexC (LocalC (Reg 0)) (TextC 8) 3) (MoreC (IndexC (LocalC (Reg 0)) (TextC 9) 3) (MoreC (LocalC (Box 1)) NoC))))) EndC)))))) }

abbrev pub index_function_2 : CProto
index_function_2 = record { flags = (false ∷ false ∷ []); dots = false; body = (ThenC (ReturnC (MoreC (OperateC Concatenate (LocalC (Reg 0)) (TextC 4) 2) NoC)) EndC) }

abbrev pub index_function_3 : CProto
index_function_3 = record { flags = (false ∷ false ∷ false ∷ []); dots = false; body = (ThenC (AssignC ((PlaceC (Up 0)) ∷ []) (MoreC (OperateC Concatenate (LocalC (Up 0)) (OperateC Concatenate (LocalC (Reg 1)) (LocalC (Reg 0)) 2) 2) NoC)) (ThenC (CallStatC (CallC (GlobalC 6 2) (MoreC (LocalC (Reg 2)) (MoreC (LocalC (Reg 1)) (MoreC (LocalC (Reg 0)) NoC))) 2)) EndC)) }

abbrev pub index_function_code : Protos
index_function_code = code_with (codes "f" ∷ codes "" ∷ codes "setmetatable" ∷ codes "__index" ∷ codes "!" ∷ codes "__newindex" ∷ codes "rawset" ∷ codes "a" ∷ codes "b" ∷ codes "c" ∷ []) (index_function_0 ∷ index_function_1 ∷ index_function_2 ∷ index_function_3 ∷ [])

abbrev pub index_function_flat_0 : FlatFunction
index_function_flat_0 = record {
  flags = [];
  dots = false;
  registers = 2;
  steps =
      record { charge = 2; op = TableF 0 } ∷
      record { charge = 2; op = ClosureF 1 1 [] } ∷
      record { charge = 0; op = SetFieldF 0 (TextO 0) (RegisterO 1) } ∷
      record { charge = 0; op = ReturnF 0 (Exactly 1) } ∷
      record { charge = 0; op = ReturnF 0 (Exactly 0) } ∷ [];
  lines = 0 ∷ 0 ∷ 1 ∷ 0 ∷ 0 ∷ [];
}

abbrev pub index_function_flat_1 : FlatFunction
index_function_flat_1 = record {
  flags = [];
  dots = true;
  registers = 6;
  steps =
      record { charge = 2; op = LoadF 0 (TextO 1) } ∷
      record { charge = 0; op = OpenF 0 (true ∷ []) } ∷
      record { charge = 3; op = GetGlobalF 1 2 } ∷
      record { charge = 1; op = TableF 2 } ∷
      record { charge = 1; op = TableF 3 } ∷
      record { charge = 2; op = ClosureF 4 2 [] } ∷
      record { charge = 0; op = SetFieldF 3 (TextO 3) (RegisterO 4) } ∷
      record { charge = 2; op = ClosureF 4 3 ((InRegister 0) ∷ []) } ∷
      record { charge = 0; op = SetFieldF 3 (TextO 5) (RegisterO 4) } ∷
      record { charge = 0; op = CallF 1 1 (Exactly 2) (Exactly 1) } ∷
      record { charge = 5; op = SetIndexF (RegisterO 1) (TextO 7) (ConstantO (Number (pos 1))) } ∷
      record { charge = 5; op = SetIndexF (RegisterO 1) (TextO 7) (ConstantO (Number (pos 2))) } ∷
      record { charge = 5; op = SetIndexF (RegisterO 1) (TextO 8) (ConstantO (Number (pos 3))) } ∷
      record { charge = 4; op = IndexF 2 (RegisterO 1) (TextO 7) } ∷
      record { charge = 3; op = IndexF 3 (RegisterO 1) (TextO 8) } ∷
      record { charge = 3; op = IndexF 4 (RegisterO 1) (TextO 9) } ∷
      record { charge = 1; op = GetCellF 5 0 } ∷
      record { charge = 0; op = ReturnF 2 (Exactly 4) } ∷
      record { charge = 0; op = ReturnF 0 (Exactly 0) } ∷ [];
  lines = 0 ∷ 0 ∷ 2 ∷ 0 ∷ 0 ∷ 0 ∷ 2 ∷ 0 ∷ 2 ∷ 2 ∷ 3 ∷ 3 ∷ 3 ∷ 3 ∷ 3 ∷ 3 ∷ 0 ∷ 0 ∷ 0 ∷ [];
}

abbrev pub index_function_flat_2 : FlatFunction
index_function_flat_2 = record {
  flags = (false ∷ false ∷ []);
  dots = false;
  registers = 3;
  steps =
      record { charge = 4; op = OperateF Concatenate 2 (RegisterO 1) (TextO 4) } ∷
      record { charge = 0; op = ReturnF 2 (Exactly 1) } ∷
      record { charge = 0; op = ReturnF 0 (Exactly 0) } ∷ [];
  lines = 2 ∷ 0 ∷ 0 ∷ [];
}

abbrev pub index_function_flat_3 : FlatFunction
index_function_flat_3 = record {
  flags = (false ∷ false ∷ false ∷ []);
  dots = false;
  registers = 7;
  steps =
      record { charge = 3; op = GetUpF 4 0 } ∷
      record { charge = 3; op = OperateF Concatenate 5 (RegisterO 1) (RegisterO 2) } ∷
      record { charge = 0; op = OperateF Concatenate 3 (RegisterO 4) (RegisterO 5) } ∷
      record { charge = 0; op = SetUpF 0 (RegisterO 3) } ∷
      record { charge = 3; op = GetGlobalF 3 6 } ∷
      record { charge = 1; op = LoadF 4 (RegisterO 0) } ∷
      record { charge = 1; op = LoadF 5 (RegisterO 1) } ∷
      record { charge = 1; op = LoadF 6 (RegisterO 2) } ∷
      record { charge = 0; op = CallF 3 3 (Exactly 3) (Exactly 0) } ∷
      record { charge = 0; op = ReturnF 0 (Exactly 0) } ∷ [];
  lines = 0 ∷ 2 ∷ 2 ∷ 0 ∷ 2 ∷ 0 ∷ 0 ∷ 0 ∷ 2 ∷ 0 ∷ [];
}

abbrev pub IndexFunctionFlatAlike : Type 0
IndexFunctionFlatAlike = flat_invoke (codes "X") 208 index_function_code (index_function_flat_0 ∷ index_function_flat_1 ∷ index_function_flat_2 ∷ index_function_flat_3 ∷ []) 20000 ≡ run.invoke_module (codes "X") 208 index_function_code 20000

abbrev pub IndexFunctionIsFlat : Type 0
IndexFunctionIsFlat = IsFlatFunction index_function_0 index_function_flat_0 × IsFlatFunction index_function_1 index_function_flat_1 × IsFlatFunction index_function_2 index_function_flat_2 × IsFlatFunction index_function_3 index_function_flat_3

-- Handlers of comparisons, as values and in tests.
--     return {f=function(...)
--     local m={} m.__lt=function(a,b) return a.n<b.n end m.__le=function(a,b) return a.n<=b.n end m.__eq=function(a,b) return a.n==b.n end
--     local function v(n) return setmetatable({n=n},m) end local a,b,c=v(1),v(2),v(1)
--     local s='' if a<b then s=s..'l' end if not (b<=a) then s=s..'n' end if a==c and a~=b then s=s..'e' end return s,tostring(a>b),tostring(a>=c)
--     end}
abbrev pub comparisons_0 : CProto
comparisons_0 = record { flags = []; dots = false; body = (ThenC (ReturnC (MoreC (TableC (PairC (TextC 0) (FunctionC 1 []) NoFieldC) 1) NoC)) EndC) }

abbrev pub comparisons_1 : CProto
comparisons_1 = record { flags = []; dots = true; body = (DeclareC (true ∷ []) (MoreC (TableC NoFieldC 2) NoC) (ThenC (AssignC ((EntryC (LocalC (Box 0)) (TextC 1) 2) ∷ []) (MoreC (FunctionC 2 []) NoC)) (ThenC (AssignC ((EntryC (LocalC (Box 0)) (TextC 3) 2) ∷ []) (MoreC (FunctionC 3 []) NoC)) (ThenC (AssignC ((EntryC (LocalC (Box 0)) (TextC 4) 2) ∷ []) (MoreC (FunctionC 4 []) NoC)) (LocalFunctionC false 5 ((Box 1) ∷ []) (DeclareC (false ∷ (false ∷ (false ∷ []))) (MoreC (CallC (LocalC (Reg 0)) (MoreC (ConstantC (Number (pos 1))) NoC) 3) (MoreC (CallC (LocalC (Reg 0)) (MoreC (ConstantC (Number (pos 2))) NoC) 3) (MoreC (CallC (LocalC (Reg 0)) (MoreC (ConstantC (Number (pos 1))) NoC) 3) NoC))) (DeclareC (false ∷ []) (MoreC (TextC 6) NoC) (ThenC (IfC (ArmC (OperateC Less (LocalC (Reg 3)) (LocalC (Reg 2)) 4) (ThenC (AssignC ((PlaceC (Reg 0)) ∷ []) (MoreC (OperateC Concatenate (LocalC (Reg 0)) (TextC 7) 4) NoC)) EndC) NoArmC)) (ThenC (IfC (ArmC (UnaryC sign.Not (ParenC (OperateC AtMost (LocalC (Reg 2)) (LocalC (Reg 3)) 4)) 4) (ThenC (AssignC ((PlaceC (Reg 0)) ∷ []) (MoreC (OperateC Concatenate (LocalC (Reg 0)) (TextC 2) 4) NoC)) EndC) NoArmC)) (ThenC (IfC (ArmC (AndC (OperateC Equal (LocalC (Reg 3)) (LocalC (Reg 1)) 4) (OperateC Unequal (LocalC (Reg 3)) (LocalC (Reg 2)) 4)) (ThenC (AssignC ((PlaceC (Reg 0)) ∷ []) (MoreC (OperateC Concatenate (LocalC (Reg 0)) (TextC 8) 4) NoC)) EndC) NoArmC)) (ThenC (ReturnC (MoreC (LocalC (Reg 0)) (MoreC (CallC (GlobalC 9 4) (MoreC (OperateC Greater (LocalC (Reg 3)) (LocalC (Reg 2)) 4) NoC) 4) (MoreC (CallC (GlobalC 9 4) (MoreC (OperateC AtLeast (LocalC (Reg 3)) (LocalC (Reg 1)) 4) NoC) 4) NoC)))) EndC))))))))))) }

abbrev pub comparisons_2 : CProto
comparisons_2 = record { flags = (false ∷ false ∷ []); dots = false; body = (ThenC (ReturnC (MoreC (OperateC Less (IndexC (LocalC (Reg 1)) (TextC 2) 2) (IndexC (LocalC (Reg 0)) (TextC 2) 2) 2) NoC)) EndC) }

abbrev pub comparisons_3 : CProto
comparisons_3 = record { flags = (false ∷ false ∷ []); dots = false; body = (ThenC (ReturnC (MoreC (OperateC AtMost (IndexC (LocalC (Reg 1)) (TextC 2) 2) (IndexC (LocalC (Reg 0)) (TextC 2) 2) 2) NoC)) EndC) }

abbrev pub comparisons_4 : CProto
comparisons_4 = record { flags = (false ∷ false ∷ []); dots = false; body = (ThenC (ReturnC (MoreC (OperateC Equal (IndexC (LocalC (Reg 1)) (TextC 2) 2) (IndexC (LocalC (Reg 0)) (TextC 2) 2) 2) NoC)) EndC) }

abbrev pub comparisons_5 : CProto
comparisons_5 = record { flags = (false ∷ []); dots = false; body = (ThenC (ReturnC (MoreC (CallC (GlobalC 5 3) (MoreC (TableC (PairC (TextC 2) (LocalC (Reg 0)) NoFieldC) 3) (MoreC (LocalC (Up 0)) NoC)) 3) NoC)) EndC) }

abbrev pub comparisons_code : Protos
comparisons_code = code_with (codes "f" ∷ codes "__lt" ∷ codes "n" ∷ codes "__le" ∷ codes "__eq" ∷ codes "setmetatable" ∷ codes "" ∷ codes "l" ∷ codes "e" ∷ codes "tostring" ∷ []) (comparisons_0 ∷ comparisons_1 ∷ comparisons_2 ∷ comparisons_3 ∷ comparisons_4 ∷ comparisons_5 ∷ [])

abbrev pub comparisons_flat_0 : FlatFunction
comparisons_flat_0 = record {
  flags = [];
  dots = false;
  registers = 2;
  steps =
      record { charge = 2; op = TableF 0 } ∷
      record { charge = 2; op = ClosureF 1 1 [] } ∷
      record { charge = 0; op = SetFieldF 0 (TextO 0) (RegisterO 1) } ∷
      record { charge = 0; op = ReturnF 0 (Exactly 1) } ∷
      record { charge = 0; op = ReturnF 0 (Exactly 0) } ∷ [];
  lines = 0 ∷ 0 ∷ 1 ∷ 0 ∷ 0 ∷ [];
}

abbrev pub comparisons_flat_1 : FlatFunction
comparisons_flat_1 = record {
  flags = [];
  dots = true;
  registers = 10;
  steps =
      record { charge = 2; op = TableF 0 } ∷
      record { charge = 0; op = OpenF 0 (true ∷ []) } ∷
      record { charge = 3; op = GetCellF 1 0 } ∷
      record { charge = 2; op = ClosureF 2 2 [] } ∷
      record { charge = 0; op = SetIndexF (RegisterO 1) (TextO 1) (RegisterO 2) } ∷
      record { charge = 3; op = GetCellF 1 0 } ∷
      record { charge = 2; op = ClosureF 2 3 [] } ∷
      record { charge = 0; op = SetIndexF (RegisterO 1) (TextO 3) (RegisterO 2) } ∷
      record { charge = 3; op = GetCellF 1 0 } ∷
      record { charge = 2; op = ClosureF 2 4 [] } ∷
      record { charge = 0; op = SetIndexF (RegisterO 1) (TextO 4) (RegisterO 2) } ∷
      record { charge = 1; op = NamedF false 1 5 ((InRegister 0) ∷ []) } ∷
      record { charge = 3; op = LoadF 3 (RegisterO 1) } ∷
      record { charge = 1; op = LoadF 4 (ConstantO (Number (pos 1))) } ∷
      record { charge = 0; op = CallF 2 3 (Exactly 1) (Exactly 1) } ∷
      record { charge = 2; op = LoadF 4 (RegisterO 1) } ∷
      record { charge = 1; op = LoadF 5 (ConstantO (Number (pos 2))) } ∷
      record { charge = 0; op = CallF 3 4 (Exactly 1) (Exactly 1) } ∷
      record { charge = 2; op = LoadF 4 (RegisterO 1) } ∷
      record { charge = 1; op = LoadF 5 (ConstantO (Number (pos 1))) } ∷
      record { charge = 0; op = CallF 4 4 (Exactly 1) (Exactly 1) } ∷
      record { charge = 2; op = LoadF 5 (TextO 6) } ∷
      record { charge = 4; op = CompareF Less (RegisterO 2) (RegisterO 3) false 24 } ∷
      record { charge = 4; op = OperateF Concatenate 5 (RegisterO 5) (TextO 7) } ∷
      record { charge = 6; op = CompareF AtMost (RegisterO 3) (RegisterO 2) true 26 } ∷
      record { charge = 4; op = OperateF Concatenate 5 (RegisterO 5) (TextO 2) } ∷
      record { charge = 5; op = CompareF Equal (RegisterO 2) (RegisterO 4) false 29 } ∷
      record { charge = 3; op = CompareF Unequal (RegisterO 2) (RegisterO 3) false 29 } ∷
      record { charge = 4; op = OperateF Concatenate 5 (RegisterO 5) (TextO 8) } ∷
      record { charge = 2; op = LoadF 6 (RegisterO 5) } ∷
      record { charge = 2; op = GetGlobalF 8 9 } ∷
      record { charge = 3; op = OperateF Greater 9 (RegisterO 2) (RegisterO 3) } ∷
      record { charge = 0; op = CallF 7 8 (Exactly 1) (Exactly 1) } ∷
      record { charge = 2; op = GetGlobalF 8 9 } ∷
      record { charge = 3; op = OperateF AtLeast 9 (RegisterO 2) (RegisterO 4) } ∷
      record { charge = 0; op = CallF 8 8 (Exactly 1) Every } ∷
      record { charge = 0; op = ReturnF 6 Every } ∷
      record { charge = 0; op = ReturnF 0 (Exactly 0) } ∷ [];
  lines = 0 ∷ 0 ∷ 0 ∷ 0 ∷ 2 ∷ 0 ∷ 0 ∷ 2 ∷ 0 ∷ 0 ∷ 2 ∷ 0 ∷ 0 ∷ 0 ∷ 3 ∷ 0 ∷ 0 ∷ 3 ∷ 0 ∷ 0 ∷ 3 ∷ 0 ∷ 4 ∷ 4 ∷ 4 ∷ 4 ∷ 4 ∷ 4 ∷ 4 ∷ 0 ∷ 4 ∷ 4 ∷ 4 ∷ 4 ∷ 4 ∷ 4 ∷ 0 ∷ 0 ∷ [];
}

abbrev pub comparisons_flat_2 : FlatFunction
comparisons_flat_2 = record {
  flags = (false ∷ false ∷ []);
  dots = false;
  registers = 5;
  steps =
      record { charge = 5; op = IndexF 3 (RegisterO 0) (TextO 2) } ∷
      record { charge = 3; op = IndexF 4 (RegisterO 1) (TextO 2) } ∷
      record { charge = 0; op = OperateF Less 2 (RegisterO 3) (RegisterO 4) } ∷
      record { charge = 0; op = ReturnF 2 (Exactly 1) } ∷
      record { charge = 0; op = ReturnF 0 (Exactly 0) } ∷ [];
  lines = 2 ∷ 2 ∷ 2 ∷ 0 ∷ 0 ∷ [];
}

abbrev pub comparisons_flat_3 : FlatFunction
comparisons_flat_3 = record {
  flags = (false ∷ false ∷ []);
  dots = false;
  registers = 5;
  steps =
      record { charge = 5; op = IndexF 3 (RegisterO 0) (TextO 2) } ∷
      record { charge = 3; op = IndexF 4 (RegisterO 1) (TextO 2) } ∷
      record { charge = 0; op = OperateF AtMost 2 (RegisterO 3) (RegisterO 4) } ∷
      record { charge = 0; op = ReturnF 2 (Exactly 1) } ∷
      record { charge = 0; op = ReturnF 0 (Exactly 0) } ∷ [];
  lines = 2 ∷ 2 ∷ 2 ∷ 0 ∷ 0 ∷ [];
}

abbrev pub comparisons_flat_4 : FlatFunction
comparisons_flat_4 = record {
  flags = (false ∷ false ∷ []);
  dots = false;
  registers = 5;
  steps =
      record { charge = 5; op = IndexF 3 (RegisterO 0) (TextO 2) } ∷
      record { charge = 3; op = IndexF 4 (RegisterO 1) (TextO 2) } ∷
      record { charge = 0; op = OperateF Equal 2 (RegisterO 3) (RegisterO 4) } ∷
      record { charge = 0; op = ReturnF 2 (Exactly 1) } ∷
      record { charge = 0; op = ReturnF 0 (Exactly 0) } ∷ [];
  lines = 2 ∷ 2 ∷ 2 ∷ 0 ∷ 0 ∷ [];
}

abbrev pub comparisons_flat_5 : FlatFunction
comparisons_flat_5 = record {
  flags = (false ∷ []);
  dots = false;
  registers = 4;
  steps =
      record { charge = 3; op = GetGlobalF 1 5 } ∷
      record { charge = 1; op = TableF 2 } ∷
      record { charge = 2; op = SetFieldF 2 (TextO 2) (RegisterO 0) } ∷
      record { charge = 1; op = GetUpF 3 0 } ∷
      record { charge = 0; op = CallF 1 1 (Exactly 2) Every } ∷
      record { charge = 0; op = ReturnF 1 Every } ∷
      record { charge = 0; op = ReturnF 0 (Exactly 0) } ∷ [];
  lines = 3 ∷ 0 ∷ 3 ∷ 0 ∷ 3 ∷ 0 ∷ 0 ∷ [];
}

abbrev pub ComparisonsFlatAlike : Type 0
ComparisonsFlatAlike = flat_invoke (codes "X") 382 comparisons_code (comparisons_flat_0 ∷ comparisons_flat_1 ∷ comparisons_flat_2 ∷ comparisons_flat_3 ∷ comparisons_flat_4 ∷ comparisons_flat_5 ∷ []) 20000 ≡ run.invoke_module (codes "X") 382 comparisons_code 20000

abbrev pub ComparisonsIsFlat : Type 0
ComparisonsIsFlat = IsFlatFunction comparisons_0 comparisons_flat_0 × IsFlatFunction comparisons_1 comparisons_flat_1 × IsFlatFunction comparisons_2 comparisons_flat_2 × IsFlatFunction comparisons_3 comparisons_flat_3 × IsFlatFunction comparisons_4 comparisons_flat_4 × IsFlatFunction comparisons_5 comparisons_flat_5

-- all of these
abbrev pub AllLists : Type 0
AllLists = DotsFlatAlike × AdjustedFlatAlike × SwapFlatAlike × MethodsFlatAlike × IndexFunctionFlatAlike × ComparisonsFlatAlike

abbrev pub AllFlatLists : Type 0
AllFlatLists = DotsIsFlat × AdjustedIsFlat × SwapIsFlat × MethodsIsFlat × IndexFunctionIsFlat × ComparisonsIsFlat
