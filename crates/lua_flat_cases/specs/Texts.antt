-- FLAT CODE OF SMALL MODULES, beside their resolved code: both end alike, with the same steps.
use Rattle.std.specs.Prelude.{◌≡◌, pos, true, false, [], ◌∷◌, codes}
use Rattle.lua_flat.specs.LuaHeapValue.{Number}
use Rattle.lua_flat.specs.LuaMeaningOperators.{Add, Sub, Mul, Greater, Equal, Unequal, Concatenate, Calculate}
use Rattle.lua_flat.specs.Operations.{RegisterO, ConstantO, TextO, Exactly, Every, InRegister, LoadF, ClosureF, NamedF, OpenF, GetUpF, SetUpF, GetGlobalF, IndexF, MethodF, TableF, SetFieldF, OperateF, UnaryF, JumpF, CompareF, CountBeginsF, CountGoesOnF, EachCallsF, EachTestsF, CallF, ReturnF, FlatFunction}
use Rattle.lua_flat.specs.LuaSyntaxDeclaredUnaryOpTheVariants as sign
use Rattle.lua_flat.specs.LuaSlotsCode.{Reg, Box, Up, ConstantC, TextC, FunctionC, LocalC, GlobalC, IndexC, CallC, MethodC, TableC, OperateC, UnaryC, ParenC, NoC, MoreC, NoFieldC, ItemC, PairC, PlaceC, AssignC, CallStatC, IfC, CountC, EachC, ReturnC, EndC, DeclareC, LocalFunctionC, ThenC, NoArmC, ArmC, CProto, Protos}
use Rattle.lua_flat.specs.LuaSlotsTrial.{code_with}
use Rattle.lua_flat.specs.IsStatement.{IsFlatFunction}
use Rattle.lua_flat.specs.Trial.{flat_invoke}
use Rattle.lua_flat.specs.LuaSlotsTrial as run

-- Functions of strings, by their methods.
--     return {f=function(...)
--     local s='hello' return s:upper(),s:sub(2,3),s:len(),('x'):rep(3),s:byte(1),(s:gsub('l','L'))
--     end}
abbrev pub strings_0 : CProto
strings_0 = record { flags = []; dots = false; body = (ThenC (ReturnC (MoreC (TableC (PairC (TextC 0) (FunctionC 1 []) NoFieldC) 1) NoC)) EndC) }

abbrev pub strings_1 : CProto
strings_1 = record { flags = []; dots = true; body = (DeclareC (false ∷ []) (MoreC (TextC 1) NoC) (ThenC (ReturnC (MoreC (MethodC (LocalC (Reg 0)) 2 NoC 2) (MoreC (MethodC (LocalC (Reg 0)) 3 (MoreC (ConstantC (Number (pos 2))) (MoreC (ConstantC (Number (pos 3))) NoC)) 2) (MoreC (MethodC (LocalC (Reg 0)) 4 NoC 2) (MoreC (MethodC (ParenC (TextC 5)) 6 (MoreC (ConstantC (Number (pos 3))) NoC) 2) (MoreC (MethodC (LocalC (Reg 0)) 7 (MoreC (ConstantC (Number (pos 1))) NoC) 2) (MoreC (ParenC (MethodC (LocalC (Reg 0)) 8 (MoreC (TextC 9) (MoreC (TextC 10) NoC)) 2)) NoC))))))) EndC)) }

abbrev pub strings_code : Protos
strings_code = code_with (codes "f" ∷ codes "hello" ∷ codes "upper" ∷ codes "sub" ∷ codes "len" ∷ codes "x" ∷ codes "rep" ∷ codes "byte" ∷ codes "gsub" ∷ codes "l" ∷ codes "L" ∷ []) (strings_0 ∷ strings_1 ∷ [])

abbrev pub strings_flat_0 : FlatFunction
strings_flat_0 = record {
  flags = [];
  dots = false;
  registers = 2;
  steps =
      record { charge = 2; op = TableF 0 } ∷
      record { charge = 2; op = ClosureF 1 1 [] } ∷
      record { charge = 0; op = SetFieldF 0 (TextO 0) (RegisterO 1) } ∷
      record { charge = 0; op = ReturnF 0 (Exactly 1) } ∷
      record { charge = 0; op = ReturnF 0 (Exactly 0) } ∷ [];
  lines = 0 ∷ 0 ∷ 1 ∷ 0 ∷ 0 ∷ [];
}

abbrev pub strings_flat_1 : FlatFunction
strings_flat_1 = record {
  flags = [];
  dots = true;
  registers = 11;
  steps =
      record { charge = 2; op = LoadF 0 (TextO 1) } ∷
      record { charge = 3; op = MethodF 2 (RegisterO 0) 2 } ∷
      record { charge = 0; op = CallF 1 2 (Exactly 1) (Exactly 1) } ∷
      record { charge = 2; op = MethodF 3 (RegisterO 0) 3 } ∷
      record { charge = 1; op = LoadF 5 (ConstantO (Number (pos 2))) } ∷
      record { charge = 1; op = LoadF 6 (ConstantO (Number (pos 3))) } ∷
      record { charge = 0; op = CallF 2 3 (Exactly 3) (Exactly 1) } ∷
      record { charge = 2; op = MethodF 4 (RegisterO 0) 4 } ∷
      record { charge = 0; op = CallF 3 4 (Exactly 1) (Exactly 1) } ∷
      record { charge = 3; op = LoadF 6 (TextO 5) } ∷
      record { charge = 0; op = MethodF 5 (RegisterO 6) 6 } ∷
      record { charge = 1; op = LoadF 7 (ConstantO (Number (pos 3))) } ∷
      record { charge = 0; op = CallF 4 5 (Exactly 2) (Exactly 1) } ∷
      record { charge = 2; op = MethodF 6 (RegisterO 0) 7 } ∷
      record { charge = 1; op = LoadF 8 (ConstantO (Number (pos 1))) } ∷
      record { charge = 0; op = CallF 5 6 (Exactly 2) (Exactly 1) } ∷
      record { charge = 3; op = MethodF 7 (RegisterO 0) 8 } ∷
      record { charge = 1; op = LoadF 9 (TextO 9) } ∷
      record { charge = 1; op = LoadF 10 (TextO 10) } ∷
      record { charge = 0; op = CallF 6 7 (Exactly 3) (Exactly 1) } ∷
      record { charge = 0; op = ReturnF 1 (Exactly 6) } ∷
      record { charge = 0; op = ReturnF 0 (Exactly 0) } ∷ [];
  lines = 0 ∷ 2 ∷ 2 ∷ 2 ∷ 0 ∷ 0 ∷ 2 ∷ 2 ∷ 2 ∷ 0 ∷ 2 ∷ 0 ∷ 2 ∷ 2 ∷ 0 ∷ 2 ∷ 2 ∷ 0 ∷ 0 ∷ 2 ∷ 0 ∷ 0 ∷ [];
}

abbrev pub StringsFlatAlike : Type 0
StringsFlatAlike = flat_invoke (codes "X") 121 strings_code (strings_flat_0 ∷ strings_flat_1 ∷ []) 20000 ≡ run.invoke_module (codes "X") 121 strings_code 20000

abbrev pub StringsIsFlat : Type 0
StringsIsFlat = IsFlatFunction strings_0 strings_flat_0 × IsFlatFunction strings_1 strings_flat_1

-- A function and a table that replace matches.
--     return {f=function(...)
--     local n=0 local s=('abc'):gsub('.',function(c) n=n+1 if c~='b' then return c..n end end) return s,(('key val'):gsub('%a+',{key='k'}))
--     end}
abbrev pub replaced_0 : CProto
replaced_0 = record { flags = []; dots = false; body = (ThenC (ReturnC (MoreC (TableC (PairC (TextC 0) (FunctionC 1 []) NoFieldC) 1) NoC)) EndC) }

abbrev pub replaced_1 : CProto
replaced_1 = record { flags = []; dots = true; body = (DeclareC (true ∷ []) (MoreC (ConstantC (Number (pos 0))) NoC) (DeclareC (false ∷ []) (MoreC (MethodC (ParenC (TextC 1)) 2 (MoreC (TextC 3) (MoreC (FunctionC 2 ((Box 0) ∷ [])) NoC)) 2) NoC) (ThenC (ReturnC (MoreC (LocalC (Reg 0)) (MoreC (ParenC (MethodC (ParenC (TextC 5)) 2 (MoreC (TextC 6) (MoreC (TableC (PairC (TextC 7) (TextC 8) NoFieldC) 2) NoC)) 2)) NoC))) EndC))) }

abbrev pub replaced_2 : CProto
replaced_2 = record { flags = (false ∷ []); dots = false; body = (ThenC (AssignC ((PlaceC (Up 0)) ∷ []) (MoreC (OperateC (Calculate Add) (LocalC (Up 0)) (ConstantC (Number (pos 1))) 2) NoC)) (ThenC (IfC (ArmC (OperateC Unequal (LocalC (Reg 0)) (TextC 4) 2) (ThenC (ReturnC (MoreC (OperateC Concatenate (LocalC (Reg 0)) (LocalC (Up 0)) 2) NoC)) EndC) NoArmC)) EndC)) }

abbrev pub replaced_code : Protos
replaced_code = code_with (codes "f" ∷ codes "abc" ∷ codes "gsub" ∷ codes "." ∷ codes "b" ∷ codes "key val" ∷ codes "%a+" ∷ codes "key" ∷ codes "k" ∷ []) (replaced_0 ∷ replaced_1 ∷ replaced_2 ∷ [])

abbrev pub replaced_flat_0 : FlatFunction
replaced_flat_0 = record {
  flags = [];
  dots = false;
  registers = 2;
  steps =
      record { charge = 2; op = TableF 0 } ∷
      record { charge = 2; op = ClosureF 1 1 [] } ∷
      record { charge = 0; op = SetFieldF 0 (TextO 0) (RegisterO 1) } ∷
      record { charge = 0; op = ReturnF 0 (Exactly 1) } ∷
      record { charge = 0; op = ReturnF 0 (Exactly 0) } ∷ [];
  lines = 0 ∷ 0 ∷ 1 ∷ 0 ∷ 0 ∷ [];
}

abbrev pub replaced_flat_1 : FlatFunction
replaced_flat_1 = record {
  flags = [];
  dots = true;
  registers = 8;
  steps =
      record { charge = 2; op = LoadF 0 (ConstantO (Number (pos 0))) } ∷
      record { charge = 0; op = OpenF 0 (true ∷ []) } ∷
      record { charge = 4; op = LoadF 2 (TextO 1) } ∷
      record { charge = 0; op = MethodF 1 (RegisterO 2) 2 } ∷
      record { charge = 1; op = LoadF 3 (TextO 3) } ∷
      record { charge = 1; op = ClosureF 4 2 ((InRegister 0) ∷ []) } ∷
      record { charge = 0; op = CallF 1 1 (Exactly 3) (Exactly 1) } ∷
      record { charge = 2; op = LoadF 2 (RegisterO 1) } ∷
      record { charge = 4; op = LoadF 5 (TextO 5) } ∷
      record { charge = 0; op = MethodF 4 (RegisterO 5) 2 } ∷
      record { charge = 1; op = LoadF 6 (TextO 6) } ∷
      record { charge = 1; op = TableF 7 } ∷
      record { charge = 2; op = SetFieldF 7 (TextO 7) (TextO 8) } ∷
      record { charge = 0; op = CallF 3 4 (Exactly 3) (Exactly 1) } ∷
      record { charge = 0; op = ReturnF 2 (Exactly 2) } ∷
      record { charge = 0; op = ReturnF 0 (Exactly 0) } ∷ [];
  lines = 0 ∷ 0 ∷ 0 ∷ 2 ∷ 0 ∷ 0 ∷ 2 ∷ 0 ∷ 0 ∷ 2 ∷ 0 ∷ 0 ∷ 2 ∷ 2 ∷ 0 ∷ 0 ∷ [];
}

abbrev pub replaced_flat_2 : FlatFunction
replaced_flat_2 = record {
  flags = (false ∷ []);
  dots = false;
  registers = 3;
  steps =
      record { charge = 3; op = GetUpF 2 0 } ∷
      record { charge = 1; op = OperateF (Calculate Add) 1 (RegisterO 2) (ConstantO (Number (pos 1))) } ∷
      record { charge = 0; op = SetUpF 0 (RegisterO 1) } ∷
      record { charge = 4; op = CompareF Unequal (RegisterO 0) (TextO 4) false 7 } ∷
      record { charge = 4; op = GetUpF 2 0 } ∷
      record { charge = 0; op = OperateF Concatenate 1 (RegisterO 0) (RegisterO 2) } ∷
      record { charge = 0; op = ReturnF 1 (Exactly 1) } ∷
      record { charge = 0; op = ReturnF 0 (Exactly 0) } ∷ [];
  lines = 0 ∷ 2 ∷ 0 ∷ 2 ∷ 0 ∷ 2 ∷ 0 ∷ 0 ∷ [];
}

abbrev pub ReplacedFlatAlike : Type 0
ReplacedFlatAlike = flat_invoke (codes "X") 162 replaced_code (replaced_flat_0 ∷ replaced_flat_1 ∷ replaced_flat_2 ∷ []) 20000 ≡ run.invoke_module (codes "X") 162 replaced_code 20000

abbrev pub ReplacedIsFlat : Type 0
ReplacedIsFlat = IsFlatFunction replaced_0 replaced_flat_0 × IsFlatFunction replaced_1 replaced_flat_1 × IsFlatFunction replaced_2 replaced_flat_2

-- Joins, of numbers too.
--     return {f=function(...)
--     local a,b='x',2 return a..b..3,1 ..2,(a..b):len()
--     end}
abbrev pub joins_0 : CProto
joins_0 = record { flags = []; dots = false; body = (ThenC (ReturnC (MoreC (TableC (PairC (TextC 0) (FunctionC 1 []) NoFieldC) 1) NoC)) EndC) }

abbrev pub joins_1 : CProto
joins_1 = record { flags = []; dots = true; body = (DeclareC (false ∷ (false ∷ [])) (MoreC (TextC 1) (MoreC (ConstantC (Number (pos 2))) NoC)) (ThenC (ReturnC (MoreC (OperateC Concatenate (LocalC (Reg 1)) (OperateC Concatenate (LocalC (Reg 0)) (ConstantC (Number (pos 3))) 2) 2) (MoreC (OperateC Concatenate (ConstantC (Number (pos 1))) (ConstantC (Number (pos 2))) 2) (MoreC (MethodC (ParenC (OperateC Concatenate (LocalC (Reg 1)) (LocalC (Reg 0)) 2)) 2 NoC 2) NoC)))) EndC)) }

abbrev pub joins_code : Protos
joins_code = code_with (codes "f" ∷ codes "x" ∷ codes "len" ∷ []) (joins_0 ∷ joins_1 ∷ [])

abbrev pub joins_flat_0 : FlatFunction
joins_flat_0 = record {
  flags = [];
  dots = false;
  registers = 2;
  steps =
      record { charge = 2; op = TableF 0 } ∷
      record { charge = 2; op = ClosureF 1 1 [] } ∷
      record { charge = 0; op = SetFieldF 0 (TextO 0) (RegisterO 1) } ∷
      record { charge = 0; op = ReturnF 0 (Exactly 1) } ∷
      record { charge = 0; op = ReturnF 0 (Exactly 0) } ∷ [];
  lines = 0 ∷ 0 ∷ 1 ∷ 0 ∷ 0 ∷ [];
}

abbrev pub joins_flat_1 : FlatFunction
joins_flat_1 = record {
  flags = [];
  dots = true;
  registers = 6;
  steps =
      record { charge = 2; op = LoadF 0 (TextO 1) } ∷
      record { charge = 1; op = LoadF 1 (ConstantO (Number (pos 2))) } ∷
      record { charge = 6; op = OperateF Concatenate 3 (RegisterO 1) (ConstantO (Number (pos 3))) } ∷
      record { charge = 0; op = OperateF Concatenate 2 (RegisterO 0) (RegisterO 3) } ∷
      record { charge = 3; op = OperateF Concatenate 3 (ConstantO (Number (pos 1))) (ConstantO (Number (pos 2))) } ∷
      record { charge = 5; op = OperateF Concatenate 5 (RegisterO 0) (RegisterO 1) } ∷
      record { charge = 0; op = MethodF 4 (RegisterO 5) 2 } ∷
      record { charge = 0; op = CallF 4 4 (Exactly 1) Every } ∷
      record { charge = 0; op = ReturnF 2 Every } ∷
      record { charge = 0; op = ReturnF 0 (Exactly 0) } ∷ [];
  lines = 0 ∷ 0 ∷ 2 ∷ 2 ∷ 2 ∷ 2 ∷ 2 ∷ 2 ∷ 0 ∷ 0 ∷ [];
}

abbrev pub JoinsFlatAlike : Type 0
JoinsFlatAlike = flat_invoke (codes "X") 78 joins_code (joins_flat_0 ∷ joins_flat_1 ∷ []) 20000 ≡ run.invoke_module (codes "X") 78 joins_code 20000

abbrev pub JoinsIsFlat : Type 0
JoinsIsFlat = IsFlatFunction joins_0 joins_flat_0 × IsFlatFunction joins_1 joins_flat_1

-- `table` functions that call none.
--     return {f=function(...)
--     local t={} for i=1,4 do table.insert(t,i*i) end table.remove(t,1) return table.concat(t,','),#t
--     end}
abbrev pub sorted_0 : CProto
sorted_0 = record { flags = []; dots = false; body = (ThenC (ReturnC (MoreC (TableC (PairC (TextC 0) (FunctionC 1 []) NoFieldC) 1) NoC)) EndC) }

abbrev pub sorted_1 : CProto
sorted_1 = record { flags = []; dots = true; body = (DeclareC (false ∷ []) (MoreC (TableC NoFieldC 2) NoC) (ThenC (CountC false (ConstantC (Number (pos 1))) (ConstantC (Number (pos 4))) (ThenC (CallStatC (CallC (IndexC (GlobalC 1 2) (TextC 2) 2) (MoreC (LocalC (Reg 1)) (MoreC (OperateC (Calculate Mul) (LocalC (Reg 0)) (LocalC (Reg 0)) 2) NoC)) 2)) EndC) 2) (ThenC (CallStatC (CallC (IndexC (GlobalC 1 2) (TextC 3) 2) (MoreC (LocalC (Reg 0)) (MoreC (ConstantC (Number (pos 1))) NoC)) 2)) (ThenC (ReturnC (MoreC (CallC (IndexC (GlobalC 1 2) (TextC 4) 2) (MoreC (LocalC (Reg 0)) (MoreC (TextC 5) NoC)) 2) (MoreC (UnaryC sign.Len (LocalC (Reg 0)) 2) NoC))) EndC)))) }

abbrev pub sorted_code : Protos
sorted_code = code_with (codes "f" ∷ codes "table" ∷ codes "insert" ∷ codes "remove" ∷ codes "concat" ∷ codes "," ∷ []) (sorted_0 ∷ sorted_1 ∷ [])

abbrev pub sorted_flat_0 : FlatFunction
sorted_flat_0 = record {
  flags = [];
  dots = false;
  registers = 2;
  steps =
      record { charge = 2; op = TableF 0 } ∷
      record { charge = 2; op = ClosureF 1 1 [] } ∷
      record { charge = 0; op = SetFieldF 0 (TextO 0) (RegisterO 1) } ∷
      record { charge = 0; op = ReturnF 0 (Exactly 1) } ∷
      record { charge = 0; op = ReturnF 0 (Exactly 0) } ∷ [];
  lines = 0 ∷ 0 ∷ 1 ∷ 0 ∷ 0 ∷ [];
}

abbrev pub sorted_flat_1 : FlatFunction
sorted_flat_1 = record {
  flags = [];
  dots = true;
  registers = 8;
  steps =
      record { charge = 2; op = TableF 0 } ∷
      record { charge = 2; op = LoadF 1 (ConstantO (Number (pos 1))) } ∷
      record { charge = 1; op = LoadF 2 (ConstantO (Number (pos 4))) } ∷
      record { charge = 0; op = LoadF 3 (ConstantO (Number (pos 1))) } ∷
      record { charge = 0; op = CountBeginsF 1 11 } ∷
      record { charge = 5; op = GetGlobalF 6 1 } ∷
      record { charge = 1; op = IndexF 5 (RegisterO 6) (TextO 2) } ∷
      record { charge = 1; op = LoadF 6 (RegisterO 0) } ∷
      record { charge = 3; op = OperateF (Calculate Mul) 7 (RegisterO 4) (RegisterO 4) } ∷
      record { charge = 0; op = CallF 5 5 (Exactly 2) (Exactly 0) } ∷
      record { charge = 0; op = CountGoesOnF 1 5 } ∷
      record { charge = 4; op = GetGlobalF 2 1 } ∷
      record { charge = 1; op = IndexF 1 (RegisterO 2) (TextO 3) } ∷
      record { charge = 1; op = LoadF 2 (RegisterO 0) } ∷
      record { charge = 1; op = LoadF 3 (ConstantO (Number (pos 1))) } ∷
      record { charge = 0; op = CallF 1 1 (Exactly 2) (Exactly 0) } ∷
      record { charge = 4; op = GetGlobalF 3 1 } ∷
      record { charge = 1; op = IndexF 2 (RegisterO 3) (TextO 4) } ∷
      record { charge = 1; op = LoadF 3 (RegisterO 0) } ∷
      record { charge = 1; op = LoadF 4 (TextO 5) } ∷
      record { charge = 0; op = CallF 1 2 (Exactly 2) (Exactly 1) } ∷
      record { charge = 2; op = UnaryF sign.Len 2 (RegisterO 0) } ∷
      record { charge = 0; op = ReturnF 1 (Exactly 2) } ∷
      record { charge = 0; op = ReturnF 0 (Exactly 0) } ∷ [];
  lines = 0 ∷ 0 ∷ 0 ∷ 0 ∷ 2 ∷ 2 ∷ 2 ∷ 0 ∷ 2 ∷ 2 ∷ 0 ∷ 2 ∷ 2 ∷ 0 ∷ 0 ∷ 2 ∷ 2 ∷ 2 ∷ 0 ∷ 0 ∷ 2 ∷ 2 ∷ 0 ∷ 0 ∷ [];
}

abbrev pub SortedFlatAlike : Type 0
SortedFlatAlike = flat_invoke (codes "X") 124 sorted_code (sorted_flat_0 ∷ sorted_flat_1 ∷ []) 20000 ≡ run.invoke_module (codes "X") 124 sorted_code 20000

abbrev pub SortedIsFlat : Type 0
SortedIsFlat = IsFlatFunction sorted_0 sorted_flat_0 × IsFlatFunction sorted_1 sorted_flat_1

-- A `return` out of loops.
--     return {f=function(...)
--     local function find(t,x) for i,row in ipairs(t) do for j=1,#row do if row[j]==x then return i,j end end end return 0 end
--     local a,b=find({{1,2},{3,4}},3) return a,b,(find({},1))
--     end}
abbrev pub early_return_0 : CProto
early_return_0 = record { flags = []; dots = false; body = (ThenC (ReturnC (MoreC (TableC (PairC (TextC 0) (FunctionC 1 []) NoFieldC) 1) NoC)) EndC) }

abbrev pub early_return_1 : CProto
early_return_1 = record { flags = []; dots = true; body = (LocalFunctionC false 2 [] (DeclareC (false ∷ (false ∷ [])) (MoreC (CallC (LocalC (Reg 0)) (MoreC (TableC (ItemC (TableC (ItemC (ConstantC (Number (pos 1))) (ItemC (ConstantC (Number (pos 2))) NoFieldC)) 3) (ItemC (TableC (ItemC (ConstantC (Number (pos 3))) (ItemC (ConstantC (Number (pos 4))) NoFieldC)) 3) NoFieldC)) 3) (MoreC (ConstantC (Number (pos 3))) NoC)) 3) NoC) (ThenC (ReturnC (MoreC (LocalC (Reg 1)) (MoreC (LocalC (Reg 0)) (MoreC (ParenC (CallC (LocalC (Reg 2)) (MoreC (TableC NoFieldC 3) (MoreC (ConstantC (Number (pos 1))) NoC)) 3)) NoC)))) EndC))) }

abbrev pub early_return_2 : CProto
early_return_2 = record { flags = (false ∷ false ∷ []); dots = false; body = (ThenC (EachC (false ∷ (false ∷ [])) (MoreC (CallC (GlobalC 1 2) (MoreC (LocalC (Reg 1)) NoC) 2) NoC) (ThenC (CountC false (ConstantC (Number (pos 1))) (UnaryC sign.Len (LocalC (Reg 0)) 2) (ThenC (IfC (ArmC (OperateC Equal (IndexC (LocalC (Reg 1)) (LocalC (Reg 0)) 2) (LocalC (Reg 3)) 2) (ThenC (ReturnC (MoreC (LocalC (Reg 2)) (MoreC (LocalC (Reg 0)) NoC))) EndC) NoArmC)) EndC) 2) EndC) 2) (ThenC (ReturnC (MoreC (ConstantC (Number (pos 0))) NoC)) EndC)) }

abbrev pub early_return_code : Protos
early_return_code = code_with (codes "f" ∷ codes "ipairs" ∷ []) (early_return_0 ∷ early_return_1 ∷ early_return_2 ∷ [])

abbrev pub early_return_flat_0 : FlatFunction
early_return_flat_0 = record {
  flags = [];
  dots = false;
  registers = 2;
  steps =
      record { charge = 2; op = TableF 0 } ∷
      record { charge = 2; op = ClosureF 1 1 [] } ∷
      record { charge = 0; op = SetFieldF 0 (TextO 0) (RegisterO 1) } ∷
      record { charge = 0; op = ReturnF 0 (Exactly 1) } ∷
      record { charge = 0; op = ReturnF 0 (Exactly 0) } ∷ [];
  lines = 0 ∷ 0 ∷ 1 ∷ 0 ∷ 0 ∷ [];
}

abbrev pub early_return_flat_1 : FlatFunction
early_return_flat_1 = record {
  flags = [];
  dots = true;
  registers = 9;
  steps =
      record { charge = 1; op = NamedF false 0 2 [] } ∷
      record { charge = 3; op = LoadF 1 (RegisterO 0) } ∷
      record { charge = 1; op = TableF 2 } ∷
      record { charge = 1; op = TableF 3 } ∷
      record { charge = 1; op = SetFieldF 3 (ConstantO (Number (pos 1))) (ConstantO (Number (pos 1))) } ∷
      record { charge = 1; op = SetFieldF 3 (ConstantO (Number (pos 2))) (ConstantO (Number (pos 2))) } ∷
      record { charge = 0; op = SetFieldF 2 (ConstantO (Number (pos 1))) (RegisterO 3) } ∷
      record { charge = 1; op = TableF 3 } ∷
      record { charge = 1; op = SetFieldF 3 (ConstantO (Number (pos 1))) (ConstantO (Number (pos 3))) } ∷
      record { charge = 1; op = SetFieldF 3 (ConstantO (Number (pos 2))) (ConstantO (Number (pos 4))) } ∷
      record { charge = 0; op = SetFieldF 2 (ConstantO (Number (pos 2))) (RegisterO 3) } ∷
      record { charge = 1; op = LoadF 3 (ConstantO (Number (pos 3))) } ∷
      record { charge = 0; op = CallF 1 1 (Exactly 2) (Exactly 2) } ∷
      record { charge = 2; op = LoadF 3 (RegisterO 1) } ∷
      record { charge = 1; op = LoadF 4 (RegisterO 2) } ∷
      record { charge = 3; op = LoadF 6 (RegisterO 0) } ∷
      record { charge = 1; op = TableF 7 } ∷
      record { charge = 1; op = LoadF 8 (ConstantO (Number (pos 1))) } ∷
      record { charge = 0; op = CallF 5 6 (Exactly 2) (Exactly 1) } ∷
      record { charge = 0; op = ReturnF 3 (Exactly 3) } ∷
      record { charge = 0; op = ReturnF 0 (Exactly 0) } ∷ [];
  lines = 0 ∷ 0 ∷ 0 ∷ 0 ∷ 3 ∷ 3 ∷ 3 ∷ 0 ∷ 3 ∷ 3 ∷ 3 ∷ 0 ∷ 3 ∷ 0 ∷ 0 ∷ 0 ∷ 0 ∷ 0 ∷ 3 ∷ 0 ∷ 0 ∷ [];
}

abbrev pub early_return_flat_2 : FlatFunction
early_return_flat_2 = record {
  flags = (false ∷ false ∷ []);
  dots = false;
  registers = 13;
  steps =
      record { charge = 3; op = GetGlobalF 2 1 } ∷
      record { charge = 1; op = LoadF 3 (RegisterO 0) } ∷
      record { charge = 0; op = CallF 2 2 (Exactly 1) (Exactly 3) } ∷
      record { charge = 0; op = EachCallsF 2 2 } ∷
      record { charge = 0; op = EachTestsF 2 16 } ∷
      record { charge = 3; op = LoadF 7 (ConstantO (Number (pos 1))) } ∷
      record { charge = 2; op = UnaryF sign.Len 8 (RegisterO 6) } ∷
      record { charge = 0; op = LoadF 9 (ConstantO (Number (pos 1))) } ∷
      record { charge = 0; op = CountBeginsF 7 15 } ∷
      record { charge = 6; op = IndexF 11 (RegisterO 6) (RegisterO 10) } ∷
      record { charge = 1; op = CompareF Equal (RegisterO 11) (RegisterO 1) false 14 } ∷
      record { charge = 2; op = LoadF 11 (RegisterO 5) } ∷
      record { charge = 1; op = LoadF 12 (RegisterO 10) } ∷
      record { charge = 0; op = ReturnF 11 (Exactly 2) } ∷
      record { charge = 0; op = CountGoesOnF 7 9 } ∷
      record { charge = 0; op = JumpF 3 } ∷
      record { charge = 2; op = LoadF 2 (ConstantO (Number (pos 0))) } ∷
      record { charge = 0; op = ReturnF 2 (Exactly 1) } ∷
      record { charge = 0; op = ReturnF 0 (Exactly 0) } ∷ [];
  lines = 2 ∷ 0 ∷ 2 ∷ 2 ∷ 0 ∷ 0 ∷ 2 ∷ 0 ∷ 2 ∷ 2 ∷ 2 ∷ 0 ∷ 0 ∷ 0 ∷ 0 ∷ 0 ∷ 0 ∷ 0 ∷ 0 ∷ [];
}

abbrev pub EarlyReturnFlatAlike : Type 0
EarlyReturnFlatAlike = flat_invoke (codes "X") 205 early_return_code (early_return_flat_0 ∷ early_return_flat_1 ∷ early_return_flat_2 ∷ []) 20000 ≡ run.invoke_module (codes "X") 205 early_return_code 20000

abbrev pub EarlyReturnIsFlat : Type 0
EarlyReturnIsFlat = IsFlatFunction early_return_0 early_return_flat_0 × IsFlatFunction early_return_1 early_return_flat_1 × IsFlatFunction early_return_2 early_return_flat_2

-- A choice among many, without a last block.
--     return {f=function(...)
--     local function k(n) if n==1 then return 'a' elseif n==2 then return 'b' elseif n>9 then n=n-9 end return 'z'..n end return k(1)..k(2)..k(3)..k(12)
--     end}
abbrev pub elseif_chain_0 : CProto
elseif_chain_0 = record { flags = []; dots = false; body = (ThenC (ReturnC (MoreC (TableC (PairC (TextC 0) (FunctionC 1 []) NoFieldC) 1) NoC)) EndC) }

abbrev pub elseif_chain_1 : CProto
elseif_chain_1 = record { flags = []; dots = true; body = (LocalFunctionC false 2 [] (ThenC (ReturnC (MoreC (OperateC Concatenate (CallC (LocalC (Reg 0)) (MoreC (ConstantC (Number (pos 1))) NoC) 2) (OperateC Concatenate (CallC (LocalC (Reg 0)) (MoreC (ConstantC (Number (pos 2))) NoC) 2) (OperateC Concatenate (CallC (LocalC (Reg 0)) (MoreC (ConstantC (Number (pos 3))) NoC) 2) (CallC (LocalC (Reg 0)) (MoreC (ConstantC (Number (pos 12))) NoC) 2) 2) 2) 2) NoC)) EndC)) }

abbrev pub elseif_chain_2 : CProto
elseif_chain_2 = record { flags = (false ∷ []); dots = false; body = (ThenC (IfC (ArmC (OperateC Equal (LocalC (Reg 0)) (ConstantC (Number (pos 1))) 2) (ThenC (ReturnC (MoreC (TextC 1) NoC)) EndC) (ArmC (OperateC Equal (LocalC (Reg 0)) (ConstantC (Number (pos 2))) 2) (ThenC (ReturnC (MoreC (TextC 2) NoC)) EndC) (ArmC (OperateC Greater (LocalC (Reg 0)) (ConstantC (Number (pos 9))) 2) (ThenC (AssignC ((PlaceC (Reg 0)) ∷ []) (MoreC (OperateC (Calculate Sub) (LocalC (Reg 0)) (ConstantC (Number (pos 9))) 2) NoC)) EndC) NoArmC)))) (ThenC (ReturnC (MoreC (OperateC Concatenate (TextC 3) (LocalC (Reg 0)) 2) NoC)) EndC)) }

abbrev pub elseif_chain_code : Protos
elseif_chain_code = code_with (codes "f" ∷ codes "a" ∷ codes "b" ∷ codes "z" ∷ []) (elseif_chain_0 ∷ elseif_chain_1 ∷ elseif_chain_2 ∷ [])

abbrev pub elseif_chain_flat_0 : FlatFunction
elseif_chain_flat_0 = record {
  flags = [];
  dots = false;
  registers = 2;
  steps =
      record { charge = 2; op = TableF 0 } ∷
      record { charge = 2; op = ClosureF 1 1 [] } ∷
      record { charge = 0; op = SetFieldF 0 (TextO 0) (RegisterO 1) } ∷
      record { charge = 0; op = ReturnF 0 (Exactly 1) } ∷
      record { charge = 0; op = ReturnF 0 (Exactly 0) } ∷ [];
  lines = 0 ∷ 0 ∷ 1 ∷ 0 ∷ 0 ∷ [];
}

abbrev pub elseif_chain_flat_1 : FlatFunction
elseif_chain_flat_1 = record {
  flags = [];
  dots = true;
  registers = 10;
  steps =
      record { charge = 1; op = NamedF false 0 2 [] } ∷
      record { charge = 4; op = LoadF 3 (RegisterO 0) } ∷
      record { charge = 1; op = LoadF 4 (ConstantO (Number (pos 1))) } ∷
      record { charge = 0; op = CallF 2 3 (Exactly 1) (Exactly 1) } ∷
      record { charge = 3; op = LoadF 5 (RegisterO 0) } ∷
      record { charge = 1; op = LoadF 6 (ConstantO (Number (pos 2))) } ∷
      record { charge = 0; op = CallF 4 5 (Exactly 1) (Exactly 1) } ∷
      record { charge = 3; op = LoadF 7 (RegisterO 0) } ∷
      record { charge = 1; op = LoadF 8 (ConstantO (Number (pos 3))) } ∷
      record { charge = 0; op = CallF 6 7 (Exactly 1) (Exactly 1) } ∷
      record { charge = 2; op = LoadF 8 (RegisterO 0) } ∷
      record { charge = 1; op = LoadF 9 (ConstantO (Number (pos 12))) } ∷
      record { charge = 0; op = CallF 7 8 (Exactly 1) (Exactly 1) } ∷
      record { charge = 0; op = OperateF Concatenate 5 (RegisterO 6) (RegisterO 7) } ∷
      record { charge = 0; op = OperateF Concatenate 3 (RegisterO 4) (RegisterO 5) } ∷
      record { charge = 0; op = OperateF Concatenate 1 (RegisterO 2) (RegisterO 3) } ∷
      record { charge = 0; op = ReturnF 1 (Exactly 1) } ∷
      record { charge = 0; op = ReturnF 0 (Exactly 0) } ∷ [];
  lines = 0 ∷ 0 ∷ 0 ∷ 2 ∷ 0 ∷ 0 ∷ 2 ∷ 0 ∷ 0 ∷ 2 ∷ 0 ∷ 0 ∷ 2 ∷ 2 ∷ 2 ∷ 2 ∷ 0 ∷ 0 ∷ [];
}

abbrev pub elseif_chain_flat_2 : FlatFunction
elseif_chain_flat_2 = record {
  flags = (false ∷ []);
  dots = false;
  registers = 2;
  steps =
      record { charge = 4; op = CompareF Equal (RegisterO 0) (ConstantO (Number (pos 1))) false 4 } ∷
      record { charge = 2; op = LoadF 1 (TextO 1) } ∷
      record { charge = 0; op = ReturnF 1 (Exactly 1) } ∷
      record { charge = 0; op = JumpF 10 } ∷
      record { charge = 3; op = CompareF Equal (RegisterO 0) (ConstantO (Number (pos 2))) false 8 } ∷
      record { charge = 2; op = LoadF 1 (TextO 2) } ∷
      record { charge = 0; op = ReturnF 1 (Exactly 1) } ∷
      record { charge = 0; op = JumpF 10 } ∷
      record { charge = 3; op = CompareF Greater (RegisterO 0) (ConstantO (Number (pos 9))) false 10 } ∷
      record { charge = 4; op = OperateF (Calculate Sub) 0 (RegisterO 0) (ConstantO (Number (pos 9))) } ∷
      record { charge = 4; op = OperateF Concatenate 1 (TextO 3) (RegisterO 0) } ∷
      record { charge = 0; op = ReturnF 1 (Exactly 1) } ∷
      record { charge = 0; op = ReturnF 0 (Exactly 0) } ∷ [];
  lines = 2 ∷ 0 ∷ 0 ∷ 0 ∷ 2 ∷ 0 ∷ 0 ∷ 0 ∷ 2 ∷ 2 ∷ 2 ∷ 0 ∷ 0 ∷ [];
}

abbrev pub ElseifChainFlatAlike : Type 0
ElseifChainFlatAlike = flat_invoke (codes "X") 175 elseif_chain_code (elseif_chain_flat_0 ∷ elseif_chain_flat_1 ∷ elseif_chain_flat_2 ∷ []) 20000 ≡ run.invoke_module (codes "X") 175 elseif_chain_code 20000

abbrev pub ElseifChainIsFlat : Type 0
ElseifChainIsFlat = IsFlatFunction elseif_chain_0 elseif_chain_flat_0 × IsFlatFunction elseif_chain_1 elseif_chain_flat_1 × IsFlatFunction elseif_chain_2 elseif_chain_flat_2

-- all of these
abbrev pub AllTexts : Type 0
AllTexts = StringsFlatAlike × ReplacedFlatAlike × JoinsFlatAlike × SortedFlatAlike × EarlyReturnFlatAlike × ElseifChainFlatAlike

abbrev pub AllFlatTexts : Type 0
AllFlatTexts = StringsIsFlat × ReplacedIsFlat × JoinsIsFlat × SortedIsFlat × EarlyReturnIsFlat × ElseifChainIsFlat
