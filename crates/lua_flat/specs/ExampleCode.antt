-- FLAT CODE OF SMALL MODULES, beside their resolved code: both end alike, with the same steps.
use Rattle.std.specs.Prelude.{◌≡◌, pos, true, false, [], ◌∷◌, codes}
use Rattle.lua_slots.specs.LuaHeapValue.{Nil, Truth, Number}
use Rattle.lua_slots.specs.LuaMeaningOperators.{Add, Less, AtLeast, Equal, Concatenate, Calculate}
use Rattle.lua_flat.specs.Operations.{RegisterO, ConstantO, TextO, Exactly, Every, InRegister, PayF, LoadF, ClosureF, NamedF, OpenF, GetCellF, GetUpF, SetUpF, GetGlobalF, IndexF, SetIndexF, TableF, SetFieldF, SetItemsF, OperateF, UnaryF, JumpF, TestF, CompareF, CountBeginsF, CountGoesOnF, CallF, ReturnF, FlatFunction}
use Rattle.lua_slots.specs.LuaSyntaxDeclaredUnaryOpTheVariants as sign
use Rattle.lua_slots.specs.ExampleCode.{cells_code, repeat_loop_code, branches_code, constructors_code, and_or_code, and_or_0, and_or_1, branches_0, branches_1, branches_2, cells_0, cells_1, cells_2, constructors_0, constructors_1, constructors_2, repeat_loop_0, repeat_loop_1}
use Rattle.lua_flat.specs.IsStatement.{IsFlatFunction}
use Rattle.lua_slots.specs.Trial as run
use Rattle.lua_flat.specs.Trial.{flat_invoke}

abbrev pub cells_flat_0 : FlatFunction
cells_flat_0 = record {
  flags = [];
  dots = false;
  registers = 2;
  steps =
      record { charge = 2; op = TableF 0 } ∷
      record { charge = 5; op = ClosureF 1 1 [] } ∷
      record { charge = 0; op = SetIndexF (RegisterO 0) (TextO 0) (RegisterO 1) } ∷
      record { charge = 2; op = ReturnF 0 (Exactly 1) } ∷
      record { charge = 0; op = ReturnF 0 (Exactly 0) } ∷ [];
  lines = 0 ∷ 0 ∷ 1 ∷ 0 ∷ 0 ∷ [];
}

abbrev pub cells_flat_1 : FlatFunction
cells_flat_1 = record {
  flags = [];
  dots = false;
  registers = 7;
  steps =
      record { charge = 2; op = TableF 0 } ∷
      record { charge = 2; op = LoadF 1 (ConstantO (Number (pos 1))) } ∷
      record { charge = 1; op = LoadF 2 (ConstantO (Number (pos 3))) } ∷
      record { charge = 0; op = LoadF 3 (ConstantO (Number (pos 1))) } ∷
      record { charge = 0; op = CountBeginsF 1 10 } ∷
      record { charge = 1; op = OpenF 4 (true ∷ []) } ∷
      record { charge = 4; op = GetCellF 5 4 } ∷
      record { charge = 1; op = ClosureF 6 2 ((InRegister 4) ∷ []) } ∷
      record { charge = 0; op = SetIndexF (RegisterO 0) (RegisterO 5) (RegisterO 6) } ∷
      record { charge = 0; op = CountGoesOnF 1 5 } ∷
      record { charge = 6; op = IndexF 3 (RegisterO 0) (ConstantO (Number (pos 1))) } ∷
      record { charge = 0; op = CallF 2 3 (Exactly 0) (Exactly 1) } ∷
      record { charge = 5; op = IndexF 5 (RegisterO 0) (ConstantO (Number (pos 1))) } ∷
      record { charge = 0; op = CallF 4 5 (Exactly 0) (Exactly 1) } ∷
      record { charge = 4; op = IndexF 6 (RegisterO 0) (ConstantO (Number (pos 2))) } ∷
      record { charge = 0; op = CallF 5 6 (Exactly 0) (Exactly 1) } ∷
      record { charge = 0; op = OperateF Concatenate 3 (RegisterO 4) (RegisterO 5) } ∷
      record { charge = 0; op = OperateF Concatenate 1 (RegisterO 2) (RegisterO 3) } ∷
      record { charge = 0; op = ReturnF 1 (Exactly 1) } ∷
      record { charge = 0; op = ReturnF 0 (Exactly 0) } ∷ [];
  lines = 0 ∷ 0 ∷ 0 ∷ 0 ∷ 1 ∷ 0 ∷ 0 ∷ 0 ∷ 1 ∷ 0 ∷ 1 ∷ 1 ∷ 1 ∷ 1 ∷ 1 ∷ 1 ∷ 1 ∷ 1 ∷ 0 ∷ 0 ∷ [];
}

abbrev pub cells_flat_2 : FlatFunction
cells_flat_2 = record {
  flags = [];
  dots = false;
  registers = 2;
  steps =
      record { charge = 3; op = GetUpF 1 0 } ∷
      record { charge = 1; op = OperateF (Calculate Add) 0 (RegisterO 1) (ConstantO (Number (pos 10))) } ∷
      record { charge = 0; op = SetUpF 0 (RegisterO 0) } ∷
      record { charge = 2; op = GetUpF 0 0 } ∷
      record { charge = 0; op = ReturnF 0 (Exactly 1) } ∷
      record { charge = 0; op = ReturnF 0 (Exactly 0) } ∷ [];
  lines = 0 ∷ 1 ∷ 0 ∷ 0 ∷ 0 ∷ 0 ∷ [];
}

abbrev pub CellsFlatAlike : Type 0
CellsFlatAlike = flat_invoke (codes "Slots") 137 cells_code (cells_flat_0 ∷ cells_flat_1 ∷ cells_flat_2 ∷ []) 6000 ≡ run.invoke_module (codes "Slots") 137 cells_code 6000

abbrev pub repeat_loop_flat_0 : FlatFunction
repeat_loop_flat_0 = record {
  flags = [];
  dots = false;
  registers = 2;
  steps =
      record { charge = 2; op = TableF 0 } ∷
      record { charge = 2; op = ClosureF 1 1 [] } ∷
      record { charge = 0; op = SetFieldF 0 (TextO 0) (RegisterO 1) } ∷
      record { charge = 0; op = ReturnF 0 (Exactly 1) } ∷
      record { charge = 0; op = ReturnF 0 (Exactly 0) } ∷ [];
  lines = 0 ∷ 0 ∷ 1 ∷ 0 ∷ 0 ∷ [];
}

abbrev pub repeat_loop_flat_1 : FlatFunction
repeat_loop_flat_1 = record {
  flags = [];
  dots = true;
  registers = 2;
  steps =
      record { charge = 2; op = LoadF 0 (ConstantO (Number (pos 0))) } ∷
      record { charge = 1; op = PayF } ∷
      record { charge = 5; op = OperateF AtLeast 1 (RegisterO 0) (ConstantO (Number (pos 2))) } ∷
      record { charge = 4; op = OperateF (Calculate Add) 0 (RegisterO 0) (ConstantO (Number (pos 1))) } ∷
      record { charge = 1; op = TestF false (RegisterO 1) 2 } ∷
      record { charge = 2; op = ReturnF 0 (Exactly 1) } ∷
      record { charge = 0; op = ReturnF 0 (Exactly 0) } ∷ [];
  lines = 0 ∷ 0 ∷ 3 ∷ 3 ∷ 0 ∷ 0 ∷ 0 ∷ [];
}

abbrev pub RepeatLoopFlatAlike : Type 0
RepeatLoopFlatAlike = flat_invoke (codes "X") 89 repeat_loop_code (repeat_loop_flat_0 ∷ repeat_loop_flat_1 ∷ []) 6000 ≡ run.invoke_module (codes "X") 89 repeat_loop_code 6000

abbrev pub branches_flat_0 : FlatFunction
branches_flat_0 = record {
  flags = [];
  dots = false;
  registers = 2;
  steps =
      record { charge = 2; op = TableF 0 } ∷
      record { charge = 2; op = ClosureF 1 1 [] } ∷
      record { charge = 0; op = SetFieldF 0 (TextO 0) (RegisterO 1) } ∷
      record { charge = 0; op = ReturnF 0 (Exactly 1) } ∷
      record { charge = 0; op = ReturnF 0 (Exactly 0) } ∷ [];
  lines = 0 ∷ 0 ∷ 1 ∷ 0 ∷ 0 ∷ [];
}

abbrev pub branches_flat_1 : FlatFunction
branches_flat_1 = record {
  flags = [];
  dots = true;
  registers = 5;
  steps =
      record { charge = 1; op = NamedF false 0 2 [] } ∷
      record { charge = 3; op = LoadF 2 (RegisterO 0) } ∷
      record { charge = 2; op = UnaryF sign.Minus 3 (ConstantO (Number (pos 1))) } ∷
      record { charge = 0; op = CallF 1 2 (Exactly 1) (Exactly 1) } ∷
      record { charge = 2; op = LoadF 3 (RegisterO 0) } ∷
      record { charge = 1; op = LoadF 4 (ConstantO (Number (pos 0))) } ∷
      record { charge = 0; op = CallF 2 3 (Exactly 1) (Exactly 1) } ∷
      record { charge = 2; op = LoadF 3 (RegisterO 0) } ∷
      record { charge = 1; op = LoadF 4 (ConstantO (Number (pos 1))) } ∷
      record { charge = 0; op = CallF 3 3 (Exactly 1) Every } ∷
      record { charge = 0; op = ReturnF 1 Every } ∷
      record { charge = 0; op = ReturnF 0 (Exactly 0) } ∷ [];
  lines = 0 ∷ 0 ∷ 3 ∷ 3 ∷ 0 ∷ 0 ∷ 3 ∷ 0 ∷ 0 ∷ 3 ∷ 0 ∷ 0 ∷ [];
}

abbrev pub branches_flat_2 : FlatFunction
branches_flat_2 = record {
  flags = (false ∷ []);
  dots = false;
  registers = 2;
  steps =
      record { charge = 4; op = CompareF Less (RegisterO 0) (ConstantO (Number (pos 0))) false 4 } ∷
      record { charge = 2; op = LoadF 1 (TextO 1) } ∷
      record { charge = 0; op = ReturnF 1 (Exactly 1) } ∷
      record { charge = 0; op = JumpF 10 } ∷
      record { charge = 3; op = CompareF Equal (RegisterO 0) (ConstantO (Number (pos 0))) false 8 } ∷
      record { charge = 2; op = LoadF 1 (TextO 2) } ∷
      record { charge = 0; op = ReturnF 1 (Exactly 1) } ∷
      record { charge = 0; op = JumpF 10 } ∷
      record { charge = 2; op = LoadF 1 (TextO 3) } ∷
      record { charge = 0; op = ReturnF 1 (Exactly 1) } ∷
      record { charge = 0; op = ReturnF 0 (Exactly 0) } ∷ [];
  lines = 2 ∷ 0 ∷ 0 ∷ 0 ∷ 2 ∷ 0 ∷ 0 ∷ 0 ∷ 0 ∷ 0 ∷ 0 ∷ [];
}

abbrev pub BranchesFlatAlike : Type 0
BranchesFlatAlike = flat_invoke (codes "X") 165 branches_code (branches_flat_0 ∷ branches_flat_1 ∷ branches_flat_2 ∷ []) 6000 ≡ run.invoke_module (codes "X") 165 branches_code 6000

abbrev pub constructors_flat_0 : FlatFunction
constructors_flat_0 = record {
  flags = [];
  dots = false;
  registers = 2;
  steps =
      record { charge = 2; op = TableF 0 } ∷
      record { charge = 2; op = ClosureF 1 1 [] } ∷
      record { charge = 0; op = SetFieldF 0 (TextO 0) (RegisterO 1) } ∷
      record { charge = 0; op = ReturnF 0 (Exactly 1) } ∷
      record { charge = 0; op = ReturnF 0 (Exactly 0) } ∷ [];
  lines = 0 ∷ 0 ∷ 1 ∷ 0 ∷ 0 ∷ [];
}

abbrev pub constructors_flat_1 : FlatFunction
constructors_flat_1 = record {
  flags = [];
  dots = true;
  registers = 9;
  steps =
      record { charge = 1; op = NamedF false 0 2 [] } ∷
      record { charge = 2; op = TableF 1 } ∷
      record { charge = 2; op = LoadF 3 (RegisterO 0) } ∷
      record { charge = 0; op = CallF 2 3 (Exactly 0) (Exactly 1) } ∷
      record { charge = 0; op = SetFieldF 1 (ConstantO (Number (pos 1))) (RegisterO 2) } ∷
      record { charge = 2; op = LoadF 3 (RegisterO 0) } ∷
      record { charge = 0; op = CallF 2 3 (Exactly 0) (Exactly 1) } ∷
      record { charge = 0; op = SetFieldF 1 (ConstantO (Number (pos 2))) (RegisterO 2) } ∷
      record { charge = 2; op = SetFieldF 1 (TextO 1) (ConstantO (Number (pos 1))) } ∷
      record { charge = 2; op = SetFieldF 1 (TextO 2) (ConstantO (Number (pos 2))) } ∷
      record { charge = 2; op = LoadF 2 (RegisterO 0) } ∷
      record { charge = 0; op = CallF 2 2 (Exactly 0) Every } ∷
      record { charge = 0; op = SetItemsF 1 3 2 } ∷
      record { charge = 3; op = UnaryF sign.Len 2 (RegisterO 1) } ∷
      record { charge = 3; op = IndexF 3 (RegisterO 1) (ConstantO (Number (pos 1))) } ∷
      record { charge = 3; op = IndexF 4 (RegisterO 1) (ConstantO (Number (pos 2))) } ∷
      record { charge = 3; op = IndexF 5 (RegisterO 1) (ConstantO (Number (pos 3))) } ∷
      record { charge = 3; op = IndexF 6 (RegisterO 1) (ConstantO (Number (pos 4))) } ∷
      record { charge = 3; op = IndexF 7 (RegisterO 1) (TextO 1) } ∷
      record { charge = 3; op = IndexF 8 (RegisterO 1) (TextO 2) } ∷
      record { charge = 0; op = ReturnF 2 (Exactly 7) } ∷
      record { charge = 0; op = ReturnF 0 (Exactly 0) } ∷ [];
  lines = 0 ∷ 0 ∷ 0 ∷ 3 ∷ 3 ∷ 0 ∷ 3 ∷ 3 ∷ 3 ∷ 3 ∷ 0 ∷ 3 ∷ 3 ∷ 4 ∷ 4 ∷ 4 ∷ 4 ∷ 4 ∷ 4 ∷ 4 ∷ 0 ∷ 0 ∷ [];
}

abbrev pub constructors_flat_2 : FlatFunction
constructors_flat_2 = record {
  flags = [];
  dots = false;
  registers = 2;
  steps =
      record { charge = 2; op = LoadF 0 (TextO 3) } ∷
      record { charge = 1; op = LoadF 1 (TextO 4) } ∷
      record { charge = 0; op = ReturnF 0 (Exactly 2) } ∷
      record { charge = 0; op = ReturnF 0 (Exactly 0) } ∷ [];
  lines = 0 ∷ 0 ∷ 0 ∷ 0 ∷ [];
}

abbrev pub ConstructorsFlatAlike : Type 0
ConstructorsFlatAlike = flat_invoke (codes "X") 146 constructors_code (constructors_flat_0 ∷ constructors_flat_1 ∷ constructors_flat_2 ∷ []) 6000 ≡ run.invoke_module (codes "X") 146 constructors_code 6000

abbrev pub and_or_flat_0 : FlatFunction
and_or_flat_0 = record {
  flags = [];
  dots = false;
  registers = 2;
  steps =
      record { charge = 2; op = TableF 0 } ∷
      record { charge = 2; op = ClosureF 1 1 [] } ∷
      record { charge = 0; op = SetFieldF 0 (TextO 0) (RegisterO 1) } ∷
      record { charge = 0; op = ReturnF 0 (Exactly 1) } ∷
      record { charge = 0; op = ReturnF 0 (Exactly 0) } ∷ [];
  lines = 0 ∷ 0 ∷ 1 ∷ 0 ∷ 0 ∷ [];
}

abbrev pub and_or_flat_1 : FlatFunction
and_or_flat_1 = record {
  flags = [];
  dots = true;
  registers = 7;
  steps =
      record { charge = 3; op = GetGlobalF 1 1 } ∷
      record { charge = 2; op = LoadF 2 (ConstantO Nil) } ∷
      record { charge = 0; op = TestF false (RegisterO 2) 4 } ∷
      record { charge = 1; op = LoadF 2 (ConstantO (Number (pos 1))) } ∷
      record { charge = 0; op = CallF 0 1 (Exactly 1) (Exactly 1) } ∷
      record { charge = 2; op = GetGlobalF 2 1 } ∷
      record { charge = 2; op = LoadF 3 (ConstantO (Truth false)) } ∷
      record { charge = 0; op = TestF true (RegisterO 3) 9 } ∷
      record { charge = 1; op = LoadF 3 (ConstantO Nil) } ∷
      record { charge = 0; op = CallF 1 2 (Exactly 1) (Exactly 1) } ∷
      record { charge = 2; op = LoadF 2 (ConstantO (Number (pos 1))) } ∷
      record { charge = 0; op = TestF false (RegisterO 2) 13 } ∷
      record { charge = 1; op = LoadF 2 (ConstantO (Number (pos 2))) } ∷
      record { charge = 2; op = LoadF 3 (ConstantO Nil) } ∷
      record { charge = 0; op = TestF true (RegisterO 3) 16 } ∷
      record { charge = 1; op = LoadF 3 (ConstantO (Number (pos 3))) } ∷
      record { charge = 3; op = LoadF 4 (ConstantO (Truth false)) } ∷
      record { charge = 0; op = TestF false (RegisterO 4) 21 } ∷
      record { charge = 2; op = GetGlobalF 5 2 } ∷
      record { charge = 1; op = LoadF 6 (TextO 3) } ∷
      record { charge = 0; op = CallF 4 5 (Exactly 1) (Exactly 1) } ∷
      record { charge = 0; op = TestF true (RegisterO 4) 23 } ∷
      record { charge = 1; op = LoadF 4 (TextO 4) } ∷
      record { charge = 0; op = ReturnF 0 (Exactly 5) } ∷
      record { charge = 0; op = ReturnF 0 (Exactly 0) } ∷ [];
  lines = 2 ∷ 0 ∷ 0 ∷ 0 ∷ 2 ∷ 2 ∷ 0 ∷ 0 ∷ 0 ∷ 2 ∷ 0 ∷ 0 ∷ 0 ∷ 0 ∷ 0 ∷ 0 ∷ 0 ∷ 0 ∷ 2 ∷ 0 ∷ 2 ∷ 0 ∷ 0 ∷ 0 ∷ 0 ∷ [];
}

abbrev pub AndOrFlatAlike : Type 0
AndOrFlatAlike = flat_invoke (codes "X") 127 and_or_code (and_or_flat_0 ∷ and_or_flat_1 ∷ []) 6000 ≡ run.invoke_module (codes "X") 127 and_or_code 6000

abbrev pub CellsIsFlat : Type 0
CellsIsFlat = IsFlatFunction cells_0 cells_flat_0 × IsFlatFunction cells_1 cells_flat_1 × IsFlatFunction cells_2 cells_flat_2

abbrev pub RepeatLoopIsFlat : Type 0
RepeatLoopIsFlat = IsFlatFunction repeat_loop_0 repeat_loop_flat_0 × IsFlatFunction repeat_loop_1 repeat_loop_flat_1

abbrev pub BranchesIsFlat : Type 0
BranchesIsFlat = IsFlatFunction branches_0 branches_flat_0 × IsFlatFunction branches_1 branches_flat_1 × IsFlatFunction branches_2 branches_flat_2

abbrev pub ConstructorsIsFlat : Type 0
ConstructorsIsFlat = IsFlatFunction constructors_0 constructors_flat_0 × IsFlatFunction constructors_1 constructors_flat_1 × IsFlatFunction constructors_2 constructors_flat_2

abbrev pub AndOrIsFlat : Type 0
AndOrIsFlat = IsFlatFunction and_or_0 and_or_flat_0 × IsFlatFunction and_or_1 and_or_flat_1

-- all of these
abbrev pub AllExampleCode : Type 0
AllExampleCode = CellsFlatAlike × RepeatLoopFlatAlike × BranchesFlatAlike × ConstructorsFlatAlike × AndOrFlatAlike

abbrev pub AllFlatExampleCode : Type 0
AllFlatExampleCode = CellsIsFlat × RepeatLoopIsFlat × BranchesIsFlat × ConstructorsIsFlat × AndOrIsFlat
