-- FLAT CODE OF MODULES THAT CALL, beside their resolved code: both end alike, with the same steps.
use Rattle.std.specs.Prelude.{◌≡◌, pos, true, false, [], ◌∷◌, codes}
use Rattle.lua_slots.specs.LuaHeapValue.{Number}
use Rattle.lua_slots.specs.LuaMeaningOperators.{Add, Equal, Concatenate, Calculate}
use Rattle.lua_flat.specs.Operations.{RegisterO, ConstantO, TextO, Exactly, Every, InRegister, LoadF, DotsF, ClosureF, NamedF, OpenF, GetCellF, GetUpF, SetUpF, GetGlobalF, IndexF, SetIndexF, TableF, SetFieldF, OperateF, UnaryF, CallF, ReturnF, FlatFunction}
use Rattle.lua_slots.specs.LuaSyntaxDeclaredUnaryOpTheVariants as sign
use Rattle.lua_slots.specs.ExampleCalls.{protected_code, arithmetic_handlers_code, error_handlers_code, new_index_code, call_handlers_code, arithmetic_handlers_0, arithmetic_handlers_1, arithmetic_handlers_2, arithmetic_handlers_3, arithmetic_handlers_4, call_handlers_0, call_handlers_1, call_handlers_2, error_handlers_0, error_handlers_1, error_handlers_2, error_handlers_3, error_handlers_4, new_index_0, new_index_1, new_index_2, protected_0, protected_1, protected_2}
use Rattle.lua_flat.specs.IsStatement.{IsFlatFunction}
use Rattle.lua_slots.specs.Trial as run
use Rattle.lua_flat.specs.Trial.{flat_invoke}

abbrev pub protected_flat_0 : FlatFunction
protected_flat_0 = record {
  flags = [];
  dots = false;
  registers = 2;
  steps =
      record { charge = 2; op = TableF 0 } ∷
      record { charge = 2; op = ClosureF 1 1 [] } ∷
      record { charge = 0; op = SetFieldF 0 (TextO 0) (RegisterO 1) } ∷
      record { charge = 0; op = ReturnF 0 (Exactly 1) } ∷
      record { charge = 0; op = ReturnF 0 (Exactly 0) } ∷ [];
  lines = 0 ∷ 0 ∷ 1 ∷ 0 ∷ 0 ∷ [];
}

abbrev pub protected_flat_1 : FlatFunction
protected_flat_1 = record {
  flags = [];
  dots = true;
  registers = 7;
  steps =
      record { charge = 3; op = GetGlobalF 1 1 } ∷
      record { charge = 2; op = GetGlobalF 2 2 } ∷
      record { charge = 1; op = GetGlobalF 3 3 } ∷
      record { charge = 1; op = LoadF 4 (TextO 4) } ∷
      record { charge = 0; op = CallF 2 2 (Exactly 2) Every } ∷
      record { charge = 0; op = CallF 0 1 Every (Exactly 1) } ∷
      record { charge = 2; op = GetGlobalF 2 5 } ∷
      record { charge = 1; op = LoadF 3 (ConstantO (Number (pos 2))) } ∷
      record { charge = 2; op = GetGlobalF 4 2 } ∷
      record { charge = 1; op = GetGlobalF 5 3 } ∷
      record { charge = 1; op = LoadF 6 (TextO 4) } ∷
      record { charge = 0; op = CallF 4 4 (Exactly 2) Every } ∷
      record { charge = 0; op = CallF 1 2 Every (Exactly 1) } ∷
      record { charge = 2; op = GetGlobalF 2 2 } ∷
      record { charge = 1; op = ClosureF 3 2 [] } ∷
      record { charge = 1; op = LoadF 4 (ConstantO (Number (pos 1))) } ∷
      record { charge = 1; op = LoadF 5 (ConstantO (Number (pos 2))) } ∷
      record { charge = 0; op = CallF 2 2 (Exactly 3) Every } ∷
      record { charge = 0; op = ReturnF 0 Every } ∷
      record { charge = 0; op = ReturnF 0 (Exactly 0) } ∷ [];
  lines = 2 ∷ 2 ∷ 2 ∷ 0 ∷ 2 ∷ 2 ∷ 2 ∷ 0 ∷ 2 ∷ 2 ∷ 0 ∷ 2 ∷ 2 ∷ 2 ∷ 0 ∷ 0 ∷ 0 ∷ 2 ∷ 0 ∷ 0 ∷ [];
}

abbrev pub protected_flat_2 : FlatFunction
protected_flat_2 = record {
  flags = [];
  dots = true;
  registers = 0;
  steps =
      record { charge = 2; op = DotsF 0 Every } ∷
      record { charge = 0; op = ReturnF 0 Every } ∷
      record { charge = 0; op = ReturnF 0 (Exactly 0) } ∷ [];
  lines = 0 ∷ 0 ∷ 0 ∷ [];
}

abbrev pub ProtectedFlatAlike : Type 0
ProtectedFlatAlike = flat_invoke (codes "X") 131 protected_code (protected_flat_0 ∷ protected_flat_1 ∷ protected_flat_2 ∷ []) 6000 ≡ run.invoke_module (codes "X") 131 protected_code 6000

abbrev pub arithmetic_handlers_flat_0 : FlatFunction
arithmetic_handlers_flat_0 = record {
  flags = [];
  dots = false;
  registers = 2;
  steps =
      record { charge = 2; op = TableF 0 } ∷
      record { charge = 2; op = ClosureF 1 1 [] } ∷
      record { charge = 0; op = SetFieldF 0 (TextO 0) (RegisterO 1) } ∷
      record { charge = 0; op = ReturnF 0 (Exactly 1) } ∷
      record { charge = 0; op = ReturnF 0 (Exactly 0) } ∷ [];
  lines = 0 ∷ 0 ∷ 1 ∷ 0 ∷ 0 ∷ [];
}

abbrev pub arithmetic_handlers_flat_1 : FlatFunction
arithmetic_handlers_flat_1 = record {
  flags = [];
  dots = true;
  registers = 7;
  steps =
      record { charge = 2; op = TableF 0 } ∷
      record { charge = 2; op = ClosureF 1 2 [] } ∷
      record { charge = 0; op = SetFieldF 0 (TextO 1) (RegisterO 1) } ∷
      record { charge = 2; op = ClosureF 1 3 [] } ∷
      record { charge = 0; op = SetFieldF 0 (TextO 2) (RegisterO 1) } ∷
      record { charge = 2; op = ClosureF 1 4 [] } ∷
      record { charge = 0; op = SetFieldF 0 (TextO 3) (RegisterO 1) } ∷
      record { charge = 3; op = GetGlobalF 1 4 } ∷
      record { charge = 1; op = TableF 2 } ∷
      record { charge = 1; op = LoadF 3 (RegisterO 0) } ∷
      record { charge = 0; op = CallF 1 1 (Exactly 2) (Exactly 1) } ∷
      record { charge = 4; op = OperateF (Calculate Add) 2 (RegisterO 1) (ConstantO (Number (pos 1))) } ∷
      record { charge = 3; op = OperateF (Calculate Add) 3 (ConstantO (Number (pos 1))) (RegisterO 1) } ∷
      record { charge = 3; op = OperateF Concatenate 4 (RegisterO 1) (TextO 5) } ∷
      record { charge = 3; op = OperateF Concatenate 5 (TextO 5) (RegisterO 1) } ∷
      record { charge = 2; op = UnaryF sign.Minus 6 (RegisterO 1) } ∷
      record { charge = 0; op = ReturnF 2 (Exactly 5) } ∷
      record { charge = 0; op = ReturnF 0 (Exactly 0) } ∷ [];
  lines = 0 ∷ 0 ∷ 2 ∷ 0 ∷ 2 ∷ 0 ∷ 2 ∷ 3 ∷ 0 ∷ 0 ∷ 3 ∷ 4 ∷ 4 ∷ 4 ∷ 4 ∷ 4 ∷ 0 ∷ 0 ∷ [];
}

abbrev pub arithmetic_handlers_flat_2 : FlatFunction
arithmetic_handlers_flat_2 = record {
  flags = (false ∷ false ∷ []);
  dots = false;
  registers = 3;
  steps =
      record { charge = 2; op = LoadF 2 (TextO 6) } ∷
      record { charge = 0; op = ReturnF 2 (Exactly 1) } ∷
      record { charge = 0; op = ReturnF 0 (Exactly 0) } ∷ [];
  lines = 0 ∷ 0 ∷ 0 ∷ [];
}

abbrev pub arithmetic_handlers_flat_3 : FlatFunction
arithmetic_handlers_flat_3 = record {
  flags = (false ∷ false ∷ []);
  dots = false;
  registers = 7;
  steps =
      record { charge = 4; op = GetGlobalF 4 7 } ∷
      record { charge = 1; op = LoadF 5 (RegisterO 0) } ∷
      record { charge = 0; op = CallF 3 4 (Exactly 1) (Exactly 1) } ∷
      record { charge = 2; op = GetGlobalF 5 7 } ∷
      record { charge = 1; op = LoadF 6 (RegisterO 1) } ∷
      record { charge = 0; op = CallF 4 5 (Exactly 1) (Exactly 1) } ∷
      record { charge = 0; op = OperateF Concatenate 2 (RegisterO 3) (RegisterO 4) } ∷
      record { charge = 0; op = ReturnF 2 (Exactly 1) } ∷
      record { charge = 0; op = ReturnF 0 (Exactly 0) } ∷ [];
  lines = 2 ∷ 0 ∷ 2 ∷ 2 ∷ 0 ∷ 2 ∷ 2 ∷ 0 ∷ 0 ∷ [];
}

abbrev pub arithmetic_handlers_flat_4 : FlatFunction
arithmetic_handlers_flat_4 = record {
  flags = (false ∷ false ∷ []);
  dots = false;
  registers = 4;
  steps =
      record { charge = 3; op = GetGlobalF 2 8 } ∷
      record { charge = 3; op = OperateF Equal 3 (RegisterO 0) (RegisterO 1) } ∷
      record { charge = 0; op = CallF 2 2 (Exactly 1) Every } ∷
      record { charge = 0; op = ReturnF 2 Every } ∷
      record { charge = 0; op = ReturnF 0 (Exactly 0) } ∷ [];
  lines = 2 ∷ 2 ∷ 2 ∷ 0 ∷ 0 ∷ [];
}

abbrev pub ArithmeticHandlersFlatAlike : Type 0
ArithmeticHandlersFlatAlike = flat_invoke (codes "X") 231 arithmetic_handlers_code (arithmetic_handlers_flat_0 ∷ arithmetic_handlers_flat_1 ∷ arithmetic_handlers_flat_2 ∷ arithmetic_handlers_flat_3 ∷ arithmetic_handlers_flat_4 ∷ []) 6000 ≡ run.invoke_module (codes "X") 231 arithmetic_handlers_code 6000

abbrev pub error_handlers_flat_0 : FlatFunction
error_handlers_flat_0 = record {
  flags = [];
  dots = false;
  registers = 2;
  steps =
      record { charge = 2; op = TableF 0 } ∷
      record { charge = 2; op = ClosureF 1 1 [] } ∷
      record { charge = 0; op = SetFieldF 0 (TextO 0) (RegisterO 1) } ∷
      record { charge = 0; op = ReturnF 0 (Exactly 1) } ∷
      record { charge = 0; op = ReturnF 0 (Exactly 0) } ∷ [];
  lines = 0 ∷ 0 ∷ 1 ∷ 0 ∷ 0 ∷ [];
}

abbrev pub error_handlers_flat_1 : FlatFunction
error_handlers_flat_1 = record {
  flags = [];
  dots = true;
  registers = 10;
  steps =
      record { charge = 1; op = NamedF false 0 2 [] } ∷
      record { charge = 3; op = GetGlobalF 1 1 } ∷
      record { charge = 1; op = ClosureF 2 3 [] } ∷
      record { charge = 1; op = LoadF 3 (RegisterO 0) } ∷
      record { charge = 0; op = CallF 1 1 (Exactly 2) (Exactly 2) } ∷
      record { charge = 3; op = GetGlobalF 3 1 } ∷
      record { charge = 1; op = ClosureF 4 4 [] } ∷
      record { charge = 1; op = LoadF 5 (RegisterO 0) } ∷
      record { charge = 0; op = CallF 3 3 (Exactly 2) (Exactly 2) } ∷
      record { charge = 3; op = GetGlobalF 6 2 } ∷
      record { charge = 1; op = LoadF 7 (RegisterO 1) } ∷
      record { charge = 0; op = CallF 5 6 (Exactly 1) (Exactly 1) } ∷
      record { charge = 1; op = LoadF 6 (RegisterO 2) } ∷
      record { charge = 2; op = GetGlobalF 8 2 } ∷
      record { charge = 1; op = LoadF 9 (RegisterO 3) } ∷
      record { charge = 0; op = CallF 7 8 (Exactly 1) (Exactly 1) } ∷
      record { charge = 1; op = LoadF 8 (RegisterO 4) } ∷
      record { charge = 0; op = ReturnF 5 (Exactly 4) } ∷
      record { charge = 0; op = ReturnF 0 (Exactly 0) } ∷ [];
  lines = 0 ∷ 3 ∷ 0 ∷ 0 ∷ 3 ∷ 4 ∷ 0 ∷ 0 ∷ 4 ∷ 5 ∷ 0 ∷ 5 ∷ 0 ∷ 5 ∷ 0 ∷ 5 ∷ 0 ∷ 0 ∷ 0 ∷ [];
}

abbrev pub error_handlers_flat_2 : FlatFunction
error_handlers_flat_2 = record {
  flags = (false ∷ []);
  dots = false;
  registers = 3;
  steps =
      record { charge = 6; op = OperateF Concatenate 2 (RegisterO 0) (TextO 4) } ∷
      record { charge = 0; op = OperateF Concatenate 1 (TextO 3) (RegisterO 2) } ∷
      record { charge = 0; op = ReturnF 1 (Exactly 1) } ∷
      record { charge = 0; op = ReturnF 0 (Exactly 0) } ∷ [];
  lines = 2 ∷ 2 ∷ 0 ∷ 0 ∷ [];
}

abbrev pub error_handlers_flat_3 : FlatFunction
error_handlers_flat_3 = record {
  flags = [];
  dots = false;
  registers = 3;
  steps =
      record { charge = 3; op = GetGlobalF 0 5 } ∷
      record { charge = 1; op = LoadF 1 (TextO 6) } ∷
      record { charge = 1; op = LoadF 2 (ConstantO (Number (pos 0))) } ∷
      record { charge = 0; op = CallF 0 0 (Exactly 2) (Exactly 0) } ∷
      record { charge = 0; op = ReturnF 0 (Exactly 0) } ∷ [];
  lines = 3 ∷ 0 ∷ 0 ∷ 3 ∷ 0 ∷ [];
}

abbrev pub error_handlers_flat_4 : FlatFunction
error_handlers_flat_4 = record {
  flags = [];
  dots = false;
  registers = 1;
  steps =
      record { charge = 2; op = LoadF 0 (ConstantO (Number (pos 5))) } ∷
      record { charge = 0; op = ReturnF 0 (Exactly 1) } ∷
      record { charge = 0; op = ReturnF 0 (Exactly 0) } ∷ [];
  lines = 0 ∷ 0 ∷ 0 ∷ [];
}

abbrev pub ErrorHandlersFlatAlike : Type 0
ErrorHandlersFlatAlike = flat_invoke (codes "X") 211 error_handlers_code (error_handlers_flat_0 ∷ error_handlers_flat_1 ∷ error_handlers_flat_2 ∷ error_handlers_flat_3 ∷ error_handlers_flat_4 ∷ []) 6000 ≡ run.invoke_module (codes "X") 211 error_handlers_code 6000

abbrev pub new_index_flat_0 : FlatFunction
new_index_flat_0 = record {
  flags = [];
  dots = false;
  registers = 2;
  steps =
      record { charge = 2; op = TableF 0 } ∷
      record { charge = 2; op = ClosureF 1 1 [] } ∷
      record { charge = 0; op = SetFieldF 0 (TextO 0) (RegisterO 1) } ∷
      record { charge = 0; op = ReturnF 0 (Exactly 1) } ∷
      record { charge = 0; op = ReturnF 0 (Exactly 0) } ∷ [];
  lines = 0 ∷ 0 ∷ 1 ∷ 0 ∷ 0 ∷ [];
}

abbrev pub new_index_flat_1 : FlatFunction
new_index_flat_1 = record {
  flags = [];
  dots = true;
  registers = 12;
  steps =
      record { charge = 2; op = LoadF 0 (TextO 1) } ∷
      record { charge = 0; op = OpenF 0 (true ∷ []) } ∷
      record { charge = 2; op = TableF 1 } ∷
      record { charge = 3; op = GetGlobalF 2 2 } ∷
      record { charge = 1; op = TableF 3 } ∷
      record { charge = 2; op = SetFieldF 3 (TextO 3) (ConstantO (Number (pos 1))) } ∷
      record { charge = 1; op = TableF 4 } ∷
      record { charge = 2; op = ClosureF 5 2 ((InRegister 0) ∷ []) } ∷
      record { charge = 0; op = SetFieldF 4 (TextO 4) (RegisterO 5) } ∷
      record { charge = 0; op = CallF 2 2 (Exactly 2) (Exactly 1) } ∷
      record { charge = 3; op = GetGlobalF 3 2 } ∷
      record { charge = 1; op = TableF 4 } ∷
      record { charge = 1; op = TableF 5 } ∷
      record { charge = 2; op = SetFieldF 5 (TextO 4) (RegisterO 1) } ∷
      record { charge = 0; op = CallF 3 3 (Exactly 2) (Exactly 1) } ∷
      record { charge = 5; op = SetIndexF (RegisterO 2) (TextO 3) (ConstantO (Number (pos 2))) } ∷
      record { charge = 5; op = SetIndexF (RegisterO 2) (TextO 5) (ConstantO (Number (pos 3))) } ∷
      record { charge = 5; op = SetIndexF (RegisterO 2) (TextO 5) (ConstantO (Number (pos 4))) } ∷
      record { charge = 5; op = SetIndexF (RegisterO 3) (TextO 6) (ConstantO (Number (pos 5))) } ∷
      record { charge = 2; op = GetCellF 4 0 } ∷
      record { charge = 3; op = IndexF 5 (RegisterO 2) (TextO 3) } ∷
      record { charge = 3; op = IndexF 6 (RegisterO 2) (TextO 5) } ∷
      record { charge = 2; op = GetGlobalF 8 7 } ∷
      record { charge = 2; op = GetGlobalF 9 8 } ∷
      record { charge = 1; op = LoadF 10 (RegisterO 3) } ∷
      record { charge = 1; op = LoadF 11 (TextO 6) } ∷
      record { charge = 0; op = CallF 9 9 (Exactly 2) Every } ∷
      record { charge = 0; op = CallF 7 8 Every (Exactly 1) } ∷
      record { charge = 3; op = IndexF 8 (RegisterO 1) (TextO 6) } ∷
      record { charge = 0; op = ReturnF 4 (Exactly 5) } ∷
      record { charge = 0; op = ReturnF 0 (Exactly 0) } ∷ [];
  lines = 0 ∷ 0 ∷ 0 ∷ 4 ∷ 0 ∷ 4 ∷ 0 ∷ 0 ∷ 4 ∷ 4 ∷ 5 ∷ 0 ∷ 0 ∷ 5 ∷ 5 ∷ 6 ∷ 6 ∷ 6 ∷ 6 ∷ 0 ∷ 7 ∷ 7 ∷ 7 ∷ 7 ∷ 0 ∷ 0 ∷ 7 ∷ 7 ∷ 7 ∷ 0 ∷ 0 ∷ [];
}

abbrev pub new_index_flat_2 : FlatFunction
new_index_flat_2 = record {
  flags = (false ∷ false ∷ false ∷ []);
  dots = false;
  registers = 7;
  steps =
      record { charge = 3; op = GetUpF 4 0 } ∷
      record { charge = 1; op = OperateF Concatenate 3 (RegisterO 4) (RegisterO 1) } ∷
      record { charge = 0; op = SetUpF 0 (RegisterO 3) } ∷
      record { charge = 3; op = GetGlobalF 3 9 } ∷
      record { charge = 1; op = LoadF 4 (RegisterO 0) } ∷
      record { charge = 1; op = LoadF 5 (RegisterO 1) } ∷
      record { charge = 1; op = LoadF 6 (RegisterO 2) } ∷
      record { charge = 0; op = CallF 3 3 (Exactly 3) (Exactly 0) } ∷
      record { charge = 0; op = ReturnF 0 (Exactly 0) } ∷ [];
  lines = 0 ∷ 4 ∷ 0 ∷ 4 ∷ 0 ∷ 0 ∷ 0 ∷ 4 ∷ 0 ∷ [];
}

abbrev pub NewIndexFlatAlike : Type 0
NewIndexFlatAlike = flat_invoke (codes "X") 273 new_index_code (new_index_flat_0 ∷ new_index_flat_1 ∷ new_index_flat_2 ∷ []) 6000 ≡ run.invoke_module (codes "X") 273 new_index_code 6000

abbrev pub call_handlers_flat_0 : FlatFunction
call_handlers_flat_0 = record {
  flags = [];
  dots = false;
  registers = 2;
  steps =
      record { charge = 2; op = TableF 0 } ∷
      record { charge = 2; op = ClosureF 1 1 [] } ∷
      record { charge = 0; op = SetFieldF 0 (TextO 0) (RegisterO 1) } ∷
      record { charge = 0; op = ReturnF 0 (Exactly 1) } ∷
      record { charge = 0; op = ReturnF 0 (Exactly 0) } ∷ [];
  lines = 0 ∷ 0 ∷ 1 ∷ 0 ∷ 0 ∷ [];
}

abbrev pub call_handlers_flat_1 : FlatFunction
call_handlers_flat_1 = record {
  flags = [];
  dots = true;
  registers = 6;
  steps =
      record { charge = 3; op = GetGlobalF 0 1 } ∷
      record { charge = 1; op = TableF 1 } ∷
      record { charge = 2; op = SetFieldF 1 (TextO 2) (ConstantO (Number (pos 2))) } ∷
      record { charge = 1; op = TableF 2 } ∷
      record { charge = 2; op = ClosureF 3 2 [] } ∷
      record { charge = 0; op = SetFieldF 2 (TextO 3) (RegisterO 3) } ∷
      record { charge = 0; op = CallF 0 0 (Exactly 2) (Exactly 1) } ∷
      record { charge = 3; op = LoadF 2 (RegisterO 0) } ∷
      record { charge = 1; op = LoadF 3 (ConstantO (Number (pos 3))) } ∷
      record { charge = 1; op = LoadF 4 (ConstantO (Number (pos 4))) } ∷
      record { charge = 0; op = CallF 1 2 (Exactly 2) (Exactly 1) } ∷
      record { charge = 2; op = GetGlobalF 2 4 } ∷
      record { charge = 1; op = LoadF 3 (RegisterO 0) } ∷
      record { charge = 1; op = LoadF 4 (ConstantO (Number (pos 1))) } ∷
      record { charge = 1; op = LoadF 5 (ConstantO (Number (pos 1))) } ∷
      record { charge = 0; op = CallF 2 2 (Exactly 3) Every } ∷
      record { charge = 0; op = ReturnF 1 Every } ∷
      record { charge = 0; op = ReturnF 0 (Exactly 0) } ∷ [];
  lines = 2 ∷ 0 ∷ 2 ∷ 0 ∷ 0 ∷ 2 ∷ 2 ∷ 0 ∷ 0 ∷ 0 ∷ 3 ∷ 3 ∷ 0 ∷ 0 ∷ 0 ∷ 3 ∷ 0 ∷ 0 ∷ [];
}

abbrev pub call_handlers_flat_2 : FlatFunction
call_handlers_flat_2 = record {
  flags = (false ∷ false ∷ false ∷ []);
  dots = false;
  registers = 6;
  steps =
      record { charge = 6; op = IndexF 5 (RegisterO 0) (TextO 2) } ∷
      record { charge = 1; op = OperateF (Calculate Add) 4 (RegisterO 5) (RegisterO 1) } ∷
      record { charge = 1; op = OperateF (Calculate Add) 3 (RegisterO 4) (RegisterO 2) } ∷
      record { charge = 0; op = ReturnF 3 (Exactly 1) } ∷
      record { charge = 0; op = ReturnF 0 (Exactly 0) } ∷ [];
  lines = 2 ∷ 2 ∷ 2 ∷ 0 ∷ 0 ∷ [];
}

abbrev pub CallHandlersFlatAlike : Type 0
CallHandlersFlatAlike = flat_invoke (codes "X") 133 call_handlers_code (call_handlers_flat_0 ∷ call_handlers_flat_1 ∷ call_handlers_flat_2 ∷ []) 6000 ≡ run.invoke_module (codes "X") 133 call_handlers_code 6000

abbrev pub ProtectedIsFlat : Type 0
ProtectedIsFlat = IsFlatFunction protected_0 protected_flat_0 × IsFlatFunction protected_1 protected_flat_1 × IsFlatFunction protected_2 protected_flat_2

abbrev pub ArithmeticHandlersIsFlat : Type 0
ArithmeticHandlersIsFlat = IsFlatFunction arithmetic_handlers_0 arithmetic_handlers_flat_0 × IsFlatFunction arithmetic_handlers_1 arithmetic_handlers_flat_1 × IsFlatFunction arithmetic_handlers_2 arithmetic_handlers_flat_2 × IsFlatFunction arithmetic_handlers_3 arithmetic_handlers_flat_3 × IsFlatFunction arithmetic_handlers_4 arithmetic_handlers_flat_4

abbrev pub ErrorHandlersIsFlat : Type 0
ErrorHandlersIsFlat = IsFlatFunction error_handlers_0 error_handlers_flat_0 × IsFlatFunction error_handlers_1 error_handlers_flat_1 × IsFlatFunction error_handlers_2 error_handlers_flat_2 × IsFlatFunction error_handlers_3 error_handlers_flat_3 × IsFlatFunction error_handlers_4 error_handlers_flat_4

abbrev pub NewIndexIsFlat : Type 0
NewIndexIsFlat = IsFlatFunction new_index_0 new_index_flat_0 × IsFlatFunction new_index_1 new_index_flat_1 × IsFlatFunction new_index_2 new_index_flat_2

abbrev pub CallHandlersIsFlat : Type 0
CallHandlersIsFlat = IsFlatFunction call_handlers_0 call_handlers_flat_0 × IsFlatFunction call_handlers_1 call_handlers_flat_1 × IsFlatFunction call_handlers_2 call_handlers_flat_2

-- all of these
abbrev pub AllExampleCalls : Type 0
AllExampleCalls = ProtectedFlatAlike × ArithmeticHandlersFlatAlike × ErrorHandlersFlatAlike × NewIndexFlatAlike × CallHandlersFlatAlike

abbrev pub AllFlatExampleCalls : Type 0
AllFlatExampleCalls = ProtectedIsFlat × ArithmeticHandlersIsFlat × ErrorHandlersIsFlat × NewIndexIsFlat × CallHandlersIsFlat
