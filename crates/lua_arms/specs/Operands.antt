-- Expressions whose operands are evaluated by themselves, and that name no constant.
use Rattle.lua_code.specs.LuaSlotsCode.{CExp, ConstantC, TextC, DotsC, FunctionC, LocalC, GlobalC, MethodC, TableC}

abbrev pub HasOperands : CExp → Type 0
HasOperands (ConstantC v) = ⊥
HasOperands (TextC constant) = ⊥
HasOperands DotsC = ⊥
HasOperands (FunctionC index places) = ⊥
HasOperands (LocalC place) = ⊥
HasOperands (GlobalC name line) = ⊥
HasOperands (MethodC of name arguments line) = ⊥
HasOperands (TableC fields line) = ⊥
HasOperands e = Unit {0}
