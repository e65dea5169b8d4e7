-- CODE OF SMALL MODULES, and what comes of it: the same as of their trees, to the step. Each text is an example of the meaning, where
-- the values stand that come from outside.
use Rattle.std.specs.Prelude.{◌≡◌, pos, true, false, [], ◌∷◌, codes}
use Rattle.lua_meaning.specs.LuaSyntaxDeclaredUnaryOpTheVariants as sign
use Rattle.lua_meaning.specs.LuaHeapValue.{Nil, Truth, Number}
use Rattle.lua_meaning.specs.Operators.{Add, Less, AtLeast, Equal, Concatenate, Calculate}
use Rattle.lua_meaning.specs.Trial.{invoke_module}
use Rattle.lua_slots.specs.Code.{Reg, Box, Up, ConstantC, TextC, FunctionC, LocalC, GlobalC, IndexC, CallC, TableC, AndC, OrC, OperateC, UnaryC}
use Rattle.lua_slots.specs.Code.{NoC, MoreC, NoFieldC, ItemC, PairC, PlaceC, EntryC}
use Rattle.lua_slots.specs.Code.{AssignC, RepeatC, IfElseC, CountC, ReturnC, EndC, DeclareC, LocalFunctionC, ThenC, NoArmC, ArmC, CProto, Protos}
use Rattle.lua_slots.specs.IsCode.{IsProtos}
use Rattle.lua_slots.specs.Trial.{code_with}
use Rattle.lua_slots.specs.Trial as run
use Rattle.lua_meaning.specs.ExampleCharges.{cells}
use Rattle.lua_meaning.specs.ExampleStatements.{repeat_loop, branches, constructors}
use Rattle.lua_meaning.specs.ExampleValues.{and_or}

-- Each turn of a loop has variables of its own, which closures keep.
--     local p={} function p.f() local fs={} for i=1,3 do fs[i]=function() i=i+10 return i end end return fs[1]()..fs[1]()..fs[2]() end return p
abbrev pub cells_0 : CProto
cells_0 = record {
  flags = [];
  dots = false;
  body =
      (DeclareC (false ∷ []) (MoreC (TableC NoFieldC 1) NoC)
      (ThenC (AssignC (EntryC (LocalC (Reg 0)) (TextC 0) 1 ∷ []) (MoreC (FunctionC 1 []) NoC))
      (ThenC (ReturnC (MoreC (LocalC (Reg 0)) NoC)) EndC)));
}

abbrev pub cells_1 : CProto
cells_1 = record {
  flags = [];
  dots = false;
  body =
      (DeclareC (false ∷ []) (MoreC (TableC NoFieldC 1) NoC)
      (ThenC (CountC true (ConstantC (Number (pos 1))) (ConstantC (Number (pos 3)))
      (ThenC (AssignC (EntryC (LocalC (Reg 1)) (LocalC (Box 0)) 1 ∷ []) (MoreC (FunctionC 2 ((Box 0) ∷ [])) NoC)) EndC) 1)
      (ThenC (ReturnC (MoreC (OperateC Concatenate (CallC (IndexC (LocalC (Reg 0)) (ConstantC (Number (pos 1))) 1) NoC 1) (OperateC Concatenate
      (CallC (IndexC (LocalC (Reg 0)) (ConstantC (Number (pos 1))) 1) NoC 1) (CallC (IndexC (LocalC (Reg 0)) (ConstantC (Number (pos 2))) 1) NoC
      1) 1) 1) NoC)) EndC)));
}

abbrev pub cells_2 : CProto
cells_2 = record {
  flags = [];
  dots = false;
  body =
      (ThenC (AssignC (PlaceC (Up 0) ∷ []) (MoreC (OperateC (Calculate Add) (LocalC (Up 0)) (ConstantC (Number (pos 10))) 1) NoC))
      (ThenC (ReturnC (MoreC (LocalC (Up 0)) NoC)) EndC));
}

abbrev pub cells_code : Protos
cells_code = code_with (codes "f" ∷ []) (cells_0 ∷ cells_1 ∷ cells_2 ∷ [])

abbrev pub CellsIsCode : Type 0
CellsIsCode = IsProtos cells_code cells

abbrev pub CellsAlike : Type 0
CellsAlike = run.invoke_module (codes "Slots") 137 cells_code 6000 ≡ invoke_module (codes "Slots") 137 cells 6000

-- The test of `repeat` sees the variables of the body.
--     return {f=function(...)
--     local n=0
--     repeat local done = n>=2 n=n+1 until done
--     return n
--     end}
abbrev pub repeat_loop_0 : CProto
repeat_loop_0 = record {
  flags = [];
  dots = false;
  body =
      (ThenC (ReturnC (MoreC (TableC (PairC (TextC 0) (FunctionC 1 []) NoFieldC) 1) NoC)) EndC);
}

abbrev pub repeat_loop_1 : CProto
repeat_loop_1 = record {
  flags = [];
  dots = true;
  body =
      (DeclareC (false ∷ []) (MoreC (ConstantC (Number (pos 0))) NoC)
      (ThenC (RepeatC
      (DeclareC (false ∷ []) (MoreC (OperateC AtLeast (LocalC (Reg 0)) (ConstantC (Number (pos 2))) 3) NoC)
      (ThenC (AssignC (PlaceC (Reg 1) ∷ []) (MoreC (OperateC (Calculate Add) (LocalC (Reg 1)) (ConstantC (Number (pos 1))) 3) NoC)) EndC)) (LocalC
      (Reg 0)))
      (ThenC (ReturnC (MoreC (LocalC (Reg 0)) NoC)) EndC)));
}

abbrev pub repeat_loop_code : Protos
repeat_loop_code = code_with (codes "f" ∷ []) (repeat_loop_0 ∷ repeat_loop_1 ∷ [])

abbrev pub RepeatLoopIsCode : Type 0
RepeatLoopIsCode = IsProtos repeat_loop_code repeat_loop

abbrev pub RepeatLoopAlike : Type 0
RepeatLoopAlike = run.invoke_module (codes "X") 89 repeat_loop_code 6000 ≡ invoke_module (codes "X") 89 repeat_loop 6000

-- The first branch whose test is true.
--     return {f=function(...)
--     local function sign(n) if n<0 then return 'neg' elseif n==0 then return 'zero' else return 'pos' end end
--     return sign(-1),sign(0),sign(1)
--     end}
abbrev pub branches_0 : CProto
branches_0 = record {
  flags = [];
  dots = false;
  body =
      (ThenC (ReturnC (MoreC (TableC (PairC (TextC 0) (FunctionC 1 []) NoFieldC) 1) NoC)) EndC);
}

abbrev pub branches_1 : CProto
branches_1 = record {
  flags = [];
  dots = true;
  body =
      (LocalFunctionC false 2 []
      (ThenC (ReturnC (MoreC (CallC (LocalC (Reg 0)) (MoreC (UnaryC sign.Minus (ConstantC (Number (pos 1))) 3) NoC) 3) (MoreC (CallC (LocalC (Reg
      0)) (MoreC (ConstantC (Number (pos 0))) NoC) 3) (MoreC (CallC (LocalC (Reg 0)) (MoreC (ConstantC (Number (pos 1))) NoC) 3) NoC)))) EndC));
}

abbrev pub branches_2 : CProto
branches_2 = record {
  flags = (false ∷ []);
  dots = false;
  body =
      (ThenC (IfElseC (ArmC (OperateC Less (LocalC (Reg 0)) (ConstantC (Number (pos 0))) 2)
      (ThenC (ReturnC (MoreC (TextC 1) NoC)) EndC) (ArmC (OperateC Equal (LocalC (Reg 0)) (ConstantC (Number (pos 0))) 2)
      (ThenC (ReturnC (MoreC (TextC 2) NoC)) EndC) NoArmC))
      (ThenC (ReturnC (MoreC (TextC 3) NoC)) EndC)) EndC);
}

abbrev pub branches_code : Protos
branches_code = code_with (codes "f" ∷ codes "neg" ∷ codes "zero" ∷ codes "pos" ∷ []) (branches_0 ∷ branches_1 ∷ branches_2 ∷ [])

abbrev pub BranchesIsCode : Type 0
BranchesIsCode = IsProtos branches_code branches

abbrev pub BranchesAlike : Type 0
BranchesAlike = run.invoke_module (codes "X") 165 branches_code 6000 ≡ invoke_module (codes "X") 165 branches 6000

-- A constructor sets its fields in order, and its last item gives all its values.
--     return {f=function(...)
--     local function two() return 'p','q' end
--     local t={two(),two(),['k']=1,x=2;two()}
--     return #t,t[1],t[2],t[3],t[4],t.k,t.x
--     end}
abbrev pub constructors_0 : CProto
constructors_0 = record {
  flags = [];
  dots = false;
  body =
      (ThenC (ReturnC (MoreC (TableC (PairC (TextC 0) (FunctionC 1 []) NoFieldC) 1) NoC)) EndC);
}

abbrev pub constructors_1 : CProto
constructors_1 = record {
  flags = [];
  dots = true;
  body =
      (LocalFunctionC false 2 []
      (DeclareC (false ∷ []) (MoreC (TableC (ItemC (CallC (LocalC (Reg 0)) NoC 3) (ItemC (CallC (LocalC (Reg 0)) NoC 3) (PairC (TextC 1)
      (ConstantC (Number (pos 1))) (PairC (TextC 2) (ConstantC (Number (pos 2))) (ItemC (CallC (LocalC (Reg 0)) NoC 3) NoFieldC))))) 3) NoC)
      (ThenC (ReturnC (MoreC (UnaryC sign.Len (LocalC (Reg 0)) 4) (MoreC (IndexC (LocalC (Reg 0)) (ConstantC (Number (pos 1))) 4) (MoreC (IndexC
      (LocalC (Reg 0)) (ConstantC (Number (pos 2))) 4) (MoreC (IndexC (LocalC (Reg 0)) (ConstantC (Number (pos 3))) 4) (MoreC (IndexC (LocalC (Reg
      0)) (ConstantC (Number (pos 4))) 4) (MoreC (IndexC (LocalC (Reg 0)) (TextC 1) 4) (MoreC (IndexC (LocalC (Reg 0)) (TextC 2) 4) NoC))))))))
      EndC)));
}

abbrev pub constructors_2 : CProto
constructors_2 = record {
  flags = [];
  dots = false;
  body =
      (ThenC (ReturnC (MoreC (TextC 3) (MoreC (TextC 4) NoC))) EndC);
}

abbrev pub constructors_code : Protos
constructors_code =
    code_with
    (codes "f" ∷ codes "k" ∷ codes "x" ∷ codes "p" ∷ codes "q" ∷ [])
    (constructors_0 ∷ constructors_1 ∷ constructors_2 ∷ [])

abbrev pub ConstructorsIsCode : Type 0
ConstructorsIsCode = IsProtos constructors_code constructors

abbrev pub ConstructorsAlike : Type 0
ConstructorsAlike = run.invoke_module (codes "X") 146 constructors_code 6000 ≡ invoke_module (codes "X") 146 constructors 6000

-- `and` and `or` give an operand.
--     return {f=function(...)
--     return tostring(nil and 1), tostring(false or nil), 1 and 2, nil or 3, false and error('x') or 'y'
--     end}
abbrev pub and_or_0 : CProto
and_or_0 = record {
  flags = [];
  dots = false;
  body =
      (ThenC (ReturnC (MoreC (TableC (PairC (TextC 0) (FunctionC 1 []) NoFieldC) 1) NoC)) EndC);
}

abbrev pub and_or_1 : CProto
and_or_1 = record {
  flags = [];
  dots = true;
  body =
      (ThenC (ReturnC (MoreC (CallC (GlobalC 1 2) (MoreC (AndC (ConstantC Nil) (ConstantC (Number (pos 1)))) NoC) 2) (MoreC (CallC (GlobalC 1 2)
      (MoreC (OrC (ConstantC (Truth false)) (ConstantC Nil)) NoC) 2) (MoreC (AndC (ConstantC (Number (pos 1))) (ConstantC (Number (pos 2))))
      (MoreC (OrC (ConstantC Nil) (ConstantC (Number (pos 3)))) (MoreC (OrC (AndC (ConstantC (Truth false)) (CallC (GlobalC 2 2) (MoreC (TextC 3)
      NoC) 2)) (TextC 4)) NoC)))))) EndC);
}

abbrev pub and_or_code : Protos
and_or_code = code_with (codes "f" ∷ codes "tostring" ∷ codes "error" ∷ codes "x" ∷ codes "y" ∷ []) (and_or_0 ∷ and_or_1 ∷ [])

abbrev pub AndOrIsCode : Type 0
AndOrIsCode = IsProtos and_or_code and_or

abbrev pub AndOrAlike : Type 0
AndOrAlike = run.invoke_module (codes "X") 127 and_or_code 6000 ≡ invoke_module (codes "X") 127 and_or 6000

-- all of these
abbrev pub AllCode : Type 0
AllCode = CellsIsCode × CellsAlike × RepeatLoopIsCode × RepeatLoopAlike × BranchesIsCode × BranchesAlike × ConstructorsIsCode × ConstructorsAlike × AndOrIsCode × AndOrAlike
