-- CODE OF MODULES WHOSE CLOSURES OUTLIVE WHAT MADE THEM, and what comes of it: the same as of their trees, to the step.
use Rattle.std.specs.Prelude.{◌≡◌, pos, true, false, [], ◌∷◌, codes}
use Rattle.lua_meaning.specs.LuaHeapValue.{Number}
use Rattle.lua_meaning.specs.Operators.{Add, AtMost, Calculate}
use Rattle.lua_meaning.specs.Trial.{invoke_module}
use Rattle.lua_meaning.specs.ExampleFunctions.{counters, while_cells}
use Rattle.lua_slots.specs.Code.{Reg, Box, Up, ConstantC, TextC, FunctionC, LocalC, IndexC, CallC, TableC, OperateC}
use Rattle.lua_slots.specs.Code.{NoC, MoreC, NoFieldC, PairC, PlaceC, EntryC}
use Rattle.lua_slots.specs.Code.{AssignC, CallStatC, WhileC, ReturnC, EndC, DeclareC, LocalFunctionC, ThenC, CProto, Protos}
use Rattle.lua_slots.specs.IsCode.{IsProtos}
use Rattle.lua_slots.specs.Trial.{code_with}
use Rattle.lua_slots.specs.Trial as run

-- Two closures of one call have one cell, and those of another call have another.
--     return {f=function(...)
--     local function make() local n=0 return function() n=n+1 return n end,function() return n end end
--     local inc,get = make()
--     local other = make()
--     inc() inc() other()
--     return get()
--     end}
abbrev pub counters_0 : CProto
counters_0 = record {
  flags = [];
  dots = false;
  body =
      (ThenC (ReturnC (MoreC (TableC (PairC (TextC 0) (FunctionC 1 []) NoFieldC) 1) NoC)) EndC);
}

abbrev pub counters_1 : CProto
counters_1 = record {
  flags = [];
  dots = true;
  body =
      (LocalFunctionC false 2 []
      (DeclareC (false ∷ false ∷ []) (MoreC (CallC (LocalC (Reg 0)) NoC 3) NoC)
      (DeclareC (false ∷ []) (MoreC (CallC (LocalC (Reg 2)) NoC 4) NoC)
      (ThenC (CallStatC (CallC (LocalC (Reg 2)) NoC 5))
      (ThenC (CallStatC (CallC (LocalC (Reg 2)) NoC 5))
      (ThenC (CallStatC (CallC (LocalC (Reg 0)) NoC 5))
      (ThenC (ReturnC (MoreC (CallC (LocalC (Reg 1)) NoC 6) NoC)) EndC)))))));
}

abbrev pub counters_2 : CProto
counters_2 = record {
  flags = [];
  dots = false;
  body =
      (DeclareC (true ∷ []) (MoreC (ConstantC (Number (pos 0))) NoC)
      (ThenC (ReturnC (MoreC (FunctionC 3 ((Box 0) ∷ [])) (MoreC (FunctionC 4 ((Box 0) ∷ [])) NoC))) EndC));
}

abbrev pub counters_3 : CProto
counters_3 = record {
  flags = [];
  dots = false;
  body =
      (ThenC (AssignC (PlaceC (Up 0) ∷ []) (MoreC (OperateC (Calculate Add) (LocalC (Up 0)) (ConstantC (Number (pos 1))) 2) NoC))
      (ThenC (ReturnC (MoreC (LocalC (Up 0)) NoC)) EndC));
}

abbrev pub counters_4 : CProto
counters_4 = record {
  flags = [];
  dots = false;
  body =
      (ThenC (ReturnC (MoreC (LocalC (Up 0)) NoC)) EndC);
}

abbrev pub counters_code : Protos
counters_code = code_with (codes "f" ∷ []) (counters_0 ∷ counters_1 ∷ counters_2 ∷ counters_3 ∷ counters_4 ∷ [])

abbrev pub CountersIsCode : Type 0
CountersIsCode = IsProtos counters_code counters

abbrev pub CountersAlike : Type 0
CountersAlike = run.invoke_module (codes "X") 202 counters_code 6000 ≡ invoke_module (codes "X") 202 counters 6000

-- Each turn of a loop with `while` has variables of its own, which closures keep.
--     return {f=function(...)
--     local fs={}
--     local i=1
--     while i<=2 do local j=i fs[i]=function() j=j+1 return j end i=i+1 end
--     return fs[1](),fs[1](),fs[2]()
--     end}
abbrev pub while_cells_0 : CProto
while_cells_0 = counters_0

abbrev pub while_cells_1 : CProto
while_cells_1 = record {
  flags = [];
  dots = true;
  body =
      (DeclareC (false ∷ []) (MoreC (TableC NoFieldC 2) NoC)
      (DeclareC (false ∷ []) (MoreC (ConstantC (Number (pos 1))) NoC)
      (ThenC (WhileC (OperateC AtMost (LocalC (Reg 0)) (ConstantC (Number (pos 2))) 4)
      (DeclareC (true ∷ []) (MoreC (LocalC (Reg 0)) NoC)
      (ThenC (AssignC (EntryC (LocalC (Reg 2)) (LocalC (Reg 1)) 4 ∷ []) (MoreC (FunctionC 2 ((Box 0) ∷ [])) NoC))
      (ThenC (AssignC (PlaceC (Reg 1) ∷ []) (MoreC (OperateC (Calculate Add) (LocalC (Reg 1)) (ConstantC (Number (pos 1))) 4) NoC)) EndC))))
      (ThenC (ReturnC (MoreC (CallC (IndexC (LocalC (Reg 1)) (ConstantC (Number (pos 1))) 5) NoC 5) (MoreC (CallC (IndexC (LocalC (Reg 1))
      (ConstantC (Number (pos 1))) 5) NoC 5) (MoreC (CallC (IndexC (LocalC (Reg 1)) (ConstantC (Number (pos 2))) 5) NoC 5) NoC)))) EndC))));
}

abbrev pub while_cells_2 : CProto
while_cells_2 = record {
  flags = [];
  dots = false;
  body =
      (ThenC (AssignC (PlaceC (Up 0) ∷ []) (MoreC (OperateC (Calculate Add) (LocalC (Up 0)) (ConstantC (Number (pos 1))) 4) NoC))
      (ThenC (ReturnC (MoreC (LocalC (Up 0)) NoC)) EndC));
}

abbrev pub while_cells_code : Protos
while_cells_code = code_with (codes "f" ∷ []) (while_cells_0 ∷ while_cells_1 ∷ while_cells_2 ∷ [])

abbrev pub WhileCellsIsCode : Type 0
WhileCellsIsCode = IsProtos while_cells_code while_cells

abbrev pub WhileCellsAlike : Type 0
WhileCellsAlike = run.invoke_module (codes "X") 151 while_cells_code 6000 ≡ invoke_module (codes "X") 151 while_cells 6000

-- all of these
abbrev pub AllClosures : Type 0
AllClosures = CountersIsCode × CountersAlike × WhileCellsIsCode × WhileCellsAlike
