-- CALLS, and functions that are entered and left (manual 2.5.8, 2.5.9, and 2.8 under "call").
use Rattle.std.specs.Prelude.{ℕ, List, [], ◌∷◌, length, drop, Option, Some, None, if◌then◌else◌, codes, Result, Ok, Err}
use Rattle.lua_meaning.specs.LuaSyntaxDeclaredFaultFaultAt.{FaultAt}
use Rattle.lua_meaning.specs.LuaHeapProc.{Proc}
use Rattle.lua_meaning.specs.LuaHeapValue.{Value, Table, Closure, Builtin, is_nil}
use Rattle.lua_meaning.specs.LuaHeapHeap.{Closed, Function as FunctionClosed, Iterator, closure_at}
use Rattle.lua_meaning.specs.Scope.{Bytes}
use Rattle.lua_meaning.specs.Acts.{Jump, Returned}
use Rattle.lua_meaning.specs.Messages.{cannot_call}
use Rattle.lua_meaning.specs.Metatables.{handler}
use Rattle.lua_slots.specs.Code.{CProto, Constants, Protos, CModule, CWorld}
use Rattle.lua_slots.specs.Slots.{Activation, Slots, function_of, all_opened, cut}
use Rattle.lua_slots.specs.Points.{BodyS, LibraryS, CallLinkS, SFrame, BodyEnd, Runs, Starts, Move, Marks, Enters, Now}
use Rattle.lua_slots.specs.Errors.{choose, gives, jumps, fails}

-- WHAT IS CALLED begins as a thing
abbrev pub enter : Value → Option (Closed Proc) → List Value → Option ℕ → List SFrame → Slots → Move
enter f None args line fs s = fails line (cannot_call f) fs s
enter f (Some (FunctionClosed g)) args line fs s = Now (Starts (BodyS g args line) fs) s
enter f (Some (Iterator step cells)) args line fs s = Now (Starts (LibraryS step (f ∷ args) line) fs) s

abbrev pub call_by : Value → Value → List Value → Option ℕ → List SFrame → Slots → Move
call_by h v args line fs s = choose (is_nil h) (fails line (cannot_call v) fs s) (Now (Starts (CallLinkS h (v ∷ args) line) fs) s)

abbrev pub call : Value → List Value → Option ℕ → List SFrame → Slots → Move
call (Closure c) args line fs s = enter (Closure c) (closure_at s.heap c) args line fs s
call (Builtin b) args line fs s = Now (Starts (LibraryS b args line) fs) s
call (Table t) args line fs s = call_by (handler s.heap (Table t) (codes "__call")) (Table t) args line fs s
call v args line fs s = fails line (cannot_call v) fs s

-- A FUNCTION OF LUA IS ENTERED: its parameters are new variables; the arguments beyond them are its values of `...`, if it has them
abbrev pub activation : Proc → CProto → List Value → Option ℕ → Slots → Activation
activation f p args line s = record {
  cells = f.cells;
  dots = if p.dots then drop (length p.flags) args else [];
  source = f.title;
  called_at = line;
  base = length s.regs;
}

abbrev pub with_function : Activation → Slots → Slots
with_function a s = record s { functions = a ∷ s.functions }

abbrev pub slots_in_body : Proc → CProto → List Value → Option ℕ → Slots → Slots
slots_in_body f p args line s = all_opened p.flags args (with_function (activation f p args line s) s)

abbrev pub body_of : Option CProto → Proc → List Value → Option ℕ → List SFrame → Slots → Move
body_of None f args line fs s = gives [] fs s
body_of (Some p) f args line fs s = Enters (Marks (Now (Runs p.body (BodyEnd ∷ fs)) (slots_in_body f p args line s)))

-- the code of a module; one that is not there or has a fault has none
abbrev pub no_code : Protos
no_code = record { function = λ index. None; constant = λ number. [] }

abbrev pub code_in : Result Protos FaultAt → Protos
code_in (Ok at) = at
code_in (Err fault) = no_code

abbrev pub code_of : Option CModule → Protos
code_of (Some m) = code_in m.code
code_of None = no_code

abbrev pub enters_body : CWorld → Proc → List Value → Option ℕ → List SFrame → Slots → Move
enters_body world f args line fs s = body_of ((code_of (world.modules f.title)).function f.index) f args line fs s

-- the constants of the running function's module
abbrev pub constants_of : CWorld → Slots → Constants
constants_of world s = (code_of (world.modules (function_of s).source)).constant

-- THE TEXT OF A MODULE is a function without parameters (2.4.1), which no place of a text calls
abbrev pub text_of_module : Bytes → Proc
text_of_module source = record { title = source; index = 0; cells = [] }

-- A FUNCTION OF LUA IS LEFT: its registers are gone. It gives the values of its `return`, and none where it comes to its end.
abbrev pub rest_of : List Activation → List Activation
rest_of [] = []
rest_of (a ∷ more) = more

abbrev pub left_function : Slots → Slots
left_function s = record (cut (function_of s).base s) { functions = rest_of s.functions }

abbrev pub after_body : Jump → List SFrame → Slots → Move
after_body (Returned vs) fs s = gives vs fs s
after_body j fs s = jumps j fs s
