-- THE FUNCTIONS of the library that make iterators, and the steps of these; and what each gives.
use Rattle.std.specs.Prelude.{◌≡◌, ℕ, List, Option, Some, None}
use Rattle.lua_string.specs.LuaPatternTexts.{bytes, points}
use Rattle.lua_strings.specs.LuaHeapProc.{Proc}
use Rattle.lua_strings.specs.LuaHeapValue.{Value}
use Rattle.lua_strings.specs.LuaHeapHeap.{Heap}
use Rattle.lua_strings.specs.LuaHeapDeclaredLibraryLibrary.{Library}
use Rattle.lua_strings.specs.LuaHeapDeclaredLibraryLibraryTheVariants.{StringGmatch, UstringGmatch, UstringGcodepoint, TextGsplit, GmatchStep, UstringGmatchStep, GcodepointStep, GsplitStep}
use Rattle.lua_strings.specs.LuaMeaningWorld.{World}
use Rattle.lua_strings.specs.LuaMeaningActs.{Frame}
use Rattle.lua_strings.specs.LuaMeaningArguments.{Plain, with_charge, text_charge}
use Rattle.lua_strings.specs.LuaMeaningIterators.{Cells, iterator_step, match_step, point_step, part_step, gmatch, ustring_gmatch, gcodepoint, gsplit}
use Rattle.lua_strings.specs.LuaMeaningLibraries.{Answers, form}
use Rattle.lua_iterators.specs.declared.table.Maker.{Maker}
use Rattle.lua_iterators.specs.declared.table.Maker.TheVariants as maker
use Rattle.lua_iterators.specs.declared.table.Stepper.{Stepper}
use Rattle.lua_iterators.specs.declared.table.Stepper.TheVariants as stepper
use Rattle.lua_iterators.specs.declared.table.IteratorFunction.{IteratorFunction}
use Rattle.lua_iterators.specs.declared.table.IteratorFunction.TheVariants as own

abbrev pub iterator_function_in : Library → Option IteratorFunction
iterator_function_in StringGmatch = Some (own.Makes maker.Gmatch)
iterator_function_in UstringGmatch = Some (own.Makes maker.UstringGmatch)
iterator_function_in UstringGcodepoint = Some (own.Makes maker.Gcodepoint)
iterator_function_in TextGsplit = Some (own.Makes maker.Gsplit)
iterator_function_in GmatchStep = Some (own.Steps stepper.Gmatch)
iterator_function_in UstringGmatchStep = Some (own.Steps stepper.UstringGmatch)
iterator_function_in GcodepointStep = Some (own.Steps stepper.Gcodepoint)
iterator_function_in GsplitStep = Some (own.Steps stepper.Gsplit)
iterator_function_in which = None

-- what a step does with the cells of its iterator
abbrev pub step_of : {X : Type 0} → Stepper → Cells → Heap X → Plain X
step_of stepper.Gmatch c h = match_step bytes c h
step_of stepper.UstringGmatch c h = match_step points c h
step_of stepper.Gcodepoint c h = point_step c h
step_of stepper.Gsplit c h = part_step c h

abbrev pub made_by : {X : Type 0} → Maker → List Value → Heap X → Plain X
made_by maker.Gmatch args h = gmatch args h
made_by maker.UstringGmatch args h = ustring_gmatch args h
made_by maker.Gcodepoint args h = gcodepoint args h
made_by maker.Gsplit args h = gsplit args h

-- behind the charge of the arguments
abbrev pub given_by : {X : Type 0} → IteratorFunction → List Value → Heap X → Plain X
given_by (own.Makes m) args h = made_by m args h
given_by (own.Steps s) args h = iterator_step (step_of s) args h

-- what the arguments cost: the bytes of those that are strings, but in `string` nothing
abbrev pub args_charge : IteratorFunction → List Value → ℕ
args_charge (own.Makes maker.Gmatch) args = 0
args_charge (own.Steps stepper.Gmatch) args = 0
args_charge f args = text_charge args

abbrev pub answer_of : {X : Type 0} → IteratorFunction → List Value → Heap X → Plain X
answer_of f args h = with_charge (args_charge f args) (given_by f args h)

-- each is a line of the table of the library
abbrev pub AreInTable : Type 0
AreInTable = (which : Library) (f : IteratorFunction) → iterator_function_in which ≡ Some f → (world : World) (args : List Value) (h : Heap Proc) (frames : List Frame)
    → form world which args h frames ≡ Answers (answer_of f args h)
