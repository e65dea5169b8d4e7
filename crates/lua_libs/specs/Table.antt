-- THE PLAIN FUNCTIONS, and what each gives: the lines of the meaning's table that answer at once.
use Rattle.std.specs.Prelude.{◌≡◌, List, Option, Some, None}
use Rattle.lua_basic.specs.LuaHeapProc.{Proc}
use Rattle.lua_basic.specs.LuaHeapValue.{Value}
use Rattle.lua_graph.specs.LuaHeapHeap.{Heap}
use Rattle.lua_basic.specs.LuaHeapDeclaredLibraryLibrary.{Library}
use Rattle.lua_basic.specs.LuaHeapDeclaredLibraryLibraryTheVariants.{BasicAssert, BasicError, BasicGetMetatable, BasicSetMetatable, BasicNext, BasicRawEqual, BasicRawGet, BasicRawSet, BasicSelect, BasicToNumber, BasicType, BasicUnpack, MwLog, ArgumentExpand}
use Rattle.lua_basic.specs.LuaMeaningWorld.{World}
use Rattle.lua_basic.specs.LuaMeaningActs.{Frame}
use Rattle.lua_basic.specs.LuaMeaningArguments.{Plain}
use Rattle.lua_basic.specs.LuaMeaningBasic.{assert, error, get_metatable, set_metatable, next, raw_equal, raw_get, raw_set, select, to_number, kind, unpack}
use Rattle.lua_basic.specs.LuaMeaningMw.{log}
use Rattle.lua_basic.specs.LuaMeaningFrames.{argument_expand}
use Rattle.lua_basic.specs.LuaMeaningLibraries.{Answers, form}
use Rattle.lua_libs.specs.declared.table.PlainFunction.{PlainFunction}
use Rattle.lua_libs.specs.declared.table.PlainFunction.TheVariants as plain

abbrev pub plain_in : Library → Option PlainFunction
plain_in BasicAssert = Some plain.Assert
plain_in BasicError = Some plain.Error
plain_in BasicGetMetatable = Some plain.GetMetatable
plain_in BasicSetMetatable = Some plain.SetMetatable
plain_in BasicNext = Some plain.Next
plain_in BasicRawEqual = Some plain.RawEqual
plain_in BasicRawGet = Some plain.RawGet
plain_in BasicRawSet = Some plain.RawSet
plain_in BasicSelect = Some plain.Select
plain_in BasicToNumber = Some plain.ToNumber
plain_in BasicType = Some plain.Kind
plain_in BasicUnpack = Some plain.Unpack
plain_in MwLog = Some plain.Log
plain_in ArgumentExpand = Some plain.Expand
plain_in which = None

abbrev pub answer_of : {X : Type 0} → PlainFunction → List Value → Heap X → Plain X
answer_of plain.Assert args h = assert args h
answer_of plain.Error args h = error args h
answer_of plain.GetMetatable args h = get_metatable args h
answer_of plain.SetMetatable args h = set_metatable args h
answer_of plain.Next args h = next args h
answer_of plain.RawEqual args h = raw_equal args h
answer_of plain.RawGet args h = raw_get args h
answer_of plain.RawSet args h = raw_set args h
answer_of plain.Select args h = select args h
answer_of plain.ToNumber args h = to_number args h
answer_of plain.Kind args h = kind args h
answer_of plain.Unpack args h = unpack args h
answer_of plain.Log args h = log args h
answer_of plain.Expand args h = argument_expand args h

-- each is a line of the table of the library
abbrev pub AreInTable : Type 0
AreInTable = (which : Library) (f : PlainFunction) → plain_in which ≡ Some f → (world : World) (args : List Value) (h : Heap Proc) (frames : List Frame)
    → form world which args h frames ≡ Answers (answer_of f args h)
