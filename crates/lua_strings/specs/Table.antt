-- THE FUNCTIONS of `string` and `math` that call back nobody and make no iterator, and what each gives.
use Rattle.std.specs.Prelude.{◌≡◌, List, Option, Some, None}
use Rattle.lua_basic.specs.LuaHeapProc.{Proc}
use Rattle.lua_basic.specs.LuaHeapValue.{Value}
use Rattle.lua_basic.specs.LuaHeapHeap.{Heap}
use Rattle.lua_basic.specs.LuaHeapDeclaredLibraryLibrary.{Library}
use Rattle.lua_basic.specs.LuaHeapDeclaredLibraryLibraryTheVariants.{StringByte, StringChar, StringFind, StringMatch, StringFormat, StringLen, StringLower, StringUpper, StringRep, StringReverse, StringSub, MathAbs, MathCeil, MathFloor, MathFmod, MathMax, MathMin, MathPow}
use Rattle.lua_basic.specs.LuaMeaningWorld.{World}
use Rattle.lua_basic.specs.LuaMeaningActs.{Frame}
use Rattle.lua_basic.specs.LuaMeaningArguments.{Plain}
use Rattle.lua_basic.specs.LuaMeaningStrings as strings
use Rattle.lua_basic.specs.LuaMeaningSearches as searches
use Rattle.lua_basic.specs.LuaMeaningFormats as formats
use Rattle.lua_basic.specs.LuaMeaningNumbers as numbers
use Rattle.lua_basic.specs.LuaMeaningLibraries.{Answers, form}
use Rattle.lua_strings.specs.declared.table.StringFunction.{StringFunction}
use Rattle.lua_strings.specs.declared.table.StringFunction.TheVariants as own

abbrev pub string_function_in : Library → Option StringFunction
string_function_in StringByte = Some own.Byte
string_function_in StringChar = Some own.Char
string_function_in StringFind = Some own.Find
string_function_in StringMatch = Some own.Match
string_function_in StringFormat = Some own.Format
string_function_in StringLen = Some own.Len
string_function_in StringLower = Some own.Lower
string_function_in StringUpper = Some own.Upper
string_function_in StringRep = Some own.Rep
string_function_in StringReverse = Some own.Reverse
string_function_in StringSub = Some own.Sub
string_function_in MathAbs = Some own.Abs
string_function_in MathCeil = Some own.Ceil
string_function_in MathFloor = Some own.Floor
string_function_in MathFmod = Some own.Fmod
string_function_in MathMax = Some own.Max
string_function_in MathMin = Some own.Min
string_function_in MathPow = Some own.Pow
string_function_in which = None

abbrev pub answer_of : {X : Type 0} → StringFunction → List Value → Heap X → Plain X
answer_of own.Byte args h = strings.byte args h
answer_of own.Char args h = strings.char_of args h
answer_of own.Find args h = searches.find args h
answer_of own.Match args h = searches.match_from args h
answer_of own.Format args h = formats.format args h
answer_of own.Len args h = strings.len args h
answer_of own.Lower args h = strings.lower args h
answer_of own.Upper args h = strings.upper args h
answer_of own.Rep args h = strings.rep args h
answer_of own.Reverse args h = strings.reverse args h
answer_of own.Sub args h = strings.sub args h
answer_of own.Abs args h = numbers.abs args h
answer_of own.Ceil args h = numbers.ceil args h
answer_of own.Floor args h = numbers.floor args h
answer_of own.Fmod args h = numbers.fmod args h
answer_of own.Max args h = numbers.max args h
answer_of own.Min args h = numbers.min args h
answer_of own.Pow args h = numbers.pow args h

-- each is a line of the table of the library
abbrev pub AreInTable : Type 0
AreInTable = (which : Library) (f : StringFunction) → string_function_in which ≡ Some f → (world : World) (args : List Value) (h : Heap Proc) (frames : List Frame)
    → form world which args h frames ≡ Answers (answer_of f args h)
