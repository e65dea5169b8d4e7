-- THE TWO FUNCTIONS, by the alphabet over which they go.
use Rattle.std.specs.Prelude.{Option, Some, None}
use Rattle.lua_iterators.specs.LuaHeapDeclaredLibraryLibrary.{Library}
use Rattle.lua_iterators.specs.LuaHeapDeclaredLibraryLibraryTheVariants.{StringGsub, UstringGsub}
use Rattle.lua_replacing.specs.LuaMeaningGsub.{Alphabet, OfBytes, OfPoints}
use Rattle.lua_gsubs.specs.declared.table.GsubFunction.{GsubFunction}
use Rattle.lua_gsubs.specs.declared.table.GsubFunction.TheVariants as own

abbrev pub gsub_function_in : Library → Option GsubFunction
gsub_function_in StringGsub = Some own.OfBytes
gsub_function_in UstringGsub = Some own.OfPoints
gsub_function_in which = None

abbrev pub alphabet_of : GsubFunction → Alphabet
alphabet_of own.OfBytes = OfBytes
alphabet_of own.OfPoints = OfPoints
