-- THE FUNCTIONS OF `table`, and what each gives.
use Rattle.std.specs.Prelude.{◌≡◌, List, Option, Some, None}
use Rattle.lua_basic.specs.LuaHeapProc.{Proc}
use Rattle.lua_basic.specs.LuaHeapValue.{Value}
use Rattle.lua_basic.specs.LuaHeapHeap.{Heap}
use Rattle.lua_basic.specs.LuaHeapDeclaredLibraryLibrary.{Library}
use Rattle.lua_basic.specs.LuaHeapDeclaredLibraryLibraryTheVariants.{TableConcat, TableInsert, TableMaxn, TableRemove, TableSort}
use Rattle.lua_basic.specs.LuaMeaningWorld.{World}
use Rattle.lua_basic.specs.LuaMeaningActs.{Frame}
use Rattle.lua_basic.specs.LuaMeaningArguments.{Plain}
use Rattle.lua_basic.specs.LuaMeaningTableLibrary.{concat, insert, maxn, remove, sort}
use Rattle.lua_basic.specs.LuaMeaningLibraries.{Answers, form}
use Rattle.lua_tables.specs.declared.table.TableFunction.{TableFunction}
use Rattle.lua_tables.specs.declared.table.TableFunction.TheVariants as own

abbrev pub table_function_in : Library → Option TableFunction
table_function_in TableConcat = Some own.Concat
table_function_in TableInsert = Some own.Insert
table_function_in TableMaxn = Some own.Maxn
table_function_in TableRemove = Some own.Remove
table_function_in TableSort = Some own.Sort
table_function_in which = None

abbrev pub answer_of : {X : Type 0} → TableFunction → List Value → Heap X → Plain X
answer_of own.Concat args h = concat args h
answer_of own.Insert args h = insert args h
answer_of own.Maxn args h = maxn args h
answer_of own.Remove args h = remove args h
answer_of own.Sort args h = sort args h

-- each is a line of the table of the library
abbrev pub AreInTable : Type 0
AreInTable = (which : Library) (f : TableFunction) → table_function_in which ≡ Some f → (world : World) (args : List Value) (h : Heap Proc) (frames : List Frame)
    → form world which args h frames ≡ Answers (answer_of f args h)
