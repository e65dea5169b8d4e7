-- Each of these functions is a line of the table of the library.
use Rattle.std.proofs.Common.{◌≡◌, ap, Some}
use Rattle.lua_basic.specs.LuaHeapDeclaredLibraryLibraryTheVariants.{TableConcat, TableInsert, TableMaxn, TableRemove, TableSort}
use Rattle.lua_basic.specs.LuaMeaningLibraries.{Answers}
use Rattle.lua_tables.specs.declared.table.TableFunction.{TableFunction}
use Rattle.lua_tables.specs.declared.table.TableFunction.TheVariants as own
use Rattle.lua_tables.specs.Table.{answer_of, AreInTable}

same : (f g : TableFunction) → Some f ≡ Some g → f ≡ g
same f g e = cc

pub in-table : AreInTable
in-table TableConcat f e = λ world args h frames. ap (λ g. Answers (answer_of g args h)) (same own.Concat f e)
in-table TableInsert f e = λ world args h frames. ap (λ g. Answers (answer_of g args h)) (same own.Insert f e)
in-table TableMaxn f e = λ world args h frames. ap (λ g. Answers (answer_of g args h)) (same own.Maxn f e)
in-table TableRemove f e = λ world args h frames. ap (λ g. Answers (answer_of g args h)) (same own.Remove f e)
in-table TableSort f e = λ world args h frames. ap (λ g. Answers (answer_of g args h)) (same own.Sort f e)
in-table which f e = absurd cc
