-- Each plain function is a line of the table of the library.
use Rattle.std.proofs.Common.{◌≡◌, ap, Some}
use Rattle.lua_basic.specs.LuaHeapDeclaredLibraryLibraryTheVariants.{BasicAssert, BasicError, BasicGetMetatable, BasicSetMetatable, BasicNext, BasicRawEqual, BasicRawGet, BasicRawSet, BasicSelect, BasicToNumber, BasicType, BasicUnpack, MwLog, ArgumentExpand}
use Rattle.lua_basic.specs.LuaMeaningLibraries.{Answers}
use Rattle.lua_libs.specs.declared.table.PlainFunction.{PlainFunction}
use Rattle.lua_libs.specs.declared.table.PlainFunction.TheVariants as plain
use Rattle.lua_libs.specs.Table.{answer_of, AreInTable}

same : (f g : PlainFunction) → Some f ≡ Some g → f ≡ g
same f g e = cc

pub in-table : AreInTable
in-table BasicAssert f e = λ world args h frames. ap (λ g. Answers (answer_of g args h)) (same plain.Assert f e)
in-table BasicError f e = λ world args h frames. ap (λ g. Answers (answer_of g args h)) (same plain.Error f e)
in-table BasicGetMetatable f e = λ world args h frames. ap (λ g. Answers (answer_of g args h)) (same plain.GetMetatable f e)
in-table BasicSetMetatable f e = λ world args h frames. ap (λ g. Answers (answer_of g args h)) (same plain.SetMetatable f e)
in-table BasicNext f e = λ world args h frames. ap (λ g. Answers (answer_of g args h)) (same plain.Next f e)
in-table BasicRawEqual f e = λ world args h frames. ap (λ g. Answers (answer_of g args h)) (same plain.RawEqual f e)
in-table BasicRawGet f e = λ world args h frames. ap (λ g. Answers (answer_of g args h)) (same plain.RawGet f e)
in-table BasicRawSet f e = λ world args h frames. ap (λ g. Answers (answer_of g args h)) (same plain.RawSet f e)
in-table BasicSelect f e = λ world args h frames. ap (λ g. Answers (answer_of g args h)) (same plain.Select f e)
in-table BasicToNumber f e = λ world args h frames. ap (λ g. Answers (answer_of g args h)) (same plain.ToNumber f e)
in-table BasicType f e = λ world args h frames. ap (λ g. Answers (answer_of g args h)) (same plain.Kind f e)
in-table BasicUnpack f e = λ world args h frames. ap (λ g. Answers (answer_of g args h)) (same plain.Unpack f e)
in-table MwLog f e = λ world args h frames. ap (λ g. Answers (answer_of g args h)) (same plain.Log f e)
in-table ArgumentExpand f e = λ world args h frames. ap (λ g. Answers (answer_of g args h)) (same plain.Expand f e)
in-table which f e = absurd cc
