-- Each of these functions is a line of the table of the library.
use Rattle.std.proofs.Common.{◌≡◌, ap, Some}
use Rattle.lua_basic.specs.LuaHeapDeclaredLibraryLibraryTheVariants.{StringByte, StringChar, StringFind, StringMatch, StringFormat, StringLen, StringLower, StringUpper, StringRep, StringReverse, StringSub, MathAbs, MathCeil, MathFloor, MathFmod, MathMax, MathMin, MathPow}
use Rattle.lua_basic.specs.LuaMeaningLibraries.{Answers}
use Rattle.lua_strings.specs.declared.table.StringFunction.{StringFunction}
use Rattle.lua_strings.specs.declared.table.StringFunction.TheVariants as own
use Rattle.lua_strings.specs.Table.{answer_of, AreInTable}

same : (f g : StringFunction) → Some f ≡ Some g → f ≡ g
same f g e = cc

pub in-table : AreInTable
in-table StringByte f e = λ world args h frames. ap (λ g. Answers (answer_of g args h)) (same own.Byte f e)
in-table StringChar f e = λ world args h frames. ap (λ g. Answers (answer_of g args h)) (same own.Char f e)
in-table StringFind f e = λ world args h frames. ap (λ g. Answers (answer_of g args h)) (same own.Find f e)
in-table StringMatch f e = λ world args h frames. ap (λ g. Answers (answer_of g args h)) (same own.Match f e)
in-table StringFormat f e = λ world args h frames. ap (λ g. Answers (answer_of g args h)) (same own.Format f e)
in-table StringLen f e = λ world args h frames. ap (λ g. Answers (answer_of g args h)) (same own.Len f e)
in-table StringLower f e = λ world args h frames. ap (λ g. Answers (answer_of g args h)) (same own.Lower f e)
in-table StringUpper f e = λ world args h frames. ap (λ g. Answers (answer_of g args h)) (same own.Upper f e)
in-table StringRep f e = λ world args h frames. ap (λ g. Answers (answer_of g args h)) (same own.Rep f e)
in-table StringReverse f e = λ world args h frames. ap (λ g. Answers (answer_of g args h)) (same own.Reverse f e)
in-table StringSub f e = λ world args h frames. ap (λ g. Answers (answer_of g args h)) (same own.Sub f e)
in-table MathAbs f e = λ world args h frames. ap (λ g. Answers (answer_of g args h)) (same own.Abs f e)
in-table MathCeil f e = λ world args h frames. ap (λ g. Answers (answer_of g args h)) (same own.Ceil f e)
in-table MathFloor f e = λ world args h frames. ap (λ g. Answers (answer_of g args h)) (same own.Floor f e)
in-table MathFmod f e = λ world args h frames. ap (λ g. Answers (answer_of g args h)) (same own.Fmod f e)
in-table MathMax f e = λ world args h frames. ap (λ g. Answers (answer_of g args h)) (same own.Max f e)
in-table MathMin f e = λ world args h frames. ap (λ g. Answers (answer_of g args h)) (same own.Min f e)
in-table MathPow f e = λ world args h frames. ap (λ g. Answers (answer_of g args h)) (same own.Pow f e)
in-table which f e = absurd cc
