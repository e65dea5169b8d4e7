-- Each of these functions is a line of the table of the library.
use Rattle.std.proofs.Common.{◌≡◌, ap, Some}
use Rattle.mw_ustrings.specs.LuaHeapDeclaredLibraryLibraryTheVariants.{TextTrim, TextSplit, TextEncode, TextDecode, TextListToText, TextNowiki, TextTag, TextTruncate}
use Rattle.mw_ustrings.specs.LuaMeaningLibraries.{Answers}
use Rattle.mw_texts.specs.declared.table.TextFunction.{TextFunction}
use Rattle.mw_texts.specs.declared.table.TextFunction.TheVariants as own
use Rattle.mw_texts.specs.Table.{answer_of, AreInTable}

same : (f g : TextFunction) → Some f ≡ Some g → f ≡ g
same f g e = cc

pub in-table : AreInTable
in-table TextTrim f e = λ world args h frames. ap (λ g. Answers (answer_of g args h)) (same own.Trim f e)
in-table TextSplit f e = λ world args h frames. ap (λ g. Answers (answer_of g args h)) (same own.Split f e)
in-table TextEncode f e = λ world args h frames. ap (λ g. Answers (answer_of g args h)) (same own.Encode f e)
in-table TextDecode f e = λ world args h frames. ap (λ g. Answers (answer_of g args h)) (same own.Decode f e)
in-table TextListToText f e = λ world args h frames. ap (λ g. Answers (answer_of g args h)) (same own.ListToText f e)
in-table TextNowiki f e = λ world args h frames. ap (λ g. Answers (answer_of g args h)) (same own.Nowiki f e)
in-table TextTag f e = λ world args h frames. ap (λ g. Answers (answer_of g args h)) (same own.Tag f e)
in-table TextTruncate f e = λ world args h frames. ap (λ g. Answers (answer_of g args h)) (same own.Truncate f e)
in-table which f e = absurd cc
