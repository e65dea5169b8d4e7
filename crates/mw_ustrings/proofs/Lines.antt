-- Each of these functions is a line of the table of the library.
use Rattle.std.proofs.Common.{◌≡◌, ap, Some}
use Rattle.mw_frame_texts.specs.LuaHeapDeclaredLibraryLibraryTheVariants.{UstringChar, UstringCodepoint, UstringByteOffset, UstringFind, UstringMatch, UstringLen, UstringSub, UstringIsUtf8, UstringToNfc, UstringToNfd, UstringToNfkc, UstringToNfkd}
use Rattle.mw_frame_texts.specs.LuaMeaningLibraries.{Answers}
use Rattle.mw_ustrings.specs.declared.table.UstringFunction.{UstringFunction}
use Rattle.mw_ustrings.specs.declared.table.UstringFunction.TheVariants as own
use Rattle.mw_ustrings.specs.Table.{answer_of, AreInTable}

same : (f g : UstringFunction) → Some f ≡ Some g → f ≡ g
same f g e = cc

pub in-table : AreInTable
in-table UstringChar f e = λ world args h frames. ap (λ g. Answers (answer_of g args h)) (same own.Char f e)
in-table UstringCodepoint f e = λ world args h frames. ap (λ g. Answers (answer_of g args h)) (same own.Codepoint f e)
in-table UstringByteOffset f e = λ world args h frames. ap (λ g. Answers (answer_of g args h)) (same own.Byteoffset f e)
in-table UstringFind f e = λ world args h frames. ap (λ g. Answers (answer_of g args h)) (same own.Find f e)
in-table UstringMatch f e = λ world args h frames. ap (λ g. Answers (answer_of g args h)) (same own.Match f e)
in-table UstringLen f e = λ world args h frames. ap (λ g. Answers (answer_of g args h)) (same own.Len f e)
in-table UstringSub f e = λ world args h frames. ap (λ g. Answers (answer_of g args h)) (same own.Sub f e)
in-table UstringIsUtf8 f e = λ world args h frames. ap (λ g. Answers (answer_of g args h)) (same own.IsUtf8 f e)
in-table UstringToNfc f e = λ world args h frames. ap (λ g. Answers (answer_of g args h)) (same own.ToNfc f e)
in-table UstringToNfd f e = λ world args h frames. ap (λ g. Answers (answer_of g args h)) (same own.ToNfd f e)
in-table UstringToNfkc f e = λ world args h frames. ap (λ g. Answers (answer_of g args h)) (same own.ToNfkc f e)
in-table UstringToNfkd f e = λ world args h frames. ap (λ g. Answers (answer_of g args h)) (same own.ToNfkd f e)
in-table which f e = absurd cc
