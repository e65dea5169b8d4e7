-- THE FUNCTIONS of `mw.ustring`, and what each gives.
use Rattle.std.specs.Prelude.{◌≡◌, List, Option, Some, None}
use Rattle.mw_frame_texts.specs.LuaHeapProc.{Proc}
use Rattle.mw_frame_texts.specs.LuaHeapValue.{Value}
use Rattle.mw_frame_texts.specs.LuaHeapHeap.{Heap}
use Rattle.mw_frame_texts.specs.LuaHeapDeclaredLibraryLibrary.{Library}
use Rattle.mw_frame_texts.specs.LuaHeapDeclaredLibraryLibraryTheVariants.{UstringChar, UstringCodepoint, UstringByteOffset, UstringFind, UstringMatch, UstringLen, UstringSub, UstringIsUtf8, UstringToNfc, UstringToNfd, UstringToNfkc, UstringToNfkd}
use Rattle.mw_frame_texts.specs.LuaMeaningWorld.{World}
use Rattle.mw_frame_texts.specs.LuaMeaningActs.{Frame}
use Rattle.mw_frame_texts.specs.LuaMeaningArguments.{Plain}
use Rattle.mw_frame_texts.specs.LuaMeaningTextArguments.{of_texts}
use Rattle.mw_frame_texts.specs.LuaMeaningUstring.{char, codepoint, byteoffset, find, match_from, len, sub, isutf8, to_nfc, to_nfd, to_nfkc, to_nfkd}
use Rattle.mw_frame_texts.specs.LuaMeaningLibraries.{Answers, form}
use Rattle.mw_ustrings.specs.declared.table.UstringFunction.{UstringFunction}
use Rattle.mw_ustrings.specs.declared.table.UstringFunction.TheVariants as own

abbrev pub ustring_function_in : Library → Option UstringFunction
ustring_function_in UstringChar = Some own.Char
ustring_function_in UstringCodepoint = Some own.Codepoint
ustring_function_in UstringByteOffset = Some own.Byteoffset
ustring_function_in UstringFind = Some own.Find
ustring_function_in UstringMatch = Some own.Match
ustring_function_in UstringLen = Some own.Len
ustring_function_in UstringSub = Some own.Sub
ustring_function_in UstringIsUtf8 = Some own.IsUtf8
ustring_function_in UstringToNfc = Some own.ToNfc
ustring_function_in UstringToNfd = Some own.ToNfd
ustring_function_in UstringToNfkc = Some own.ToNfkc
ustring_function_in UstringToNfkd = Some own.ToNfkd
ustring_function_in which = None

-- behind the charge of its arguments
abbrev pub given_by : {X : Type 0} → UstringFunction → List Value → Heap X → Plain X
given_by own.Char args h = char args h
given_by own.Codepoint args h = codepoint args h
given_by own.Byteoffset args h = byteoffset args h
given_by own.Find args h = find args h
given_by own.Match args h = match_from args h
given_by own.Len args h = len args h
given_by own.Sub args h = sub args h
given_by own.IsUtf8 args h = isutf8 args h
given_by own.ToNfc args h = to_nfc args h
given_by own.ToNfd args h = to_nfd args h
given_by own.ToNfkc args h = to_nfkc args h
given_by own.ToNfkd args h = to_nfkd args h

abbrev pub answer_of : {X : Type 0} → UstringFunction → List Value → Heap X → Plain X
answer_of f args h = of_texts (given_by f) args h

-- each is a line of the table of the library
abbrev pub AreInTable : Type 0
AreInTable = (which : Library) (f : UstringFunction) → ustring_function_in which ≡ Some f → (world : World) (args : List Value) (h : Heap Proc) (frames : List Frame)
    → form world which args h frames ≡ Answers (answer_of f args h)
