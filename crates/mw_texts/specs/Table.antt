-- THE FUNCTIONS of `mw.text`, and what each gives.
use Rattle.std.specs.Prelude.{◌≡◌, List, Option, Some, None}
use Rattle.mw_ustrings.specs.LuaHeapProc.{Proc}
use Rattle.mw_ustrings.specs.LuaHeapValue.{Value}
use Rattle.mw_ustrings.specs.LuaHeapHeap.{Heap}
use Rattle.mw_ustrings.specs.LuaHeapDeclaredLibraryLibrary.{Library}
use Rattle.mw_ustrings.specs.LuaHeapDeclaredLibraryLibraryTheVariants.{TextTrim, TextSplit, TextEncode, TextDecode, TextListToText, TextNowiki, TextTag, TextTruncate}
use Rattle.mw_ustrings.specs.LuaMeaningWorld.{World}
use Rattle.mw_ustrings.specs.LuaMeaningActs.{Frame}
use Rattle.mw_ustrings.specs.LuaMeaningArguments.{Plain}
use Rattle.mw_ustrings.specs.LuaMeaningTextArguments.{of_texts}
use Rattle.mw_ustrings.specs.LuaMeaningTexts.{trim, split, encode, decode, list_to_text, nowiki, tag, truncate}
use Rattle.mw_ustrings.specs.LuaMeaningLibraries.{Answers, form}
use Rattle.mw_texts.specs.declared.table.TextFunction.{TextFunction}
use Rattle.mw_texts.specs.declared.table.TextFunction.TheVariants as own

abbrev pub text_function_in : Library → Option TextFunction
text_function_in TextTrim = Some own.Trim
text_function_in TextSplit = Some own.Split
text_function_in TextEncode = Some own.Encode
text_function_in TextDecode = Some own.Decode
text_function_in TextListToText = Some own.ListToText
text_function_in TextNowiki = Some own.Nowiki
text_function_in TextTag = Some own.Tag
text_function_in TextTruncate = Some own.Truncate
text_function_in which = None

-- behind the charge of its arguments
abbrev pub given_by : {X : Type 0} → TextFunction → List Value → Heap X → Plain X
given_by own.Trim args h = trim args h
given_by own.Split args h = split args h
given_by own.Encode args h = encode args h
given_by own.Decode args h = decode args h
given_by own.ListToText args h = list_to_text args h
given_by own.Nowiki args h = nowiki args h
given_by own.Tag args h = tag args h
given_by own.Truncate args h = truncate args h

abbrev pub answer_of : {X : Type 0} → TextFunction → List Value → Heap X → Plain X
answer_of f args h = of_texts (given_by f) args h

-- each is a line of the table of the library
abbrev pub AreInTable : Type 0
AreInTable = (which : Library) (f : TextFunction) → text_function_in which ≡ Some f → (world : World) (args : List Value) (h : Heap Proc) (frames : List Frame)
    → form world which args h frames ≡ Answers (answer_of f args h)
