-- THE FIELDS of the tables of a fresh environment, where these are the tables. Joined they are the entries with which a run begins.
use Rattle.std.specs.Prelude.{[], ◌∷◌, ◌++◌, codes}
use Rattle.lua_meaning.specs.LuaHeapValue.{Text, Table}
use Rattle.lua_graph.specs.LuaHeapTable.{Entries}
use Rattle.lua_meaning.specs.LuaHeapDeclaredLibraryLibraryTheVariants as library
use Rattle.lua_meaning.specs.Frames.{function_entry}
use Rattle.lua_home.specs.declared.made.Tables.{Tables}

abbrev pub first_globals : Tables → Entries
first_globals t =
    (Text (codes "_G"), Table t.globals.at)
    ∷ (Text (codes "_VERSION"), Text (codes "Lua 5.1"))
    ∷ function_entry (codes "assert") library.BasicAssert
    ∷ function_entry (codes "error") library.BasicError
    ∷ function_entry (codes "getmetatable") library.BasicGetMetatable
    ∷ function_entry (codes "setmetatable") library.BasicSetMetatable
    ∷ function_entry (codes "ipairs") library.BasicIpairs
    ∷ function_entry (codes "pairs") library.BasicPairs
    ∷ []

abbrev pub middle_globals : Entries
middle_globals =
    function_entry (codes "next") library.BasicNext
    ∷ function_entry (codes "pcall") library.BasicPcall
    ∷ function_entry (codes "xpcall") library.BasicXpcall
    ∷ function_entry (codes "rawequal") library.BasicRawEqual
    ∷ function_entry (codes "rawget") library.BasicRawGet
    ∷ function_entry (codes "rawset") library.BasicRawSet
    ∷ function_entry (codes "select") library.BasicSelect
    ∷ function_entry (codes "tonumber") library.BasicToNumber
    ∷ []

abbrev pub last_globals : Tables → Entries
last_globals t =
    function_entry (codes "tostring") library.BasicToString
    ∷ function_entry (codes "type") library.BasicType
    ∷ function_entry (codes "unpack") library.BasicUnpack
    ∷ function_entry (codes "require") library.BasicRequire
    ∷ (Text (codes "string"), Table t.strings.at)
    ∷ (Text (codes "table"), Table t.tables.at)
    ∷ (Text (codes "math"), Table t.math.at)
    ∷ (Text (codes "mw"), Table t.mw.at)
    ∷ []

abbrev pub first_strings : Entries
first_strings =
    function_entry (codes "byte") library.StringByte
    ∷ function_entry (codes "char") library.StringChar
    ∷ function_entry (codes "find") library.StringFind
    ∷ function_entry (codes "match") library.StringMatch
    ∷ function_entry (codes "gmatch") library.StringGmatch
    ∷ function_entry (codes "gsub") library.StringGsub
    ∷ function_entry (codes "format") library.StringFormat
    ∷ function_entry (codes "len") library.StringLen
    ∷ []

abbrev pub last_strings : Entries
last_strings =
    function_entry (codes "lower") library.StringLower
    ∷ function_entry (codes "upper") library.StringUpper
    ∷ function_entry (codes "rep") library.StringRep
    ∷ function_entry (codes "reverse") library.StringReverse
    ∷ function_entry (codes "sub") library.StringSub
    ∷ []

abbrev pub mw_fields : Tables → Entries
mw_fields t =
    function_entry (codes "clone") library.MwClone
    ∷ function_entry (codes "log") library.MwLog
    ∷ (Text (codes "title"), Table t.title.at)
    ∷ function_entry (codes "loadData") library.MwLoadData
    ∷ function_entry (codes "getCurrentFrame") library.MwGetCurrentFrame
    ∷ (Text (codes "ustring"), Table t.ustring.at)
    ∷ (Text (codes "text"), Table t.text.at)
    ∷ (Text (codes "html"), Table t.html.at)
    ∷ []

abbrev pub title_fields : Entries
title_fields =
    function_entry (codes "getCurrentTitle") library.MwGetCurrentTitle
    ∷ []

abbrev pub table_fields : Entries
table_fields =
    function_entry (codes "concat") library.TableConcat
    ∷ function_entry (codes "insert") library.TableInsert
    ∷ function_entry (codes "maxn") library.TableMaxn
    ∷ function_entry (codes "remove") library.TableRemove
    ∷ function_entry (codes "sort") library.TableSort
    ∷ []

abbrev pub math_fields : Entries
math_fields =
    function_entry (codes "abs") library.MathAbs
    ∷ function_entry (codes "ceil") library.MathCeil
    ∷ function_entry (codes "floor") library.MathFloor
    ∷ function_entry (codes "fmod") library.MathFmod
    ∷ function_entry (codes "max") library.MathMax
    ∷ function_entry (codes "min") library.MathMin
    ∷ function_entry (codes "pow") library.MathPow
    ∷ []

abbrev pub first_ustring : Entries
first_ustring =
    function_entry (codes "char") library.UstringChar
    ∷ function_entry (codes "codepoint") library.UstringCodepoint
    ∷ function_entry (codes "gcodepoint") library.UstringGcodepoint
    ∷ function_entry (codes "byteoffset") library.UstringByteOffset
    ∷ function_entry (codes "find") library.UstringFind
    ∷ function_entry (codes "match") library.UstringMatch
    ∷ function_entry (codes "gmatch") library.UstringGmatch
    ∷ function_entry (codes "gsub") library.UstringGsub
    ∷ []

abbrev pub last_ustring : Entries
last_ustring =
    function_entry (codes "len") library.UstringLen
    ∷ function_entry (codes "sub") library.UstringSub
    ∷ function_entry (codes "isutf8") library.UstringIsUtf8
    ∷ function_entry (codes "toNFC") library.UstringToNfc
    ∷ function_entry (codes "toNFD") library.UstringToNfd
    ∷ function_entry (codes "toNFKC") library.UstringToNfkc
    ∷ function_entry (codes "toNFKD") library.UstringToNfkd
    ∷ []

abbrev pub first_text : Entries
first_text =
    function_entry (codes "trim") library.TextTrim
    ∷ function_entry (codes "split") library.TextSplit
    ∷ function_entry (codes "gsplit") library.TextGsplit
    ∷ function_entry (codes "encode") library.TextEncode
    ∷ function_entry (codes "decode") library.TextDecode
    ∷ []

abbrev pub last_text : Entries
last_text =
    function_entry (codes "listToText") library.TextListToText
    ∷ function_entry (codes "nowiki") library.TextNowiki
    ∷ function_entry (codes "tag") library.TextTag
    ∷ function_entry (codes "truncate") library.TextTruncate
    ∷ []

abbrev pub html_fields : Entries
html_fields = function_entry (codes "create") library.HtmlCreate ∷ []

-- those of one table, together
abbrev pub global_fields : Tables → Entries
global_fields t = first_globals t ++ (middle_globals ++ last_globals t)

abbrev pub string_fields : Entries
string_fields = first_strings ++ last_strings

abbrev pub ustring_fields : Entries
ustring_fields = first_ustring ++ last_ustring

abbrev pub text_fields : Entries
text_fields = first_text ++ last_text
