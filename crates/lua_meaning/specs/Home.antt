-- A FRESH ENVIRONMENT (manual 5; Scribunto, "Lua environment"): the heap with which each run begins, and nothing else in it.
-- The names stand in the order in which `next` goes through them.
use Rattle.std.specs.Prelude.{List, [], ◌∷◌, codes}
use Rattle.lua_walk.specs.LuaHeapValue.{Nil, Text, Table}
use Rattle.mw_html.specs.LuaHeapTable.{Entries}
use Rattle.lua_walk.specs.LuaHeapHeap.{Heap, empty}
use Rattle.lua_walk.specs.LuaHeapDeclaredLibraryLibraryTheVariants as library
use Rattle.lua_meaning.specs.Acts.{State}
use Rattle.lua_meaning.specs.Frames.{function_entry, with_table}

-- the global variables: table 0
abbrev pub globals : Entries
globals =
    (Text (codes "_G"), Table 0)
    ∷ (Text (codes "_VERSION"), Text (codes "Lua 5.1"))
    ∷ function_entry (codes "assert") library.BasicAssert
    ∷ function_entry (codes "error") library.BasicError
    ∷ function_entry (codes "getmetatable") library.BasicGetMetatable
    ∷ function_entry (codes "setmetatable") library.BasicSetMetatable
    ∷ function_entry (codes "ipairs") library.BasicIpairs
    ∷ function_entry (codes "pairs") library.BasicPairs
    ∷ function_entry (codes "next") library.BasicNext
    ∷ function_entry (codes "pcall") library.BasicPcall
    ∷ function_entry (codes "xpcall") library.BasicXpcall
    ∷ function_entry (codes "rawequal") library.BasicRawEqual
    ∷ function_entry (codes "rawget") library.BasicRawGet
    ∷ function_entry (codes "rawset") library.BasicRawSet
    ∷ function_entry (codes "select") library.BasicSelect
    ∷ function_entry (codes "tonumber") library.BasicToNumber
    ∷ function_entry (codes "tostring") library.BasicToString
    ∷ function_entry (codes "type") library.BasicType
    ∷ function_entry (codes "unpack") library.BasicUnpack
    ∷ function_entry (codes "require") library.BasicRequire
    ∷ (Text (codes "string"), Table 1)
    ∷ (Text (codes "table"), Table 4)
    ∷ (Text (codes "math"), Table 5)
    ∷ (Text (codes "mw"), Table 2)
    ∷ []

-- the functions for strings: table 1
abbrev pub strings : Entries
strings =
    function_entry (codes "byte") library.StringByte
    ∷ function_entry (codes "char") library.StringChar
    ∷ function_entry (codes "find") library.StringFind
    ∷ function_entry (codes "match") library.StringMatch
    ∷ function_entry (codes "gmatch") library.StringGmatch
    ∷ function_entry (codes "gsub") library.StringGsub
    ∷ function_entry (codes "format") library.StringFormat
    ∷ function_entry (codes "len") library.StringLen
    ∷ function_entry (codes "lower") library.StringLower
    ∷ function_entry (codes "upper") library.StringUpper
    ∷ function_entry (codes "rep") library.StringRep
    ∷ function_entry (codes "reverse") library.StringReverse
    ∷ function_entry (codes "sub") library.StringSub
    ∷ []

-- `mw`: table 2
abbrev pub mw : Entries
mw =
    function_entry (codes "clone") library.MwClone
    ∷ function_entry (codes "log") library.MwLog
    ∷ (Text (codes "title"), Table 3)
    ∷ function_entry (codes "loadData") library.MwLoadData
    ∷ function_entry (codes "getCurrentFrame") library.MwGetCurrentFrame
    ∷ (Text (codes "ustring"), Table 6)
    ∷ (Text (codes "text"), Table 7)
    ∷ (Text (codes "html"), Table 8)
    ∷ []

-- `mw.title`: table 3
abbrev pub mw_title : Entries
mw_title = function_entry (codes "getCurrentTitle") library.MwGetCurrentTitle ∷ []

-- `table`: table 4
abbrev pub tables : Entries
tables =
    function_entry (codes "concat") library.TableConcat
    ∷ function_entry (codes "insert") library.TableInsert
    ∷ function_entry (codes "maxn") library.TableMaxn
    ∷ function_entry (codes "remove") library.TableRemove
    ∷ function_entry (codes "sort") library.TableSort
    ∷ []

-- `math`: table 5
abbrev pub math : Entries
math =
    function_entry (codes "abs") library.MathAbs
    ∷ function_entry (codes "ceil") library.MathCeil
    ∷ function_entry (codes "floor") library.MathFloor
    ∷ function_entry (codes "fmod") library.MathFmod
    ∷ function_entry (codes "max") library.MathMax
    ∷ function_entry (codes "min") library.MathMin
    ∷ function_entry (codes "pow") library.MathPow
    ∷ []

-- `mw.ustring`: table 6
abbrev pub ustring : Entries
ustring =
    function_entry (codes "char") library.UstringChar
    ∷ function_entry (codes "codepoint") library.UstringCodepoint
    ∷ function_entry (codes "gcodepoint") library.UstringGcodepoint
    ∷ function_entry (codes "byteoffset") library.UstringByteOffset
    ∷ function_entry (codes "find") library.UstringFind
    ∷ function_entry (codes "match") library.UstringMatch
    ∷ function_entry (codes "gmatch") library.UstringGmatch
    ∷ function_entry (codes "gsub") library.UstringGsub
    ∷ function_entry (codes "len") library.UstringLen
    ∷ function_entry (codes "sub") library.UstringSub
    ∷ function_entry (codes "isutf8") library.UstringIsUtf8
    ∷ function_entry (codes "toNFC") library.UstringToNfc
    ∷ function_entry (codes "toNFD") library.UstringToNfd
    ∷ function_entry (codes "toNFKC") library.UstringToNfkc
    ∷ function_entry (codes "toNFKD") library.UstringToNfkd
    ∷ []

-- `mw.text`: table 7
abbrev pub text : Entries
text =
    function_entry (codes "trim") library.TextTrim
    ∷ function_entry (codes "split") library.TextSplit
    ∷ function_entry (codes "gsplit") library.TextGsplit
    ∷ function_entry (codes "encode") library.TextEncode
    ∷ function_entry (codes "decode") library.TextDecode
    ∷ function_entry (codes "listToText") library.TextListToText
    ∷ function_entry (codes "nowiki") library.TextNowiki
    ∷ function_entry (codes "tag") library.TextTag
    ∷ function_entry (codes "truncate") library.TextTruncate
    ∷ []

-- `mw.html`: table 8
abbrev pub html : Entries
html = function_entry (codes "create") library.HtmlCreate ∷ []

-- these tables one after another, with no metatables
abbrev pub with_tables : {X : Type 0} → Heap X → List Entries → Heap X
with_tables h [] = h
with_tables h (es ∷ more) = with_tables (with_table h es Nil) more

-- all of them
abbrev pub home_tables : List Entries
home_tables = globals ∷ strings ∷ mw ∷ mw_title ∷ tables ∷ math ∷ ustring ∷ text ∷ html ∷ []

abbrev pub home_heap : {X : Type 0} → Heap X
home_heap = with_tables empty home_tables

-- the state with which a run begins
abbrev pub home : State
home = record { heap = home_heap; globals = 0; strings = 1; modules = []; data_modules = []; frames = [] }
