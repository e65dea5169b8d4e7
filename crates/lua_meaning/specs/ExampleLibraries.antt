-- EXAMPLES of the libraries `string`, `table`, `math`, `mw.ustring` and `mw.text`.
use Rattle.std.specs.Prelude.{◌≡◌, pos, true, false, [], ◌∷◌, codes}
use Rattle.lua_syntax.specs.declared.BinaryOp.TheVariants as op
use Rattle.lua_syntax.specs.declared.UnaryOp.TheVariants as sign
use Rattle.lua_syntax.specs.Tree.{NilE, TrueE, NumberE, TextE, FunctionE, NameE, IndexE, CallE, MethodE, TableE, BinaryE, UnaryE, ParenE}
use Rattle.lua_syntax.specs.Tree.{NoExp, NoField, Item, Pair, Lambda, Block}
use Rattle.lua_syntax.specs.Tree.{AssignS, CallS, EachS, LocalS, ReturnS}
use Rattle.lua_syntax.specs.View.{exps_of, fields_of, stats_of}
use Rattle.page_run.specs.declared.which.Which.TheVariants.{Steps}
use Rattle.lua_meaning.specs.Trial.{Gives, Spends, without_steps, invoke_module}

-- A text that is made costs its bytes.
--     return {f=function(...)
--     return ('x'):rep(3)
--     end}
abbrev pub rep_costs : Block
rep_costs = stats_of (ReturnS 1 (exps_of (TableE 1 (fields_of (Pair (TextE 1 (codes "f")) (FunctionE 1 (Lambda [] true (stats_of (
    ReturnS 2 (exps_of (MethodE 2 (ParenE 2 (TextE 2 (codes "x"))) (codes "rep") (exps_of (NumberE 2 (pos 3) ∷ [])) ∷ []))
    ∷ [])))) ∷ [])) ∷ [])) ∷ [])

abbrev pub RepCosts : Type 0
RepCosts = (invoke_module (codes "X") 48 rep_costs 1086 ≡ Gives (codes "xxx") 0) × (invoke_module (codes "X") 48 rep_costs 1085 ≡ Spends Steps 0)

-- `string.format` costs the bytes of its arguments that are strings, and of what it gives.
--     return {f=function(...)
--     return string.format('%s-%d','a',5)
--     end}
abbrev pub format_costs : Block
format_costs = stats_of (ReturnS 1 (exps_of (TableE 1 (fields_of (Pair (TextE 1 (codes "f")) (FunctionE 1 (Lambda [] true (stats_of (ReturnS 2 (exps_of (
    CallE 2 (IndexE 2 (NameE 2 (codes "string")) (TextE 2 (codes "format"))) (exps_of (TextE 2 (codes "%s-%d") ∷ TextE 2 (codes "a") ∷ NumberE 2 (pos 5) ∷ []))
    ∷ [])) ∷ [])))) ∷ [])) ∷ [])) ∷ [])

abbrev pub FormatCosts : Type 0
FormatCosts = (invoke_module (codes "X") 64 format_costs 1111 ≡ Gives (codes "a-5") 0) × (invoke_module (codes "X") 64 format_costs 1110 ≡ Spends Steps 0)

-- `table.concat` costs a step for each entry, and what it gives.
--     return {f=function(...)
--     return table.concat({1,2,3},',')
--     end}
abbrev pub concat_costs : Block
concat_costs = stats_of (ReturnS 1 (exps_of (TableE 1 (fields_of (Pair (TextE 1 (codes "f")) (FunctionE 1 (Lambda [] true (stats_of (ReturnS 2 (exps_of (CallE 2 (IndexE 2 (NameE 2 (codes "table")) (TextE 2 (codes "concat"))) (exps_of (
    TableE 2 (fields_of (Item (NumberE 2 (pos 1)) ∷ Item (NumberE 2 (pos 2)) ∷ Item (NumberE 2 (pos 3)) ∷ []))
    ∷ TextE 2 (codes ",")
    ∷ [])) ∷ [])) ∷ [])))) ∷ [])) ∷ [])) ∷ [])

abbrev pub ConcatCosts : Type 0
ConcatCosts = (invoke_module (codes "X") 61 concat_costs 1131 ≡ Gives (codes "1,2,3") 0) × (invoke_module (codes "X") 61 concat_costs 1130 ≡ Spends Steps 0)

-- Functions of `math` cost nothing but their call.
--     return {f=function(...)
--     return math.max(3,7,5)
--     end}
abbrev pub max_costs : Block
max_costs = stats_of (ReturnS 1 (exps_of (TableE 1 (fields_of (Pair (TextE 1 (codes "f")) (FunctionE 1 (Lambda [] true (stats_of (ReturnS 2 (exps_of (
    CallE 2 (IndexE 2 (NameE 2 (codes "math")) (TextE 2 (codes "max"))) (exps_of (NumberE 2 (pos 3) ∷ NumberE 2 (pos 7) ∷ NumberE 2 (pos 5) ∷ []))
    ∷ [])) ∷ [])))) ∷ [])) ∷ [])) ∷ [])

abbrev pub MaxCosts : Type 0
MaxCosts = (invoke_module (codes "X") 51 max_costs 1087 ≡ Gives (codes "7") 0) × (invoke_module (codes "X") 51 max_costs 1086 ≡ Spends Steps 0)

-- `mw.text.split`: five bytes are given, one is read, the comma is compared four times; a table, three entries, and their two bytes.
--     return {f=function(...)
--     return mw.text.split('a,b,',',')[2]
--     end}
abbrev pub split_costs : Block
split_costs = stats_of (ReturnS 1 (exps_of (TableE 1 (fields_of (Pair (TextE 1 (codes "f")) (FunctionE 1 (Lambda [] true (stats_of (ReturnS 2 (exps_of (
    IndexE 2 (CallE 2 (IndexE 2 (IndexE 2 (NameE 2 (codes "mw")) (TextE 2 (codes "text"))) (TextE 2 (codes "split"))) (exps_of (TextE 2 (codes "a,b,") ∷ TextE 2 (codes ",") ∷ []))) (NumberE 2 (pos 2))
    ∷ [])) ∷ [])))) ∷ [])) ∷ [])) ∷ [])

abbrev pub SplitCosts : Type 0
SplitCosts = (invoke_module (codes "X") 64 split_costs 1135 ≡ Gives (codes "b") 0) × (invoke_module (codes "X") 64 split_costs 1134 ≡ Spends Steps 0)

-- An iterator costs as a closure. A step of `gmatch` costs the bytes of the pattern, a try at `a` and one at `1`, and the byte that it gives.
--     return {f=function(...)
--     return ('a1'):gmatch('%d')()
--     end}
abbrev pub gmatch_costs : Block
gmatch_costs = stats_of (ReturnS 1 (exps_of (TableE 1 (fields_of (Pair (TextE 1 (codes "f")) (FunctionE 1 (Lambda [] true (stats_of (ReturnS 2 (exps_of (
    CallE 2 (MethodE 2 (ParenE 2 (TextE 2 (codes "a1"))) (codes "gmatch") (exps_of (TextE 2 (codes "%d") ∷ []))) NoExp
    ∷ [])) ∷ [])))) ∷ [])) ∷ [])) ∷ [])

abbrev pub GmatchCosts : Type 0
GmatchCosts = (invoke_module (codes "X") 57 gmatch_costs 1105 ≡ Gives (codes "1") 0) × (invoke_module (codes "X") 57 gmatch_costs 1104 ≡ Spends Steps 0)

-- `mw.text.gsplit` costs first the bytes of its arguments; a step of it the pattern's, the tries, and the part's.
--     return {f=function(...)
--     return mw.text.gsplit('ab,c',',')()
--     end}
abbrev pub gsplit_costs : Block
gsplit_costs = stats_of (ReturnS 1 (exps_of (TableE 1 (fields_of (Pair (TextE 1 (codes "f")) (FunctionE 1 (Lambda [] true (stats_of (ReturnS 2 (exps_of (
    CallE 2 (CallE 2 (IndexE 2 (IndexE 2 (NameE 2 (codes "mw")) (TextE 2 (codes "text"))) (TextE 2 (codes "gsplit"))) (exps_of (TextE 2 (codes "ab,c") ∷ TextE 2 (codes ",") ∷ []))) NoExp
    ∷ [])) ∷ [])))) ∷ [])) ∷ [])) ∷ [])

abbrev pub GsplitCosts : Type 0
GsplitCosts = (invoke_module (codes "X") 64 gsplit_costs 1123 ≡ Gives (codes "ab") 0) × (invoke_module (codes "X") 64 gsplit_costs 1122 ≡ Spends Steps 0)

-- Functions of `string` are the methods of texts.
--     return {f=function(...)
--     local s='aBc'
--     return s:upper():reverse():sub(1,2),s:lower(),s:len(),s:byte(2),string.char(72,105)
--     end}
abbrev pub methods_of_texts : Block
methods_of_texts = stats_of (ReturnS 1 (exps_of (TableE 1 (fields_of (Pair (TextE 1 (codes "f")) (FunctionE 1 (Lambda [] true (stats_of (
    LocalS 2 (codes "s" ∷ []) (exps_of (TextE 2 (codes "aBc") ∷ []))
    ∷ ReturnS 3 (exps_of (
    MethodE 3 (MethodE 3 (MethodE 3 (NameE 3 (codes "s")) (codes "upper") NoExp) (codes "reverse") NoExp) (codes "sub") (exps_of (NumberE 3 (pos 1) ∷ NumberE 3 (pos 2) ∷ []))
    ∷ MethodE 3 (NameE 3 (codes "s")) (codes "lower") NoExp
    ∷ MethodE 3 (NameE 3 (codes "s")) (codes "len") NoExp
    ∷ MethodE 3 (NameE 3 (codes "s")) (codes "byte") (exps_of (NumberE 3 (pos 2) ∷ []))
    ∷ CallE 3 (IndexE 3 (NameE 3 (codes "string")) (TextE 3 (codes "char"))) (exps_of (NumberE 3 (pos 72) ∷ NumberE 3 (pos 105) ∷ []))
    ∷ []))
    ∷ [])))) ∷ [])) ∷ [])) ∷ [])

abbrev pub MethodsOfTexts : Type 0
MethodsOfTexts = without_steps (invoke_module (codes "X") 126 methods_of_texts 6000) ≡ Gives (codes "CBabc366Hi") 0

-- `find` gives places, `match` gives captures, and nil where there is none.
--     return {f=function(...)
--     return ('hello'):find('l+'),('a.b'):find('.',2,true),('key=val'):match('(%w+)=(%w+)'),tostring(('x'):match('y'))
--     end}
abbrev pub searches_of_texts : Block
searches_of_texts = stats_of (ReturnS 1 (exps_of (TableE 1 (fields_of (Pair (TextE 1 (codes "f")) (FunctionE 1 (Lambda [] true (stats_of (ReturnS 2 (exps_of (
    MethodE 2 (ParenE 2 (TextE 2 (codes "hello"))) (codes "find") (exps_of (TextE 2 (codes "l+") ∷ []))
    ∷ MethodE 2 (ParenE 2 (TextE 2 (codes "a.b"))) (codes "find") (exps_of (TextE 2 (codes ".") ∷ NumberE 2 (pos 2) ∷ TrueE 2 ∷ []))
    ∷ MethodE 2 (ParenE 2 (TextE 2 (codes "key=val"))) (codes "match") (exps_of (TextE 2 (codes "(%w+)=(%w+)") ∷ []))
    ∷ CallE 2 (NameE 2 (codes "tostring")) (exps_of (MethodE 2 (ParenE 2 (TextE 2 (codes "x"))) (codes "match") (exps_of (TextE 2 (codes "y") ∷ [])) ∷ []))
    ∷ [])) ∷ [])))) ∷ [])) ∷ [])) ∷ [])

abbrev pub SearchesOfTexts : Type 0
SearchesOfTexts = without_steps (invoke_module (codes "X") 141 searches_of_texts 6000) ≡ Gives (codes "32keynil") 0

-- The last one of a list gives all that it finds.
--     return {f=function(...)
--     return ('hello'):find('(l)(l)')
--     end}
abbrev pub all_of_a_search : Block
all_of_a_search = stats_of (ReturnS 1 (exps_of (TableE 1 (fields_of (Pair (TextE 1 (codes "f")) (FunctionE 1 (Lambda [] true (stats_of (
    ReturnS 2 (exps_of (MethodE 2 (ParenE 2 (TextE 2 (codes "hello"))) (codes "find") (exps_of (TextE 2 (codes "(l)(l)") ∷ [])) ∷ []))
    ∷ [])))) ∷ [])) ∷ [])) ∷ [])

abbrev pub AllOfASearch : Type 0
AllOfASearch = without_steps (invoke_module (codes "X") 60 all_of_a_search 6000) ≡ Gives (codes "34ll") 0

-- `gmatch` gives the captures of one match after another.
--     return {f=function(...)
--     local n='' for k,v in ('a=1,b=2'):gmatch('(%w)=(%w)') do n=n..k..v..';' end
--     return n,(('x'):gmatch('y'))()==nil
--     end}
abbrev pub iterators : Block
iterators = stats_of (ReturnS 1 (exps_of (TableE 1 (fields_of (Pair (TextE 1 (codes "f")) (FunctionE 1 (Lambda [] true (stats_of (
    LocalS 2 (codes "n" ∷ []) (exps_of (TextE 2 [] ∷ []))
    ∷ EachS 2 (codes "k" ∷ codes "v" ∷ []) (exps_of (MethodE 2 (ParenE 2 (TextE 2 (codes "a=1,b=2"))) (codes "gmatch") (exps_of (TextE 2 (codes "(%w)=(%w)") ∷ [])) ∷ [])) (stats_of (AssignS 2 (exps_of (NameE 2 (codes "n") ∷ [])) (exps_of (
    BinaryE 2 op.Concat (NameE 2 (codes "n")) (BinaryE 2 op.Concat (NameE 2 (codes "k")) (BinaryE 2 op.Concat (NameE 2 (codes "v")) (TextE 2 (codes ";"))))
    ∷ [])) ∷ []))
    ∷ ReturnS 3 (exps_of (
    NameE 3 (codes "n")
    ∷ BinaryE 3 op.Eq (CallE 3 (ParenE 3 (MethodE 3 (ParenE 3 (TextE 3 (codes "x"))) (codes "gmatch") (exps_of (TextE 3 (codes "y") ∷ [])))) NoExp) (NilE 3)
    ∷ []))
    ∷ [])))) ∷ [])) ∷ [])) ∷ [])

abbrev pub Iterators : Type 0
Iterators = without_steps (invoke_module (codes "X") 140 iterators 6000) ≡ Gives (codes "a1;b2;true") 0

-- Iterators of `mw.ustring` and `mw.text`.
--     return {f=function(...)
--     local s,n=mw.ustring.char(233,97),''
--     for c in mw.ustring.gcodepoint(s) do n=n..c..' ' end
--     for p,c in mw.ustring.gmatch(s,'()(.)') do n=n..p..#c..' ' end
--     for p in mw.text.gsplit('x,y',',') do n=n..p..' ' end
--     return n
--     end}
abbrev pub iterators_of_code_points : Block
iterators_of_code_points = stats_of (ReturnS 1 (exps_of (TableE 1 (fields_of (Pair (TextE 1 (codes "f")) (FunctionE 1 (Lambda [] true (stats_of (
    LocalS 2 (codes "s" ∷ codes "n" ∷ []) (exps_of (
    CallE 2 (IndexE 2 (IndexE 2 (NameE 2 (codes "mw")) (TextE 2 (codes "ustring"))) (TextE 2 (codes "char"))) (exps_of (NumberE 2 (pos 233) ∷ NumberE 2 (pos 97) ∷ []))
    ∷ TextE 2 []
    ∷ []))
    ∷ EachS 3 (codes "c" ∷ []) (exps_of (
    CallE 3 (IndexE 3 (IndexE 3 (NameE 3 (codes "mw")) (TextE 3 (codes "ustring"))) (TextE 3 (codes "gcodepoint"))) (exps_of (NameE 3 (codes "s") ∷ []))
    ∷ [])) (stats_of (
    AssignS 3 (exps_of (NameE 3 (codes "n") ∷ [])) (exps_of (BinaryE 3 op.Concat (NameE 3 (codes "n")) (BinaryE 3 op.Concat (NameE 3 (codes "c")) (TextE 3 (codes " "))) ∷ []))
    ∷ []))
    ∷ EachS 4 (codes "p" ∷ codes "c" ∷ []) (exps_of (
    CallE 4 (IndexE 4 (IndexE 4 (NameE 4 (codes "mw")) (TextE 4 (codes "ustring"))) (TextE 4 (codes "gmatch"))) (exps_of (NameE 4 (codes "s") ∷ TextE 4 (codes "()(.)") ∷ []))
    ∷ [])) (stats_of (AssignS 4 (exps_of (NameE 4 (codes "n") ∷ [])) (exps_of (
    BinaryE 4 op.Concat (NameE 4 (codes "n")) (BinaryE 4 op.Concat (NameE 4 (codes "p")) (BinaryE 4 op.Concat (UnaryE 4 sign.Len (NameE 4 (codes "c"))) (TextE 4 (codes " "))))
    ∷ [])) ∷ []))
    ∷ EachS 5 (codes "p" ∷ []) (exps_of (
    CallE 5 (IndexE 5 (IndexE 5 (NameE 5 (codes "mw")) (TextE 5 (codes "text"))) (TextE 5 (codes "gsplit"))) (exps_of (TextE 5 (codes "x,y") ∷ TextE 5 (codes ",") ∷ []))
    ∷ [])) (stats_of (
    AssignS 5 (exps_of (NameE 5 (codes "n") ∷ [])) (exps_of (BinaryE 5 op.Concat (NameE 5 (codes "n")) (BinaryE 5 op.Concat (NameE 5 (codes "p")) (TextE 5 (codes " "))) ∷ []))
    ∷ []))
    ∷ ReturnS 6 (exps_of (NameE 6 (codes "n") ∷ []))
    ∷ [])))) ∷ [])) ∷ [])) ∷ [])

abbrev pub IteratorsOfCodePoints : Type 0
IteratorsOfCodePoints = without_steps (invoke_module (codes "X") 244 iterators_of_code_points 6000) ≡ Gives (codes "233 97 12 21 x y ") 0

-- Directives of `string.format`.
--     return {f=function(...)
--     return ('%05d|%-3s|%x|%q|%%'):format(42,'a',255,'b')
--     end}
abbrev pub formats : Block
formats = stats_of (ReturnS 1 (exps_of (TableE 1 (fields_of (Pair (TextE 1 (codes "f")) (FunctionE 1 (Lambda [] true (stats_of (ReturnS 2 (exps_of (
    MethodE 2 (ParenE 2 (TextE 2 (codes "%05d|%-3s|%x|%q|%%"))) (codes "format") (exps_of (NumberE 2 (pos 42) ∷ TextE 2 (codes "a") ∷ NumberE 2 (pos 255) ∷ TextE 2 (codes "b") ∷ []))
    ∷ [])) ∷ [])))) ∷ [])) ∷ [])) ∷ [])

abbrev pub Formats : Type 0
Formats = without_steps (invoke_module (codes "X") 81 formats 6000) ≡ Gives (codes "00042|a  |ff|\"b\"|%") 0

-- `insert`, `remove`, `sort` and `maxn`.
--     return {f=function(...)
--     local t={3,1}
--     table.insert(t,2) table.sort(t)
--     table.insert(t,1,'x')
--     return table.remove(t),#t,table.concat(t,'.'),table.maxn({1,[9]=2})
--     end}
abbrev pub tables_are_changed : Block
tables_are_changed = stats_of (ReturnS 1 (exps_of (TableE 1 (fields_of (Pair (TextE 1 (codes "f")) (FunctionE 1 (Lambda [] true (stats_of (
    LocalS 2 (codes "t" ∷ []) (exps_of (TableE 2 (fields_of (Item (NumberE 2 (pos 3)) ∷ Item (NumberE 2 (pos 1)) ∷ [])) ∷ []))
    ∷ CallS 3 (CallE 3 (IndexE 3 (NameE 3 (codes "table")) (TextE 3 (codes "insert"))) (exps_of (NameE 3 (codes "t") ∷ NumberE 3 (pos 2) ∷ [])))
    ∷ CallS 3 (CallE 3 (IndexE 3 (NameE 3 (codes "table")) (TextE 3 (codes "sort"))) (exps_of (NameE 3 (codes "t") ∷ [])))
    ∷ CallS 4 (CallE 4 (IndexE 4 (NameE 4 (codes "table")) (TextE 4 (codes "insert"))) (exps_of (NameE 4 (codes "t") ∷ NumberE 4 (pos 1) ∷ TextE 4 (codes "x") ∷ [])))
    ∷ ReturnS 5 (exps_of (
    CallE 5 (IndexE 5 (NameE 5 (codes "table")) (TextE 5 (codes "remove"))) (exps_of (NameE 5 (codes "t") ∷ []))
    ∷ UnaryE 5 sign.Len (NameE 5 (codes "t"))
    ∷ CallE 5 (IndexE 5 (NameE 5 (codes "table")) (TextE 5 (codes "concat"))) (exps_of (NameE 5 (codes "t") ∷ TextE 5 (codes ".") ∷ []))
    ∷ CallE 5 (IndexE 5 (NameE 5 (codes "table")) (TextE 5 (codes "maxn"))) (exps_of (TableE 5 (fields_of (Item (NumberE 5 (pos 1)) ∷ Pair (NumberE 5 (pos 9)) (NumberE 5 (pos 2)) ∷ [])) ∷ []))
    ∷ []))
    ∷ [])))) ∷ [])) ∷ [])) ∷ [])

abbrev pub TablesAreChanged : Type 0
TablesAreChanged = without_steps (invoke_module (codes "X") 164 tables_are_changed 6000) ≡ Gives (codes "33x.1.29") 0

-- Functions of `math`, over whole numbers.
--     return {f=function(...)
--     return math.abs(-5),math.floor(7),math.ceil(7),math.fmod(-7,3),math.max(1,3),math.min(2,1),math.pow(2,10)
--     end}
abbrev pub whole_numbers : Block
whole_numbers = stats_of (ReturnS 1 (exps_of (TableE 1 (fields_of (Pair (TextE 1 (codes "f")) (FunctionE 1 (Lambda [] true (stats_of (ReturnS 2 (exps_of (
    CallE 2 (IndexE 2 (NameE 2 (codes "math")) (TextE 2 (codes "abs"))) (exps_of (UnaryE 2 sign.Minus (NumberE 2 (pos 5)) ∷ []))
    ∷ CallE 2 (IndexE 2 (NameE 2 (codes "math")) (TextE 2 (codes "floor"))) (exps_of (NumberE 2 (pos 7) ∷ []))
    ∷ CallE 2 (IndexE 2 (NameE 2 (codes "math")) (TextE 2 (codes "ceil"))) (exps_of (NumberE 2 (pos 7) ∷ []))
    ∷ CallE 2 (IndexE 2 (NameE 2 (codes "math")) (TextE 2 (codes "fmod"))) (exps_of (UnaryE 2 sign.Minus (NumberE 2 (pos 7)) ∷ NumberE 2 (pos 3) ∷ []))
    ∷ CallE 2 (IndexE 2 (NameE 2 (codes "math")) (TextE 2 (codes "max"))) (exps_of (NumberE 2 (pos 1) ∷ NumberE 2 (pos 3) ∷ []))
    ∷ CallE 2 (IndexE 2 (NameE 2 (codes "math")) (TextE 2 (codes "min"))) (exps_of (NumberE 2 (pos 2) ∷ NumberE 2 (pos 1) ∷ []))
    ∷ CallE 2 (IndexE 2 (NameE 2 (codes "math")) (TextE 2 (codes "pow"))) (exps_of (NumberE 2 (pos 2) ∷ NumberE 2 (pos 10) ∷ []))
    ∷ [])) ∷ [])))) ∷ [])) ∷ [])) ∷ [])

abbrev pub WholeNumbers : Type 0
WholeNumbers = without_steps (invoke_module (codes "X") 134 whole_numbers 6000) ≡ Gives (codes "577-1311024") 0

-- `mw.ustring` counts code points, `#` counts bytes.
--     return {f=function(...)
--     local u=mw.ustring
--     local s=u.char(233,8364,97)
--     return #s,u.len(s),u.codepoint(s,2),u.sub(s,3),u.byteoffset(s,3),u.find(s,'a'),u.match(s,'.$'),tostring(u.isutf8(u.sub(s,1,1)))
--     end}
abbrev pub code_points : Block
code_points = stats_of (ReturnS 1 (exps_of (TableE 1 (fields_of (Pair (TextE 1 (codes "f")) (FunctionE 1 (Lambda [] true (stats_of (
    LocalS 2 (codes "u" ∷ []) (exps_of (IndexE 2 (NameE 2 (codes "mw")) (TextE 2 (codes "ustring")) ∷ []))
    ∷ LocalS 3 (codes "s" ∷ []) (exps_of (
    CallE 3 (IndexE 3 (NameE 3 (codes "u")) (TextE 3 (codes "char"))) (exps_of (NumberE 3 (pos 233) ∷ NumberE 3 (pos 8364) ∷ NumberE 3 (pos 97) ∷ []))
    ∷ []))
    ∷ ReturnS 4 (exps_of (
    UnaryE 4 sign.Len (NameE 4 (codes "s"))
    ∷ CallE 4 (IndexE 4 (NameE 4 (codes "u")) (TextE 4 (codes "len"))) (exps_of (NameE 4 (codes "s") ∷ []))
    ∷ CallE 4 (IndexE 4 (NameE 4 (codes "u")) (TextE 4 (codes "codepoint"))) (exps_of (NameE 4 (codes "s") ∷ NumberE 4 (pos 2) ∷ []))
    ∷ CallE 4 (IndexE 4 (NameE 4 (codes "u")) (TextE 4 (codes "sub"))) (exps_of (NameE 4 (codes "s") ∷ NumberE 4 (pos 3) ∷ []))
    ∷ CallE 4 (IndexE 4 (NameE 4 (codes "u")) (TextE 4 (codes "byteoffset"))) (exps_of (NameE 4 (codes "s") ∷ NumberE 4 (pos 3) ∷ []))
    ∷ CallE 4 (IndexE 4 (NameE 4 (codes "u")) (TextE 4 (codes "find"))) (exps_of (NameE 4 (codes "s") ∷ TextE 4 (codes "a") ∷ []))
    ∷ CallE 4 (IndexE 4 (NameE 4 (codes "u")) (TextE 4 (codes "match"))) (exps_of (NameE 4 (codes "s") ∷ TextE 4 (codes ".$") ∷ []))
    ∷ CallE 4 (NameE 4 (codes "tostring")) (exps_of (CallE 4 (IndexE 4 (NameE 4 (codes "u")) (TextE 4 (codes "isutf8"))) (exps_of (
    CallE 4 (IndexE 4 (NameE 4 (codes "u")) (TextE 4 (codes "sub"))) (exps_of (NameE 4 (codes "s") ∷ NumberE 4 (pos 1) ∷ NumberE 4 (pos 1) ∷ []))
    ∷ [])) ∷ []))
    ∷ []))
    ∷ [])))) ∷ [])) ∷ [])) ∷ [])

abbrev pub CodePoints : Type 0
CodePoints = without_steps (invoke_module (codes "X") 203 code_points 6000) ≡ Gives (codes "638364a63atrue") 0

-- Functions of `mw.text`.
--     return {f=function(...)
--     local t=mw.text
--     return t.trim(' x '),t.encode('<b>'),t.decode('&lt;'),t.nowiki('['),t.listToText({1,2,3}),t.truncate('abcdef',3),t.tag('i',{id=1},'y')
--     end}
abbrev pub texts_of_pages : Block
texts_of_pages = stats_of (ReturnS 1 (exps_of (TableE 1 (fields_of (Pair (TextE 1 (codes "f")) (FunctionE 1 (Lambda [] true (stats_of (
    LocalS 2 (codes "t" ∷ []) (exps_of (IndexE 2 (NameE 2 (codes "mw")) (TextE 2 (codes "text")) ∷ []))
    ∷ ReturnS 3 (exps_of (
    CallE 3 (IndexE 3 (NameE 3 (codes "t")) (TextE 3 (codes "trim"))) (exps_of (TextE 3 (codes " x ") ∷ []))
    ∷ CallE 3 (IndexE 3 (NameE 3 (codes "t")) (TextE 3 (codes "encode"))) (exps_of (TextE 3 (codes "<b>") ∷ []))
    ∷ CallE 3 (IndexE 3 (NameE 3 (codes "t")) (TextE 3 (codes "decode"))) (exps_of (TextE 3 (codes "&lt;") ∷ []))
    ∷ CallE 3 (IndexE 3 (NameE 3 (codes "t")) (TextE 3 (codes "nowiki"))) (exps_of (TextE 3 (codes "[") ∷ []))
    ∷ CallE 3 (IndexE 3 (NameE 3 (codes "t")) (TextE 3 (codes "listToText"))) (exps_of (TableE 3 (fields_of (Item (NumberE 3 (pos 1)) ∷ Item (NumberE 3 (pos 2)) ∷ Item (NumberE 3 (pos 3)) ∷ [])) ∷ []))
    ∷ CallE 3 (IndexE 3 (NameE 3 (codes "t")) (TextE 3 (codes "truncate"))) (exps_of (TextE 3 (codes "abcdef") ∷ NumberE 3 (pos 3) ∷ []))
    ∷ CallE 3 (IndexE 3 (NameE 3 (codes "t")) (TextE 3 (codes "tag"))) (exps_of (
    TextE 3 (codes "i")
    ∷ TableE 3 (fields_of (Pair (TextE 3 (codes "id")) (NumberE 3 (pos 1)) ∷ []))
    ∷ TextE 3 (codes "y")
    ∷ []))
    ∷ []))
    ∷ [])))) ∷ [])) ∷ [])) ∷ [])

abbrev pub TextsOfPages : Type 0
TextsOfPages = without_steps (invoke_module (codes "X") 179 texts_of_pages 6000) ≡ Gives (codes "x&lt;b&gt;<&#91;1, 2 and 3abc...<i id=\"1\">y</i>") 0

-- A wrong argument is told with its place.
--     return {f=function(...)
--     return select(2,pcall(function() local s=string.rep('x') end)),';',select(2,pcall(function() local n=math.max() end)),';',select(2,pcall(function() local n=table.concat({1,{}}) end))
--     end}
abbrev pub wrong_arguments : Block
wrong_arguments = stats_of (ReturnS 1 (exps_of (TableE 1 (fields_of (Pair (TextE 1 (codes "f")) (FunctionE 1 (Lambda [] true (stats_of (ReturnS 2 (exps_of (
    CallE 2 (NameE 2 (codes "select")) (exps_of (
    NumberE 2 (pos 2)
    ∷ CallE 2 (NameE 2 (codes "pcall")) (exps_of (FunctionE 2 (Lambda [] false (stats_of (
    LocalS 2 (codes "s" ∷ []) (exps_of (CallE 2 (IndexE 2 (NameE 2 (codes "string")) (TextE 2 (codes "rep"))) (exps_of (TextE 2 (codes "x") ∷ [])) ∷ []))
    ∷ []))) ∷ []))
    ∷ []))
    ∷ TextE 2 (codes ";")
    ∷ CallE 2 (NameE 2 (codes "select")) (exps_of (
    NumberE 2 (pos 2)
    ∷ CallE 2 (NameE 2 (codes "pcall")) (exps_of (FunctionE 2 (Lambda [] false (stats_of (
    LocalS 2 (codes "n" ∷ []) (exps_of (CallE 2 (IndexE 2 (NameE 2 (codes "math")) (TextE 2 (codes "max"))) NoExp ∷ []))
    ∷ []))) ∷ []))
    ∷ []))
    ∷ TextE 2 (codes ";")
    ∷ CallE 2 (NameE 2 (codes "select")) (exps_of (
    NumberE 2 (pos 2)
    ∷ CallE 2 (NameE 2 (codes "pcall")) (exps_of (FunctionE 2 (Lambda [] false (stats_of (LocalS 2 (codes "n" ∷ []) (exps_of (
    CallE 2 (IndexE 2 (NameE 2 (codes "table")) (TextE 2 (codes "concat"))) (exps_of (TableE 2 (fields_of (Item (NumberE 2 (pos 1)) ∷ Item (TableE 2 NoField) ∷ [])) ∷ []))
    ∷ [])) ∷ []))) ∷ []))
    ∷ []))
    ∷ [])) ∷ [])))) ∷ [])) ∷ [])) ∷ [])

abbrev pub WrongArguments : Type 0
WrongArguments = without_steps (invoke_module (codes "X") 211 wrong_arguments 6000) ≡ Gives (codes "Module:X:2: bad argument #2 to 'rep' (number expected, got no value);Module:X:2: bad argument #1 to 'max' (number expected, got no value);Module:X:2: invalid value (at index 2) in table for 'concat'") 0

-- `next` goes through the names of a library in this order.
--     return {f=function(...)
--     local n='' for k in pairs(math) do n=n..k..' ' end
--     return n
--     end}
abbrev pub names_in_order : Block
names_in_order = stats_of (ReturnS 1 (exps_of (TableE 1 (fields_of (Pair (TextE 1 (codes "f")) (FunctionE 1 (Lambda [] true (stats_of (
    LocalS 2 (codes "n" ∷ []) (exps_of (TextE 2 [] ∷ []))
    ∷ EachS 2 (codes "k" ∷ []) (exps_of (CallE 2 (NameE 2 (codes "pairs")) (exps_of (NameE 2 (codes "math") ∷ [])) ∷ [])) (stats_of (
    AssignS 2 (exps_of (NameE 2 (codes "n") ∷ [])) (exps_of (BinaryE 2 op.Concat (NameE 2 (codes "n")) (BinaryE 2 op.Concat (NameE 2 (codes "k")) (TextE 2 (codes " "))) ∷ []))
    ∷ []))
    ∷ ReturnS 3 (exps_of (NameE 3 (codes "n") ∷ []))
    ∷ [])))) ∷ [])) ∷ [])) ∷ [])

abbrev pub NamesInOrder : Type 0
NamesInOrder = without_steps (invoke_module (codes "X") 88 names_in_order 6000) ≡ Gives (codes "abs ceil floor fmod max min pow ") 0

-- ALL OF THEM
abbrev pub AllLibraries : Type 0
AllLibraries =
    RepCosts
    × FormatCosts
    × ConcatCosts
    × MaxCosts
    × SplitCosts
    × GmatchCosts
    × GsplitCosts
    × MethodsOfTexts
    × SearchesOfTexts
    × AllOfASearch
    × Iterators
    × IteratorsOfCodePoints
    × Formats
    × TablesAreChanged
    × WholeNumbers
    × CodePoints
    × TextsOfPages
    × WrongArguments
    × NamesInOrder
