-- WORKED EXAMPLES: texts, and their layouts.
use Rattle.std.specs.Prelude.{◌≡◌, ℕ, List, [], ◌∷◌, ◌++◌, codes}
use Rattle.lua_print.specs.Layout.{layout_of}

-- lines, each with LF behind it
abbrev pub lines : List (List ℕ) → List ℕ
lines [] = []
lines (line ∷ rest) = line ++ (10 ∷ lines rest)

-- a text becomes another one
pub record Row : Type 0 where
  pub before : List ℕ
  pub behind : List ℕ

abbrev pub row : List ℕ → List ℕ → Row
row before behind = record { before = before; behind = behind }

-- spaces, blank lines and levels
abbrev pub levels : Row
levels = row
    (lines (codes "local p={}" ∷ [] ∷ codes "  function p.f (x)" ∷ codes "if x then return x [ 1 ] end -- c" ∷ codes "end" ∷ codes "return p" ∷ []))
    (lines (codes "local p = {}" ∷ [] ∷ codes "function p.f(x)" ∷ codes "  if x then return x[1] end -- c" ∷ codes "end" ∷ codes "return p" ∷ []))

-- a long bracket behind [, and two signs
abbrev pub brackets : Row
brackets = row (codes "return t[ [[k]] ], - - 1") (lines (codes "return t[ [[k]]], - - 1" ∷ []))

-- branches, an empty table, and more than two line breaks
abbrev pub branches : Row
branches = row
    (lines (codes "if a then" ∷ codes "f {  }" ∷ codes "elseif b then" ∷ codes "g'x' . y : z ( # t )" ∷ [] ∷ [] ∷ [] ∷ codes "else h()" ∷ codes "end" ∷ []))
    (lines (codes "if a then" ∷ codes "  f {}" ∷ codes "elseif b then" ∷ codes "  g 'x'.y:z(#t)" ∷ [] ∷ codes "else h()" ∷ codes "end" ∷ []))

-- comments at each place; one that ends its line keeps it
abbrev pub comments : Row
comments = row
    (lines (codes " --[[a]]x.--[=[b]=]y=1--c" ∷ codes "    --d" ∷ []))
    (lines (codes "--[[a]] x.--[=[b]=] y = 1 --c" ∷ codes "--d" ∷ []))

-- CR, CRLF and LFCR are line breaks
abbrev pub line_breaks : Row
line_breaks = row
    (codes "a=1" ++ (13 ∷ 10 ∷ codes "b=2") ++ (10 ∷ 13 ∷ codes "c=3") ++ (13 ∷ 13 ∷ codes "d=4"))
    (lines (codes "a = 1" ∷ codes "b = 2" ∷ codes "c = 3" ∷ [] ∷ codes "d = 4" ∷ []))

abbrev pub blank : Row
blank = row (32 ∷ 10 ∷ 9 ∷ []) []

-- THE ROWS HOLD
abbrev pub IsRow : Row → Type 0
IsRow r = layout_of r.before ≡ r.behind

abbrev pub RowsHold : Type 0
RowsHold = IsRow levels × IsRow brackets × IsRow branches × IsRow comments × IsRow line_breaks × IsRow blank
