-- THE RENDERING OF MARKUP (Scribunto, HTML library, `tostring`): the bytes of an object with all that is in it.
use Rattle.std.specs.Prelude.{ℕ, zero, suc, ◌+◌, Bool, true, false, not, ◌||◌, ◌&&◌, if◌then◌else◌, List, [], ◌∷◌, ◌++◌, codes, length, slice_index_or}
use Rattle.std.specs.List.{flat_map}
use Rattle.lua_heap.specs.Heap.{MarkupStyle, Item, StyleText, MarkupChild, ChildText, ChildNode, MarkupNode, no_markup}
use Rattle.mw_html.specs.Names.{escape, closes_itself}

-- WHAT IS GIVEN up to an end: the bytes, and how many objects were begun. The end may be an object that stands too deep.
pub data Piece : Type 0 where
  Whole : (bytes : List ℕ) (begun : ℕ) → Piece
  Deep : (bytes : List ℕ) (begun : ℕ) → Piece

abbrev pub given : List ℕ → Piece
given bytes = Whole bytes 0

-- an object begins
abbrev pub begins : Piece
begins = Whole [] 1

abbrev pub too_deep : Piece
too_deep = Deep [] 0

-- one piece, and then another, which doesn't come where the first one ended too deep
abbrev pub and_then : Piece → Piece → Piece
and_then (Deep a n) q = Deep a n
and_then (Whole a n) (Whole b m) = Whole (a ++ b) (n + m)
and_then (Whole a n) (Deep b m) = Deep (a ++ b) (n + m)

-- what a piece counts: the objects begun, and the bytes
abbrev pub count : Piece → ℕ
count (Whole a n) = n + length a
count (Deep a n) = n + length a

-- A TAG. Its attributes stand in the order in which they were set first, and then its styles.
abbrev pub attr : List ℕ × List ℕ → List ℕ
attr p = codes " " ++ p.0 ++ codes "=\"" ++ escape p.1 ++ codes "\""

abbrev pub style : MarkupStyle → List ℕ
style (Item name value) = escape name ++ codes ":" ++ escape value
style (StyleText bytes) = escape bytes

abbrev pub next_style : MarkupStyle → List ℕ
next_style s = codes ";" ++ style s

abbrev pub styles : List MarkupStyle → List ℕ
styles [] = []
styles (s ∷ ss) = codes " style=\"" ++ style s ++ flat_map next_style ss ++ codes "\""

abbrev pub is_empty : List ℕ → Bool
is_empty [] = true
is_empty (b ∷ bs) = false

-- a tag that closes itself, by its name or since it was made so
abbrev pub is_void : MarkupNode → Bool
is_void n = n.closed || closes_itself n.name

abbrev pub tag_end : Bool → List ℕ
tag_end true = codes " />"
tag_end false = codes ">"

-- an object without a name has no tag
abbrev pub opening : MarkupNode → List ℕ
opening n =
    if is_empty n.name then []
    else codes "<" ++ n.name ++ flat_map attr n.attrs ++ styles n.styles ++ tag_end (is_void n)

abbrev pub closing : List ℕ → List ℕ
closing name = if is_empty name then [] else codes "</" ++ name ++ codes ">"

-- WHAT IS IN IT, where the objects in it are given by a function of their numbers. In a tag that closes itself nothing is given.
abbrev pub child : (ℕ → Piece) → MarkupChild → Piece
child node (ChildText bytes) = given bytes
child node (ChildNode i) = node i

abbrev pub children : (ℕ → Piece) → List MarkupChild → Piece
children node [] = given []
children node (c ∷ cs) = and_then (child node c) (children node cs)

abbrev pub is_shut : MarkupNode → Bool
is_shut n = not (is_empty n.name) && is_void n

abbrev pub inside : (ℕ → Piece) → MarkupNode → Piece
inside node n = if is_shut n then given [] else and_then (children node n.children) (given (closing n.name))

-- AN OBJECT with room for so many levels of objects, itself among them
unfoldable pub node : List MarkupNode → ℕ → ℕ → Piece
node nodes zero i = too_deep
node nodes (suc room) i =
    let n = slice_index_or nodes i no_markup in
    and_then begins (and_then (given (opening n)) (inside (node nodes room) n))

-- at most 200 objects stand above an object
abbrev pub render : List MarkupNode → ℕ → Piece
render nodes root = node nodes 201 root
