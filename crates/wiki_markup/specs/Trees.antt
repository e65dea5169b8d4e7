-- The tree of a list of items, and its preorder. MediaWiki's manual, "Preprocessor ABNF", on parts and their names.
use Rattle.std.specs.Prelude.{ℕ, suc, zero, ◌+◌, Bool, true, false, List, [], ◌∷◌, ◌++◌, cond}
use Rattle.wiki_markup.specs.declared.cells.Shape.TheVariants.{Double, Triple, Square}
use Rattle.wiki_markup.specs.Nodes.{Node, NodeKind, Text, Construct, Parameter, Part, Equals}
pub use Rattle.wiki_markup.specs.declared.cells.Place.{Place as Where}
pub use Rattle.wiki_markup.specs.declared.cells.Place.TheVariants.{Outside, FirstPart, LaterPart, BehindEquals}
use Rattle.wiki_markup.specs.Items.{Opening, Closing, Split, Assign, Byte, Items, none, one, group, letters_from, items_from}
use Rattle.wiki_markup.specs.Pairing.{opening_byte, closing_byte, rewrite_all}
use Rattle.wiki_markup.specs.declared.marked.ShownText.{ShownText}

-- Trees side by side: a text, an `=` or a node with what stands in it, and then the trees behind it.
pub data Trees : Type 0 where
  done : Trees
  text : List ℕ → Trees → Trees
  equals : Trees → Trees
  node : NodeKind → Trees → Trees → Trees

-- a byte in front: it joins a text that stands there
abbrev pub byte : ℕ → Trees → Trees
byte b (text bs rest) = text (b ∷ bs) rest
byte b done = text (b ∷ []) done
byte b (equals rest) = text (b ∷ []) (equals rest)
byte b (node kind inside rest) = text (b ∷ []) (node kind inside rest)

unfoldable pub bytes : ℕ → ℕ → Trees → Trees
bytes zero b after = after
bytes (suc n) b after = byte b (bytes n b after)

-- Where items stand directly: in no part (or in brackets), in the first part of a node, in a later part
-- that has no `=` yet, or in a later part behind its `=`.
abbrev pub splits : Where → Bool
splits Outside = false
splits _ = true

abbrev pub assigns : Where → Bool
assigns LaterPart = true
assigns _ = false

-- The trees of the part that is open, and the later parts.
pub record Parts : Type 0 where
  pub here : Trees
  pub later : Trees

abbrev pub in_front : (Trees → Trees) → Parts → Parts
in_front f p = record { here = f p.here; later = p.later }

abbrev pub part_of : Parts → Trees
part_of p = node Part p.here p.later

abbrev pub nothing : Parts
nothing = record { here = done; later = done }

-- A single brace or bracket that is left is text; so are a run that is never closed and the marks of brackets.
-- A `|` in a part begins the next one, and the first `=` of a later part is its `=`. Elsewhere they are text.
unfoldable pub trees_of : Where → Items → Parts → Parts
trees_of w none after = after
trees_of w (one (Opening p n) rest) after = in_front (bytes n (opening_byte p)) (trees_of w rest after)
trees_of w (one (Closing p n) rest) after = in_front (bytes n (closing_byte p)) (trees_of w rest after)
trees_of w (one (Byte b) rest) after = in_front (byte b) (trees_of w rest after)
trees_of w (one Split rest) after = cond (splits w)
    (record { here = done; later = part_of (trees_of LaterPart rest after) })
    (in_front (byte 124) (trees_of w rest after))
trees_of w (one Assign rest) after = cond (assigns w)
    (in_front equals (trees_of BehindEquals rest after))
    (in_front (byte 61) (trees_of w rest after))
trees_of w (group Square inside rest) after =
    in_front (bytes 2 91) (trees_of Outside inside (in_front (bytes 2 93) (trees_of w rest after)))
trees_of w (group Double inside rest) after =
    in_front (node Construct (part_of (trees_of FirstPart inside nothing))) (trees_of w rest after)
trees_of w (group Triple inside rest) after =
    in_front (node Parameter (part_of (trees_of FirstPart inside nothing))) (trees_of w rest after)

unfoldable pub count : Trees → ℕ
count done = 0
count (text bs rest) = 1 + count rest
count (equals rest) = 1 + count rest
count (node kind inside rest) = 1 + (count inside + count rest)

-- The nodes in preorder, from a place on.
unfoldable pub preorder : ℕ → Trees → List Node
preorder at done = []
preorder at (text bs rest) = record { kind = Text bs; end = at + 1 } ∷ preorder (at + 1) rest
preorder at (equals rest) = record { kind = Equals; end = at + 1 } ∷ preorder (at + 1) rest
preorder at (node kind inside rest) =
    record { kind = kind; end = at + 1 + count inside }
    ∷ (preorder (at + 1) inside ++ preorder (at + 1 + count inside) rest)

-- The pairing of a shown text.
abbrev pub pairing : ShownText → Trees
pairing s = (trees_of Outside (rewrite_all (items_from 0 (letters_from s.literals s.cuts 0 s.bytes))) nothing).here

abbrev pub marked_of : ShownText → List Node
marked_of s = preorder 0 (pairing s)
