-- How a pattern is read: its items and captures, or the first fault (Lua 5.1 manual, 5.4.1).
use Rattle.std.specs.Prelude.{ℕ, zero, suc, ◌+◌, ◌-◌, Bool, true, false, cond, not, ◌&&◌, ◌||◌, ◌==◌, nat_le, List, [], ◌∷◌, ◌++◌, Option, Some, None, length, slice_get, slice_set, map}
use Rattle.lua_pattern.specs.declared.item.Class.{Class}
use Rattle.lua_pattern.specs.declared.item.Class.TheVariants.{Letter, Control, Digit, Lower, Punctuation, Space, Upper, Alphanumeric, Hexadecimal, Zero}
use Rattle.lua_pattern.specs.declared.item.Part.{Part}
use Rattle.lua_pattern.specs.declared.item.Part.TheVariants as part
use Rattle.lua_pattern.specs.declared.item.Single.{Single}
use Rattle.lua_pattern.specs.declared.item.Single.TheVariants as single
use Rattle.lua_pattern.specs.declared.item.Item.{Item}
use Rattle.lua_pattern.specs.declared.item.Item.TheVariants as item
use Rattle.lua_pattern.specs.declared.slots.Slot.{Slot}
use Rattle.lua_pattern.specs.declared.slots.Slot.TheVariants as slot
use Rattle.lua_pattern.specs.declared.read.Reading.{Reading}
use Rattle.lua_pattern.specs.Texts.{is_upper, between}
use Rattle.lua_pattern.specs.Letters.{Symbol, Letters}

-- the class of a small letter
abbrev pub class_of : ℕ → Option Class
class_of c =
    cond (c == 97) (Some Letter) (cond (c == 99) (Some Control) (cond (c == 100) (Some Digit)
    (cond (c == 108) (Some Lower) (cond (c == 112) (Some Punctuation) (cond (c == 115) (Some Space)
    (cond (c == 117) (Some Upper) (cond (c == 119) (Some Alphanumeric) (cond (c == 120) (Some Hexadecimal)
    (cond (c == 122) (Some Zero) None)))))))))

abbrev pub part_or : Bool → ℕ → Option Class → Part
part_or negated c None = part.Range c c
part_or negated c (Some class) = part.Kind class negated

-- what `%` with a character stands for: a class, for a capital its complement, or the character
abbrev pub escaped : ℕ → Part
escaped c = cond (is_upper c) (part_or true c (class_of (c + 32))) (part_or false c (class_of c))

abbrev pub single_of : Part → Single
single_of (part.Range low high) = single.Plain low
single_of (part.Kind class negated) = single.Kind class negated

-- A part of a set, and the text after it; or the text ends in it.
pub data PartRead : Type 0 where
  Cut : PartRead
  Took : Part → List ℕ → PartRead

abbrev pub escaped_part : List ℕ → PartRead
escaped_part [] = Cut
escaped_part (c ∷ cs) = Took (escaped c) cs

-- a range, where `-` and a character that is not `]` or `%` follow
abbrev pub plain_part : ℕ → List ℕ → PartRead
plain_part a [] = Took (part.Range a a) []
plain_part a (d ∷ []) = Took (part.Range a a) (d ∷ [])
plain_part a (d ∷ (c ∷ cs)) =
    cond ((d == 45) && (not (c == 93) && not (c == 37))) (Took (part.Range a c) cs) (Took (part.Range a a) (d ∷ c ∷ cs))

abbrev pub part_of : List ℕ → PartRead
part_of [] = Cut
part_of (b ∷ bs) = cond (b == 37) (escaped_part bs) (plain_part b bs)

-- The parts of a set and the text after its `]`; or there is no `]`.
pub data SetRead : Type 0 where
  Unclosed : SetRead
  Closed : List Part → List ℕ → SetRead

abbrev pub and_parts : (List ℕ → List Part → SetRead) → PartRead → List Part → SetRead
and_parts rest Cut parts = Unclosed
and_parts rest (Took p text) parts = rest text (parts ++ p ∷ [])

-- the parts up to `]`, of which there are fewer than n
abbrev pub parts_from : ℕ → List ℕ → List Part → SetRead
parts_from zero text parts = Unclosed
parts_from (suc n) [] parts = Unclosed
parts_from (suc n) (b ∷ bs) parts = cond (b == 93) (Closed parts bs) (and_parts (parts_from n) (part_of (b ∷ bs)) parts)

-- The first part may begin with `]`.
abbrev pub set_body : List ℕ → SetRead
set_body text = and_parts (parts_from (length text)) (part_of text) []

abbrev pub is_turned : List ℕ → Bool
is_turned [] = false
is_turned (b ∷ bs) = b == 94

abbrev pub after_turn : List ℕ → List ℕ
after_turn [] = []
after_turn (b ∷ bs) = cond (b == 94) bs (b ∷ bs)

-- One item is read, with the text after it; or there is a fault.
pub data Next : Type 0 where
  Stops : ℕ → Next
  Goes : List ℕ → Reading → Next

abbrev pub with_item : Item → Reading → Reading
with_item x r = record r { items = r.items ++ x ∷ [] }

-- a single character with the mark of repetition after it, and the text after both
abbrev pub repetition : Single → List ℕ → Item
repetition x [] = item.One x
repetition x (b ∷ bs) =
    cond (b == 42) (item.Star x) (cond (b == 43) (item.Plus x) (cond (b == 45) (item.Minus x) (cond (b == 63) (item.Maybe x) (item.One x))))

abbrev pub after_repetition : List ℕ → List ℕ
after_repetition [] = []
after_repetition (b ∷ bs) = cond ((b == 42) || (b == 43) || (b == 45) || (b == 63)) bs (b ∷ bs)

abbrev pub repeated : Single → List ℕ → Reading → Next
repeated x text r = Goes (after_repetition text) (with_item (repetition x text) r)

abbrev pub set_item : Bool → SetRead → Reading → Next
set_item negated Unclosed r = Stops 2
set_item negated (Closed parts text) r = repeated (single.Of (record { negated = negated; parts = parts })) text r

abbrev pub frontier_item : Bool → SetRead → Reading → Next
frontier_item negated Unclosed r = Stops 2
frontier_item negated (Closed parts text) r = Goes text (with_item (item.Frontier (record { negated = negated; parts = parts })) r)

abbrev pub frontier : List ℕ → Reading → Next
frontier [] r = Stops 3
frontier (b ∷ bs) r = cond (b == 91) (frontier_item (is_turned bs) (set_body (after_turn bs)) r) (Stops 3)

abbrev pub balance : List ℕ → Reading → Next
balance [] r = Stops 8
balance (x ∷ []) r = Stops 8
balance (x ∷ (y ∷ ys)) r = Goes ys (with_item (item.Balance x y) r)

-- a capture that is closed
abbrev pub back : Option Slot → List ℕ → Reading → Next
back (Some (slot.Text first last)) text r = Goes text (with_item (item.Back first last) r)
back _ text r = Stops 7

abbrev pub after_escape : List ℕ → Reading → Next
after_escape [] r = Stops 1
after_escape (c ∷ cs) r =
    cond (c == 98) (balance cs r)
    (cond (c == 102) (frontier cs r)
    (cond (between 49 57 c) (back (slice_get r.slots (c - 49)) cs r)
    (repeated (single_of (escaped c)) cs r)))

-- a mark, and what becomes of the captures
abbrev pub marked : List Slot → Reading → Reading
marked slots r = record { items = r.items ++ item.Mark ∷ []; slots = slots; marks = r.marks + 1 }

abbrev pub point_or_open : List ℕ → Reading → Next
point_or_open [] r = Goes [] (marked (r.slots ++ slot.Open r.marks ∷ []) r)
point_or_open (b ∷ bs) r =
    cond (b == 41) (Goes bs (marked (r.slots ++ slot.Point r.marks ∷ []) r))
    (Goes (b ∷ bs) (marked (r.slots ++ slot.Open r.marks ∷ []) r))

-- the last capture that is open: its place in the list, and its first mark
abbrev pub later_or : Slot → Option (ℕ × ℕ) → Option (ℕ × ℕ)
later_or s (Some p) = Some (p.0 + 1, p.1)
later_or (slot.Open mark) None = Some (0, mark)
later_or (slot.Text first last) None = None
later_or (slot.Point mark) None = None

abbrev pub last_open : List Slot → Option (ℕ × ℕ)
last_open [] = None
last_open (s ∷ ss) = later_or s (last_open ss)

abbrev pub shut : Option (ℕ × ℕ) → List ℕ → Reading → Next
shut None text r = Stops 5
shut (Some p) text r = Goes text (marked (slice_set r.slots p.0 (slot.Text p.1 r.marks)) r)

-- a plain character; `$` is plain unless it is last
abbrev pub plain : ℕ → List ℕ → Reading → Next
plain b [] r = Goes [] (with_item (cond (b == 36) item.End (item.One (single.Plain b))) r)
plain b (c ∷ cs) r = repeated (single.Plain b) (c ∷ cs) r

-- an item that is no mark of a capture
abbrev pub single_item : ℕ → List ℕ → Reading → Next
single_item b bs r =
    cond (b == 37) (after_escape bs r)
    (cond (b == 91) (set_item (is_turned bs) (set_body (after_turn bs)) r)
    (cond (b == 46) (repeated single.Any bs r)
    (plain b bs r)))

-- one item
abbrev pub next : List ℕ → Reading → Next
next [] r = Goes [] r
next (b ∷ bs) r =
    cond (b == 40) (cond (nat_le 32 (length r.slots)) (Stops 6) (point_or_open bs r))
    (cond (b == 41) (shut (last_open r.slots) bs r)
    (single_item b bs r))

-- What the reading of a whole pattern gives.
pub data Read : Type 0 where
  Fault : ℕ → Read
  Fine : Bool → List Item → List Slot → Read

-- A capture that is not closed is the last fault.
abbrev pub finished : Bool → Option (ℕ × ℕ) → Reading → Read
finished anchored None r = Fine anchored r.items r.slots
finished anchored (Some p) r = Fault 4

abbrev pub go_on : (List ℕ → Reading → Read) → Next → Read
go_on rest (Stops n) = Fault n
go_on rest (Goes text r) = rest text r

-- the items of a text of at most n symbols
abbrev pub read_from : Bool → ℕ → List ℕ → Reading → Read
read_from anchored zero text r = finished anchored (last_open r.slots) r
read_from anchored (suc n) [] r = finished anchored (last_open r.slots) r
read_from anchored (suc n) (b ∷ bs) r = go_on (read_from anchored n) (next (b ∷ bs) r)

abbrev pub begun : Reading
begun = record { items = []; slots = []; marks = 0 }

-- A first `^` is the anchor.
abbrev pub read_of : List ℕ → Read
read_of text = read_from (is_turned text) (length (after_turn text)) (after_turn text) begun

-- A first `^` is plain.
abbrev pub read_unanchored : List ℕ → Read
read_unanchored text = read_from false (length text) text begun

-- the codes of the symbols of a text, of which a pattern is read
abbrev pub codes : Letters → List ℕ → List ℕ
codes a text = map (λ (c : Symbol). c.code) (a.symbols text)
