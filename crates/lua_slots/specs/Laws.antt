-- LAWS of code and of moves.
use Rattle.std.specs.Prelude.{◌≡◌, ◌≤◌, ℕ, ◌+◌, ◌-◌, Some}
use Rattle.lua_meaning.specs.LuaSyntaxTree.{Block}
use Rattle.lua_meaning.specs.Scope.{Bytes}
use Rattle.lua_slots.specs.Code.{CBlock, CProto, Protos, CWorld}
use Rattle.lua_slots.specs.Sight.{Sight}
use Rattle.lua_slots.specs.IsCode.{any_sight, IsBlock}
use Rattle.lua_slots.specs.Slots.{Slots}
use Rattle.lua_slots.specs.Points.{Point, Move, Costs, Marks, Enters, Exits, Now}
use Rattle.lua_slots.specs.Moves.{moves}
use Rattle.lua_slots.specs.Enact.{Funds, Stands, enact}

-- CODE STAYS CODE when a module has more functions: where each that was there is there, and each constant is what it was
abbrev pub CodeStays : Type 0
CodeStays = (at more : Protos) → ((i : ℕ) (p : CProto) → at.function i ≡ Some p → more.function i ≡ Some p) → ((n : ℕ) (t : Bytes) → at.constant n ≡ t → more.constant n ≡ t) → (see : Sight) (b : Block) (c : CBlock) → IsBlock at any_sight see b c → IsBlock more any_sight see b c

-- THE STEPS that a move costs, and its MARKS
abbrev pub costs_of : Move → ℕ
costs_of (Costs n mv) = n + costs_of mv
costs_of (Marks mv) = costs_of mv
costs_of (Enters mv) = costs_of mv
costs_of (Exits mv) = costs_of mv
costs_of (Now point s) = 0

abbrev pub marks_of : Move → ℕ
marks_of (Costs n mv) = marks_of mv
marks_of (Marks mv) = 1 + marks_of mv
marks_of (Enters mv) = marks_of mv
marks_of (Exits mv) = marks_of mv
marks_of (Now point s) = 0

-- no move marks more than it costs
abbrev pub MarksArePaid : Type 0
MarksArePaid = (world : CWorld) (point : Point) (s : Slots) → marks_of (moves world point s) ≤ costs_of (moves world point s)

-- Along the move each mark stands behind a step of its own, with so many steps ahead: so this is true of a move that is spent, too.
abbrev pub IsAhead : ℕ → Move → Type 0
IsAhead c (Costs n mv) = IsAhead (c + n) mv
IsAhead c (Marks mv) = (1 ≤ c) × IsAhead (c - 1) mv
IsAhead c (Enters mv) = IsAhead c mv
IsAhead c (Exits mv) = IsAhead c mv
IsAhead c (Now point s) = Unit {0}

abbrev pub ChargesComeFirst : Type 0
ChargesComeFirst = (world : CWorld) (point : Point) (s : Slots) → IsAhead 0 (moves world point s)

-- What a move that is covered leaves: its charges are gone from the steps, and its marks are in the tally.
abbrev pub ChargesAreExact : Type 0
ChargesAreExact = (mv : Move) (point : Point) (s : Slots) (f g : Funds) → enact mv f ≡ Stands point s g → (g.left.steps + costs_of mv ≡ f.left.steps) × (g.tally.nodes ≡ f.tally.nodes + marks_of mv)
