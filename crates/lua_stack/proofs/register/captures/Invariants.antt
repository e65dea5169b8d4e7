use Rattle.std.proofs.Common.{◌≡◌, ◌++◌, length, map}
use Rattle.lua_store.specs.Seen.{places_of}
use Rattle.lua_store.specs.Parts.{AreCellsOf}
use Rattle.lua_code.specs.LuaSlotsSlots.{cells_at}
use Rattle.lua_code.specs.Seen.{place_seen}
use Rattle.lua_stack.specs.Seen.{registers_seen, captured_by}
use Rattle.lua_stack.proofs.register.captures.Given as goal

abbrev pub invariant-places : goal.invariant-places
invariant-places l =
    AreCellsOf l.store l.cells
    × (places_of l.cells ++ cells_at (registers_seen l.store.texts l.regs) (captured_by l.store.heap l.closure) (map place_seen l.left) ≡ cells_at (registers_seen l.store.texts l.regs) (captured_by l.store.heap l.closure) (map place_seen l.places))

abbrev pub decreases-places : goal.decreases-places
decreases-places l = length l.left
