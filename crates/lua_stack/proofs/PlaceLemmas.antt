-- Registers and cells at places.
use Rattle.std.proofs.Common.{◌≡◌, ◌∙◌, ℕ, zero, suc, List, [], ◌∷◌, ◌++◌, map, Option, refl, sym, ap, subst, slice_get, slice_set}
use Rattle.std.specs.Option.{option_map}
use Rattle.lua_store.proofs.LuaHeapPlaces.{get-map}
use Rattle.lua_store.specs.declared.ids.CellId.{CellId}
use Rattle.lua_store.specs.Seen.{StoreView, places_of}
use Rattle.lua_store.specs.Parts.{AreCellsOf}
use Rattle.lua_code.specs.declared.place.Place.{Place}
use Rattle.lua_code.specs.Seen.{place_seen}
use Rattle.lua_code.specs.LuaSlotsSlots as slots
use Rattle.lua_code.specs.LuaSlotsSlots.{place_cell, cells_at, and_cell}
use Rattle.lua_stack.specs.declared.register.Slot.{Slot}
use Rattle.lua_stack.specs.Seen.{slot_seen, registers_seen}
use Rattle.lua_stack.specs.Of.{RegistersOf, MayBeSlotOf, MayBeCellOf}

pub slot_at : (s : StoreView) (regs : List Slot) (i : ℕ) (o : Option Slot) → RegistersOf s regs → o ≡ slice_get regs i → MayBeSlotOf s o
slot_at s [] i o h e = subst (MayBeSlotOf s) (sym e) tt
slot_at s (r ∷ regs) zero o h e = subst (MayBeSlotOf s) (sym e) h.0
slot_at s (r ∷ regs) (suc i) o h e = slot_at s regs i o h.1 e

pub cell_among : (s : StoreView) (cells : List CellId) (i : ℕ) (o : Option CellId) → AreCellsOf s cells → o ≡ slice_get cells i → MayBeCellOf s o
cell_among s [] i o h e = subst (MayBeCellOf s) (sym e) tt
cell_among s (c ∷ cells) zero o h e = subst (MayBeCellOf s) (sym e) h.0
cell_among s (c ∷ cells) (suc i) o h e = cell_among s cells i o h.1 e

pub slot_seen_at : (texts : List (List ℕ)) (regs : List Slot) (i : ℕ) (o : Option Slot) → o ≡ slice_get regs i → option_map (slot_seen texts) o ≡ slice_get (registers_seen texts regs) i
slot_seen_at texts regs i o e = ap (option_map (slot_seen texts)) e ∙ sym (get-map (slot_seen texts) regs i)

pub cell_seen_at : (cells : List CellId) (i : ℕ) (o : Option CellId) → o ≡ slice_get cells i → option_map (λ c. c.at) o ≡ slice_get (places_of cells) i
cell_seen_at cells i o e = ap (option_map (λ c. c.at)) e ∙ sym (get-map (λ c. c.at) cells i)

-- a register is written
pub set_seen : (texts : List (List ℕ)) (regs : List Slot) (i : ℕ) (r : Slot) → registers_seen texts (slice_set regs i r) ≡ slice_set (registers_seen texts regs) i (slot_seen texts r)
set_seen texts [] i r = refl
set_seen texts (q ∷ regs) zero r = refl
set_seen texts (q ∷ regs) (suc i) r = ap (λ l. slot_seen texts q ∷ l) (set_seen texts regs i r)

-- one more cell that is captured
pub captured_next : (regs : List slots.Slot) (cells : List ℕ) (left rest : List Place) (p : Place) (old new : List ℕ) (cell : Option ℕ) (whole : List ℕ) → left ≡ p ∷ rest
    → old ++ cells_at regs cells (map place_seen left) ≡ whole → cell ≡ place_cell regs cells (place_seen p)
    → new ++ cells_at regs cells (map place_seen rest) ≡ old ++ and_cell cell (cells_at regs cells (map place_seen rest)) → new ++ cells_at regs cells (map place_seen rest) ≡ whole
captured_next regs cells left rest p old new cell whole e w q n =
    n ∙ ap (λ c. old ++ and_cell c (cells_at regs cells (map place_seen rest))) q ∙ ap (λ l. old ++ cells_at regs cells (map place_seen l)) (sym e) ∙ w
