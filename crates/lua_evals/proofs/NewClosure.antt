-- A new closure is the next one of the heap.
use Rattle.std.proofs.Common.{◌≡◌, ◌∙◌, refl, sym, ap, ℕ, List, [], ◌∷◌, map}
use Rattle.page_run.specs.WkBaseDeclaredLeftLeft.{Left}
use Rattle.lua_code.specs.LuaHeapProc.{Proc}
use Rattle.lua_code.specs.LuaHeapHeap as heap
use Rattle.lua_code.specs.LuaHeapHeap.{Heap}
use Rattle.lua_code.specs.LuaHeapValue as kind
use Rattle.lua_code.specs.declared.place.Place.{Place}
use Rattle.lua_code.specs.Seen.{place_seen}
use Rattle.lua_operators.specs.LuaStoreDeclaredIdsClosureId.{ClosureId}
use Rattle.lua_operators.specs.LuaStoreDeclaredIdsCellId.{CellId}
use Rattle.lua_state.specs.LuaStoreDeclaredIdsTextId.{TextId}
use Rattle.lua_operators.specs.LuaStoreDeclaredValueValueTheVariants as value
use Rattle.lua_operators.specs.LuaStoreSeen.{StoreView, text_at, places_of}
use Rattle.lua_operators.specs.LuaStoreParts.{IsLater, IsClosureOf}
use Rattle.lua_operators.specs.LuaSlotsSlots.{Slots, with_heap, function_of, cells_at, proc_of, with_closure, next_closure}
use Rattle.lua_operators.specs.LuaSlotsPoints.{SFrame}
use Rattle.lua_operators.specs.LuaSlotsErrors.{gives}
use Rattle.lua_state.specs.LuaStackDeclaredValuesGivenTheVariants as given
use Rattle.lua_state.specs.LuaStackDeclaredFocusFocusTheVariants as focus
use Rattle.lua_state.specs.declared.state.State.{State}
use Rattle.lua_state.specs.declared.turn.Turn.TheVariants as turn
use Rattle.lua_state.specs.Seen.{slots_of, frames_of}
use Rattle.lua_state.specs.Of.{StateOf}
use Rattle.lua_state.specs.Makes.{Makes}
use Rattle.lua_state.proofs.Staying.{state_later, frames_stay, slots_stay}
use Rattle.lua_state.proofs.Making.{stands}

-- the function that it holds
abbrev pub held : StoreView → TextId → ℕ → List CellId → Proc
held s source index cells = record { title = text_at s.texts source.at; index = index; cells = places_of cells }

module _ (s u : StoreView) (m : State) (l : Left) (id : ClosureId) (source : TextId) (index : ℕ) (places : List Place) (cells : List CellId) where
  pub made : StateOf s m → IsLater s u → IsClosureOf u id → id.at ≡ (heap.new_closure s.heap (heap.Function (held s source index cells))).1 → u.heap ≡ (heap.new_closure s.heap (heap.Function (held s source index cells))).0
      → text_at s.texts source.at ≡ (function_of (slots_of s m)).source → places_of cells ≡ cells_at (slots_of s m).regs (function_of (slots_of s m)).cells (map place_seen places)
      → Makes s m l u m l (gives (next_closure (slots_of s m) ∷ []) (frames_of s m) (with_closure (proc_of index (map place_seen places) (slots_of s m)) (slots_of s m)))
      (turn.On (focus.Gives (given.One (value.Closure id))))
  made of later isit at same title captured =
      stands s u m m l _ (focus.Gives (given.One (value.Closure id))) (state_later s u later m of) refl refl refl later (isit, tt)
      (ap (λ (t : List ℕ). gives (next_closure (slots_of s m) ∷ []) (frames_of s m) (with_closure (record { title = t; index = index; cells = cells_at (slots_of s m).regs (function_of (slots_of s m)).cells (map place_seen places) }) (slots_of s m))) (sym title)
      ∙ ap (λ (cs : List ℕ). gives (next_closure (slots_of s m) ∷ []) (frames_of s m) (with_closure (record { title = text_at s.texts source.at; index = index; cells = cs }) (slots_of s m))) (sym captured)
      ∙ ap (λ (h : Heap Proc). gives (next_closure (slots_of s m) ∷ []) (frames_of s m) (with_heap h (slots_of s m))) (sym same)
      ∙ ap (λ (x : Slots). gives (next_closure (slots_of s m) ∷ []) (frames_of s m) x) (sym (slots_stay s u later m of))
      ∙ ap (λ (fs : List SFrame). gives (next_closure (slots_of s m) ∷ []) fs (slots_of u m)) (sym (frames_stay s u later m of))
      ∙ ap (λ (n : ℕ). gives (kind.Closure n ∷ []) (frames_of u m) (slots_of u m)) (sym at))
