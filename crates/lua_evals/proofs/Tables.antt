-- A new table is the next one of the heap, and its first entry is next.
use Rattle.std.proofs.Common.{◌≡◌, ◌∙◌, refl, sym, ap, ℕ, List}
use Rattle.page_run.specs.WkBaseDeclaredLeftLeft.{Left}
use Rattle.lua_code.specs.LuaHeapProc.{Proc}
use Rattle.lua_code.specs.LuaHeapHeap.{Heap, new_table}
use Rattle.lua_operators.specs.LuaStoreDeclaredIdsTableId.{TableId}
use Rattle.lua_operators.specs.LuaStoreSeen.{StoreView}
use Rattle.lua_operators.specs.LuaStoreParts.{IsTableOf, IsLater}
use Rattle.lua_operators.proofs.LuaStoreLater.{later-itself}
use Rattle.lua_code.specs.LuaSlotsCode.{CFields}
use Rattle.lua_operators.specs.LuaSlotsSlots.{Slots, with_heap}
use Rattle.lua_operators.specs.LuaSlotsPoints.{SFrame, Now}
use Rattle.lua_code.specs.LuaSlotsExpressions.{fields, with_table}
use Rattle.lua_state.specs.LuaStackDeclaredFocusFocus.{Focus}
use Rattle.lua_state.specs.LuaStackDeclaredFrameFrame.{Frame}
use Rattle.lua_operators.specs.LuaStackSeen.{focus_seen, frames_seen}
use Rattle.lua_operators.specs.LuaStackOf.{FramesOf, FocusOf}
use Rattle.lua_operators.proofs.LuaStackStay.{frames_later}
use Rattle.lua_state.specs.declared.state.State.{State}
use Rattle.lua_state.specs.declared.turn.Turn.TheVariants as turn
use Rattle.lua_state.specs.Seen.{slots_of, frames_of}
use Rattle.lua_state.specs.Of.{StateOf}
use Rattle.lua_state.specs.Makes.{Makes}
use Rattle.lua_state.proofs.Staying.{state_later, frames_stay, slots_stay}
use Rattle.lua_state.proofs.Making.{stands}
use Rattle.lua_evals.proofs.Ends.{with_frames, with_frames_of}

-- what is next of a constructor's entries
module _ (s u : StoreView) (m : State) (new : List Frame) (l : Left) (table : TableId) (es : CFields) (line : ℕ) (f : Focus) where
  pub made : StateOf s m → IsLater s u → IsTableOf u table → table.at ≡ (new_table s.heap).1 → u.heap ≡ (new_table s.heap).0
      → ((t : StoreView) → IsTableOf t table → FramesOf t m.frames → FocusOf t f × FramesOf t new)
      → ((t : StoreView) (z : Slots) → fields table.at 1 es line (frames_seen t.texts m.frames) z ≡ Now (focus_seen t f (frames_seen t.texts new)) z)
      → Makes s m l u (with_frames m new) l (fields (new_table s.heap).1 1 es line (frames_of s m) (with_table (slots_of s m))) (turn.On f)
  made of later isit at same focus move =
      let both : FocusOf u f × FramesOf u new = focus u isit (frames_later s u later m.frames of.frames) in
      stands s u m (with_frames m new) l _ f (with_frames_of u m new (state_later s u later m of) both.1) refl refl refl later both.0
      (ap (λ (h : Heap Proc). fields (new_table s.heap).1 1 es line (frames_of s m) (with_heap h (slots_of s m))) (sym same)
      ∙ ap (λ (x : Slots). fields (new_table s.heap).1 1 es line (frames_of s m) x) (sym (slots_stay s u later m of))
      ∙ ap (λ (fs : List SFrame). fields (new_table s.heap).1 1 es line fs (slots_of u m)) (sym (frames_stay s u later m of))
      ∙ ap (λ (n : ℕ). fields n 1 es line (frames_of u m) (slots_of u m)) (sym at)
      ∙ move u (slots_of u m))

-- the same of one that is there
module _ (s : StoreView) (m : State) (new : List Frame) (l : Left) (table : TableId) (es : CFields) (line : ℕ) (f : Focus) where
  pub next : StateOf s m → IsTableOf s table → (place : ℕ) → ((t : StoreView) → IsTableOf t table → FramesOf t m.frames → FocusOf t f × FramesOf t new)
      → ((t : StoreView) (z : Slots) → fields table.at place es line (frames_seen t.texts m.frames) z ≡ Now (focus_seen t f (frames_seen t.texts new)) z)
      → Makes s m l s (with_frames m new) l (fields table.at place es line (frames_of s m) (slots_of s m)) (turn.On f)
  next of isit place focus move =
      let both : FocusOf s f × FramesOf s new = focus s isit of.frames in
      stands s s m (with_frames m new) l _ f (with_frames_of s m new of both.1) refl refl refl (later-itself s) both.0 (move s (slots_of s m))
