-- A FUNCTION THAT CALLS BACK NOBODY: its charge is taken and it ends, or its charge is not covered.
use Rattle.std.proofs.Common.{◌≡◌, ◌∙◌, refl, sym, ap, subst, ℕ, List, Option, Ok, Err}
use Rattle.page_run.specs.WkBaseDeclaredLeftLeft.{Left}
use Rattle.page_run.specs.declared.which.Which.TheVariants.{Steps}
use Rattle.page_run.specs.State.{Tally}
use Rattle.lua_code.specs.LuaHeapProc.{Proc}
use Rattle.lua_libs.specs.LuaMeaningArguments.{Plain, PlainEnd, Gives, Fails}
use Rattle.lua_state.specs.LuaStoreDeclaredValueValue.{Value}
use Rattle.lua_state.specs.LuaStoreSeen.{StoreView, seen}
use Rattle.lua_state.specs.LuaStoreParts.{IsLater}
use Rattle.lua_state.proofs.LuaStoreLater.{later-itself}
use Rattle.lua_state.specs.LuaSlotsSlots.{Slots, with_heap}
use Rattle.lua_state.specs.LuaSlotsPoints.{SFrame, Move}
use Rattle.lua_state.specs.LuaSlotsEnact.{all_given_back, Short, enact}
use Rattle.lua_state.specs.LuaSlotsErrors.{gives, ends, plain}
use Rattle.lua_state.specs.LuaStackSeen.{values_seen}
use Rattle.lua_state.proofs.LuaStackRaises.{pays, spends as falls_short}
use Rattle.mw_html_texts.specs.LuaBasicDeclaredStopStop.{Stop}
use Rattle.mw_html_texts.specs.LuaBasicDeclaredStopStopTheVariants as stop
use Rattle.lua_libs.specs.LuaBasicSeen.{Covers, IsShort, Paid}
use Rattle.lua_state.specs.declared.state.State.{State}
use Rattle.lua_state.specs.declared.turn.Turn.{Turn}
use Rattle.lua_state.specs.declared.turn.Turn.TheVariants as turn
use Rattle.lua_state.specs.Seen.{slots_of, frames_of, funds_of}
use Rattle.lua_state.specs.Of.{StateOf}
use Rattle.lua_state.specs.Makes.{Makes}
use Rattle.lua_state.proofs.Staying.{frames_stay, slots_stay}
use Rattle.lua_state.proofs.Making.{after, spends}
use Rattle.lua_acts.specs.Stops.{StopsAs}
use Rattle.lua_acts.proofs.Parts.{if_spent}

module _ (s u : StoreView) (m : State) (l k : Left) (line : Option ℕ) (p : Plain Proc) (of : StateOf s m) (later : IsLater s u) where
  same_end : (end : PlainEnd) → Covers p l u k end → ends p.end line (frames_of s m) (with_heap p.heap (slots_of s m)) ≡ ends end line (frames_of u m) (slots_of u m)
  same_end end paid =
      ap (λ (q : Plain Proc). ends q.end line (frames_of s m) (with_heap q.heap (slots_of s m))) paid.answer
      ∙ ap (λ (fs : List SFrame). ends end line fs (with_heap u.heap (slots_of s m))) (sym (frames_stay s u later m of))
      ∙ ap (λ (x : Slots). ends end line (frames_of u m) x) (sym (slots_stay s u later m of))

  -- the move comes to the end that was told
  pub enacted : (end : PlainEnd) → Covers p l u k end → (told : Tally) (i : ℕ)
      → enact (plain p line (frames_of s m) (slots_of s m)) (funds_of l m told i) ≡ enact (ends end line (frames_of u m) (slots_of u m)) (funds_of k m told i)
  enacted end paid told i =
      pays p.charge (ends p.end line (frames_of s m) (with_heap p.heap (slots_of s m))) (funds_of l m told i) paid.covered
      ∙ ap (λ (x : Left). enact (ends p.end line (frames_of s m) (with_heap p.heap (slots_of s m))) (funds_of x m told i)) (sym paid.rest)
      ∙ ap (λ (mv : Move). enact mv (funds_of k m told i)) (same_end end paid)

  -- or the steps are spent
  pub lacked : IsShort p s l u k → (told : Tally) (i : ℕ) → enact (plain p line (frames_of s m) (slots_of s m)) (funds_of l m told i) ≡ Short Steps (all_given_back (funds_of k m told i))
  lacked short told i =
      falls_short p.charge (ends p.end line (frames_of s m) (with_heap p.heap (slots_of s m))) (funds_of l m told i) short.short
      ∙ ap (λ (x : Left). Short Steps (all_given_back (funds_of x m told i))) (sym short.rest)

-- ONE THAT LEAVES THE OBJECTS OF THE STORE AS THEY ARE
module _ (s u t : StoreView) (m : State) (l k l' : Left) (line : Option ℕ) (p : Plain Proc) (r : Turn) (of : StateOf s m) (later : IsLater s u) (still : p.heap ≡ s.heap) where
  covered : (end : PlainEnd) → Covers p l u k end → Makes u m k t m l' (ends end line (frames_of u m) (slots_of u m)) r → Makes s m l t m l' (plain p line (frames_of s m) (slots_of s m)) r
  covered end paid made =
      after s u t m m m l k l' (plain p line (frames_of s m) (slots_of s m)) (ends end line (frames_of u m) (slots_of u m)) r refl later
      (if_spent (u.heap ≡ s.heap) r (sym (ap (λ (q : Plain Proc). q.heap) paid.answer) ∙ still)) (enacted s u m l k line p of later end paid) made

  short : IsShort p s l u k → (r ≡ turn.Spent Steps) × (t ≡ u) × (l' ≡ k) → Makes s m l t m l' (plain p line (frames_of s m) (slots_of s m)) r
  short lacks stops =
      subst (λ (z : Turn). Makes s m l t m l' (plain p line (frames_of s m) (slots_of s m)) z) (sym stops.0)
      (subst (λ (y : StoreView). Makes s m l y m l' (plain p line (frames_of s m) (slots_of s m)) (turn.Spent Steps)) (sym (stops.1 ∙ lacks.same))
      (subst (λ (x : Left). Makes s m l s m x (plain p line (frames_of s m) (slots_of s m)) (turn.Spent Steps)) (sym stops.2)
      (spends s s m l k (plain p line (frames_of s m) (slots_of s m)) Steps of (later-itself s) refl (lacked s u m l k line p of later lacks))))

  pub given : (vs : List Value) → Paid p s l u k (Ok vs) → Makes u m k t m l' (gives (values_seen u.texts vs) (frames_of u m) (slots_of u m)) r → Makes s m l t m l' (plain p line (frames_of s m) (slots_of s m)) r
  given vs paid made = covered (Gives (values_seen u.texts vs)) paid made

  pub stopped : (e : Stop) → Paid p s l u k (Err e) → StopsAs u m k line e t l' r → Makes s m l t m l' (plain p line (frames_of s m) (slots_of s m)) r
  stopped (stop.Raised v level) paid made = covered (Fails (seen u.texts v) level) paid made
  stopped stop.Spent paid stops = short paid stops
  stopped stop.NoMemory paid stops = absurd stops
