-- A FUNCTION THAT CALLS BACK NOBODY: its charge is taken and it ends, or its charge is not covered.
use Rattle.std.proofs.Common.{◌≡◌, ◌∙◌, refl, sym, ap, subst, ℕ, List, Option, Ok, Err}
use Rattle.std.specs.Prelude.{Result}
use Rattle.page_run.specs.WkBaseDeclaredLeftLeft.{Left}
use Rattle.page_run.specs.declared.which.Which.TheVariants.{Steps}
use Rattle.lua_code.specs.LuaHeapProc.{Proc}
use Rattle.lua_tables.specs.LuaMeaningArguments.{Plain, PlainEnd, Gives, Fails}
use Rattle.lua_tables.specs.LuaStoreDeclaredValueValue.{Value}
use Rattle.lua_tables.specs.LuaStoreSeen.{StoreView, seen}
use Rattle.lua_tables.specs.LuaStoreParts.{IsLater}
use Rattle.lua_tables.proofs.LuaStoreLater.{later-itself}
use Rattle.lua_modules.specs.LuaSlotsSlots.{Slots, with_heap}
use Rattle.lua_modules.specs.LuaSlotsErrors.{ends, plain}
use Rattle.lua_modules.specs.LuaStackSeen.{values_seen}
use Rattle.lua_tables.specs.LuaBasicDeclaredStopStop.{Stop}
use Rattle.lua_tables.specs.LuaBasicDeclaredStopStopTheVariants as stop
use Rattle.lua_tables.specs.LuaBasicSeen.{Covers, IsShort, Paid}
use Rattle.lua_modules.specs.LuaStateDeclaredStateState.{State}
use Rattle.lua_modules.specs.LuaStateDeclaredTurnTurn.{Turn}
use Rattle.lua_modules.specs.LuaStateDeclaredTurnTurnTheVariants as turn
use Rattle.lua_modules.specs.LuaStateSeen.{slots_of, frames_of, funds_of}
use Rattle.lua_modules.specs.LuaStateOf.{StateOf}
use Rattle.lua_modules.specs.LuaStateMakes.{Makes, LateMakes}
use Rattle.lua_modules.proofs.LuaStateMaking.{spends, makes_late, late_changed}
use Rattle.lua_acts.proofs.Paying.{enacted, lacked}
use Rattle.lua_calls.specs.Ends.{EndsAs}
use Rattle.lua_calls.proofs.Led.{led_ends}

module _ (s u t : StoreView) (m : State) (l k l' : Left) (line : Option ℕ) (p : Plain Proc) (r : Turn) (of : StateOf s m) (later : IsLater s u) where
  covered : (end : PlainEnd) → Covers p l u k end → Makes u m k t m l' (ends end line (frames_of u m) (slots_of u m)) r → LateMakes s m l t m l' (plain p line (frames_of s m) (slots_of s m)) r
  covered end paid made =
      late_changed s u t m m m l k l' (plain p line (frames_of s m) (slots_of s m)) (ends end line (frames_of u m) (slots_of u m)) r refl later
      (sym (ap (λ (x : Slots). x.heap) (led_ends p.end line (frames_of s m) (with_heap p.heap (slots_of s m))) ∙ ap (λ (q : Plain Proc). q.heap) paid.answer))
      (enacted s u m l k line p of later end paid) made

  -- the charge is not covered, and the turn is that the steps are spent
  short_at : IsShort p s l u k → LateMakes s m l s m k (plain p line (frames_of s m) (slots_of s m)) (turn.Spent Steps)
  short_at short =
      makes_late s s m m l k (plain p line (frames_of s m) (slots_of s m)) (turn.Spent Steps)
      (spends s s m l k (plain p line (frames_of s m) (slots_of s m)) Steps of (later-itself s) refl (lacked s u m l k line p of later short))

  short : IsShort p s l u k → (r ≡ turn.Spent Steps) × (t ≡ u) × (l' ≡ k) → LateMakes s m l t m l' (plain p line (frames_of s m) (slots_of s m)) r
  short lacks stops =
      subst (λ (z : Turn). LateMakes s m l t m l' (plain p line (frames_of s m) (slots_of s m)) z) (sym stops.0)
      (subst (λ (y : StoreView). LateMakes s m l y m l' (plain p line (frames_of s m) (slots_of s m)) (turn.Spent Steps)) (sym (stops.1 ∙ lacks.same))
      (subst (λ (x : Left). LateMakes s m l s m x (plain p line (frames_of s m) (slots_of s m)) (turn.Spent Steps)) (sym stops.2) (short_at lacks)))

  pub paid_end : (answer : Result (List Value) Stop) → Paid p s l u k answer → EndsAs u m k line answer t l' r → LateMakes s m l t m l' (plain p line (frames_of s m) (slots_of s m)) r
  paid_end (Ok vs) paid made = covered (Gives (values_seen u.texts vs)) paid made
  paid_end (Err (stop.Raised v level)) paid made = covered (Fails (seen u.texts v) level) paid made
  paid_end (Err stop.Spent) paid stops = short paid stops
  paid_end (Err stop.NoMemory) paid stops = absurd stops
