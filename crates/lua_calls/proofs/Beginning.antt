-- A call of `gsub`: its charge is taken and it ends or begins to ask, or its charge is not covered.
use Rattle.std.proofs.Common.{◌≡◌, ◌∙◌, refl, sym, ap, subst, ℕ, List, Option, Ok, Err}
use Rattle.std.specs.Prelude.{Result, IfOk}
use Rattle.page_run.specs.WkBaseDeclaredLeftLeft.{Left}
use Rattle.page_run.specs.declared.which.Which.TheVariants.{Steps}
use Rattle.lua_code.specs.LuaHeapProc.{Proc}
use Rattle.lua_gsubs.specs.LuaMeaningGsub.{Job, GsubForm, GsubAnswers, GsubAsks, nothing_yet}
use Rattle.lua_tables.specs.LuaStoreSeen.{StoreView}
use Rattle.lua_tables.specs.LuaStoreParts.{IsLater}
use Rattle.lua_modules.specs.LuaSlotsSlots.{Slots}
use Rattle.lua_modules.specs.LuaSlotsPoints.{SFrame}
use Rattle.lua_code.specs.LuaSlotsGsub.{replaces}
use Rattle.lua_code.specs.LuaSlotsLibraries.{gsub, plain}
use Rattle.lua_tables.specs.LuaBasicDeclaredStopStop.{Stop}
use Rattle.lua_tables.specs.LuaBasicDeclaredStopStopTheVariants as stop
use Rattle.lua_modules.specs.LuaStateDeclaredStateState.{State}
use Rattle.lua_modules.specs.LuaStateDeclaredTurnTurn.{Turn}
use Rattle.lua_modules.specs.LuaStateDeclaredTurnTurnTheVariants as turn
use Rattle.lua_modules.specs.LuaStateSeen.{slots_of, frames_of}
use Rattle.lua_modules.specs.LuaStateOf.{StateOf}
use Rattle.lua_modules.specs.LuaStateMakes.{Makes, LateMakes}
use Rattle.lua_modules.proofs.LuaStateMaking.{makes_late}
use Rattle.lua_acts.specs.Stops.{StopsAs}
use Rattle.lua_acts.proofs.Parts.{over_text, costs, short}
use Rattle.lua_modules.specs.MwFramesCosts.{Lacked}
use Rattle.lua_gsubs.specs.declared.beginning.Begun.{Begun}
use Rattle.lua_gsubs.specs.declared.beginning.Begun.TheVariants as begun
use Rattle.lua_gsubs.specs.Begun.{IsBegun}
use Rattle.lua_gsubs.specs.LuaReplacingSeen.{job_seen}
use Rattle.lua_calls.specs.Ends.{EndsAs, BegunMakes}
use Rattle.lua_calls.proofs.Paying.{paid_end}
use Rattle.lua_calls.proofs.Replaces.{took_pays, lacked_pays}

-- it stops
pub stops_begun : {E : Type 0} (s : StoreView) (m : State) (l : Left) (line : Option ℕ) (e : Stop) (t : StoreView) (l' : Left) (r : Result Turn E) → IfOk r (StopsAs s m l line e t l') → IfOk r (BegunMakes s m l line (Err e) t m l')
stops_begun s m l line e t l' (Ok r) p = (refl, p)
stops_begun s m l line e t l' (Err x) p = tt

-- the state is as it was
module _ (s u t : StoreView) (m m' : State) (l k l' : Left) (line : Option ℕ) (r : Turn) (of : StateOf s m) (later : IsLater s u) where
  as_it_was : (form : GsubForm Proc) → m' ≡ m → LateMakes s m l t m l' (gsub form line (frames_of s m) (slots_of s m)) r → LateMakes s m l t m' l' (gsub form line (frames_of s m) (slots_of s m)) r
  as_it_was form is made = subst (λ x. LateMakes s m l t x l' (gsub form line (frames_of s m) (slots_of s m)) r) (sym is) made

  not_covered : (n limit : ℕ) (job : Job) → Lacked n l k → u ≡ s → (r ≡ turn.Spent Steps) × (t ≡ u) × (l' ≡ k) → LateMakes s m l t m l' (gsub (GsubAsks n job limit) line (frames_of s m) (slots_of s m)) r
  not_covered n limit job lacked same stops =
      subst (λ (z : Turn). LateMakes s m l t m l' (gsub (GsubAsks n job limit) line (frames_of s m) (slots_of s m)) z) (sym stops.0)
      (subst (λ (y : StoreView). LateMakes s m l y m l' (gsub (GsubAsks n job limit) line (frames_of s m) (slots_of s m)) (turn.Spent Steps)) (sym (stops.1 ∙ same))
      (subst (λ (x : Left). LateMakes s m l s m x (gsub (GsubAsks n job limit) line (frames_of s m) (slots_of s m)) (turn.Spent Steps)) (sym stops.2)
      (makes_late s s m m l k (gsub (GsubAsks n job limit) line (frames_of s m) (slots_of s m)) (turn.Spent Steps) (short s m l k n (replaces job limit nothing_yet line (frames_of s m) (slots_of s m)) of (lacked_pays n l k lacked)))))

  pub begun_makes : (form : GsubForm Proc) (answer : Result Begun Stop) → IsBegun form s l u k answer → BegunMakes u m k line answer t m' l' r → LateMakes s m l t m' l' (gsub form line (frames_of s m) (slots_of s m)) r
  begun_makes (GsubAnswers p) (Ok (begun.Answers vs)) paid (is, made) = as_it_was (GsubAnswers p) is (paid_end s u t m l k l' line p r of later (Ok vs) paid made)
  begun_makes (GsubAnswers p) (Ok (begun.Asks j limit)) paid made = absurd paid
  begun_makes (GsubAnswers p) (Err (stop.Raised v level)) paid (is, made) = as_it_was (GsubAnswers p) is (paid_end s u t m l k l' line p r of later (Err (stop.Raised v level)) paid made)
  begun_makes (GsubAnswers p) (Err stop.Spent) paid (is, made) = as_it_was (GsubAnswers p) is (paid_end s u t m l k l' line p r of later (Err stop.Spent) paid made)
  begun_makes (GsubAnswers p) (Err stop.NoMemory) paid (is, made) = absurd made
  begun_makes (GsubAsks n job limit) (Ok (begun.Answers vs)) paid made = absurd paid
  begun_makes (GsubAsks n job limit) (Ok (begun.Asks j most)) (took, heap, same, as_many) made =
      let mv = replaces job limit nothing_yet line (frames_of u m) (slots_of u m) in
      let asks : Makes u m k t m' l' mv r =
      subst (λ (x : Job). Makes u m k t m' l' (replaces x limit nothing_yet line (frames_of u m) (slots_of u m)) r) (sym same)
      (subst (λ i. Makes u m k t m' l' (replaces (job_seen u.texts j) i nothing_yet line (frames_of u m) (slots_of u m)) r) (sym as_many) made) in
      makes_late s t m m' l l' (gsub (GsubAsks n job limit) line (frames_of s m) (slots_of s m)) r
      (costs s t m m' l k l' n (replaces job limit nothing_yet line (frames_of s m) (slots_of s m)) r (took_pays n l k took)
      (over_text s u t m m' k l' r (λ (fs : List SFrame) (x : Slots). replaces job limit nothing_yet line fs x) of later heap asks))
  begun_makes (GsubAsks n job limit) (Err (stop.Raised v level)) paid made = absurd paid
  begun_makes (GsubAsks n job limit) (Err stop.Spent) (lacked, same) (is, stops) = as_it_was (GsubAsks n job limit) is (not_covered n limit job lacked same stops)
  begun_makes (GsubAsks n job limit) (Err stop.NoMemory) paid (is, made) = absurd made
