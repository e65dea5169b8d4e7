-- Moves of `gsub`: a search and what comes after it, and the end.
use Rattle.std.proofs.Common.{◌≡◌, ◌∙◌, true, false, refl, sym, ap, subst, ℕ, List, ◌∷◌, length, Option, Ok, Err, Vec, Global}
use Rattle.std.specs.Prelude.{Result, IfOk}
use Rattle.page_run.specs.WkBaseDeclaredLeftLeft.{Left}
use Rattle.page_run.specs.declared.which.Which.TheVariants.{Steps}
use Rattle.lua_gsubs.specs.LuaStringWalk.{span}
use Rattle.lua_code.specs.LuaMeaningScope.{Bytes}
use Rattle.lua_gsubs.specs.LuaMeaningGsub.{Job, Replacing, Search, NoMatch, Matched, GoesOnWith, with_piece}
use Rattle.lua_gsubs.specs.LuaMeaningGsub as meaning
use Rattle.lua_tables.specs.LuaMeaningArguments.{Argument}
use Rattle.lua_modules.specs.LuaMeaningPending.{GsubWaits}
use Rattle.lua_tables.specs.LuaStoreDeclaredValueValue.{Value}
use Rattle.lua_tables.specs.LuaStoreSeen.{StoreView}
use Rattle.lua_tables.specs.LuaStoreParts.{IsLater}
use Rattle.lua_tables.specs.LuaBasicDeclaredStopStopTheVariants as stop
use Rattle.lua_modules.specs.LuaSlotsSlots.{Slots}
use Rattle.lua_modules.specs.LuaSlotsPoints.{SFrame, Move, Waits, Costs}
use Rattle.lua_code.specs.LuaSlotsEnact.{all_given_back, Short, enact}
use Rattle.lua_modules.specs.LuaSlotsErrors.{fails, with_argument}
use Rattle.lua_code.specs.LuaSlotsGsub.{finish, asks, asks_on, replaces, puts}
use Rattle.lua_modules.specs.LuaStackSeen.{values_seen}
use Rattle.lua_modules.proofs.LuaStackRaises.{pays as are_paid, spends as fall_short}
use Rattle.lua_modules.specs.LuaStateDeclaredStateState.{State}
use Rattle.lua_modules.specs.LuaStateDeclaredTurnTurn.{Turn}
use Rattle.lua_modules.specs.LuaStateDeclaredTurnTurnTheVariants as turn
use Rattle.lua_modules.specs.LuaStateSeen.{slots_of, frames_of, funds_of}
use Rattle.lua_modules.specs.LuaStateOf.{StateOf}
use Rattle.lua_modules.specs.LuaStateMakes.{Makes}
use Rattle.lua_modules.specs.LuaStateCharges.{Pays}
use Rattle.lua_acts.proofs.Parts.{over_text, costs, short}
use Rattle.lua_modules.specs.MwFramesCosts.{Took, Lacked}
use Rattle.lua_gsubs.specs.LuaReplacingDeclaredFarFar.{Far}
use Rattle.lua_gsubs.specs.LuaReplacingSeen.{far_seen}
use Rattle.lua_gsubs.specs.declared.resuming.Given.TheVariants as given
use Rattle.lua_gsubs.specs.Resumed.{IsGiven}
use Rattle.lua_gsubs.specs.declared.seeking.Sought.TheVariants as sought
use Rattle.lua_gsubs.specs.Sought.{IsSought}

-- STEPS that were taken, or that were not there
pub took_pays : (n : ℕ) (l k : Left) → Took n l k → Pays n l k true
took_pays n l k took = λ m mv told i. are_paid n mv (funds_of l m told i) took.0 ∙ ap (λ (x : Left). enact mv (funds_of x m told i)) (sym took.1)

pub lacked_pays : (n : ℕ) (l k : Left) → Lacked n l k → Pays n l k false
lacked_pays n l k p = λ m mv told i. fall_short n mv (funds_of l m told i) p.0 ∙ ap (λ (x : Left). Short Steps (all_given_back (funds_of x m told i))) (sym p.1)

-- A MOVE that another one leads to, where a call comes to it or memory is wanting
pub each_made : {E : Type 0} (s u t : StoreView) (m n m' : State) (l k l' : Left) (mv mv' : Move) (r : Result Turn E) → ((x : Turn) → Makes u n k t m' l' mv' x → Makes s m l t m' l' mv x) → IfOk r (Makes u n k t m' l' mv')
    → IfOk r (Makes s m l t m' l' mv)
each_made s u t m n m' l k l' mv mv' (Ok x) f p = f x p
each_made s u t m n m' l k l' mv mv' (Err e) f p = tt

module _ (s t : StoreView) (m : State) (of : StateOf s m) (later : IsLater s t) (same : t.heap ≡ s.heap) (job : Job) (line : Option ℕ) where
  -- A SEARCH that is not covered
  pub seek_spent : (x : Search) (subject : Bytes) (far : meaning.Far) (f g : Far) (l k : Left) → IsSought x subject s t f g l k (Err stop.Spent) → Makes s m l t m k (asks_on job far x line (frames_of s m) (slots_of s m)) (turn.Spent Steps)
  seek_spent (NoMatch n) subject far f g l k p =
      let mv = finish job far (frames_of s m) (slots_of s m) in
      subst (λ (x : StoreView). Makes s m l x m k (Costs n mv) (turn.Spent Steps)) (sym p.1) (short s m l k n mv of (lacked_pays n l k p.0))
  seek_spent (Matched n captures w) subject far f g l k p =
      let mv = asks w.job.by captures (Waits (GsubWaits w) line ∷ frames_of s m) (slots_of s m) in
      subst (λ (x : StoreView). Makes s m l x m k (Costs n mv) (turn.Spent Steps)) (sym p.1) (short s m l k n mv of (lacked_pays n l k p.0))

  -- no match any more
  none_turn : (x : Search) (subject : Bytes) (u : StoreView) (m' : State) (f g : Far) (l k l' : Left) (r : Turn) → IsSought x subject s t f g l k (Ok sought.NoMatch) → Makes t m k u m' l' (finish job (far_seen g) (frames_of t m) (slots_of t m)) r
      → Makes s m l u m' l' (asks_on job (far_seen f) x line (frames_of s m) (slots_of s m)) r
  none_turn (NoMatch n) subject u m' f g l k l' r (took, is) made =
      costs s u m m' l k l' n (finish job (far_seen f) (frames_of s m) (slots_of s m)) r (took_pays n l k took)
      (over_text s t u m m' k l' r (λ (fs : List SFrame) (x : Slots). finish job (far_seen f) fs x) of later same (subst (λ z. Makes t m k u m' l' (finish job (far_seen z) (frames_of t m) (slots_of t m)) r) is made))
  none_turn (Matched n captures w) subject u m' f g l k l' r p made = absurd p

  pub seek_none : {E : Type 0} (x : Search) (subject : Bytes) (u : StoreView) (m' : State) (f g : Far) (l k l' : Left) (r : Result Turn E) → IsSought x subject s t f g l k (Ok sought.NoMatch)
      → IfOk r (Makes t m k u m' l' (finish job (far_seen g) (frames_of t m) (slots_of t m))) → IfOk r (Makes s m l u m' l' (asks_on job (far_seen f) x line (frames_of s m) (slots_of s m)))
  seek_none x subject u m' f g l k l' (Ok r) p made = none_turn x subject u m' f g l k l' r p made
  seek_none x subject u m' f g l k l' (Err e) p made = tt

  -- a match
  match_turn : (x : Search) (limit : ℕ) (subject : Bytes) (u : StoreView) (m' : State) (f g : Far) (values : List Value) (start end : ℕ) (v : Replacing) (l k l' : Left) (r : Turn)
      → IsSought x subject s t f g l k (Ok (sought.Matched values start end)) → GoesOnWith job limit x → ((w : Replacing) → w.job ≡ job → w.limit ≡ limit → far_seen g ≡ w.far → span subject start end ≡ w.matched → v ≡ w)
      → Makes t m k u m' l' (asks v.job.by (values_seen t.texts values) (Waits (GsubWaits v) line ∷ frames_of t m) (slots_of t m)) r → Makes s m l u m' l' (asks_on job (far_seen f) x line (frames_of s m) (slots_of s m)) r
  match_turn (NoMatch n) limit subject u m' f g values start end v l k l' r p on is made = absurd p
  match_turn (Matched n captures w) limit subject u m' f g values start end v l k l' r (took, seen, far, whole) on is made =
      costs s u m m' l k l' n (asks w.job.by captures (Waits (GsubWaits w) line ∷ frames_of s m) (slots_of s m)) r (took_pays n l k took)
      (over_text s t u m m' k l' r (λ (fs : List SFrame) (x : Slots). asks w.job.by captures (Waits (GsubWaits w) line ∷ fs) x) of later same
      (subst (λ (z : Replacing). Makes t m k u m' l' (asks z.job.by captures (Waits (GsubWaits z) line ∷ frames_of t m) (slots_of t m)) r) (is w on.0 on.1 far whole)
      (subst (λ vs. Makes t m k u m' l' (asks v.job.by vs (Waits (GsubWaits v) line ∷ frames_of t m) (slots_of t m)) r) seen made)))

  pub seek_matched : {E : Type 0} (x : Search) (limit : ℕ) (subject : Bytes) (u : StoreView) (m' : State) (f g : Far) (values : List Value) (start end : ℕ) (v : Replacing) (l k l' : Left) (r : Result Turn E)
      → IsSought x subject s t f g l k (Ok (sought.Matched values start end)) → GoesOnWith job limit x → ((w : Replacing) → w.job ≡ job → w.limit ≡ limit → far_seen g ≡ w.far → span subject start end ≡ w.matched → v ≡ w)
      → IfOk r (Makes t m k u m' l' (asks v.job.by (values_seen t.texts values) (Waits (GsubWaits v) line ∷ frames_of t m) (slots_of t m))) → IfOk r (Makes s m l u m' l' (asks_on job (far_seen f) x line (frames_of s m) (slots_of s m)))
  seek_matched x limit subject u m' f g values start end v l k l' (Ok r) p on is made = match_turn x limit subject u m' f g values start end v l k l' r p on is made
  seek_matched x limit subject u m' f g values start end v l k l' (Err e) p on is made = tt

-- what waits, by its parts
pub waits_is : (w : Replacing) (job : Job) (limit : ℕ) (far : meaning.Far) (whole : Bytes) → w.job ≡ job → w.limit ≡ limit → far ≡ w.far → whole ≡ w.matched
    → (let v : Replacing = record { job = job; limit = limit; far = far; matched = whole } in v) ≡ w
waits_is w job limit far whole a b c d = rw (sym a, sym b, c, d) refl

-- WHAT WAS GIVEN for a match is put in its place for its bytes, or is refused
module _ {E : Type 0} (s t : StoreView) (m m' : State) (l k l' : Left) (r : Result Turn E) (w : Replacing) (line : Option ℕ) (f g : Far) (as_far : far_seen f ≡ w.far) where
  abbrev on_piece : Bytes → Move
  on_piece piece = puts w piece line (frames_of s m) (slots_of s m)

  pub given_put : (a : Argument Bytes) → IsGiven a f l g k given.Put → IfOk r (Makes s m k t m' l' (replaces w.job w.limit (far_seen g) line (frames_of s m) (slots_of s m)))
      → IfOk r (Makes s m l t m' l' (with_argument a line (frames_of s m) (slots_of s m) on_piece))
  given_put (Ok piece) (took, is) made =
      let go : meaning.Far → Move = λ far. replaces w.job w.limit far line (frames_of s m) (slots_of s m) in
      each_made s s t m m m' l k l' (on_piece piece) (go (far_seen g)) r
      (λ x at_last.
      costs s t m m' l k l' (length piece) (go (with_piece w.far piece)) x (took_pays (length piece) l k took)
      (subst (λ far. Makes s m k t m' l' (go far) x) (is ∙ ap (λ (far : meaning.Far). with_piece far piece) as_far) at_last)) made
  given_put (Err message) is made = absurd is

  pub given_refused : (a : Argument Bytes) (text : Vec ℕ Global) (said : Bytes) → said ≡ text.items → IsGiven a f l g k (given.Refused text) → IfOk r (Makes s m k t m' l' (fails line said (frames_of s m) (slots_of s m)))
      → IfOk r (Makes s m l t m' l' (with_argument a line (frames_of s m) (slots_of s m) on_piece))
  given_refused (Ok piece) text said same is made = absurd is
  given_refused (Err message) text said same (is, as_before) made =
      subst (λ x. IfOk r (Makes s m x t m' l' (fails line message (frames_of s m) (slots_of s m)))) as_before
      (subst (λ x. IfOk r (Makes s m k t m' l' (fails line x (frames_of s m) (slots_of s m)))) (same ∙ is) made)

-- or its bytes are not covered
pub given_spent : (s : StoreView) (m : State) (l k : Left) (w : Replacing) (line : Option ℕ) (f g : Far) → StateOf s m → (a : Argument Bytes) → IsGiven a f l g k given.Spent
    → Makes s m l s m k (with_argument a line (frames_of s m) (slots_of s m) (λ piece. puts w piece line (frames_of s m) (slots_of s m))) (turn.Spent Steps)
given_spent s m l k w line f g of (Ok piece) lacked = short s m l k (length piece) (replaces w.job w.limit (with_piece w.far piece) line (frames_of s m) (slots_of s m)) of (lacked_pays (length piece) l k lacked)
given_spent s m l k w line f g of (Err message) is = absurd is
