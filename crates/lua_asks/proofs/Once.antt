-- From one event to the next.
use Rattle.std.proofs.Common.{◌≡◌, ◌⊎◌, ℕ, List, [], ◌∷◌, Option, Some, None, refl, ap, subst, inl, inr}
use Rattle.lua_slots.specs.WkBaseDeclaredTitleTitle.{Title}
use Rattle.lua_slots.specs.PageRunOutcome.{Goes}
use Rattle.lua_slots.specs.PageRunPerform.{less}
use Rattle.lua_slots.specs.LuaHeapValue.{Table}
use Rattle.lua_slots.specs.LuaMeaningScope.{Bytes}
use Rattle.lua_slots.specs.LuaMeaningQuestions.{DataAsked}
use Rattle.lua_slots.specs.Code.{CWorld}
use Rattle.lua_slots.specs.Slots.{Slots}
use Rattle.lua_slots.specs.Points.{SFrame, Hears, Point, Gives, Move, Costs, Marks, Enters, Exits, Now}
use Rattle.lua_slots.specs.Moves.{moves}
use Rattle.lua_slots.specs.Enact.{Funds, Enacted, Stands, Short, paid, marked, called, calling, back, enact}
use Rattle.lua_goes.specs.Going.{Stop, Reaches, here, further, Comes, is_over, is_short, is_short_late, is_asking}
use Rattle.lua_asks.specs.Laws.{HasLoaded, AsksAnew, HasLoadedAt, LoadedIsNotAsked, ToldIsLoaded}
use Rattle.lua_asks.proofs.Loading.{Next, Leads, item-there}
use Rattle.lua_asks.proofs.CalmMoves.{moves_good}

-- where a move leaves the machine is where it leads
abbrev IsNext : Slots → Enacted → Type 0
IsNext s (Stands q t g) = Next s q t
IsNext s (Short w g) = Unit {0}

module _ (s : Slots) (mv : Move) (rest : (f : Funds) → IsNext s (enact mv f)) where
  pays : (o : Option ℕ) (f : Funds) → IsNext s (paid o f (enact mv))
  pays (Some r) f = rest record f { left = record f.left { steps = r } }
  pays None f = tt

  enters : (o : Option ℕ) (f : Funds) → IsNext s (calling o f (enact mv))
  enters (Some r) f = rest (called r f)
  enters None f = tt

enacted : (s : Slots) (mv : Move) (f : Funds) → Leads s mv → IsNext s (enact mv f)
enacted s (Now q t) f e = e
enacted s (Marks mv) f e = enacted s mv (marked f) e
enacted s (Costs n mv) f e = pays s mv (λ g. enacted s mv g e) (less n f.left.steps) f
enacted s (Enters mv) f e = enters s mv (λ g. enacted s mv g e) (less 1 f.left.calls) f
enacted s (Exits mv) f e = enacted s mv (back f.in_progress f) e

one-move : (code : CWorld) (q : Point) (t : Slots) (g : Funds) (q' : Point) (t' : Slots) (g' : Funds) → AsksAnew q t → enact (moves code q t) g ≡ Stands q' t' g' → Next t q' t'
one-move code q t g q' t' g' a e = subst (λ x. IsNext t x) e (enacted t (moves code q t) g (moves_good code q t a).leads)

module _ (code : CWorld) {p : Point} {s : Slots} {f : Funds} (a : AsksAnew p s) where
  reached : {q : Point} {t : Slots} {g : Funds} → Reaches code p s f q t g → Next s q t
  reached here = record { keeps = λ title h. h; asks = a }
  reached (further q t g q' t' g' r e) =
      let k = reached r in
      let m = one-move code q t g q' t' g' k.asks e in
      record { keeps = λ title h. m.keeps title (k.keeps title h); asks = m.asks }

pub loaded_is_not_asked : LoadedIsNotAsked
loaded_is_not_asked code p s f a _ (is_over o t g r) = (tt, λ title h. (reached code a r).keeps title h)
loaded_is_not_asked code p s f a _ (is_short q t g w h r e) = (tt, λ title k. tt)
loaded_is_not_asked code p s f a _ (is_short_late q t g w h r e) = (tt, λ title k. tt)
loaded_is_not_asked code p s f a _ (is_asking q fs t g r) = let k = reached code a r in (k.asks, λ title h. k.keeps title h)

-- WHAT IS TOLD: the first move keeps the tables
abbrev told : ℕ → Bytes → Title → Option ℕ → List SFrame → Point
told n text title line fs = Gives (Goes (Table n ∷ [])) (Hears (DataAsked text title) line ∷ fs)

module _ (code : CWorld) (n : ℕ) (text : Bytes) (title : Title) (line : Option ℕ) (fs : List SFrame) (s : Slots) (f : Funds) where
  first-move : (q : Point) (t : Slots) (g : Funds) (q' : Point) (t' : Slots) (g' : Funds) → q ≡ told n text title line fs → t ≡ s → enact (moves code q t) g ≡ Stands q' t' g' → HasLoaded title t'
  first-move q t g q' t' g' x y e = loaded (subst (λ z. enact (moves code (told n text title line fs) z) g ≡ Stands q' t' g') y (subst (λ z. enact (moves code z t) g ≡ Stands q' t' g') x e))
    where
      slots_in : Enacted → Slots
      slots_in (Stands q t h) = t
      slots_in (Short w h) = s

      loaded : enact (moves code (told n text title line fs) s) g ≡ Stands q' t' g' → HasLoaded title t'
      loaded k = subst (λ (z : Slots). HasLoaded title z) (ap slots_in k) (item-there s.data_ title (Table n))

  stays-or-loads : {q : Point} {t : Slots} {g : Funds} → Reaches code (told n text title line fs) s f q t g → ((q ≡ told n text title line fs) × (t ≡ s)) ⊎ HasLoaded title t
  stays-or-loads here = inl (refl, refl)
  stays-or-loads (further q t g q' t' g' r e) = elim (stays-or-loads r) [
    | inl k ↦ inr (first-move q t g q' t' g' k.0 k.1 e)
    | inr k ↦ inr ((one-move code q t g q' t' g' (reached code tt r).asks e).keeps title k)
  ]

  pub told-loaded : (e : Stop) → Comes code (told n text title line fs) s f e → HasLoadedAt title e
  told-loaded _ (is_over o t g r) = elim (stays-or-loads r) [ inl k ↦ cc | inr k ↦ k ]
  told-loaded _ (is_short q t g w h r e) = tt
  told-loaded _ (is_short_late q t g w h r e) = tt
  told-loaded _ (is_asking q fs' t g r) = elim (stays-or-loads r) [ inl k ↦ cc | inr k ↦ k ]

pub told_is_loaded : ToldIsLoaded
told_is_loaded code t text title line fs s f e c = told-loaded code t text title line fs s f e c
