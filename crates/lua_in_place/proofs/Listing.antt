-- The moves to the values of a list that is read in place.
use Rattle.std.proofs.Common.{◌≡◌, ℕ, ◌+◌, ◌-◌, ◌∙◌, List, [], ◌∷◌, ◌++◌, append-nil, append_assoc, Some, refl, sym, ap, subst, arith}
use Rattle.lua_goes.specs.PageRunOutcome.{Goes}
use Rattle.lua_goes.specs.LuaHeapValue.{Value}
use Rattle.lua_goes.specs.LuaSlotsCode.{Constants, CExps, NoC, MoreC, CWorld}
use Rattle.lua_goes.specs.LuaSlotsSlots.{Slots}
use Rattle.lua_goes.specs.LuaSlotsPoints.{SFrame, MoreNext, Point, Gives, Evals, Lists, Move, Now}
use Rattle.lua_goes.specs.LuaSlotsErrors.{gives}
use Rattle.lua_goes.specs.LuaSlotsCalls.{constants_of}
use Rattle.lua_goes.specs.LuaSlotsMoves.{moves}
use Rattle.lua_goes.specs.LuaSlotsEnact.{Funds, Stands, enact}
use Rattle.lua_goes.specs.Going.{Reaches, here, further}
use Rattle.lua_in_place.specs.InPlace.{in_place, all_in_place}
use Rattle.lua_in_place.specs.Laws.{ListReadInPlace}
use Rattle.lua_in_place.proofs.Parts.{list_parts}
use Rattle.lua_in_place.proofs.Reading.{with_count, reach_then, free_move, reads}

abbrev ListReads : CWorld → Slots → CExps → List Value → ℕ → Type 0
ListReads world s es vs n = (before : List Value) (fs : List SFrame) (f : Funds) (i k c d : ℕ) → i ≡ n + k → d ≡ c + n → Reaches world (Lists es before fs) s (with_count f i c) (Gives (Goes (before ++ vs)) fs) s (with_count f k d)

-- a list without expressions
none_read : (constants : Constants) (s : Slots) (vs : List Value) (n : ℕ) → all_in_place constants NoC s ≡ Some (vs, n) → (vs ≡ []) × (n ≡ 0)
none_read constants s vs n e =
    let nothing : List Value × ℕ = ([], 0) in
    let k : nothing ≡ (vs, n) = cc in
    (sym (ap (λ (x : List Value × ℕ). x.0) k), sym (ap (λ (x : List Value × ℕ). x.1) k))

module _ (world : CWorld) (s : Slots) where
  -- a move that costs nothing, where the counts have other names
  same_move : (p q : Point) (f : Funds) (i k c d : ℕ) → moves world p s ≡ Now q s → i ≡ k → c ≡ d → Reaches world p s (with_count f i c) q s (with_count f k d)
  same_move p q f i k c d e h g =
      further p s (with_count f i c) q s (with_count f k d) here
      (ap (λ (m : Move). enact m (with_count f i c)) e ∙ ap (λ (x : ℕ). Stands q s (with_count f x c)) h ∙ ap (λ (x : ℕ). Stands q s (with_count f k x)) g)

  -- behind a value
  next_reads : (es : CExps) (v : Value) (ws : List Value) (l : ℕ) → all_in_place (constants_of world s) es s ≡ Some (ws, l) → ListReads world s es ws l → (before : List Value) (fs : List SFrame) (f : Funds) (i k c d : ℕ) → i ≡ l + k → d ≡ c + l
      → Reaches world (Gives (Goes (v ∷ [])) (MoreNext es before ∷ fs)) s (with_count f i c) (Gives (Goes (before ++ v ∷ ws)) fs) s (with_count f k d)
  next_reads NoC v ws l e rest before fs f i k c d p q =
      let none = none_read (constants_of world s) s ws l e in
      same_move (Gives (Goes (v ∷ [])) (MoreNext NoC before ∷ fs)) (Gives (Goes (before ++ v ∷ ws)) fs) f i k c d (ap (λ (x : List Value). gives (before ++ v ∷ x) fs s) (sym none.0)) (omega (arith, p, none.1)) (omega (arith, q, none.1))
  next_reads (MoreC e2 es2) v ws l e rest before fs f i k c d p q =
      reach_then (free_move world s (Gives (Goes (v ∷ [])) (MoreNext (MoreC e2 es2) before ∷ fs)) (Lists (MoreC e2 es2) (before ++ v ∷ []) fs) (with_count f i c) refl)
      (subst (λ (x : List Value). Reaches world (Lists (MoreC e2 es2) (before ++ v ∷ []) fs) s (with_count f i c) (Gives (Goes x) fs) s (with_count f k d)) (append_assoc before (v ∷ []) ws) (rest (before ++ v ∷ []) fs f i k c d p q))

  pub list_reads : (es : CExps) (vs : List Value) (n : ℕ) → all_in_place (constants_of world s) es s ≡ Some (vs, n) → ListReads world s es vs n
  list_reads NoC vs n e before fs f i k c d p q =
      let none = none_read (constants_of world s) s vs n e in
      same_move (Lists NoC before fs) (Gives (Goes (before ++ vs)) fs) f i k c d
      (ap (λ (x : List Value). gives x fs s) (sym (append-nil before)) ∙ ap (λ (x : List Value). gives (before ++ x) fs s) (sym none.0)) (omega (arith, p, none.1)) (omega (arith, q, none.1))
  list_reads (MoreC e es) vs n h before fs f i k c d p q =
      let x = list_parts (in_place (constants_of world s) e s) (all_in_place (constants_of world s) es s) vs n h in
      reach_then (free_move world s (Lists (MoreC e es) before fs) (Evals e (MoreNext es before ∷ fs)) (with_count f i c) refl)
      (reach_then (reads world s e x.a x.nodes_a x.is_a (MoreNext es before ∷ fs) f i (x.nodes_b + k) c (c + x.nodes_a) (omega (arith, p, x.all)) refl)
      (subst (λ (y : List Value). Reaches world (Gives (Goes (x.a ∷ [])) (MoreNext es before ∷ fs)) s (with_count f (x.nodes_b + k) (c + x.nodes_a)) (Gives (Goes (before ++ y)) fs) s (with_count f k d)) (sym x.values)
      (next_reads es x.a x.behind x.nodes_b x.is_b (list_reads es x.behind x.nodes_b x.is_b) before fs f (x.nodes_b + k) k (c + x.nodes_a) d refl (omega (arith, q, x.all)))))

pub list_read_in_place : ListReadInPlace
list_read_in_place world es s vs n h before fs f le = list_reads world s es vs n h before fs f f.left.steps (f.left.steps - n) f.tally.nodes (f.tally.nodes + n) (omega (arith, le)) refl
