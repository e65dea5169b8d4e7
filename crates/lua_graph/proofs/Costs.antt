-- Steps are taken part by part.
use Rattle.std.proofs.Common.{◌≡◌, ℕ, ◌+◌, ◌-◌, ◌≤◌, ◌<◌, Bool, true, false, true≢false, List, drop, slice_get, Some, None, refl, sym, ap, ◌∙◌, arith, IsTrue}
use Rattle.std.specs.Prelude.{◌↔◌}
use Rattle.lua_walk.specs.LuaHeapHeap.{Heap, table_at}
use Rattle.lua_walk.specs.Copy.{tables_cost}
use Rattle.lua_store.specs.WkBaseDeclaredLeftLeft.{Left}
use Rattle.lua_graph.specs.Copied.{table_cost}
use Rattle.lua_graph.proofs.Places.{drop_at, drop_past}

-- of a sum all but the rest has been taken, and it was covered
pub record Paid (total rest : ℕ) (old new : Left) : Type 0 where
  pub sum : new.steps + total ≡ old.steps + rest
  pub only : new ≡ record old { steps = new.steps }

-- one part was taken from what was left
pub record Takes (part : ℕ) (covered : Bool) (mid new : Left) : Type 0 where
  pub test : IsTrue covered ↔ (part ≤ mid.steps)
  pub rest : new ≡ record mid { steps = mid.steps - part }

fewer : (part : ℕ) (mid new : Left) → new ≡ record mid { steps = mid.steps - part } → new.steps ≡ mid.steps - part
fewer part mid new e = ap (λ (l : Left). l.steps) e

paid_on : (total rest next part : ℕ) (covered : Bool) (old mid new : Left) → rest ≡ part + next → Takes part covered mid new → covered ≡ true → Paid total rest old mid → Paid total next old new
paid_on total rest next part covered old mid new split t is p =
    let le : part ≤ mid.steps = t.test.0 is in
    let now = fewer part mid new t.rest in record {
      sum = omega (arith, p.sum, split, le, now);
      only = t.rest ∙ ap (λ (l : Left). record l { steps = mid.steps - part }) p.only ∙ ap (λ n. record old { steps = n }) (sym now);
    }

paid_all : (total rest : ℕ) (old new : Left) → rest ≡ 0 → Paid total rest old new → Takes total true old new
paid_all total rest old new none p =
    let le : total ≤ old.steps = omega (arith, p.sum, none) in
    let now : new.steps ≡ old.steps - total = omega (arith, p.sum, none) in record {
      test = (λ t. le, λ h. refl);
      rest = p.only ∙ ap (λ n. record old { steps = n }) now;
    }

not_less : (a b : ℕ) → ((b ≤ a) → false ≡ true) → a < b
not_less a b f = let over : b ≤ a → ⊥ = λ h. true≢false (sym (f h)) in omega (arith, over)

paid_short : (total rest next part : ℕ) (covered : Bool) (old mid new : Left) → rest ≡ part + next → Takes part covered mid new → covered ≡ false → Paid total rest old mid → Takes total false old new
paid_short total rest next part covered old mid new split t is p =
    let short : mid.steps < part = not_less mid.steps part (λ h. sym is ∙ t.test.1 h) in
    let over : old.steps < total = omega (arith, p.sum, split, short) in
    let now = fewer part mid new t.rest in
    let zero_ : mid.steps - part ≡ old.steps - total = omega (arith, short, over) in record {
      test = (λ t. absurd (true≢false (sym t)), λ h. absurd (omega (arith, over, h)));
      rest = t.rest ∙ ap (λ (l : Left). record l { steps = mid.steps - part }) p.only ∙ ap (λ n. record old { steps = n }) zero_;
    }

-- THE TABLES OF AN ORDER, of which those before a place were paid
module _ {X : Type 0} (h : Heap X) (order : List ℕ) (at : ℕ) where
  next_table : (t : ℕ) → slice_get order at ≡ Some t → tables_cost h (drop at order) ≡ table_cost (table_at h t) + tables_cost h (drop (at + 1) order)
  next_table t there = ap (tables_cost h) (drop_at order at t there)

  pub tables_on : (t : ℕ) (covered : Bool) (old mid new : Left) → slice_get order at ≡ Some t → (IsTrue covered ↔ (table_cost (table_at h t) ≤ mid.steps)) → new ≡ record mid { steps = mid.steps - table_cost (table_at h t) }
      → covered ≡ true → Paid (tables_cost h order) (tables_cost h (drop at order)) old mid → Paid (tables_cost h order) (tables_cost h (drop (at + 1) order)) old new
  tables_on t covered old mid new there test rest is p =
      paid_on (tables_cost h order) (tables_cost h (drop at order)) (tables_cost h (drop (at + 1) order)) (table_cost (table_at h t)) covered old mid new (next_table t there) (record { test = test; rest = rest }) is p

  pub tables_short : (t : ℕ) (covered : Bool) (old mid new : Left) → slice_get order at ≡ Some t → (IsTrue covered ↔ (table_cost (table_at h t) ≤ mid.steps)) → new ≡ record mid { steps = mid.steps - table_cost (table_at h t) }
      → covered ≡ false → Paid (tables_cost h order) (tables_cost h (drop at order)) old mid → Takes (tables_cost h order) false old new
  tables_short t covered old mid new there test rest is p =
      paid_short (tables_cost h order) (tables_cost h (drop at order)) (tables_cost h (drop (at + 1) order)) (table_cost (table_at h t)) covered old mid new (next_table t there) (record { test = test; rest = rest }) is p

  pub tables_all : (old new : Left) → slice_get order at ≡ None → Paid (tables_cost h order) (tables_cost h (drop at order)) old new → Takes (tables_cost h order) true old new
  tables_all old new none p = paid_all (tables_cost h order) (tables_cost h (drop at order)) old new (ap (tables_cost h) (drop_past order at none)) p
