-- The tree of marks: the first marked leaf is found from the root.
use Rattle.std.proofs.Common.{◌≡◌, ◌∙◌, sym, Bool, true, false, ◌||◌, List, length, drop, get_or, refl, ap, ℕ, zero, suc, ◌+◌, ◌<◌, ◌≤◌, inl, inr, arith}
use Rattle.std.proofs.lemmas.List.{get_or_past, get_or-drop}
use Rattle.std.proofs.lemmas.Option.{get_or_from_slice_get, slice_get_read}
use Rattle.lua_table.proofs.BorderLemmas.{near_or_far}
use Rattle.lua_table.specs.Holes.{IsTree, LeadsOn, IsWidth, first_below}

-- a place that is read, whatever is taken for those past the end
pub read : (marks : List Bool) (place : ℕ) (mark : Bool) → place < length marks → mark ≡ get_or marks place mark → get_or marks place false ≡ mark
read marks place mark within is = get_or_from_slice_get marks place mark false (slice_get_read marks (length marks) place mark refl within is)

-- the first leaf below a node
first_below-low : (levels node : ℕ) → node ≤ first_below levels node
first_below-low zero node = omega arith
first_below-low (suc levels) node = let on = first_below-low levels (node + node) in omega arith

first_below-later : (levels a b : ℕ) → a ≤ b → first_below levels a ≤ first_below levels b
first_below-later zero a b le = le
first_below-later (suc levels) a b le = first_below-later levels (a + a) (b + b) (omega arith)

or-left : (a b : Bool) → (a || b) ≡ false → a ≡ false
or-left true b h = h
or-left false b h = refl

or-right : (a b : Bool) → (a || b) ≡ false → b ≡ false
or-right true b h = cc
or-right false b h = h

or-other : (a b : Bool) → (a || b) ≡ true → a ≡ false → b ≡ true
or-other true b h e = cc
or-other false b h e = h

module _ (nodes : List Bool) (width : ℕ) (tree : IsTree nodes width) where
  -- no leaf below an unmarked node is marked
  none-below : (levels node leaf : ℕ) → 0 < node → get_or nodes node false ≡ false → first_below levels node ≤ leaf → leaf < first_below levels (node + 1) → leaf < width + width
      → get_or nodes leaf false ≡ false
  none-below zero node leaf some unmarked low high within = let same : leaf ≡ node = omega arith in rw same unmarked
  none-below (suc levels) node leaf some unmarked low high within =
      elim (near_or_far (first_below levels (node + node + 1)) leaf) [
        | inr left ↦ none-below levels (node + node) leaf (omega arith) (or-left _ (get_or nodes (node + node + 1) false) both) low left within
        | inl right ↦ none-below levels (node + node + 1) leaf (omega arith) (or-right (get_or nodes (node + node) false) _ both) right
            (let same : node + 1 + (node + 1) ≡ node + node + 1 + 1 = omega arith in rw (sym same) high) within
      ]
    where
      both : (get_or nodes (node + node) false || get_or nodes (node + node + 1) false) ≡ false
      both =
          let lowest : node + node ≤ first_below levels (node + node) = first_below-low levels (node + node) in
          sym (tree.joined node some (omega arith)) ∙ unmarked

  -- from the root
  pub leads-root : IsWidth width → 0 < width → get_or nodes 1 false ≡ true → LeadsOn nodes width 1
  leads-root complete some marked =
      let there = complete some in
      record {
        low = omega arith;
        high = omega arith;
        here = marked;
        levels = there.0;
        first = omega (arith, there.1);
        before = λ leaf low high. absurd (omega (arith, there.1));
      }

  module _ (node : ℕ) (leads : LeadsOn nodes width node) (inner : node < width) where
    either : (get_or nodes (node + node) false || get_or nodes (node + node + 1) false) ≡ true
    either = sym (tree.joined node leads.low inner) ∙ leads.here

    -- to the node on the left
    pub leads-left : get_or nodes (node + node) false ≡ true → LeadsOn nodes width (node + node)
    leads-left marked = by leads.levels leads.first leads.before
      where
        by : (levels : ℕ) → width ≤ first_below levels node → ((leaf : ℕ) → width ≤ leaf → leaf < first_below levels node → get_or nodes leaf false ≡ false)
            → LeadsOn nodes width (node + node)
        by zero first before = absurd (omega arith)
        by (suc levels) first before =
            let low : 0 < node = leads.low in
            record { low = omega arith; high = omega arith; here = marked; levels = levels; first = first; before = before }

    -- or to the one on the right
    pub leads-right : get_or nodes (node + node) false ≡ false → LeadsOn nodes width (node + node + 1)
    leads-right unmarked = by leads.levels leads.first leads.before
      where
        by : (levels : ℕ) → width ≤ first_below levels node → ((leaf : ℕ) → width ≤ leaf → leaf < first_below levels node → get_or nodes leaf false ≡ false)
            → LeadsOn nodes width (node + node + 1)
        by zero first before = absurd (omega arith)
        by (suc levels) first before =
            let low : 0 < node = leads.low in
            let on : first_below levels (node + node) ≤ first_below levels (node + node + 1) = first_below-later levels (node + node) (node + node + 1) (omega arith) in
            record {
              low = omega arith;
              high = omega arith;
              here = or-other (get_or nodes (node + node) false) _ either unmarked;
              levels = levels;
              first = omega arith;
              before = λ leaf from to. elim (near_or_far (first_below levels (node + node)) leaf) [
                | inr left ↦ before leaf from left
                | inl right ↦ elim (near_or_far (width + width) leaf) [
                  | inl past ↦ get_or_past nodes leaf false (omega (arith, tree.size))
                  | inr within ↦ none-below levels (node + node) leaf (omega arith) unmarked right to within
                ]
              ];
            }

  -- at a leaf
  pub leads-first : (node : ℕ) → LeadsOn nodes width node → (leaf : ℕ) → width ≤ leaf → leaf < node → get_or nodes leaf false ≡ false
  leads-first node leads leaf low high =
      let on : node ≤ first_below leads.levels node = first_below-low leads.levels node in
      leads.before leaf low (omega arith)

-- at an unmarked root no leaf is marked
first_below-twice : (levels node : ℕ) → first_below levels (node + node) ≡ first_below levels node + first_below levels node
first_below-twice zero node = refl
first_below-twice (suc levels) node = first_below-twice levels (node + node)

pub root-unmarked : (nodes : List Bool) (width : ℕ) → IsTree nodes width → IsWidth width → 0 < width → get_or nodes 1 false ≡ false → (k : ℕ) → get_or (drop width nodes) k false ≡ false
root-unmarked nodes width tree complete some unmarked k =
    get_or-drop width nodes k false ∙ elim (near_or_far (width + width) (width + k)) [
      | inl past ↦ get_or_past nodes (width + k) false (omega (arith, tree.size))
      | inr within ↦
          let there = complete some in
          let twice : first_below there.0 2 ≡ first_below there.0 1 + first_below there.0 1 = first_below-twice there.0 1 in
          none-below nodes width tree there.0 1 (width + k) (omega arith) unmarked (omega (arith, there.1)) (omega (arith, there.1, twice)) within
    ]

-- the widths of complete trees
pub twice-wide : (width twice : ℕ) → IsWidth width → 0 < width → twice ≡ width + width → IsWidth twice
twice-wide width twice complete some is more =
    let there = complete some in
    (suc there.0, is ∙ ap (λ n. n + n) there.1 ∙ sym (first_below-twice there.0 1))
