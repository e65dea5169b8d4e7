-- The run of numbers that are keys, with the marks of those that are cleared, and the least border that they tell.
use Rattle.std.proofs.Common.{◌≡◌, ◌≢◌, ◌∙◌, sym, Bool, true, false, true≢false, List, [], Option, Some, None, ℤ, pos, refl, ap, ℕ, zero, suc, ◌+◌, ◌<◌, ◌≤◌, ◌⊎◌, inl, inr, arith, length, is_some, unwrap_or, get_or, add-one}
use Rattle.std.specs.Cmp.{IsEquivalence}
use Rattle.std.specs.Map.{lookup}
use Rattle.lua_table.proofs.FrontLemmas.{not_true}
use Rattle.lua_table.proofs.SetLemmas.{value_at-other, value_at-same, lookup-other, HasKeys-empty, HasKeys-set}
use Rattle.lua_table.specs.Entries.{IsBorder, HasKeys, value_at, set_at}
use Rattle.lua_table.specs.Holes.{MarksCleared, MarksClearedBut}

pub near_or_far : (k b : ℕ) → (k ≤ b) ⊎ (b < k)
near_or_far zero b = inl (omega arith)
near_or_far (suc k) zero = inr (omega arith)
near_or_far (suc k) (suc b) = elim (near_or_far k b) [ inl e ↦ inl (omega arith) | inr e ↦ inr (omega arith) ]

-- a table without entries
pub empty-table : {V : Type 0} (eq : V → V → Bool) (nil : V) (number : ℤ → V) (es : List (V × V)) (marks : List Bool) → es ≡ []
    → MarksCleared eq nil number es marks 0 × HasKeys eq nil es
empty-table eq nil number es marks none =
    rw none (record { most = omega arith; fits = omega arith; right = λ k low. absurd (omega arith); ends = λ fits. refl }, HasKeys-empty eq nil)

nothing-there : {V : Type 0} (found : Option V) (nil : V) → is_some found ≡ false → unwrap_or found nil ≡ nil
nothing-there None nil h = refl
nothing-there (Some v) nil h = cc

module _ {V : Type 0} (eq : V → V → Bool) (nil : V) (number : ℤ → V) (es : List (V × V)) (marks : List Bool) (run : ℕ) (told : MarksCleared eq nil number es marks run) where
  module _ (laws : IsEquivalence eq) (same : (a b : V) → eq a b ≡ true → a ≡ b) where
    live : (n : ℕ) → ((k : ℕ) → k < n → get_or marks k false ≡ false) → n ≤ run → (k : ℕ) → 0 < k → k ≤ n → value_at eq nil es (number (pos k)) ≢ nil
    live n before within zero low high h = absurd (omega arith)
    live n before within (suc k) low high h =
        let here : eq (value_at eq nil es (number (pos (k + 1)))) nil ≡ false = sym (told.right k (omega arith)) ∙ before k (omega arith) in
        let is : value_at eq nil es (number (pos (k + 1))) ≡ nil = ap (λ m. value_at eq nil es (number (pos m))) (add-one k) ∙ h in
        true≢false (sym (laws.refl nil) ∙ ap (λ v. eq v nil) (sym is) ∙ here)

    -- the first mark is the border
    pub border-marked : (place : ℕ) → place < run → get_or marks place false ≡ true → ((k : ℕ) → k < place → get_or marks k false ≡ false) → IsBorder eq nil number es place
    border-marked place within marked before = record {
      below = live place before (omega arith);
      above = λ _. same (value_at eq nil es (number (pos (place + 1)))) nil (sym (told.right place within) ∙ marked);
    }

    -- where the run has no mark, its end is
    pub border-end : ((k : ℕ) → k < run → get_or marks k false ≡ false) → IsBorder eq nil number es run
    border-end before = record {
      below = live run before (omega arith);
      above = λ fits. nothing-there (lookup (eq (number (pos (run + 1)))) es) nil (told.ends fits);
    }

-- a set, with the mark of its key
module _ {V : Type 0} (eq : V → V → Bool) (nil : V) (number : ℤ → V) (laws : IsEquivalence eq) (same : (a b : V) → eq a b ≡ true → a ≡ b)
    (es : List (V × V)) (key value : V) where
  pub told-set : (marks after : List Bool) (run : ℕ) (cleared : Bool) → MarksClearedBut eq nil number key es marks run → cleared ≡ eq value nil → length after ≡ length marks
      → ((k : ℕ) → k < run → key ≡ number (pos (k + 1)) → get_or after k false ≡ cleared)
      → ((k : ℕ) → key ≢ number (pos (k + 1)) → get_or after k false ≡ get_or marks k false)
      → MarksCleared eq nil number (set_at eq nil es key value) after run
  told-set marks after run cleared told is long here others =
      let fits : run ≤ length marks = told.fits in
      record {
        most = told.most;
        fits = omega arith;
        right = λ k low. by k low (eq (number (pos (k + 1))) key) refl;
        ends = λ fits.
            let apart : eq (number (pos (run + 1))) key ≡ false = not_true _ (λ h. told.other fits (sym (same (number (pos (run + 1))) key h))) in
            ap is_some (lookup-other eq nil same es key value (number (pos (run + 1))) apart) ∙ told.ends fits;
      }
    where
      by : (k : ℕ) → k < run → (b : Bool) → eq (number (pos (k + 1))) key ≡ b → get_or after k false ≡ eq (value_at eq nil (set_at eq nil es key value) (number (pos (k + 1)))) nil
      by k low true h =
          let named : key ≡ number (pos (k + 1)) = sym (same (number (pos (k + 1))) key h) in
          here k low named ∙ is
          ∙ ap (λ v. eq v nil) (sym (value_at-same eq nil laws.refl same es key value) ∙ ap (λ n. value_at eq nil (set_at eq nil es key value) n) named)
      by k low false h =
          let other : key ≢ number (pos (k + 1)) = λ e. true≢false (sym (laws.refl key) ∙ ap (λ n. eq n key) e ∙ h) in
          others k other ∙ told.right k low other
          ∙ ap (λ v. eq v nil) (sym (value_at-other eq nil same es key value (number (pos (k + 1))) h))

  -- what is true of a table stays so after a set
  pub table-set : (marks after : List Bool) (run : ℕ) (cleared : Bool) (new : List (V × V)) → new ≡ set_at eq nil es key value → key ≢ nil → HasKeys eq nil es
      → MarksClearedBut eq nil number key es marks run → cleared ≡ eq value nil → length after ≡ length marks
      → ((k : ℕ) → k < run → key ≡ number (pos (k + 1)) → get_or after k false ≡ cleared)
      → ((k : ℕ) → key ≢ number (pos (k + 1)) → get_or after k false ≡ get_or marks k false)
      → MarksCleared eq nil number new after run × HasKeys eq nil new
  table-set marks after run cleared new stored named has told is long here others =
      rw stored (told-set marks after run cleared told is long here others, HasKeys-set eq nil laws es key value named has)
