-- A level of an error is at hand: where so many lines called in a row, it stands in the function there, at the line of the one before.
use Rattle.std.proofs.Common.{◌≡◌, ◌∙◌, ℕ, zero, suc, ◌-◌, ◌<◌, ◌≤◌, List, [], ◌∷◌, Option, Some, None, refl, sym, ap, subst, slice_get, arith}
use Rattle.std.specs.Option.{option_map, IfSome}
use Rattle.std.proofs.lemmas.Option.{none-some}
use Rattle.lua_store.specs.Seen.{StoreView}
use Rattle.lua_replacing.specs.LuaMeaningMessages.{nth_level}
use Rattle.lua_code.specs.LuaSlotsSlots.{levels_at}
use Rattle.lua_stack.specs.declared.activation.Activation.{Activation}
use Rattle.lua_stack.specs.declared.activation.Level.{Level}
use Rattle.lua_stack.specs.Levels.{levels_from, KnowReach, level_in, level_of}
use Rattle.lua_stack.specs.Seen.{activations_seen, level_seen}
use Rattle.lua_stack.specs.Of.{ActivationOf, ActivationsOf}
use Rattle.lua_store.specs.Parts.{IsTextOf}

some-is : {A : Type 0} (a b : A) → Some a ≡ Some b → a ≡ b
some-is a b e = cc

module _ (s : StoreView) where
  near : (a : Activation) (more : List Activation) (called : Option ℕ) (k : ℕ) → a.called_at ≡ called → KnowReach more → k < levels_from more called
      → slice_get (levels_at (activations_seen s more) called) k ≡ option_map (level_seen s.texts) (level_of (slice_get (a ∷ more) k) (slice_get more k))
  near a [] called k e h b = absurd (omega (arith, b))
  near a (c ∷ more) None k e h b = absurd (omega (arith, b))
  near a (c ∷ more) (Some l) zero e h b = rw e refl
  near a (c ∷ more) (Some l) (suc k) e h b = near c more c.called_at k refl h.1 (omega (arith, b, h.0))

  far : (more : List Activation) (called : Option ℕ) (k : ℕ) → KnowReach more → levels_from more called ≤ k → slice_get (levels_at (activations_seen s more) called) k ≡ None
  far [] called k h b = refl
  far (c ∷ more) None k h b = refl
  far (c ∷ more) (Some l) zero h b = absurd (omega (arith, b))
  far (c ∷ more) (Some l) (suc k) h b = far more c.called_at k h.1 (omega (arith, b, h.0))

  -- the levels behind the first one
  pub behind : (fs : List Activation) (a : Activation) (l n : ℕ) → Some a ≡ slice_get fs 0 → KnowReach fs → 2 ≤ n → n - 2 < a.reach
      → option_map (level_seen s.texts) (level_of (slice_get fs (n - 2)) (slice_get fs (n - 1))) ≡ nth_level (levels_at (activations_seen s fs) (Some l)) n
  behind [] a l n e h g b = absurd (none-some a (sym e))
  behind (c ∷ fs) a l zero e h g b = absurd (omega (arith, g))
  behind (c ∷ fs) a l (suc zero) e h g b = absurd (omega (arith, g))
  behind (c ∷ fs) a l (suc (suc k)) e h g b =
      let is : a ≡ c = some-is a c e in
      let two : suc (suc k) - 2 ≡ k = omega arith in
      let one : suc (suc k) - 1 ≡ suc k = omega arith in
      let r : a.reach ≡ c.reach = ap (λ (x : Activation). x.reach) is in
      sym (near c fs c.called_at k refl h.1 (omega (arith, b, h.0, r, two)) ∙ ap (λ (m : ℕ). option_map (level_seen s.texts) (level_of (slice_get (c ∷ fs) m) (slice_get fs k))) (sym two)
      ∙ ap (λ (m : ℕ). option_map (level_seen s.texts) (level_of (slice_get (c ∷ fs) (suc (suc k) - 2)) (slice_get (c ∷ fs) m))) (sym one))

  pub beyond : (fs : List Activation) (a : Activation) (l n : ℕ) → Some a ≡ slice_get fs 0 → KnowReach fs → 2 ≤ n → a.reach ≤ n - 2
      → None ≡ nth_level (levels_at (activations_seen s fs) (Some l)) n
  beyond [] a l n e h g b = absurd (none-some a (sym e))
  beyond (c ∷ fs) a l zero e h g b = refl
  beyond (c ∷ fs) a l (suc zero) e h g b = absurd (omega (arith, g))
  beyond (c ∷ fs) a l (suc (suc k)) e h g b =
      let is : a ≡ c = some-is a c e in
      let r : a.reach ≡ c.reach = ap (λ (x : Activation). x.reach) is in
      sym (far fs c.called_at k h.1 (omega (arith, b, h.0, r)))

  -- the first one
  pub first : (fs : List Activation) (a : Activation) (l n : ℕ) → Some a ≡ slice_get fs 0 → n ≡ 1
      → Some (level_seen s.texts (let x : Level = record { source = a.source; line = l } in x)) ≡ nth_level (levels_at (activations_seen s fs) (Some l)) n
  first [] a l n e o = absurd (none-some a (sym e))
  first (c ∷ fs) a l n e o =
      let is : a ≡ c = some-is a c e in
      ap (λ (x : Activation). Some (level_seen s.texts (let y : Level = record { source = x.source; line = l } in y))) is
      ∙ ap (nth_level (levels_at (activations_seen s (c ∷ fs)) (Some l))) (sym o)

  -- none, where no function is in progress or no line is given
  no-level : (n : ℕ) → None ≡ nth_level [] n
  no-level zero = refl
  no-level (suc n) = refl

  pub no-function : (fs : List Activation) (line : Option ℕ) (n : ℕ) → None ≡ slice_get fs 0 → None ≡ nth_level (levels_at (activations_seen s fs) line) n
  no-function [] line n e = no-level n
  no-function (c ∷ fs) line n e = absurd (none-some c e)

  pub no-line : (fs : List Activation) (n : ℕ) → None ≡ nth_level (levels_at (activations_seen s fs) None) n
  no-line [] n = no-level n
  no-line (c ∷ fs) n = no-level n

-- the text of a level is that of a function in progress
in_source : (s : StoreView) (calling : Activation) (line : Option ℕ) → ActivationOf s calling → IfSome (level_in calling line) (λ l. IsTextOf s l.source)
in_source s calling None h = tt
in_source s calling (Some line) h = h.source

of_source : (s : StoreView) (called calling : Option Activation) → IfSome calling (ActivationOf s) → IfSome (level_of called calling) (λ l. IsTextOf s l.source)
of_source s None calling h = tt
of_source s (Some called) None h = tt
of_source s (Some called) (Some calling) h = in_source s calling called.called_at h

among : (s : StoreView) (fs : List Activation) (j : ℕ) → ActivationsOf s fs → IfSome (slice_get fs j) (ActivationOf s)
among s [] j h = tt
among s (a ∷ fs) zero h = h.0
among s (a ∷ fs) (suc j) h = among s fs j h.1

pub level_source : (s : StoreView) (fs : List Activation) (i j : ℕ) (o : Option Level) → ActivationsOf s fs → o ≡ level_of (slice_get fs i) (slice_get fs j) → IfSome o (λ l. IsTextOf s l.source)
level_source s fs i j o h e = subst (λ (x : Option Level). IfSome x (λ l. IsTextOf s l.source)) (sym e) (of_source s (slice_get fs i) (slice_get fs j) (among s fs j h))
