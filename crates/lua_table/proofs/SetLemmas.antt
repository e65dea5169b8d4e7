-- A set, as a change of the list of entries.
use Rattle.std.proofs.Common.{◌≡◌, ◌≢◌, Bool, true, false, not, ◌&&◌, sym, ◌∙◌, cond, List, [], ◌∷◌, Some, None, refl, ap, is_some, unwrap_or, subst}
use Rattle.std.specs.Cmp.{IsEquivalence}
use Rattle.std.specs.List.{AllByRecursion, IsDistinct}
use Rattle.std.specs.Map.{lookup, keys_of}
use Rattle.indexmap.specs.IndexMap.{insert_entry}
use Rattle.lua_table.specs.Entries.{value_at, is_there, set_at, HasKeys}

module _ {V : Type 0} (eq : V → V → Bool) (nil : V) where
  -- where the key is there or the value is not nil, a set is an insertion
  pub set_at-there : (es : List (V × V)) (key value : V) → is_there eq nil es key ≡ true → set_at eq nil es key value ≡ insert_entry eq es key value
  set_at-there [] key value there = cc
  set_at-there (e ∷ es) key value there =
      (elim (eq key e.0) as (λ b. is_some (cond b (Some e.1) (lookup (eq key) es)) ≡ true → cond b ((e.0, value) ∷ es) (e ∷ set_at eq nil es key value) ≡ cond b ((e.0, value) ∷ es) (e ∷ insert_entry eq es key value))
      [ true ↦ (λ _. refl) | false ↦ (λ h. ap (λ r. e ∷ r) (set_at-there es key value h)) ]) there

  pub set_at-live : (es : List (V × V)) (key value : V) → eq value nil ≡ false → set_at eq nil es key value ≡ insert_entry eq es key value
  set_at-live [] key value live = ap (λ b. cond b [] ((key, value) ∷ [])) live
  set_at-live (e ∷ es) key value live = ap (λ r. cond (eq key e.0) ((e.0, value) ∷ es) (e ∷ r)) (set_at-live es key value live)

  -- nil for an absent key makes no entry
  pub set_at-nothing : (es : List (V × V)) (key value : V) → is_there eq nil es key ≡ false → eq value nil ≡ true → set_at eq nil es key value ≡ es
  set_at-nothing [] key value absent cleared = ap (λ b. cond b [] ((key, value) ∷ [])) cleared
  set_at-nothing (e ∷ es) key value absent cleared =
      (elim (eq key e.0) as (λ b. is_some (cond b (Some e.1) (lookup (eq key) es)) ≡ false → cond b ((e.0, value) ∷ es) (e ∷ set_at eq nil es key value) ≡ e ∷ es)
      [ true ↦ (λ h. cc) | false ↦ (λ h. ap (λ r. e ∷ r) (set_at-nothing es key value h cleared)) ]) absent

  -- the same by the test that the code makes
  pub set_at-stored : (es : List (V × V)) (key value : V) (there cleared : Bool) → there ≡ is_there eq nil es key → cleared ≡ eq value nil
      → (not there && cleared) ≡ false → set_at eq nil es key value ≡ insert_entry eq es key value
  set_at-stored es key value true cleared at is h = set_at-there es key value (sym at)
  set_at-stored es key value false cleared at is h = set_at-live es key value (sym is ∙ h)

  pub set_at-skipped : (es : List (V × V)) (key value : V) (there cleared : Bool) → there ≡ is_there eq nil es key → cleared ≡ eq value nil
      → (not there && cleared) ≡ true → es ≡ set_at eq nil es key value
  set_at-skipped es key value true cleared at is h = cc
  set_at-skipped es key value false cleared at is h = sym (set_at-nothing es key value (sym at) (sym is ∙ h))

  -- what a set leaves at another key
  pub lookup-other : (same : (a b : V) → eq a b ≡ true → a ≡ b) (es : List (V × V)) (key value k : V) → eq k key ≡ false
      → lookup (eq k) (set_at eq nil es key value) ≡ lookup (eq k) es
  lookup-other same [] key value k other = by (eq value nil)
    where
      by : (b : Bool) → lookup (eq k) (cond b [] ((key, value) ∷ [])) ≡ None
      by true = refl
      by false = rw other refl
  lookup-other same (e ∷ es) key value k other = by (lookup-other same es key value k other) (eq key e.0) refl
    where
      by : lookup (eq k) (set_at eq nil es key value) ≡ lookup (eq k) es → (b : Bool) → eq key e.0 ≡ b
          → lookup (eq k) (cond b ((e.0, value) ∷ es) (e ∷ set_at eq nil es key value)) ≡ lookup (eq k) (e ∷ es)
      by on true h =
          let P : V → Type 0 = λ x. eq k x ≡ false in
          let apart : eq k e.0 ≡ false = subst P (same key e.0 h) other in
          rw apart refl
      by on false h = ap (λ r. cond (eq k e.0) (Some e.1) r) on

  pub value_at-other : (same : (a b : V) → eq a b ≡ true → a ≡ b) (es : List (V × V)) (key value k : V) → eq k key ≡ false
      → value_at eq nil (set_at eq nil es key value) k ≡ value_at eq nil es k
  value_at-other same es key value k other = ap (λ r. unwrap_or r nil) (lookup-other same es key value k other)

  -- and at the key itself
  pub value_at-same : (alike : (a : V) → eq a a ≡ true) (same : (a b : V) → eq a b ≡ true → a ≡ b) (es : List (V × V)) (key value : V)
      → value_at eq nil (set_at eq nil es key value) key ≡ value
  value_at-same alike same [] key value = by (eq value nil) refl
    where
      by : (b : Bool) → eq value nil ≡ b → value_at eq nil (cond b [] ((key, value) ∷ [])) key ≡ value
      by true h = sym (same value nil h)
      by false h = let here : eq key key ≡ true = alike key in rw here refl
  value_at-same alike same (e ∷ es) key value = by (value_at-same alike same es key value) (eq key e.0) refl
    where
      by : value_at eq nil (set_at eq nil es key value) key ≡ value → (b : Bool) → eq key e.0 ≡ b
          → value_at eq nil (cond b ((e.0, value) ∷ es) (e ∷ set_at eq nil es key value)) key ≡ value
      by on true h = rw h refl
      by on false h = rw h on

  -- a set keeps the keys apart, and none of them is nil
  all-set : (P : V → Type 0) (es : List (V × V)) (key value : V) → AllByRecursion P (keys_of es) → P key → AllByRecursion P (keys_of (set_at eq nil es key value))
  all-set P [] key value all here = by (eq value nil)
    where
      by : (b : Bool) → AllByRecursion P (keys_of (cond b [] ((key, value) ∷ [])))
      by true = tt
      by false = (here, tt)
  all-set P (e ∷ es) key value all here = by (all-set P es key value all.1 here) (eq key e.0)
    where
      by : AllByRecursion P (keys_of (set_at eq nil es key value)) → (b : Bool) → AllByRecursion P (keys_of (cond b ((e.0, value) ∷ es) (e ∷ set_at eq nil es key value)))
      by on true = all
      by on false = (all.0, on)

  distinct-set : IsEquivalence eq → (es : List (V × V)) (key value : V) → IsDistinct eq (keys_of es) → IsDistinct eq (keys_of (set_at eq nil es key value))
  unfolding IsDistinct
  distinct-set laws [] key value apart = by (eq value nil)
    where
      by : (b : Bool) → IsDistinct eq (keys_of (cond b [] ((key, value) ∷ [])))
      by true = tt
      by false = (tt, tt)
  distinct-set laws (e ∷ es) key value apart = by (distinct-set laws es key value apart.1) (eq key e.0) refl
    where
      by : IsDistinct eq (keys_of (set_at eq nil es key value)) → (b : Bool) → eq key e.0 ≡ b → IsDistinct eq (keys_of (cond b ((e.0, value) ∷ es) (e ∷ set_at eq nil es key value)))
      by on true h = apart
      by on false h = (all-set (λ y. eq e.0 y ≡ false) es key value apart.0 (laws.symm e.0 key ∙ h), on)

  pub HasKeys-set : IsEquivalence eq → (es : List (V × V)) (key value : V) → key ≢ nil → HasKeys eq nil es → HasKeys eq nil (set_at eq nil es key value)
  HasKeys-set laws es key value named has =
      record { distinct = distinct-set laws es key value has.distinct; keys = all-set (λ k. k ≢ nil) es key value has.keys named }

  pub HasKeys-empty : HasKeys eq nil []
  unfolding IsDistinct
  HasKeys-empty = record { distinct = tt; keys = tt }
