-- A list of entries, and the list with f of each key and each value. Where f tells keys apart exactly as they are told apart,
-- each reading and each change of the one list is that of the other.
use Rattle.std.proofs.Common.{◌≡◌, ◌+◌, Bool, true, false, cond, List, [], ◌∷◌, Option, Some, None, refl, sym, ap, ◌∙◌, map, is_some, unwrap_or}
use Rattle.std.specs.List.{AllByRecursion}
use Rattle.std.specs.Map.{lookup}
use Rattle.std.specs.Option.{option_map}
use Rattle.lua_table.specs.Entries.{value_at, is_there, set_at, after_key, first_live, Stop}

module _ {A B : Type 0} (eq : A → A → Bool) (same : B → B → Bool) (f : A → B) (P : A → Type 0) (alike : (a b : A) → P a → P b → eq a b ≡ same (f a) (f b)) where
  abbrev pub entry : A × A → B × B
  entry e = (f e.0, f e.1)

  abbrev pub Holds : A × A → Type 0
  Holds e = P e.0 × P e.1

  pub lookup-seen : (es : List (A × A)) (key : A) → AllByRecursion Holds es → P key → lookup (same (f key)) (map entry es) ≡ option_map f (lookup (eq key) es)
  lookup-seen [] key all p = refl
  lookup-seen (e ∷ es) key all p =
      ap (λ b. cond b (Some (f e.1)) (lookup (same (f key)) (map entry es))) (sym (alike key e.0 p all.0.0))
      ∙ ap (λ r. cond (eq key e.0) (Some (f e.1)) r) (lookup-seen es key all.1 p)
      ∙ elim (eq key e.0) as (λ b. cond b (Some (f e.1)) (option_map f (lookup (eq key) es)) ≡ option_map f (cond b (Some e.1) (lookup (eq key) es))) [ true ↦ refl | false ↦ refl ]

  pub found : (es : List (A × A)) (key : A) → AllByRecursion Holds es → (nil : A) → P nil → P (unwrap_or (lookup (eq key) es) nil)
  found [] key all nil p = p
  found (e ∷ es) key all nil p =
      elim (eq key e.0) as (λ b. P (unwrap_or (cond b (Some e.1) (lookup (eq key) es)) nil)) [ true ↦ all.0.1 | false ↦ found es key all.1 nil p ]

  module _ (nil : A) (nil_of : P nil) where
    pub value_at-seen : (es : List (A × A)) (key : A) → AllByRecursion Holds es → P key → value_at same (f nil) (map entry es) (f key) ≡ f (value_at eq nil es key)
    value_at-seen es key all p = ap (λ r. unwrap_or r (f nil)) (lookup-seen es key all p) ∙ out (lookup (eq key) es)
      where
        out : (o : Option A) → unwrap_or (option_map f o) (f nil) ≡ f (unwrap_or o nil)
        out None = refl
        out (Some a) = refl

    pub is_there-seen : (es : List (A × A)) (key : A) → AllByRecursion Holds es → P key → is_there same (f nil) (map entry es) (f key) ≡ is_there eq nil es key
    is_there-seen es key all p = ap is_some (lookup-seen es key all p) ∙ out (lookup (eq key) es)
      where
        out : (o : Option A) → is_some (option_map f o) ≡ is_some o
        out None = refl
        out (Some a) = refl

    pub set_at-seen : (es : List (A × A)) (key value : A) → AllByRecursion Holds es → P key → P value → map entry (set_at eq nil es key value) ≡ set_at same (f nil) (map entry es) (f key) (f value)
    set_at-seen [] key value all p q =
        elim (eq value nil) as (λ b. map entry (cond b [] ((key, value) ∷ [])) ≡ cond b [] ((f key, f value) ∷ [])) [ true ↦ refl | false ↦ refl ]
        ∙ ap (λ b. cond b [] ((f key, f value) ∷ [])) (alike value nil q nil_of)
    set_at-seen (e ∷ es) key value all p q =
        elim (eq key e.0) as (λ b. map entry (cond b ((e.0, value) ∷ es) (e ∷ set_at eq nil es key value)) ≡ cond b ((f e.0, f value) ∷ map entry es) (entry e ∷ map entry (set_at eq nil es key value))) [ true ↦ refl | false ↦ refl ]
        ∙ ap (λ r. cond (eq key e.0) ((f e.0, f value) ∷ map entry es) (entry e ∷ r)) (set_at-seen es key value all.1 p q)
        ∙ ap (λ b. cond b ((f e.0, f value) ∷ map entry es) (entry e ∷ set_at same (f nil) (map entry es) (f key) (f value))) (alike key e.0 p all.0.0)

    pub set_at-holds : (es : List (A × A)) (key value : A) → AllByRecursion Holds es → P key → P value → AllByRecursion Holds (set_at eq nil es key value)
    set_at-holds [] key value all p q = elim (eq value nil) as (λ b. AllByRecursion Holds (cond b [] ((key, value) ∷ []))) [ true ↦ tt | false ↦ ((p, q), tt) ]
    set_at-holds (e ∷ es) key value all p q =
        elim (eq key e.0) as (λ b. AllByRecursion Holds (cond b ((e.0, value) ∷ es) (e ∷ set_at eq nil es key value)))
        [ true ↦ ((all.0.0, q), all.1) | false ↦ (all.0, set_at-holds es key value all.1 p q) ]

    pub after_key-seen : (es : List (A × A)) (key : A) → AllByRecursion Holds es → P key → after_key same (f nil) (map entry es) (f key) ≡ option_map (map entry) (after_key eq nil es key)
    after_key-seen [] key all p = refl
    after_key-seen (e ∷ es) key all p =
        ap (λ b. cond b (Some (map entry es)) (after_key same (f nil) (map entry es) (f key))) (sym (alike key e.0 p all.0.0))
        ∙ ap (λ r. cond (eq key e.0) (Some (map entry es)) r) (after_key-seen es key all.1 p)
        ∙ elim (eq key e.0) as (λ b. cond b (Some (map entry es)) (option_map (map entry) (after_key eq nil es key)) ≡ option_map (map entry) (cond b (Some es) (after_key eq nil es key))) [ true ↦ refl | false ↦ refl ]

    -- what holds of all entries holds of those behind a key
    pub after_key-holds : (es : List (A × A)) (key : A) (rest : List (A × A)) → AllByRecursion Holds es → after_key eq nil es key ≡ Some rest → AllByRecursion Holds rest
    after_key-holds [] key rest all h = cc
    after_key-holds (e ∷ es) key rest all h = by (after_key-holds es key rest all.1) (eq key e.0) h
      where
        by : (after_key eq nil es key ≡ Some rest → AllByRecursion Holds rest) → (b : Bool) → cond b (Some es) (after_key eq nil es key) ≡ Some rest → AllByRecursion Holds rest
        by go true k = let is : es ≡ rest = cc in rw (← is) all.1
        by go false k = go k

    abbrev pub stop : Stop eq nil → Stop same (f nil)
    stop s = record { key = f s.key; value = f s.value; passed = s.passed }

    pub first_live-seen : (es : List (A × A)) → AllByRecursion Holds es → first_live same (f nil) (map entry es) ≡ stop (first_live eq nil es)
    first_live-seen [] all = refl
    first_live-seen (e ∷ es) all =
        ap (λ b. cond b (passing (first_live same (f nil) (map entry es))) (here e)) (sym (alike e.1 nil all.0.1 nil_of))
        ∙ ap (λ s. cond (eq e.1 nil) (passing s) (here e)) (first_live-seen es all.1)
        ∙ elim (eq e.1 nil) as (λ b. cond b (passing (stop (first_live eq nil es))) (here e) ≡ stop (cond b (let s = first_live eq nil es in record s { passed = s.passed + 1 }) (record { key = e.0; value = e.1; passed = 0 }))) [ true ↦ refl | false ↦ refl ]
      where
        passing : Stop same (f nil) → Stop same (f nil)
        passing s = record s { passed = s.passed + 1 }

        here : A × A → Stop same (f nil)
        here x = record { key = f x.0; value = f x.1; passed = 0 }

    pub first_live-holds : (es : List (A × A)) → AllByRecursion Holds es → P (first_live eq nil es).key × P (first_live eq nil es).value
    first_live-holds [] all = (nil_of, nil_of)
    first_live-holds (e ∷ es) all =
        elim (eq e.1 nil) as (λ b. let s : Stop eq nil = cond b (let s = first_live eq nil es in record s { passed = s.passed + 1 }) (record { key = e.0; value = e.1; passed = 0 }) in P s.key × P s.value)
        [ true ↦ first_live-holds es all.1 | false ↦ all.0 ]
