-- One start after the other.
use Rattle.std.proofs.Common.{◌≡◌, ℕ, ◌+◌, ◌-◌, ◌<◌, ◌≤◌, List, [], ◌∷◌, refl, ◌∙◌, ap, arith}
use Rattle.lua_pattern.specs.declared.item.Item.{Item}
use Rattle.lua_pattern.specs.Letters.{Letters, Symbol}
use Rattle.lua_pattern.specs.Way.{Outcome, Hit, Miss, tries, way, Answer, At, Nowhere, starting, answer_costs, answer_or_else, answer_tries, first_of}

answer_tries_costs : (n : ℕ) (a : Answer) → answer_tries (answer_costs n a) ≡ n + answer_tries a
answer_tries_costs n (At start end marks m) = refl
answer_tries_costs n (Nowhere m) = refl

tries_starting : (from : ℕ) (o : Outcome) → answer_tries (starting from o) ≡ tries o
tries_starting from (Hit end marks n) = refl
tries_starting from (Miss n) = refl

tries_more : (o : Outcome) (from : ℕ) (b : Answer) → tries o ≤ answer_tries (answer_or_else (starting from o) b)
tries_more (Hit end marks n) from b = omega arith
tries_more (Miss n) from b = omega (arith, answer_tries_costs n b)

-- the first start
first_hit : (a : Letters) (items : List Item) (subject : List ℕ) (cs : List Symbol) (from end : ℕ) (marks : List ℕ) (k : ℕ) →
    way a items subject from [] ≡ Hit end marks k → first_of a items subject cs from ≡ At from end marks k
first_hit a items subject [] from end marks k e = ap (starting from) e
first_hit a items subject (c ∷ cs) from end marks k e = ap (λ o. answer_or_else (starting from o) (first_of a items subject cs (from + c.size))) e

first_tries : (a : Letters) (items : List Item) (subject : List ℕ) (cs : List Symbol) (from : ℕ) → tries (way a items subject from []) ≤ answer_tries (first_of a items subject cs from)
first_tries a items subject [] from = omega (arith, tries_starting from (way a items subject from []))
first_tries a items subject (c ∷ cs) from = tries_more (way a items subject from []) from (first_of a items subject cs (from + c.size))

pub start_hits : (a : Letters) (items : List Item) (subject : List ℕ) (whole : Answer) (cs : List Symbol) (start end : ℕ) (marks : List ℕ) (left middle left_now : ℕ) →
    middle ≤ left → left_now ≤ middle →
    whole ≡ answer_costs (left - middle) (first_of a items subject cs start) →
    way a items subject start [] ≡ Hit end marks (middle - left_now) → whole ≡ At start end marks (left - left_now)
start_hits a items subject whole cs start end marks left middle left_now l1 l2 e h =
    let d : (left - middle) + (middle - left_now) ≡ left - left_now = omega (arith, l1, l2) in
    e ∙ ap (answer_costs (left - middle)) (first_hit a items subject cs start end marks (middle - left_now) h)
    ∙ ap (λ k. At start end marks k) d

pub start_ends : (a : Letters) (items : List Item) (subject : List ℕ) (whole : Answer) (cs : List Symbol) (start : ℕ) (left middle left_now : ℕ) →
    middle ≤ left → left_now ≤ middle → cs ≡ [] →
    whole ≡ answer_costs (left - middle) (first_of a items subject cs start) →
    way a items subject start [] ≡ Miss (middle - left_now) → whole ≡ Nowhere (left - left_now)
start_ends a items subject whole cs start left middle left_now l1 l2 s e h =
    let d : (left - middle) + (middle - left_now) ≡ left - left_now = omega (arith, l1, l2) in
    e ∙ ap (λ n. answer_costs (left - middle) (first_of a items subject n start)) s
    ∙ ap (λ o. answer_costs (left - middle) (starting start o)) h
    ∙ ap (λ k. Nowhere k) d

pub start_spends : (a : Letters) (items : List Item) (subject : List ℕ) (whole : Answer) (cs : List Symbol) (start left middle : ℕ) →
    middle ≤ left → whole ≡ answer_costs (left - middle) (first_of a items subject cs start) →
    middle < tries (way a items subject start []) → left < answer_tries whole
start_spends a items subject whole cs start left middle l1 e h =
    let f : tries (way a items subject start []) ≤ answer_tries (first_of a items subject cs start) = first_tries a items subject cs start in
    let g : answer_tries whole ≡ (left - middle) + answer_tries (first_of a items subject cs start) =
    ap answer_tries e ∙ answer_tries_costs (left - middle) (first_of a items subject cs start) in
    omega (arith, f, g, h, l1)
