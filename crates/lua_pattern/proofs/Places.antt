-- The places from which a repeat goes back.
use Rattle.std.proofs.Common.{◌≡◌, ℕ, zero, suc, ◌+◌, ◌-◌, ◌<◌, ◌≤◌, Bool, true, false, cond, List, [], ◌∷◌, drop, refl, sym, ◌∙◌, ap, arith}
use Rattle.std.proofs.lemmas.List.{drop-drop}
use Rattle.lua_pattern.specs.declared.item.Single.{Single}
use Rattle.lua_pattern.specs.Letters.{Letters, Symbol, IsFirst, IsAlphabet}
use Rattle.lua_pattern.specs.Single.{fits}
use Rattle.lua_pattern.specs.Way.{Outcome, Rest, or_else, run, most_first}
use Rattle.lua_pattern.specs.Trail.{downwards}
use Rattle.lua_pattern.proofs.Laws.{else_assoc}

-- A place where no symbol begins is left out.
skipped : (a : Letters) (subject : List ℕ) (n : ℕ) (R : Rest) (at : ℕ) (marks : List ℕ) → a.starts (drop (at + suc n) subject) ≡ false →
    downwards a subject (suc n) R at marks ≡ downwards a subject n R at marks
skipped a subject n R at marks h =
    ap (λ v. cond v (or_else (R (at + suc n) marks) (downwards a subject n R at marks)) (downwards a subject n R at marks)) h

asked : (a : Letters) (subject : List ℕ) (n : ℕ) (R : Rest) (at : ℕ) (marks : List ℕ) → a.starts (drop (at + suc n) subject) ≡ true →
    downwards a subject (suc n) R at marks ≡ or_else (R (at + suc n) marks) (downwards a subject n R at marks)
asked a subject n R at marks h =
    ap (λ v. cond v (or_else (R (at + suc n) marks) (downwards a subject n R at marks)) (downwards a subject n R at marks)) h

pub step_down : (a : Letters) (subject : List ℕ) (low place : ℕ) (R : Rest) (marks : List ℕ) → low < place → a.starts (drop place subject) ≡ false →
    downwards a subject (place - low) R low marks ≡ downwards a subject (place - 1 - low) R low marks
step_down a subject low place R marks lt h =
    let n : ℕ = place - 1 - low in
    let s : place - low ≡ suc n = omega (arith, lt) in
    let p : low + suc n ≡ place = omega (arith, lt) in
    ap (λ k. downwards a subject k R low marks) s ∙ skipped a subject n R low marks (ap (λ k. a.starts (drop k subject)) p ∙ h)

pub take_down : (a : Letters) (subject : List ℕ) (low place : ℕ) (R : Rest) (marks : List ℕ) → low < place → a.starts (drop place subject) ≡ true →
    downwards a subject (place - low) R low marks ≡ or_else (R place marks) (downwards a subject (place - 1 - low) R low marks)
take_down a subject low place R marks lt h =
    let n : ℕ = place - 1 - low in
    let s : place - low ≡ suc n = omega (arith, lt) in
    let p : low + suc n ≡ place = omega (arith, lt) in
    ap (λ k. downwards a subject k R low marks) s ∙ asked a subject n R low marks (ap (λ k. a.starts (drop k subject)) p ∙ h)
    ∙ ap (λ k. or_else (R k marks) (downwards a subject n R low marks)) p

-- Inside a symbol no other begins.
inside : (a : Letters) (subject : List ℕ) (v : ℕ) (R : Rest) (at : ℕ) (marks : List ℕ) →
    ((k : ℕ) → 0 < k → k ≤ v → a.starts (drop (at + k) subject) ≡ false) → downwards a subject v R at marks ≡ R at marks
inside a subject zero R at marks none = refl
inside a subject (suc v) R at marks none =
    skipped a subject v R at marks (none (suc v) (omega arith) (omega arith))
    ∙ inside a subject v R at marks (λ k lt le. none k lt (omega (arith, le)))

-- from behind a symbol down to that place, and then the place before the symbol
behind : (a : Letters) (subject : List ℕ) (v n : ℕ) (R : Rest) (at : ℕ) (marks : List ℕ) →
    ((k : ℕ) → 0 < k → k ≤ v → a.starts (drop (at + k) subject) ≡ false) → a.starts (drop (at + suc v) subject) ≡ true →
    downwards a subject (n + suc v) R at marks ≡ or_else (downwards a subject n R (at + suc v) marks) (R at marks)
behind a subject v zero R at marks none some =
    let s : 0 + suc v ≡ suc v = omega arith in
    ap (λ k. downwards a subject k R at marks) s
    ∙ asked a subject v R at marks some ∙ ap (or_else (R (at + suc v) marks)) (inside a subject v R at marks none)
behind a subject v (suc n) R at marks none some =
    let s : suc n + suc v ≡ suc (n + suc v) = omega arith in
    let p : at + suc (n + suc v) ≡ (at + suc v) + suc n = omega arith in
    let low : Outcome = downwards a subject n R (at + suc v) marks in
    let top : Outcome = R ((at + suc v) + suc n) marks in
    let begins : Bool = a.starts (drop ((at + suc v) + suc n) subject) in
    ap (λ k. downwards a subject k R at marks) s
    ∙ ap (λ k. cond (a.starts (drop k subject)) (or_else (R k marks) (downwards a subject (n + suc v) R at marks)) (downwards a subject (n + suc v) R at marks)) p
    ∙ ap (λ o. cond begins (or_else top o) o) (behind a subject v n R at marks none some)
    ∙ elim begins as (λ b. cond b (or_else top (or_else low (R at marks))) (or_else low (R at marks)) ≡ or_else (cond b (or_else top low) low) (R at marks)) [
      | true ↦ sym (else_assoc top low (R at marks))
      | false ↦ refl
    ]

behind_first : (a : Letters) (subject : List ℕ) (c : Symbol) (cs : List Symbol) (n : ℕ) (R : Rest) (at : ℕ) (marks : List ℕ) →
    IsFirst a (drop at subject) c cs →
    downwards a subject (c.size + n) R at marks ≡ or_else (downwards a subject n R (at + c.size) marks) (R at marks)
behind_first a subject c cs n R at marks f =
    let some : 0 < c.size = f.some in
    let v : ℕ = c.size - 1 in
    let s : suc v ≡ c.size = omega (arith, some) in
    let t : c.size + n ≡ n + suc v = omega (arith, s) in
    ap (λ k. downwards a subject k R at marks) t
    ∙ behind a subject v n R at marks
    (λ k lt le. ap a.starts (sym (drop-drop k at subject)) ∙ f.inner k lt (omega (arith, le, s)))
    (ap (λ k. a.starts (drop (at + k) subject)) s ∙ ap a.starts (sym (drop-drop c.size at subject)) ∙ f.next)
    ∙ ap (λ k. or_else (downwards a subject n R (at + k) marks) (R at marks)) s

-- The most first is downwards from the end of the run.
pub most_downwards : (a : Letters) → IsAlphabet a → (x : Single) (subject : List ℕ) (cs : List Symbol) (R : Rest) (at : ℕ) (marks : List ℕ) →
    a.symbols (drop at subject) ≡ cs → most_first a x cs R at marks ≡ downwards a subject (run a x cs) R at marks
most_downwards a law x subject [] R at marks e = refl
most_downwards a law x subject (c ∷ cs) R at marks e =
    let f : IsFirst a (drop at subject) c cs = law.first (drop at subject) c cs e in
    let later : a.symbols (drop (at + c.size) subject) ≡ cs = ap a.symbols (sym (drop-drop c.size at subject)) ∙ sym f.rest in
    let goes : or_else (most_first a x cs R (at + c.size) marks) (R at marks) ≡ downwards a subject (c.size + run a x cs) R at marks =
    ap (λ o. or_else o (R at marks)) (most_downwards a law x subject cs R (at + c.size) marks later)
    ∙ sym (behind_first a subject c cs (run a x cs) R at marks f) in
    elim (fits a x c.code) as (λ v. cond v (or_else (most_first a x cs R (at + c.size) marks) (R at marks)) (R at marks) ≡ downwards a subject (cond v (c.size + run a x cs) 0) R at marks) [
      | true ↦ goes
      | false ↦ refl
    ]

pub most_at : (a : Letters) → IsAlphabet a → (x : Single) (subject : List ℕ) (R : Rest) (at n : ℕ) (marks : List ℕ) →
    n ≡ run a x (a.symbols (drop at subject)) → most_first a x (a.symbols (drop at subject)) R at marks ≡ downwards a subject n R at marks
most_at a law x subject R at n marks e =
    most_downwards a law x subject (a.symbols (drop at subject)) R at marks refl ∙ ap (λ k. downwards a subject k R at marks) (sym e)

-- a run ends where no symbol is left, and where one does not fit
pub run_out : (a : Letters) (x : Single) (n whole : ℕ) (cs : List Symbol) → n + run a x cs ≡ whole → cs ≡ [] → n ≡ whole
run_out a x n whole cs e h = let z : run a x cs ≡ 0 = ap (run a x) h in omega (arith, e, z)

pub run_stops : (a : Letters) (x : Single) (n whole : ℕ) (c : Symbol) (cs later : List Symbol) → n + run a x cs ≡ whole → cs ≡ c ∷ later →
    fits a x c.code ≡ false → n ≡ whole
run_stops a x n whole c cs later e h f =
    let z : run a x cs ≡ 0 = ap (run a x) h ∙ ap (λ v. cond v (c.size + run a x later) 0) f in
    omega (arith, e, z)
