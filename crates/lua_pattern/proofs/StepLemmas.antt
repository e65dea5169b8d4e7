-- One step of a search.
use Rattle.std.proofs.Common.{◌≡◌, ℕ, zero, suc, ◌+◌, ◌-◌, ◌<◌, ◌≤◌, true, cond, List, [], ◌∷◌, length, take, drop, refl, sym, ◌∙◌, ap, subst, arith}
use Rattle.std.proofs.Math.Seq.{take-length}
use Rattle.lua_pattern.specs.declared.item.Single.{Single}
use Rattle.lua_pattern.specs.declared.item.Item.{Item}
use Rattle.lua_pattern.specs.declared.item.Item.TheVariants.{Minus}
use Rattle.lua_pattern.specs.declared.trail.Choice.{Choice}
use Rattle.lua_pattern.specs.declared.trail.Choice.TheVariants.{Down, Up}
use Rattle.lua_pattern.specs.declared.passes.Now.{Now}
use Rattle.lua_pattern.specs.declared.passes.Now.TheVariants.{At, Back, Spent}
use Rattle.lua_pattern.specs.Letters.{Letters, Symbol}
use Rattle.lua_pattern.specs.Single.{fits}
use Rattle.lua_pattern.specs.Way.{Outcome, Miss, Rest, costs, or_else, tries, way, comparisons, most_first, least_first, one, star}
use Rattle.lua_pattern.specs.Trail.{TrailState, tried, chosen, again, one_more, backwards, downwards}
use Rattle.lua_pattern.specs.declared.items.Run.TheVariants.{Few}
use Rattle.lua_pattern.specs.Runs.{leading}
use Rattle.lua_pattern.specs.Search.{from_here, Follows}
use Rattle.lua_pattern.proofs.Laws.{costs_zero, costs_costs, costs_else, else_assoc, else_miss, tries_costs, tries_else}
use Rattle.lua_pattern.proofs.Places.{take_down}
use Rattle.lua_pattern.proofs.RunLemmas.{few_at}

-- What follows from an outcome follows from the one with the tries before.
pub chain : (a : Letters) (items : List Item) (subject : List ℕ) (o whole : Outcome) (left middle : ℕ) (now : Now) (left_now : ℕ) (state : TrailState) →
    middle ≤ left → whole ≡ costs (left - middle) o → Follows a items subject o middle now left_now state → Follows a items subject whole left now left_now state
chain a items subject o whole left middle (At i at) left_now state le e f =
    let h : left_now ≤ middle = f.0 in
    let d : (left - middle) + (middle - left_now) ≡ left - left_now = omega (arith, le, h) in (
      omega (arith, le, h),
      e ∙ ap (costs (left - middle)) f.1
          ∙ costs_costs (left - middle) (middle - left_now) (from_here a items subject (At i at) state)
          ∙ ap (λ k. costs k (from_here a items subject (At i at) state)) d,
    )
chain a items subject o whole left middle Back left_now state le e f =
    let h : left_now ≤ middle = f.0 in
    let d : (left - middle) + (middle - left_now) ≡ left - left_now = omega (arith, le, h) in (
      omega (arith, le, h),
      e ∙ ap (costs (left - middle)) f.1
          ∙ costs_costs (left - middle) (middle - left_now) (from_here a items subject Back state)
          ∙ ap (λ k. costs k (from_here a items subject Back state)) d,
    )
chain a items subject o whole left middle Spent left_now state le e f =
    let h : middle < tries o = f in
    let g : tries whole ≡ (left - middle) + tries o = ap tries e ∙ tries_costs (left - middle) o in
    omega (arith, le, h, g)

pub plus_step : (a : Letters) (items : List Item) (subject : List ℕ) (x : Single) (R : Rest) (at : ℕ) (c : Symbol) (cs : List Symbol) (marks : List ℕ) (T : Outcome) (left middle : ℕ) (now : Now) (left_now : ℕ) (state : TrailState) →
    a.symbols (drop at subject) ≡ c ∷ cs → fits a x c.code ≡ true → 1 ≤ left → middle ≡ left - 1 →
    Follows a items subject (or_else (star a x (a.symbols (drop (at + c.size) subject)) R (at + c.size) marks) T) middle now left_now state →
    Follows a items subject (or_else (one a x (a.symbols (drop at subject)) (λ p. star a x (a.symbols (drop p subject)) R p) at marks) T) left now left_now state
plus_step a items subject x R at c cs marks T left middle now left_now state ed ef le em f =
    let S : Rest = λ p. star a x (a.symbols (drop p subject)) R p in
    let d : 1 ≡ left - middle = omega (arith, le, em) in
    chain a items subject (or_else (S (at + c.size) marks) T) (or_else (one a x (a.symbols (drop at subject)) S at marks) T) left middle now left_now state
    (omega (arith, em))
    (ap (λ t. or_else (one a x t S at marks) T) ed
    ∙ ap (λ v. or_else (costs 1 (cond v (S (at + c.size) marks) (Miss 0))) T) ef
    ∙ costs_else 1 (S (at + c.size) marks) T
    ∙ ap (λ k. costs k (or_else (S (at + c.size) marks) T)) d)
    f

pub star_step : (a : Letters) (items : List Item) (subject : List ℕ) (x : Single) (cs : List Symbol) (R : Rest) (at k n : ℕ) (marks : List ℕ) (T : Outcome) (left middle : ℕ) (now : Now) (left_now : ℕ) (state : TrailState) →
    comparisons a x cs ≤ left → middle ≡ left - comparisons a x cs → k ≡ n → most_first a x cs R at marks ≡ downwards a subject n R at marks →
    Follows a items subject (or_else (downwards a subject k R at marks) T) middle now left_now state →
    Follows a items subject (or_else (star a x cs R at marks) T) left now left_now state
star_step a items subject x cs R at k n marks T left middle now left_now state le em ek same f =
    let d : comparisons a x cs ≡ left - middle = omega (arith, le, em) in
    chain a items subject (or_else (downwards a subject k R at marks) T) (or_else (star a x cs R at marks) T) left middle now left_now state
    (omega (arith, em))
    (costs_else (comparisons a x cs) (most_first a x cs R at marks) T
    ∙ ap (λ o. costs (comparisons a x cs) (or_else o T)) (same ∙ ap (λ m. downwards a subject m R at marks) (sym ek))
    ∙ ap (λ m. costs m (or_else (downwards a subject k R at marks) T)) d)
    f

pub star_spends : (a : Letters) (x : Single) (cs : List Symbol) (R : Rest) (at : ℕ) (marks : List ℕ) (T : Outcome) (left : ℕ) →
    left < comparisons a x cs → left < tries (or_else (star a x cs R at marks) T)
star_spends a x cs R at marks T left lt =
    let h : tries (star a x cs R at marks) ≡ comparisons a x cs + tries (most_first a x cs R at marks) = tries_costs (comparisons a x cs) (most_first a x cs R at marks) in
    let k : tries (star a x cs R at marks) ≤ tries (or_else (star a x cs R at marks) T) = tries_else (star a x cs R at marks) T in
    omega (arith, h, k, lt)

stays : (o p : Outcome) (left : ℕ) → o ≡ p → o ≡ costs (left - left) p
stays o p left e =
    let z : 0 ≡ left - left = omega arith in
    e ∙ sym (costs_zero p) ∙ ap (λ k. costs k p) z

pub descend_stay : (a : Letters) (items : List Item) (subject : List ℕ) (item low high place left : ℕ) (state : TrailState) → place ≤ low → low ≤ place →
    ((rest : Rest) (marks : List ℕ) → downwards a subject (high - low) rest low marks ≡ downwards a subject (place - low) rest low marks) →
    Follows a items subject (or_else (downwards a subject (high - low) (way a (drop item items) subject) low state.marks) (tried a items subject state.choices state.marks))
    left (At item low) left state
descend_stay a items subject item low high place left state le ge same =
    let R : Rest = way a (drop item items) subject in
    let T : Outcome = tried a items subject state.choices state.marks in
    let z : place - low ≡ 0 = omega (arith, le) in (
      omega arith,
      stays (or_else (downwards a subject (high - low) R low state.marks) T) (or_else (R low state.marks) T) left
          (ap (λ o. or_else o T) (same R state.marks ∙ ap (λ n. downwards a subject n R low state.marks) z)),
    )

pub descend_step : (a : Letters) (items : List Item) (subject : List ℕ) (item low high place left : ℕ) (state state_now : TrailState) → low < place →
    a.starts (drop place subject) ≡ true →
    ((rest : Rest) (marks : List ℕ) → downwards a subject (high - low) rest low marks ≡ downwards a subject (place - low) rest low marks) →
    state_now ≡ record { choices = Down item low (place - 1) (length state.marks) ∷ state.choices; marks = state.marks } →
    Follows a items subject (or_else (downwards a subject (high - low) (way a (drop item items) subject) low state.marks) (tried a items subject state.choices state.marks))
    left (At item place) left state_now
descend_step a items subject item low high place left state state_now lt begins same ek =
    let R : Rest = way a (drop item items) subject in
    let T : List ℕ → Outcome = tried a items subject state.choices in
    let m : take (length state.marks) state.marks ≡ state.marks = take-length state.marks in
    let below : List ℕ → Outcome = λ marks. downwards a subject (place - 1 - low) R low marks in (
      omega arith,
      stays (or_else (downwards a subject (high - low) R low state.marks) (T state.marks)) (from_here a items subject (At item place) state_now) left
          (ap (λ o. or_else o (T state.marks)) (same R state.marks ∙ take_down a subject low place R state.marks lt begins)
          ∙ else_assoc (R place state.marks) (below state.marks) (T state.marks)
          ∙ ap (λ k. or_else (R place state.marks) (or_else (below k) (T k))) (sym m)
          ∙ ap (λ k. from_here a items subject (At item place) k) (sym ek)),
    )

pub item_step : (a : Letters) (items : List Item) (subject : List ℕ) (item : Item) (rest : List Item) (index at : ℕ) (marks : List ℕ) (T : Outcome) (left : ℕ) (now : Now) (left_now : ℕ) (state : TrailState) →
    drop index items ≡ item ∷ rest →
    Follows a items subject (or_else (way a (item ∷ rest) subject at marks) T) left now left_now state →
    Follows a items subject (or_else (way a (drop index items) subject at marks) T) left now left_now state
item_step a items subject item rest index at marks T left now left_now state e f =
    let P : List Item → Type 0 = λ l. Follows a items subject (or_else (way a l subject at marks) T) left now left_now state in
    subst P (sym e) f

-- as few as it can: the rest here, or one more
fewest : (a : Letters) (x : Single) (cs : List Symbol) (R : Rest) (at : ℕ) (marks : List ℕ) → least_first a x cs R at marks ≡ or_else (R at marks) (one_more a x cs R at marks)
fewest a x [] R at marks = sym (else_miss (R at marks))
fewest a x (c ∷ cs) R at marks = refl

-- A run of `-` at once: the rest behind it, or one more of one of them, the last one first.
one_passed : (a : Letters) (l rest : List Item) (subject : List ℕ) (x : Single) (at : ℕ) (marks : List ℕ) → l ≡ Minus x ∷ rest →
    way a l subject at marks ≡ or_else (way a rest subject at marks) (again a l subject at marks)
one_passed a l rest subject x at marks e =
    let P : List Item → Type 0 = λ k. way a k subject at marks ≡ or_else (way a rest subject at marks) (again a k subject at marks) in
    subst P (sym e) (fewest a x (a.symbols (drop at subject)) (way a rest subject) at marks)

run_passed : (a : Letters) (items : List Item) (subject : List ℕ) (index n at : ℕ) (marks : List ℕ) → n < leading Few (drop index items) →
    way a (drop index items) subject at marks ≡ or_else (way a (drop (index + suc n) items) subject at marks) (backwards a items subject index n at marks)
run_passed a items subject index zero at marks lt =
    let p = few_at items index 0 lt in
    let e : index + 0 ≡ index = omega arith in
    one_passed a (drop index items) (drop (index + 1) items) subject p.0 at marks (ap (λ n. drop n items) (sym e) ∙ p.1)
run_passed a items subject index (suc n) at marks lt =
    let p = few_at items index (suc n) lt in
    let here : List Item = drop (index + suc n) items in
    let behind : Outcome = way a (drop (index + suc (suc n)) items) subject at marks in
    run_passed a items subject index n at marks (omega (arith, lt))
    ∙ ap (λ o. or_else o (backwards a items subject index n at marks)) (one_passed a here (drop (index + suc (suc n)) items) subject p.0 at marks p.1)
    ∙ else_assoc behind (again a here subject at marks) (backwards a items subject index n at marks)

pub minus_step : (a : Letters) (items : List Item) (subject : List ℕ) (x : Single) (rest : List Item) (index next at left : ℕ) (state state_now : TrailState) →
    drop index items ≡ Minus x ∷ rest → index < next → next ≤ index + leading Few (drop index items) →
    state_now ≡ record { choices = Up index next at (length state.marks) ∷ state.choices; marks = state.marks } →
    Follows a items subject (or_else (least_first a x (a.symbols (drop at subject)) (way a rest subject) at state.marks) (tried a items subject state.choices state.marks))
    left (At next at) left state_now
minus_step a items subject x rest index next at left state state_now ed lt le ek =
    let e : index + suc (next - 1 - index) ≡ next = omega (arith, lt) in
    let T : List ℕ → Outcome = tried a items subject state.choices in
    let m : take (length state.marks) state.marks ≡ state.marks = take-length state.marks in
    let W : Outcome = way a (drop next items) subject at state.marks in
    let B : List ℕ → Outcome = backwards a items subject index (next - 1 - index) at in (
      omega arith,
      stays (or_else (least_first a x (a.symbols (drop at subject)) (way a rest subject) at state.marks) (T state.marks)) (from_here a items subject (At next at) state_now) left
          (ap (λ (l : List Item). or_else (way a l subject at state.marks) (T state.marks)) (sym ed)
          ∙ ap (λ o. or_else o (T state.marks)) (run_passed a items subject index (next - 1 - index) at state.marks (omega (arith, lt, le)))
          ∙ ap (λ k. or_else (or_else (way a (drop k items) subject at state.marks) (B state.marks)) (T state.marks)) e
          ∙ else_assoc W (B state.marks) (T state.marks)
          ∙ ap (λ k. or_else W (or_else (B k) (T k))) (sym m)
          ∙ ap (λ k. from_here a items subject (At next at) k) (sym ek)),
    )

-- One symbol more, and the search stands at the same item behind it.
pub one_more_step : (a : Letters) (items : List Item) (subject : List ℕ) (x : Single) (rest : List Item) (index at code size left middle : ℕ) (state : TrailState) →
    drop index items ≡ Minus x ∷ rest → a.symbols (drop at subject) ≡ record { code = code; size = size } ∷ a.symbols (drop (at + size) subject) → fits a x code ≡ true →
    1 ≤ left → middle ≡ left - 1 →
    Follows a items subject (or_else (one_more a x (a.symbols (drop at subject)) (way a rest subject) at state.marks) (tried a items subject state.choices state.marks))
    left (At index (at + size)) middle state
one_more_step a items subject x rest index at code size left middle state ed es ef le em =
    let R : Rest = way a rest subject in
    let T : Outcome = tried a items subject state.choices state.marks in
    let to : ℕ = at + size in
    let cs : List Symbol = a.symbols (drop to subject) in
    let d : 1 ≡ left - middle = omega (arith, le, em) in (
      omega (arith, em),
      ap (λ k. or_else (one_more a x k R at state.marks) T) es
          ∙ ap (λ b. or_else (costs 1 (cond b (least_first a x cs R to state.marks) (Miss 0))) T) ef
          ∙ costs_else 1 (least_first a x cs R to state.marks) T
          ∙ ap (λ (l : List Item). costs 1 (or_else (way a l subject to state.marks) T)) (sym ed)
          ∙ ap (λ k. costs k (or_else (way a (drop index items) subject to state.marks) T)) d,
    )

-- Of several items whose one symbol more is a choice, the last one is taken, and those before it stay a choice.
pub last_step : (a : Letters) (items : List Item) (subject : List ℕ) (first behind last at : ℕ) (state state_now : TrailState) → last ≡ behind - 1 → first < last →
    state_now ≡ record { choices = Up first last at (length state.marks) ∷ state.choices; marks = state.marks } →
    or_else (backwards a items subject first (behind - 1 - first) at state.marks) (tried a items subject state.choices state.marks)
    ≡ or_else (again a (drop last items) subject at state_now.marks) (tried a items subject state_now.choices state_now.marks)
last_step a items subject first behind last at state state_now el lt ek =
    let e : behind - 1 - first ≡ suc (last - 1 - first) = omega (arith, el, lt) in
    let f : first + suc (last - 1 - first) ≡ last = omega (arith, lt) in
    let T : List ℕ → Outcome = tried a items subject state.choices in
    let m : take (length state.marks) state.marks ≡ state.marks = take-length state.marks in
    let A : Outcome = again a (drop last items) subject at state.marks in
    let B : List ℕ → Outcome = backwards a items subject first (last - 1 - first) at in
    ap (λ k. or_else (backwards a items subject first k at state.marks) (T state.marks)) e
    ∙ ap (λ k. or_else (or_else (again a (drop k items) subject at state.marks) (B state.marks)) (T state.marks)) f
    ∙ else_assoc A (B state.marks) (T state.marks)
    ∙ ap (λ k. or_else A (or_else (B k) (T k))) (sym m)
    ∙ ap (λ k. or_else (again a (drop last items) subject at k.marks) (tried a items subject k.choices k.marks)) (sym ek)

pub only_step : (a : Letters) (items : List Item) (subject : List ℕ) (first behind last at : ℕ) (state : TrailState) → last ≡ behind - 1 → last ≤ first →
    or_else (backwards a items subject first (behind - 1 - first) at state.marks) (tried a items subject state.choices state.marks)
    ≡ or_else (again a (drop first items) subject at state.marks) (tried a items subject state.choices state.marks)
only_step a items subject first behind last at state el le =
    let e : behind - 1 - first ≡ 0 = omega (arith, el, le) in
    ap (λ k. or_else (backwards a items subject first k at state.marks) (tried a items subject state.choices state.marks)) e

-- A choice of several items is taken up again.
pub again_step : (a : Letters) (items : List Item) (subject : List ℕ) (choice : Choice) (first behind at count index left : ℕ) (state middle : TrailState) (now : Now) (left_now : ℕ) →
    choice ≡ Up first behind at count →
    ((b : Letters) (is : List Item) (s : List ℕ) → or_else (backwards b is s first (behind - 1 - first) at state.marks) (tried b is s state.choices state.marks)
    ≡ or_else (again b (drop index is) s at middle.marks) (tried b is s middle.choices middle.marks)) →
    Follows a items subject (or_else (again a (drop index items) subject at middle.marks) (tried a items subject middle.choices middle.marks)) left now left_now middle →
    Follows a items subject (or_else (chosen a items subject choice state.marks) (tried a items subject state.choices state.marks)) left now left_now middle
again_step a items subject choice first behind at count index left state middle now left_now e same f =
    let P : Outcome → Type 0 = λ o. Follows a items subject o left now left_now middle in
    subst P (sym (ap (λ c. or_else (chosen a items subject c state.marks) (tried a items subject state.choices state.marks)) e ∙ same a items subject)) f
