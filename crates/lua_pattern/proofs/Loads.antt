-- The load of a search becomes lighter.
use Rattle.std.proofs.Common.{◌≡◌, ℕ, zero, suc, ◌+◌, ◌-◌, ◌*◌, ◌<◌, ◌≤◌, ◌∷◌, length, ap, arith}
use Rattle.std.proofs.Math.Nat.{mul-le-mul_right}
use Rattle.lua_pattern.specs.declared.passes.Now.{Now}
use Rattle.lua_pattern.specs.declared.passes.Now.TheVariants.{At}
use Rattle.lua_pattern.specs.declared.trail.Choice.{Choice}
use Rattle.lua_pattern.specs.declared.trail.Choice.TheVariants.{Down, Up}
use Rattle.lua_pattern.specs.Trail.{TrailState}
use Rattle.lua_pattern.specs.Search.{Lighter, load, weight, heavy, unit, price}

-- A try pays for a unit at each place of the subject, and one more.
price_pays : (count size n : ℕ) → n ≤ size → n * unit count + unit count ≤ price count size
unfolding price
price_pays count size n le =
    let s : (n + 1) * unit count ≤ (size + 1) * unit count = mul-le-mul_right (unit count) (omega (arith, le)) in
    omega (arith, s)

-- A run of some bytes has taken a try.
pays : (count size n left middle : ℕ) → n ≤ size → middle ≤ left → (0 < n → middle < left) →
    n * unit count + middle * price count size ≤ left * price count size
pays count size zero left middle ns le lt =
    let s : middle * price count size ≤ left * price count size = mul-le-mul_right (price count size) le in
    omega (arith, s)
pays count size (suc n) left middle ns le lt =
    let more : middle + 1 ≤ left = omega (arith, lt (omega arith)) in
    let s : (middle + 1) * price count size ≤ left * price count size = mul-le-mul_right (price count size) more in
    let p : suc n * unit count + unit count ≤ price count size = price_pays count size (suc n) ns in
    omega (arith, s, p)

pub star_load : (count size next at k n left middle : ℕ) (now : Now) (state state_now : TrailState) → n ≤ size - at → middle ≤ left → (0 < n → middle < left) → k ≡ n →
    weight count now + heavy count state_now.choices ≤ 2 * (count - next) + 1 + k * unit count + heavy count state.choices →
    Lighter count size next state left now middle state_now
star_load count size next at k n left middle now state state_now ns le lt ek h =
    let p : n * unit count + middle * price count size ≤ left * price count size = pays count size n left middle (omega (arith, ns)) le lt in
    let q : k * unit count ≡ n * unit count = ap (λ m. m * unit count) ek in
    omega (arith, h, p, q)

pub plus_load : (count size next left middle : ℕ) (now : Now) (left_now : ℕ) (state state_now : TrailState) → middle ≤ left →
    Lighter count size next state middle now left_now state_now → Lighter count size next state left now left_now state_now
plus_load count size next left middle now left_now state state_now le h =
    let g : middle * price count size ≤ left * price count size = mul-le-mul_right (price count size) le in
    omega (arith, h, g)

pub minus_load : (count size index next at left : ℕ) (state state_now : TrailState) → index < next → next ≤ count →
    state_now ≡ record { choices = Up index next at (length state.marks) ∷ state.choices; marks = state.marks } →
    Lighter count size (index + 1) state left (At next at) left state_now
minus_load count size index next at left state state_now lt le ek =
    let b : heavy count state_now.choices ≡ next - 1 - index + 1 + heavy count state.choices = ap (λ k. heavy count k.choices) ek in
    omega (arith, lt, le, b)

pub one_more_load : (count size index to left middle : ℕ) (state : TrailState) → 1 ≤ left → middle ≡ left - 1 →
    load count size (At index to) middle state < 1 + heavy count state.choices + left * price count size
one_more_load count size index to left middle state le em =
    let more : middle + 1 ≤ left = omega (arith, le, em) in
    let s : (middle + 1) * price count size ≤ left * price count size = mul-le-mul_right (price count size) more in
    let p : 0 * unit count + unit count ≤ price count size = price_pays count size 0 (omega arith) in
    omega (arith, s, p)

pub last_load : (count first behind last at : ℕ) (state state_now : TrailState) → last ≡ behind - 1 → first < last →
    state_now ≡ record { choices = Up first last at (length state.marks) ∷ state.choices; marks = state.marks } →
    1 + heavy count state_now.choices ≤ behind - 1 - first + 1 + heavy count state.choices
last_load count first behind last at state state_now el lt ek =
    let b : heavy count state_now.choices ≡ last - 1 - first + 1 + heavy count state.choices = ap (λ k. heavy count k.choices) ek in
    omega (arith, el, lt, b)

pub again_load : (count size first behind at marks left : ℕ) (choice : Choice) (state middle : TrailState) (load_now : ℕ) → choice ≡ Up first behind at marks →
    ((n : ℕ) → 1 + heavy n middle.choices ≤ behind - 1 - first + 1 + heavy n state.choices) →
    load_now < 1 + heavy count middle.choices + left * price count size → load_now < heavy count (choice ∷ state.choices) + left * price count size
again_load count size first behind at marks left choice state middle load_now e le lt =
    let h : heavy count (choice ∷ state.choices) ≡ behind - 1 - first + 1 + heavy count state.choices = ap (λ c. heavy count (c ∷ state.choices)) e in
    let l : 1 + heavy count middle.choices ≤ behind - 1 - first + 1 + heavy count state.choices = le count in
    omega (arith, h, l, lt)

pub descend_load : (count item low high place : ℕ) (state state_now : TrailState) → low < place → place ≤ high →
    state_now ≡ record { choices = Down item low (place - 1) (length state.marks) ∷ state.choices; marks = state.marks } →
    weight count (At item place) + heavy count state_now.choices ≤ 2 * (count - item) + 1 + (high - low) * unit count + heavy count state.choices
descend_load count item low high place state state_now lt le ek =
    let b : heavy count state_now.choices ≡ (place - 1 - low + 1) * unit count + heavy count state.choices = ap (λ k. heavy count k.choices) ek in
    let s : (place - 1 - low + 1) * unit count ≤ (high - low) * unit count = mul-le-mul_right (unit count) (omega (arith, lt, le)) in
    omega (arith, b, s)

pub maybe_load : (count size next at place left middle : ℕ) (state state_now : TrailState) → 1 ≤ left → middle ≡ left - 1 →
    state_now ≡ record { choices = Down next at at (length state.marks) ∷ state.choices; marks = state.marks } →
    Lighter count size next state left (At next place) middle state_now
maybe_load count size next at place left middle state state_now le em ek =
    let b : heavy count state_now.choices ≡ (at - at + 1) * unit count + heavy count state.choices = ap (λ k. heavy count k.choices) ek in
    let u : (at - at + 1) * unit count ≡ 1 * unit count = ap (λ k. k * unit count) (omega arith) in
    let more : middle + 1 ≤ left = omega (arith, le, em) in
    let s : (middle + 1) * price count size ≤ left * price count size = mul-le-mul_right (price count size) more in
    let p : 0 * unit count + unit count ≤ price count size = price_pays count size 0 (omega arith) in
    omega (arith, b, u, s, p)
