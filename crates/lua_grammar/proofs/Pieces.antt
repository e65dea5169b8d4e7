-- Words for proofs that certain tokens spell a certain tree, where both are written out: each is a piece of a production.
use Rattle.std.proofs.Common.{◌≡◌, ℕ, suc, ◌≤◌, ◌⊎◌, inl, inr, Bool, List, refl, arith}
use Rattle.std.specs.Prelude.{ℤ, Option, true, nat_le}
use Rattle.std.proofs.lemmas.Bool.{leb-true}
use Rattle.lua_grammar.specs.declared.TokenClass.{TokenClass}

-- A node comes into being, with few enough above it.
pub here : {F G : Type 0} {line above i : ℕ} → nat_le above 200 ≡ true → (line ≡ line) × (F → G → above ≤ 200) × (i ≡ i)
here {above} low = (refl, (λ e lt. leb-true above 200 low), refl)

-- a keyword or mark
pub word : {G : Type 0} {s : TokenClass} {i : ℕ} → (G → s ≡ s) × (suc i ≡ suc i)
word = ((λ lt. refl), refl)

-- a keyword or mark that stands only where something holds, which does
pub allowed : {F G H A : Type 0} {s : TokenClass} {x : A} {i : ℕ} → (G → s ≡ s) × (F → H → x ≡ x) × (suc i ≡ suc i)
allowed = ((λ lt. refl), (λ e lt. refl), refl)

-- a name or a string
pub text : {G : Type 0} {s : TokenClass} {bytes : List ℕ} {i : ℕ} → (G → (s ≡ s) × (bytes ≡ bytes)) × (suc i ≡ suc i)
text = ((λ lt. (refl, refl)), refl)

-- a numeral with its value
pub number : {F G H : Type 0} {s : TokenClass} {v : ℤ} {o : Option ℤ} {i : ℕ} → (G → (s ≡ s) × (v ≡ v)) × (F → H → o ≡ o) × (suc i ≡ suc i)
number = ((λ lt. (refl, refl)), (λ e lt. refl), refl)

-- a separator of fields
pub comma : {G R : Type 0} {s : TokenClass} {i : ℕ} → (G → (s ≡ s) ⊎ R) × (suc i ≡ suc i)
comma = ((λ lt. inl refl), refl)

pub semicolon : {G L : Type 0} {s : TokenClass} {i : ℕ} → (G → L ⊎ (s ≡ s)) × (suc i ≡ suc i)
semicolon = ((λ lt. inr refl), refl)

-- A prefix expression ends, or goes on.
pub ended : {F G : Type 0} {b : Bool} {i : ℕ} → (F → G → b ≡ b) × (i ≡ i)
ended = ((λ u lt. refl), refl)

pub goes_on : {P : Type 0} {i : ℕ} → (10 ≤ 9 → P) × (i ≡ i)
goes_on = ((λ le. absurd (omega (arith, le))), refl)

-- A statement ends its block, or is none that would.
pub last : {P : Type 0} {i : ℕ} → (P → Unit {0}) × (i ≡ i)
last = ((λ l. tt), refl)

pub not_last : {P : Type 0} {i : ℕ} → (⊥ → P) × (i ≡ i)
not_last = ((λ l. absurd l), refl)
