-- Parts of a run that may end otherwise than with a value: what follows is passed over, until something catches it.
use Rattle.std.specs.Prelude.{ℕ, List}
use Rattle.page_run.specs.Run.{Run}
use Rattle.page_run.specs.Part as Plain

infixl 40 ◌>>=◌
infixl 40 ◌>>◌
-- a value, with which the run goes on; or a jump, as a raised error, a `return` or a `break` (Lua 5.1 manual, 2.4.4 and 2.7)
pub data Outcome (X J : Type 0) : Type 0 where
  Goes : (value : X) → Outcome X J
  Jumps : (jump : J) → Outcome X J

abbrev pub Act : Type 0 → Type 0 → Type 0 → Type 0
Act P J X = Plain.Part P (Outcome X J)

-- what follows a value; a jump passes through to the end of it
abbrev pub on_value : {P J X Y : Type 0} → (X → Act P J Y) → (Outcome Y J → P) → Outcome X J → P
on_value f k (Goes x) = f x k
on_value f k (Jumps j) = k (Jumps j)

abbrev pub ◌>>=◌ : {P J X Y : Type 0} → Act P J X → (X → Act P J Y) → Act P J Y
◌>>=◌ m f = λ k. m (on_value f k)

abbrev pub ◌>>◌ : {P J X Y : Type 0} → Act P J X → Act P J Y → Act P J Y
◌>>◌ m n = λ k. m (on_value (λ x. n) k)

-- no event, and this value
abbrev pub give : {P J X : Type 0} → X → Act P J X
give x = λ k. k (Goes x)

-- no event, and this jump
abbrev pub jump : {P J X : Type 0} → J → Act P J X
jump j = λ k. k (Jumps j)

-- a part, and what follows it however it ends
abbrev pub catch : {P J K X Y : Type 0} → Act P J X → (Outcome X J → Act P K Y) → Act P K Y
catch m f = λ k. m (λ o. f o k)

-- a part that never jumps
abbrev pub plain : {P J X : Type 0} → Plain.Part P X → Act P J X
plain m = λ k. m (λ x. k (Goes x))

-- its events, one part each
abbrev pub tick : {M H T Q A O J : Type 0} → ℕ → Act (Run M H T Q A O) J (Unit {0})
tick n = plain (Plain.tick n)

abbrev pub count : {M H T Q A O J : Type 0} → Act (Run M H T Q A O) J (Unit {0})
count = plain Plain.count

abbrev pub note : {M H T Q A O J : Type 0} → List ℕ → List ℕ → Act (Run M H T Q A O) J (Unit {0})
note source name = plain (Plain.note source name)

abbrev pub see : {M H T Q A O J : Type 0} → Act (Run M H T Q A O) J H
see = plain Plain.see

abbrev pub change : {M H T Q A O J : Type 0} → H → Act (Run M H T Q A O) J (Unit {0})
change h = plain (Plain.change h)

abbrev pub ask : {M H T Q A O J : Type 0} → Q → Act (Run M H T Q A O) J A
ask q = plain (Plain.ask q)

-- a thing, in a run whose own outcomes are values and jumps: those of the thing are the part's
abbrev pub begin : {M H T Q A X J : Type 0} → T → Act (Run M H T Q A (Outcome X J)) J X
begin t = Plain.begin t

-- within a function, which is left after a value and after a jump alike
abbrev pub in_call : {M H T Q A O X J : Type 0} → Act (Run M H T Q A O) J X → Act (Run M H T Q A O) J X
in_call m = Plain.in_call m
