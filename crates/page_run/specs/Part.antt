-- A PART of a run is written in the manner of what follows it, so parts are put one after another by `do`.
use Rattle.std.specs.Prelude.{ℕ, Bool, List}
use Rattle.page_run.specs.Run.{Use, Run, Takes, Counts, Notes, Sees, Changes, Calls, Leaves, Uses, Begins, Opens, Asks}

infixl 40 ◌>>=◌
infixl 40 ◌>>◌
-- the events of a part of a run P, before those of what follows its result
abbrev pub Part : Type 0 → Type 0 → Type 0
Part P X = (X → P) → P

-- a part, then one that knows its result
abbrev pub ◌>>=◌ : {P X Y : Type 0} → Part P X → (X → Part P Y) → Part P Y
◌>>=◌ m f = λ k. m (λ x. f x k)

-- a part, then another
abbrev pub ◌>>◌ : {P X Y : Type 0} → Part P X → Part P Y → Part P Y
◌>>◌ m n = λ k. m (λ x. n k)

-- no event, and this result
abbrev pub give : {P X : Type 0} → X → Part P X
give x = λ k. k x

-- the events alone, one part each
abbrev pub tick : {M H T Q A O : Type 0} → ℕ → Part (Run M H T Q A O) (Unit {0})
tick n = λ k. Takes n (k tt)

abbrev pub count : {M H T Q A O : Type 0} → Part (Run M H T Q A O) (Unit {0})
count = λ k. Counts (k tt)

abbrev pub note : {M H T Q A O : Type 0} → List ℕ → List ℕ → Part (Run M H T Q A O) (Unit {0})
note source name = λ k. Notes source name (k tt)

abbrev pub see : {M H T Q A O : Type 0} → Part (Run M H T Q A O) H
see = λ k. Sees k

abbrev pub change : {M H T Q A O : Type 0} → H → Part (Run M H T Q A O) (Unit {0})
change h = λ k. Changes h (k tt)

abbrev pub try_use : {M H T Q A O : Type 0} → M → Use → Part (Run M H T Q A O) Bool
try_use may u = λ k. Uses may u k

abbrev pub begin : {M H T Q A O : Type 0} → T → Part (Run M H T Q A O) O
begin t = λ k. Begins t k

-- a thing, or what stands in its place where no node is left
abbrev pub open_or : {M H T Q A O : Type 0} → M → O → T → Part (Run M H T Q A O) O
open_or may instead t = λ k. Opens may t (k instead) k

abbrev pub ask : {M H T Q A O : Type 0} → Q → Part (Run M H T Q A O) A
ask q = λ k. Asks q k

-- a part within a function that is entered before it and left after it
abbrev pub in_call : {M H T Q A O X : Type 0} → Part (Run M H T Q A O) X → Part (Run M H T Q A O) X
in_call m = λ k. Calls (m (λ x. Leaves (k x)))
