-- What is taken of an allowance.
use Rattle.std.proofs.Common.{◌≡◌, ℕ, ◌+◌, ◌-◌, ◌<◌, ◌≤◌, Bool, true, false, Option, Some, None, refl, ap, arith}
use Rattle.std.proofs.lemmas.Bool.{le-leb, lt-leb}
use Rattle.std.specs.Prelude.{nat_le}
use Rattle.wk_base.specs.declared.left.Left.{Left}
use Rattle.page_run.specs.Run.{Use, TakeBytes, EnterDepth, LeaveDepth, HasTemplate, EnterTemplate, LeaveTemplate}
use Rattle.page_run.specs.Perform.{less_if, less, after_bytes, after_depth, after_template, apply_use, size}

less_if_some : (b : Bool) (n l r : ℕ) → nat_le n l ≡ b → less_if b n l ≡ Some r → r + n ≡ l
less_if_some true n l r e i =
    let le : n ≤ l = grind arith in
    let same : l - n ≡ r = cc in
    omega arith
less_if_some false n l r e i = absurd cc

-- what was taken was there, and the rest is left
pub less_some : (n l r : ℕ) → less n l ≡ Some r → r + n ≡ l
less_some n l r e = less_if_some (nat_le n l) n l r refl e

pub less_of : (n l : ℕ) → n ≤ l → less n l ≡ Some (l - n)
less_of n l h = ap (λ b. less_if b n l) (le-leb n l h)

pub less_over : (n l : ℕ) → l < n → less n l ≡ None
less_over n l h = ap (λ b. less_if b n l) (lt-leb n l h)

-- what an expansion uses leaves steps and nodes as they are
bytes_size : (o : Option ℕ) (l : Left) → size (after_bytes o l).1 ≡ size l
bytes_size (Some r) l = refl
bytes_size None l = refl

depth_size : (o : Option ℕ) (l : Left) → size (after_depth o l).1 ≡ size l
depth_size (Some r) l = refl
depth_size None l = refl

template_size : (o : Option ℕ) (l : Left) → size (after_template o l).1 ≡ size l
template_size (Some r) l = refl
template_size None l = refl

pub used_size : (u : Use) (l : Left) → size (apply_use u l).1 ≡ size l
used_size (TakeBytes n) l = bytes_size (less n l.bytes) l
used_size EnterDepth l = depth_size (less 1 l.depth) l
used_size LeaveDepth l = refl
used_size HasTemplate l = refl
used_size EnterTemplate l = template_size (less 1 l.templates) l
used_size LeaveTemplate l = refl

-- and calls
bytes_calls : (o : Option ℕ) (l : Left) → (after_bytes o l).1.calls ≡ l.calls
bytes_calls (Some r) l = refl
bytes_calls None l = refl

depth_calls : (o : Option ℕ) (l : Left) → (after_depth o l).1.calls ≡ l.calls
depth_calls (Some r) l = refl
depth_calls None l = refl

template_calls : (o : Option ℕ) (l : Left) → (after_template o l).1.calls ≡ l.calls
template_calls (Some r) l = refl
template_calls None l = refl

pub used_calls : (u : Use) (l : Left) → (apply_use u l).1.calls ≡ l.calls
used_calls (TakeBytes n) l = bytes_calls (less n l.bytes) l
used_calls EnterDepth l = depth_calls (less 1 l.depth) l
used_calls LeaveDepth l = refl
used_calls HasTemplate l = refl
used_calls EnterTemplate l = template_calls (less 1 l.templates) l
used_calls LeaveTemplate l = refl
