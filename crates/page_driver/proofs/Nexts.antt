-- What a task gave that goes on is what is next.
use Rattle.std.proofs.Common.{◌≡◌, Result, Ok, Err, sym, subst}
use Rattle.std.specs.Prelude.{IfOk}
use Rattle.page_tasks.specs.declared.task.Halted.{Halted}
use Rattle.page_driver.specs.declared.tower.Next.{Next}
use Rattle.page_driver.specs.declared.tower.Next.TheVariants as next
use Rattle.page_driver.specs.Moving.{next_of}

module _ {E : Type 0} (R : Next → Type 0) where
  pub on_one : (P : Halted → Type 0) (r : Result Halted E) (n : Result Next E) → n ≡ next_of r → ((x : Halted) → P x → R (next.On x)) → IfOk r P → IfOk n R
  on_one P (Ok x) n e f p = subst (λ (m : Result Next E). IfOk m R) (sym e) (f x p)
  on_one P (Err y) n e f p = subst (λ (m : Result Next E). IfOk m R) (sym e) tt

  -- with two clauses, and with three
  pub on_two : (P Q : Halted → Type 0) (r : Result Halted E) (n : Result Next E) → n ≡ next_of r → ((x : Halted) → P x → Q x → R (next.On x)) → IfOk r P → IfOk r Q → IfOk n R
  on_two P Q (Ok x) n e f p q = subst (λ (m : Result Next E). IfOk m R) (sym e) (f x p q)
  on_two P Q (Err y) n e f p q = subst (λ (m : Result Next E). IfOk m R) (sym e) tt

  pub on_three : (P Q S : Halted → Type 0) (r : Result Halted E) (n : Result Next E) → n ≡ next_of r → ((x : Halted) → P x → Q x → S x → R (next.On x)) → IfOk r P → IfOk r Q → IfOk r S → IfOk n R
  on_three P Q S (Ok x) n e f p q t = subst (λ (m : Result Next E). IfOk m R) (sym e) (f x p q t)
  on_three P Q S (Err y) n e f p q t = subst (λ (m : Result Next E). IfOk m R) (sym e) tt
