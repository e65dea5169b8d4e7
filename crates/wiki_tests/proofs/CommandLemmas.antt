-- Numbers of options within their ranges.
use Rattle.std.proofs.Common.{◌≡◌, ℕ, ◌≤◌, arith}
use Rattle.std.specs.Prelude.{Option, Some, None, IfSome, unwrap_or}

-- the steps of a command, and its nodes, which no option says
pub within_steps : (told : Option ℕ) (n : ℕ) → IfSome told (λ m. m ≤ 100000000) → n ≡ unwrap_or told 20000000 → (n ≤ 1000000000) × (1000000 ≤ 1000000000)
within_steps (Some m) n h e = (omega (arith, h, e), omega arith)
within_steps None n h e = (omega (arith, e), omega arith)

pub within_jobs : (told : Option ℕ) (n : ℕ) → IfSome told (λ m. 1 ≤ m) → n ≡ unwrap_or told 1 → 1 ≤ n
within_jobs (Some m) n h e = omega (arith, h, e)
within_jobs None n h e = omega (arith, e)
