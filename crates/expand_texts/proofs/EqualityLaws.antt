-- Numbers of at most 18 digits fit.
use Rattle.std.proofs.Common.{◌≡◌, ℕ, zero, suc, ◌^◌, ◌<◌, ◌≤◌, refl, arith}
use Rattle.std.proofs.Math.Nat.{pow-le-pow_right}

pub small_at : (n i len : ℕ) → i < len → len ≤ 18 → n < 10 ^ i → n < 100000000000000000
small_at n i len h l s =
    let most : 10 ^ i ≤ 10 ^ 17 = pow-le-pow_right {n = 10} (omega arith) {i = i} {j = 17} (omega arith) in
    let is : 10 ^ 17 ≡ 100000000000000000 = refl in
    omega (arith, most, is)
