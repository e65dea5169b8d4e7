use Rattle.std.proofs.Common.{◌≡◌, arith, pos, negsuc}
use Rattle.std.proofs.lemmas.Int.{ints}
use Rattle.lua_number.proofs.Operations.{zero_power, one_power, large_power}
use Rattle.lua_number.proofs.arithmetic.power.Goals as goal

pub returns-then-a-eq0 : goal.returns-then-a-eq0
returns-then-a-eq0 c = zero_power _ _ (omega (arith, ints)) c.if-exponent-lt64.false

pub returns-then-a-eq1 : goal.returns-then-a-eq1
returns-then-a-eq1 c = one_power _ c.args.exponent (omega (arith, ints))

pub returns-else-a-eqminus1 : goal.returns-else-a-eqminus1
returns-else-a-eqminus1 c =
    let zero : c.args.a ≡ pos 0 → ⊥ = λ e. omega (arith, ints) in
    let one : c.args.a ≡ pos 1 → ⊥ = λ e. omega (arith, ints) in
    let minus_one : c.args.a ≡ negsuc 0 → ⊥ = λ e. omega (arith, ints) in
    large_power _ _ zero one minus_one c.if-exponent-lt64.false
