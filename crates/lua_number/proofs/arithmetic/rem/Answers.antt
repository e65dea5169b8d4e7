use Rattle.std.proofs.Common.{◌≡◌, ◌∙◌, arith, negsuc, to_z, of_z, w64, FitsSigned, int_rem}
use Rattle.std.proofs.lemmas.Int.{ints, to_z-of_z}
use Rattle.lua_number.specs.Whole.{rest_beside}
use Rattle.lua_number.proofs.Operations.{rem_ok, rem_rest, rest_beside_of, rest_by_minus_one}
use Rattle.lua_number.proofs.arithmetic.rem.Goals as goal

pub returns-then-b-eqminus1-clause-rest : goal.returns-then-b-eqminus1-clause-rest
returns-then-b-eqminus1-clause-rest c =
    let minus_one : c.args.b ≡ negsuc 0 = omega (arith, ints) in
    rem_rest _ _ _ (λ e. omega (arith, ints)) (rest_by_minus_one _ _ minus_one)

pub returns-clause-value : goal.returns-clause-value
returns-clause-value c =
    let fits_a : FitsSigned w64 c.args.a = c.ranges.a in
    let fits_b : FitsSigned w64 c.args.b = c.ranges.b in
    let fits_r : FitsSigned w64 c.rest_towards_zero.result = record { sfits = c.rest_towards_zero.type_inv } in
    let same : to_z w64 (of_z w64 c.rest_beside.result) ≡ c.rest_beside.result = omega (arith, ints) in
    let is : c.rest_beside.result ≡ rest_beside c.rest_towards_zero.result c.args.b = simp to_z-of_z at c.rest_beside.ensures in
    let rest : c.rest_towards_zero.result ≡ int_rem c.args.a c.args.b = simp to_z-of_z at c.rest_towards_zero.ensures in
    rem_ok _ _ _ c.ranges.b (λ e. omega (arith, ints)) (same ∙ rest_beside_of c.args.a c.args.b _ _ is rest)

pub returns-clause-rest : goal.returns-clause-rest
returns-clause-rest c =
    let fits_a : FitsSigned w64 c.args.a = c.ranges.a in
    let fits_b : FitsSigned w64 c.args.b = c.ranges.b in
    let fits_r : FitsSigned w64 c.rest_towards_zero.result = record { sfits = c.rest_towards_zero.type_inv } in
    let same : to_z w64 (of_z w64 c.rest_beside.result) ≡ c.rest_beside.result = omega (arith, ints) in
    let is : c.rest_beside.result ≡ rest_beside c.rest_towards_zero.result c.args.b = simp to_z-of_z at c.rest_beside.ensures in
    let rest : c.rest_towards_zero.result ≡ int_rem c.args.a c.args.b = simp to_z-of_z at c.rest_towards_zero.ensures in
    rem_rest _ _ _ (λ e. omega (arith, ints)) (same ∙ rest_beside_of c.args.a c.args.b _ _ is rest)
