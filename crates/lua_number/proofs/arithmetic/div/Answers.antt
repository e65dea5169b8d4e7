use Rattle.std.proofs.Common.{◌≡◌, ◌∙◌, arith, pos, FitsSigned, w64}
use Rattle.std.proofs.lemmas.Int.{ints, to_z-of_z}
use Rattle.lua_number.proofs.Operations.{quotient_fault, quotient_whole, quotient_not_whole}
use Rattle.lua_number.proofs.arithmetic.div.Goals as goal

pub returns-in-Err : goal.returns-in-Err
returns-in-Err c =
    let fits_a : FitsSigned w64 c.args.a = c.ranges.a in
    let fits_b : FitsSigned w64 c.args.b = c.ranges.b in
    quotient_fault c.args.a c.args.b _ c.ranges.b (simp to_z-of_z at c.in-Err.ensures.value)

pub returns-then-rest-eq0 : goal.returns-then-rest-eq0
returns-then-rest-eq0 c =
    let fits_a : FitsSigned w64 c.args.a = c.ranges.a in
    let fits_b : FitsSigned w64 c.args.b = c.ranges.b in
    let zero : c.in-Ok.rest ≡ pos 0 = omega (arith, ints) in
    c.ok_or.ensures.value ∙ quotient_whole c.args.a c.args.b _ c.in-Ok.rest c.ranges.b (simp to_z-of_z at c.in-Ok.ensures.value) zero (simp to_z-of_z at c.checked_div.ensures)

pub returns-else-rest-eq0 : goal.returns-else-rest-eq0
returns-else-rest-eq0 c =
    let fits_a : FitsSigned w64 c.args.a = c.ranges.a in
    let fits_b : FitsSigned w64 c.args.b = c.ranges.b in
    quotient_not_whole c.args.a c.args.b c.in-Ok.rest c.ranges.b (simp to_z-of_z at c.in-Ok.ensures.value) (λ e. omega (arith, ints))
