use Rattle.std.proofs.Common.{◌≡◌, rules, w64, to_z, of_z}
use Rattle.lua_strides.proofs.operators.calculated.Goals as goal

pub returns-in-Some-number_in-clause-value : goal.returns-in-Some-number_in-clause-value
returns-in-Some-number_in-clause-value c = λ texts.
    let first : to_z w64 (of_z w64 c.in-Some.a) ≡ c.in-Some.a = search rules in
    let second : to_z w64 (of_z w64 c.in-Some-number_in.b) ≡ c.in-Some-number_in.b = search rules in
    let is = rw (first, second) at c.result_of.ensures in
    let told = c.number_of.ensures.value texts in
    rw (c.in-Some.ensures texts, c.in-Some-number_in.ensures texts) (rw is at told)
