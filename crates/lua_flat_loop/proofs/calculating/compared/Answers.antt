use Rattle.std.proofs.Common.{◌≡◌, rules, w64, to_z, of_z}
use Rattle.lua_flat_loop.proofs.calculating.compared.Goals as goal

pub returns-in-Some-number_in : goal.returns-in-Some-number_in
returns-in-Some-number_in c = λ texts line s.
    let first : to_z w64 (of_z w64 c.in-Some.a) ≡ c.in-Some.a = search rules in
    let second : to_z w64 (of_z w64 c.in-Some-number_in.b) ≡ c.in-Some-number_in.b = search rules in
    let told = rw (first, second) at c.comparison.ensures in
    rw (c.in-Some.ensures texts, c.in-Some-number_in.ensures texts) (told line s)
