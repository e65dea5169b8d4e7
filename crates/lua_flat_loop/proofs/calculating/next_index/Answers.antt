use Rattle.std.proofs.Common.{◌≡◌, ◌∙◌, sym, rules, w64, to_z, of_z}
use Rattle.lua_flat_loop.proofs.Numbers.{goes_on}
use Rattle.lua_flat_loop.proofs.calculating.next_index.Goals as goal

pub returns-then-is_within : goal.returns-then-is_within
returns-then-is_within c =
    let index : to_z w64 (of_z w64 c.args.index) ≡ c.args.index = search rules in
    let limit : to_z w64 (of_z w64 c.args.limit) ≡ c.args.limit = search rules in
    let step : to_z w64 (of_z w64 c.args.step) ≡ c.args.step = search rules in
    let next : to_z w64 (of_z w64 c.in-Ok.next) ≡ c.in-Ok.next = search rules in
    let sum = rw (index, step) at c.add.ensures in
    let within = rw (next, limit, step) at c.is_within.ensures in
    rw next (goes_on c.args.index c.args.step c.args.limit c.in-Ok.next (sym c.in-Ok.is ∙ sum) (sym within ∙ c.if-is_within.true))
