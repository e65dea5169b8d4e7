use Rattle.std.proofs.Common.{◌≡◌, arith, rules}
use Rattle.std.specs.Prelude.{[]}
use Rattle.lua_evals.proofs.Items.{none_left}
use Rattle.lua_evals.proofs.constructors.items.Goals as goal

pub returns-then-len-eq0 : goal.returns-then-len-eq0
returns-then-len-eq0 c =
    let zero_ : c.len.result ≡ 0 = search (arith, rules) in
    let none : c.args.values ≡ [] = none_left c.args.values c.len.result c.len.ensures zero_ in
    rw none (c.give.ensures c.args.left.now)
