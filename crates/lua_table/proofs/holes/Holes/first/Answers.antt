use Rattle.std.proofs.Common.{rules, arith, ◌≡◌, ◌<◌, false, length, get_or}
use Rattle.lua_table.proofs.TreeLemmas.{read, root-unmarked}
use Rattle.lua_table.proofs.holes.Holes.first.Goals as goal

pub returns-then-not-index-clause-absent : goal.returns-then-not-index-clause-absent
returns-then-not-index-clause-absent c =
    let some : 0 < c.self.inside.width = omega (arith, c.if-self-eq0.false) in
    let within : 1 < length c.self.inside.nodes.items = omega (arith, some, c.self.invariant.0.size) in
    let is = read c.self.inside.nodes.items 1 c.index.result.now within (search rules) in
    let unmarked : get_or c.self.inside.nodes.items 1 false ≡ false = search (rules, is) in
    rw (← c.self.view_is) (root-unmarked c.self.inside.nodes.items c.self.inside.width c.self.invariant.0 c.self.invariant.1 some unmarked)
