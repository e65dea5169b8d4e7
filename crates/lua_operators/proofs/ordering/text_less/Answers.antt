use Rattle.std.proofs.Common.{◌∙◌, arith}
use Rattle.lua_operators.proofs.Orders.{less_ends}
use Rattle.lua_operators.proofs.ordering.text_less.Goals as goal

pub returns : goal.returns
returns c = less_ends c.bytes.left.now c.bytes.right.now c.is_empty.result (omega (arith, c.in_default.len_below)) c.is_empty.ensures ∙ c.bytes.invariant
