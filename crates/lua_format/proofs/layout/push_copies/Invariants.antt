use Rattle.std.proofs.Common.{◌≡◌, ◌-◌, ◌++◌, replicate}
use Rattle.lua_format.proofs.layout.push_copies.Given as goal

abbrev pub invariant-copies : goal.invariant-copies
invariant-copies l = l.out.items ++ replicate (l.count - l._turn) l.byte ≡ l.initial.out.items ++ replicate l.count l.byte
