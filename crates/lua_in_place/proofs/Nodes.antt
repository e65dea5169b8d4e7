-- An expression that is read in place has a node.
use Rattle.std.proofs.Common.{ℕ, ◌≤◌, Bool, Option, Some, arith}
use Rattle.lua_goes.specs.LuaHeapValue.{Value, Text}
use Rattle.lua_goes.specs.LuaSlotsCode.{ConstantC, TextC, LocalC, GlobalC, IndexC, AndC, OrC, OperateC, UnaryC, ParenC}
use Rattle.lua_goes.specs.LuaSlotsSlots.{read_place}
use Rattle.lua_in_place.specs.InPlace.{in_place, operated, applied, entry, indexed}
use Rattle.lua_in_place.specs.Laws.{NodesAreSome}
use Rattle.lua_in_place.proofs.Parts.{with_nodes_is, one_read, two_read, Decided, by_first, by_second, and_parts, or_parts}

decided_some : (deciding : Bool) (a : Value) (m : ℕ) (y : Option (Value × ℕ)) (v : Value) (n : ℕ) → Decided deciding a m y v n → 1 ≤ n
decided_some deciding a m y v n (by_first t same all) = omega (arith, all)
decided_some deciding a m y v n (by_second l t is all) = omega (arith, all)

pub nodes_are_some : NodesAreSome
nodes_are_some constants (ConstantC w) s v n e = let k = with_nodes_is 1 (Some w) v n e in omega (arith, k.1)
nodes_are_some constants (TextC t) s v n e = let k = with_nodes_is 1 (Some (Text (constants t))) v n e in omega (arith, k.1)
nodes_are_some constants (LocalC p) s v n e = let k = with_nodes_is 1 (Some (read_place s p)) v n e in omega (arith, k.1)
nodes_are_some constants (GlobalC x line) s v n e = let k = with_nodes_is 1 (entry s.heap s.globals (Text (constants x))) v n e in omega (arith, k.1)
nodes_are_some constants (IndexC of key line) s v n e = let k = two_read (indexed s.heap) (in_place constants of s) (in_place constants key s) v n e in omega (arith, k.all)
nodes_are_some constants (AndC a b) s v n e = let k = and_parts (in_place constants a s) (in_place constants b s) v n e in decided_some _ _ _ _ v n k.decided
nodes_are_some constants (OrC a b) s v n e = let k = or_parts (in_place constants a s) (in_place constants b s) v n e in decided_some _ _ _ _ v n k.decided
nodes_are_some constants (OperateC o a b line) s v n e = let k = two_read (operated s.heap o) (in_place constants a s) (in_place constants b s) v n e in omega (arith, k.all)
nodes_are_some constants (UnaryC o a line) s v n e = let k = one_read (applied s.heap o) (in_place constants a s) v n e in omega (arith, k.all)
nodes_are_some constants (ParenC a) s v n e = let k = one_read (λ x. Some x) (in_place constants a s) v n e in omega (arith, k.all)
nodes_are_some constants e s v n x = absurd cc
