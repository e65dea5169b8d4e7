use Rattle.std.proofs.Common.{ap, arith}
use Rattle.std.specs.Prelude.{Option}
use Rattle.lua_code.specs.LuaHeapValue.{Value as Plain}
use Rattle.lua_in_place.specs.InPlace.{with_nodes}
use Rattle.lua_strides.proofs.reading.read_with.Goals as goal

pub returns-in-Some : goal.returns-in-Some
returns-in-Some c = λ s w h. let k = rw c.in-Some.is at h in record { of = k.0; few = omega (arith, c.if-nodes.false); is = ap (λ (o : Option Plain). with_nodes c.args.nodes o) k.1 }
