use Rattle.std.proofs.Common.{arith}
use Rattle.std.proofs.lemmas.List.{drop_all}
use Rattle.lua_resolve.proofs.PartLaws.{names_end}
use Rattle.lua_resolve.proofs.resolver.Resolver.declare.Goals as goal

pub returns : goal.returns
returns c = names_end _ _ _ _ _ c.loop-name.invariant (drop_all c.loop-name.name-index c.args.names.now (omega (arith, c.loop-name-test.false)))
