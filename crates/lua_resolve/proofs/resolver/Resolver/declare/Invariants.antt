use Rattle.std.proofs.Common.{drop}
use Rattle.lua_resolve.specs.Parts.{state_of, NamesSoFar}
use Rattle.lua_resolve.proofs.resolver.Resolver.declare.Given as goal

abbrev pub invariant-loop-name : goal.invariant-loop-name
invariant-loop-name l = NamesSoFar (state_of l.initial.self) (state_of l.self) l.names (drop l.name-index l.names) l.flags
