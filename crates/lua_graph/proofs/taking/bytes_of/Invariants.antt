use Rattle.std.proofs.Common.{◌≡◌, ◌++◌, drop}
use Rattle.lua_graph.specs.Put.{named}
use Rattle.lua_graph.proofs.taking.bytes_of.Given as goal

abbrev pub invariant-loop-at : goal.invariant-loop-at
invariant-loop-at l = l.bytes ++ named l.store.texts (drop l.at l.texts.keys) ≡ named l.store.texts l.texts.keys
