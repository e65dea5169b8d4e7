use Rattle.std.proofs.Common.{◌≡◌, drop}
use Rattle.lua_uses.specs.Uses.{with_names}
use Rattle.lua_lint.proofs.places.declare_all.Given as goal

abbrev pub invariant-loop-name : goal.invariant-loop-name
invariant-loop-name l = with_names (drop l.name-index l.names) l.scope ≡ with_names l.names l.initial.scope
