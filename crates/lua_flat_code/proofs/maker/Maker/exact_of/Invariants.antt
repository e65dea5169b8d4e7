use Rattle.std.proofs.Common.{◌++◌, ◌∷◌, [], drop}
use Rattle.lua_code.specs.Seen.{expressions_seen}
use Rattle.lua_flat_code.specs.Making.{state_of}
use Rattle.lua_flat_code.specs.Parts.{ExactSoFar}
use Rattle.lua_flat_code.proofs.maker.Maker.exact_of.Given as goal

abbrev pub invariant-loop-e : goal.invariant-loop-e
invariant-loop-e l = ExactSoFar l.register l.count l.at l.missing (expressions_seen (l.front ++ l.last ∷ [])) (expressions_seen (drop l.e-index l.front ++ l.last ∷ [])) (state_of l.initial.self) (state_of l.self)
