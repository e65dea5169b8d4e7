use Rattle.lua_flat_loop.proofs.ConstantLaws.{TextsSoFar}
use Rattle.lua_flat_loop.proofs.preparing.texts_in.Given as goal

abbrev pub invariant-loop-text : goal.invariant-loop-text
invariant-loop-text l = TextsSoFar l.fn.store l.store l.texts l.text-index l.values
