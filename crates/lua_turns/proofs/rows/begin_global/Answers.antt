use Rattle.std.proofs.Common.{◌∷◌, [], List, ℕ, ap, sym}
use Rattle.lua_code.specs.LuaSlotsCode.{GlobalTargetC}
use Rattle.lua_operators.specs.LuaSlotsPoints.{GlobalS, Finds, Now}
use Rattle.lua_strides.proofs.Paths.{idle_here}
use Rattle.lua_turns.proofs.rows.begin_global.Goals as goal

pub returns-in-Some : goal.returns-in-Some
returns-in-Some g c = λ s of.
    let named = rw c.in-Some.is at c.constant_at_hand.ensures s of in
    c.begin_assign.ensures s (GlobalTargetC c.args.name c.args.line) of named.of (λ values fs x. ap (λ (b : List ℕ). Now (Finds [] (GlobalS b c.args.line ∷ []) values fs) x) (sym named.is))

pub returns-in-None : goal.returns-in-None
returns-in-None g c = λ s of. idle_here s c.args.state.now c.args.left.now c.args.turns.now
