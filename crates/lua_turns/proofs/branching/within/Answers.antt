use Rattle.std.proofs.Common.{◌∙◌, ℕ, sym, ap, List, [], ◌∷◌}
use Rattle.lua_loops.specs.PageRunOutcome.{Goes}
use Rattle.lua_code.specs.declared.statement.Statement.{Statement}
use Rattle.lua_code.specs.Seen.{block_seen}
use Rattle.lua_operators.specs.LuaSlotsPoints.{BlockEnd, Runs, Now}
use Rattle.lua_strides.specs.LuaStackDeclaredFocusFocusTheVariants as focus
use Rattle.lua_operators.specs.LuaStackDeclaredFrameFrameTheVariants as frame
use Rattle.lua_operators.specs.LuaStackDeclaredFrameEndingTheVariants as ending
use Rattle.lua_loops.specs.LuaStateSeen.{slots_of}
use Rattle.lua_turns.proofs.Freely.{swapped}
use Rattle.lua_turns.proofs.branching.within.Goals as goal

pub returns : goal.returns
returns c = λ s l k v f of newest law.
    let m = c.args.state.now in
    let x = slots_of s m in
    let b = block_seen c.args.body.now in
    swapped s m l k (Goes (v ∷ [])) f (frame.End (ending.BlockEnd c.depth_of-depth.result)) newest.0 c.swap_newest.new.frames (focus.Runs c.as_slice.result) of newest.1
    (c.swap_newest.ensures f newest.0 newest.1) tt tt
    (λ world gs. law world gs ∙ ap (λ (d : ℕ). Now (Runs b (BlockEnd d ∷ gs)) x) (sym (c.depth_of-depth.ensures s.texts)) ∙ ap (λ (z : List Statement). Now (Runs (block_seen z) (BlockEnd c.depth_of-depth.result ∷ gs)) x) (sym c.as_slice.ensures))
