use Rattle.std.proofs.Common.{ap}
use Rattle.lua_state.specs.LuaSlotsPoints.{Point, Now}
use Rattle.lua_state.specs.LuaSlotsSlots.{cut}
use Rattle.lua_state.specs.Seen.{slots_of, frames_of}
use Rattle.lua_loops.proofs.Parts.{same_move}
use Rattle.lua_loops.proofs.endings.end_block.Goals as goal

pub go_below-requires-clause-focus : goal.go_below-requires-clause-focus
go_below-requires-clause-focus c = c.nothing-focus.ensures.of c.args.store.now

pub returns : goal.returns
returns c = λ l.
    same_move c.args.store.now c.args.store.now c.args.state.now c.go_below.new.state l l _ _ _
    (ap (λ (p : Point). Now p (cut c.args.depth (slots_of c.args.store.now c.args.state.now))) (c.nothing-focus.ensures.point c.args.store.now (frames_of c.args.store.now c.args.state.now))) (c.go_below.ensures l)
