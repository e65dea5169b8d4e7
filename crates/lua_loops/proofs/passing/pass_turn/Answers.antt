use Rattle.std.proofs.Common.{sym}
use Rattle.lua_state.specs.LuaSlotsSlots.{cut}
use Rattle.lua_state.specs.Seen.{slots_of, frames_of}
use Rattle.lua_loops.proofs.Parts.{same_move}
use Rattle.lua_loops.proofs.passing.pass_turn.Goals as goal

pub go_below-requires-clause-focus : goal.go_below-requires-clause-focus
go_below-requires-clause-focus c = c.after_turn-focus.ensures.of c.args.store.now c.requires.jump

pub returns : goal.returns
returns c = λ l.
    same_move c.args.store.now c.args.store.now c.args.state.now c.go_below.new.state l l _ _ _
    (sym (c.after_turn-focus.ensures.move_ c.args.store.now (frames_of c.args.store.now c.args.state.now) (cut c.args.depth (slots_of c.args.store.now c.args.state.now)))) (c.go_below.ensures l)
