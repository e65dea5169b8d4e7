use Rattle.lua_state.proofs.held.put.Goals as goal

pub returns : goal.returns
returns c = λ w s all h. c.set.ensures w s (c.in_ok-make_room.ensures w s all) h
