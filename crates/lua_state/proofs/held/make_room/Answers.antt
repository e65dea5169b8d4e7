use Rattle.lua_state.proofs.held.make_room.Goals as goal

pub places-preserved : goal.places-preserved
places-preserved c = λ w s all. c.in_ok-push.ensures w s (c.places.invariant w s all)

pub returns : goal.returns
returns c = λ w s all. c.in_ok-push-2.ensures w s (c.places.invariant w s all)
