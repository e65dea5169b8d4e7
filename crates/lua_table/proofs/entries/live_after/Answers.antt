use Rattle.std.proofs.Common.{sym}
use Rattle.lua_table.proofs.FrontLemmas.{after-found, after-absent}
use Rattle.lua_table.proofs.entries.live_after.Goals as goal

pub returns-in-Some-clause-live : goal.returns-in-Some-clause-live
returns-in-Some-clause-live g c =
    let found = after-found g.V.PartialEq.eq g.V.Slot.nil_value c.args.key.now c.args.rest.now.entries c.in-Some.at (sym c.in-Some.ensures.index) in
    rw found c.live_in.ensures.shows

pub returns-in-None-clause-absent : goal.returns-in-None-clause-absent
returns-in-None-clause-absent g c =
    after-absent g.V.PartialEq.eq g.V.Slot.nil_value c.args.key.now c.args.rest.now.entries (sym c.in-None.ensures.found)
