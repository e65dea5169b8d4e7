use Rattle.std.proofs.Common.{◌∙◌, ◌+◌, arith, refl}
use Rattle.lua_table.proofs.FrontLemmas.{after-here, after-past, past_from}
use Rattle.lua_table.proofs.entries.Entries.after.Goals as goal

pub returns-in-Some-clause-live : goal.returns-in-Some-clause-live
returns-in-Some-clause-live g c =
    let here = after-here g.V.PartialEq.eq g.V.Slot.number_of g.met.V.Eq.laws g.met.V.Slot.same g.V.Slot.whole_of g.met.V.Slot.reads_back g.V.Slot.nil_value
    c.in-Some.at (c.in-Some.at + 1) c.self.inside.front.items c.self.inside.rest.entries refl (omega (arith, c.in-Some.ensures.found.0, c.len.ensures, c.self.inside.front.ok.0)) in
    rw (← c.self.view_is, c.in-Some.ensures.found.1, here) (rw c.deref.ensures.value at c.live_from.ensures)

pub returns-in-None-clause-absent : goal.returns-in-None-clause-absent
returns-in-None-clause-absent g c =
    let past = past_from g.V.PartialEq.eq g.V.Slot.number_of g.met.V.Slot.same c.args.key.now c.len.result c.self.inside.front.items
    (c.len.ensures ∙ c.self.inside.front.ok.0) c.in-None.ensures.absent in
    let there = after-past g.V.PartialEq.eq g.V.Slot.number_of c.args.key.now g.V.Slot.nil_value 0 c.self.inside.front.items c.self.inside.rest.entries past in
    rw (← c.self.view_is, there) c.live_after.ensures.absent

pub returns-in-None-clause-live : goal.returns-in-None-clause-live
returns-in-None-clause-live g c =
    let past = past_from g.V.PartialEq.eq g.V.Slot.number_of g.met.V.Slot.same c.args.key.now c.len.result c.self.inside.front.items
    (c.len.ensures ∙ c.self.inside.front.ok.0) c.in-None.ensures.absent in
    let there = after-past g.V.PartialEq.eq g.V.Slot.number_of c.args.key.now g.V.Slot.nil_value 0 c.self.inside.front.items c.self.inside.rest.entries past in
    rw (← c.self.view_is) (simp there c.live_after.ensures.live)
