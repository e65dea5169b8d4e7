use Rattle.std.proofs.Common.{arith, sym, ◌∙◌, ◌+◌}
use Rattle.lua_table.proofs.FrontLemmas.{lookup-here, lookup-past, past_from}
use Rattle.lua_table.proofs.entries.Entries.get.Goals as goal

pub returns-in-Some : goal.returns-in-Some
returns-in-Some g c =
    let here = lookup-here g.V.PartialEq.eq g.V.Slot.number_of g.met.V.Eq.laws g.met.V.Slot.same g.V.Slot.whole_of g.met.V.Slot.reads_back
    0 c.in-Some.at (c.in-Some.at + 1) c.self.inside.front.items c.self.inside.rest.entries c.item_at.result (omega arith) (rw c.deref.ensures.value at c.item_at.ensures) in
    rw (← c.self.view_is, c.in-Some.ensures.found.1) (sym here)

pub returns-in-None : goal.returns-in-None
returns-in-None g c =
    let past = past_from g.V.PartialEq.eq g.V.Slot.number_of g.met.V.Slot.same c.args.key.now c.len.result c.self.inside.front.items
    (c.len.ensures ∙ c.self.inside.front.ok.0) c.in-None.ensures.absent in
    let there = lookup-past g.V.PartialEq.eq g.V.Slot.number_of c.args.key.now 0 c.self.inside.front.items c.self.inside.rest.entries past in
    rw (← c.self.view_is) (c.value_in.ensures ∙ sym there)
