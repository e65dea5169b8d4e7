use Rattle.std.proofs.Common.{sym, ◌∙◌}
use Rattle.lua_table.proofs.FrontLemmas.{lookup_met, lookup_passed}
use Rattle.lua_table.proofs.entries.value_among.Goals as goal

pub returns-then-eq : goal.returns-then-eq
returns-then-eq g c =
    let eq = g.V.PartialEq.eq in
    let met = lookup_met eq g.V.Slot.nil_value (eq c.args.key.now) c.args.rest.now.entries c.loop-at.at c.entry_at-other.result c.entry_at-other.ensures c.if-eq.ensures in
    sym met ∙ c.loop-at.invariant

pub loop-at-preserved : goal.loop-at-preserved
loop-at-preserved g c =
    let eq = g.V.PartialEq.eq in
    let on = lookup_passed eq g.V.Slot.nil_value (eq c.args.key.now) c.args.rest.now.entries c.loop-at.at c.entry_at-other.result c.entry_at-other.ensures c.if-eq.ensures in
    sym on ∙ c.loop-at.invariant
