use Rattle.std.proofs.Common.{rules, arith}
use Rattle.lua_table.proofs.FrontLemmas.{live_at, passed_at}
use Rattle.lua_table.proofs.entries.live_in.Goals as goal

pub returns-then-not-is_nil-clause-shows : goal.returns-then-not-is_nil-clause-shows
returns-then-not-is_nil-clause-shows g c =
    let here = live_at g.V.PartialEq.eq g.V.Slot.nil_value c.args.rest.now.entries c.loop-at.at c.entry_at-key.result c.entry_at-key.ensures c.if-not-is_nil.ensures.test in
    grind (arith, rules, here, c.loop-at.invariant)

pub loop-at-preserved : goal.loop-at-preserved
loop-at-preserved g c =
    let on = passed_at g.V.PartialEq.eq g.V.Slot.nil_value c.args.rest.now.entries c.loop-at.at c.entry_at-key.result c.entry_at-key.ensures c.if-not-is_nil.ensures.test in
    grind (arith, rules, on, c.loop-at.invariant)
