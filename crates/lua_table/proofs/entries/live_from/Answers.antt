use Rattle.std.proofs.Common.{rules, arith, ap, ◌++◌}
use Rattle.std.proofs.lemmas.List.{drop_all}
use Rattle.lua_table.specs.Entries.{first_live}
use Rattle.lua_table.specs.Front.{numbered}
use Rattle.lua_table.proofs.FrontLemmas.{live_number, passed_number}
use Rattle.lua_table.proofs.entries.live_from.Goals as goal

pub returns-then-not-is_nil : goal.returns-then-not-is_nil
returns-then-not-is_nil g c =
    let here = live_number g.V.PartialEq.eq g.V.Slot.nil_value g.V.Slot.number_of c.args.front.now c.args.rest.now.entries c.loop-at.at c.item_at-value.result c.item_at-value.ensures c.if-not-is_nil.ensures.test in
    grind (arith, rules, here, c.loop-at.invariant)

pub loop-at-preserved : goal.loop-at-preserved
loop-at-preserved g c =
    let on = passed_number g.V.PartialEq.eq g.V.Slot.nil_value g.V.Slot.number_of c.args.front.now c.args.rest.now.entries c.loop-at.at c.item_at-value.result c.item_at-value.ensures c.if-not-is_nil.ensures.test in
    grind (arith, rules, on, c.loop-at.invariant)

pub returns : goal.returns
returns g c =
    let all = drop_all c.loop-at.at c.args.front.now c.loop-at-test.false in
    let here = ap (λ vs. first_live g.V.PartialEq.eq g.V.Slot.nil_value (numbered g.V.Slot.number_of c.loop-at.at vs ++ c.args.rest.now.entries)) all in
    grind (arith, rules, here, c.loop-at.invariant, c.live_in-step.ensures.shows)
