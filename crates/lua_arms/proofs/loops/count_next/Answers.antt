use Rattle.std.proofs.Common.{◌≡◌, rules, w64, to_z, of_z}
use Rattle.std.proofs.lemmas.Int.{to_z-of_z}
use Rattle.lua_code.specs.Seen.{block_seen}
use Rattle.lua_code.specs.LuaSlotsLoops as machine
use Rattle.lua_arms.proofs.Counts.{counted, over_count}
use Rattle.lua_arms.proofs.loops.count_next.Goals as goal

pub returns-in-Ok-clause-move_ : goal.returns-in-Ok-clause-move_
returns-in-Ok-clause-move_ c = λ store fs s.
    let whole : to_z w64 (of_z w64 c.in-Ok.next) ≡ c.in-Ok.next = search rules in
    counted c.args.index c.args.limit c.args.step c.in-Ok.next _ _ _ _ c.add.result (λ i l t. machine.count_from c.args.boxed i l t (block_seen c.args.body.now) fs s) _ _
    (to_z-of_z w64 c.args.index c.ranges.index) (to_z-of_z w64 c.args.limit c.ranges.limit) (to_z-of_z w64 c.args.step c.ranges.step) whole c.add.ensures c.in-Ok.is (c.count_from.ensures.move_ store fs s)

pub returns-in-Err-clause-move_ : goal.returns-in-Err-clause-move_
returns-in-Err-clause-move_ c = λ store fs s.
    over_count c.args.index c.args.step _ _ c.add.result _ _ _ _ (to_z-of_z w64 c.args.index c.ranges.index) (to_z-of_z w64 c.args.step c.ranges.step) c.add.ensures c.in-Err.is (c.nothing.ensures.move_ store fs s)
