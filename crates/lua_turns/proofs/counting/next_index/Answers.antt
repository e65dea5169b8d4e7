use Rattle.std.proofs.Common.{◌≡◌, ◌∙◌, refl, ap, rules, w64, to_z, of_z}
use Rattle.std.proofs.lemmas.Int.{to_z-of_z}
use Rattle.std.specs.Prelude.{ℤ}
use Rattle.lua_loops.specs.LuaSlotsLoops as machine
use Rattle.lua_turns.specs.Counting.{next_move}
use Rattle.lua_operators.proofs.LuaArmsCounts.{counted, over_count}
use Rattle.lua_turns.proofs.counting.next_index.Goals as goal

pub returns-in-Ok : goal.returns-in-Ok
returns-in-Ok c = λ boxed body fs s.
    let whole : to_z w64 (of_z w64 c.in-Ok.next) ≡ c.in-Ok.next = search rules in
    counted c.args.index c.args.limit c.args.step c.in-Ok.next _ _ _ _ c.add.result (λ i l t. machine.count_from boxed i l t body fs s) _ _
    (to_z-of_z w64 c.args.index c.ranges.index) (to_z-of_z w64 c.args.limit c.ranges.limit) (to_z-of_z w64 c.args.step c.ranges.step) whole c.add.ensures c.in-Ok.is (c.turn_at.ensures boxed body fs s)
    ∙ ap (λ (x : ℤ). next_move boxed c.turn_at.result x (to_z w64 (of_z w64 c.args.step)) body fs s) (to_z-of_z w64 c.args.limit c.ranges.limit)
    ∙ ap (λ (x : ℤ). next_move boxed c.turn_at.result c.args.limit x body fs s) (to_z-of_z w64 c.args.step c.ranges.step)

pub returns-in-Err : goal.returns-in-Err
returns-in-Err c = λ boxed body fs s.
    over_count c.args.index c.args.step _ _ c.add.result _ _ _ _ (to_z-of_z w64 c.args.index c.ranges.index) (to_z-of_z w64 c.args.step c.ranges.step) c.add.ensures c.in-Err.is refl
