use Rattle.std.proofs.Common.{◌≡◌, ◌∙◌, ◌+◌, ◌-◌, [], ◌∷◌, true, false, drop, length, refl, ap, arith}
use Rattle.std.proofs.lemmas.List.{drop_all}
use Rattle.std.proofs.lemmas.Result.{on_ok_weaker}
use Rattle.lua_code.specs.Seen.{block_seen, statement_seen}
use Rattle.lua_code.proofs.Views.{statement-Call, statement-Break, branch_opens}
use Rattle.lua_flat_code.proofs.Handed.{next_item, none_left}
use Rattle.lua_flat_code.proofs.ViewLaws.{assign_seen, do_seen, while_seen, repeat_seen, choice_seen, count_seen, each_seen, return_seen, declare_seen, named_seen}
use Rattle.lua_flat_code.proofs.StatementLaws.{block_starts, block_step, block_finished, block_closed, stat_part, part_as, begun_block, said_statement}
use Rattle.lua_flat_code.proofs.ChoiceLaws.{arms_start, arms_step, arms_end, begun_else, begun_alone, said_arm, said_last_arm, else_choice, none_choice}
use Rattle.lua_flat_code.proofs.LoopLaws.{said_while, said_repeat, begun_count, begun_each, said_count_loop, said_each_loop, said_turn}
use Rattle.lua_flat_code.proofs.maker.Maker.+parts.Goals as goal

pub block-returns : goal.block-returns
block-returns t c = block_closed _ _ _ _ _ _ _ c.in_ok-statements.ensures c.opened-count.ensures c.close.ensures

pub statements-loop-statement-init : goal.statements-loop-statement-init
statements-loop-statement-init t c = block_starts _ _ _

pub statements-loop-statement-preserved : goal.statements-loop-statement-preserved
statements-loop-statement-preserved t c =
    block_step _ _ _ _ _ (statement_seen c.statement-item.result) _ _ _ _ _ c.loop-statement.invariant (ap block_seen (next_item c.args.body.now c.loop-statement.statement-index c.statement-item.result c.statement-item.is c.loop-statement-test.true)) c.in_ok-relieve.ensures c.in_ok-at.ensures

pub statements-returns : goal.statements-returns
statements-returns t c =
    let none : drop c.loop-statement.statement-index c.args.body.now ≡ [] = drop_all c.loop-statement.statement-index c.args.body.now (omega (arith, c.loop-statement-test.false)) in
    block_finished _ _ _ _ _ _ c.loop-statement.invariant (ap block_seen none)

pub statement-returns-in_ok-next-in-Declare : goal.statement-returns-in_ok-next-in-Declare
statement-returns-in_ok-next-in-Declare t c = said_statement _ _ _ _ _ _ _ c.in_ok-begin.ensures (declare_seen _ _ _ _ _ c.in-Declare.is c.as_slice.ensures c.as_slice-in-Declare.ensures) c.in_ok-next-in-Declare.ensures

pub statement-returns-in_ok-next-in-LocalFunction : goal.statement-returns-in_ok-next-in-LocalFunction
statement-returns-in_ok-next-in-LocalFunction t c = said_statement _ _ _ _ _ _ _ c.in_ok-begin.ensures (named_seen _ _ _ _ _ c.in-LocalFunction.is c.as_slice-in-LocalFunction.ensures) c.in_ok-next-in-LocalFunction.ensures

pub statement-returns-in_ok-unnamed-in_default : goal.statement-returns-in_ok-unnamed-in_default
statement-returns-in_ok-unnamed-in_default t c = said_statement _ _ _ _ _ _ _ c.in_ok-begin.ensures (λ rest. refl) c.in_ok-unnamed-in_default.ensures

pub unnamed-returns-in-Assign : goal.unnamed-returns-in-Assign
unnamed-returns-in-Assign t c = on_ok_weaker c.assign.result (λ h. part_as _ _ _ _ _ _ (assign_seen _ _ _ _ _ c.in-Assign.is c.as_slice.ensures c.as_slice-in-Assign.ensures) (stat_part _ _ _ _ h)) c.assign.ensures

pub unnamed-returns-in-Call : goal.unnamed-returns-in-Call
unnamed-returns-in-Call t c = on_ok_weaker c.alone.result (λ h. part_as _ _ _ _ _ _ (λ rest. ap (λ x. statement_seen x rest) c.in-Call.is ∙ statement-Call _ rest) (stat_part _ _ _ _ h)) c.alone.ensures

pub unnamed-returns-in-Do : goal.unnamed-returns-in-Do
unnamed-returns-in-Do t c = on_ok_weaker c.block.result (λ h. part_as _ _ _ _ _ _ (do_seen _ _ _ c.in-Do.is c.as_slice-in-Do.ensures) (stat_part _ _ _ _ (begun_block _ _ _ _ h))) c.block.ensures

pub unnamed-returns-in-Return : goal.unnamed-returns-in-Return
unnamed-returns-in-Return t c = on_ok_weaker c.give.result (λ h. part_as _ _ _ _ _ _ (return_seen _ _ _ c.in-Return.is c.as_slice-in-Return.ensures) (stat_part _ _ _ _ h)) c.give.ensures

pub unnamed-returns-in-Break : goal.unnamed-returns-in-Break
unnamed-returns-in-Break t c = on_ok_weaker c.leave.result (λ h. part_as _ _ _ _ _ _ (λ rest. ap (λ x. statement_seen x rest) c.in-Break.is ∙ statement-Break rest) (stat_part _ _ _ _ (h c.args.free))) c.leave.ensures

pub choice-returns-in_ok-settle-in-Some : goal.choice-returns-in_ok-settle-in-Some
choice-returns-in_ok-settle-in-Some t c = on_ok_weaker c.land.result (λ led. part_as _ _ _ _ _ _ (choice_seen _ _ _ _ c.in-If.is c.as_slice.ensures) (stat_part _ _ _ _ (else_choice _ _ _ _ _ _ _ c.in-Some.is c.as_slice-in-Some.ensures (begun_else _ _ _ _ _ _ _ _ _ _ c.in_ok-arms-in-Some.ensures c.in_ok-block-in-Some.ensures c.in_ok-settle-in-Some.ensures led)))) c.land.ensures

pub choice-returns-in-None : goal.choice-returns-in-None
choice-returns-in-None t c = on_ok_weaker c.choice_plain.result (λ h. part_as _ _ _ _ _ _ (choice_seen _ _ _ _ c.in-If.is c.as_slice-in-None.ensures) (stat_part _ _ _ _ (none_choice _ _ _ _ _ c.in-None.is h))) c.choice_plain.ensures

pub choice_plain-returns-then-left-eq0 : goal.choice_plain-returns-then-left-eq0
choice_plain-returns-then-left-eq0 t c =
    let counted : c.loop-branch.left - 1 + (c.loop-branch.branch-index + 1) ≡ length c.args.branches.now = omega (arith, c.loop-branch.invariant.1, c.loop-branch-test.true) in
    let none : drop (c.loop-branch.branch-index + 1) c.args.branches.now ≡ [] = none_left _ _ _ counted c.if-left-eq0.true in
    on_ok_weaker c.land.result
    (λ led. begun_alone _ _ _ _ _ _ _ _ _ _ c.loop-branch.invariant.0 (next_item c.args.branches.now c.loop-branch.branch-index c.branch-item.result c.branch-item.is c.loop-branch-test.true ∙ ap (λ bs. c.branch-item.result ∷ bs) none) c.in_ok-last_arm.ensures led) c.land.ensures

pub choice_plain-overflow_sub-left : goal.choice_plain-overflow_sub-left
choice_plain-overflow_sub-left t c = omega (arith, c.loop-branch.invariant.1, c.loop-branch-test.true)

pub choice_plain-loop-branch-init : goal.choice_plain-loop-branch-init
choice_plain-loop-branch-init t c = (arms_start _ _ _ _, omega arith)

pub choice_plain-loop-branch-preserved : goal.choice_plain-loop-branch-preserved
choice_plain-loop-branch-preserved t c =
    let counted : c.loop-branch.left - 1 + (c.loop-branch.branch-index + 1) ≡ length c.args.branches.now = omega (arith, c.loop-branch.invariant.1, c.loop-branch-test.true) in
    (arms_step _ _ _ _ _ _ _ _ _ _ _ c.loop-branch.invariant.0 (next_item c.args.branches.now c.loop-branch.branch-index c.branch-item.result c.branch-item.is c.loop-branch-test.true) c.in_ok-arm.ensures, counted)

pub arms-loop-branch-init : goal.arms-loop-branch-init
arms-loop-branch-init t c = arms_start _ _ _ _

pub arms-loop-branch-preserved : goal.arms-loop-branch-preserved
arms-loop-branch-preserved t c =
    arms_step _ _ _ _ _ _ _ _ _ _ _ c.loop-branch.invariant (next_item c.args.branches.now c.loop-branch.branch-index c.branch-item.result c.branch-item.is c.loop-branch-test.true) c.in_ok-arm.ensures

pub arms-returns : goal.arms-returns
arms-returns t c =
    let none : drop c.loop-branch.branch-index c.args.branches.now ≡ [] = drop_all c.loop-branch.branch-index c.args.branches.now (omega (arith, c.loop-branch-test.false)) in
    arms_end _ _ _ _ _ _ _ c.loop-branch.invariant none

pub arm-returns : goal.arm-returns
arm-returns t c = on_ok_weaker c.land.result (λ led. said_arm _ _ _ _ _ _ _ _ _ _ _ _ _ _ _ (branch_opens c.args.branch.now) c.new-misses.ensures c.in_ok-condition.ensures c.as_slice.ensures c.in_ok-block.ensures c.in_ok-jump.ensures.0 c.in_ok-jump.ensures.1 c.in_ok-push.ensures.ok led) c.land.ensures

pub last_arm-returns : goal.last_arm-returns
last_arm-returns t c = on_ok_weaker c.land.result (λ led. said_last_arm _ _ _ _ _ _ _ _ _ _ _ _ (branch_opens c.args.branch.now _) c.new-misses.ensures c.in_ok-condition.ensures c.as_slice.ensures c.in_ok-block.ensures c.in_ok-settle.ensures led) c.land.ensures

pub repeated-returns-in-While : goal.repeated-returns-in-While
repeated-returns-in-While t c = on_ok_weaker c.while_loop.result (λ h. part_as _ _ _ _ _ _ (while_seen _ _ _ _ c.in-While.is c.as_slice.ensures) (stat_part _ _ _ _ h)) c.while_loop.ensures

pub repeated-returns-in-Repeat : goal.repeated-returns-in-Repeat
repeated-returns-in-Repeat t c = on_ok_weaker c.repeat_loop.result (λ h. part_as _ _ _ _ _ _ (repeat_seen _ _ _ _ c.in-Repeat.is c.as_slice-in-Repeat.ensures) (stat_part _ _ _ _ h)) c.repeat_loop.ensures

pub repeated-returns-in_ok-count_values-in-Count : goal.repeated-returns-in_ok-count_values-in-Count
repeated-returns-in_ok-count_values-in-Count t c =
    on_ok_weaker c.count_loop.result (λ h. part_as _ _ _ _ _ _ (count_seen _ _ _ _ _ _ _ _ _ _ c.in-Count.is c.deref.ensures c.deref-in-Count.ensures c.as_slice-in-Count.ensures) (stat_part _ _ _ _ (begun_count _ _ _ _ _ _ _ _ _ _ c.in_ok-count_values-in-Count.ensures h))) c.count_loop.ensures

pub repeated-returns-in_ok-each_values-in-Each : goal.repeated-returns-in_ok-each_values-in-Each
repeated-returns-in_ok-each_values-in-Each t c =
    on_ok_weaker c.each_loop.result (λ h. part_as _ _ _ _ _ _ (each_seen _ _ _ _ _ _ _ _ c.in-Each.is c.as_slice-in-Each-2.ensures c.as_slice-in-Each.ensures c.as_slice-in-Each-3.ensures) (stat_part _ _ _ _ (begun_each _ _ _ _ _ _ _ _ c.in_ok-each_values-in-Each.ensures h))) c.each_loop.ensures

pub while_loop-returns : goal.while_loop-returns
while_loop-returns t c =
    on_ok_weaker c.leave_loop.result
    (λ left. said_while _ _ _ _ _ _ _ _ _ _ _ _ _ _ _ _ c.in_ok-emit.ensures c.in_ok-top.ensures.0 c.in_ok-top.ensures.1 c.new-misses.ensures c.in_ok-condition.ensures c.in_ok-begin.ensures c.enter_loop-outer.ensures.jumps c.enter_loop-outer.ensures.state c.in_ok-block.ensures c.in_ok-emit-2.ensures c.in_ok-land.ensures left) c.leave_loop.ensures

pub repeat_loop-returns : goal.repeat_loop-returns
repeat_loop-returns t c =
    on_ok_weaker c.leave_loop.result
    (λ left. said_repeat _ _ _ _ _ _ _ _ _ _ _ _ _ _ _ c.in_ok-emit.ensures c.in_ok-top.ensures.0 c.in_ok-begin.ensures c.opened-count.ensures c.enter_loop-outer.ensures.jumps c.enter_loop-outer.ensures.state c.in_ok-inner.ensures c.in_ok-until.ensures c.close.ensures left) c.leave_loop.ensures

pub count_loop-returns : goal.count_loop-returns
count_loop-returns t c =
    on_ok_weaker c.leave_loop.result
    (λ left. said_count_loop _ _ _ _ _ _ _ _ _ _ _ _ _ _ _ _ _ _ c.in_ok-begins.ensures.0 c.in_ok-begins.ensures.1 c.in_ok-top.ensures.0 c.in_ok-top.ensures.1 c.in_ok-begin.ensures c.enter_loop-outer.ensures.jumps c.enter_loop-outer.ensures.state c.in_ok-names.ensures.0 c.in_ok-names.ensures.1 c.in_ok-turn.ensures c.in_ok-emit.ensures c.in_ok-end.ensures.0 c.in_ok-lead.ensures left) c.leave_loop.ensures

pub turn-returns : goal.turn-returns
turn-returns t c = said_turn _ _ _ _ _ _ _ _ _ _ c.opened-count.ensures c.in_ok-open.ensures c.in_ok-free.ensures c.in_ok-block.ensures c.close.ensures

pub each_loop-returns : goal.each_loop-returns
each_loop-returns t c =
    on_ok_weaker c.leave_loop.result
    (λ left. said_each_loop _ _ _ _ _ _ _ _ _ _ _ _ _ _ _ _ _ _ _ _ c.in_ok-count.ensures.0 (c.if-count-eq0.false) c.in_ok-top.ensures.0 c.in_ok-top.ensures.1 c.in_ok-emit_at.ensures c.in_ok-tests.ensures.0 c.in_ok-tests.ensures.1 c.in_ok-names.ensures.0 c.in_ok-names.ensures.1 c.in_ok-begin.ensures c.enter_loop-outer.ensures.jumps c.enter_loop-outer.ensures.state c.in_ok-turn.ensures c.in_ok-emit.ensures c.in_ok-end.ensures.0 c.in_ok-lead.ensures left) c.leave_loop.ensures
