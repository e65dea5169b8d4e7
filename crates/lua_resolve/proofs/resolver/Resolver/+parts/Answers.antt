use Rattle.std.proofs.Common.{◌≡◌, ◌∙◌, [], map, Some, true, false, drop, refl, sym, ap, subst, rules, arith}
use mir.Val.{SFits}
use mir.Syntax.{w64}
use Rattle.std.proofs.lemmas.Int.{to_z-of_z}
use Rattle.std.proofs.lemmas.List.{drop_all}
use Rattle.lua_code.specs.LuaHeapValue.{Number}
use Rattle.lua_code.specs.LuaSlotsCode.{ConstantC}
use Rattle.lua_code.specs.declared.statement.Statement.TheVariants as codes
use Rattle.lua_code.specs.LuaSlotsIsCode.{any_sight, IsClosure, IsExp, IsFun, IsBlock}
use Rattle.lua_syntax.specs.View.{kind_view, stat_kind_view, expr_view, exprs_view, field_view, fields_view, stats_view, arm_view, arms_view}
use Rattle.lua_syntax.proofs.Views.{views, expr_opens, block_opens, function_opens, stat_opens, arm_opens, kind-Nil, kind-True, kind-False, kind-Number, kind-Text, kind-Dots, kind-Function, kind-Name, kind-Index, kind-Call, kind-Method, kind-Table, kind-Binary, kind-Unary, kind-Paren, field-Item, field-Pair, stat-Assign, stat-Call, stat-Do, stat-While, stat-Repeat, stat-Each, stat-LocalFunction, stat-Local, stat-Return, stat-Break}
use Rattle.lua_code.specs.Seen.{place_seen, expression_seen, statement_seen, block_seen}
use Rattle.lua_code.proofs.Views.{expression-Nil, expression-Truth, expression-Number, expression-Text, expression-Dots, expression-Function, expression-Index, expression-Call, expression-Method, expression-Table, expression-Unary, expression-Paren, entry-Item, entry-Pair, branch_made, statement-Assign, statement-Call, statement-Do, statement-While, statement-Repeat, statement-Each, statement-Return, statement-Break, statement-Declare, statement-LocalFunction}
use Rattle.lua_resolve.specs.Parts.{state_of, IsPart, ExpressionsSoFar, TargetsSoFar, EntriesSoFar, BranchesSoFar, BlockSoFar, IsStep, IsOther}
use Rattle.lua_resolve.proofs.PartLaws.{next_same, next_trans, later, exps_start, exps_step, exps_end, fields_start, fields_step, fields_end, arms_start, arms_step, arms_end, targets_start, targets_step, targets_end, block_start, block_step, block_done, block_next, block_code, repeat_next, repeat_code, plain_part, body_next, body_code, local_part, local_function_part, function_next, function_code}
use Rattle.lua_resolve.proofs.FormLaws.{exp_as, code_as, result_as, target_result_as, part_result_as, target_as, fields_as, arms_as, part_as, next_item, closing, entering, leaving, adding, numbered, exp_of, exps_of, targets_of, fields_of_list, arms_of_list, stats_of_list, names_of_list, if_part, count_part}
use Rattle.lua_resolve.proofs.resolver.Resolver.+parts.Goals as goal

pub kind-returns-in-Nil-clause-next : goal.kind-returns-in-Nil-clause-next
kind-returns-in-Nil-clause-next t c = next_same _

pub kind-returns-in-Nil-clause-code : goal.kind-returns-in-Nil-clause-code
kind-returns-in-Nil-clause-code t c = λ at see l. exp_as at see (ap (λ k. kind_view k c.args.line) c.in-Nil.is ∙ kind-Nil _) (expression-Nil) refl

pub kind-returns-in-True-clause-next : goal.kind-returns-in-True-clause-next
kind-returns-in-True-clause-next t c = next_same _

pub kind-returns-in-True-clause-code : goal.kind-returns-in-True-clause-code
kind-returns-in-True-clause-code t c = λ at see l. exp_as at see (ap (λ k. kind_view k c.args.line) c.in-True.is ∙ kind-True _) (expression-Truth true) refl

pub kind-returns-in-False-clause-next : goal.kind-returns-in-False-clause-next
kind-returns-in-False-clause-next t c = next_same _

pub kind-returns-in-False-clause-code : goal.kind-returns-in-False-clause-code
kind-returns-in-False-clause-code t c = λ at see l. exp_as at see (ap (λ k. kind_view k c.args.line) c.in-False.is ∙ kind-False _) (expression-Truth false) refl

pub kind-returns-in-Number-clause-next : goal.kind-returns-in-Number-clause-next
kind-returns-in-Number-clause-next t c = next_same _

pub kind-returns-in-Number-clause-code : goal.kind-returns-in-Number-clause-code
kind-returns-in-Number-clause-code t c = let f : SFits w64 c.in-Number.n = search rules in λ at see l. exp_as at see (ap (λ k. kind_view k c.args.line) c.in-Number.is ∙ kind-Number c.in-Number.n c.args.line) (expression-Number _ ∙ ap (λ z. ConstantC (Number z)) (to_z-of_z w64 c.in-Number.n f)) refl

pub kind-returns-in-Dots-clause-next : goal.kind-returns-in-Dots-clause-next
kind-returns-in-Dots-clause-next t c = next_same _

pub kind-returns-in-Dots-clause-code : goal.kind-returns-in-Dots-clause-code
kind-returns-in-Dots-clause-code t c = λ at see l. exp_as at see (ap (λ k. kind_view k c.args.line) c.in-Dots.is ∙ kind-Dots _) (expression-Dots) tt

pub kind-returns-in_ok-number-in-Text-clause-code : goal.kind-returns-in_ok-number-in-Text-clause-code
kind-returns-in_ok-number-in-Text-clause-code t c = λ at see l. exp_as at see (ap (λ k. kind_view k c.args.line) c.in-Text.is ∙ kind-Text _ _) (expression-Text _) (c.in_ok-number-in-Text.ensures.there at see l)

pub kind-returns-in_ok-index-in-Function-clause-code : goal.kind-returns-in_ok-index-in-Function-clause-code
kind-returns-in_ok-index-in-Function-clause-code t c = λ at see l. exp_as at see (ap (λ k. kind_view k c.args.line) c.in-Function.is ∙ kind-Function _ _) (expression-Function _ _) (c.in_ok-index-in-Function.ensures.code at see l)

pub kind-returns-in-Name-clause-code : goal.kind-returns-in-Name-clause-code
kind-returns-in-Name-clause-code t c = result_as _ _ (ap (λ k. kind_view k c.args.line) c.in-Name.is ∙ kind-Name _ _) c.name.ensures.code

pub kind-returns-in_ok-key-in-Index-clause-next : goal.kind-returns-in_ok-key-in-Index-clause-next
kind-returns-in_ok-key-in-Index-clause-next t c = next_trans _ _ _ c.in_ok-of-in-Index.ensures.next c.in_ok-key-in-Index.ensures.next

pub kind-returns-in_ok-key-in-Index-clause-code : goal.kind-returns-in_ok-key-in-Index-clause-code
kind-returns-in_ok-key-in-Index-clause-code t c = λ at see l. exp_as at see (ap (λ k. kind_view k c.args.line) c.in-Index.is ∙ kind-Index _ _ _) (expression-Index _ _ _) (refl, exp_of at see _ c.deref.ensures (c.in_ok-of-in-Index.ensures.code at see (later _ _ at see (c.in_ok-key-in-Index.ensures.next) l)), exp_of at see _ c.deref-in-Index.ensures (c.in_ok-key-in-Index.ensures.code at see l))

pub kind-returns-in_ok-arguments-in-Call-clause-next : goal.kind-returns-in_ok-arguments-in-Call-clause-next
kind-returns-in_ok-arguments-in-Call-clause-next t c = next_trans _ _ _ c.in_ok-called-in-Call.ensures.next c.in_ok-arguments-in-Call.ensures.next

pub kind-returns-in_ok-arguments-in-Call-clause-code : goal.kind-returns-in_ok-arguments-in-Call-clause-code
kind-returns-in_ok-arguments-in-Call-clause-code t c = λ at see l. exp_as at see (ap (λ k. kind_view k c.args.line) c.in-Call.is ∙ kind-Call _ _ _) (expression-Call _ _ _) (refl, exp_of at see _ c.deref-in-Call.ensures (c.in_ok-called-in-Call.ensures.code at see (later _ _ at see (c.in_ok-arguments-in-Call.ensures.next) l)), exps_of at see _ c.as_slice.ensures (c.in_ok-arguments-in-Call.ensures.code at see l))

pub kind-returns-in_ok-number-in-Method-clause-next : goal.kind-returns-in_ok-number-in-Method-clause-next
kind-returns-in_ok-number-in-Method-clause-next t c = next_trans _ _ _ c.in_ok-of-in-Method.ensures.next (next_trans _ _ _ c.in_ok-arguments-in-Method.ensures.next c.in_ok-number-in-Method.ensures.next)

pub kind-returns-in_ok-number-in-Method-clause-code : goal.kind-returns-in_ok-number-in-Method-clause-code
kind-returns-in_ok-number-in-Method-clause-code t c = λ at see l.
    let before = later _ _ at see c.in_ok-number-in-Method.ensures.next l in
    exp_as at see (ap (λ k. kind_view k c.args.line) c.in-Method.is ∙ kind-Method _ _ _ _) (expression-Method _ _ _ _) (refl, c.in_ok-number-in-Method.ensures.there at see l, exp_of at see _ c.deref-in-Method.ensures (c.in_ok-of-in-Method.ensures.code at see (later _ _ at see c.in_ok-arguments-in-Method.ensures.next before)), exps_of at see _ c.as_slice-in-Method.ensures (c.in_ok-arguments-in-Method.ensures.code at see before))

pub kind-returns-in_ok-entries-in-Table-clause-code : goal.kind-returns-in_ok-entries-in-Table-clause-code
kind-returns-in_ok-entries-in-Table-clause-code t c = λ at see l. exp_as at see (ap (λ k. kind_view k c.args.line) c.in-Table.is ∙ kind-Table _ _) (expression-Table _ _) (refl, fields_of_list at see _ c.as_slice-in-Table.ensures (c.in_ok-entries-in-Table.ensures.code at see l))

pub kind-returns-in_ok-right-in-Binary-clause-next : goal.kind-returns-in_ok-right-in-Binary-clause-next
kind-returns-in_ok-right-in-Binary-clause-next t c = next_trans _ _ _ c.in_ok-left-in-Binary.ensures.next c.in_ok-right-in-Binary.ensures.next

pub kind-returns-in_ok-right-in-Binary-clause-code : goal.kind-returns-in_ok-right-in-Binary-clause-code
kind-returns-in_ok-right-in-Binary-clause-code t c = λ at see l. exp_as at see (ap (λ k. kind_view k c.args.line) c.in-Binary.is ∙ kind-Binary _ _ _ _) (refl) (c.binary.ensures at see _ _ (exp_of at see _ c.deref-in-Binary.ensures (c.in_ok-left-in-Binary.ensures.code at see (later _ _ at see (c.in_ok-right-in-Binary.ensures.next) l))) (exp_of at see _ c.deref-in-Binary-2.ensures (c.in_ok-right-in-Binary.ensures.code at see l)))

pub kind-returns-in_ok-of-in-Unary-clause-code : goal.kind-returns-in_ok-of-in-Unary-clause-code
kind-returns-in_ok-of-in-Unary-clause-code t c = λ at see l. exp_as at see (ap (λ k. kind_view k c.args.line) c.in-Unary.is ∙ kind-Unary _ _ _) (expression-Unary _ _ _) (refl, refl, exp_of at see _ c.deref-in-Unary.ensures (c.in_ok-of-in-Unary.ensures.code at see l))

pub kind-returns-in_ok-of-in-Paren-clause-code : goal.kind-returns-in_ok-of-in-Paren-clause-code
kind-returns-in_ok-of-in-Paren-clause-code t c = λ at see l. exp_as at see (ap (λ k. kind_view k c.args.line) c.in-Paren.is ∙ kind-Paren _ _) (expression-Paren _) (exp_of at see _ c.deref-in-Paren.ensures (c.in_ok-of-in-Paren.ensures.code at see l))

pub operand-returns-clause-code : goal.operand-returns-clause-code
operand-returns-clause-code t c = λ at see l. code_as at see (expr_view c.args.e.now) (ap expression_seen c.in_ok-code-2.ensures) (c.in_ok-code.ensures.code at see l)

pub expression-returns-clause-code : goal.expression-returns-clause-code
expression-returns-clause-code t c = result_as _ _ (expr_opens _) c.kind.ensures.code

pub expressions-loop-e-init : goal.expressions-loop-e-init
expressions-loop-e-init t c = subst (ExpressionsSoFar _ _ _ _) (sym c.in_ok-out.ensures) (exps_start _ _)

pub expressions-loop-e-preserved : goal.expressions-loop-e-preserved
expressions-loop-e-preserved t c = exps_step _ _ _ _ _ _ _ _ (expr_view c.e-item.result) _ c.loop-e.invariant (ap exprs_view (next_item c.args.list.now c.loop-e.e-index c.e-item.result c.e-item.is c.loop-e-test.true)) c.in_ok-code.ensures.next c.in_ok-code.ensures.code c.in_ok-push.ensures.ok

pub expressions-returns-clause-next : goal.expressions-returns-clause-next
expressions-returns-clause-next t c = c.loop-e.invariant.next

pub expressions-returns-clause-code : goal.expressions-returns-clause-code
expressions-returns-clause-code t c = λ at see l. let none : drop c.loop-e.e-index c.args.list.now ≡ [] = drop_all c.loop-e.e-index c.args.list.now (omega (arith, c.loop-e-test.false)) in exps_end _ _ _ _ _ c.loop-e.invariant (ap exprs_view none) at see l

pub targets-loop-e-init : goal.targets-loop-e-init
targets-loop-e-init t c = subst (TargetsSoFar _ _ _ _) (sym c.in_ok-out.ensures) (targets_start _ _)

pub targets-loop-e-preserved : goal.targets-loop-e-preserved
targets-loop-e-preserved t c = targets_step _ _ _ _ _ _ _ _ (expr_view c.e-item.result) _ c.loop-e.invariant (ap exprs_view (next_item c.args.list.now c.loop-e.e-index c.e-item.result c.e-item.is c.loop-e-test.true)) c.in_ok-code.ensures.next c.in_ok-code.ensures.code c.in_ok-push.ensures.ok

pub targets-returns-clause-next : goal.targets-returns-clause-next
targets-returns-clause-next t c = c.loop-e.invariant.next

pub targets-returns-clause-code : goal.targets-returns-clause-code
targets-returns-clause-code t c = λ at see l. let none : drop c.loop-e.e-index c.args.list.now ≡ [] = drop_all c.loop-e.e-index c.args.list.now (omega (arith, c.loop-e-test.false)) in targets_end _ _ _ _ _ c.loop-e.invariant (ap exprs_view none) at see l

pub entries-loop-f-init : goal.entries-loop-f-init
entries-loop-f-init t c = subst (EntriesSoFar _ _ _ _) (sym c.in_ok-out.ensures) (fields_start _ _)

pub entries-loop-f-preserved : goal.entries-loop-f-preserved
entries-loop-f-preserved t c = fields_step _ _ _ _ _ _ _ _ (field_view c.f-item.result) _ c.loop-f.invariant (ap fields_view (next_item c.args.list.now c.loop-f.f-index c.f-item.result c.f-item.is c.loop-f-test.true)) c.in_ok-code.ensures.next c.in_ok-code.ensures.code c.in_ok-push.ensures.ok

pub entries-returns-clause-next : goal.entries-returns-clause-next
entries-returns-clause-next t c = c.loop-f.invariant.next

pub entries-returns-clause-code : goal.entries-returns-clause-code
entries-returns-clause-code t c = λ at see l. let none : drop c.loop-f.f-index c.args.list.now ≡ [] = drop_all c.loop-f.f-index c.args.list.now (omega (arith, c.loop-f-test.false)) in fields_end _ _ _ _ _ c.loop-f.invariant (ap fields_view none) at see l

pub branches-loop-a-init : goal.branches-loop-a-init
branches-loop-a-init t c = subst (BranchesSoFar _ _ _ _) (sym c.in_ok-out.ensures) (arms_start _ _)

pub branches-loop-a-preserved : goal.branches-loop-a-preserved
branches-loop-a-preserved t c = arms_step _ _ _ _ _ _ _ _ (arm_view c.a-item.result) _ c.loop-a.invariant (ap arms_view (next_item c.args.list.now c.loop-a.a-index c.a-item.result c.a-item.is c.loop-a-test.true)) c.in_ok-code.ensures.next c.in_ok-code.ensures.code c.in_ok-push.ensures.ok

pub branches-returns-clause-next : goal.branches-returns-clause-next
branches-returns-clause-next t c = c.loop-a.invariant.next

pub branches-returns-clause-code : goal.branches-returns-clause-code
branches-returns-clause-code t c = λ at see l. let none : drop c.loop-a.a-index c.args.list.now ≡ [] = drop_all c.loop-a.a-index c.args.list.now (omega (arith, c.loop-a-test.false)) in arms_end _ _ _ _ _ c.loop-a.invariant (ap arms_view none) at see l

pub stats-loop-s-init : goal.stats-loop-s-init
stats-loop-s-init t c = subst (BlockSoFar _ _ _ _) (sym c.in_ok-out.ensures) (block_start _ _)

pub stats-loop-s-preserved : goal.stats-loop-s-preserved
stats-loop-s-preserved t c = block_step _ _ _ _ _ _ _ _ _ _ c.loop-s.invariant (ap stats_view (next_item c.args.list.now c.loop-s.s-index c.s-item.result c.s-item.is c.loop-s-test.true)) c.in_ok-code.ensures c.in_ok-push.ensures.ok

pub stats-returns : goal.stats-returns
stats-returns t c = let none : drop c.loop-s.s-index c.args.list.now ≡ [] = drop_all c.loop-s.s-index c.args.list.now (omega (arith, c.loop-s-test.false)) in block_done _ _ _ _ _ c.loop-s.invariant (ap stats_view none)

pub entry-returns-in_ok-item-in-Item-clause-code : goal.entry-returns-in_ok-item-in-Item-clause-code
entry-returns-in_ok-item-in-Item-clause-code t c = λ at see l fs cs h. fields_as at see (ap (λ f. field_view f fs) c.in-Item.is ∙ field-Item _ fs) (entry-Item _ cs) (c.in_ok-item-in-Item.ensures.code at see l, h)

pub entry-returns-in_ok-item-in-Pair-clause-next : goal.entry-returns-in_ok-item-in-Pair-clause-next
entry-returns-in_ok-item-in-Pair-clause-next t c = next_trans _ _ _ c.in_ok-key-in-Pair.ensures.next c.in_ok-item-in-Pair.ensures.next

pub entry-returns-in_ok-item-in-Pair-clause-code : goal.entry-returns-in_ok-item-in-Pair-clause-code
entry-returns-in_ok-item-in-Pair-clause-code t c = λ at see l fs cs h. fields_as at see (ap (λ f. field_view f fs) c.in-Pair.is ∙ field-Pair _ _ fs) (entry-Pair _ _ cs) (c.in_ok-key-in-Pair.ensures.code at see (later _ _ at see (c.in_ok-item-in-Pair.ensures.next) l), c.in_ok-item-in-Pair.ensures.code at see l, h)

pub target-returns-in-Name-clause-code : goal.target-returns-in-Name-clause-code
target-returns-in-Name-clause-code t c = target_result_as _ _ (expr_opens _ ∙ ap (λ k. kind_view k c.args.e.now.line) c.in-Name.is ∙ kind-Name _ _) c.named_target.ensures.code

pub target-returns-in_ok-key-in-Index-clause-next : goal.target-returns-in_ok-key-in-Index-clause-next
target-returns-in_ok-key-in-Index-clause-next t c = next_trans _ _ _ c.in_ok-of-in-Index.ensures.next c.in_ok-key-in-Index.ensures.next

pub target-returns-in_ok-key-in-Index-clause-code : goal.target-returns-in_ok-key-in-Index-clause-code
target-returns-in_ok-key-in-Index-clause-code t c = λ at see l. target_as at see _ (expr_opens _ ∙ ap (λ k. kind_view k c.args.e.now.line) c.in-Index.is ∙ kind-Index _ _ _) (refl, exp_of at see _ c.deref.ensures (c.in_ok-of-in-Index.ensures.code at see (later _ _ at see (c.in_ok-key-in-Index.ensures.next) l)), exp_of at see _ c.deref-in-Index.ensures (c.in_ok-key-in-Index.ensures.code at see l))

pub target-returns-in-Nil-clause-next : goal.target-returns-in-Nil-clause-next
target-returns-in-Nil-clause-next t c = next_same _

pub target-returns-in-Nil-clause-code : goal.target-returns-in-Nil-clause-code
target-returns-in-Nil-clause-code t c = search (rules, views)

pub function-returns-clause-next : goal.function-returns-clause-next
function-returns-clause-next t c = function_next _ _ _ _ _ _ _ _ (entering (state_of c.args.self.now) _ _ _ _ c.in_ok-enter.ensures (names_of_list _ _ c.as_slice.ensures c.in_ok-flags.ensures)) c.in_ok-body.ensures.next (leaving _ _ _ _ c.in_ok-places.ensures c.in_ok-index.ensures.scopes) (adding _ _ _ c.in_ok-index.ensures.functions.1) c.in_ok-index.ensures.constants

pub function-returns-clause-code : goal.function-returns-clause-code
function-returns-clause-code t c = λ at see l. subst (λ k. IsClosure at see c.in_ok-index.index (map place_seen c.in_ok-places.places) (λ inner q. IsFun at inner k q)) (sym (function_opens c.args.f.now)) (function_code _ _ _ _ _ _ _ _ _ _ _ _ (entering (state_of c.args.self.now) _ _ _ _ c.in_ok-enter.ensures (names_of_list _ _ c.as_slice.ensures c.in_ok-flags.ensures)) c.in_ok-body.ensures.next c.in_ok-body.ensures.code (leaving _ _ _ _ c.in_ok-places.ensures c.in_ok-index.ensures.scopes) (adding _ _ _ c.in_ok-index.ensures.functions.1) c.in_ok-index.ensures.constants refl (numbered _ _ c.in_ok-index.ensures.functions.0) at see l)

pub block-returns-clause-next : goal.block-returns-clause-next
block-returns-clause-next t c = block_next _ _ _ _ _ c.in_ok-out.ensures (closing (state_of c.args.self.now) _ _ _ _ _ _ _ c.len-count.ensures c.in_ok-close.ensures)

pub block-returns-clause-code : goal.block-returns-clause-code
block-returns-clause-code t c = λ at see l. subst (λ b. IsBlock at any_sight see b (block_seen c.in_ok-out.out)) (sym (block_opens c.args.b.now)) (stats_of_list at any_sight see _ c.as_slice.ensures (block_code _ _ _ _ _ c.in_ok-out.ensures (closing (state_of c.args.self.now) _ _ _ _ _ _ _ c.len-count.ensures c.in_ok-close.ensures) at see l))

pub branch-returns-clause-next : goal.branch-returns-clause-next
branch-returns-clause-next t c = next_trans _ _ _ c.in_ok-test.ensures.next c.in_ok-body.ensures.next

pub branch-returns-clause-code : goal.branch-returns-clause-code
branch-returns-clause-code t c = λ at see l more cs h. arms_as at see (ap (λ k. k more) (arm_opens _)) (branch_made _ _ cs) (c.in_ok-test.ensures.code at see (later _ _ at see (c.in_ok-body.ensures.next) l), c.in_ok-body.ensures.code at see l, h)

pub stat-returns : goal.stat-returns
stat-returns t c = part_result_as _ _ _ (stat_opens c.args.s.now) c.stat_kind.ensures

pub stat_kind-returns-in_ok-values-in-Assign : goal.stat_kind-returns-in_ok-values-in-Assign
stat_kind-returns-in_ok-values-in-Assign t c = part_as _ _ (ap (λ k. stat_kind_view k c.args.line) c.in-Assign.is ∙ stat-Assign _ _ _) (statement-Assign _ _) (plain_part _ _ _ _ (next_trans _ _ _ c.in_ok-targets-in-Assign.ensures.next c.in_ok-values-in-Assign.ensures.next) (λ at see l tail left rest h. ((targets_of at see _ c.as_slice.ensures (c.in_ok-targets-in-Assign.ensures.code at see (later _ _ at see (c.in_ok-values-in-Assign.ensures.next) l)), exps_of at see _ c.as_slice-in-Assign.ensures (c.in_ok-values-in-Assign.ensures.code at see l)), h)))

pub stat_kind-returns-in_ok-code-in-Call : goal.stat_kind-returns-in_ok-code-in-Call
stat_kind-returns-in_ok-code-in-Call t c = part_as _ _ (ap (λ k. stat_kind_view k c.args.line) c.in-Call.is ∙ stat-Call _ _) (statement-Call _) (plain_part _ _ _ _ (c.in_ok-code-in-Call.ensures.next) (λ at see l tail left rest h. (c.in_ok-code-in-Call.ensures.code at see l, h)))

pub stat_kind-returns-in_ok-body-in-Do : goal.stat_kind-returns-in_ok-body-in-Do
stat_kind-returns-in_ok-body-in-Do t c = part_as _ _ (ap (λ k. stat_kind_view k c.args.line) c.in-Do.is ∙ stat-Do _ _) (statement-Do _) (plain_part _ _ _ _ (c.in_ok-body-in-Do.ensures.next) (λ at see l tail left rest h. (c.in_ok-body-in-Do.ensures.code at see l, h)))

pub loop_kind-returns-in_ok-body-in-While : goal.loop_kind-returns-in_ok-body-in-While
loop_kind-returns-in_ok-body-in-While t c = part_as _ _ (ap (λ k. stat_kind_view k c.args.line) c.in-While.is ∙ stat-While _ _ _) (statement-While _ _) (plain_part _ _ _ _ (next_trans _ _ _ c.in_ok-test-in-While.ensures.next c.in_ok-body-in-While.ensures.next) (λ at see l tail left rest h. ((c.in_ok-test-in-While.ensures.code at see (later _ _ at see (c.in_ok-body-in-While.ensures.next) l), c.in_ok-body-in-While.ensures.code at see l), h)))

pub stat_kind-returns-in_ok-values-in-Return : goal.stat_kind-returns-in_ok-values-in-Return
stat_kind-returns-in_ok-values-in-Return t c = part_as _ _ (ap (λ k. stat_kind_view k c.args.line) c.in-Return.is ∙ stat-Return _ _) (statement-Return _) (plain_part _ _ _ _ (c.in_ok-values-in-Return.ensures.next) (λ at see l tail left rest h. (exps_of at see _ c.as_slice-in-Return.ensures (c.in_ok-values-in-Return.ensures.code at see l), h)))

pub stat_kind-returns-in-Break : goal.stat_kind-returns-in-Break
stat_kind-returns-in-Break t c = part_as _ _ (ap (λ k. stat_kind_view k c.args.line) c.in-Break.is ∙ stat-Break _) (statement-Break) (plain_part _ _ _ _ (next_same _) (λ at see l tail left rest h. (tt, h)))

pub stat_kind-returns-in_ok-other-in-If : goal.stat_kind-returns-in_ok-other-in-If
stat_kind-returns-in_ok-other-in-If t c = subst (λ k. IsPart (state_of c.args.self.now) (state_of c.otherwise.new.self) (stat_kind_view k c.args.line) (statement_seen (codes.If c.in_ok-arms-in-If.arms c.in_ok-other-in-If.other))) (sym c.in-If.is) (if_part _ _ _ _ _ _ _ (next_trans _ _ _ c.in_ok-arms-in-If.ensures.next c.in_ok-other-in-If.ensures.next) (λ at see l. arms_of_list at see _ c.as_slice-in-If.ensures (c.in_ok-arms-in-If.ensures.code at see (later _ _ at see c.in_ok-other-in-If.ensures.next l))) c.in_ok-other-in-If.ensures.code)

pub loop_kind-returns-in_ok-close-in-Repeat : goal.loop_kind-returns-in_ok-close-in-Repeat
loop_kind-returns-in_ok-close-in-Repeat t c = part_as _ _ (ap (λ k. stat_kind_view k c.args.line) c.in-Repeat.is ∙ stat-Repeat _ _ _) (statement-Repeat _ _) (plain_part _ _ _ _ (repeat_next _ _ _ _ _ _ c.in_ok-body-in-Repeat.ensures c.in_ok-test-in-Repeat.ensures.next (closing (state_of c.args.self.now) _ _ _ _ _ _ _ c.len-count.ensures c.in_ok-close-in-Repeat.ensures)) (λ at see l tail left rest h. (subst (λ b. IsBlock at (λ end. IsExp at end (expr_view c.in-Repeat.test) (expression_seen c.in_ok-test-in-Repeat.test)) see b (block_seen c.in_ok-body-in-Repeat.body)) (sym (block_opens c.in-Repeat.body)) (stats_of_list at (λ end. IsExp at end (expr_view c.in-Repeat.test) (expression_seen c.in_ok-test-in-Repeat.test)) see _ c.as_slice.ensures (repeat_code _ _ _ _ _ _ _ _ c.in_ok-body-in-Repeat.ensures c.in_ok-test-in-Repeat.ensures.next c.in_ok-test-in-Repeat.ensures.code (closing (state_of c.args.self.now) _ _ _ _ _ _ _ c.len-count.ensures c.in_ok-close-in-Repeat.ensures) at see l)), h)))

pub stat_kind-returns-in_ok-index-in-LocalFunction : goal.stat_kind-returns-in_ok-index-in-LocalFunction
stat_kind-returns-in_ok-index-in-LocalFunction t c = part_as _ _ (ap (λ k. stat_kind_view k c.args.line) c.in-LocalFunction.is ∙ stat-LocalFunction _ _ _) (statement-LocalFunction _ _ _) (local_function_part _ _ _ _ _ _ _ _ _ c.in_ok-boxed-in-LocalFunction.ensures c.in_ok-index-in-LocalFunction.ensures.next c.in_ok-index-in-LocalFunction.ensures.code)

pub stat_kind-returns-in_ok-flags-in-Local : goal.stat_kind-returns-in_ok-flags-in-Local
stat_kind-returns-in_ok-flags-in-Local t c = part_as _ _ (ap (λ k. stat_kind_view k c.args.line) c.in-Local.is ∙ stat-Local _ _ _) (statement-Declare _ _) (local_part _ _ _ _ _ _ _ _ c.in_ok-values-in-Local.ensures.next (λ at see l. exps_of at see _ c.as_slice-in-Local.ensures (c.in_ok-values-in-Local.ensures.code at see l)) (names_of_list _ _ c.as_slice-in-Local-2.ensures c.in_ok-flags-in-Local.ensures))

pub loop_kind-returns-in_ok-flags-in-Each : goal.loop_kind-returns-in_ok-flags-in-Each
loop_kind-returns-in_ok-flags-in-Each t c = part_as _ _ (ap (λ k. stat_kind_view k c.args.line) c.in-Each.is ∙ stat-Each _ _ _ _) (statement-Each _ _ _ _) (plain_part _ _ _ _ (next_trans _ _ _ c.in_ok-values-in-Each.ensures.next c.in_ok-flags-in-Each.ensures.next) (λ at see l tail left rest h. ((refl, c.in_ok-flags-in-Each.ensures.as_many, exps_of at see _ c.as_slice-in-Each.ensures (c.in_ok-values-in-Each.ensures.code at see (later _ _ at see c.in_ok-flags-in-Each.ensures.next l)), c.in_ok-flags-in-Each.ensures.code at see l), h)))

pub loop_kind-returns-in_ok-boxed-in-Count : goal.loop_kind-returns-in_ok-boxed-in-Count
loop_kind-returns-in_ok-boxed-in-Count t c = subst (λ k. IsPart (state_of c.args.self.now) (state_of c.counted.new.self) (stat_kind_view k c.args.line) (statement_seen (codes.Count c.in_ok-boxed-in-Count.field-0.boxed c.in_ok-from-in-Count.from c.in_ok-to-in-Count.to c.in_ok-by-in-Count.by c.in_ok-boxed-in-Count.field-0.body c.args.line))) (sym c.in-Count.is) (count_part _ _ _ _ _ _ _ _ _ _ _ _ _ (next_trans _ _ _ c.in_ok-from-in-Count.ensures.next (next_trans _ _ _ c.in_ok-to-in-Count.ensures.next (next_trans _ _ _ c.in_ok-by-in-Count.ensures.next c.in_ok-boxed-in-Count.ensures.next))) (λ at see l. c.in_ok-from-in-Count.ensures.code at see (later _ _ at see (next_trans _ _ _ c.in_ok-to-in-Count.ensures.next (next_trans _ _ _ c.in_ok-by-in-Count.ensures.next c.in_ok-boxed-in-Count.ensures.next)) l)) (λ at see l. c.in_ok-to-in-Count.ensures.code at see (later _ _ at see (next_trans _ _ _ c.in_ok-by-in-Count.ensures.next c.in_ok-boxed-in-Count.ensures.next) l)) (λ at see l. c.in_ok-by-in-Count.ensures.code at see (later _ _ at see c.in_ok-boxed-in-Count.ensures.next l)) c.in_ok-boxed-in-Count.ensures.code)

pub counted-returns-clause-next : goal.counted-returns-clause-next
counted-returns-clause-next t c = body_next _ _ _ _ _ _ c.in_ok-boxed.ensures c.in_ok-body.ensures.next (closing (state_of c.args.self.now) _ _ _ _ _ _ _ c.len-count.ensures c.in_ok-close.ensures)

pub counted-returns-clause-code : goal.counted-returns-clause-code
counted-returns-clause-code t c = body_code _ _ _ _ _ _ _ _ c.in_ok-boxed.ensures c.in_ok-body.ensures.next c.in_ok-body.ensures.code (closing (state_of c.args.self.now) _ _ _ _ _ _ _ c.len-count.ensures c.in_ok-close.ensures)

pub scoped-returns-clause-as_many : goal.scoped-returns-clause-as_many
scoped-returns-clause-as_many t c = (names_of_list _ _ c.as_slice.ensures c.in_ok-flags.ensures).as_many

pub scoped-returns-clause-next : goal.scoped-returns-clause-next
scoped-returns-clause-next t c = body_next _ _ _ _ _ _ (names_of_list _ _ c.as_slice.ensures c.in_ok-flags.ensures) c.in_ok-body.ensures.next (closing (state_of c.args.self.now) _ _ _ _ _ _ _ c.len-count.ensures c.in_ok-close.ensures)

pub scoped-returns-clause-code : goal.scoped-returns-clause-code
scoped-returns-clause-code t c = body_code _ _ _ _ _ _ _ _ (names_of_list _ _ c.as_slice.ensures c.in_ok-flags.ensures) c.in_ok-body.ensures.next c.in_ok-body.ensures.code (closing (state_of c.args.self.now) _ _ _ _ _ _ _ c.len-count.ensures c.in_ok-close.ensures)

pub otherwise-returns-in-None-clause-next : goal.otherwise-returns-in-None-clause-next
otherwise-returns-in-None-clause-next t c = next_same _

pub otherwise-returns-in_ok-code-in-Some-clause-code : goal.otherwise-returns-in_ok-code-in-Some-clause-code
otherwise-returns-in_ok-code-in-Some-clause-code t c = λ at see l. subst (λ b. IsOther at see b (Some c.in_ok-code-in-Some.code)) (sym c.in-Some.is) (c.in_ok-code-in-Some.ensures.code at see l)

pub step-returns-in-None-clause-next : goal.step-returns-in-None-clause-next
step-returns-in-None-clause-next t c = next_same _

pub step-returns-in_ok-code-in-Some-clause-code : goal.step-returns-in_ok-code-in-Some-clause-code
step-returns-in_ok-code-in-Some-clause-code t c = λ at see l. subst (λ e. IsStep at see e (Some c.in_ok-code-in-Some.code)) (sym c.in-Some.is) (c.in_ok-code-in-Some.ensures.code at see l)
