use Rattle.std.proofs.Common.{◌≡◌, ◌∙◌, ◌+◌, ◌-◌, ◌∷◌, true, false, [], drop, length, refl, sym, ap, arith}
use Rattle.std.specs.Prelude.{◌==◌}
use Rattle.std.proofs.lemmas.List.{drop_all}
use Rattle.std.proofs.lemmas.Result.{on_ok_weaker}
use Rattle.lua_flat.specs.IsExpression.{one_more}
use Rattle.lua_code.specs.Seen.{expression_seen, expressions_seen, entry_seen, entries_seen}
use Rattle.lua_code.proofs.Views.{expression-Local, expression-Global, expression-Dots, entry-Item, entry-Pair}
use Rattle.lua_flat_code.specs.declared.op.Op.TheVariants as op
use Rattle.lua_flat_code.specs.Making.{emitted}
use Rattle.lua_flat_code.proofs.Handed.{next_item, left_behind, none_left}
use Rattle.lua_flat_code.proofs.ViewLaws.{value_as, many_as, function_seen, index_seen, operate_seen, unary_seen, and_seen, or_seen, paren_seen, table_seen, call_seen, method_seen, last_seen, no_more_fields}
use Rattle.lua_flat_code.proofs.ValueLaws.{operand_there, operand_next, value_loaded, said_index, said_operate, said_unary, said_first, said_either}
use Rattle.lua_flat_code.proofs.CallLaws.{value_first, said_dots, said_call, method_said_by, said_method, row_start, row_turn, row_call, row_value, row_said_by, row_ended, step_as, step_to, all_items, fields_start, fields_turn, item_said_by, pair_said_by, items_said_by, value_table_by}
use Rattle.lua_flat_code.proofs.maker.Maker.+values.Goals as goal

pub operand-returns-in_ok-begin-in-Some : goal.operand-returns-in_ok-begin-in-Some
operand-returns-in_ok-begin-in-Some t c = operand_there _ _ _ _ _ _ (rw c.in-Some.is at c.in_ok-operand.ensures) c.in_ok-begin-in-Some.ensures

pub operand-returns-in-None : goal.operand-returns-in-None
operand-returns-in-None t c = rw (rw c.in-None.is at c.in_ok-operand.ensures) at c.made_operand.ensures

pub made_operand-returns : goal.made_operand-returns
made_operand-returns t c = operand_next _ _ _ _ _ _ _ _ c.in_ok-next.ensures.0 refl c.in_ok-next.ensures.1 c.in_ok-made.ensures c.in_ok-operand.ensures.1 c.in_ok-operand.ensures.0

pub value-returns-in_ok-begin-in-Some : goal.value-returns-in_ok-begin-in-Some
value-returns-in_ok-begin-in-Some t c = on_ok_weaker c.emit.result (λ e. value_loaded _ _ _ _ _ _ _ (rw c.in-Some.is at c.in_ok-from.ensures) (e ∙ ap (emitted (op.Load c.args.to c.in-Some.from) 0) c.in_ok-begin-in-Some.ensures)) c.emit.ensures

pub value-returns-in-None : goal.value-returns-in-None
value-returns-in-None t c = rw (rw c.in-None.is at c.in_ok-from.ensures) at c.made.ensures

pub made-returns-then-is_many : goal.made-returns-then-is_many
made-returns-then-is_many t c = on_ok_weaker c.first_of_many.result (λ h. h (sym c.is_many.ensures ∙ c.if-is_many.true)) c.first_of_many.ensures

pub made-returns-in-Local : goal.made-returns-in-Local
made-returns-in-Local t c = value_as _ _ _ _ _ (ap expression_seen c.in-Local.is ∙ expression-Local _) (on_ok_weaker c.variable.result (λ h. h c.args.free) c.variable.ensures)

pub made-returns-in-Global : goal.made-returns-in-Global
made-returns-in-Global t c = value_as _ _ _ _ _ (ap expression_seen c.in-Global.is ∙ expression-Global _ _) (on_ok_weaker c.global.result (λ h. h c.args.free) c.global.ensures)

pub made-returns-in-Function : goal.made-returns-in-Function
made-returns-in-Function t c = value_as _ _ _ _ _ (function_seen _ _ _ _ c.in-Function.is c.as_slice.ensures) (on_ok_weaker c.closure.result (λ h. h c.args.free) c.closure.ensures)

pub made-returns-in-Unary : goal.made-returns-in-Unary
made-returns-in-Unary t c = value_as _ _ _ _ _ (unary_seen _ _ _ _ _ c.in-Unary.is c.deref.ensures) c.unary.ensures

pub made-returns-in-Paren : goal.made-returns-in-Paren
made-returns-in-Paren t c = value_as _ _ _ _ _ (paren_seen _ _ _ c.in-Paren.is c.deref-in-Paren.ensures) c.first.ensures

pub made-returns-in-Table : goal.made-returns-in-Table
made-returns-in-Table t c = value_as _ _ _ _ _ (table_seen _ _ _ _ c.in-Table.is c.as_slice-in-Table.ensures) c.table.ensures

pub first_of_many-returns : goal.first_of_many-returns
first_of_many-returns t c = on_ok_weaker c.many.result (λ h is. value_first _ _ _ _ _ _ is c.in_ok-wanted.ensures h) c.many.ensures

pub index-returns-in_ok-key-in-Index : goal.index-returns-in_ok-key-in-Index
index-returns-in_ok-key-in-Index t c = value_as _ _ _ _ _ (index_seen _ _ _ _ _ _ c.in-Index.is c.deref.ensures c.deref-in-Index.ensures) (on_ok_weaker c.emit_at.result (λ e. said_index _ _ _ _ _ _ _ _ _ _ _ _ _ _ c.in_ok-begin-in-Index.ensures c.in_ok-of-in-Index.ensures c.in_ok-key-in-Index.ensures e) c.emit_at.ensures)

pub operate-returns-in_ok-b-in-Operate : goal.operate-returns-in_ok-b-in-Operate
operate-returns-in_ok-b-in-Operate t c = value_as _ _ _ _ _ (operate_seen _ _ _ _ _ _ _ c.in-Operate.is c.deref.ensures c.deref-in-Operate.ensures) (on_ok_weaker c.emit_at.result (λ e. said_operate _ _ _ _ _ c.in-Operate.which _ _ _ _ _ _ _ _ _ c.in_ok-begin-in-Operate.ensures c.in_ok-a-in-Operate.ensures c.in_ok-b-in-Operate.ensures e) c.emit_at.ensures)

pub unary-returns : goal.unary-returns
unary-returns t c = on_ok_weaker c.emit_at.result (λ e. said_unary _ _ _ _ _ _ _ _ _ _ _ c.in_ok-begin.ensures c.in_ok-a.ensures e) c.emit_at.ensures

pub and_value-returns-in_ok-end-in-And : goal.and_value-returns-in_ok-end-in-And
and_value-returns-in_ok-end-in-And t c = value_as _ _ _ _ _ (and_seen _ _ _ _ _ c.in-And.is c.deref.ensures c.deref-in-And.ensures) (on_ok_weaker c.lead.result (λ led. said_either false _ _ _ _ _ _ _ _ _ _ _ _ _ c.in_ok-begin-in-And.ensures c.in_ok-value-in-And.ensures c.in_ok-register-in-And.ensures.1 c.in_ok-register-in-And.ensures.0 c.in_ok-jump-in-And.ensures.0 c.in_ok-jump-in-And.ensures.1 c.in_ok-value-in-And-2.ensures c.in_ok-end-in-And.ensures.0 led) c.lead.ensures)

pub or_value-returns-in_ok-end-in-Or : goal.or_value-returns-in_ok-end-in-Or
or_value-returns-in_ok-end-in-Or t c = value_as _ _ _ _ _ (or_seen _ _ _ _ _ c.in-Or.is c.deref.ensures c.deref-in-Or.ensures) (on_ok_weaker c.lead.result (λ led. said_either true _ _ _ _ _ _ _ _ _ _ _ _ _ c.in_ok-begin-in-Or.ensures c.in_ok-value-in-Or.ensures c.in_ok-register-in-Or.ensures.1 c.in_ok-register-in-Or.ensures.0 c.in_ok-jump-in-Or.ensures.0 c.in_ok-jump-in-Or.ensures.1 c.in_ok-value-in-Or-2.ensures c.in_ok-end-in-Or.ensures.0 led) c.lead.ensures)

pub first-returns : goal.first-returns
first-returns t c = on_ok_weaker c.value.result (λ h. said_first _ _ _ _ _ _ c.in_ok-begin.ensures h) c.value.ensures

pub many-returns-in_ok-begin-in-Dots : goal.many-returns-in_ok-begin-in-Dots
many-returns-in_ok-begin-in-Dots t c = many_as _ _ _ _ _ _ (ap expression_seen c.in-Dots.is ∙ expression-Dots) (on_ok_weaker c.emit.result (λ e. said_dots _ _ _ _ _ _ c.in_ok-begin-in-Dots.ensures e) c.emit.ensures)

pub method_call-returns-in_ok-all-in-Method : goal.method_call-returns-in_ok-all-in-Method
method_call-returns-in_ok-all-in-Method t c = many_as _ _ _ _ _ _ (method_seen _ _ _ _ _ _ _ c.in-Method.is c.deref.ensures c.as_slice.ensures) (on_ok_weaker c.emit_at.result (λ e. said_method _ _ _ _ _ _ _ _ _ _ _ _ _ _ c.in_ok-base-in-Method.ensures c.in_ok-row-in-Method.ensures c.in_ok-all-in-Method.ensures e) c.emit_at.ensures)

pub call-returns-in_ok-row-in-Call : goal.call-returns-in_ok-row-in-Call
call-returns-in_ok-row-in-Call t c = many_as _ _ _ _ _ _ (call_seen _ _ _ _ _ _ c.in-Call.is c.deref.ensures c.as_slice.ensures) (on_ok_weaker c.emit_at.result (λ e. said_call _ _ _ _ _ _ _ _ _ _ _ _ _ _ c.in_ok-begin-in-Call.ensures c.in_ok-next-in-Call.ensures.0 c.in_ok-next-in-Call.ensures.1 c.in_ok-value-in-Call.ensures c.in_ok-row-in-Call.ensures e) c.emit_at.ensures)

pub method-returns : goal.method-returns
method-returns t c = method_said_by _ _ _ _ _ _ _ _ _ _ _ _ c.in_ok-begin.ensures c.in_ok-next.ensures.0 c.in_ok-next.ensures.1 c.in_ok-of.ensures c.in_ok-emit_at.ensures

pub row-loop-e-init : goal.row-loop-e-init
row-loop-e-init t c = (row_start _ _ _, omega arith)

pub row-loop-e-preserved : goal.row-loop-e-preserved
row-loop-e-preserved t c =
    let counted : c.loop-e.left - 1 + (c.loop-e.e-index + 1) ≡ length c.args.es.now = omega (arith, c.loop-e.invariant.1, c.loop-e-test.true) in
    let behind : length (drop (c.loop-e.e-index + 1) c.args.es.now) ≡ c.loop-e.left - 1 = left_behind _ _ _ counted in
    (row_turn _ _ _ _ _ _ _ _ _ _ _ c.in_ok-next.ensures.0 (next_item c.args.es.now c.loop-e.e-index c.e-item.result c.e-item.is c.loop-e-test.true) (omega (arith, behind, c.if-left-eq0.false)) c.loop-e.invariant.0 c.in_ok-next.ensures.1 c.in_ok-value.ensures, counted)

pub row-overflow_sub-left : goal.row-overflow_sub-left
row-overflow_sub-left t c = omega (arith, c.loop-e.invariant.1, c.loop-e-test.true)

pub row-overflow_sub-before : goal.row-overflow_sub-before
row-overflow_sub-before t c = omega (arith, c.loop-e.invariant.0.counted)

pub row-overflow_sub-done : goal.row-overflow_sub-done
row-overflow_sub-done t c = omega (arith, c.loop-e.invariant.0.counted)

pub row-returns-then-left-eq0 : goal.row-returns-then-left-eq0
row-returns-then-left-eq0 t c =
    let counted : c.loop-e.left - 1 + (c.loop-e.e-index + 1) ≡ length c.args.es.now = omega (arith, c.loop-e.invariant.1, c.loop-e-test.true) in
    let none : drop (c.loop-e.e-index + 1) c.args.es.now ≡ [] = none_left _ _ _ counted c.if-left-eq0.true in
    row_said_by _ _ _ _ _ _ _ _ _ c.loop-e.invariant.0 (ap expressions_seen (next_item c.args.es.now c.loop-e.e-index c.e-item.result c.e-item.is c.loop-e-test.true ∙ ap (λ es. c.e-item.result ∷ es) none)) c.in_ok-count.ensures

pub row-returns : goal.row-returns
row-returns t c =
    let none : drop c.loop-e.e-index c.args.es.now ≡ [] = drop_all c.loop-e.e-index c.args.es.now (omega (arith, c.loop-e-test.false)) in
    row_ended _ _ _ _ _ _ _ c.loop-e.invariant.0 (ap expressions_seen none) c.in_ok-count-2.ensures

pub row_last-returns-then-is_many : goal.row_last-returns-then-is_many
row_last-returns-then-is_many t c = row_call _ _ _ _ _ _ _ _ c.every-all.ensures c.every-all.ensures c.in_ok-reach.ensures c.in_ok-many.ensures

pub row_last-returns : goal.row_last-returns
row_last-returns t c = row_value _ _ _ _ _ _ _ _ c.in_ok-next.ensures.0 (sym c.is_many.ensures ∙ c.if-is_many.false) (c.in_ok-count.ensures ∙ ap one_more c.in_ok-others.ensures) c.in_ok-next.ensures.1 c.in_ok-value.ensures

pub table-loop-entry-init : goal.table-loop-entry-init
table-loop-entry-init t c = (fields_start _ _ _ _ _ _, omega arith)

pub table-overflow_sub-left : goal.table-overflow_sub-left
table-overflow_sub-left t c = omega (arith, c.loop-entry.invariant.1, c.loop-entry-test.true)

pub table-loop-entry-preserved : goal.table-loop-entry-preserved
table-loop-entry-preserved t c =
    let counted : c.loop-entry.left - 1 + (c.loop-entry.entry-index + 1) ≡ length c.args.entries.now = omega (arith, c.loop-entry.invariant.1, c.loop-entry-test.true) in
    let behind : length (drop (c.loop-entry.entry-index + 1) c.args.entries.now) ≡ c.loop-entry.left - 1 = left_behind _ _ _ counted in
    let rest = drop (c.loop-entry.entry-index + 1) c.args.entries.now in (
      fields_turn _ _ _ _ _ _ _ _ _ (entry_seen c.entry-item.result) _ _ _ c.loop-entry.invariant.0 (ap entries_seen (next_item c.args.entries.now c.loop-entry.entry-index c.entry-item.result c.entry-item.is c.loop-entry-test.true))
          (c.in_ok-place.ensures (entries_seen rest) (last_seen rest _ (ap (λ n. n == 0) (sym behind)))),
      counted,
    )

pub table-returns : goal.table-returns
table-returns t c =
    let none : drop c.loop-entry.entry-index c.args.entries.now ≡ [] = drop_all c.loop-entry.entry-index c.args.entries.now (omega (arith, c.loop-entry-test.false)) in
    value_table_by _ _ _ _ _ _ _ _ _ _ c.if-to-free.false c.if-to-self.false c.in_ok-begin.ensures c.in_ok-emit.ensures c.loop-entry.invariant.0 (ap entries_seen none)

pub entry-returns-in_ok-next-in-Item : goal.entry-returns-in_ok-next-in-Item
entry-returns-in_ok-next-in-Item t c = λ rest last. step_as _ _ _ _ _ _ _ _ _ _ (ap (λ x. entry_seen x rest) c.in-Item.is ∙ entry-Item _ rest) (c.in_ok-next-in-Item.ensures rest last)

pub entry-returns-in_ok-pair-in-Pair : goal.entry-returns-in_ok-pair-in-Pair
entry-returns-in_ok-pair-in-Pair t c = λ rest last. c.in_ok-pair-in-Pair.ensures rest c.args.place

pub entry_item-returns-then-has_one : goal.entry_item-returns-then-has_one
entry_item-returns-then-has_one t c = λ rest last.
    step_to _ _ _ _ _ _ _ _ _ _ c.in_ok-next.ensures (c.in_ok-item.ensures rest (λ only. c.has_one.ensures.one c.if-has_one.true (last ∙ only)))

pub entry_item-returns : goal.entry_item-returns
entry_item-returns t c = λ rest last.
    all_items _ _ _ _ _ _ _ _ _ _ (no_more_fields rest (sym last ∙ c.has_one.ensures.all c.if-has_one.false)) c.in_ok-next.ensures c.in_ok-items.ensures

pub items-returns : goal.items-returns
items-returns t c = on_ok_weaker c.emit_at.result (λ e. items_said_by _ _ _ _ _ _ _ _ _ c.every-all.ensures c.in_ok-many.ensures e) c.emit_at.ensures

pub item-returns : goal.item-returns
item-returns t c = on_ok_weaker c.emit_at.result (λ e rest fits. item_said_by _ _ _ _ _ rest _ _ _ _ _ c.in_ok-from.ensures fits e) c.emit_at.ensures

pub pair-returns-in_ok-from-in-Pair : goal.pair-returns-in_ok-from-in-Pair
pair-returns-in_ok-from-in-Pair t c = on_ok_weaker c.emit_at.result (λ e rest n. step_as _ _ _ _ _ _ _ _ _ _ (ap (λ x. entry_seen x rest) c.in-Pair.is ∙ entry-Pair _ _ rest) (pair_said_by _ _ n _ _ _ rest _ _ _ _ _ _ _ _ c.in_ok-key-in-Pair.ensures c.in_ok-from-in-Pair.ensures e)) c.emit_at.ensures
