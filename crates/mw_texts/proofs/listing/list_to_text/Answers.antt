use Rattle.std.proofs.Common.{◌≡◌, ◌∙◌, ap, refl, Err}
use Rattle.std.specs.Prelude.{codes}
use Rattle.std.proofs.lemmas.Result.{err_from_is_err_and}
use Rattle.mw_ustrings.specs.LuaMeaningValues.{rest}
use Rattle.mw_ustrings.specs.LuaMeaningArguments.{a_table}
use Rattle.mw_ustrings.specs.LuaStoreSeen.{StoreView}
use Rattle.mw_ustrings.specs.LuaBasicArguments.{text_bytes}
use Rattle.mw_ustrings.specs.LuaBasicSeen.{values_seen}
use Rattle.mw_ustrings.specs.LuaMeaningChecks.{text_or}
use Rattle.mw_ustrings.specs.LuaMeaningTexts.{items_of, list_values}
use Rattle.mw_ustrings.specs.LuaHeapHeap.{table_at}
use Rattle.mw_ustrings.proofs.ReadArguments.{behind_one, behind_two, handed_on, turned_down}
use Rattle.std.proofs.Common.{map}
use Rattle.mw_texts.proofs.listing.list_to_text.Goals as goal

pub returns-in_err-table-clause-answer : goal.returns-in_err-table-clause-answer
returns-in_err-table-clause-answer c =
    let p = err_from_is_err_and c.from_residual.result c.from_residual.ensures.1 in
    let s = c.args.store.now in
    turned_down _ (a_table 1 (codes "listToText") (values_seen s.texts c.args.args.now)) _ s s c.a_table.new.store c.args.left.now c.in_err-table.field-0.0 c.from_residual.result refl c.in_err-table.ensures.refused refl (p.1 ∙ ap Err p.2)

pub the_items-requires : goal.the_items-requires
the_items-requires c = rw c.as_slice.ensures c.in_ok-values.ensures.of

pub returns-in_err-items-clause-answer : goal.returns-in_err-items-clause-answer
returns-in_err-items-clause-answer c =
    let p = err_from_is_err_and c.from_residual-in_err-items.result c.from_residual-in_err-items.ensures.1 in
    let s = c.args.store.now in
    let seen_values : values_seen c.a_table.new.store.texts c.as_slice.result.now ≡ list_values (table_at s.heap c.in_ok-table.table.at).entries =
    ap (values_seen c.a_table.new.store.texts) c.as_slice.ensures ∙ c.in_ok-values.ensures.values ∙ ap (λ (w : StoreView). list_values (table_at w.heap c.in_ok-table.table.at).entries) c.in_ok-table.ensures.same in
    (handed_on _ (a_table 1 (codes "listToText") (values_seen s.texts c.args.args.now)) c.in_ok-table.table.at _ s c.args.left.now c.args.left.now c.the_items.new.store c.from_residual-in_err-items.result c.in_ok-table.ensures.found refl
    (turned_down _ (items_of (list_values (table_at s.heap c.in_ok-table.table.at).entries)) _ s c.a_table.new.store c.the_items.new.store c.args.left.now c.in_err-items.field-0.0 c.from_residual-in_err-items.result c.in_ok-table.ensures.same c.in_err-items.ensures.refused (ap items_of seen_values) (p.1 ∙ ap Err p.2)))

pub text_or-requires : goal.text_or-requires
text_or-requires c = rw (c.in_ok-items.ensures.same ∙ c.in_ok-table.ensures.same) (c.rest-others.ensures.of c.args.store.now c.requires)

pub returns-in_err-separator-clause-answer : goal.returns-in_err-separator-clause-answer
returns-in_err-separator-clause-answer c =
    let p = err_from_is_err_and c.from_residual-in_err-separator.result c.from_residual-in_err-separator.ensures.1 in
    let s = c.args.store.now in
    let seen_values : values_seen c.a_table.new.store.texts c.as_slice.result.now ≡ list_values (table_at s.heap c.in_ok-table.table.at).entries =
    ap (values_seen c.a_table.new.store.texts) c.as_slice.ensures ∙ c.in_ok-values.ensures.values ∙ ap (λ (w : StoreView). list_values (table_at w.heap c.in_ok-table.table.at).entries) c.in_ok-table.ensures.same in
    (handed_on _ (a_table 1 (codes "listToText") (values_seen s.texts c.args.args.now)) c.in_ok-table.table.at _ s c.args.left.now c.args.left.now c.text_or.new.store c.from_residual-in_err-separator.result c.in_ok-table.ensures.found refl
    (handed_on _ (items_of (list_values (table_at s.heap c.in_ok-table.table.at).entries)) (map text_bytes c.in_ok-items.items) _ s c.args.left.now c.args.left.now c.text_or.new.store c.from_residual-in_err-separator.result c.in_ok-items.ensures.found (ap items_of seen_values)
    (turned_down _ (text_or (codes ", ") 2 (codes "listToText") (rest (values_seen s.texts c.args.args.now))) _ s c.the_items.new.store c.text_or.new.store c.args.left.now c.in_err-separator.field-0.0 c.from_residual-in_err-separator.result (c.in_ok-items.ensures.same ∙ c.in_ok-table.ensures.same) c.in_err-separator.ensures.refused (ap (text_or (codes ", ") 2 (codes "listToText")) (behind_one rest c.args.args.now c.rest-others.result.now s c.the_items.new.store (c.in_ok-items.ensures.same ∙ c.in_ok-table.ensures.same) c.rest-others.ensures.values)) (p.1 ∙ ap Err p.2))))

pub text_or-requires-2 : goal.text_or-requires-2
text_or-requires-2 c = rw (c.in_ok-separator.ensures.same ∙ c.in_ok-items.ensures.same ∙ c.in_ok-table.ensures.same) (c.rest.ensures.of c.args.store.now (c.rest-others.ensures.of c.args.store.now c.requires))

pub returns-in_err-conjunction-clause-answer : goal.returns-in_err-conjunction-clause-answer
returns-in_err-conjunction-clause-answer c =
    let p = err_from_is_err_and c.from_residual-in_err-conjunction.result c.from_residual-in_err-conjunction.ensures.1 in
    let s = c.args.store.now in
    let seen_values : values_seen c.a_table.new.store.texts c.as_slice.result.now ≡ list_values (table_at s.heap c.in_ok-table.table.at).entries =
    ap (values_seen c.a_table.new.store.texts) c.as_slice.ensures ∙ c.in_ok-values.ensures.values ∙ ap (λ (w : StoreView). list_values (table_at w.heap c.in_ok-table.table.at).entries) c.in_ok-table.ensures.same in
    (handed_on _ (a_table 1 (codes "listToText") (values_seen s.texts c.args.args.now)) c.in_ok-table.table.at _ s c.args.left.now c.args.left.now c.text_or-2.new.store c.from_residual-in_err-conjunction.result c.in_ok-table.ensures.found refl
    (handed_on _ (items_of (list_values (table_at s.heap c.in_ok-table.table.at).entries)) (map text_bytes c.in_ok-items.items) _ s c.args.left.now c.args.left.now c.text_or-2.new.store c.from_residual-in_err-conjunction.result c.in_ok-items.ensures.found (ap items_of seen_values)
    (handed_on _ (text_or (codes ", ") 2 (codes "listToText") (rest (values_seen s.texts c.args.args.now))) (text_bytes c.in_ok-separator.separator) _ s c.args.left.now c.args.left.now c.text_or-2.new.store c.from_residual-in_err-conjunction.result c.in_ok-separator.ensures.found (ap (text_or (codes ", ") 2 (codes "listToText")) (behind_one rest c.args.args.now c.rest-others.result.now s c.the_items.new.store (c.in_ok-items.ensures.same ∙ c.in_ok-table.ensures.same) c.rest-others.ensures.values))
    (turned_down _ (text_or (codes " and ") 3 (codes "listToText") (rest (rest (values_seen s.texts c.args.args.now)))) _ s c.text_or.new.store c.text_or-2.new.store c.args.left.now c.in_err-conjunction.field-0.0 c.from_residual-in_err-conjunction.result (c.in_ok-separator.ensures.same ∙ c.in_ok-items.ensures.same ∙ c.in_ok-table.ensures.same) c.in_err-conjunction.ensures.refused (ap (text_or (codes " and ") 3 (codes "listToText")) (behind_two c.args.args.now c.rest-others.result.now c.rest.result.now s c.text_or.new.store (c.in_ok-separator.ensures.same ∙ c.in_ok-items.ensures.same ∙ c.in_ok-table.ensures.same) c.rest-others.ensures.values c.rest.ensures.values)) (p.1 ∙ ap Err p.2)))))

pub returns-clause-answer : goal.returns-clause-answer
returns-clause-answer c =
    let s = c.args.store.now in
    let seen_values : values_seen c.a_table.new.store.texts c.as_slice.result.now ≡ list_values (table_at s.heap c.in_ok-table.table.at).entries =
    ap (values_seen c.a_table.new.store.texts) c.as_slice.ensures ∙ c.in_ok-values.ensures.values ∙ ap (λ (w : StoreView). list_values (table_at w.heap c.in_ok-table.table.at).entries) c.in_ok-table.ensures.same in
    let answer = rw (c.in_ok-conjunction.ensures.same ∙ c.in_ok-separator.ensures.same ∙ c.in_ok-items.ensures.same ∙ c.in_ok-table.ensures.same, c.as_slice-2.ensures, c.as_slice-3.ensures, c.as_slice-4.ensures) at c.give_joined.ensures.answer in
    (handed_on _ (a_table 1 (codes "listToText") (values_seen s.texts c.args.args.now)) c.in_ok-table.table.at _ s c.args.left.now c.give_joined.new.left c.give_joined.new.store c.give_joined.result c.in_ok-table.ensures.found refl
    (handed_on _ (items_of (list_values (table_at s.heap c.in_ok-table.table.at).entries)) (map text_bytes c.in_ok-items.items) _ s c.args.left.now c.give_joined.new.left c.give_joined.new.store c.give_joined.result c.in_ok-items.ensures.found (ap items_of seen_values)
    (handed_on _ (text_or (codes ", ") 2 (codes "listToText") (rest (values_seen s.texts c.args.args.now))) (text_bytes c.in_ok-separator.separator) _ s c.args.left.now c.give_joined.new.left c.give_joined.new.store c.give_joined.result c.in_ok-separator.ensures.found (ap (text_or (codes ", ") 2 (codes "listToText")) (behind_one rest c.args.args.now c.rest-others.result.now s c.the_items.new.store (c.in_ok-items.ensures.same ∙ c.in_ok-table.ensures.same) c.rest-others.ensures.values))
    (handed_on _ (text_or (codes " and ") 3 (codes "listToText") (rest (rest (values_seen s.texts c.args.args.now)))) (text_bytes c.in_ok-conjunction.conjunction) _ s c.args.left.now c.give_joined.new.left c.give_joined.new.store c.give_joined.result c.in_ok-conjunction.ensures.found (ap (text_or (codes " and ") 3 (codes "listToText")) (behind_two c.args.args.now c.rest-others.result.now c.rest.result.now s c.text_or.new.store (c.in_ok-separator.ensures.same ∙ c.in_ok-items.ensures.same ∙ c.in_ok-table.ensures.same) c.rest-others.ensures.values c.rest.ensures.values))
    answer))))
