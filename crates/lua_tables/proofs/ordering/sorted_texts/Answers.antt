use Rattle.std.proofs.Common.{◌≡◌, ◌∙◌, ap, subst, sym, rules, map, ℕ, List}
use Rattle.std.specs.List.Sorted.{IsPermutation}
use Rattle.std.specs.Ordering.{nat_cmp, is_lt}
use Rattle.std.specs.Cmp.Lexicographic.{slice_cmp, nat_list_cmp_total}
use Rattle.std.proofs.lemmas.List.Sorted.{ranks_by, answers_always, All-permutation}
use Rattle.std.proofs.lemmas.List.Elements.{All-from_recursion, recursion_from_All}
use Rattle.lua_basic.specs.LuaHeapValue.{Text}
use Rattle.lua_basic.specs.LuaMeaningScope.{Bytes}
use Rattle.lua_basic.specs.Seen.{values_seen, AllOf}
use Rattle.lua_tables.specs.Kinds.{texts_in}
use Rattle.lua_tables.specs.Repeated.{repeated, named_seen, named_values, IsNamedOf}
use Rattle.lua_tables.specs.declared.distinct.Named.{Named}
use Rattle.lua_tables.proofs.Orders.{texts_repeated}
use Rattle.lua_tables.proofs.Repeats.{seen-repeated, of-repeated}
use Rattle.lua_tables.proofs.ordering.sorted_texts.Goals as goal

pub named_texts-requires : goal.named_texts-requires
named_texts-requires c = c.in_ok-counts.ensures.of c.args.store.now c.requires

pub returns-clause-values : goal.returns-clause-values
returns-clause-values c =
    let s = c.args.store.now in
    let texts = s.texts in
    let before = c.in_ok-named.named.items in
    let after = c.sort_unstable_by.new.self.items in
    let moved = c.sort_unstable_by.ensures.permutation in
    let all = recursion_from_All (IsNamedOf s) after (All-permutation (IsNamedOf s) before after moved (All-from_recursion (IsNamedOf s) before c.in_ok-named.ensures.of)) in
    let sorted = c.sort_unstable_by.ensures.sorted (λ (a : Named) (b : Named). is_lt (slice_cmp nat_cmp a.bytes.now b.bytes.now)) (ranks_by nat_list_cmp_total (λ (n : Named). n.bytes.now))
    (answers_always _ _ _ (λ f a r g h. let e : r ≡ slice_cmp nat_cmp a.0.now.bytes.now a.1.0.now.bytes.now = search rules in ap is_lt e)) in
    let there = subst (λ (es : List (Bytes × ℕ)). IsPermutation (texts_in (values_seen texts c.args.values.now)) (repeated es)) (sym c.in_ok-named.ensures.named) (c.in_ok-counts.ensures.counts texts) in
    ap (values_seen texts) (c.in_ok-sorted.ensures ∙ ap (λ ns. repeated (map named_values ns)) c.as_slice.ensures.value)
    ∙ seen-repeated s after all
    ∙ ap (map Text) (texts_repeated named_seen (texts_in (values_seen texts c.args.values.now)) before after there moved sorted)

pub returns-clause-of : goal.returns-clause-of
returns-clause-of c =
    let s = c.args.store.now in
    let before = c.in_ok-named.named.items in
    let after = c.sort_unstable_by.new.self.items in
    let moved = c.sort_unstable_by.ensures.permutation in
    let all = recursion_from_All (IsNamedOf s) after (All-permutation (IsNamedOf s) before after moved (All-from_recursion (IsNamedOf s) before c.in_ok-named.ensures.of)) in
    subst (AllOf s) (sym (c.in_ok-sorted.ensures ∙ ap (λ ns. repeated (map named_values ns)) c.as_slice.ensures.value)) (of-repeated s after all)
