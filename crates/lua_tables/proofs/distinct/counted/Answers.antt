use Rattle.std.proofs.Common.{◌≡◌, ◌∙◌, ◌++◌, [], ap, subst, sym, append-nil}
use Rattle.std.specs.List.Sorted.{IsPermutation}
use Rattle.std.proofs.lemmas.List.Sorted.{IsPermutation-refl}
use Rattle.lua_basic.specs.Seen.{values_seen, AllOf}
use Rattle.lua_tables.specs.Kinds.{texts_in}
use Rattle.lua_tables.specs.Repeated.{spread}
use Rattle.lua_tables.proofs.Repeats.{counted-on}
use Rattle.lua_tables.proofs.distinct.counted.Goals as goal

pub values-init : goal.values-init
values-init c = rw c.new-counts.ensures.empty (record { counts = λ texts. IsPermutation-refl (texts_in (values_seen texts c.args.values.now)); of = λ s all. (all, tt) })

pub values-preserved : goal.values-preserved
values-preserved c = record {
  counts = λ texts. counted-on texts c.in-Some.value c.values.rest.now c.in-Some.more.now c.args.values.now c.values.counts.entries c.add_value.new.counts.entries c.in-Some.ensures (c.in_ok-add_value.ensures.added texts) (c.values.invariant.counts texts);
  of = λ s all. let h = c.values.invariant.of s all in let here = subst (AllOf s) c.in-Some.ensures h.0 in (here.1, c.in_ok-add_value.ensures.of s here.0 h.1);
}

pub returns-clause-counts : goal.returns-clause-counts
returns-clause-counts c = λ texts.
    let done = spread texts c.values.counts.entries in
    subst (IsPermutation (texts_in (values_seen texts c.args.values.now))) (ap (λ vs. done ++ texts_in (values_seen texts vs)) c.in_default.ensures ∙ append-nil done) (c.values.invariant.counts texts)

pub returns-clause-of : goal.returns-clause-of
returns-clause-of c = λ s all. (c.values.invariant.of s all).1
