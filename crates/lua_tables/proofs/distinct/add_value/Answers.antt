use Rattle.std.proofs.Common.{◌++◌, subst, sym}
use Rattle.std.specs.List.Sorted.{IsPermutation}
use Rattle.std.proofs.lemmas.List.Sorted.{IsPermutation-refl}
use Rattle.lua_tables.specs.Repeated.{spread}
use Rattle.lua_tables.proofs.distinct.add_value.Goals as goal

pub returns-in_ok-add-in-Some-clause-added : goal.returns-in_ok-add-in-Some-clause-added
returns-in_ok-add-in-Some-clause-added c = λ texts.
    subst (λ xs. IsPermutation (xs ++ spread texts c.args.counts.now.entries) (spread texts c.add.new.counts.entries)) (sym (c.in-Some.ensures.texts texts)) (c.in_ok-add-in-Some.ensures.added texts)

pub returns-in-None-clause-added : goal.returns-in-None-clause-added
returns-in-None-clause-added c = λ texts.
    subst (λ xs. IsPermutation (xs ++ spread texts c.args.counts.now.entries) (spread texts c.args.counts.now.entries)) (sym (c.in-None.ensures.texts texts)) (IsPermutation-refl (spread texts c.args.counts.now.entries))
