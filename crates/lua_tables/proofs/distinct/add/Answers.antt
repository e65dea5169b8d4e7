use Rattle.std.proofs.Common.{◌≡◌, ◌∷◌, suc, subst, sym, arith}
use Rattle.std.specs.List.Sorted.{IsPermutation}
use Rattle.lua_basic.specs.LuaStoreSeen.{text_at}
use Rattle.lua_tables.specs.Repeated.{AreTextsOf, spread}
use Rattle.lua_tables.proofs.Repeats.{added, added_of}
use Rattle.lua_tables.proofs.distinct.add.Goals as goal

pub returns-clause-added : goal.returns-clause-added
returns-clause-added c =
    let es = c.args.counts.now.entries in
    let next : c.in_ok-count.count ≡ suc c.count_of.result = omega (arith, c.in_ok-count.ensures) in λ texts.
    subst (λ xs. IsPermutation (text_at texts c.args.text.at ∷ spread texts es) (spread texts xs)) (sym c.in_ok-put.ensures) (added texts c.args.text es c.count_of.result c.in_ok-count.count c.count_of.ensures next)

pub returns-clause-of : goal.returns-clause-of
returns-clause-of c = λ s h all. subst (AreTextsOf s) (sym c.in_ok-put.ensures) (added_of s c.args.text c.in_ok-count.count c.args.counts.now.entries h all)
