use Rattle.std.proofs.Common.{◌∙◌, ap, sym, ℕ, Some}
use Rattle.lua_basic.specs.LuaMeaningScope.{Bytes}
use Rattle.lua_tables.proofs.Repeats.{of_at, seen_at}
use Rattle.lua_tables.proofs.distinct.named_at.Goals as goal

pub bytes-requires : goal.bytes-requires
bytes-requires c = of_at c.args.store.now c.args.counts.now.entries c.args.place (c.in-Some.text.now, c.in-Some.count.now) c.requires.of (sym c.in-Some.ensures.entry)

pub returns-clause-named : goal.returns-clause-named
returns-clause-named c =
    seen_at c.args.store.now.texts c.args.counts.now.entries c.args.place (c.in-Some.text.now, c.in-Some.count.now) (sym c.in-Some.ensures.entry)
    ∙ ap (λ (b : Bytes). let e : Bytes × ℕ = (b, c.in-Some.count.now) in Some e) (sym c.bytes.ensures)

pub returns-clause-of : goal.returns-clause-of
returns-clause-of c = (of_at c.args.store.now c.args.counts.now.entries c.args.place (c.in-Some.text.now, c.in-Some.count.now) c.requires.of (sym c.in-Some.ensures.entry), c.bytes.ensures)
