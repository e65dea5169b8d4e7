use Rattle.std.proofs.Common.{◌≡◌, ◌-◌, false, drop, sym, ◌∙◌}
use Rattle.lua_pattern.specs.Letters.{Symbol}
use Rattle.lua_pattern.specs.Single.{fits}
use Rattle.lua_pattern.specs.Way.{run}
use Rattle.lua_pattern.proofs.Places.{most_at, run_out, run_stops}
use Rattle.lua_pattern.proofs.steps.count_run.Goals as goal

pub returns-in_default-clause-places : goal.returns-in_default-clause-places
returns-in_default-clause-places g c = λ rest marks.
    let a = g.A.Alphabet.letters in
    most_at a g.met.A.Alphabet.lawful c.args.single.now c.args.subject.now rest c.args.at (c.symbols.place - c.args.at) marks
    (run_out a c.args.single.now (c.symbols.place - c.args.at) (run a c.args.single.now (a.symbols (drop c.args.at c.args.subject.now)))
    (a.symbols (drop c.symbols.place c.args.subject.now)) c.symbols.invariant.ran c.in_default.ensures.symbols)

pub returns-then-not-fit-clause-places : goal.returns-then-not-fit-clause-places
returns-then-not-fit-clause-places g c = λ rest marks.
    let a = g.A.Alphabet.letters in
    let symbol : Symbol = record { code = c.in-Some.symbol; size = c.in-Some.size } in
    let misfit : fits a c.args.single.now symbol.code ≡ false = sym c.fit.ensures ∙ c.if-not-fit.true in
    most_at a g.met.A.Alphabet.lawful c.args.single.now c.args.subject.now rest c.args.at (c.symbols.place - c.args.at) marks
    (run_stops a c.args.single.now (c.symbols.place - c.args.at) (run a c.args.single.now (a.symbols (drop c.args.at c.args.subject.now)))
    symbol (a.symbols (drop c.symbols.place c.args.subject.now)) _ c.symbols.invariant.ran c.in-Some.ensures.symbols misfit)
