use Rattle.std.proofs.Common.{◌≡◌, sym, subst, MatchResult}
use Rattle.lua_pattern.specs.Read.{Next, Goes, with_item}
use Rattle.lua_pattern.specs.Reads.{IsFault}
use Rattle.lua_pattern.proofs.Sets.{escape_frontier}
use Rattle.lua_pattern.proofs.read.read_escape.Goals as goal

pub returns-then-symbol-eq102-clause-step : goal.returns-then-symbol-eq102-clause-step
returns-then-symbol-eq102-clause-step c = λ r same.
    let P : Next → Type 0 = λ n. MatchResult c.read_frontier.result (λ p. n ≡ Goes p.1.now (with_item p.0 r)) (λ e. IsFault n e) in
    subst P (sym (escape_frontier c.args.text.now c.in-Some.rest.now c.in-Some.symbol r c.in-Some.ensures c.if-symbol-eq102.true)) (c.read_frontier.ensures.step r)
