use Rattle.std.proofs.Common.{◌≡◌, ap, sym, subst, MatchResult}
use Rattle.lua_pattern.specs.Read.{Next, Goes, with_item, single_item}
use Rattle.lua_pattern.specs.Reads.{IsFault}
use Rattle.lua_pattern.proofs.read.read_item.Goals as goal

pub returns-then-symbol-eq37-clause-step : goal.returns-then-symbol-eq37-clause-step
returns-then-symbol-eq37-clause-step c = λ r same.
    let P : Next → Type 0 = λ n. MatchResult c.read_escape.result (λ p. n ≡ Goes p.1.now (with_item p.0 r)) (λ e. IsFault n e) in
    subst P (sym (ap (λ b. single_item b c.args.rest.now r) c.if-symbol-eq37.true)) (c.read_escape.ensures.step r same)

pub returns-then-symbol-eq91-clause-step : goal.returns-then-symbol-eq91-clause-step
returns-then-symbol-eq91-clause-step c = λ r same.
    let P : Next → Type 0 = λ n. MatchResult c.read_set_item.result (λ p. n ≡ Goes p.1.now (with_item p.0 r)) (λ e. IsFault n e) in
    subst P (sym (ap (λ b. single_item b c.args.rest.now r) c.if-symbol-eq91.true)) (c.read_set_item.ensures.step r)
