use Rattle.std.proofs.Common.{◌≡◌, ◌∙◌, sym, arith, rules}
use Rattle.lua_calls.proofs.Heard.{none, single, several}
use Rattle.lua_calls.proofs.waiting.list_answer.Goals as goal

pub returns-then-count-eq0 : goal.returns-then-count-eq0
returns-then-count-eq0 c =
    let zero_ : c.len-count.result ≡ 0 = search (arith, rules) in
    sym (none c.args.values.now (sym c.len-count.ensures ∙ zero_))

pub returns-then-count-eq1 : goal.returns-then-count-eq1
returns-then-count-eq1 c =
    let one_ : c.len-count.result ≡ 1 = search (arith, rules) in
    c.one_answer.ensures ∙ single c.args.values.now c.first.result (sym c.len-count.ensures ∙ one_) c.first.ensures

pub returns : goal.returns
returns c = sym (several c.args.values.now (λ e. c.if-count-eq0.false (c.len-count.ensures ∙ e)) (λ e. c.if-count-eq1.false (c.len-count.ensures ∙ e)))
