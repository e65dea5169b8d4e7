use Rattle.std.proofs.Common.{sym, subst, Err}
use Rattle.mw_text.specs.Split.{sought_by}
use Rattle.mw_ustrings.specs.LuaBasicSeen.{Paid}
use Rattle.mw_ustrings.proofs.LuaBasicFound.{for_nothing}
use Rattle.mw_ustrings.proofs.Costs.{exceeded}
use Rattle.mw_ustrings.specs.LuaMeaningTexts.{splits}
use Rattle.mw_texts.proofs.SplitAnswers.{split_found, split_spent, split_fault}
use Rattle.mw_texts.proofs.splitting.split_paid.Goals as goal

pub returns-in-Err-clause-answer : goal.returns-in-Err-clause-answer
returns-in-Err-clause-answer c =
    let s = c.args.store.now in
    for_nothing (splits s.heap c.args.s.now (sought_by c.args.plain c.args.pattern.now)) s c.refuse_pattern.new.store c.args.left.now (Err c.refuse_pattern.result)
    (split_fault c.args.s.now _ _ s c.refuse_pattern.new.store c.refuse_pattern.result c.in-Err.ensures c.refuse_pattern.ensures.stops)

pub returns-in-Ok-Spent-clause-answer : goal.returns-in-Ok-Spent-clause-answer
returns-in-Ok-Spent-clause-answer c =
    let given = rw c.in-Ok-Spent.field-0-is at c.in-Ok-Spent.ensures in
    exceeded _ c.args.store.now c.args.left.now c.spend.new.left c.spend.result (split_spent c.args.store.now.heap c.args.s.now (sought_by c.args.plain c.args.pattern.now) c.args.left.now.steps given) c.spend.ensures.stop_ c.spend.ensures.rest

pub returns-in-Ok-Parts-clause-answer : goal.returns-in-Ok-Parts-clause-answer
returns-in-Ok-Parts-clause-answer c =
    let s = c.args.store.now in
    let given = rw c.in-Ok-Parts.field-0-is at c.in-Ok-Parts.ensures in
    let answer = rw c.as_slice.ensures at c.give_parts.ensures.answer in
    subst (λ q. Paid q s c.args.left.now c.give_parts.new.store c.give_parts.new.left c.give_parts.result)
    (sym (split_found s.heap c.args.s.now (sought_by c.args.plain c.args.pattern.now) c.args.left.now.steps c.in-Ok-Parts.parts c.in-Ok-Parts.tries given)) answer
