use Rattle.std.proofs.Common.{◌∙◌, ap, arith, Err}
use Rattle.std.proofs.lemmas.Result.{err_from_is_err_and}
use Rattle.lua_strings.proofs.LuaStoreLater.{later-then, of-later, seen-later}
use Rattle.mw_ustrings.proofs.MwFrameTextsCharged.{lacked}
use Rattle.lua_iterators.proofs.Made.{iterator_covers, still_text}
use Rattle.lua_iterators.proofs.making.make_by_pattern.Goals as goal

-- the stores after the first text and after the second
pub as_value-requires-2-clause-of : goal.as_value-requires-2-clause-of
as_value-requires-2-clause-of c = of-later c.args.store.now c.as_value.new.store c.as_value.ensures.later c.args.pattern c.requires.pattern

pub as_value-requires-2-clause-text : goal.as_value-requires-2-clause-text
as_value-requires-2-clause-text c = still_text c.args.store.now c.as_value.new.store c.args.pattern c.args.p.now c.as_value.ensures.later c.requires.pattern c.requires.p

pub give_iterator-requires-clause-subject : goal.give_iterator-requires-clause-subject
give_iterator-requires-clause-subject c = of-later c.as_value.new.store c.as_value-2.new.store c.as_value-2.ensures.later c.in_ok-subject.subject c.in_ok-subject.ensures.of

pub give_iterator-requires-clause-other : goal.give_iterator-requires-clause-other
give_iterator-requires-clause-other c =
    of-later c.args.store.now c.as_value-2.new.store (later-then c.args.store.now c.as_value.new.store c.as_value-2.new.store c.as_value.ensures.later c.as_value-2.ensures.later) c.args.other c.requires.other

pub returns-in_err-pay-clause-answer : goal.returns-in_err-pay-clause-answer
returns-in_err-pay-clause-answer c =
    let p = err_from_is_err_and c.from_residual.result c.from_residual.ensures.1 in
    lacked 8 _ c.args.store.now c.args.left.now c.pay.new.left c.in_err-pay.field-0.0 c.from_residual.result c.in_err-pay.ensures (omega arith) (p.1 ∙ ap Err p.2)

pub returns-in_err-pattern-clause-later : goal.returns-in_err-pattern-clause-later
returns-in_err-pattern-clause-later c = later-then c.args.store.now c.as_value.new.store c.as_value-2.new.store c.as_value.ensures.later c.as_value-2.ensures.later

pub returns-in_err-values-clause-later : goal.returns-in_err-values-clause-later
returns-in_err-values-clause-later c =
    later-then c.args.store.now c.as_value-2.new.store c.give_iterator.new.store (later-then c.args.store.now c.as_value.new.store c.as_value-2.new.store c.as_value.ensures.later c.as_value-2.ensures.later) c.give_iterator.ensures.later

pub returns-clause-answer : goal.returns-clause-answer
returns-clause-answer c =
    let s = c.args.store.now in
    let t = c.as_value.new.store in
    let u = c.as_value-2.new.store in
    let both = later-then s t u c.as_value.ensures.later c.as_value-2.ensures.later in
    let subject = seen-later t u c.as_value-2.ensures.later c.in_ok-subject.subject c.in_ok-subject.ensures.of ∙ c.in_ok-subject.ensures.value in
    let other = seen-later s u both c.args.other c.requires.other in
    let same = c.as_value-2.ensures.heap ∙ c.as_value.ensures.heap in
    let end = rw same at c.in_ok-values.ensures.end in
    let heap = rw (subject, c.in_ok-pattern.ensures.value, other, same) at c.in_ok-values.ensures.heap in
    iterator_covers _ c.give_iterator.new.store c.args.left.now c.pay.new.left c.in_ok-values.values c.in_ok-pay.ensures heap end

pub returns-clause-later : goal.returns-clause-later
returns-clause-later c =
    later-then c.args.store.now c.as_value-2.new.store c.give_iterator.new.store (later-then c.args.store.now c.as_value.new.store c.as_value-2.new.store c.as_value.ensures.later c.as_value-2.ensures.later) c.give_iterator.ensures.later
