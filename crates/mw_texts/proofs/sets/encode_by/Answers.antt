use Rattle.std.proofs.Common.{Err}
use Rattle.std.specs.Option.{option_map}
use Rattle.mw_text.specs.Sets.{chosen_set}
use Rattle.mw_ustrings.proofs.LuaBasicFound.{for_nothing}
use Rattle.mw_ustrings.specs.LuaMeaningTexts.{by_set, encodes}
use Rattle.mw_texts.proofs.SetAnswers.{encode_answered, set_fault}
use Rattle.mw_texts.proofs.sets.encode_by.Goals as goal

pub returns-in-Err-clause-answer : goal.returns-in-Err-clause-answer
returns-in-Err-clause-answer c =
    let s = c.args.store.now in
    for_nothing (by_set s.heap (encodes s.heap c.args.s.now) (chosen_set (option_map (λ bytes. bytes.now) c.args.set))) s c.refuse_pattern.new.store c.args.left.now (Err c.refuse_pattern.result)
    (set_fault (encodes s.heap c.args.s.now) _ _ s c.refuse_pattern.new.store c.refuse_pattern.result c.in-Err.ensures c.refuse_pattern.ensures.stops)

pub returns-in-Ok-clause-answer : goal.returns-in-Ok-clause-answer
returns-in-Ok-clause-answer c =
    let s = c.args.store.now in
    encode_answered s.heap s c.args.left.now c.give_answer.new.store c.give_answer.new.left c.give_answer.result c.args.left.now.steps c.args.s.now c.in-Ok.answer c.give_answer.ensures.answer _ c.in-Ok.ensures
