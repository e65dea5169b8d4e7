use Rattle.std.proofs.Common.{◌≡◌, rules, Some}
use Rattle.lua_replacing.specs.LuaMeaningGsub.{replaced_from, at_head}
use Rattle.lua_gsubs.proofs.Ends.{made_covers, halted_pays}
use Rattle.lua_gsubs.proofs.answering.answer_over.Goals as goal

pub returns-in-Err-clause-answer : goal.returns-in-Err-clause-answer
returns-in-Err-clause-answer g c =
    let p = c.args.pattern.now in
    halted_pays (replaced_from g.A.Alphabet.letters p.anchored p.items p.slots c.args.s.now c.args.replacement.now c.args.limit 0 (Some at_head)) c.args.store.now c.halted.new.store c.args.left.now c.replace_all.new.left c.in-Err.halt c.halted.result c.in-Err.ensures c.halted.ensures.stops

pub returns-in_ok-values-in-Ok-clause-answer : goal.returns-in_ok-values-in-Ok-clause-answer
returns-in_ok-values-in-Ok-clause-answer g c =
    let p = c.args.pattern.now in
    let text : c.as_slice.result.now ≡ c.in-Ok.far.text.items = search rules in
    let values = rw text at c.in_ok-values-in-Ok.ensures.values in
    made_covers (replaced_from g.A.Alphabet.letters p.anchored p.items p.slots c.args.s.now c.args.replacement.now c.args.limit 0 (Some at_head)) c.args.store.now c.made_values.new.store c.args.left.now c.replace_all.new.left c.in-Ok.far c.in_ok-values-in-Ok.values c.in-Ok.ensures c.made_values.ensures.heap values
