use Rattle.std.proofs.Common.{subst, w64}
use Rattle.std.proofs.lemmas.Int.{to_z-of_z}
use Rattle.mw_text.proofs.MwUstringOffsets.{spelled}
use Rattle.mw_frame_texts.specs.LuaMeaningArguments.{gives_text}
use Rattle.mw_frame_texts.specs.LuaBasicSeen.{Paid}
use Rattle.mw_ustrings.proofs.parts.give_part.Goals as goal

pub returns-clause-answer : goal.returns-clause-answer
returns-clause-answer c =
    let points = rw (to_z-of_z w64 c.args.from c.ranges.from, to_z-of_z w64 c.args.to c.ranges.to) at c.part.ensures.points in
    subst (λ x. Paid (gives_text c.args.store.now.heap x) c.args.store.now c.args.left.now c.give_text.new.store c.give_text.new.left c.give_text.result) (spelled _ _ c.part.ensures.text points) c.give_text.ensures.answer
