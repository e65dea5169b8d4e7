use Rattle.std.proofs.Common.{subst, w64}
use Rattle.std.proofs.lemmas.Int.{to_z-of_z}
use Rattle.mw_text.proofs.MwUstringOffsets.{spelled}
use Rattle.lua_strings.specs.LuaBasicSeen.{Paid}
use Rattle.lua_strings.specs.LuaMeaningIterators.{make_gcodepoint}
use Rattle.lua_iterators.proofs.makers.make_points.Goals as goal

pub returns-clause-answer : goal.returns-clause-answer
returns-clause-answer c =
    let points = rw (to_z-of_z w64 c.args.from c.ranges.from, to_z-of_z w64 c.args.to c.ranges.to) at c.part.ensures.points in
    subst (λ x. Paid (make_gcodepoint x c.args.store.now.heap) c.args.store.now c.args.left.now c.make_gcodepoint.new.store c.make_gcodepoint.new.left c.make_gcodepoint.result) (spelled _ _ c.part.ensures.text points) c.make_gcodepoint.ensures.answer
