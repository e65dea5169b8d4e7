use Rattle.std.proofs.Common.{w64}
use Rattle.std.proofs.lemmas.Int.{to_z-of_z}
use Rattle.lua_strings.proofs.searching.find_in.Goals as goal

pub returns-clause-answer : goal.returns-clause-answer
returns-clause-answer c =
    let answer = rw (to_z-of_z w64 c.args.init c.ranges.init) at c.searched.ensures.answer in
    rw c.if-plain.false answer
