use Rattle.std.proofs.Common.{length, w64}
use Rattle.std.proofs.lemmas.Int.{to_z-of_z}
use Rattle.lua_strings.proofs.Taken.{charged}
use Rattle.lua_strings.proofs.searching.searched.Goals as goal

pub returns-clause-answer : goal.returns-clause-answer
returns-clause-answer c =
    let answer = rw (to_z-of_z w64 c.args.init c.ranges.init) at c.answered.ensures.answer in
    charged (length c.args.pattern.now) _ c.args.store.now c.args.left.now c.take.new.left c.answered.new.left c.answered.new.store c.answered.result c.in_ok-take.ensures answer
