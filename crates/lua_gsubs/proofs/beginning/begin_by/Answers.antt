use Rattle.std.proofs.Common.{refl, Some}
use Rattle.lua_replacing.specs.LuaMeaningGsub.{letters, replaced_answer, replaced_from, at_head}
use Rattle.lua_replacing.specs.Seen.{alphabet_in, anchored_in, items_in, slots_in}
use Rattle.lua_gsubs.proofs.GivenArguments.{answers_error}
use Rattle.lua_gsubs.proofs.beginning.begin_by.Goals as goal

pub returns-in-Ok-clause-begun : goal.returns-in-Ok-clause-begun
returns-in-Ok-clause-begun c =
    let answer = rw (c.as_slice-replacement.ensures, c.in-Ok.is) at c.answer_by_text.ensures.answer in
    rw c.in-Text.is answer
