use Rattle.std.proofs.Common.{◌∙◌, sym}
use Rattle.lua_calls.proofs.plain.give_list.Goals as goal

pub give-requires-clause-value : goal.give-requires-clause-value
give-requires-clause-value c =
    let one = sym c.as_slice.ensures ∙ rw c.in-Some.is at c.single_of.ensures in
    (rw one at c.requires.values).0

pub returns-in-Some : goal.returns-in-Some
returns-in-Some c =
    let one = sym c.as_slice.ensures ∙ rw c.in-Some.is at c.single_of.ensures in
    λ l. rw one (c.give.ensures l)

pub returns : goal.returns
returns c = λ l. rw (← c.of_list.ensures) (c.give_all.ensures l)
