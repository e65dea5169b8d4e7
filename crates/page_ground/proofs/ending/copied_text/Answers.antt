use Rattle.std.proofs.Common.{◌∙◌}
use Rattle.page_ground.proofs.ending.copied_text.Goals as goal

pub bytes-requires : goal.bytes-requires
bytes-requires c = rw c.in-Some.is at c.requires

pub returns-in_ok-made-in-Some : goal.returns-in_ok-made-in-Some
returns-in_ok-made-in-Some c = rw c.in-Some.is (c.in_ok-made-in-Some.ensures ∙ c.bytes.ensures)

pub returns-in-None : goal.returns-in-None
returns-in-None c = rw c.in-None.is (c.of_vec.ensures ∙ c.new.ensures.items)
