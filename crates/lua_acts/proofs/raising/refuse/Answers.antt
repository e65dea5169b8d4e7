use Rattle.std.proofs.Common.{◌≡◌, rules, w64, to_z, of_z}
use Rattle.lua_acts.proofs.raising.refuse.Goals as goal

pub returns-in-Raised : goal.returns-in-Raised
returns-in-Raised c =
    let whole : to_z w64 (of_z w64 c.in-Raised.level) ≡ c.in-Raised.level = search rules in
    rw c.in-Raised.is (rw whole at c.raise_at.ensures)
