use Rattle.std.proofs.Common.{◌+◌, ◌*◌}
use Rattle.lua_strides.proofs.reading.+reading.Given as goal

abbrev pub decreases-read : goal.decreases-read
decreases-read l = 3 * l.levels + 2

abbrev pub decreases-read_two : goal.decreases-read_two
decreases-read_two l = 3 * l.levels + 1

abbrev pub decreases-read_one : goal.decreases-read_one
decreases-read_one l = 3 * l.levels
