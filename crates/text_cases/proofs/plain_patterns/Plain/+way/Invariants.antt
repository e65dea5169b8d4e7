use Rattle.std.proofs.Common.{◌+◌, ◌*◌, length}
use Rattle.text_cases.proofs.plain_patterns.Plain.+way.Given as goal

abbrev pub decreases-down : goal.decreases-down
decreases-down l = 2 * length l.rest.now + 1

abbrev pub decreases-up : goal.decreases-up
decreases-up l = 2 * length l.rest.now + 1

abbrev pub decreases-way : goal.decreases-way
decreases-way l = 2 * length l.items.now

abbrev pub decreases-way_of : goal.decreases-way_of
decreases-way_of l = 2 * length l.rest.now + 1
