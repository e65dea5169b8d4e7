use Rattle.std.proofs.Common.{length, ◌-◌}
use Rattle.mw_text.specs.Split.{sought_of, part_from, parts_of}
use Rattle.mw_text.proofs.Parts.{Splits}
use Rattle.mw_text.proofs.splitting.Separator.parts.Given as goal

abbrev pub invariant-parts : goal.invariant-parts
invariant-parts l = Splits (part_from (sought_of l.fn.self) l.fn.s) l.fn.s (parts_of (sought_of l.fn.self) l.fn.s) l.fn.budget l.left l.tries l.from l.made

abbrev pub decreases-parts : goal.decreases-parts
decreases-parts l = length l.fn.s - l.from
