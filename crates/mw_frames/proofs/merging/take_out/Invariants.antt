use Rattle.std.proofs.Common.{◌≡◌, ◌++◌, length, reverse}
use Rattle.mw_frames.specs.Merging.{args_in}
use Rattle.mw_frames.proofs.merging.take_out.Given as goal

-- those that are in the map, and those that were taken out, the last first
abbrev pub invariant-entries : goal.invariant-entries
invariant-entries l = args_in l.map.entries ++ reverse l.args.items ≡ args_in l.initial.map.entries

abbrev pub decreases-entries : goal.decreases-entries
decreases-entries l = length l.map.entries
