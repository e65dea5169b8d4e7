use Rattle.std.proofs.Common.{◌≡◌, take}
use Rattle.expand_texts.specs.Entries.{args_in}
use Rattle.expand_texts.proofs.arguments.copied.Given as goal

abbrev pub invariant-loop-at : goal.invariant-loop-at
invariant-loop-at l = l.args ≡ take l.at (args_in l.map.entries)
