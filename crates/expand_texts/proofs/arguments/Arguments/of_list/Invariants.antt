use Rattle.std.proofs.Common.{◌≡◌, take}
use Rattle.expand_texts.proofs.arguments.Arguments.of_list.Given as goal

abbrev pub invariant-loop-arg : goal.invariant-loop-arg
invariant-loop-arg l = l.args ≡ take l.arg-index l.list
