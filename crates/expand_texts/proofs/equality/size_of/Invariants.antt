use Rattle.std.proofs.Common.{◌≡◌, ◌<◌, ◌^◌, drop}
use Rattle.expand_meaning.specs.Texts.{size_after}
use Rattle.expand_texts.proofs.equality.size_of.Given as goal

abbrev pub invariant-loop-digit : goal.invariant-loop-digit
invariant-loop-digit l = record {
  value : size_after l.size (drop l.digit-index l.digits) ≡ size_after 0 l.digits;
  small : l.size < 10 ^ l.digit-index;
}
