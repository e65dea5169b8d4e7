use Rattle.std.proofs.Common.{ap, arith, length}
use Rattle.wiki_markup.proofs.Counts.{letters_length}
use Rattle.wiki_markup.proofs.pairing.markup.Goals as goal

pub returns-clause-few : goal.returns-clause-few
returns-clause-few c = omega (
  arith,
  c.in_ok-marked.ensures.few,
  ap length c.as_slice-4.ensures.value,
  ap length c.in_ok-letters.ensures,
  letters_length c.as_slice-2.result.now c.as_slice-3.result.now 0 c.as_slice.result.now,
  ap length c.as_slice.ensures,
)
