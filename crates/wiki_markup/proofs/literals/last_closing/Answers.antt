use Rattle.std.proofs.Common.{arith, length, refl}
use Rattle.wiki_markup.specs.Shown.{closing, behind}
use Rattle.wiki_markup.proofs.PlaceLaws.{next_end, closing_back}
use Rattle.wiki_markup.proofs.literals.last_closing.Goals as goal

pub loop-limit-init : goal.loop-limit-init
unfolding closing behind
loop-limit-init c = record {
  inside = omega arith;
  none = next_end (closing c.args.name) c.args.text.now (length c.args.text.now) (omega arith) refl;
}

pub loop-limit-preserved : goal.loop-limit-preserved
loop-limit-preserved c = record {
  inside = omega arith;
  none = closing_back (closing c.args.name) c.loop-limit.limit c.args.text.now (omega arith) c.loop-limit.invariant.inside c.in_default.ensures.same c.loop-limit.invariant.none;
}
