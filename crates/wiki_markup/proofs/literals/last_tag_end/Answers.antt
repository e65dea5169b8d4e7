use Rattle.std.proofs.Common.{arith, false, length}
use Rattle.wiki_markup.proofs.PlaceLaws.{attributes_all, attributes_back}
use Rattle.wiki_markup.proofs.literals.last_tag_end.Goals as goal

pub loop-limit-init : goal.loop-limit-init
loop-limit-init c = record {
  inside = omega arith;
  none = attributes_all false c.args.text.now (length c.args.text.now) (omega arith);
}

pub loop-limit-preserved : goal.loop-limit-preserved
loop-limit-preserved c = record {
  inside = omega arith;
  none = attributes_back c.loop-limit.limit c.args.text.now (omega arith) c.loop-limit.invariant.inside c.if-text-limit-eq62.false c.loop-limit.invariant.none;
}
