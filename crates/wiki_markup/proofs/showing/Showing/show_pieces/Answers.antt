use Rattle.std.proofs.Common.{arith}
use Rattle.wiki_markup.proofs.ScanLaws.{show_more, show_done}
use Rattle.wiki_markup.proofs.showing.Showing.show_pieces.Goals as goal

pub loop-at-preserved : goal.loop-at-preserved
loop-at-preserved c = record {
  inside = omega (arith, c.in_ok-at.ensures.place);
  same = rw c.in_ok-at.ensures.place (show_more c.args.mode c.args.part c.loop-at.line c.args.text.now c.loop-at.at c.at_place-taken.result _ c.loop-at.self c.put.new.self
      c.loop-at-test.true c.at_place-taken.ensures.ahead c.at_place-taken.ensures.inside c.at_place-taken.ensures.same c.in_ok-at.ensures.put c.loop-at.invariant.same);
}

pub returns : goal.returns
returns c = show_done c.args.mode c.args.part c.loop-at.line c.args.text.now c.loop-at.at _ c.loop-at.self c.loop-at-test.false c.loop-at.invariant.same
