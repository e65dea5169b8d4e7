use Rattle.std.proofs.Common.{refl, arith}
use Rattle.wiki_pages.specs.Forests.{nodes_in}
use Rattle.wiki_pages.proofs.TableLaws.{parts_are}
use Rattle.wiki_pages.proofs.passing.land.Goals as goal

pub returns : goal.returns
returns c = record {
  rest = parts_are c.in_ok-rest.rest (nodes_in c.args.run.now.nodes) c.args.run.now.end c.args.landing.stop.at c.in_ok-rest.ensures.nodes c.in_ok-rest.ensures.end c.in_ok-rest.ensures.at;
  left = omega (arith, c.in_ok-rest.ensures.end, c.in_ok-rest.ensures.at);
  met = refl;
  waits = refl;
  default = c.in_ok-default.ensures.trees;
  light = c.in_ok-default.ensures.size;
}
