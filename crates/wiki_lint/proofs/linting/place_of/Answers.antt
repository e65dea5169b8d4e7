use Rattle.std.proofs.Common.{sym}
use Rattle.wiki_lint.proofs.LintLemmas.{found_at, passed_by}
use Rattle.wiki_lint.proofs.linting.place_of.Goals as goal

pub returns-then-eq : goal.returns-then-eq
returns-then-eq c = found_at c.args.modules.now c.loop-place.place c.args.title.now c.index-modules-place.result c.loop-place-test.true c.index-modules-place.is (sym c.if-eq.ensures) c.loop-place.invariant

pub loop-place-preserved : goal.loop-place-preserved
loop-place-preserved c = passed_by c.args.modules.now c.loop-place.place c.args.title.now c.index-modules-place.result c.loop-place-test.true c.index-modules-place.is (sym c.if-eq.ensures) c.loop-place.invariant
