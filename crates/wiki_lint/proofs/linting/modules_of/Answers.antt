use Rattle.lua_lint.specs.Reading.{modules_seen}
use Rattle.wiki_lint.proofs.LintLemmas.{one_read, all_read}
use Rattle.wiki_lint.proofs.linting.modules_of.Goals as goal

pub loop-page-preserved : goal.loop-page-preserved
loop-page-preserved c =
    one_read c.args.pages.now c.args.pages.now c.loop-page.page-index c.page-item.result c.loop-page.modules c.add_module.new.modules c.page-item.is c.loop-page-test.true c.in_ok-add_module.ensures c.loop-page.invariant

pub returns : goal.returns
returns c = all_read c.args.pages.now c.args.pages.now c.loop-page.page-index (modules_seen c.loop-page.modules) c.loop-page-test.false c.loop-page.invariant
