use Rattle.std.proofs.Common.{◌∙◌, [], sym}
use Rattle.wiki_pages.specs.Pages.{setting_in}
use Rattle.wiki_pages.specs.Forests.{trees_in}
use Rattle.wiki_expand.specs.Standing.{work_of, work_from, doing_point}
use Rattle.wiki_expand.proofs.StandingLaws.{start_is}
use Rattle.wiki_expand.proofs.expander.Expander.start.Goals as goal

pub returns-clause-at : goal.returns-clause-at
returns-clause-at c =
    start_is (setting_in c.args.pages.now c.in_ok-page.page) (work_of c.args.pages.now c.args.source c.args.scene) (work_from (trees_in c.in_ok-trees.trees) c.in_ok-trees.template c.args.scene) _ (c.in_ok-trees.ensures c.args.scene)
    ((λ i. doing_point c.in_ok-doing.doing (setting_in c.args.pages.now c.in_ok-page.page) (c.new.ensures i) (c.in_ok-scene.ensures i))
    ∙ c.in_ok-doing.ensures.begins (setting_in c.args.pages.now c.in_ok-page.page) [] c.args.scene (sym c.as_slice.ensures))
