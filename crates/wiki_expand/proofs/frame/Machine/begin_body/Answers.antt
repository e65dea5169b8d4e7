use Rattle.std.proofs.Common.{◌∷◌, ◌∙◌, sym}
use Rattle.wiki_pages.specs.Forests.{trees_in}
use Rattle.wiki_expand.specs.Points.{wiki_setting, scene_in, waiting}
use Rattle.wiki_expand.specs.declared.frame.Frame.TheVariants.{Body}
use Rattle.wiki_expand.proofs.CallLaws.{body_depth, body_begins}
use Rattle.wiki_expand.proofs.frame.Machine.begin_body.Goals as goal

pub returns-then-not-enter_body-clause-leads : goal.returns-then-not-enter_body-clause-leads
returns-then-not-enter_body-clause-leads c =
    body_depth (wiki_setting c.args.wiki.now) (trees_in c.args.trees) c.args.title c.args.args (scene_in c.args.self.now.scene) (waiting c.args.wiki.now c.args.self.now) c.args.left.now c.enter_body.new.left _ (sym c.contains.ensures ∙ c.if-contains.false) c.if-not-enter_body.ensures.none c.if-not-enter_body.ensures.same (c.in_ok-text-2.ensures ∙ c.depth_text.ensures)

pub returns-clause-leads : goal.returns-clause-leads
returns-clause-leads c =
    body_begins (wiki_setting c.args.wiki.now) (trees_in c.args.trees) c.args.title c.args.args (scene_in c.args.self.now.scene) (record { title = c.replace-caller.new.dest; args = c.replace-given.new.dest; chain = c.chained.new.chain }) c.args.self.now.stack c.push.new.self c.args.left.now c.enter_body.new.left c.walk.result
    (sym c.contains.ensures ∙ c.if-contains.false) c.if-not-enter_body.ensures.enough c.if-not-enter_body.ensures.entered c.walk.ensures.starts
    (λ i. record { title = c.replace-caller.ensures.after i; args = c.replace-given.ensures.after i; chain = c.in_ok-chained.ensures i })
    (c.in_ok-push.ensures ∙ (λ i. Body (c.replace-caller.ensures.value i) (c.replace-given.ensures.value i) ∷ c.args.self.now.stack))
