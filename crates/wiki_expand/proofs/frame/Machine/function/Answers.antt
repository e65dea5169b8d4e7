use Rattle.std.proofs.Common.{arith}
use Rattle.std.proofs.lemmas.Result.{IfOk-weaker}
use Rattle.wiki_markup.specs.WkBaseSpace.{trim}
use Rattle.mw_frame.specs.WkBaseDeclaredTitleNamespaceTheVariants.{Module}
use Rattle.expand_texts.specs.ExpandMeaningKind.{title_named}
use Rattle.expand_texts.specs.ExpandMeaningExpand.{module_titled}
use Rattle.wiki_pages.specs.Forests.{parts}
use Rattle.wiki_expand.specs.Points.{wiki_setting, scene_in, waiting}
use Rattle.wiki_expand.proofs.Moves.{stays}
use Rattle.wiki_expand.proofs.CallLaws.{function_starts}
use Rattle.wiki_expand.proofs.StepLaws.{step_from}
use Rattle.wiki_expand.proofs.frame.Machine.function.Goals as goal

pub returns : goal.returns
returns c =
    IfOk-weaker _ _ _ (λ r. step_from c.args.wiki.now _ _ c.args.left.now _ _ _ _ _ _ r _
    (stays (wiki_setting c.args.wiki.now) _ _ c.args.left.now (function_starts (wiki_setting c.args.wiki.now) (module_titled (wiki_setting c.args.wiki.now) (title_named c.args.name Module)) c.args.name (parts c.args.rest) (scene_in c.args.self.now.scene) (waiting c.args.wiki.now c.args.self.now) c.new.result c.in_ok-function.function (trim c.args.text) c.new.ensures c.in_ok-function.ensures))
    (omega arith) (omega arith)) c.arguments.ensures
