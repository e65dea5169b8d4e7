use Rattle.std.proofs.Common.{◌∙◌, ap, sym}
use Rattle.mw_frame.specs.declared.scene.Arg.{Arg}
use Rattle.expand_texts.specs.ExpandMeaningExpand.{put}
use Rattle.page_ground.proofs.NameLaws.{put_new, unfound}
use Rattle.page_ground.proofs.scenes.add_named.Goals as goal

pub returns-clause-fresh : goal.returns-clause-fresh
returns-clause-fresh c = unfound _ _ c.find.ensures (sym c.is_some-taken.ensures ∙ c.if-taken.false)

pub returns-clause-added : goal.returns-clause-added
returns-clause-added c =
    c.in_ok-put.ensures ∙ ap (λ (a : Arg). put a.name a.value c.args.names.now) c.in_ok-arg.ensures ∙ put_new _ _ _ (unfound _ _ c.find.ensures (sym c.is_some-taken.ensures ∙ c.if-taken.false))
