use Rattle.std.proofs.Common.{◌≡◌, ◌∙◌, ◌∷◌, ◌++◌, [], take, get_or, ap, sym, subst}
use Rattle.std.proofs.lemmas.List.{take_more}
use Rattle.mw_frame.specs.declared.scene.Arg.{Arg}
use Rattle.mw_frame.specs.Scenes.{NamesDiffer}
use Rattle.page_ground.proofs.NameLaws.{differ_behind}
use Rattle.page_ground.proofs.scenes.check_names.Goals as goal

pub loop-arg-preserved : goal.loop-arg-preserved
loop-arg-preserved c =
    let item : c.arg-item.result ≡ get_or c.args.args.now c.loop-arg.arg-index c.arg-item.result = c.arg-item.is in (
      c.in_ok-add_named.ensures.added ∙ ap (λ xs. xs ++ c.arg-item.result ∷ []) c.loop-arg.invariant.0
          ∙ ap (λ (a : Arg). take c.loop-arg.arg-index c.args.args.now ++ a ∷ []) item
          ∙ sym (take_more c.args.args.now c.loop-arg.arg-index c.arg-item.result c.loop-arg-test.true),
      subst NamesDiffer (sym c.in_ok-add_named.ensures.added) (differ_behind c.loop-arg.names c.arg-item.result c.in_ok-add_named.ensures.fresh c.loop-arg.invariant.1),
    )
