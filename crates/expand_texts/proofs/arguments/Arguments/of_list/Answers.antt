use Rattle.std.proofs.Common.{◌≡◌, ◌∙◌, ◌∷◌, [], take, get_or, ap, sym}
use Rattle.std.proofs.lemmas.List.{take_more}
use Rattle.mw_frame.specs.declared.scene.Arg.{Arg}
use Rattle.expand_meaning.specs.Expand.{put}
use Rattle.expand_texts.proofs.ArgumentLaws.{put_next}
use Rattle.expand_texts.proofs.arguments.Arguments.of_list.Goals as goal

pub loop-arg-preserved : goal.loop-arg-preserved
loop-arg-preserved c =
    let item : c.in_ok-name.field-0 ≡ c.arg-item.result = c.in_ok-name.ensures in
    let at : c.arg-item.result ≡ get_or c.args.list.now c.loop-arg.arg-index c.arg-item.result = c.arg-item.is in
    c.in_ok-put.ensures
    ∙ ap (put c.in_ok-name.field-0.name c.in_ok-name.field-0.value) c.loop-arg.invariant
    ∙ ap (λ (a : Arg). put a.name a.value (take c.loop-arg.arg-index c.args.list.now)) (item ∙ at)
    ∙ put_next c.args.list.now c.loop-arg.arg-index c.arg-item.result c.loop-arg-test.true c.requires
    ∙ sym (take_more c.args.list.now c.loop-arg.arg-index c.arg-item.result c.loop-arg-test.true)
