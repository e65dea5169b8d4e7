use Rattle.std.proofs.Common.{◌∙◌, ◌++◌, ◌∷◌, [], ap, sym}
use Rattle.expand_texts.specs.Entries.{args_in}
use Rattle.expand_texts.proofs.ArgumentLaws.{take_get}
use Rattle.expand_texts.proofs.arguments.copied.Goals as goal

pub loop-at-preserved : goal.loop-at-preserved
loop-at-preserved c =
    c.in_ok-push.ensures.ok ∙ ap (λ xs. xs ++ c.in_ok-arg.arg ∷ []) c.loop-at.invariant
    ∙ sym (take_get (args_in c.args.map.now.entries) c.loop-at.at c.in_ok-arg.arg c.in_ok-arg.ensures)
