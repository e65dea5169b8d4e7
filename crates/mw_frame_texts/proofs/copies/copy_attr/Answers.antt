use Rattle.std.proofs.Common.{◌∙◌}
use Rattle.mw_frame_texts.proofs.Same.{attribute_same}
use Rattle.mw_frame_texts.proofs.copies.copy_attr.Goals as goal

pub returns-in_ok-copy-in-Some : goal.returns-in_ok-copy-in-Some
returns-in_ok-copy-in-Some c =
    attribute_same c.in_ok-name.name c.in_ok-copy-in-Some.copy c.args.attr.now c.in-Some.value (c.in_ok-name.ensures ∙ c.as_slice.ensures) (c.in_ok-copy-in-Some.ensures ∙ c.as_slice-in-Some.ensures) c.in-Some.is
