use Rattle.std.proofs.Common.{◌≡◌, ◌-◌, take, chars, ap, ◌∙◌, arith}
use Rattle.mw_ustring.proofs.Offsets.{front_points}
use Rattle.mw_ustring.proofs.points.text_before.Goals as goal

pub returns : goal.returns
returns c =
    let whole : c.byte_offset.result - 0 ≡ c.byte_offset.result = omega arith in
    ap chars (c.range.ensures.value ∙ ap (λ k. take k c.args.text.now) whole)
    ∙ front_points c.args.text.now c.args.count c.byte_offset.result c.utf8.text c.byte_offset.ensures.boundary c.byte_offset.ensures.value
