use Rattle.std.proofs.Common.{chars, ap, ◌∙◌}
use Rattle.mw_ustring.proofs.Offsets.{rest_points}
use Rattle.mw_ustring.proofs.points.text_behind.Goals as goal

pub returns : goal.returns
returns c =
    ap chars c.range_from.ensures.value ∙ rest_points c.args.text.now c.args.count c.byte_offset.result c.utf8.text c.byte_offset.ensures.boundary c.byte_offset.ensures.value
