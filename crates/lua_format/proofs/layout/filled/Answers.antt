use Rattle.std.proofs.Common.{arith, sym, ◌∙◌}
use Rattle.lua_format.specs.Pieces.{prefix_bytes, source_bytes, fraction_bytes, content_body}
use Rattle.lua_format.proofs.Fills.{room_is, filled_left, filled_zeros, filled_right}
use Rattle.lua_format.proofs.layout.filled.Goals as goal

pub returns-then-flags : goal.returns-then-flags
returns-then-flags c =
    filled_left c.args.flags c.args.width c.shortage-room.result c.args.zeros (prefix_bytes c.args.content.prefix) (content_body c.args.content) c.if-flags.true
    (c.shortage-room.ensures ∙ room_is c.args.width c.len.result _ (omega (arith, c.ranges.width.fits)) c.len.ensures)

pub returns-then-takes_noughts : goal.returns-then-takes_noughts
returns-then-takes_noughts c =
    filled_zeros c.args.flags c.args.width c.shortage-room.result c.args.content.zeros c.args.zeros (prefix_bytes c.args.content.prefix) (source_bytes c.args.content.source) (fraction_bytes c.args.content) c.if-flags.false
    (sym c.if-takes_noughts.ensures) (c.shortage-room.ensures ∙ room_is c.args.width c.len.result _ (omega (arith, c.ranges.width.fits)) c.len.ensures)

pub returns : goal.returns
returns c =
    filled_right c.args.flags c.args.width c.shortage-room.result c.args.zeros (prefix_bytes c.args.content.prefix) (content_body c.args.content) c.if-flags.false
    (sym c.if-takes_noughts.ensures) (c.shortage-room.ensures ∙ room_is c.args.width c.len.result _ (omega (arith, c.ranges.width.fits)) c.len.ensures)
