use Rattle.std.proofs.Common.{rules, arith, ℕ, ◌≡◌, length}
use Rattle.lua_format.specs.Format.{formatted}
use Rattle.lua_format.specs.Pieces.{piece_bytes}
use Rattle.lua_format.proofs.Formats.{length_done, length_more}
use Rattle.lua_format.proofs.formatting.format_length.Goals as goal

pub pieces-preserved : goal.pieces-preserved
pieces-preserved c = (
  length_more c.args.values.now c.pieces.len c.len.result c.saturating_add-len.result c.pieces.rest.now c.in-Ok.next.rest.now (piece_bytes c.in-Ok.next.piece) c.pieces.at c.in-Ok.next.at
      (formatted c.args.values.now c.args.spec.now 0) c.saturating_add-len.ensures c.len.ensures c.in-Ok.ensures.step c.pieces.invariant.0,
  omega (arith, c.in-Ok.ensures.shorter.1, c.pieces.invariant.1),
)

pub returns : goal.returns
returns c =
    let none : length c.pieces.rest.now ≡ 0 = search rules in
    length_done c.args.values.now c.pieces.len c.pieces.rest.now c.pieces.at (formatted c.args.values.now c.args.spec.now 0) none c.pieces.invariant.0
