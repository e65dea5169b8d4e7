use Rattle.std.proofs.Common.{◌≡◌, true, ◌↔◌, sym, ap, subst}
use Rattle.lua_code.specs.Seen.{block_seen, proto_seen}
use Rattle.lua_cells.specs.Cells.{HasNoIdleCell}
use Rattle.lua_cells.proofs.FunctionLaws.{of_function}
use Rattle.lua_cells.proofs.functions.has_no_idle_cell.Goals as goal

pub returns : goal.returns
returns c = subst (λ b. (b ≡ true) ↔ HasNoIdleCell (proto_seen c.args.proto.now)) (sym c.is_needed.ensures) (of_function (proto_seen c.args.proto.now) _ _ _ _ c.as_slice.ensures (ap block_seen c.as_slice-2.ensures) c.new-registers.ensures c.in_ok-inner.ensures)
