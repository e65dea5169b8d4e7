use Rattle.std.proofs.Common.{◌∙◌, ap}
use Rattle.lua_code.specs.LuaSlotsSlots.{slot_cell}
use Rattle.lua_stack.proofs.PlaceLemmas.{slot_at, slot_seen_at}
use Rattle.lua_stack.proofs.register.cell_at.Goals as goal

pub returns-in-Cell-clause-of : goal.returns-in-Cell-clause-of
returns-in-Cell-clause-of c = c.cell_of.ensures.of c.args.store.now (slot_at c.args.store.now c.args.regs.now c.in-Cell.at _ c.requires.registers c.newest.ensures)

pub returns-in-Cell-clause-cell : goal.returns-in-Cell-clause-cell
returns-in-Cell-clause-cell c =
    rw c.in-Cell.is (c.cell_of.ensures.cell c.args.store.now.texts ∙ ap slot_cell (slot_seen_at c.args.store.now.texts c.args.regs.now c.in-Cell.at _ c.newest.ensures))
