use Rattle.lua_store.specs.Seen.{places_of}
use Rattle.lua_stack.specs.Seen.{registers_seen, captured_by}
use Rattle.lua_stack.proofs.PlaceLemmas.{captured_next}
use Rattle.lua_stack.proofs.register.captures.Goals as goal

pub places-preserved : goal.places-preserved
places-preserved c = (
  c.in_ok-add_cell.ensures.of c.args.store.now c.places.invariant.0 c.cell_at-cell.ensures.of,
  captured_next (registers_seen c.args.store.now.texts c.args.regs.now) (captured_by c.args.store.now.heap c.args.closure) c.places.left.now c.in-Some.next.rest.now c.in-Some.next.place
      (places_of c.places.cells) (places_of c.add_cell.new.cells) _ _ c.in-Some.ensures c.places.invariant.1 c.cell_at-cell.ensures.cell (c.in_ok-add_cell.ensures.all _),
)
