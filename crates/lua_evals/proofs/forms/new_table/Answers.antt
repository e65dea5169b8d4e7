use Rattle.std.proofs.Common.{ap}
use Rattle.lua_operators.specs.LuaStoreSeen.{StoreView}
use Rattle.lua_code.specs.Seen.{entries_seen}
use Rattle.lua_evals.proofs.Tables.{made}
use Rattle.lua_evals.proofs.forms.new_table.Goals as goal

pub returns : goal.returns
returns c = λ l.
    made c.args.store.now c.new_table.new.self c.args.state.now c.fields.new.frames l c.in_ok-table.table (entries_seen c.args.entries.now) c.args.line c.in_ok-focus.focus c.requires.state c.in_ok-table.ensures.later
    c.in_ok-table.ensures.of c.in_ok-table.ensures.id (ap (λ (x : StoreView). x.heap) c.in_ok-table.ensures.made) c.in_ok-focus.ensures.of c.in_ok-focus.ensures.move_
