use Rattle.std.proofs.Common.{refl}
use Rattle.lua_code.specs.Seen.{place_seen}
use Rattle.lua_code.specs.LuaSlotsCode.{PlaceC}
use Rattle.lua_strides.proofs.Paths.{idle_here}
use Rattle.lua_turns.proofs.rows.begin_set.Goals as goal

pub returns-in-Variable : goal.returns-in-Variable
returns-in-Variable g c = rw c.in-Variable.is (c.begin_assign.ensures c.args.store.now (PlaceC (place_seen c.in-Variable.place)) c.requires tt (λ values fs x. refl))

pub returns-in-Global : goal.returns-in-Global
returns-in-Global g c = rw c.in-Global.is (c.begin_global.ensures c.args.store.now c.requires)

pub returns-in-At : goal.returns-in-At
returns-in-At g c = rw c.in-At.is c.begin_entry.ensures

pub returns-in-Refused : goal.returns-in-Refused
returns-in-Refused g c = idle_here c.args.store.now c.args.state.now c.args.left.now c.args.turns.now
