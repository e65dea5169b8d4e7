use Rattle.lua_code.specs.Seen.{entries_seen}
use Rattle.lua_evals.proofs.Tables.{next}
use Rattle.lua_evals.proofs.constructors.next_field.Goals as goal

pub returns : goal.returns
returns c = λ l. next c.args.store.now c.args.state.now c.fields.new.frames l c.args.table (entries_seen c.args.entries.now) c.args.line c.in_ok-focus.focus c.requires.state c.requires.table c.args.place c.in_ok-focus.ensures.of c.in_ok-focus.ensures.move_
