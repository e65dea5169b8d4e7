use Rattle.std.proofs.Common.{◌∙◌, sym, ap}
use Rattle.lua_code.specs.LuaHeapValue.{Table}
use Rattle.lua_operators.specs.LuaMeaningMetatables.{handler}
use Rattle.lua_operators.specs.LuaStoreSeen.{seen}
use Rattle.lua_turns.proofs.Named.{found_behind}
use Rattle.lua_turns.proofs.methods.behind_link.Goals as goal

pub returns-in-Some-clause-found : goal.returns-in-Some-clause-found
returns-in-Some-clause-found c = λ line fs s h none.
    let st = c.args.store.now in
    found_behind st.heap c.args.table.at (seen st.texts c.args.key) (seen st.texts c.in-Some.value) line fs s h c.in-Table.behind.at none
    (ap (handler st.heap (Table c.args.table.at)) (sym c.requires.env.index.1) ∙ sym (rw c.in-Table.is at c.handler.ensures.value)) (rw c.in-Some.is at c.entry.ensures.value)

pub returns-in-None-clause-found : goal.returns-in-None-clause-found
returns-in-None-clause-found c = λ line fs s h none. tt

pub returns-in_default-clause-found : goal.returns-in_default-clause-found
returns-in_default-clause-found c = λ line fs s h none. tt
