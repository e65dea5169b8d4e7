use Rattle.lua_operators.specs.LuaStoreSeen.{seen}
use Rattle.lua_turns.proofs.Named.{found_at_once}
use Rattle.lua_turns.proofs.methods.entry_of.Goals as goal

pub returns-in-Some-clause-found : goal.returns-in-Some-clause-found
returns-in-Some-clause-found c = λ line fs s h e.
    let st = c.args.store.now in
    found_at_once st.heap (seen st.texts c.args.of) (seen st.texts c.args.key) (seen st.texts c.in-Some.value) line fs s h (rw c.in-Some.is at c.indexed.ensures.value)

pub returns-in-None-clause-found : goal.returns-in-None-clause-found
returns-in-None-clause-found c = c.method_of.ensures.found
