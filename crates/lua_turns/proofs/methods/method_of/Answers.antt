use Rattle.lua_operators.specs.LuaStoreSeen.{seen}
use Rattle.lua_turns.proofs.Named.{method_of_strings}
use Rattle.lua_turns.proofs.methods.method_of.Goals as goal

pub returns-in-Table-clause-found : goal.returns-in-Table-clause-found
returns-in-Table-clause-found c = λ line fs s h e. rw c.in-Table.is (c.method_in.ensures.found line fs s h)

pub returns-in-Text-clause-found : goal.returns-in-Text-clause-found
returns-in-Text-clause-found c = λ line fs s h e.
    let st = c.args.store.now in
    rw c.in-Text.is (method_of_strings st c.method_in-in-Text.result c.in-Text.field-0 (seen st.texts c.args.key) line fs s c.args.env.now.strings.at e (c.method_in-in-Text.ensures.found line fs s h))

pub returns-in_default-clause-found : goal.returns-in_default-clause-found
returns-in_default-clause-found c = λ line fs s h e. tt
