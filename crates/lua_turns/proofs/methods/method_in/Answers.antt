use Rattle.std.proofs.Common.{◌∙◌, sym, ap}
use Rattle.lua_code.specs.LuaHeapValue.{is_nil}
use Rattle.lua_operators.specs.LuaStoreSeen.{seen}
use Rattle.lua_turns.proofs.Named.{found_here}
use Rattle.lua_turns.proofs.methods.method_in.Goals as goal

pub returns-then-is_nil-clause-found : goal.returns-then-is_nil-clause-found
returns-then-is_nil-clause-found c = λ line fs s h. c.behind_link.ensures.found line fs s h (ap is_nil (sym c.get-value.ensures.value) ∙ sym (c.is_nil.ensures c.args.store.now.texts) ∙ c.if-is_nil.true)

pub returns-clause-found : goal.returns-clause-found
returns-clause-found c = λ line fs s h.
    let st = c.args.store.now in
    found_here st.heap c.args.table.at (seen st.texts c.args.key) (seen st.texts c.get-value.result) line fs s h c.get-value.ensures.value (sym (c.is_nil.ensures st.texts) ∙ c.if-is_nil.false)
