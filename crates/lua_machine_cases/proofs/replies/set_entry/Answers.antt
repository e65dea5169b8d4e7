use Rattle.lua_resolve.proofs.LuaStoreLater.{later-then}
use Rattle.lua_machine_cases.proofs.replies.set_entry.Goals as goal

-- a key, a value, and the entry: three steps, one after another
pub returns : goal.returns
returns c =
    later-then c.args.store.now c.entry_value-2.new.store c.set.new.store
    (later-then c.args.store.now c.entry_value.new.store c.entry_value-2.new.store c.in_ok-key.ensures.later c.in_ok-value.ensures.later)
    c.in_ok-set.ensures
