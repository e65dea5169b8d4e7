use Rattle.lua_store.proofs.Changes.{made_table}
use Rattle.lua_store.proofs.store.Store.new_table.Goals as goal

pub invariant_of-self : goal.invariant_of-self
invariant_of-self c = rw c.in_err-push.ensures.err c.self.invariant

pub invariant_of-self-2 : goal.invariant_of-self-2
invariant_of-self-2 c = rw (c.in_ok-push.ensures.ok.1, c.new-table.ensures) (made_table _ c.self.invariant).whole

pub returns-clause-made : goal.returns-clause-made
returns-clause-made c = rw (← c.self.view_is, c.in_ok-push.ensures.ok.1, c.new-table.ensures) (made_table _ c.self.invariant).shown
