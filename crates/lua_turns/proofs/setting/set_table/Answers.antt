use Rattle.std.proofs.Common.{subst}
use Rattle.std.specs.Prelude.{Some, Bool}
use Rattle.lua_operators.specs.LuaStoreSeen.{seen}
use Rattle.lua_strides.proofs.Paths.{idle_here}
use Rattle.lua_turns.specs.Setting.{Puts}
use Rattle.lua_turns.proofs.EntrySet.{set_follows, not_put}
use Rattle.lua_turns.proofs.setting.set_table.Goals as goal

pub returns-then-not-is_plain : goal.returns-then-not-is_plain
returns-then-not-is_plain c = λ k. idle_here c.args.store.now c.args.state.now c.args.left.now k

pub returns-then-done : goal.returns-then-done
returns-then-done c = λ k.
    let s = c.args.store.now in
    set_follows s c.put_paid.new.store c.args.state.now c.args.left.now c.put_paid.new.left k c.args.table.at (seen s.texts c.args.key) (seen s.texts c.args.value) c.args.line c.requires.state
    (λ fs x h. c.is_plain.ensures c.if-not-is_plain.false (seen s.texts c.args.value) (Some c.args.line) fs x h)
    (subst (λ (b : Bool). Puts s c.args.table.at (seen s.texts c.args.key) (seen s.texts c.args.value) c.args.left.now c.put_paid.new.store c.put_paid.new.left b) c.if-done.true c.in_ok-done.ensures)

pub returns : goal.returns
returns c = λ k.
    let s = c.args.store.now in
    not_put s c.put_paid.new.store c.args.state.now c.args.left.now c.put_paid.new.left k
    (subst (λ (b : Bool). Puts s c.args.table.at (seen s.texts c.args.key) (seen s.texts c.args.value) c.args.left.now c.put_paid.new.store c.put_paid.new.left b) c.if-done.false c.in_ok-done.ensures)
