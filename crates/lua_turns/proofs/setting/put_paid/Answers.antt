use Rattle.std.proofs.Common.{◌∙◌, sym, ap, refl, arith}
use Rattle.std.specs.Prelude.{not}
use Rattle.lua_operators.specs.LuaStoreSeen.{StoreView, seen}
use Rattle.lua_turns.proofs.EntrySet.{puts_old, puts_new}
use Rattle.lua_turns.proofs.setting.put_paid.Goals as goal

pub returns-then-is_new : goal.returns-then-is_new
returns-then-is_new c =
    let s = c.args.store.now in
    puts_new s c.put.new.store c.args.table.at (seen s.texts c.args.key) (seen s.texts c.args.value) c.put.ensures.later (ap (λ (u : StoreView). u.heap) c.in_ok-put.ensures.set) c.args.left.now _
    (sym c.is_new.ensures ∙ ap not c.if-is_new.true) (omega (arith, c.if-left-lt4.false)) refl

pub returns : goal.returns
returns c =
    let s = c.args.store.now in
    puts_old s c.put-2.new.store c.args.table.at (seen s.texts c.args.key) (seen s.texts c.args.value) c.put-2.ensures.later (ap (λ (u : StoreView). u.heap) c.in_ok-put-2.ensures.set) c.args.left.now
    (sym c.is_new.ensures ∙ ap not c.if-is_new.false)
