use Rattle.std.proofs.Common.{refl, ap, arith}
use Rattle.lua_code.specs.Seen.{expressions_seen}
use Rattle.lua_rows.proofs.Arguments.{none_behind, more_behind, all_behind}
use Rattle.lua_rows.proofs.ready.read_arguments.Goals as goal

pub items-init : goal.items-init
items-init c = none_behind c.args.store.now c.args.state.now (expressions_seen c.args.arguments.now) c.args.values.now.items

pub items-preserved : goal.items-preserved
items-preserved c =
    more_behind c.args.store.now c.args.state.now _ _ _ _ _ _ _ _ _ (rw c.in-Some.ensures at c.items.invariant) (rw c.in-Some-read.is at c.read.ensures) c.in_ok-push-in-Some-read.ensures refl (omega (arith, c.if-nodes-found.false))

pub returns : goal.returns
returns c = all_behind c.args.store.now c.args.state.now _ _ _ _ _ (ap expressions_seen c.in_default.ensures) c.items.invariant
