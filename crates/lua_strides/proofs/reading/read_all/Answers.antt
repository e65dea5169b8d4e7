use Rattle.std.proofs.Common.{refl, ap, arith}
use Rattle.lua_code.specs.Seen.{expressions_seen}
use Rattle.lua_strides.proofs.Readings.{gathers_none, gathers_more, gathers_all}
use Rattle.lua_strides.proofs.reading.read_all.Goals as goal

pub items-init : goal.items-init
items-init c = gathers_none c.args.store.now c.args.state.now (expressions_seen c.args.list.now) c.new-values.result c.new-values.ensures

pub items-preserved : goal.items-preserved
items-preserved c =
    gathers_more c.args.store.now c.args.state.now _ _ _ _ _ _ _ _ (rw c.in-Some.ensures at c.items.invariant) (rw c.in-Some-read.is at c.read.ensures) c.in_ok-add-in-Some-read.ensures.ok refl (omega (arith, c.if-nodes-found.false))

pub returns : goal.returns
returns c = gathers_all c.args.store.now c.args.state.now _ _ _ _ _ (ap expressions_seen c.in_default.ensures) refl refl c.items.invariant
