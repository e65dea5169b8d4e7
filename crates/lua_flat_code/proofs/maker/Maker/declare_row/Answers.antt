use Rattle.std.proofs.Common.{◌≡◌, [], drop, arith}
use Rattle.std.proofs.lemmas.List.{drop_more, drop_all}
use Rattle.lua_flat_code.proofs.StatementLaws.{row_opens, row_declares, row_declared}
use Rattle.lua_flat_code.proofs.maker.Maker.declare_row.Goals as goal

pub loop-boxed-init : goal.loop-boxed-init
loop-boxed-init c = row_opens _ _ _ _ c.in_ok-reach.ensures

pub loop-boxed-preserved : goal.loop-boxed-preserved
loop-boxed-preserved c = row_declares _ _ _ _ _ _ _ _ _ _ _ c.loop-boxed.invariant (drop_more c.args.flags.now c.loop-boxed.boxed-index _ c.loop-boxed-test.true) c.in_ok-declare.ensures c.in_ok-at.ensures.0 c.in_ok-at.ensures.1

pub returns : goal.returns
returns c =
    let none : drop c.loop-boxed.boxed-index c.args.flags.now ≡ [] = drop_all c.loop-boxed.boxed-index c.args.flags.now (omega (arith, c.loop-boxed-test.false)) in
    row_declared _ _ _ _ _ _ c.loop-boxed.invariant none
