use Rattle.std.proofs.Common.{◌≡◌, [], drop, arith}
use Rattle.std.proofs.lemmas.List.{drop_all}
use Rattle.lua_flat_code.proofs.Handed.{next_item}
use Rattle.lua_flat_code.proofs.FunctionLaws.{functions_start, functions_step, functions_end}
use Rattle.lua_flat_code.proofs.maker.Maker.functions.Goals as goal

pub loop-proto-init : goal.loop-proto-init
loop-proto-init c = functions_start _ _ _ c.in_ok-list.ensures

pub loop-proto-preserved : goal.loop-proto-preserved
loop-proto-preserved c =
    functions_step _ _ _ _ _ _ _ _ _ _ c.loop-proto.invariant (next_item c.args.protos.now c.loop-proto.proto-index c.proto-item.result c.proto-item.is c.loop-proto-test.true) c.in_ok-function.ensures c.in_ok-push.ensures.ok

pub returns : goal.returns
returns c =
    let none : drop c.loop-proto.proto-index c.args.protos.now ≡ [] = drop_all c.loop-proto.proto-index c.args.protos.now (omega (arith, c.loop-proto-test.false)) in
    functions_end _ _ _ _ _ c.loop-proto.invariant none
