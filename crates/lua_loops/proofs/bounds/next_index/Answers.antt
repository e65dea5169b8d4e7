use Rattle.std.proofs.lemmas.Result.{IfOk-weaker}
use Rattle.std.proofs.Common.{rules, w64}
use mir.Val.{SFits}
use Rattle.std.proofs.lemmas.Int.{to_z-of_z}
use Rattle.lua_code.specs.Seen.{block_seen}
use Rattle.lua_state.specs.Seen.{slots_of, frames_of}
use Rattle.lua_loops.proofs.Parts.{counted_on, stepped}
use Rattle.lua_loops.proofs.bounds.next_index.Goals as goal

pub finish-requires-clause-step : goal.finish-requires-clause-step
finish-requires-clause-step c = c.count_next-step.ensures.of c.args.store.now

pub returns : goal.returns
returns c =
    let index : SFits w64 c.args.range.0 = search rules in
    let limit : SFits w64 c.args.range.1 = search rules in
    let step : SFits w64 c.args.range.2 = search rules in
    IfOk-weaker c.finish.result _ _ (λ r e. stepped c.args.store.now c.finish.new.store c.args.state.now c.args.state.now.frames c.args.left.now c.finish.new.left _ c.count_next-step.result _
    (counted_on c.args.boxed _ c.args.range.0 _ c.args.range.1 _ c.args.range.2 (block_seen c.args.body.now) (frames_of c.args.store.now c.args.state.now) (slots_of c.args.store.now c.args.state.now) _
    (to_z-of_z w64 c.args.range.0 index) (to_z-of_z w64 c.args.range.1 limit) (to_z-of_z w64 c.args.range.2 step)
    (c.count_next-step.ensures.move_ c.args.store.now (frames_of c.args.store.now c.args.state.now) (slots_of c.args.store.now c.args.state.now))) e) c.finish.ensures.makes
