use Rattle.std.proofs.lemmas.Result.{IfOk-weaker}
use Rattle.std.proofs.Common.{◌∙◌, ap}
use Rattle.lua_code.specs.LuaHeapValue.{Value as Plain}
use Rattle.lua_code.specs.Seen.{block_seen}
use Rattle.lua_code.specs.LuaMeaningValues as plain
use Rattle.lua_code.specs.LuaSlotsLoops.{each_from}
use Rattle.lua_state.specs.LuaStoreSeen.{seen}
use Rattle.lua_state.specs.LuaStackSeen.{given_seen}
use Rattle.lua_state.specs.Seen.{slots_of, frames_of}
use Rattle.lua_loops.proofs.Parts.{same_move}
use Rattle.lua_loops.proofs.giving.begin_each.Goals as goal

pub call_iterator-requires-clause-each : goal.call_iterator-requires-clause-each
call_iterator-requires-clause-each c =
    let of = c.first_three-three.ensures.of c.args.store.now c.requires.values in
    rw c.in_ok-each.ensures (of.0, of.1)

pub call_iterator-requires-clause-before : goal.call_iterator-requires-clause-before
call_iterator-requires-clause-before c = (c.first_three-three.ensures.of c.args.store.now c.requires.values).2

pub returns : goal.returns
returns c =
    IfOk-weaker c.call_iterator.result _ _ (λ r e. same_move c.args.store.now c.call_iterator.new.store c.args.state.now c.call_iterator.new.state c.args.left.now c.call_iterator.new.left _ _ _
    (ap (λ (v : Plain). each_from c.args.flags.now v (seen c.args.store.now.texts c.first_three-three.result.1) (seen c.args.store.now.texts c.first_three-three.result.2) (block_seen c.args.body.now) c.args.line (frames_of c.args.store.now c.args.state.now) (slots_of c.args.store.now c.args.state.now)) (c.first_three-three.ensures.first c.args.store.now.texts)
    ∙ ap (λ (v : Plain). each_from c.args.flags.now (plain.first (given_seen c.args.store.now.texts c.args.values)) v (seen c.args.store.now.texts c.first_three-three.result.2) (block_seen c.args.body.now) c.args.line (frames_of c.args.store.now c.args.state.now) (slots_of c.args.store.now c.args.state.now)) (c.first_three-three.ensures.second c.args.store.now.texts)
    ∙ ap (λ (v : Plain). each_from c.args.flags.now (plain.first (given_seen c.args.store.now.texts c.args.values)) (plain.second (given_seen c.args.store.now.texts c.args.values)) v (block_seen c.args.body.now) c.args.line (frames_of c.args.store.now c.args.state.now) (slots_of c.args.store.now c.args.state.now)) (c.first_three-three.ensures.third c.args.store.now.texts))
    e) (rw c.in_ok-each.ensures at c.call_iterator.ensures)
