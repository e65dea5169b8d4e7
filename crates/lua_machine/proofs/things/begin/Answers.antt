use Rattle.std.proofs.lemmas.Result.{IfOk-weaker}
use Rattle.std.proofs.Common.{◌≡◌, rules, w64, to_z, of_z}
use Rattle.lua_blocks.proofs.LuaStateMaking.{counts_late}
use Rattle.lua_machine.proofs.Moves.{counted_late}
use Rattle.lua_machine.proofs.things.begin.Goals as goal

pub returns-in-WhileTurn : goal.returns-in-WhileTurn
returns-in-WhileTurn g c = rw c.in-WhileTurn.is (IfOk-weaker c.while_turn.result _ _ (λ r e. counts_late c.args.store.now c.while_turn.new.store c.args.state.now c.while_turn.new.state c.args.left.now c.while_turn.new.left c.args.turns.now c.while_turn.new.turns _ r e) c.while_turn.ensures)

pub returns-in-RepeatTurn : goal.returns-in-RepeatTurn
returns-in-RepeatTurn g c = rw c.in-RepeatTurn.is (IfOk-weaker c.repeat_turn.result _ _ (λ r e. counts_late c.args.store.now c.repeat_turn.new.store c.args.state.now c.repeat_turn.new.state c.args.left.now c.repeat_turn.new.left c.args.turns.now c.repeat_turn.new.turns _ r e) c.repeat_turn.ensures)

pub returns-in-CountTurn : goal.returns-in-CountTurn
returns-in-CountTurn g c =
    let index : to_z w64 (of_z w64 c.in-CountTurn.index) ≡ c.in-CountTurn.index = search rules in
    let limit : to_z w64 (of_z w64 c.in-CountTurn.limit) ≡ c.in-CountTurn.limit = search rules in
    let step : to_z w64 (of_z w64 c.in-CountTurn.step) ≡ c.in-CountTurn.step = search rules in
    rw c.in-CountTurn.is (IfOk-weaker c.count_turn.result _ _ (λ r e. counts_late c.args.store.now c.count_turn.new.store c.args.state.now c.count_turn.new.state c.args.left.now c.count_turn.new.left c.args.turns.now c.count_turn.new.turns _ r e) (rw (index, limit, step) at c.count_turn.ensures))

pub returns-in-EachTurn : goal.returns-in-EachTurn
returns-in-EachTurn g c = rw c.in-EachTurn.is (IfOk-weaker c.each_turn.result _ _ (λ r e. counts_late c.args.store.now c.each_turn.new.store c.args.state.now c.each_turn.new.state c.args.left.now c.each_turn.new.left c.args.turns.now c.each_turn.new.turns _ r e) c.each_turn.ensures)

pub returns-in-Body : goal.returns-in-Body
returns-in-Body g c = rw c.in-Body.is (IfOk-weaker c.enter_body.result _ _ (λ r e. counts_late c.args.store.now c.enter_body.new.store c.args.state.now c.enter_body.new.state c.args.left.now c.enter_body.new.left c.args.turns.now c.enter_body.new.turns _ r e) c.enter_body.ensures)

pub returns-in-Library : goal.returns-in-Library
returns-in-Library g c = rw c.in-Library.is c.enter_library.ensures

pub returns-in-IndexLink : goal.returns-in-IndexLink
returns-in-IndexLink g c = rw c.in-IndexLink.is (IfOk-weaker c.link_index.result _ _ (λ r e. counted_late c.args.store.now c.args.state.now c.args.left.now c.args.turns.now c.link_index.new.store c.link_index.new.state c.link_index.new.left _ r e) c.link_index.ensures)

pub returns-in-SetLink : goal.returns-in-SetLink
returns-in-SetLink g c = rw c.in-SetLink.is (IfOk-weaker c.link_set.result _ _ (λ r e. counted_late c.args.store.now c.args.state.now c.args.left.now c.args.turns.now c.link_set.new.store c.link_set.new.state c.link_set.new.left _ r e) c.link_set.ensures)

pub returns-in-CallLink : goal.returns-in-CallLink
returns-in-CallLink g c = rw c.in-CallLink.is (IfOk-weaker c.link_call.result _ _ (λ r e. counted_late c.args.store.now c.args.state.now c.args.left.now c.args.turns.now c.link_call.new.store c.link_call.new.state c.link_call.new.left _ r e) c.link_call.ensures)
