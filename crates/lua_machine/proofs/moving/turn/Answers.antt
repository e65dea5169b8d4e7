use Rattle.std.proofs.lemmas.Result.{IfOk-weaker}
use Rattle.std.proofs.Common.{refl}
use Rattle.lua_environment.specs.LuaStackDeclaredFocusFocusTheVariants as focus
use Rattle.lua_blocks.proofs.LuaStateMaking.{counts_late, late_counts_none}
use Rattle.lua_machine.proofs.Moves.{counted_late, stays}
use Rattle.lua_machine.proofs.moving.turn.Goals as goal

pub returns-in-Gives : goal.returns-in-Gives
returns-in-Gives g c = rw c.in-Gives.is (IfOk-weaker c.give.result _ _ (λ r e. e c.args.turns.now) c.give.ensures)

pub returns-in-Jumps : goal.returns-in-Jumps
returns-in-Jumps g c = rw c.in-Jumps.is (IfOk-weaker c.pass.result _ _ (λ r e. e c.args.turns.now) c.pass.ensures)

pub returns-in-Evaluates : goal.returns-in-Evaluates
returns-in-Evaluates g c = rw c.in-Evaluates.is (IfOk-weaker c.begin_expression.result _ _ (λ r e. counts_late c.args.store.now c.begin_expression.new.store c.args.state.now c.begin_expression.new.state c.args.left.now c.begin_expression.new.left c.args.turns.now c.begin_expression.new.turns _ r e) c.begin_expression.ensures)

pub returns-in-Lists : goal.returns-in-Lists
returns-in-Lists g c = rw c.in-Lists.is (IfOk-weaker c.list.result _ _ (λ r e. counted_late c.args.store.now c.args.state.now c.args.left.now c.args.turns.now c.list.new.store c.list.new.state c.list.new.left _ r e) c.list.ensures)

pub returns-in-Finds : goal.returns-in-Finds
returns-in-Finds g c = rw c.in-Finds.is (IfOk-weaker c.find.result _ _ (λ r e. counts_late c.args.store.now c.find.new.store c.args.state.now c.find.new.state c.args.left.now c.find.new.left c.args.turns.now c.find.new.turns _ r e) c.find.ensures)

pub returns-in-Sets : goal.returns-in-Sets
returns-in-Sets g c = rw c.in-Sets.is (IfOk-weaker c.set.result _ _ (λ r e. counted_late c.args.store.now c.args.state.now c.args.left.now c.args.turns.now c.set.new.store c.set.new.state c.set.new.left _ r e) c.set.ensures)

pub returns-in-Runs : goal.returns-in-Runs
returns-in-Runs g c = rw c.in-Runs.is (IfOk-weaker c.run.result _ _ (λ r e. counts_late c.args.store.now c.run.new.store c.args.state.now c.run.new.state c.args.left.now c.run.new.left c.args.turns.now c.run.new.turns _ r e) c.run.ensures)

pub returns-in-Starts : goal.returns-in-Starts
returns-in-Starts g c = rw c.in-Starts.is c.begin_thing.ensures

pub returns-in-Texts : goal.returns-in-Texts
returns-in-Texts g c = rw c.in-Texts.is (IfOk-weaker c.texts.result _ _ (λ r e. counted_late c.args.store.now c.args.state.now c.args.left.now c.args.turns.now c.texts.new.store c.texts.new.state c.texts.new.left _ r e) c.texts.ensures)

pub returns-in-Asks : goal.returns-in-Asks
returns-in-Asks g c = rw c.in-Asks.is (stays c.args.store.now c.args.state.now (focus.Asks c.in-Asks.question) c.args.left.now c.args.turns.now c.requires.state tt refl)

pub returns-in-Works : goal.returns-in-Works
returns-in-Works g c = rw c.in-Works.is (IfOk-weaker c.begin_work.result _ _ (λ r e. late_counts_none c.args.store.now c.begin_work.new.store c.args.state.now c.begin_work.new.state c.args.left.now c.begin_work.new.left c.args.turns.now c.args.turns.now _ r refl e) (rw c.into_inner.ensures at c.begin_work.ensures))
