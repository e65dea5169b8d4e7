use Rattle.std.proofs.Common.{◌∙◌, ap, sym}
use Rattle.std.specs.Prelude.{codes}
use Rattle.lua_code.specs.LuaHeapProc.{Proc}
use Rattle.lua_code.specs.LuaHeapHeap.{Heap}
use Rattle.lua_code.specs.LuaMeaningMetatables.{common_handler}
use Rattle.lua_arms.specs.LuaStoreSeen.{seen}
use Rattle.lua_code.specs.LuaSlotsOperators as machine
use Rattle.lua_arms.specs.LuaStackSeen.{frames_seen}
use Rattle.lua_arms.proofs.Choices.{second}
use Rattle.lua_operators.proofs.comparison.equals.Goals as goal

pub returns-then-is_same-clause-of : goal.returns-then-is_same-clause-of
returns-then-is_same-clause-of c = (c.answer.ensures.of c.args.store.now, c.requires.frames)

pub returns-clause-move_ : goal.returns-clause-move_
returns-clause-move_ c = λ s h.
    second _ _ _ _ c.if-is_same.ensures
    (ap (λ v. machine.truth_by c.args.negated v (seen c.args.store.now.texts c.args.operands.0) (seen c.args.store.now.texts c.args.operands.1) c.args.line (frames_seen c.args.store.now.texts c.args.frames.now) s)
    (ap (λ (x : Heap Proc). common_handler x (seen c.args.store.now.texts c.args.operands.0) (seen c.args.store.now.texts c.args.operands.1) (codes "__eq")) h
    ∙ ap (λ n. common_handler c.args.store.now.heap (seen c.args.store.now.texts c.args.operands.0) (seen c.args.store.now.texts c.args.operands.1) n) (sym c.requires.env.equal.1)
    ∙ sym c.common_handler-handler.ensures.value)
    ∙ c.in_ok-step.ensures.move_ s h)
