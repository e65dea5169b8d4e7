use Rattle.std.proofs.Common.{◌≤◌, ◌+◌, ◌∙◌, ℕ, refl, sym, ap, arith}
use Rattle.std.specs.Prelude.{slice_set}
use Rattle.lua_store.proofs.Later.{later-itself}
use Rattle.lua_stack.specs.declared.register.Slot.TheVariants as slot
use Rattle.lua_flat_code.specs.declared.op.Op.TheVariants as op
use Rattle.lua_flat_loop.specs.Code.{tables_of}
use Rattle.lua_flat_loop.specs.Stops.{here}
use Rattle.lua_flat_loop.proofs.Looping.{stops_spent, constants_ok, one_written, turns}
use Rattle.lua_flat_loop.proofs.Operations.{pay_does, jump_does, load_does, operate_does, test_does, compare_does}
use Rattle.lua_flat_loop.proofs.going.go.Goals as goal
use Rattle.lua_flat_loop.proofs.going.go.Goals.{in-Pay, in-Load+else-to-regs, in-Operate+else-to-regs-2+in-Some-operated, in-Jump, in-Test, in-Compare+in-Some-compared}

pub returns-in_default : goal.returns-in_default
returns-in_default c = record { ends = λ w codes b told ready. here; sound = c.requires; later = later-itself c.args.store.now }

pub steps-init : goal.steps-init
steps-init c = record { leads = λ w codes b told ready. here; begun = c.requires; sound = c.requires; later = later-itself c.args.store.now; modules = refl; code = c.in-Some.ensures }

pub returns-then-at-charge : goal.returns-then-at-charge
returns-then-at-charge c = stops_spent _ _ _ c.in-Some-step_at.step.now c.steps.invariant (sym c.in-Some-step_at.ensures.there) (omega (arith, c.from-charge.ensures, c.if-at-charge.true))

pub steps-preserved : goal.steps-preserved
unfolding Rattle.lua_flat_loop.proofs.Looping.sits
steps-preserved c =
    let g = c.steps.invariant in
    let covered : c.in-Some-step_at.step.now.charge ≤ c.steps.at.rest = omega (arith, c.from-charge.ensures, c.if-at-charge.false) in
    let on = turns c.in-Some-step_at.step.now g (sym c.in-Some-step_at.ensures.there) covered c.from-charge.result c.from-charge.ensures in
    let regs = c.steps.regs in
    let base = c.steps.at.act.base in
    let pc = c.steps.at.act.pc in
    let top = c.steps.at.top in
    let s = c.args.store.now in
    let known = constants_ok g in
    let tables = tables_of g.code.home.functions.now c.in-Some.code.function.now in
    elim c.match-step.branch [
      | in-Pay w ↦ on op.Pay w.in-Pay.is regs _ _ _ w.regs-is w.at-is g.sound.regs (λ cs k b. pay_does s.texts cs tables base pc top regs _)
      | in-Load+else-to-regs w ↦
          on (op.Load w.in-Load.to w.in-Load.from) w.in-Load.is (slice_set regs (base + w.in-Load.to) (slot.Plain w.operand-value.result)) _ _ _
          (w.regs-is ∙ ap (λ (n : ℕ). slice_set regs n (slot.Plain w.operand-value.result)) w.place-to.ensures) w.at-is
          (one_written s regs (base + w.in-Load.to) w.operand-value.result g.sound.regs (w.operand-value.ensures.of s g.sound.regs known))
          (λ cs k b. load_does s.texts cs tables base pc top regs _ w.in-Load.to w.in-Load.from w.operand-value.result (omega (arith, w.place-to.ensures, w.if-to-regs.false)) (w.operand-value.ensures.value s.texts cs tables k))
      | in-Operate+else-to-regs-2+in-Some-operated w ↦
          on (op.Operate w.in-Operate.op w.in-Operate.to w.in-Operate.a w.in-Operate.b) w.in-Operate.is (slice_set regs (base + w.in-Operate.to) (slot.Plain w.in-Some-operated.value)) _ _ _
          (w.regs-is ∙ ap (λ (n : ℕ). slice_set regs n (slot.Plain w.in-Some-operated.value)) w.place-to-in-Operate.ensures) w.at-is
          (one_written s regs (base + w.in-Operate.to) w.in-Some-operated.value g.sound.regs (w.in-Some-operated.ensures.of s))
          (λ cs k b. operate_does s.texts cs tables base pc top regs _ w.in-Operate.op w.in-Operate.to w.in-Operate.a w.in-Operate.b w.operand-a.result w.operand-b.result w.in-Some-operated.value
          (omega (arith, w.place-to-in-Operate.ensures, w.if-to-regs-2.false)) (w.operand-a.ensures.value s.texts cs tables k) (w.operand-b.ensures.value s.texts cs tables k) (λ line. w.in-Some-operated.ensures.gives s.texts line _))
      | in-Jump w ↦ on (op.Jump w.in-Jump.target) w.in-Jump.is regs _ _ _ w.regs-is w.at-is g.sound.regs (λ cs k b. jump_does s.texts cs tables base pc top regs _ w.in-Jump.target)
      | in-Test w ↦
          on (op.Test w.in-Test.when w.in-Test.a w.in-Test.target) w.in-Test.is regs _ _ _ w.regs-is w.at-is g.sound.regs
          (λ cs k b. test_does s.texts cs tables base pc top regs _ w.in-Test.when w.in-Test.a w.in-Test.target w.operand.result w.is_true-truth.result w.place_behind-at.result
          (w.operand.ensures.value s.texts cs tables k) (w.is_true-truth.ensures s.texts) w.place_behind-at.ensures)
      | in-Compare+in-Some-compared w ↦
          on (op.Compare w.in-Compare.op w.in-Compare.a w.in-Compare.b w.in-Compare.when w.in-Compare.target) w.in-Compare.is regs _ _ _ w.regs-is w.at-is g.sound.regs
          (λ cs k b. compare_does s.texts cs tables base pc top regs _ w.in-Compare.op w.in-Compare.a w.in-Compare.b w.in-Compare.when w.in-Compare.target w.operand-a-in-Compare.result w.operand-b-in-Compare.result
          w.in-Some-compared.truth w.place_behind-at-in-Compare.result (w.operand-a-in-Compare.ensures.value s.texts cs tables k) (w.operand-b-in-Compare.ensures.value s.texts cs tables k)
          (λ line. w.in-Some-compared.ensures s.texts line _) w.place_behind-at-in-Compare.ensures)
    ]
