use Rattle.std.proofs.Common.{◌≡◌, length, sym, ap, subst, rules}
use Rattle.lua_flat_code.specs.Seen.{constant_seen}
use Rattle.lua_flat_code.specs.Making.{State, state_of}
use Rattle.lua_flat_code.specs.Parts.{ConstantSaid}
use Rattle.lua_flat_code.proofs.OriginLaws.{constant_said}
use Rattle.lua_flat_code.proofs.maker.Maker.constant.Goals as goal

pub returns : goal.returns
returns c =
    let s : State = state_of c.args.self.now in
    let number : c.in_ok-number.number ≡ length s.constants = search rules in
    subst (ConstantSaid (constant_seen c.args.constant) c.in_ok-operand.operand s) (sym (ap (λ cs. record s { constants = cs }) c.in_ok-push.ensures.ok)) (constant_said c.args.constant c.in_ok-operand.operand c.in_ok-number.number s number c.in_ok-operand.ensures)
