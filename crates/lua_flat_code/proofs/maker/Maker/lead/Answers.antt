use Rattle.std.proofs.Common.{◌≡◌, ◌∙◌, Some, slice_get, slice_set, ap, rules}
use Rattle.lua_flat_code.specs.Making.{State, state_of}
use Rattle.lua_flat_code.proofs.MakingLaws.{led}
use Rattle.lua_flat_code.proofs.maker.Maker.lead.Goals as goal

pub returns-in_ok-step-in-Some : goal.returns-in_ok-step-in-Some
returns-in_ok-step-in-Some c =
    let s : State = state_of c.args.self.now in
    let is : slice_get c.args.self.now.steps.items c.args.at ≡ Some c.in-Some.step = search rules in
    let set : c.set_step.new.steps.items ≡ slice_set c.args.self.now.steps.items c.args.at c.in_ok-step-in-Some.step = search rules in
    led c.args.at c.args.target c.in-Some.step c.in_ok-step-in-Some.step s _ is c.in_ok-step-in-Some.ensures (ap (λ xs. record s { steps = xs }) set)
