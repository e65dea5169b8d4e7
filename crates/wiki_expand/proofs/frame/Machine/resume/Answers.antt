use Rattle.std.proofs.Common.{refl, ap, sym, arith}
use Rattle.std.proofs.lemmas.Result.{IfOk-weaker}
use Rattle.wiki_expand.specs.Points.{wiki_setting, plug}
use Rattle.wiki_expand.specs.declared.frame.Frame.TheVariants.{First, Function, Unnamed, Value}
use Rattle.wiki_expand.proofs.Moves.{leads_on, stays, body_left}
use Rattle.wiki_expand.proofs.StepLaws.{step_from, resume_as, body_over}
use Rattle.wiki_expand.proofs.frame.Machine.resume.Goals as goal

pub returns-in-Parameter : goal.returns-in-Parameter
returns-in-Parameter c =
    rw c.in-Parameter.is (IfOk-weaker _ _ _ (λ r. step_from c.args.wiki.now _ _ c.args.left.now _ _ _ _ _ _ r _ (stays (wiki_setting c.args.wiki.now) _ _ c.args.left.now refl) (omega arith) (omega arith)) c.parameter.ensures)

pub returns-in-First : goal.returns-in-First
returns-in-First c = rw c.in-First.is (IfOk-weaker _ _ _ (λ r. resume_as c.args.wiki.now _ c.args.left.now _ c.args.self.now.stack (First c.in-First.rest) _ _ _ _ r _ refl refl (omega arith) (omega arith)) c.first_part.ensures)

pub returns-in-Function : goal.returns-in-Function
returns-in-Function c = rw c.in-Function.is (IfOk-weaker _ _ _ (λ r. resume_as c.args.wiki.now _ c.args.left.now _ c.args.self.now.stack (Function c.in-Function.module c.in-Function.rest) _ _ _ _ r _ refl refl (omega arith) (omega arith)) c.function.ensures)

pub returns-in-Unnamed : goal.returns-in-Unnamed
returns-in-Unnamed c = rw c.in-Unnamed.is (IfOk-weaker _ _ _ (λ r. resume_as c.args.wiki.now _ c.args.left.now _ c.args.self.now.stack (Unnamed c.in-Unnamed.call) _ _ _ _ r _ refl refl (omega arith) (omega arith)) c.unnamed.ensures)

pub returns-in-Value : goal.returns-in-Value
returns-in-Value c = rw c.in-Value.is (IfOk-weaker _ _ _ (λ r. resume_as c.args.wiki.now _ c.args.left.now _ c.args.self.now.stack (Value c.in-Value.call c.in-Value.key) _ _ _ _ r _ refl refl (omega arith) (omega arith)) c.value.ensures)

pub returns-in-Body : goal.returns-in-Body
returns-in-Body c =
    rw c.in-Body.is (body_over c.args.wiki.now _ c.args.self.now.stack _ c.args.left.now _ _ c.in-Body.title c.in-Body.args (leads_on (wiki_setting c.args.wiki.now) _ _ _ c.args.left.now c.leave_body.new.left c.leave_body.new.left
    (body_left (wiki_setting c.args.wiki.now) _ c.args.left.now c.leave_body.new.left c.leave_body.ensures.left)
    (stays (wiki_setting c.args.wiki.now) _ _ c.leave_body.new.left (ap (λ b. plug (wiki_setting c.args.wiki.now) c.args.self.now.stack b c.args.text) (sym c.leave_body.ensures.scene)))) c.leave_body.ensures.left refl)
