use Rattle.std.proofs.Common.{◌≡◌, ◌≤◌, ◌+◌, ◌*◌, ap, arith}
use Rattle.wiki_expand.specs.Points.{wiki_setting}
use Rattle.wiki_expand.specs.Weights.{chance, chances, allowed}
use Rattle.wiki_expand.proofs.Moves.{leads_on, keeps_on}
use Rattle.wiki_expand.proofs.frame.Machine.run.Goals as goal

pub loop-focus-preserved-in-On : goal.loop-focus-preserved-in-On
loop-focus-preserved-in-On c =
    let falls : allowed c.walk_on.new.left c.walk_on.new.self.stack ≤ allowed c.loop-focus.left c.loop-focus.self.stack = (rw c.in-On.is at c.in_ok-next-in-Walk.ensures.falls).1 in
    record {
      leads = leads_on (wiki_setting c.args.wiki.now) _ _ _ c.args.left.now c.loop-focus.left c.walk_on.new.left c.loop-focus.invariant.leads (rw c.in-Walk.is (rw c.in-On.is at c.in_ok-next-in-Walk.ensures.goes));
      keeps = keeps_on c.args.left.now c.loop-focus.left c.walk_on.new.left c.args.self.now.stack c.loop-focus.self.stack c.walk_on.new.self.stack c.loop-focus.invariant.keeps c.in_ok-next-in-Walk.ensures.keeps;
      falls = omega (arith, falls, c.loop-focus.invariant.falls);
    }

pub returns-in-Deeper-clause-goes : goal.returns-in-Deeper-clause-goes
returns-in-Deeper-clause-goes c = leads_on (wiki_setting c.args.wiki.now) _ _ _ c.args.left.now c.loop-focus.left c.walk_on.new.left c.loop-focus.invariant.leads (rw c.in-Walk.is (rw c.in-Deeper.is at c.in_ok-next-in-Walk.ensures.goes))

pub returns-in-Asks-clause-goes : goal.returns-in-Asks-clause-goes
returns-in-Asks-clause-goes c = leads_on (wiki_setting c.args.wiki.now) _ _ _ c.args.left.now c.loop-focus.left c.walk_on.new.left c.loop-focus.invariant.leads (rw c.in-Walk.is (rw c.in-Asks.is at c.in_ok-next-in-Walk.ensures.goes))

pub loop-focus-preserved : goal.loop-focus-preserved
loop-focus-preserved c =
    let falls : allowed c.resume.new.left c.resume.new.self.stack ≤ 2 * c.loop-focus.left.nodes + (chance c.in-Some.top + chances c.pop.new.self) = (rw c.in-On-2.is at c.in_ok-next-in-Some.ensures.falls).1 in
    let here : chances c.loop-focus.self.stack ≡ chance c.in-Some.top + chances c.pop.new.self = ap chances c.in-Some.ensures in
    record {
      leads = leads_on (wiki_setting c.args.wiki.now) _ _ _ c.args.left.now c.loop-focus.left c.resume.new.left c.loop-focus.invariant.leads (rw c.in-Text.is (rw c.in-Some.ensures (rw c.in-On-2.is at c.in_ok-next-in-Some.ensures.goes)));
      keeps = keeps_on c.args.left.now c.loop-focus.left c.resume.new.left c.args.self.now.stack c.loop-focus.self.stack c.resume.new.self.stack c.loop-focus.invariant.keeps (rw c.in-Some.ensures c.in_ok-next-in-Some.ensures.keeps);
      falls = omega (arith, falls, here, c.loop-focus.invariant.falls);
    }

pub returns-in-Deeper-2-clause-goes : goal.returns-in-Deeper-2-clause-goes
returns-in-Deeper-2-clause-goes c = leads_on (wiki_setting c.args.wiki.now) _ _ _ c.args.left.now c.loop-focus.left c.resume.new.left c.loop-focus.invariant.leads (rw c.in-Text.is (rw c.in-Some.ensures (rw c.in-Deeper-2.is at c.in_ok-next-in-Some.ensures.goes)))

pub returns-in-Asks-2-clause-goes : goal.returns-in-Asks-2-clause-goes
returns-in-Asks-2-clause-goes c = leads_on (wiki_setting c.args.wiki.now) _ _ _ c.args.left.now c.loop-focus.left c.resume.new.left c.loop-focus.invariant.leads (rw c.in-Text.is (rw c.in-Some.ensures (rw c.in-Asks-2.is at c.in_ok-next-in-Some.ensures.goes)))
