use Rattle.std.proofs.Common.{◌≡◌, ◌<◌, ◌∙◌, [], ap, sym, arith}
use Rattle.page_run.specs.Run.{Ends}
use Rattle.wiki_expand.specs.Points.{Leads, wiki_setting, run_at}
use Rattle.wiki_expand.specs.Weights.{allowed}
use Rattle.wiki_expand.proofs.Moves.{leads_on, stays, keeps_on}
use Rattle.wiki_expand.proofs.frame.Machine.next_move.Goals as goal

pub loop-next-preserved : goal.loop-next-preserved
loop-next-preserved c =
    let falls : allowed c.run.new.left c.run.new.self.stack < allowed c.loop-next.left c.loop-next.self.stack = rw c.in-Deeper.is at c.in_ok-next.ensures.falls in
    record {
      leads = leads_on (wiki_setting c.args.wiki.now) _ _ _ c.args.left.now c.loop-next.left c.run.new.left c.loop-next.invariant.leads (rw c.in-Deeper.is at c.in_ok-next.ensures.goes);
      keeps = keeps_on c.args.left.now c.loop-next.left c.run.new.left c.args.self.now.stack c.loop-next.self.stack c.run.new.self.stack c.loop-next.invariant.keeps c.in_ok-next.ensures.keeps;
      falls = omega (arith, falls, c.loop-next.invariant.falls);
    }

pub returns-in-Asks-clause-moves : goal.returns-in-Asks-clause-moves
returns-in-Asks-clause-moves c = leads_on (wiki_setting c.args.wiki.now) _ _ _ c.args.left.now c.loop-next.left c.run.new.left c.loop-next.invariant.leads (rw c.in-Asks.is at c.in_ok-next.ensures.goes)

pub returns-in-Ended-clause-moves : goal.returns-in-Ended-clause-moves
returns-in-Ended-clause-moves c =
    let end : Leads (wiki_setting c.args.wiki.now) (run_at c.args.wiki.now c.loop-next.self c.loop-next.focus) c.loop-next.left (Ends c.in-Ended.text) c.run.new.left × (c.run.new.self.stack ≡ []) = rw c.in-Ended.is at c.in_ok-next.ensures.goes in (
      leads_on (wiki_setting c.args.wiki.now) _ _ _ c.args.left.now c.loop-next.left c.run.new.left c.loop-next.invariant.leads
          (leads_on (wiki_setting c.args.wiki.now) _ _ _ c.loop-next.left c.run.new.left c.run.new.left end.0 (stays (wiki_setting c.args.wiki.now) _ _ c.run.new.left (ap Ends (sym (c.of_vec.ensures ∙ c.in_ok-bytes-in-Ended.ensures))))),
      end.1,
    )
