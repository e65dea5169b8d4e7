use Rattle.std.proofs.Common.{ap, sym}
use Rattle.wk_tool.proofs.EndLemmas.{due_kept, ended_has, cut_has}
use Rattle.wiki_tests.proofs.top_call.run_tests.Goals as goal

pub returns-clause-keeps : goal.returns-clause-keeps
returns-clause-keeps g c = due_kept _ _ _ _ _ _ _ _ _ _ _ _ _ _ c.prepare-work.result (λ e. ap g.O.Sink.contents (sym e)) (λ e. ap g.E.Sink.contents (sym e)) c.prepare-work.ensures.prepares c.finish.ensures

pub returns-clause-has_due : goal.returns-clause-has_due
returns-clause-has_due g c = ended_has c.prepare-work.result _ _ _ _ _ _ _ _ _ _ _ c.prepare-work.ensures.has_due c.finish.ensures

pub returns-clause-cut_due : goal.returns-clause-cut_due
returns-clause-cut_due g c = cut_has c.prepare-work.result _ _ _ _ _ _ _ _ _ _ _ _ _ _ _ c.prepare-work.ensures.has_due c.prepare-work.ensures.prepares c.finish.ensures
