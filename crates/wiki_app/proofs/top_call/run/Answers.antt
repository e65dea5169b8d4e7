use Rattle.std.proofs.Common.{refl, inl, sym, ap}
use Rattle.std.specs.Prelude.{Ok, Err}
use Rattle.wk_tool.specs.declared.ending.Unread.TheVariants.{NoMemory}
use Rattle.wk_tool.specs.Report.{usage_report}
use Rattle.wk_tool.proofs.EndLemmas.{other, uncut, due_kept, ended_has, cut_line}
use Rattle.wiki_app.specs.Report.{usage}
use Rattle.wiki_app.proofs.RunLemmas.{usage_prepared, usage_meant, work_prepared, work_meant}
use Rattle.wiki_app.proofs.top_call.run.Goals as goal

-- ---- a command

pub returns-in-Ok-Some-clause-keeps : goal.returns-in-Ok-Some-clause-keeps
returns-in-Ok-Some-clause-keeps g c =
    due_kept _ _ _ _ _ _ _ _ _ _ _ _ _ _ c.prepare-work.result (λ e. ap g.O.Sink.contents (sym e)) (λ e. ap g.E.Sink.contents (sym e))
    (work_prepared _ _ _ c.prepare-work.result (rw c.in-Ok-Some.field-0-is at c.in-Ok-Some.ensures.command) _ c.prepare-work.ensures.report c.prepare-work.ensures.work c.prepare-work.ensures.cause)
    c.finish.ensures

pub returns-in-Ok-Some-clause-has_modules : goal.returns-in-Ok-Some-clause-has_modules
returns-in-Ok-Some-clause-has_modules g c =
    ended_has c.prepare-work.result _ _ _ _ _ _ _ _ _ _ _ (work_meant _ _ _ c.prepare-work.result (rw c.in-Ok-Some.field-0-is at c.in-Ok-Some.ensures.command) c.prepare-work.ensures.has_modules) c.finish.ensures

pub returns-in-Ok-Some-clause-cut_meant : goal.returns-in-Ok-Some-clause-cut_meant
returns-in-Ok-Some-clause-cut_meant g c =
    cut_line c.prepare-work.result _ _ _ _ _ _ _ _ _ _ _ _ _ _ _ (work_meant _ _ _ c.prepare-work.result (rw c.in-Ok-Some.field-0-is at c.in-Ok-Some.ensures.command) c.prepare-work.ensures.has_modules)
    (work_prepared _ _ _ c.prepare-work.result (rw c.in-Ok-Some.field-0-is at c.in-Ok-Some.ensures.command) _ c.prepare-work.ensures.report c.prepare-work.ensures.work c.prepare-work.ensures.cause)
    c.finish.ensures

-- ---- no command

pub returns-in-Ok-None-clause-keeps : goal.returns-in-Ok-None-clause-keeps
returns-in-Ok-None-clause-keeps g c =
    due_kept _ _ _ _ _ _ _ _ _ _ _ _ _ _ (Ok (usage_report usage)) (λ e. ap g.O.Sink.contents (sym e)) (λ e. ap g.E.Sink.contents (sym e))
    (usage_prepared _ _ (rw c.in-Ok-None.field-0-is at c.in-Ok-None.ensures.command)) c.finish_usage.ensures.ends

pub returns-in-Ok-None-clause-has_modules : goal.returns-in-Ok-None-clause-has_modules
returns-in-Ok-None-clause-has_modules g c = λ kept. usage_meant _ _ (rw c.in-Ok-None.field-0-is at c.in-Ok-None.ensures.command)

pub returns-in-Ok-None-clause-cut_meant : goal.returns-in-Ok-None-clause-cut_meant
returns-in-Ok-None-clause-cut_meant g c = λ is. inl (usage_meant _ _ (rw c.in-Ok-None.field-0-is at c.in-Ok-None.ensures.command))

-- ---- memory ran out while the words were read

pub returns-in-Err-clause-keeps : goal.returns-in-Err-clause-keeps
returns-in-Err-clause-keeps g c =
    due_kept _ _ _ _ _ _ _ _ _ _ _ _ _ _ (Err NoMemory) (λ e. ap g.O.Sink.contents (sym e)) (λ e. ap g.E.Sink.contents (sym e)) tt (refl, (c.code.ensures, refl))

pub returns-in-Err-clause-has_modules : goal.returns-in-Err-clause-has_modules
returns-in-Err-clause-has_modules g c = λ kept. uncut _ 6 c.code.ensures refl kept

pub returns-in-Err-clause-cut_meant : goal.returns-in-Err-clause-cut_meant
returns-in-Err-clause-cut_meant g c = λ is. other _ 6 5 c.code.ensures is refl
