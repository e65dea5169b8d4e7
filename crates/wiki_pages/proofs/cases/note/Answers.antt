use Rattle.std.proofs.Common.{◌∙◌, sym}
use Rattle.wiki_pages.specs.CaseTables.{find_in}
use Rattle.wiki_pages.proofs.TableLaws.{noted_before, noted_new}
use Rattle.wiki_pages.proofs.cases.note.Goals as goal

pub returns-then-there-clause-notes : goal.returns-then-there-clause-notes
returns-then-there-clause-notes c = noted_before (find_in c.args.cases.now) c.args.hash c.args.case (sym c.contains_key-there.ensures ∙ c.if-there.true)

pub returns-in-Ok-clause-notes : goal.returns-in-Ok-clause-notes
returns-in-Ok-clause-notes c = noted_new (find_in c.args.cases.now) (find_in c.insert.new.self) c.args.hash c.args.case (sym c.contains_key-there.ensures ∙ c.if-there.false) c.in-Ok.ensures.updates.0
