use Rattle.wiki_pages.proofs.TableLaws.{all_right}
use Rattle.wiki_pages.proofs.preparing.keep.Goals as goal

pub returns-in-Ok : goal.returns-in-Ok
returns-in-Ok c = λ nodes h r. all_right nodes c.args.tables.now c.insert.new.self c.args.at c.in_ok-table.table h (c.in_ok-table.ensures nodes c.args.at r) c.in-Ok.ensures.updates.0
