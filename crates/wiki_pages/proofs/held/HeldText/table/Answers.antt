use Rattle.std.proofs.Common.{IfSome, subst}
use Rattle.wiki_markup.specs.Nodes.{Marked}
use Rattle.wiki_pages.specs.CaseTables.{IsRight}
use Rattle.wiki_pages.proofs.TableLaws.{table_is}
use Rattle.wiki_pages.proofs.held.HeldText.table.Goals as goal

pub returns-in-Some : goal.returns-in-Some
returns-in-Some c =
    subst (λ (m : Marked). IfSome c.get.result (λ t. IsRight m.nodes c.args.at t.now)) c.self.view_is
    (table_is c.self.inside.marked.nodes c.in-Some.tables c.args.at c.get.result c.get.ensures.value (rw c.in-Some.is at c.self.invariant))
