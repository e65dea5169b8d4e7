use Rattle.std.proofs.Common.{sym, subst}
use Rattle.wiki_markup.specs.Nodes.{Marked}
use Rattle.wiki_pages.specs.CaseTables.{AreRight}
use Rattle.wiki_pages.proofs.held.HeldText.prepare.Goals as goal

pub invariant_of-self : goal.invariant_of-self
invariant_of-self c = subst (λ (m : Marked). AreRight m.nodes c.in_ok-tables.tables) (sym c.self.view_is) c.in_ok-tables.ensures
