use Rattle.std.proofs.Common.{◌∙◌, sym, subst}
use Rattle.wiki_pages.specs.Forests.{Amid}
use Rattle.wiki_pages.specs.CaseTables.{AreRight}
use Rattle.wiki_pages.proofs.preparing.add_tables.Goals as goal

pub loop-parts-preserved : goal.loop-parts-preserved
loop-parts-preserved c =
    let amid : Amid c.in-Some.rest c.loop-parts.parts = rw c.in-Some.is at c.in_ok-rest.ensures.amid in
    record { amid = amid ∙ c.loop-parts.invariant.amid; right = subst (λ ns. AreRight ns c.add_table.new.tables) (sym amid) c.in_ok-rest.ensures.right }

pub returns : goal.returns
returns c = subst (λ ns. AreRight ns c.add_table.new.tables) c.loop-parts.invariant.amid c.in_ok-rest.ensures.right
