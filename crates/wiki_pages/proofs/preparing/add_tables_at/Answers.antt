use Rattle.std.proofs.Common.{◌≡◌, sym, subst}
use Rattle.std.specs.Prelude.{OnOk}
use Rattle.wiki_pages.specs.Forests.{nodes_in}
use Rattle.wiki_pages.specs.CaseTables.{AreRight}
use Rattle.wiki_pages.proofs.preparing.add_tables_at.Goals as goal

pub add_tables-requires : goal.add_tables-requires
add_tables-requires c =
    let nodes : nodes_in c.in-Some.parts.nodes ≡ c.args.text.now.nodes = rw c.in-Some.is at c.in_ok-parts.ensures in
    subst (λ ns. AreRight ns c.args.tables.now) (sym nodes) c.requires

pub returns-in-Some : goal.returns-in-Some
returns-in-Some c =
    let nodes : nodes_in c.in-Some.parts.nodes ≡ c.args.text.now.nodes = rw c.in-Some.is at c.in_ok-parts.ensures in
    subst (λ ns. OnOk c.add_tables.result (AreRight ns c.add_tables.new.tables)) nodes c.add_tables.ensures
