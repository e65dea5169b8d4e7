use Rattle.std.proofs.Common.{◌≡◌, sym, subst}
use Rattle.std.proofs.lemmas.Result.{IfOk-weaker}
use Rattle.wiki_pages.specs.CaseTables.{InOrder}
use Rattle.wiki_pages.proofs.SearchLaws.{rising}
use Rattle.wiki_pages.proofs.tables.in_order.Goals as goal

pub returns-in-Ok-clause-order : goal.returns-in-Ok-clause-order
returns-in-Ok-clause-order c =
    let order : InOrder c.sort_unstable_keys.new.self.entries = record { rising = rising c.sort_unstable_keys.new.self.entries c.in-Ok.ensures.sorted; distinct = c.sort_unstable_keys.ensures.unique } in
    IfOk-weaker c.listed.result (λ listed. listed.items ≡ c.sort_unstable_keys.new.self.entries) (λ listed. InOrder listed.items) (λ listed e. subst InOrder (sym e) order) c.listed.ensures
