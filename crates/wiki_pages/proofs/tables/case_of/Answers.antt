use Rattle.std.proofs.Common.{rules}
use Rattle.std.proofs.lemmas.List.Sorted.{answers_always}
use Rattle.wiki_pages.proofs.SearchLaws.{searched}
use Rattle.wiki_pages.proofs.tables.case_of.Goals as goal

pub returns-in-Ok : goal.returns-in-Ok
returns-in-Ok c =
    let by_hash = c.in-Ok.ensures.position (λ case. case.0) (answers_always _ _ _ (λ f a r g called. search rules)) in
    rw c.in-Ok.is at (searched c.args.cases.now c.requires c.args.hash _ c.binary_search_by_key.ensures.bound (c.binary_search_by_key.ensures.position (λ case. case.0) (answers_always _ _ _ (λ f a r g called. search rules)))) _

pub returns-in-Err : goal.returns-in-Err
returns-in-Err c = rw c.in-Err.is at (searched c.args.cases.now c.requires c.args.hash _ c.binary_search_by_key.ensures.bound (c.binary_search_by_key.ensures.position (λ case. case.0) (answers_always _ _ _ (λ f a r g called. search rules))))
