use Rattle.std.proofs.Common.{◌≡◌, ◌∙◌, ◌++◌, List, [], ◌∷◌, ap, append_assoc, rules}
use Rattle.wk_tool.specs.WkShelfDeclaredFolderFolderPage.{FolderPage}
use Rattle.wiki_output.specs.Demo.{first_pages, row_page, sum_page}
use Rattle.wiki_output.proofs.demo.demo_pages.Goals as goal

pub returns : goal.returns
returns c =
    let row_is : c.in_ok-row.row ≡ row_page = search rules in
    let sum_is : c.in_ok-sum.sum ≡ sum_page = search rules in
    c.in_ok-push-2.ensures.ok
    ∙ ap (λ (pages : List FolderPage). pages ++ c.in_ok-sum.sum ∷ []) (c.in_ok-push.ensures.ok ∙ ap (λ (pages : List FolderPage). pages ++ c.in_ok-row.row ∷ []) c.in_ok-pages.ensures)
    ∙ append_assoc (first_pages c.args.count) (c.in_ok-row.row ∷ []) (c.in_ok-sum.sum ∷ [])
    ∙ ap (λ (page : FolderPage). first_pages c.args.count ++ page ∷ c.in_ok-sum.sum ∷ []) row_is
    ∙ ap (λ (page : FolderPage). first_pages c.args.count ++ row_page ∷ page ∷ []) sum_is
