use Rattle.std.proofs.Common.{◌∙◌, ◌++◌, List, [], ◌∷◌, ap}
use Rattle.wk_tool.specs.WkShelfDeclaredFolderFolderPage.{FolderPage}
use Rattle.wiki_output.specs.Demo.{first_pages}
use Rattle.wiki_output.proofs.Pages.{none, one_more}
use Rattle.wiki_output.proofs.demo.first_pages.Goals as goal

pub loop-before-init : goal.loop-before-init
loop-before-init c = c.new-pages.ensures ∙ none

pub loop-before-preserved : goal.loop-before-preserved
loop-before-preserved c =
    c.in_ok-push.ensures.ok
    ∙ ap (λ (pages : List FolderPage). pages ++ c.in_ok-page.page ∷ []) c.loop-before.invariant
    ∙ ap (λ (page : FolderPage). first_pages c.loop-before.before ++ page ∷ []) c.in_ok-page.ensures
    ∙ one_more c.loop-before.before
