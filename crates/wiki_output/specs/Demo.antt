-- A wiki that the program makes itself: so many pages, with a template and a module.
use Rattle.std.specs.Prelude.{ℕ, zero, suc, List, [], ◌∷◌, ◌++◌, codes}
use Rattle.std.specs.Fmt.{decimal}
use Rattle.wk_tool.specs.WkBaseDeclaredTitleNamespaceTheVariants.{Main, Template, Module}
use Rattle.wk_tool.specs.WkShelfDeclaredFolderFolderPage.{FolderPage}

abbrev pub demo_text : ℕ → List ℕ
demo_text k = codes "{{Row|" ++ decimal k ++ codes "|n={{#invoke:Sum|add|" ++ decimal k ++ codes "|7}}}}"

abbrev pub demo_page : ℕ → FolderPage
demo_page k = record { title = record { ns = Main; name = codes "Page " ++ decimal k }; bytes = demo_text k }

abbrev pub row_page : FolderPage
row_page = record { title = record { ns = Template; name = codes "Row" }; bytes = codes "* {{{1}}}: {{{n}}}" }

abbrev pub sum_page : FolderPage
sum_page = record {
  title = record { ns = Module; name = codes "Sum" };
  bytes = codes "return {add=function(frame) return frame.args[1]+frame.args[2] end}";
}

-- the pages 1 to n
unfoldable pub first_pages : ℕ → List FolderPage
first_pages zero = []
first_pages (suc n) = first_pages n ++ demo_page (suc n) ∷ []

abbrev pub demo_pages : ℕ → List FolderPage
demo_pages n = first_pages n ++ row_page ∷ sum_page ∷ []
