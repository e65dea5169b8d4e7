-- Which pages of a folder are shown, and in which order.
use Rattle.std.specs.Prelude.{Bool, true, false, not, List, [], ◌∷◌, map, filter}
use Rattle.std.specs.declared.cmp.Ordering.{Ordering}
use Rattle.std.specs.Ordering.{nat_cmp}
use Rattle.std.specs.Cmp.Lexicographic.{slice_cmp}
use Rattle.std.specs.BTreeSet.{insert_key}
use Rattle.wk_tool.specs.WkBaseDeclaredTitleNamespace.{Namespace}
use Rattle.wk_tool.specs.WkBaseDeclaredTitleNamespaceTheVariants.{Template, Module}
use Rattle.wk_tool.specs.WkBaseDeclaredTitleTitle.{Title}
use Rattle.wk_tool.specs.WkBaseTitles.{title_text}
use Rattle.wk_tool.specs.WkShelfDeclaredFolderFolderPage.{FolderPage}
use Rattle.wiki_output.specs.declared.choice.Titled.{Titled}

-- templates and modules are there for other pages
abbrev pub is_part : Namespace → Bool
is_part Template = true
is_part Module = true
is_part _ = false

abbrev pub is_shown : FolderPage → Bool
is_shown page = not (is_part page.title.ns)

abbrev pub title_of_page : FolderPage → Title
title_of_page page = page.title

-- the titles of the pages that are no parts of others
abbrev pub shown_titles : List FolderPage → List Title
shown_titles pages = map title_of_page (filter is_shown pages)

-- ---- the order of the texts of titles, byte by byte

abbrev pub titled : Title → Titled
titled title = record { text = title_text title; title = title }

abbrev pub title_in : Titled → Title
title_in t = t.title

abbrev pub by_text : Titled → Titled → Ordering
by_text a b = slice_cmp nat_cmp a.text b.text

-- each title at its place among those before it; of two with one text the first counts (a folder has no second one)
abbrev pub with_titles : List Titled → List Title → List Titled
with_titles sorted [] = sorted
with_titles sorted (title ∷ titles) = with_titles (insert_key by_text sorted (titled title)) titles

abbrev pub in_text_order : List Title → List Title
in_text_order titles = map title_in (with_titles [] titles)

-- the titles of a folder that a run over all of its pages shows
abbrev pub all_titles : List FolderPage → List Title
all_titles pages = in_text_order (shown_titles pages)
