-- Pages and titles one behind another.
use Rattle.std.proofs.Common.{◌≡◌, ℕ, ◌+◌, ◌++◌, List, [], ◌∷◌, refl, add-one}
use Rattle.std.specs.BTreeSet.{insert_key}
use Rattle.wk_tool.specs.WkBaseDeclaredTitleTitle.{Title}
use Rattle.wiki_output.specs.declared.choice.Titled.{Titled}
use Rattle.wiki_output.specs.Choice.{by_text, titled, with_titles}
use Rattle.wiki_output.specs.Demo.{demo_page, first_pages}

-- no page
pub none : [] ≡ first_pages 0
unfolding first_pages
none = refl

-- one page more
pub one_more : (n : ℕ) → first_pages n ++ demo_page (n + 1) ∷ [] ≡ first_pages (n + 1)
unfolding first_pages
one_more n = rw (add-one n) refl

-- one title more
pub with_title : (sorted : List Titled) (titles : List Title) (title : Title) → insert_key by_text (with_titles sorted titles) (titled title) ≡ with_titles sorted (titles ++ title ∷ [])
with_title sorted [] title = refl
with_title sorted (other ∷ titles) title = with_title (insert_key by_text sorted (titled other)) titles title
