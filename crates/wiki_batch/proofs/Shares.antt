-- Pages one behind another.
use Rattle.std.proofs.Common.{◌≡◌, ◌∙◌, ◌++◌, ℕ, List, [], ◌∷◌, refl, sym, ap, option_map}
use Rattle.std.specs.Prelude.{Option, Some, None}
use Rattle.std.specs.List.{filter_map}
use Rattle.std.proofs.lemmas.List.Elements.{filter_map-append}
use Rattle.wk_base.specs.declared.left.Left.{Left}
use Rattle.wk_base.specs.declared.left.Limits.{Limits}
use Rattle.wk_base.specs.declared.title.Title.{Title}
use Rattle.wiki_texts.specs.WikiMarkupTrees.{Trees}
use Rattle.wiki_texts.specs.WikiPagesPages.{Pages, direct_in}
use Rattle.wiki_texts.specs.LuaMeaningWorld.{Modules}
use Rattle.page_driver.specs.Ground.{wiki_in}
use Rattle.page_driver.specs.Page.{full_of, IsHeldPage}
use Rattle.page_driver.specs.declared.wiki.Page.{Page}
use Rattle.page_driver.specs.declared.wiki.Wiki.{Wiki}
use Rattle.wiki_batch.specs.Batch.{page_with, page_of, IsPage, ArePages}

abbrev made : Title → List ℕ → Left → ℕ → Page
made title text left kept = record { title = title; text = text; left = left; repeat_charges = kept }

-- a page of these parts
same_page : (p : Page) (title : Title) (text : List ℕ) (left : Left) (kept : ℕ) → p.title ≡ title → p.text ≡ text → p.left ≡ left → p.repeat_charges ≡ kept → p ≡ made title text left kept
same_page p title text left kept title_is text_is left_is kept_is =
    ap (λ (t : Title). made t p.text p.left p.repeat_charges) title_is
    ∙ ap (λ (t : List ℕ). made title t p.left p.repeat_charges) text_is
    ∙ ap (λ (l : Left). made title text l p.repeat_charges) left_is
    ∙ ap (λ (k : ℕ). made title text left k) kept_is

-- a page that was expanded
pub page_is : (modules : Modules) (map : Pages) (limits : Limits) (title : Title) (k k' : ℕ) (p : Page) → IsHeldPage (wiki_in map modules) title (direct_in map title) (full_of limits) k k' p → page_of modules map limits title ≡ Some p
unfolding page_of
page_is modules map limits title k k' p h = go (direct_in map title) h
  where
    go : (trees : Option Trees) → IsHeldPage (wiki_in map modules) title trees (full_of limits) k k' p → option_map (page_with modules map limits title) trees ≡ Some p
    go (Some t) h = ap Some (sym (same_page p title _ _ _ h.title_is h.text_is h.left_is h.repeat_charges_are))
    go None h = absurd h

-- ---- lists

one : {A B : Type 0} (f : A → Option B) (x : A) (y : B) → f x ≡ Some y → filter_map f (x ∷ []) ≡ y ∷ []
one f x y e = rw e refl

-- no pages yet
pub none_yet : (wiki : Wiki) (limits : Limits) → ArePages wiki limits [] []
none_yet wiki limits modules are = refl

-- one page more
pub with_page : (wiki : Wiki) (limits : Limits) (titles : List Title) (title : Title) (pages : List Page) (p : Page) → ArePages wiki limits titles pages → IsPage wiki limits title p → ArePages wiki limits (titles ++ title ∷ []) (pages ++ p ∷ [])
with_page wiki limits titles title pages p h k modules are =
    let f = page_of modules wiki.pages limits in
    ap (λ (qs : List Page). qs ++ p ∷ []) (h modules are)
    ∙ ap (λ (qs : List Page). filter_map f titles ++ qs) (sym (one f title p (k modules are)))
    ∙ sym (filter_map-append f titles (title ∷ []))

-- pages of two lists of titles, one behind the other
pub both_pages : (wiki : Wiki) (limits : Limits) (titles more : List Title) (ps qs : List Page) → ArePages wiki limits titles ps → ArePages wiki limits more qs → ArePages wiki limits (titles ++ more) (ps ++ qs)
both_pages wiki limits titles more ps qs h k modules are =
    let f = page_of modules wiki.pages limits in
    ap (λ (rs : List Page). rs ++ qs) (h modules are)
    ∙ ap (λ (rs : List Page). filter_map f titles ++ rs) (k modules are)
    ∙ sym (filter_map-append f titles more)
