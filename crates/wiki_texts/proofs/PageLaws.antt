-- The titles that are held are those of the pages.
use Rattle.std.proofs.Common.{◌≡◌, ◌∙◌, refl, sym, ap, Bool, true, false, ◌||◌, List, [], ◌∷◌, ◌++◌, is_some, cond, true≢false}
use Rattle.std.specs.Prelude.{Some, None, if◌then◌else◌}
use Rattle.std.specs.Map.{lookup}
use Rattle.std.proofs.Math.Bool.{or_assoc}
use Rattle.std.proofs.lemmas.List.Folds.{list_any-append}
use Rattle.wiki_pages.specs.WkBaseDeclaredTitleTitle.{Title}
use Rattle.wiki_pages.specs.WkBaseContractsTitleTitlePartialEqTheImpl as titles
use Rattle.lua_code.specs.WkBaseTitles.{is_module}
use Rattle.wiki_markup.proofs.WkBaseTitleLaws.{same_title}
use Rattle.wiki_pages.specs.Pages.{Pages, find_page}
use Rattle.wiki_texts.specs.declared.raw.RawPage.{RawPage}
use Rattle.wiki_texts.specs.Pages.{is_held, entry_of, with_page, with_pages, page_map}

or_no : (b : Bool) → (b || false) ≡ b
or_no true = refl
or_no false = refl

-- what adds nothing new
pub or_kept : (a b : Bool) → (b ≡ true → a ≡ true) → a ≡ (a || b)
or_kept true b h = refl
or_kept false true h = h refl
or_kept false false h = refl

-- an entry more in a list of them
pub entry_more : {K V : Type 0} (p : K → Bool) (es : List (K × V)) (k : K) (v : V) → is_some (lookup p (es ++ (k, v) ∷ [])) ≡ (is_some (lookup p es) || p k)
entry_more p [] k v = go (p k)
  where
    go : (b : Bool) → is_some (cond b (Some v) None) ≡ (false || b)
    go true = refl
    go false = refl
entry_more p (e ∷ es) k v = go (p e.0) (entry_more p es k v)
  where
    go : (b : Bool) → is_some (lookup p (es ++ (k, v) ∷ [])) ≡ (is_some (lookup p es) || p k) → is_some (cond b (Some e.1) (lookup p (es ++ (k, v) ∷ []))) ≡ (is_some (cond b (Some e.1) (lookup p es)) || p k)
    go true later = refl
    go false later = later

-- a page more
pub held_more : (pages : List RawPage) (page : RawPage) (title : Title) → is_held (pages ++ page ∷ []) title ≡ (is_held pages title || titles.ghosts.eq title page.title)
held_more pages page title =
    list_any-append (λ (p : RawPage). titles.ghosts.eq title p.title) pages (page ∷ [])
    ∙ ap (λ (b : Bool). is_held pages title || b) (or_no (titles.ghosts.eq title page.title))

-- the title of a module is that of no other page
pub other_space : (a b : Title) → is_module a.ns ≡ true → is_module b.ns ≡ false → titles.ghosts.eq a b ≡ true → ⊥
other_space a b h n e = true≢false (sym h ∙ ap (λ (t : Title). is_module t.ns) (same_title a b e) ∙ n)

-- ---- the pages by title

held_with : (map : Pages) (page : RawPage) (title : Title) → is_some (find_page (with_page map page) title) ≡ (is_some (find_page map title) || titles.ghosts.eq title page.title)
held_with map page title = go (is_some (find_page map page.title)) refl
  where
    go : (b : Bool) → is_some (find_page map page.title) ≡ b → is_some (find_page (if b then map else map ++ (page.title, entry_of page.bytes) ∷ []) title) ≡ (is_some (find_page map title) || titles.ghosts.eq title page.title)
    go true e = or_kept (is_some (find_page map title)) (titles.ghosts.eq title page.title) (λ same. ap (λ (t : Title). is_some (find_page map t)) (same_title title page.title same) ∙ e)
    go false e = entry_more (titles.ghosts.eq title) map page.title (entry_of page.bytes)

held_after : (map : Pages) (pages : List RawPage) (title : Title) → is_some (find_page (with_pages map pages) title) ≡ (is_some (find_page map title) || is_held pages title)
held_after map [] title = sym (or_no (is_some (find_page map title)))
held_after map (page ∷ pages) title =
    held_after (with_page map page) pages title
    ∙ ap (λ (b : Bool). b || is_held pages title) (held_with map page title)
    ∙ or_assoc (is_some (find_page map title)) (titles.ghosts.eq title page.title) (is_held pages title)

pub map_holds : (pages : List RawPage) (title : Title) → is_some (find_page (page_map pages) title) ≡ is_held pages title
unfolding page_map
map_holds pages title = held_after [] pages title
