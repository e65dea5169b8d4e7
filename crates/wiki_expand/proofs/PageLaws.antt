-- A page that is added is held with the trees of its two texts.
use Rattle.std.proofs.Common.{◌≡◌, Bool, true, false, cond, List, [], ◌∷◌, ◌++◌, Option, Some, None, option_map, refl, ap, ◌∙◌, rules}
use Rattle.std.specs.Cmp.Rules.{comparing}
use Rattle.std.specs.Map.{lookup}
use Rattle.wiki_pages.specs.WkBaseDeclaredTitleTitle.{Title}
use Rattle.wiki_pages.specs.WkBaseContractsTitleTitlePartialEqTheImpl as titles
use Rattle.wiki_markup.specs.declared.marked.ShownText.{ShownText}
use Rattle.wiki_markup.specs.Trees.{pairing, marked_of}
use Rattle.wiki_pages.specs.Entries.{Entry}
use Rattle.wiki_pages.specs.ExpandMeaningPlaces.{trees_at}
use Rattle.wiki_pages.specs.Pages.{Pages, find_page, direct_of, included_of, direct_in, included_in}
use Rattle.expand_texts.proofs.ExpandMeaningReadLaws.{pairing_back}

title_itself : (t : Title) → titles.ghosts.eq t t ≡ true
title_itself t = search (comparing, rules)

behind_others : {X : Type 0} (b : Bool) (y x : X) (rest whole : Option X) → cond b (Some y) rest ≡ None → (rest ≡ None → whole ≡ Some x) → cond b (Some y) whole ≡ Some x
behind_others true y x rest whole n f = absurd cc
behind_others false y x rest whole n f = f n

lookup_last : {K X : Type 0} (test : K → Bool) (es : List (K × X)) (k : K) (x : X) → lookup test es ≡ None → test k ≡ true → lookup test (es ++ (k, x) ∷ []) ≡ Some x
lookup_last test [] k x n t = rw t refl
lookup_last test (e ∷ es) k x n t = behind_others (test e.0) e.1 x (lookup test es) (lookup test (es ++ (k, x) ∷ [])) n (λ m. lookup_last test es k x m t)

pub held_last : (pages : Pages) (title : Title) (e : Entry) → find_page pages title ≡ None → find_page (pages ++ (title, e) ∷ []) title ≡ Some e
held_last pages title e n = lookup_last (titles.ghosts.eq title) pages title e n (title_itself title)

pub added_back : (pages : Pages) (title : Title) (e : Entry) (direct transcluded : ShownText) → find_page pages title ≡ None
    → e.direct.nodes ≡ marked_of direct → e.transcluded.nodes ≡ marked_of transcluded
    → (direct_in (pages ++ (title, e) ∷ []) title ≡ Some (pairing direct)) × (included_in (pages ++ (title, e) ∷ []) title ≡ Some (pairing transcluded))
added_back pages title e direct transcluded n d t = (
  ap (option_map direct_of) (held_last pages title e n) ∙ ap (λ ns. Some (trees_at 0 ns)) d ∙ ap (λ ts. Some ts) (pairing_back direct),
  ap (option_map included_of) (held_last pages title e n) ∙ ap (λ ns. Some (trees_at 0 ns)) t ∙ ap (λ ts. Some ts) (pairing_back transcluded),
)
