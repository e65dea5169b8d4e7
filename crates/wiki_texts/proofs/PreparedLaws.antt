-- What is prepared of pages, put together page by page.
use Rattle.std.proofs.Common.{◌≡◌, ◌∙◌, refl, sym, ap, subst, ℕ, ◌+◌, ◌<◌, zero, suc, Bool, true, false, List, [], ◌∷◌, ◌++◌, ◌≤◌, length, take, get_or, arith}
use Rattle.std.specs.Prelude.{Some, None, Result}
use Rattle.std.proofs.lemmas.List.{take_all, take_more}
use Rattle.lua_parser.specs.LuaSyntaxDeclaredFaultFaultAt.{FaultAt}
use Rattle.wiki_markup.specs.Nodes.{Marked}
use Rattle.wiki_markup.specs.declared.marked.Mode.{Mode}
use Rattle.wiki_markup.specs.Formed.{IsMarked}
use Rattle.wiki_markup.proofs.Shapes.{letters_marked}
use Rattle.wiki_pages.specs.Pages.{Pages}
use Rattle.lua_code.specs.declared.proto.Protos.{Protos}
use Rattle.lua_code.specs.Held.{TitledModules, code_seen}
use Rattle.wiki_texts.specs.declared.raw.RawPage.{RawPage}
use Rattle.wiki_texts.specs.declared.prepared.Prepared.{Prepared}
use Rattle.wiki_texts.specs.Pages.{marked_in, with_page, with_pages, page_map}
use Rattle.wiki_texts.specs.Code.{IsCodeOf, Adds, AreCodeOf}
use Rattle.wiki_texts.specs.Prepared.{IsCodeOfPage, IsPrepared, ArePrepared}
use Rattle.wiki_texts.proofs.ModuleLaws.{none_yet}

-- ---- one page

-- what is paired has the form of trees
pub is_formed : (m : Marked) (mode : Mode) (text : List ℕ) → m ≡ marked_in mode text → IsMarked m.nodes
is_formed m mode text e = subst (λ (n : Marked). IsMarked n.nodes) (sym e) (letters_marked _)

-- a page without code is no module, and one with code is one
pub no_module : (b : Bool) (text : List ℕ) → IsCodeOfPage b text None → b ≡ false
no_module false text h = refl
no_module true text h = absurd h

pub is_one : (b : Bool) (text : List ℕ) (code : Result Protos FaultAt) → IsCodeOfPage b text (Some code) → (b ≡ true) × IsCodeOf text (code_seen code)
is_one true text code h = (refl, h)
is_one false text code h = absurd h

-- ---- lists of pages

pub none_prepared : ArePrepared [] []
none_prepared = tt

pub both_prepared : (xs ys : List RawPage) (ps qs : List Prepared) → ArePrepared xs ps → ArePrepared ys qs → ArePrepared (xs ++ ys) (ps ++ qs)
both_prepared [] ys [] qs h k = k
both_prepared [] ys (p ∷ ps) qs h k = absurd h
both_prepared (x ∷ xs) ys [] qs h k = absurd h
both_prepared (x ∷ xs) ys (p ∷ ps) qs h k = (h.0, both_prepared xs ys ps qs h.1 k)

pub one_prepared : (xs : List RawPage) (ps : List Prepared) (x : RawPage) (p : Prepared) → ArePrepared xs ps → IsPrepared x p → ArePrepared (xs ++ x ∷ []) (ps ++ p ∷ [])
one_prepared xs ps x p h k = both_prepared xs (x ∷ []) ps (p ∷ []) h (k, tt)

-- ---- a page more

pages_more : (map : Pages) (pages : List RawPage) (page : RawPage) → with_pages map (pages ++ page ∷ []) ≡ with_page (with_pages map pages) page
pages_more map [] page = refl
pages_more map (p ∷ pages) page = pages_more (with_page map p) pages page

map_more : (pages : List RawPage) (page : RawPage) → page_map (pages ++ page ∷ []) ≡ with_page (page_map pages) page
unfolding page_map
map_more pages page = pages_more [] pages page

map_of_none : page_map [] ≡ []
unfolding page_map
map_of_none = refl

-- what is prepared of the page at a place
at_place : (pages : List RawPage) (ps : List Prepared) (n : ℕ) (page : RawPage) (p : Prepared) → ArePrepared pages ps → n < length ps → (n < length pages) × IsPrepared (get_or pages n page) (get_or ps n p)
at_place [] [] n page p are less = absurd (omega (arith, less))
at_place [] (q ∷ ps) n page p are less = absurd are
at_place (r ∷ pages) [] n page p are less = absurd are
at_place (r ∷ pages) (q ∷ ps) zero page p are less = (omega arith, are.0)
at_place (r ∷ pages) (q ∷ ps) (suc n) page p are less =
    let later = at_place pages ps n page p are.1 (omega (arith, less)) in
    (omega (arith, later.0), later.1)

same_length : (pages : List RawPage) (ps : List Prepared) → ArePrepared pages ps → length ps ≡ length pages
same_length [] [] are = refl
same_length [] (q ∷ ps) are = absurd are
same_length (r ∷ pages) [] are = absurd are
same_length (r ∷ pages) (q ∷ ps) are = ap suc (same_length pages ps are.1)

-- ---- what is held of the first n pages

pub record AreHeld (pages : List RawPage) (n : ℕ) (map : Pages) (held : TitledModules) : Type 0 where
  pub pages_are : map ≡ page_map (take n pages)
  pub code_is : AreCodeOf (take n pages) held

pub nothing_held : (pages : List RawPage) → AreHeld pages 0 [] []
nothing_held pages = record { pages_are = sym map_of_none; code_is = none_yet }

pub one_held : (pages : List RawPage) (n : ℕ) (page : RawPage) (map : Pages) (held more : TitledModules) → n < length pages → page ≡ get_or pages n page → AreHeld pages n map held → Adds page held more → AreHeld pages (n + 1) (with_page map page) more
one_held pages n page map held more less is h adds =
    let longer : take (n + 1) pages ≡ take n pages ++ page ∷ [] = take_more pages n page less ∙ ap (λ (p : RawPage). take n pages ++ p ∷ []) (sym is) in
    record {
      pages_are = ap (λ (m : Pages). with_page m page) h.pages_are ∙ sym (map_more (take n pages) page) ∙ sym (ap page_map longer);
      code_is = subst (λ (ps : List RawPage). AreCodeOf ps more) (sym longer) (adds (take n pages) h.code_is);
    }

pub all_held : (pages : List RawPage) (n : ℕ) (map : Pages) (held : TitledModules) → AreHeld pages n map held → length pages ≤ n → (map ≡ page_map pages) × AreCodeOf pages held
all_held pages n map held h all =
    let whole : take n pages ≡ pages = take_all n pages all in
    (h.pages_are ∙ ap page_map whole, subst (λ (ps : List RawPage). AreCodeOf ps held) whole h.code_is)

-- ---- a turn of the loop over what is prepared, and its end

pub inside : (pages : List RawPage) (ps : List Prepared) (at n : ℕ) → ArePrepared pages ps → at ≡ n → n < length ps → at < length pages
inside pages ps at n are is less = omega (arith, same_length pages ps are, is, less)

pub this_one : (pages : List RawPage) (ps : List Prepared) (at n : ℕ) (page : RawPage) (p : Prepared) → ArePrepared pages ps → at ≡ n → (n < length ps) × (p ≡ get_or ps n p) → page ≡ get_or pages at page → IsPrepared page p
this_one pages ps at n page p are is turn found =
    let Q : ℕ → Type 0 = λ m. IsPrepared (get_or pages m page) p in
    let h : Q n = subst (λ (q : Prepared). IsPrepared (get_or pages n page) q) (sym turn.1) (at_place pages ps n page p are turn.0).1 in
    subst (λ (r : RawPage). IsPrepared r p) (sym found) (subst Q (sym is) h)

pub at_end : (pages : List RawPage) (ps : List Prepared) (at n : ℕ) → ArePrepared pages ps → at ≡ n → n ≡ length ps → length pages ≤ at
at_end pages ps at n are is all = omega (arith, same_length pages ps are, is, all)
