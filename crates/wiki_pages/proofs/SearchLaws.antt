-- A search among cases in order of their hashes finds what a look-up finds.
use Rattle.std.proofs.Common.{◌≡◌, ◌≢◌, ℕ, suc, ◌<◌, List, [], ◌∷◌, length, get_or, Some, None, Result, Ok, Err, inl, inr, refl, sym, ap, ◌∙◌, arith}
use Rattle.std.specs.List.Sorted.{IsSorted, IsNonDecreasingBy, IsBinarySearchResult, IsSearchInRange}
use Rattle.std.specs.Map.{keys_of}
use Rattle.std.specs.Ordering.{nat_cmp, ordering_index}
use Rattle.std.proofs.lemmas.Bool.{cases_lt}
use Rattle.std.proofs.lemmas.Bool.Decides.{nat_tests}
use Rattle.std.proofs.lemmas.Cmp.{ranked, nat_eq_equiv}
use Rattle.std.proofs.lemmas.List.{get_or-map}
use Rattle.std.proofs.lemmas.Option.{slice_get-get_or}
use Rattle.std.proofs.lemmas.List.Sorted.{IsNonDecreasingBy-from_sort}
use Rattle.std.proofs.lemmas.Map.Entries.{lookup_from_place, length-keys_of}
use Rattle.wiki_pages.specs.declared.cases.Case.{Case}
use Rattle.wiki_pages.specs.CaseTables.{find_among, InOrder}

pub rising : (cases : List (ℕ × Case)) → IsSorted nat_cmp (keys_of cases) → IsNonDecreasingBy (λ c. c.0) cases
rising cases sorted i j d le lt =
    let count = length-keys_of cases in
    let here = get_or-map (λ c. c.0) cases i d d.0 (omega (arith, le, lt)) in
    let there = get_or-map (λ c. c.0) cases j d d.0 lt in
    let keys = IsNonDecreasingBy-from_sort (λ x. x) (keys_of cases) sorted i j d.0 le (omega (arith, lt, count)) in
    omega (arith, here, there, keys)

-- a hash that no case has is not found
absent : (cases : List (ℕ × Case)) (hash : ℕ) → ((j : ℕ) (d : ℕ × Case) → j < length cases → (get_or cases j d).0 ≢ hash) → find_among cases hash ≡ None
absent [] hash differ = refl
absent (c ∷ cases) hash differ = grind (arith, nat_tests, differ 0 c (omega arith), absent cases hash (λ j d lt. differ (suc j) d (omega (arith, lt))))

module _ (cases : List (ℕ × Case)) (order : InOrder cases) (hash : ℕ) where
  compared : IsNonDecreasingBy (λ c. ordering_index (nat_cmp c.0 hash)) cases
  compared i j d le lt = let keys = order.rising i j d le lt in grind (arith, nat_tests)

  -- what a search that ends so says of a look-up
  abbrev pub Finds : Result ℕ ℕ → Type 0
  Finds (Ok i) = (d : ℕ × Case) → Some (get_or cases i d).1 ≡ find_among cases hash
  Finds (Err i) = None ≡ find_among cases hash

  pub searched : (r : Result ℕ ℕ) → IsSearchInRange r (length cases) → IsBinarySearchResult (λ c. nat_cmp c.0 hash) cases r → Finds r
  searched (Ok i) bound here = λ d.
      let key : (get_or cases i d).0 ≡ hash = ranked _ hash _ (sym (here d)) in
      sym (sym (ap (find_among cases) key) ∙ lookup_from_place nat_eq_equiv cases i (get_or cases i d).0 (get_or cases i d).1 order.distinct (slice_get-get_or cases i d bound))
  searched (Err i) bound parted = sym (absent cases hash (λ j d lt same. elim (cases_lt j i) [
    | inl below ↦ let less = ranked _ hash _ (sym ((parted compared).0 j d (omega arith) below)) in omega (arith, less, same)
    | inr behind ↦ let more = ranked _ hash _ (sym ((parted compared).1 j d behind lt)) in omega (arith, more, same)
  ]))
