-- The first fault of a list, step by step, and the titles of names.
use Rattle.std.proofs.Common.{◌≡◌, ℕ, ◌+◌, ◌<◌, ◌||◌, List, [], ◌∷◌, ◌++◌, take, drop, length, get_or, zero, suc, refl, sym, ◌∙◌, ap, arith}
use Rattle.std.specs.Prelude.{Option, Some, None}
use Rattle.std.specs.List.{list_any, filter_map, cons_option}
use Rattle.std.proofs.lemmas.List.{take_more, drop_more}
use Rattle.wk_base.specs.declared.title.Title.{Title}
use Rattle.wk_base.specs.contracts.title.TitlePartialEq.TheImpl as titles
use Rattle.wk_shelf.specs.Folder.{option_or, first_fault, title_fault, title_fault_of, title_of_file, is_title}

-- ---- the first fault of a list

-- where the one at i has no fault, the first is among those after it
pub passes : {A : Type 0} (fault : List A → A → Option (List ℕ)) (xs : List A) (i : ℕ) (x : A) → i < length xs → x ≡ get_or xs i x → fault (take i xs) x ≡ None → first_fault fault (take i xs) (drop i xs) ≡ first_fault fault (take (i + 1) xs) (drop (i + 1) xs)
passes fault xs i x low is none =
    let rest : drop i xs ≡ x ∷ drop (i + 1) xs = drop_more xs i x low ∙ ap (λ y. y ∷ drop (i + 1) xs) (sym is) in
    let before : take i xs ++ x ∷ [] ≡ take (i + 1) xs = ap (λ y. take i xs ++ y ∷ []) is ∙ sym (take_more xs i x low) in
    ap (first_fault fault (take i xs)) rest
    ∙ ap (λ o. option_or o (first_fault fault (take i xs ++ x ∷ []) (drop (i + 1) xs))) none
    ∙ ap (λ ys. first_fault fault ys (drop (i + 1) xs)) before

-- where it has one, that is the first
pub stops : {A : Type 0} (fault : List A → A → Option (List ℕ)) (xs : List A) (i : ℕ) (x : A) (line : List ℕ) → i < length xs → x ≡ get_or xs i x → fault (take i xs) x ≡ Some line → first_fault fault (take i xs) (drop i xs) ≡ Some line
stops fault xs i x line low is some =
    let rest : drop i xs ≡ x ∷ drop (i + 1) xs = drop_more xs i x low ∙ ap (λ y. y ∷ drop (i + 1) xs) (sym is) in
    ap (first_fault fault (take i xs)) rest
    ∙ ap (λ o. option_or o (first_fault fault (take i xs ++ x ∷ []) (drop (i + 1) xs))) some

-- ---- titles

either_title : (title : Title) (o : Option Title) (others : List Title) → list_any (titles.ghosts.eq title) (cons_option o others) ≡ (is_title title o || list_any (titles.ghosts.eq title) others)
either_title title None others = refl
either_title title (Some other) others = refl

-- a title is an earlier name's where it is among the titles of the earlier names
pub is_taken : (title : Title) (names : List (List ℕ)) → list_any (λ other. is_title title (title_of_file other)) names ≡ list_any (titles.ghosts.eq title) (filter_map title_of_file names)
is_taken title [] = refl
is_taken title (n ∷ ns) = ap (λ b. is_title title (title_of_file n) || b) (is_taken title ns) ∙ sym (either_title title (title_of_file n) (filter_map title_of_file ns))

-- without a fault each name has a title
untitled : (earlier : List (List ℕ)) (name : List ℕ) (o : Option Title) (rest : Option (List ℕ)) → option_or (title_fault_of earlier name o) rest ≡ None → o ≡ None → ⊥
untitled earlier name None rest h e = cc
untitled earlier name (Some t) rest h e = cc

rest_has_none : (a b : Option (List ℕ)) → option_or a b ≡ None → b ≡ None
rest_has_none None b h = h
rest_has_none (Some x) b h = absurd cc

pub has_title : (earlier names : List (List ℕ)) (i : ℕ) (d : List ℕ) → first_fault title_fault earlier names ≡ None → i < length names → title_of_file (get_or names i d) ≡ None → ⊥
has_title earlier [] i d h low e = omega arith
has_title earlier (n ∷ ns) zero d h low e = untitled earlier n (title_of_file n) _ h e
has_title earlier (n ∷ ns) (suc i) d h low e = has_title (earlier ++ n ∷ []) ns i d (rest_has_none _ _ h) (omega arith) e
