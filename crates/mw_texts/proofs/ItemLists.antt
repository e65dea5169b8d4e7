-- The items of a list, one after another, and what their text costs.
use Rattle.std.proofs.Common.{◌≡◌, ◌∙◌, ap, sym, subst, refl, arith, ℕ, zero, suc, ◌+◌, ◌*◌, ◌<◌, List, [], ◌∷◌, ◌++◌, append_assoc, length, length-append, map, drop, get_or, drop-cons, Ok, Err}
use Rattle.std.proofs.lemmas.List.{map-append, length-map}
use Rattle.mw_ustrings.specs.LuaStoreSeen.{StoreView}
use Rattle.mw_ustrings.specs.LuaBasicArguments.{text_bytes}
use Rattle.mw_ustrings.specs.LuaBasicDeclaredStopStop.{Stop}
use Rattle.mw_ustrings.specs.LuaBasicDeclaredTextsTextIn.{TextIn}
use Rattle.mw_ustrings.specs.LuaBasicSeen.{Refuses}
use Rattle.mw_ustrings.specs.LuaMeaningScope.{Bytes}
use Rattle.mw_ustrings.specs.LuaMeaningArguments.{Argument}
use Rattle.mw_text.specs.Answers.{total}
use Rattle.mw_text.specs.Joined.{joined}
use Rattle.mw_ustrings.proofs.ReadArguments.{refuses_through}
use Rattle.mw_texts.specs.Costs.{glue_charge}
use Rattle.mw_ustrings.specs.LuaMeaningTexts.{item_then}

-- items behind those that were read
abbrev pub onto : List Bytes → Argument (List Bytes) → Argument (List Bytes)
onto done (Ok ts) = Ok (done ++ ts)
onto done (Err message) = Err message

pub none_yet : (r : Argument (List Bytes)) → onto [] r ≡ r
none_yet (Ok ts) = refl
none_yet (Err m) = refl

onto_more : (done : List Bytes) (t : Bytes) (r : Argument (List Bytes)) → onto (done ++ t ∷ []) r ≡ onto done (item_then (Ok t) r)
onto_more done t (Ok ts) = ap Ok (append_assoc done (t ∷ []) ts)
onto_more done t (Err m) = refl

-- one more
pub item_read : (old new : List TextIn) (x : TextIn) (a : Argument Bytes) (more whole : Argument (List Bytes)) → new ≡ old ++ x ∷ [] → a ≡ Ok (text_bytes x) → onto (map text_bytes old) (item_then a more) ≡ whole
    → onto (map text_bytes new) more ≡ whole
item_read old new x a more whole is found e =
    ap (λ xs. onto (map text_bytes xs) more) is ∙ ap (λ ts. onto ts more) (map-append text_bytes old (x ∷ [])) ∙ onto_more (map text_bytes old) (text_bytes x) more
    ∙ ap (λ y. onto (map text_bytes old) (item_then y more)) (sym found) ∙ e

-- one that is none
first_refused : (a : Argument Bytes) (more : Argument (List Bytes)) (s t : StoreView) (e : Stop) → Refuses a s t e → Refuses (item_then a more) s t e
first_refused a more s t e none = refuses_through (λ x. item_then x more) (λ m. refl) a s t e none

pub item_refused : (done : List Bytes) (a : Argument Bytes) (more whole : Argument (List Bytes)) (s t : StoreView) (e : Stop) → Refuses a s t e → onto done (item_then a more) ≡ whole → Refuses whole s t e
item_refused done a more whole s t e none is = subst (λ x. Refuses x s t e) is (refuses_through (onto done) (λ m. refl) (item_then a more) s t e (first_refused a more s t e none))

-- THE LENGTH of their text
two_more : (s n : ℕ) → s * suc n ≡ s * n + s
two_more s n = grind arith

lengths : (a b c : Bytes) → length (a ++ (b ++ c)) ≡ length a + (length b + length c)
lengths a b c = let one = length-append a (b ++ c) in let two = length-append b c in omega (arith, one, two)

pub joined_length : (separator conjunction : Bytes) (ts : List Bytes) → length (joined separator conjunction ts) ≡ total ts + glue_charge (length separator) (length conjunction) (length ts)
joined_length s c [] = refl
joined_length s c (a ∷ []) = let one = length-append a [] in omega (arith, one)
joined_length s c (a ∷ (b ∷ [])) =
    let one = lengths a c (joined s c (b ∷ [])) in
    let two = joined_length s c (b ∷ []) in
    let none : length s * 0 ≡ 0 = grind arith in
    omega (arith, one, two, none)
joined_length s c (a ∷ (b ∷ (d ∷ ds))) =
    let one = lengths a s (joined s c (b ∷ (d ∷ ds))) in
    let two = joined_length s c (b ∷ (d ∷ ds)) in
    let three = two_more (length s) (length ds) in
    omega (arith, one, two, three)

-- the items up to one
item-step : (xs : List TextIn) (i : ℕ) (x : TextIn) → i < length xs → x ≡ get_or xs i x → drop i xs ≡ x ∷ drop (i + 1) xs
item-step xs i x h e =
    let next : suc i ≡ i + 1 = omega arith in
    drop-cons xs i x h ∙ ap (λ y. y ∷ drop (suc i) xs) (sym e) ∙ ap (λ n. x ∷ drop n xs) next

pub items_total : (xs : List TextIn) (i : ℕ) (x : TextIn) → i < length xs → x ≡ get_or xs i x → total (map text_bytes (drop i xs)) ≡ length (text_bytes x) + total (map text_bytes (drop (i + 1) xs))
items_total xs i x h e = ap (λ ys. total (map text_bytes ys)) (item-step xs i x h e)

-- what stands between so many items
pub glue_few : (s c n : ℕ) → n < 2 → glue_charge s c n ≡ 0
glue_few s c zero h = refl
glue_few s c (suc zero) h = refl
glue_few s c (suc (suc n)) h = absurd (omega (arith, h))

pub glue_many : (s c n k : ℕ) → k + 2 ≡ n → glue_charge s c n ≡ c + s * k
glue_many s c zero k h = absurd (omega (arith, h))
glue_many s c (suc zero) k h = absurd (omega (arith, h))
glue_many s c (suc (suc n)) k h = let same : n ≡ k = omega (arith, h) in ap (λ x. c + s * x) same

-- the same for items whose texts are those of a store
pub joined_size : (separator conjunction : Bytes) (xs : List TextIn) →
    length (joined separator conjunction (map text_bytes xs)) ≡ total (map text_bytes xs) + glue_charge (length separator) (length conjunction) (length xs)
joined_size s c xs =
    joined_length s c (map text_bytes xs) ∙ ap (λ n. total (map text_bytes xs) + glue_charge (length s) (length c) n) (length-map xs text_bytes)
