-- `gsub` does the same to two heaps, of which the first stands in the second: it answers alike, or asks alike behind the same charge.
use Rattle.std.proofs.Common.{◌≡◌, ℕ, ◌+◌, pos, Bool, List, [], length, Option, Some, None, Ok, Err, refl, subst}
use Rattle.std.specs.Prelude.{codes}
use Rattle.lua_meaning.specs.LuaPatternDeclaredItemItem.{Item}
use Rattle.lua_meaning.specs.LuaPatternDeclaredSlotsSlot.{Slot}
use Rattle.lua_meaning.specs.LuaPatternRead.{Read, Fault, Fine, read_of, codes as symbol_codes}
use Rattle.lua_meaning.specs.LuaStringTexts.{how_many}
use Rattle.lua_meaning.specs.LuaStringWalk.{Walk, Stops, Meets, walk}
use Rattle.lua_heap.specs.Value.{Value, Closure, Builtin}
use Rattle.lua_heap.specs.Heap.{Heap}
use Rattle.lua_heap.specs.Related.{Map, Each, none, more, Same, nil, truth, number, text, table, closure, builtin, markup, Stands}
use Rattle.lua_meaning.specs.Scope.{Bytes}
use Rattle.lua_meaning.specs.Iterators.{Stand}
use Rattle.lua_meaning.specs.Arguments.{Argument, with_charge, fails}
use Rattle.lua_meaning.specs.Checks.{malformed}
use Rattle.lua_library_agree.specs.Same.{SamePlain, SameArgument, both_ok, both_err}
use Rattle.lua_library_agree.proofs.Values.{one-each, rest-same, a_text-same, number_or-same, text_charge-same}
use Rattle.lua_library_agree.proofs.Heaps.{costing, failing, charging}
use Rattle.lua_library_agree.proofs.UstringAgree.{utf8_text-same}
use Rattle.lua_library_agree.proofs.IteratorsAgree.{whole-same}
use Rattle.lua_meaning.specs.Gsub.{Alphabet, OfBytes, OfPoints, letters, Replacement, text_in_alphabet, by_text, a_replacement, all_of, Given, then_by, given_in, Replaced, Made, Faulty, replaced_from, at_head, replaced_answer, GsubForm, Job, Far, search_on, search_from, args_charge, by_replacement, by_pattern, by_given, gsub_form}
use Rattle.lua_library_agree.specs.SameGsub.{SameReplacement, same_text, same_table, same_function, given_of, SameGiven, same_given, SameJob, same_job, SameSearch, no_match, same_match, SearchesAgree, SameGsub, alike_answers, alike_asks, GsubAgrees}

-- ARGUMENTS
text_in_alphabet-same : {m : Map} (a : Alphabet) (n : ℕ) {vs ws : List Value} → Each (Same m) vs ws → text_in_alphabet a n vs ≡ text_in_alphabet a n ws
text_in_alphabet-same OfBytes n e = a_text-same n (codes "gsub") e
text_in_alphabet-same OfPoints n e = utf8_text-same n (codes "gsub") e

by_text-same : {m : Map} (x : Argument Bytes) → SameArgument (SameReplacement m) (by_text x) (by_text x)
by_text-same (Ok t) = both_ok _ _ (same_text t)
by_text-same (Err message) = both_err message

by_texts-same : {m : Map} (x y : Argument Bytes) → x ≡ y → SameArgument (SameReplacement m) (by_text x) (by_text y)
by_texts-same {m} x y e = subst (λ z. SameArgument (SameReplacement m) (by_text x) (by_text z)) e (by_text-same x)

a_replacement-same : {m : Map} (a : Alphabet) {vs ws : List Value} → Each (Same m) vs ws → SameArgument (SameReplacement m) (a_replacement a vs) (a_replacement a ws)
a_replacement-same a none = by_text-same (text_in_alphabet a 3 [])
a_replacement-same a (more _ _ xs ys nil e) = by_texts-same _ _ (text_in_alphabet-same a 3 (more _ _ xs ys nil e))
a_replacement-same a (more _ _ xs ys (truth b) e) = by_texts-same _ _ (text_in_alphabet-same a 3 (more _ _ xs ys (truth b) e))
a_replacement-same a (more _ _ xs ys (number z) e) = by_texts-same _ _ (text_in_alphabet-same a 3 (more _ _ xs ys (number z) e))
a_replacement-same a (more _ _ xs ys (text t) e) = by_texts-same _ _ (text_in_alphabet-same a 3 (more _ _ xs ys (text t) e))
a_replacement-same a (more _ _ xs ys (table i j x) e) = both_ok _ _ (same_table i j (table i j x))
a_replacement-same a (more _ _ xs ys (closure i j x) e) = both_ok _ _ (same_function (Closure i) (Closure j) (closure i j x))
a_replacement-same a (more _ _ xs ys (builtin b) e) = both_ok _ _ (same_function (Builtin b) (Builtin b) (builtin b))
a_replacement-same a (more _ _ xs ys (markup i j x) e) = by_texts-same _ _ (text_in_alphabet-same a 3 (more _ _ xs ys (markup i j x) e))

then-same : {X Y Z : Type 0} {P : Y → Z → Type 0} (c : Argument X) (f : X → Argument Y) (g : X → Argument Z) → ((x : X) → SameArgument P (f x) (g x)) → SameArgument P (then_by c f) (then_by c g)
then-same (Ok x) f g k = k x
then-same (Err message) f g k = both_err message

then-equal : {X Y Z : Type 0} {P : Y → Z → Type 0} (c d : Argument X) (f : X → Argument Y) (g : X → Argument Z) → c ≡ d → ((x : X) → SameArgument P (f x) (g x)) → SameArgument P (then_by c f) (then_by d g)
then-equal {X} {Y} {Z} {P} c d f g e k = subst (λ d. SameArgument P (then_by c f) (then_by d g)) e (then-same c f g k)

then-related : {X W Y Z : Type 0} {Q : X → W → Type 0} {P : Y → Z → Type 0} {c : Argument X} {d : Argument W} (f : X → Argument Y) (g : W → Argument Z) → SameArgument Q c d
    → ((x : X) (w : W) → Q x w → SameArgument P (f x) (g w)) → SameArgument P (then_by c f) (then_by d g)
then-related f g (both_ok x w q) k = k x w q
then-related f g (both_err message) k = both_err message

given_in-same : {m : Map} (a : Alphabet) {vs ws : List Value} → Each (Same m) vs ws → SameArgument (SameGiven m) (given_in a vs) (given_in a ws)
given_in-same a e =
    then-equal _ _ _ _ (text_in_alphabet-same a 1 e) (λ s.
    then-equal _ _ _ _ (text_in_alphabet-same a 2 (rest-same e)) (λ pattern.
    then-related _ _ (a_replacement-same a (rest-same (rest-same e))) (λ x y same.
    then-equal _ _ _ _ (number_or-same (all_of s) (all_of s) refl 4 (codes "gsub") (rest-same (rest-same (rest-same e)))) (λ n.
    both_ok _ _ (same_given s pattern x y (how_many n) same)))))

args_charge-same : {m : Map} (a : Alphabet) {vs ws : List Value} → Each (Same m) vs ws → args_charge a vs ≡ args_charge a ws
args_charge-same OfBytes e = refl
args_charge-same OfPoints e = text_charge-same e

pub job-by : {m : Map} {x y : Job} → SameJob m x y → SameReplacement m x.by y.by
job-by (same_job a t anchored items slots x y e) = e

-- A SEARCH
walk-same : {m : Map} {x y : Job} → SameJob m x y → (limit : ℕ) (far : Far) (at : Stand) (w : Walk) → SameSearch m x y limit (search_on x limit far at w) (search_on y limit far at w)
walk-same (same_job a t anchored items slots x y e) limit far at (Stops tries) = no_match tries
walk-same (same_job a t anchored items slots x y e) limit far at (Meets tries step next) = same_match _ _ _ _ _ (whole-same (letters a) t at _ _)

stand-same : {m : Map} {x y : Job} → SameJob m x y → (limit : ℕ) (far : Far) (o : Option Stand) → SameSearch m x y limit (search_from x limit far o) (search_from y limit far o)
stand-same j limit far None = no_match 0
stand-same (same_job a t anchored items slots x y e) limit far (Some at) = walk-same (same_job a t anchored items slots x y e) limit far at (walk (letters a) anchored items t at.at)

pub searches_agree : SearchesAgree
searches_agree m x y j limit far = stand-same j limit far far.next

-- THE FUNCTION
module _ {X Y : Type 0} (R : Map → X → Y → Type 0) (m : Map) (h : Heap X) (s : Heap Y) (st : Stands R m h s) where
  abbrev Alike : GsubForm X → GsubForm Y → Type 0
  Alike a b = SameGsub R m h s a b

  failing-behind : (n : ℕ) (message : Bytes) → SamePlain R m h s (with_charge n (fails h message)) (with_charge n (fails s message))
  failing-behind n message = charging R m h s st n n refl _ _ (failing R m h s st message)

  replaced-same : (r : Replaced) → SamePlain R m h s (replaced_answer h r) (replaced_answer s r)
  replaced-same (Made n t count) = costing R m h s st n n refl (more _ _ _ _ (text t) (one-each (number (pos count))))
  replaced-same (Faulty n fault) = failing-behind n (malformed fault)

  by_replacement-same : (a : Alphabet) (n : ℕ) (t p : Bytes) (limit : ℕ) (anchored : Bool) (items : List Item) (slots : List Slot) (u v : Replacement) {x y : Replacement} → SameReplacement m x y
      → Alike (by_replacement a h n (given_of t p u limit) anchored items slots x) (by_replacement a s n (given_of t p v limit) anchored items slots y)
  by_replacement-same a n t p limit anchored items slots u v (same_text r) =
      alike_answers _ _ (charging R m h s st n n refl _ _ (replaced-same (replaced_from (letters a) anchored items slots t r limit 0 (Some at_head))))
  by_replacement-same a n t p limit anchored items slots u v (same_table i j e) = alike_asks n _ _ limit (same_job a t anchored items slots _ _ (same_table i j e))
  by_replacement-same a n t p limit anchored items slots u v (same_function f g e) = alike_asks n _ _ limit (same_job a t anchored items slots _ _ (same_function f g e))

  by_pattern-same : (a : Alphabet) (n : ℕ) (t p : Bytes) (limit : ℕ) {x y : Replacement} → SameReplacement m x y → (read : Read)
      → Alike (by_pattern a h n (given_of t p x limit) read) (by_pattern a s n (given_of t p y limit) read)
  by_pattern-same a n t p limit e (Fault fault) = alike_answers _ _ (failing-behind n (malformed fault))
  by_pattern-same a n t p limit {x} {y} e (Fine anchored items slots) = by_replacement-same a n t p limit anchored items slots x y e

  by_given-same : (a : Alphabet) (n : ℕ) {c d : Argument Given} → SameArgument (SameGiven m) c d → Alike (by_given a h n c) (by_given a s n d)
  by_given-same a n (both_err message) = alike_answers _ _ (failing-behind n message)
  by_given-same a n (both_ok _ _ (same_given t p x y limit e)) = by_pattern-same a (n + length p) t p limit e (read_of (symbol_codes (letters a) p))

  pub gsub_form-same : (a : Alphabet) (vs ws : List Value) → Each (Same m) vs ws → Alike (gsub_form a vs h) (gsub_form a ws s)
  gsub_form-same a vs ws e =
      subst (λ n. Alike (by_given a h (args_charge a vs) (given_in a vs)) (by_given a s n (given_in a ws))) (args_charge-same a e)
      (by_given-same a (args_charge a vs) (given_in-same a e))

pub gsub_agrees : {X Y : Type 0} (R : Map → X → Y → Type 0) → GsubAgrees R
gsub_agrees R m h s st a vs ws e = gsub_form-same R m h s st a vs ws e
