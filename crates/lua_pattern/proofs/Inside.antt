-- Where the places of a match lie.
use Rattle.std.proofs.Common.{◌≡◌, ℕ, zero, suc, ◌+◌, ◌-◌, ◌≤◌, Bool, true, false, cond, ◌==◌, Option, Some, None, List, [], ◌∷◌, ◌++◌, length, take, drop, slice_index, refl, sym, ◌∙◌, ap, subst, arith, add_assoc}
use Rattle.std.proofs.lemmas.List.{drop-drop}
use Rattle.lua_pattern.specs.declared.item.Single.{Single}
use Rattle.lua_pattern.specs.declared.item.Item.{Item}
use Rattle.lua_pattern.specs.declared.item.Item.TheVariants.{One, Star, Plus, Minus, Maybe, Back, Balance, Frontier, Mark, End}
use Rattle.lua_pattern.specs.Letters.{Letters, Symbol, IsFirst, IsAlphabet}
use Rattle.lua_pattern.specs.Single.{fits}
use Rattle.lua_pattern.specs.Places.{Repeats, KeepsPlaces}
use Rattle.lua_pattern.specs.Way.{Answer, At, Nowhere, starting, answer_costs, answer_or_else, first_of, first, Outcome, Hit, Miss, Rest, costs, or_else, one, comparisons, most_first, star, least_first, maybe, begins, bytes_compared, between_marks, same_again, longer, closing, after_closing, balanced, is_frontier, test_way, item_way, way}

-- What holds, by P, of each place that a match comes to, and by M of each mark.
pub record Holds (a : Letters) (subject : List ℕ) (P M : ℕ → Type 0) : Type 0 where
  pub step : (at : ℕ) (c : Symbol) (cs : List Symbol) → P at → a.symbols (drop at subject) ≡ c ∷ cs → P (at + c.size)
  pub again : (at from to : ℕ) → P at → M from → M to → Repeats subject from to at →
      P (at + length (take (to - from) (drop from subject)))
  pub mark : (at : ℕ) → P at → M at
  pub zero_mark : M 0

abbrev pub AllMarks : (ℕ → Type 0) → List ℕ → Type 0
AllMarks M marks = (k : ℕ) → M (slice_index marks k)

abbrev pub Holding : (ℕ → Type 0) → (ℕ → Type 0) → Outcome → Type 0
Holding P M (Hit end marks n) = P end × AllMarks M marks
Holding P M (Miss n) = Unit {0}

abbrev pub RestHolds : (ℕ → Type 0) → (ℕ → Type 0) → Rest → Type 0
RestHolds P M R = (at : ℕ) (marks : List ℕ) → P at → AllMarks M marks → Holding P M (R at marks)

marks_more : (M : ℕ → Type 0) (marks : List ℕ) (at : ℕ) → AllMarks M marks → M at → M 0 → AllMarks M (marks ++ at ∷ [])
marks_more M [] at h m z zero = m
marks_more M [] at h m z (suc k) = z
marks_more M (x ∷ xs) at h m z zero = h zero
marks_more M (x ∷ xs) at h m z (suc k) = marks_more M xs at (λ j. h (suc j)) m z k

costs_holds : (P M : ℕ → Type 0) (n : ℕ) (o : Outcome) → Holding P M o → Holding P M (costs n o)
costs_holds P M n (Hit end marks m) h = h
costs_holds P M n (Miss m) h = tt

else_holds : (P M : ℕ → Type 0) (o p : Outcome) → Holding P M o → Holding P M p → Holding P M (or_else o p)
else_holds P M (Hit end marks m) p h k = h
else_holds P M (Miss m) p h k = costs_holds P M m p k

cond_holds : (P M : ℕ → Type 0) (b : Bool) (o p : Outcome) → Holding P M o → Holding P M p → Holding P M (cond b o p)
cond_holds P M true o p h k = h
cond_holds P M false o p h k = k

tested_holds : (P M : ℕ → Type 0) (b : Bool) (R : Rest) (at : ℕ) (marks : List ℕ) → Holding P M (R at marks) → Holding P M (test_way b R at marks)
tested_holds P M b R at marks h = costs_holds P M 1 (cond b (R at marks) (Miss 0)) (cond_holds P M b (R at marks) (Miss 0) h tt)

-- the symbols behind the first one
later : (a : Letters) → IsAlphabet a → (subject : List ℕ) (at : ℕ) (c : Symbol) (cs : List Symbol) →
    a.symbols (drop at subject) ≡ c ∷ cs → a.symbols (drop (at + c.size) subject) ≡ cs
later a law subject at c cs e =
    let f : IsFirst a (drop at subject) c cs = law.first (drop at subject) c cs e in
    ap a.symbols (sym (drop-drop c.size at subject)) ∙ sym f.rest

one_holds : (a : Letters) (subject : List ℕ) (P M : ℕ → Type 0) → Holds a subject P M → (x : Single) (cs : List Symbol) (R : Rest) (at : ℕ) (marks : List ℕ) →
    a.symbols (drop at subject) ≡ cs → P at → AllMarks M marks → RestHolds P M R → Holding P M (one a x cs R at marks)
one_holds a subject P M H x [] R at marks e p m r = tt
one_holds a subject P M H x (c ∷ cs) R at marks e p m r =
    costs_holds P M 1 (cond (fits a x c.code) (R (at + c.size) marks) (Miss 0))
    (cond_holds P M (fits a x c.code) (R (at + c.size) marks) (Miss 0) (r (at + c.size) marks (H.step at c cs p e) m) tt)

most_holds : (a : Letters) → IsAlphabet a → (subject : List ℕ) (P M : ℕ → Type 0) → Holds a subject P M → (x : Single) (cs : List Symbol) (R : Rest) (at : ℕ) (marks : List ℕ) →
    a.symbols (drop at subject) ≡ cs → P at → AllMarks M marks → RestHolds P M R → Holding P M (most_first a x cs R at marks)
most_holds a law subject P M H x [] R at marks e p m r = r at marks p m
most_holds a law subject P M H x (c ∷ cs) R at marks e p m r =
    let more : Holding P M (most_first a x cs R (at + c.size) marks) =
    most_holds a law subject P M H x cs R (at + c.size) marks (later a law subject at c cs e) (H.step at c cs p e) m r in
    cond_holds P M (fits a x c.code) (or_else (most_first a x cs R (at + c.size) marks) (R at marks)) (R at marks)
    (else_holds P M (most_first a x cs R (at + c.size) marks) (R at marks) more (r at marks p m)) (r at marks p m)

star_holds : (a : Letters) → IsAlphabet a → (subject : List ℕ) (P M : ℕ → Type 0) → Holds a subject P M → (x : Single) (R : Rest) (at : ℕ) (marks : List ℕ) →
    P at → AllMarks M marks → RestHolds P M R → Holding P M (star a x (a.symbols (drop at subject)) R at marks)
star_holds a law subject P M H x R at marks p m r =
    let cs : List Symbol = a.symbols (drop at subject) in
    costs_holds P M (comparisons a x cs) (most_first a x cs R at marks) (most_holds a law subject P M H x cs R at marks refl p m r)

least_holds : (a : Letters) → IsAlphabet a → (subject : List ℕ) (P M : ℕ → Type 0) → Holds a subject P M → (x : Single) (cs : List Symbol) (R : Rest) (at : ℕ) (marks : List ℕ) →
    a.symbols (drop at subject) ≡ cs → P at → AllMarks M marks → RestHolds P M R → Holding P M (least_first a x cs R at marks)
least_holds a law subject P M H x [] R at marks e p m r = r at marks p m
least_holds a law subject P M H x (c ∷ cs) R at marks e p m r =
    let more : Holding P M (least_first a x cs R (at + c.size) marks) =
    least_holds a law subject P M H x cs R (at + c.size) marks (later a law subject at c cs e) (H.step at c cs p e) m r in
    let tail : Outcome = cond (fits a x c.code) (least_first a x cs R (at + c.size) marks) (Miss 0) in
    else_holds P M (R at marks) (costs 1 tail) (r at marks p m)
    (costs_holds P M 1 tail (cond_holds P M (fits a x c.code) (least_first a x cs R (at + c.size) marks) (Miss 0) more tt))

maybe_holds : (a : Letters) (subject : List ℕ) (P M : ℕ → Type 0) → Holds a subject P M → (x : Single) (cs : List Symbol) (R : Rest) (at : ℕ) (marks : List ℕ) →
    a.symbols (drop at subject) ≡ cs → P at → AllMarks M marks → RestHolds P M R → Holding P M (maybe a x cs R at marks)
maybe_holds a subject P M H x [] R at marks e p m r = r at marks p m
maybe_holds a subject P M H x (c ∷ cs) R at marks e p m r =
    let both : Outcome = or_else (R (at + c.size) marks) (R at marks) in
    costs_holds P M 1 (cond (fits a x c.code) both (R at marks))
    (cond_holds P M (fits a x c.code) both (R at marks)
    (else_holds P M (R (at + c.size) marks) (R at marks) (r (at + c.size) marks (H.step at c cs p e) m) (r at marks p m)) (r at marks p m))

again_holds : (a : Letters) (subject : List ℕ) (P M : ℕ → Type 0) → Holds a subject P M → (left right : ℕ) (R : Rest) (at : ℕ) (marks : List ℕ) →
    P at → AllMarks M marks → RestHolds P M R → Holding P M (same_again (between_marks subject left right marks) (drop at subject) R at marks)
again_holds a subject P M H left right R at marks p m r =
    let word : List ℕ = between_marks subject left right marks in
    costs_holds P M (bytes_compared word (drop at subject)) (cond (begins word (drop at subject)) (R (at + length word) marks) (Miss 0))
    (elim (begins word (drop at subject)) as (λ v. begins word (drop at subject) ≡ v → Holding P M (cond v (R (at + length word) marks) (Miss 0))) [
      | true ↦ λ h. r (at + length word) marks (H.again at (slice_index marks left) (slice_index marks right) p (m left) (m right) h) m
      | false ↦ λ h. tt
    ] refl)

-- A text that closes each mark ends at such a place.
Ends : (ℕ → Type 0) → ℕ → Option (ℕ × ℕ) → Type 0
Ends P at None = Unit {0}
Ends P at (Some q) = P (at + q.1)

ends_longer : (P : ℕ → Type 0) (at : ℕ) (c : Symbol) (o : Option (ℕ × ℕ)) → Ends P (at + c.size) o → Ends P at (longer c o)
unfolding Ends
ends_longer P at c None h = tt
ends_longer P at c (Some q) h = subst P (add_assoc at c.size q.1) h

ends_cond : (P : ℕ → Type 0) (at : ℕ) (b : Bool) (o q : Option (ℕ × ℕ)) → Ends P at o → Ends P at q → Ends P at (cond b o q)
ends_cond P at true o q h k = h
ends_cond P at false o q h k = k

closing_ends : (a : Letters) → IsAlphabet a → (subject : List ℕ) (P M : ℕ → Type 0) → Holds a subject P M → (x y depth : ℕ) (cs : List Symbol) (at : ℕ) →
    a.symbols (drop at subject) ≡ cs → P at → Ends P at (closing x y depth cs)
unfolding Ends
closing_ends a law subject P M H x y depth [] at e p = tt
closing_ends a law subject P M H x y zero (c ∷ cs) at e p =
    let next : P (at + c.size) = H.step at c cs p e in
    let rest : a.symbols (drop (at + c.size) subject) ≡ cs = later a law subject at c cs e in
    let o : Option (ℕ × ℕ) = cond (c.code == x) (closing x y 1 cs) (closing x y 0 cs) in
    ends_cond P at (c.code == y) (Some (1, c.size)) (longer c o) next
    (ends_longer P at c o (ends_cond P (at + c.size) (c.code == x) (closing x y 1 cs) (closing x y 0 cs)
    (closing_ends a law subject P M H x y 1 cs (at + c.size) rest next) (closing_ends a law subject P M H x y 0 cs (at + c.size) rest next)))
closing_ends a law subject P M H x y (suc depth) (c ∷ cs) at e p =
    let next : P (at + c.size) = H.step at c cs p e in
    let rest : a.symbols (drop (at + c.size) subject) ≡ cs = later a law subject at c cs e in
    let more : Option (ℕ × ℕ) = cond (c.code == x) (closing x y (suc (suc depth)) cs) (closing x y (suc depth) cs) in
    let o : Option (ℕ × ℕ) = cond (c.code == y) (closing x y depth cs) more in
    ends_longer P at c o (ends_cond P (at + c.size) (c.code == y) (closing x y depth cs) more
    (closing_ends a law subject P M H x y depth cs (at + c.size) rest next)
    (ends_cond P (at + c.size) (c.code == x) (closing x y (suc (suc depth)) cs) (closing x y (suc depth) cs)
    (closing_ends a law subject P M H x y (suc (suc depth)) cs (at + c.size) rest next) (closing_ends a law subject P M H x y (suc depth) cs (at + c.size) rest next)))

after_holds : (P M : ℕ → Type 0) (o : Option (ℕ × ℕ)) (whole : ℕ) (R : Rest) (at : ℕ) (marks : List ℕ) →
    Ends P at o → AllMarks M marks → RestHolds P M R → Holding P M (after_closing o whole R at marks)
unfolding Ends
after_holds P M None whole R at marks h m r = tt
after_holds P M (Some q) whole R at marks h m r = costs_holds P M q.0 (R (at + q.1) marks) (r (at + q.1) marks h m)

balanced_holds : (a : Letters) → IsAlphabet a → (subject : List ℕ) (P M : ℕ → Type 0) → Holds a subject P M → (x y : ℕ) (cs : List Symbol) (R : Rest) (at : ℕ) (marks : List ℕ) →
    a.symbols (drop at subject) ≡ cs → P at → AllMarks M marks → RestHolds P M R → Holding P M (balanced x y cs R at marks)
balanced_holds a law subject P M H x y [] R at marks e p m r = tt
balanced_holds a law subject P M H x y (c ∷ cs) R at marks e p m r =
    let o : Option (ℕ × ℕ) = closing x y 0 cs in
    let after : Outcome = after_closing o (length cs) R (at + c.size) marks in
    costs_holds P M 1 (cond (c.code == x) after (Miss 0))
    (cond_holds P M (c.code == x) after (Miss 0)
    (after_holds P M o (length cs) R (at + c.size) marks
    (closing_ends a law subject P M H x y 0 cs (at + c.size) (later a law subject at c cs e) (H.step at c cs p e)) m r) tt)

passed_holds : (a : Letters) → IsAlphabet a → (subject : List ℕ) (P M : ℕ → Type 0) → Holds a subject P M → (item : Item) (R : Rest) (at : ℕ) (marks : List ℕ) →
    P at → AllMarks M marks → RestHolds P M R → Holding P M (item_way a item subject R at marks)
passed_holds a law subject P M H (One x) R at marks p m r = one_holds a subject P M H x (a.symbols (drop at subject)) R at marks refl p m r
passed_holds a law subject P M H (Star x) R at marks p m r = star_holds a law subject P M H x R at marks p m r
passed_holds a law subject P M H (Plus x) R at marks p m r =
    one_holds a subject P M H x (a.symbols (drop at subject)) (λ q. star a x (a.symbols (drop q subject)) R q) at marks refl p m
    (λ q ms pq mq. star_holds a law subject P M H x R q ms pq mq r)
passed_holds a law subject P M H (Minus x) R at marks p m r = least_holds a law subject P M H x (a.symbols (drop at subject)) R at marks refl p m r
passed_holds a law subject P M H (Maybe x) R at marks p m r = maybe_holds a subject P M H x (a.symbols (drop at subject)) R at marks refl p m r
passed_holds a law subject P M H (Back left right) R at marks p m r = again_holds a subject P M H left right R at marks p m r
passed_holds a law subject P M H (Balance x y) R at marks p m r = balanced_holds a law subject P M H x y (a.symbols (drop at subject)) R at marks refl p m r
passed_holds a law subject P M H (Frontier set) R at marks p m r = tested_holds P M (is_frontier a set subject at) R at marks (r at marks p m)
passed_holds a law subject P M H Mark R at marks p m r =
    costs_holds P M 1 (R at (marks ++ at ∷ [])) (r at (marks ++ at ∷ []) p (marks_more M marks at m (H.mark at p) H.zero_mark))
passed_holds a law subject P M H End R at marks p m r = tested_holds P M (at == length subject) R at marks (r at marks p m)

-- What holds at a place and of the marks so far holds at the end of a match, and of all its marks.
pub way_holds : (a : Letters) → IsAlphabet a → (subject : List ℕ) (P M : ℕ → Type 0) → Holds a subject P M → (items : List Item) (at : ℕ) (marks : List ℕ) →
    P at → AllMarks M marks → Holding P M (way a items subject at marks)
way_holds a law subject P M H [] at marks p m = (p, m)
way_holds a law subject P M H (item ∷ items) at marks p m =
    passed_holds a law subject P M H item (way a items subject) at marks p m (way_holds a law subject P M H items)

-- What holds of a place, and that it is not before another one.
abbrev pub From : (ℕ → Type 0) → ℕ → ℕ → Type 0
From P start p = (start ≤ p) × P p

from_holds : (a : Letters) (subject : List ℕ) (P : ℕ → Type 0) → KeepsPlaces a subject P → (start : ℕ) → Holds a subject (From P start) P
from_holds a subject P K start = record {
  step = λ at c cs p e. (omega (arith, p.0), K.step at c cs p.1 e);
  again = λ at from to p mf mt e. (omega (arith, p.0), K.again at from to p.1 mf mt e);
  mark = λ at p. p.1;
  zero_mark = K.zero;
}

abbrev pub AnswerHas : (ℕ → Type 0) → ℕ → Answer → Type 0
AnswerHas P from (At start end marks n) = (from ≤ start) × (start ≤ end) × P start × P end × AllMarks P marks
AnswerHas P from (Nowhere n) = Unit {0}

answer_costs_has : (P : ℕ → Type 0) (from n : ℕ) (o : Answer) → AnswerHas P from o → AnswerHas P from (answer_costs n o)
answer_costs_has P from n (At start end marks m) h = h
answer_costs_has P from n (Nowhere m) h = tt

answer_else_has : (P : ℕ → Type 0) (from : ℕ) (o q : Answer) → AnswerHas P from o → AnswerHas P from q → AnswerHas P from (answer_or_else o q)
answer_else_has P from (At start end marks m) q h k = h
answer_else_has P from (Nowhere m) q h k = answer_costs_has P from m q k

starting_has : (P : ℕ → Type 0) (from start : ℕ) (o : Outcome) → from ≤ start → P start → Holding (From P start) P o → AnswerHas P from (starting start o)
starting_has P from start (Hit end marks n) le p h = (le, h.0.0, p, h.0.1, h.1)
starting_has P from start (Miss n) le p h = tt

no_marks : (P : ℕ → Type 0) → P 0 → AllMarks P []
no_marks P z zero = z
no_marks P z (suc k) = z

way_has : (a : Letters) → IsAlphabet a → (subject : List ℕ) (P : ℕ → Type 0) → KeepsPlaces a subject P → (items : List Item) (start : ℕ) → P start →
    Holding (From P start) P (way a items subject start [])
way_has a law subject P K items start p =
    way_holds a law subject (From P start) P (from_holds a subject P K start) items start [] (omega arith, p) (no_marks P K.zero)

first_of_has : (a : Letters) → IsAlphabet a → (subject : List ℕ) (P : ℕ → Type 0) → KeepsPlaces a subject P → (items : List Item) (cs : List Symbol) (from start : ℕ) →
    a.symbols (drop start subject) ≡ cs → from ≤ start → P start → AnswerHas P from (first_of a items subject cs start)
first_of_has a law subject P K items [] from start e le p =
    starting_has P from start (way a items subject start []) le p (way_has a law subject P K items start p)
first_of_has a law subject P K items (c ∷ cs) from start e le p =
    answer_else_has P from (starting start (way a items subject start [])) (first_of a items subject cs (start + c.size))
    (starting_has P from start (way a items subject start []) le p (way_has a law subject P K items start p))
    (first_of_has a law subject P K items cs from (start + c.size) (later a law subject start c cs e) (omega (arith, le)) (K.step start c cs p e))

-- The first match begins, ends and captures at places.
pub first_has : (a : Letters) → IsAlphabet a → (subject : List ℕ) (P : ℕ → Type 0) → KeepsPlaces a subject P → (anchored : Bool) (items : List Item) (from : ℕ) → P from →
    AnswerHas P from (first a anchored items subject from)
first_has a law subject P K true items from p =
    starting_has P from from (costs 1 (way a items subject from [])) (omega arith) p
    (costs_holds (From P from) P 1 (way a items subject from []) (way_has a law subject P K items from p))
first_has a law subject P K false items from p = first_of_has a law subject P K items (a.symbols (drop from subject)) from from refl (omega arith) p

abbrev pub IsBehind : ℕ → Answer → Type 0
IsBehind from (At start end marks n) = (from ≤ start) × (start ≤ end)
IsBehind from (Nowhere n) = Unit {0}

behind_of : (from : ℕ) (o : Answer) → AnswerHas (λ at. Unit {0}) from o → IsBehind from o
behind_of from (At start end marks n) h = (h.0, h.1)
behind_of from (Nowhere n) h = tt
