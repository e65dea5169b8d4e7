-- Going from place to place, and searching on.
use Rattle.std.proofs.Common.{◌≡◌, ℕ, zero, suc, ◌+◌, ◌-◌, ◌<◌, ◌≤◌, Bool, true, false, nat_lt, if◌then◌else◌, List, [], ◌∷◌, ◌++◌, length, take, drop, Option, Some, None, refl, sym, ◌∙◌, ap, subst, arith, append_assoc, length-drop}
use Rattle.std.proofs.lemmas.Bool.Decides.{nat_tests}
use Rattle.std.proofs.lemmas.List.{drop-drop, take-append-drop}
use Rattle.std.proofs.Math.Seq.{take-add}
use Rattle.lua_pattern.specs.declared.item.Item.{Item}
use Rattle.lua_pattern.specs.Letters.{Symbol, Letters, IsFirst, IsAlphabet}
use Rattle.lua_pattern.specs.Way.{Outcome, Hit, Miss, Answer, At, Nowhere, way, costs, starting, first, first_of, answer_costs, answer_or_else}
use Rattle.lua_pattern.specs.Keeps.{within_keeps}
use Rattle.lua_pattern.proofs.Inside.{AnswerHas, first_has}
use Rattle.lua_string.specs.Walk.{Step, Walk, Stops, Meets, behind_first, next_place, walk_on, walk, span, before, on_walk, by_walk, one_symbol, behind_match, at_place, by_places, GoingOn}

same_pieces : (a b : List ℕ) (n m : ℕ) → a ≡ b → n ≡ m → ◌≡◌ {A = List ℕ × ℕ} (a, n) (b, m)
same_pieces a b n m e f =
    let text : List ℕ → List ℕ × ℕ = λ l. (l, n) in
    let tries : ℕ → List ℕ × ℕ = λ k. (b, k) in
    ap text e ∙ ap tries f

-- ---- bytes between places

span_none : (s : List ℕ) (at : ℕ) → span s at at ≡ []
span_none s at = let e : at - at ≡ 0 = omega arith in ap (λ n. take n (drop at s)) e

on_from : (s : List ℕ) (from to : ℕ) → from ≤ to → drop (to - from) (drop from s) ≡ drop to s
on_from s from to le = let e : from + (to - from) ≡ to = omega (arith, le) in drop-drop (to - from) from s ∙ ap (λ n. drop n s) e

span_drop : (s : List ℕ) (from to : ℕ) → from ≤ to → span s from to ++ drop to s ≡ drop from s
span_drop s from to le =
    ap (λ l. span s from to ++ l) (sym (on_from s from to le)) ∙ take-append-drop (to - from) (drop from s)

span_span : (s : List ℕ) (from mid to : ℕ) → from ≤ mid → mid ≤ to → span s from mid ++ span s mid to ≡ span s from to
span_span s from mid to le lt =
    let e : (mid - from) + (to - mid) ≡ to - from = omega (arith, le, lt) in
    ap (λ l. span s from mid ++ take (to - mid) l) (sym (on_from s from mid le))
    ∙ sym (take-add (mid - from) (to - mid) (drop from s)) ∙ ap (λ n. take n (drop from s)) e

-- ---- walks

abbrev WalkBehind : ℕ → Walk → Type 0
WalkBehind at (Stops n) = Unit {0}
WalkBehind at (Meets n step next) = at ≤ step.start

abbrev walk_costs : ℕ → Walk → Walk
walk_costs t (Stops n) = Stops (t + n)
walk_costs t (Meets n step next) = Meets (t + n) step next

costs_walk : (a : Letters) (anchored : Bool) (s : List ℕ) (t : ℕ) (o : Answer) → walk_on a anchored s (answer_costs t o) ≡ walk_costs t (walk_on a anchored s o)
costs_walk a anchored s t (At start end marks n) = refl
costs_walk a anchored s t (Nowhere n) = refl

module _ (s : List ℕ) (r : Step → List ℕ) (more : ℕ → ℕ → List ℕ × ℕ) where
  -- the text from a place copied before
  shift : (copied at : ℕ) (w : Walk) → copied ≤ at → WalkBehind at w → on_walk s r more copied w ≡ before (span s copied at) 0 (on_walk s r more at w)
  shift copied at (Stops n) le h = same_pieces _ _ _ _ (sym (span_drop s copied at le)) (omega arith)
  shift copied at (Meets n step None) le h =
      same_pieces _ _ _ _
      (ap (λ l. l ++ r step ++ drop step.end s) (sym (span_span s copied at step.start le h))
      ∙ ap (λ l. l ++ drop step.end s) (append_assoc (span s copied at) (span s at step.start) (r step))
      ∙ append_assoc (span s copied at) (span s at step.start ++ r step) (drop step.end s))
      (omega arith)
  shift copied at (Meets n step (Some next)) le h =
      same_pieces _ _ _ _
      (ap (λ l. l ++ r step ++ (more step.end next).0) (sym (span_span s copied at step.start le h))
      ∙ ap (λ l. l ++ (more step.end next).0) (append_assoc (span s copied at) (span s at step.start) (r step))
      ∙ append_assoc (span s copied at) (span s at step.start ++ r step) (more step.end next).0)
      (omega arith)

  pays : (t copied : ℕ) (w : Walk) → on_walk s r more copied (walk_costs t w) ≡ before [] t (on_walk s r more copied w)
  pays t copied (Stops n) = refl
  pays t copied (Meets n step None) = same_pieces _ _ _ _ refl (omega arith)
  pays t copied (Meets n step (Some next)) = same_pieces _ _ _ _ refl (omega arith)

abbrev Within : List ℕ → ℕ → Type 0
Within s at = at ≤ length s

behind_walk : (a : Letters) (anchored : Bool) (s : List ℕ) (at : ℕ) (o : Answer) → AnswerHas (Within s) at o → WalkBehind at (walk_on a anchored s o)
behind_walk a anchored s at (At start end marks n) h = h.0
behind_walk a anchored s at (Nowhere n) h = tt

-- where a hit of a way ends
abbrev HitWithin : List ℕ → ℕ → Outcome → Type 0
HitWithin s at (Hit end marks n) = (at ≤ end) × (end ≤ length s)
HitWithin s at (Miss n) = Unit {0}

module _ (a : Letters) (law : IsAlphabet a) (items : List Item) (s : List ℕ) (r : Step → List ℕ) where
  has : (anchored : Bool) (at : ℕ) → at ≤ length s → AnswerHas (Within s) at (first a anchored items s at)
  has anchored at le = first_has a law s (Within s) (within_keeps a law s) anchored items at le

  anchored_hit : (at t : ℕ) (o : Outcome) → AnswerHas (Within s) at (starting at (costs t o)) → HitWithin s at o
  anchored_hit at t (Hit end marks n) h = (h.1, h.3)
  anchored_hit at t (Miss n) h = tt

  hit_within : (at : ℕ) → at ≤ length s → HitWithin s at (way a items s at [])
  hit_within at le = anchored_hit at 1 (way a items s at []) (has true at le)

  -- under `^`
  anchored_same : (same fewer : ℕ → List ℕ × ℕ) (more : ℕ → ℕ → List ℕ × ℕ) (at : ℕ) (o : Outcome)
      → at_place a true s r same fewer at (costs 1 o) ≡ on_walk s r more at (walk_on a true s (starting at (costs 1 o)))
  anchored_same same fewer more at (Miss t) = same_pieces _ _ _ _ refl (omega arith)
  anchored_same same fewer more at (Hit end marks t) =
      let step : Step = record { start = at; end = end; marks = marks } in
      ap (λ l. before (l ++ r step) (1 + t) (drop end s, 0)) (sym (span_none s at))

  -- behind a match
  module _ (more : ℕ → ℕ → List ℕ × ℕ) (fewer : ℕ → List ℕ × ℕ) where
    abbrev Goes : ℕ → Type 0
    Goes at = (p : ℕ) → at < p → p ≤ length s → fewer p ≡ more p p

    abbrev Shifts : Type 0
    Shifts = (copied p : ℕ) → copied ≤ p → p ≤ length s → more copied p ≡ before (span s copied p) 0 (more p p)

    abbrev goes_on : ℕ → Option ℕ → List ℕ × ℕ
    goes_on end None = (drop end s, 0)
    goes_on end (Some at) = more end at

    hit_more : (at end tries : ℕ) (marks : List ℕ) (next : Option ℕ)
        → on_walk s r more at (Meets tries (record { start = at; end = end; marks = marks }) next) ≡ before (r (record { start = at; end = end; marks = marks })) tries (goes_on end next)
    hit_more at end tries marks None = ap (λ l. before (l ++ r (record { start = at; end = end; marks = marks })) tries (drop end s, 0)) (span_none s at)
    hit_more at end tries marks (Some next) = ap (λ l. before (l ++ r (record { start = at; end = end; marks = marks })) tries (more end next)) (span_none s at)

    symbol_same : (at : ℕ) (cs : List Symbol) → a.symbols (drop at s) ≡ cs → at ≤ length s → Goes at → Shifts
        → one_symbol s fewer cs at ≡ goes_on at (behind_first cs at)
    symbol_same at [] e le goes shifts = refl
    symbol_same at (c ∷ cs) e le goes shifts =
        let f : IsFirst a (drop at s) c cs = law.first (drop at s) c cs e in
        let some : 0 < c.size = f.some in
        let within : c.size ≤ length (drop at s) = f.within in
        let l : length (drop at s) ≡ length s - at = length-drop at s in
        let p : at + c.size ≤ length s = omega (arith, some, within, l, le) in
        let k : at + c.size - at ≡ c.size = omega arith in
        ap (before (take c.size (drop at s)) 0) (goes (at + c.size) (omega (arith, some)) p)
        ∙ ap (λ n. before (take n (drop at s)) 0 (more (at + c.size) (at + c.size))) (sym k)
        ∙ sym (shifts at (at + c.size) (omega arith) p)

    match_same : (at end : ℕ) → at ≤ end → end ≤ length s → Goes at → Shifts → behind_match a false s fewer at end ≡ goes_on end (next_place a false s at end)
    match_same at end le lt goes shifts = go (nat_lt at end) refl
      where
        go : (b : Bool) → nat_lt at end ≡ b → (if b then fewer end else one_symbol s fewer (a.symbols (drop end s)) end) ≡ goes_on end (if b then Some end else behind_first (a.symbols (drop at s)) at)
        go true e = let gt : at < end = grind (arith, nat_tests) in goes end gt lt
        go false e =
            let same : end ≡ at = grind (arith, nat_tests) in
            let P : ℕ → Type 0 = λ n. one_symbol s fewer (a.symbols (drop n s)) n ≡ goes_on n (behind_first (a.symbols (drop at s)) at) in
            subst P (sym same) (symbol_same at (a.symbols (drop at s)) refl (omega (arith, le, lt)) goes shifts)

    -- a match at the place
    hit_same : (same : ℕ → List ℕ × ℕ) (at end t : ℕ) (marks : List ℕ) → at ≤ end → end ≤ length s → Goes at → Shifts
        → at_place a false s r same fewer at (costs 0 (Hit end marks t)) ≡ on_walk s r more at (walk_on a false s (At at end marks t))
    hit_same same at end t marks le lt goes shifts =
        let step : Step = record { start = at; end = end; marks = marks } in
        let z : 0 + t ≡ t = omega arith in
        ap (λ n. before (r step) n (behind_match a false s fewer at end)) z
        ∙ ap (before (r step) t) (match_same at end le lt goes shifts)
        ∙ sym (hit_more at end t marks (next_place a false s at end))

  shift_walk : (anchored : Bool) (n limit copied at : ℕ) → copied ≤ at → at ≤ length s
      → by_walk a anchored items s r n limit copied at ≡ before (span s copied at) 0 (by_walk a anchored items s r n limit at at)
  shift_walk anchored zero limit copied at le lt = same_pieces _ _ _ _ (sym (span_drop s copied at le)) (omega arith)
  shift_walk anchored (suc n) zero copied at le lt = same_pieces _ _ _ _ (sym (span_drop s copied at le)) (omega arith)
  shift_walk anchored (suc n) (suc limit) copied at le lt =
      shift s r (by_walk a anchored items s r n limit) copied at (walk a anchored items s at) le
      (behind_walk a anchored s at (first a anchored items s at) (has anchored at lt))

  first_is : (cs : List Symbol) (p : ℕ) → cs ≡ a.symbols (drop p s) → first_of a items s cs p ≡ first a false items s p
  first_is cs p e = ap (λ l. first_of a items s l p) e

  module _ (n m limit : ℕ) where
    abbrev more : ℕ → ℕ → List ℕ × ℕ
    more = by_walk a false items s r m limit

    abbrev fewer : ℕ → List ℕ × ℕ
    fewer = by_places a false items s r n limit

    abbrev again : ℕ → List ℕ × ℕ
    again = by_places a false items s r n (suc limit)

    shifts : (copied p : ℕ) → copied ≤ p → p ≤ length s → more copied p ≡ before (span s copied p) 0 (more p p)
    shifts copied p le lt = shift_walk false m limit copied p le lt

    -- where nothing matches at the place, the search behind its symbol is the whole search
    miss_same : (at t : ℕ) (c : Symbol) (cs : List Symbol) → at ≤ length s → a.symbols (drop at s) ≡ c ∷ cs
        → ((p : ℕ) → at < p → p ≤ length s → again p ≡ by_walk a false items s r (suc m) (suc limit) p p)
        → before [] (0 + t) (before (take c.size (drop at s)) 0 (again (at + c.size)))
        ≡ on_walk s r more at (walk_on a false s (answer_costs t (first_of a items s cs (at + c.size))))
    miss_same at t c cs le e ih =
        let f : IsFirst a (drop at s) c cs = law.first (drop at s) c cs e in
        let some : 0 < c.size = f.some in
        let within : c.size ≤ length (drop at s) = f.within in
        let l : length (drop at s) ≡ length s - at = length-drop at s in
        let p : ℕ = at + c.size in
        let lt : at + c.size ≤ length s = omega (arith, some, within, l, le) in
        let k : at + c.size - at ≡ c.size = omega arith in
        let z : 0 + t ≡ t = omega arith in
        let X : Answer = first_of a items s cs p in
        let same : X ≡ first a false items s p = first_is cs p (f.rest ∙ ap a.symbols (drop-drop c.size at s)) in
        let W : Walk = walk_on a false s X in
        let P : Answer → Type 0 = λ o. AnswerHas (Within s) p o in
        let there : WalkBehind p W = behind_walk a false s p X (subst P (sym same) (has false p lt)) in
        ap (λ n. before [] n (before (take c.size (drop at s)) 0 (again p))) z
        ∙ ap (λ q. before [] t (before (take c.size (drop at s)) 0 q)) (ih p (omega (arith, some)) lt)
        ∙ ap (λ o. before [] t (before (take c.size (drop at s)) 0 (on_walk s r more p (walk_on a false s o)))) (sym same)
        ∙ ap (λ n. before [] t (before (take n (drop at s)) 0 (on_walk s r more p W))) (sym k)
        ∙ ap (before [] t) (sym (shift s r more at p W (omega arith) there))
        ∙ sym (pays s r more t at W)
        ∙ ap (on_walk s r more at) (sym (costs_walk a false s t X))

    at_same : (at : ℕ) (o : Outcome) (cs : List Symbol) → at ≤ length s → way a items s at [] ≡ o → a.symbols (drop at s) ≡ cs → HitWithin s at o
        → ((p : ℕ) → at < p → p ≤ length s → fewer p ≡ more p p)
        → ((p : ℕ) → at < p → p ≤ length s → again p ≡ by_walk a false items s r (suc m) (suc limit) p p)
        → at_place a false s r again fewer at (costs 0 o) ≡ on_walk s r more at (walk_on a false s (first_of a items s cs at))
    at_same at (Hit end marks t) [] le ew e h hit miss =
        hit_same more fewer again at end t marks h.0 h.1 hit shifts ∙ ap (λ w. on_walk s r more at (walk_on a false s (starting at w))) (sym ew)
    at_same at (Hit end marks t) (c ∷ cs) le ew e h hit miss =
        hit_same more fewer again at end t marks h.0 h.1 hit shifts
        ∙ ap (λ w. on_walk s r more at (walk_on a false s (answer_or_else (starting at w) (first_of a items s cs (at + c.size))))) (sym ew)
    at_same at (Miss t) [] le ew e h hit miss =
        ap (λ l. before [] (0 + t) (one_symbol s again l at)) e ∙ same_pieces _ _ _ _ refl (omega arith)
        ∙ ap (λ w. on_walk s r more at (walk_on a false s (starting at w))) (sym ew)
    at_same at (Miss t) (c ∷ cs) le ew e h hit miss =
        ap (λ l. before [] (0 + t) (one_symbol s again l at)) e ∙ miss_same at t c cs le e miss
        ∙ ap (λ w. on_walk s r more at (walk_on a false s (answer_or_else (starting at w) (first_of a items s cs (at + c.size))))) (sym ew)

  main : (n m limit at : ℕ) → at ≤ length s → length s - at < n → length s - at < m → by_places a false items s r n limit at ≡ by_walk a false items s r m limit at at
  main zero m limit at le hn hm = absurd (omega (arith, hn))
  main (suc n) zero limit at le hn hm = absurd (omega (arith, hm))
  main (suc n) (suc m) zero at le hn hm = refl
  main (suc n) (suc m) (suc limit) at le hn hm =
      at_same n m limit at (way a items s at []) (a.symbols (drop at s)) le refl refl (hit_within at le)
      (λ p lt ple. main n m limit p ple (omega (arith, hn, lt, ple)) (omega (arith, hm, lt, ple)))
      (λ p lt ple. main n (suc m) (suc limit) p ple (omega (arith, hn, lt, ple)) (omega (arith, hm, lt, ple)))

  main_anchored : (n m limit at : ℕ) → length s - at < n → length s - at < m → by_places a true items s r n limit at ≡ by_walk a true items s r m limit at at
  main_anchored zero m limit at hn hm = absurd (omega (arith, hn))
  main_anchored (suc n) zero limit at hn hm = absurd (omega (arith, hm))
  main_anchored (suc n) (suc m) zero at hn hm = refl
  main_anchored (suc n) (suc m) (suc limit) at hn hm =
      anchored_same (by_places a true items s r n (suc limit)) (by_places a true items s r n limit) (by_walk a true items s r m limit) at (way a items s at [])

pub going_on : (a : Letters) → IsAlphabet a → GoingOn a
going_on a law true items s r n m limit at le hn hm = main_anchored a law items s r n m limit at hn hm
going_on a law false items s r n m limit at le hn hm = main a law items s r n m limit at le hn hm
