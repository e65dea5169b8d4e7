-- OPERATORS on values, and the handlers of operands.
use Rattle.std.proofs.Common.{◌≡◌, ℕ, ℤ, Bool, true, false, List, [], ◌∷◌, Option, Some, None, refl, subst}
use Rattle.std.specs.Prelude.{codes, not, Result, Ok, Err, int_lt, int_le}
use Rattle.lua_slots.specs.LuaSyntaxDeclaredUnaryOp.{UnaryOp}
use Rattle.lua_slots.specs.LuaSyntaxDeclaredUnaryOpTheVariants as sign
use Rattle.lua_slots.specs.LuaNumberDeclaredArithmeticNumberFault.{NumberFault}
use Rattle.lua_slots.specs.LuaNumberWhole.{negative_of}
use Rattle.lua_heap.specs.Value.{Value, is_true}
use Rattle.lua_heap.specs.Related.{Map, Same, truth, number, text, table}
use Rattle.lua_heap.proofs.Entries.{nil-related, same-related, border-related}
use Rattle.lua_heap.proofs.Steps.{one_to_one}
use Rattle.lua_heap.proofs.Stood.{stood-table}
use Rattle.lua_slots.specs.PageRunOutcome.{Goes, ◌>>=◌, give}
use Rattle.lua_slots.specs.LuaMeaningScope.{Bytes, Levels}
use Rattle.lua_slots.specs.LuaMeaningValues.{number_in, text_in}
use Rattle.lua_slots.specs.LuaMeaningActs.{State, one}
use Rattle.lua_slots.specs.LuaMeaningMessages.{fail, cannot_calculate, cannot_concatenate, cannot_compare}
use Rattle.lua_slots.specs.LuaMeaningMetatables.{common_handler}
use Rattle.lua_library_agree.specs.LuaMeaningCalls.{call}
use Rattle.lua_slots.specs.LuaMeaningOperators.{Arithmetic, Operator, Less, Greater, AtMost, AtLeast, Equal, Unequal, Concatenate, Calculate, result_of, event, number_or_fail, by_handler, by_either, calculate, negate, join_texts, length_of, truth_by, equals, text_less, order_texts, less_by, less, not_less_by, at_most_by, at_most, operate}
use Rattle.lua_library_agree.specs.LuaMeaningExpressions.{apply}
use Rattle.lua_slots.specs.LuaMeaningWorld.{World}
use Rattle.lua_slots.specs.Code.{CWorld}
use Rattle.lua_slots.specs.Slots.{Slots, levels_at}
use Rattle.lua_slots.specs.Points.{SFrame}
use Rattle.lua_slots.specs.Errors as machine
use Rattle.lua_slots.specs.Operators as machine_operators
use Rattle.lua_slots.specs.Operators.{negated_if}
use Rattle.lua_agree.specs.Variables.{Var}
use Rattle.lua_agree.specs.Functions.{SameFunction}
use Rattle.lua_agree.specs.Rests.{After, alone, truth_after, SameTruth, is_truth, is_falsehood, is_not_less, SameRest, at_first, at_verdict}
use Rattle.lua_agree.specs.Agree.{Base, Rel}
use Rattle.lua_agree.specs.Follows.{Follows, takes, sees}
use Rattle.lua_agree.proofs.Parts.{number-same, text-same, kind-same, true-same, either-same, common-same, rest-jumps, OnJump, branches, values-on, one-value, two-values, fails-with, calls}

calculate-text : {m : Map} {a b : Value} → Same m a b → cannot_calculate a ≡ cannot_calculate b
calculate-text e = rw (kind-same e) refl

concatenate-text : {m : Map} {a b : Value} → Same m a b → cannot_concatenate a ≡ cannot_concatenate b
concatenate-text e = rw (kind-same e) refl

compare-text : {m : Map} {a b c d : Value} → Same m a b → Same m c d → cannot_compare a c ≡ cannot_compare b d
compare-text e f = rw (kind-same e, kind-same f) refl

module _ (world : World) (code : CWorld) (B : Base) {m : Map} {vars : List Var} {h : State} {s : Slots} (r : Rel code B m vars h s) {k : After (List Value)} {fs : List SFrame} (g : SameRest code m vars s.functions k fs) (ls : Levels) (line : Option ℕ) (l : ls ≡ levels_at s.functions line) where
  alone-jumps : OnJump code m vars s.functions Value (alone k) fs
  alone-jumps = record { jump = λ j j' e. (rest-jumps code g).jump j j' e }

  failing : {t t' : Bytes} → t ≡ t' → Follows world code B (fail ls t (alone k)) h (machine.fails line t' fs s)
  failing e = fails-with world code B r line alone-jumps l e

  -- ARITHMETIC
  numbers : (x : Result ℤ NumberFault) → Follows world code B (number_or_fail ls x (alone k)) h (machine_operators.number_or_fail line x fs s)
  numbers (Ok n) = values-on world code B r g (one-value (number n))
  numbers (Err e) = failing refl

  handlers : {i i' a b c d : Value} {t t' : Bytes} → Same m i i' → Same m a b → Same m c d → t ≡ t' → Follows world code B (by_handler i a c ls t (alone k)) h (machine_operators.by_handler i' b d line t' fs s)
  handlers {i} {i'} {a} {b} {c} {d} {t} x e f q =
      branches world code B (fail ls t) (one (call i (a ∷ c ∷ []) ls)) _ _ (nil-related m i i' x) (λ _. failing q)
      (λ _. calls world code B r (at_first vars s.functions k fs g) ls line l x (two-values e f))

  handles : {a b c d : Value} {t t' : Bytes} (name : Bytes) → Same m a b → Same m c d → t ≡ t' → Follows world code B (by_either a c name ls t (alone k)) h (machine_operators.by_either b d name line t' fs s)
  handles name e f q = sees _ _ _ (handlers (either-same code m h.heap s.heap r.stands name e f) e f q)

  calculates : (o : Arithmetic) {a b c d : Value} (x y : Option ℤ) → Same m a b → Same m c d → Follows world code B (calculate o a c x y ls (alone k)) h (machine_operators.calculate o b d x y line fs s)
  calculates o (Some x) (Some y) e f = numbers (result_of o x y)
  calculates o (Some x) None e f = handles (event o) e f (calculate-text f)
  calculates o None y e f = handles (event o) e f (calculate-text e)

  negates : {a b : Value} (x : Option ℤ) → Same m a b → Follows world code B (negate a x ls (alone k)) h (machine_operators.negate b x line fs s)
  negates (Some x) e = numbers (negative_of x)
  negates None e = handles (codes "__unm") e e (calculate-text e)

  -- CONCATENATION
  joins : {a b c d : Value} (x y : Option Bytes) → Same m a b → Same m c d → Follows world code B (join_texts a c x y ls (alone k)) h (machine_operators.join_texts b d x y line fs s)
  joins (Some x) (Some y) e f = takes _ _ _ _ (values-on world code B r g (one-value (text _)))
  joins (Some x) None e f = handles (codes "__concat") e f (concatenate-text f)
  joins None y e f = handles (codes "__concat") e f (concatenate-text e)

  -- LENGTH
  lengths : {a b : Value} → Same m a b → Follows world code B (length_of a ls (alone k)) h (machine_operators.length_of b line fs s)
  lengths (text t) = values-on world code B r g (one-value (number _))
  lengths (table a b e) =
      let t = stood-table (SameFunction code) m h.heap s.heap a b r.stands e in
      sees _ _ _ (values-on world code B r g (one-value (rw (border-related m (one_to_one (SameFunction code) m h.heap s.heap r.stands) _ _ t.0.entries) (number _))))
  lengths e = failing refl

  -- COMPARISON: a truth is given, or its negation
  module _ {negated : Bool} {t : After Bool} (w : SameTruth k negated t) where
    answered-by : (negated : Bool) (t : After Bool) → SameTruth k negated t → (b : Bool) → Follows world code B (t (Goes b)) h (machine_operators.answers negated b fs s)
    answered-by _ _ is_truth b = values-on world code B r g (one-value (truth _))
    answered-by _ _ is_falsehood b = values-on world code B r g (one-value (truth _))
    answered-by _ _ is_not_less b = values-on world code B r g (one-value (truth _))

    pub answered : (b : Bool) → Follows world code B (t (Goes b)) h (machine_operators.answers negated b fs s)
    answered b = answered-by negated t w b

    jumps-by : (negated : Bool) (t : After Bool) → SameTruth k negated t → OnJump code m vars s.functions Bool t fs
    jumps-by _ _ is_truth = record { jump = λ j j' e. (rest-jumps code g).jump j j' e }
    jumps-by _ _ is_falsehood = record { jump = λ j j' e. (rest-jumps code g).jump j j' e }
    jumps-by _ _ is_not_less = record { jump = λ j j' e. (rest-jumps code g).jump j j' e }

    truth-jumps : OnJump code m vars s.functions Bool t fs
    truth-jumps = jumps-by negated t w

    truths : {i i' a b c d : Value} → Same m i i' → Same m a b → Same m c d → Follows world code B (truth_by i a c ls t) h (machine_operators.truth_by negated i' b d line fs s)
    truths {i} {i'} {a} {b} {c} {d} x e f =
        branches world code B (give false) (one (call i (a ∷ c ∷ []) ls) >>= (λ v. give (is_true v))) _ _ (nil-related m i i' x) (λ _. answered false)
        (λ _. calls world code B r (at_verdict vars s.functions negated t k fs w g) ls line l x (two-values e f))

    equal : {a b c d : Value} → Same m a b → Same m c d → Follows world code B (equals a c ls t) h (machine_operators.equals negated b d line fs s)
    equal {a} {b} {c} {d} e f =
        sees _ _ _
        (branches world code B (give true) (truth_by (common_handler h.heap a c (codes "__eq")) a c ls) _ _ (same-related m (one_to_one (SameFunction code) m h.heap s.heap r.stands) _ _ _ _ e f) (λ _. answered true)
        (λ _. truths (common-same code m h.heap s.heap r.stands (codes "__eq") e f) e f))

  orders : (x y : Bytes) (b : Bool) → Follows world code B (order_texts x y b (truth_after k)) h (machine_operators.order_texts x y b fs s)
  orders x y b = takes _ _ _ _ (answered is_truth b)

  lesses-by : {i i' a b c d : Value} → Same m i i' → Same m a b → Same m c d → Follows world code B (less_by i a c ls (truth_after k)) h (machine_operators.less_by i' b d line fs s)
  lesses-by {i} {i'} {a} {b} {c} {d} x e f =
      branches world code B (fail ls (cannot_compare a c)) (truth_by i a c ls) _ _ (nil-related m i i' x) (λ _. fails-with world code B r line (truth-jumps is_truth) l (compare-text e f)) (λ _. truths is_truth x e f)

  lesses-common : {a b c d : Value} → Same m a b → Same m c d → Follows world code B (less_by (common_handler h.heap a c (codes "__lt")) a c ls (truth_after k)) h (machine_operators.less_by (common_handler s.heap b d (codes "__lt")) b d line fs s)
  lesses-common e f = lesses-by (common-same code m h.heap s.heap r.stands (codes "__lt") e f) e f

  not-lesses-by : {i i' a b c d : Value} → Same m i i' → Same m a b → Same m c d → Follows world code B (not_less_by i a c ls (truth_after k)) h (machine_operators.not_less_by i' b d line fs s)
  not-lesses-by {i} {i'} {a} {b} {c} {d} x e f =
      branches world code B (fail ls (cannot_compare a c)) (truth_by i c a ls >>= (λ t. give (not t))) _ _ (nil-related m i i' x)
      (λ _. fails-with world code B r line (truth-jumps is_truth) l (compare-text e f)) (λ _. truths is_not_less x f e)

  at-mosts-by : {i i' j j' a b c d : Value} → Same m i i' → Same m j j' → Same m a b → Same m c d → Follows world code B (at_most_by i j a c ls (truth_after k)) h (machine_operators.at_most_by i' j' b d line fs s)
  at-mosts-by {i} {i'} {j} {j'} {a} {b} {c} {d} x y e f =
      branches world code B (not_less_by j a c ls) (truth_by i a c ls) _ _ (nil-related m i i' x) (λ _. not-lesses-by y e f) (λ _. truths is_truth x e f)

  at-mosts-common : {a b c d : Value} → Same m a b → Same m c d
      → Follows world code B (at_most_by (common_handler h.heap a c (codes "__le")) (common_handler h.heap a c (codes "__lt")) a c ls (truth_after k)) h (machine_operators.at_most_by (common_handler s.heap b d (codes "__le")) (common_handler s.heap b d (codes "__lt")) b d line fs s)
  at-mosts-common e f = at-mosts-by (common-same code m h.heap s.heap r.stands (codes "__le") e f) (common-same code m h.heap s.heap r.stands (codes "__lt") e f) e f

  lesses : {a b c d : Value} → Same m a b → Same m c d → Follows world code B (less a c ls (truth_after k)) h (machine_operators.less b d line fs s)
  lesses (number x) (number y) = answered is_truth (int_lt x y)
  lesses (text x) (text y) = orders x y (text_less x y)
  lesses e f = sees _ _ _ (lesses-common e f)

  at-mosts : {a b c d : Value} → Same m a b → Same m c d → Follows world code B (at_most a c ls (truth_after k)) h (machine_operators.at_most b d line fs s)
  at-mosts (number x) (number y) = answered is_truth (int_le x y)
  at-mosts (text x) (text y) = orders x y (not (text_less y x))
  at-mosts e f = sees _ _ _ (at-mosts-common e f)

  -- WHAT AN OPERATOR GIVES
  pub operates : (o : Operator) {a b c d : Value} → Same m a b → Same m c d → Follows world code B (operate o a c ls (alone k)) h (machine_operators.operate o b d line fs s)
  operates Less e f = lesses e f
  operates Greater e f = lesses f e
  operates AtMost e f = at-mosts e f
  operates AtLeast e f = at-mosts f e
  operates Equal e f = equal is_truth e f
  operates Unequal e f = equal is_falsehood e f
  operates Concatenate {a} {b} {c} {d} e f =
      subst (λ x. Follows world code B (operate Concatenate a c ls (alone k)) h (machine_operators.join_texts b d x (text_in d) line fs s)) (text-same e)
      (subst (λ y. Follows world code B (operate Concatenate a c ls (alone k)) h (machine_operators.join_texts b d (text_in a) y line fs s)) (text-same f)
      (joins (text_in a) (text_in c) e f))
  operates (Calculate o) {a} {b} {c} {d} e f =
      subst (λ x. Follows world code B (operate (Calculate o) a c ls (alone k)) h (machine_operators.calculate o b d x (number_in d) line fs s)) (number-same e)
      (subst (λ y. Follows world code B (operate (Calculate o) a c ls (alone k)) h (machine_operators.calculate o b d (number_in a) y line fs s)) (number-same f)
      (calculates o (number_in a) (number_in c) e f))

  pub applies : (o : UnaryOp) {a b : Value} → Same m a b → Follows world code B (apply o a ls (alone k)) h (machine_operators.apply o b line fs s)
  applies sign.Not {a} {b} e = values-on world code B r g (one-value (rw (true-same e) (truth _)))
  applies sign.Len e = lengths e
  applies sign.Minus {a} {b} e = subst (λ x. Follows world code B (apply sign.Minus a ls (alone k)) h (machine_operators.negate b x line fs s)) (number-same e) (negates (number_in a) e)
