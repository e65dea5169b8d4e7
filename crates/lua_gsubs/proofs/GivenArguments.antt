-- Arguments one behind the other: one is refused, or all are found; and calls that begin behind their charges.
use Rattle.std.proofs.Common.{◌≡◌, ◌∙◌, ap, sym, subst, refl, arith, ℕ, ◌+◌, Bool, List, [], ◌∷◌, length, Option, Some, None, Ok, Err}
use Rattle.std.specs.Prelude.{Result}
use Rattle.lua_number.specs.WkBaseDeclaredLeftLeft.{Left}
use Rattle.lua_pattern.specs.declared.item.Item.{Item}
use Rattle.lua_pattern.specs.declared.slots.Slot.{Slot}
use Rattle.lua_pattern.specs.declared.read.PatternFault.{PatternFault}
use Rattle.lua_pattern.specs.declared.read.PatternFault.TheVariants as fault
use Rattle.lua_pattern.specs.Read.{Read, Fault, Fine, read_of, codes}
use Rattle.lua_pattern.specs.Reads.{IsReadFault}
use Rattle.lua_iterators.specs.LuaHeapProc.{Proc}
use Rattle.lua_iterators.specs.LuaHeapHeap.{Heap}
use Rattle.lua_iterators.specs.LuaHeapValue as kind
use Rattle.lua_iterators.specs.LuaMeaningValues.{first}
use Rattle.lua_iterators.specs.LuaMeaningArguments.{Plain, Argument, with_argument, with_charge, fails, costs}
use Rattle.lua_replacing.specs.LuaMeaningChecks.{malformed}
use Rattle.lua_replacing.specs.LuaMeaningGsub.{Alphabet, Given, Replacement, ByText, ByTable, ByFunction, GsubForm, GsubAnswers, GsubAsks, letters, then_by, by_text, a_replacement, by_replacement, by_pattern, by_given}
use Rattle.lua_replacing.specs.LuaStoreSeen.{StoreView}
use Rattle.lua_iterators.specs.LuaBasicDeclaredStopStop.{Stop}
use Rattle.lua_iterators.specs.LuaBasicDeclaredStopStopTheVariants as stop
use Rattle.lua_iterators.specs.LuaBasicSeen.{Stops, Paid, Refuses}
use Rattle.lua_iterators.proofs.LuaBasicFound.{for_nothing}
use Rattle.lua_iterators.specs.MwFramesCosts.{Took, Lacked, Unpaid}
use Rattle.lua_iterators.proofs.MwFramesSums.{took_then, lacked_then}
use Rattle.lua_iterators.proofs.MwFrameTextsCharged.{charged as charged_pays, not_charged}
use Rattle.lua_iterators.specs.MwUstringsFaults.{FaultStops}
use Rattle.lua_gsubs.specs.declared.beginning.Begun.{Begun}
use Rattle.lua_gsubs.specs.declared.beginning.Begun.TheVariants as begun
use Rattle.lua_gsubs.specs.Given.{replacer_in, or_text}
use Rattle.lua_gsubs.specs.Begun.{charged, free_by, free_read, IsBegun}

-- ARGUMENTS in a row
pub stops_here : {X Y : Type 0} (x : Argument X) (f : X → Argument Y) (s t : StoreView) (e : Stop) → Refuses x s t e → Refuses (then_by x f) s t e
stops_here (Ok x) f s t e none = λ next. none (λ y. with_argument s.heap (then_by (Ok x) f) next)
stops_here (Err message) f s t e none = λ next. none (λ y. fails s.heap message)

pub stops_behind : {X Y : Type 0} (x b : Argument X) (y : X) (f : X → Argument Y) (s t : StoreView) (e : Stop) → x ≡ Ok y → x ≡ b → Refuses (f y) s t e → Refuses (then_by b f) s t e
stops_behind x b y f s t e found same none = subst (λ z. Refuses (then_by z f) s t e) (sym found ∙ same) none

pub found_then : {X Y : Type 0} (x b : Argument X) (y : X) (f : X → Argument Y) (z : Argument Y) → x ≡ Ok y → x ≡ b → f y ≡ z → then_by b f ≡ z
found_then x b y f z found same e = ap (λ q. then_by q f) (sym same ∙ found) ∙ e

pub refuses_as : {X : Type 0} (a b : Argument X) (s t : StoreView) (e : Stop) → a ≡ b → Refuses a s t e → Refuses b s t e
refuses_as a b s t e is none = subst (λ x. Refuses x s t e) is none

-- a table or a function, or else a text
pub replacement_is : (a : Alphabet) (given : List kind.Value) → a_replacement a given ≡ or_text a given (replacer_in (first given))
replacement_is a [] = refl
replacement_is a (kind.Nil ∷ vs) = refl
replacement_is a (kind.Truth b ∷ vs) = refl
replacement_is a (kind.Number n ∷ vs) = refl
replacement_is a (kind.Text t ∷ vs) = refl
replacement_is a (kind.Table t ∷ vs) = refl
replacement_is a (kind.Closure c ∷ vs) = refl
replacement_is a (kind.Builtin b ∷ vs) = refl
replacement_is a (kind.Markup n ∷ vs) = refl

-- CHARGES in front
charged_twice : (n m : ℕ) (form : GsubForm Proc) → charged n (charged m form) ≡ charged (n + m) form
charged_twice n m (GsubAnswers p) = let e : n + (m + p.charge) ≡ n + m + p.charge = omega arith in ap (λ (i : ℕ). (let q : Plain Proc = record p { charge = i } in GsubAnswers q)) e
charged_twice n m (GsubAsks k job limit) = let e : n + (m + k) ≡ n + m + k = omega arith in ap (λ i. GsubAsks i job limit) e

replacement_charged : (a : Alphabet) (h : Heap Proc) (n : ℕ) (g : Given) (anchored : Bool) (items : List Item) (slots : List Slot) (by : Replacement)
    → by_replacement a h n g anchored items slots by ≡ charged n (free_by a h g.subject g.limit anchored items slots by)
replacement_charged a h n g anchored items slots (ByText r) = refl
replacement_charged a h n g anchored items slots (ByTable t) = let e : n ≡ n + 0 = omega arith in ap (λ i. GsubAsks i _ g.limit) e
replacement_charged a h n g anchored items slots (ByFunction f) = let e : n ≡ n + 0 = omega arith in ap (λ i. GsubAsks i _ g.limit) e

pattern_charged : (a : Alphabet) (h : Heap Proc) (n : ℕ) (g : Given) (read : Read) → by_pattern a h n g read ≡ charged n (free_read a h g read)
pattern_charged a h n g (Fault f) = refl
pattern_charged a h n g (Fine anchored items slots) = replacement_charged a h n g anchored items slots g.by

pub form_of : (a : Alphabet) (h : Heap Proc) (g : Given) → by_given a h 0 (Ok g) ≡ charged (length g.pattern) (free_read a h g (read_of (codes (letters a) g.pattern)))
form_of a h g =
    let e : 0 + length g.pattern ≡ length g.pattern = omega arith in
    pattern_charged a h (0 + length g.pattern) g _ ∙ ap (λ n. charged n (free_read a h g (read_of (codes (letters a) g.pattern)))) e

pub given_charged : (a : Alphabet) (h : Heap Proc) (n : ℕ) (x : Argument Given) → by_given a h n x ≡ charged n (by_given a h 0 x)
given_charged a h n (Err message) = refl
given_charged a h n (Ok g) =
    let free = free_read a h g (read_of (codes (letters a) g.pattern)) in
    pattern_charged a h (n + length g.pattern) g _ ∙ sym (charged_twice n (length g.pattern) free) ∙ ap (charged n) (sym (form_of a h g))

-- A CALL begins behind a charge
pub begins : (n : ℕ) (form : GsubForm Proc) (s t : StoreView) (l m k : Left) (r : Result Begun Stop) → Took n l m → IsBegun form s m t k r → IsBegun (charged n form) s l t k r
begins n (GsubAnswers p) s t l m k (Ok (begun.Answers vs)) took paid = charged_pays n p s l m k t (Ok vs) took paid
begins n (GsubAnswers p) s t l m k (Ok (begun.Asks j i)) took paid = absurd paid
begins n (GsubAnswers p) s t l m k (Err (stop.Raised v level)) took paid = charged_pays n p s l m k t (Err (stop.Raised v level)) took paid
begins n (GsubAnswers p) s t l m k (Err stop.Spent) took paid = charged_pays n p s l m k t (Err stop.Spent) took paid
begins n (GsubAnswers p) s t l m k (Err stop.NoMemory) took paid = tt
begins n (GsubAsks i job limit) s t l m k (Ok (begun.Answers vs)) took paid = absurd paid
begins n (GsubAsks i job limit) s t l m k (Ok (begun.Asks j limit')) took (more, heap, same, most) = (took_then n i l m k took more, heap, same, most)
begins n (GsubAsks i job limit) s t l m k (Err (stop.Raised v level)) took paid = absurd paid
begins n (GsubAsks i job limit) s t l m k (Err stop.Spent) took (lacked, same) = (lacked_then n i l m k took lacked, same)
begins n (GsubAsks i job limit) s t l m k (Err stop.NoMemory) took paid = tt

-- that is not there
unpaid_form : (n : ℕ) (form : GsubForm Proc) (s : StoreView) (l m : Left) → Lacked n l m → IsBegun (charged n form) s l s m (Err stop.Spent)
unpaid_form n (GsubAnswers p) s l m lacked = not_charged n p s l m stop.Spent (Err stop.Spent) lacked refl
unpaid_form n (GsubAsks i job limit) s l m lacked = ((omega (arith, lacked.0), lacked.1), refl)

pub begins_unpaid : (n : ℕ) (form : GsubForm Proc) (s : StoreView) (l m : Left) (e : Stop) (r : Result Begun Stop) → Unpaid n l m e → r ≡ Err e → IsBegun (charged n form) s l s m r
begins_unpaid n form s l m stop.Spent r lacked is = subst (IsBegun (charged n form) s l s m) (sym is) (unpaid_form n form s l m lacked)
begins_unpaid n form s l m (stop.Raised v level) r lacked is = absurd lacked
begins_unpaid n form s l m stop.NoMemory r lacked is = absurd lacked

-- AN ANSWER that is an error
error_answers : (p : Plain Proc) (s t : StoreView) (l m : Left) (e : Stop) → Paid p s l t m (Err e) → IsBegun (GsubAnswers p) s l t m (Err e)
error_answers p s t l m (stop.Raised v level) paid = paid
error_answers p s t l m stop.Spent paid = paid
error_answers p s t l m stop.NoMemory paid = tt

pub answers_error : (p : Plain Proc) (s t : StoreView) (l m : Left) (e : Stop) (r : Result Begun Stop) → Paid p s l t m (Err e) → r ≡ Err e → IsBegun (GsubAnswers p) s l t m r
answers_error p s t l m e r paid is = subst (IsBegun (GsubAnswers p) s l t m) (sym is) (error_answers p s t l m e paid)

stops_free : (p : Plain Proc) (s t : StoreView) (l : Left) (e : Stop) → Stops p t e → IsBegun (GsubAnswers p) s l t l (Err e)
stops_free p s t l e stops = error_answers p s t l l e (for_nothing p s t l (Err e) stops)

refused_form : (a : Alphabet) (x : Argument Given) (s t : StoreView) (l : Left) (e : Stop) → Refuses x s t e → IsBegun (by_given a s.heap 0 x) s l t l (Err e)
refused_form a (Err message) s t l e none = stops_free (with_charge 0 (fails s.heap message)) s t l e (none (λ g. fails s.heap message))
refused_form a (Ok g) s t l (stop.Raised v level) none =
    let no : 1 ≡ 0 = ap (λ (p : Plain Proc). p.charge) (none (λ y. costs 1 s.heap [])) in
    absurd (omega (arith, no))
refused_form a (Ok g) s t l stop.Spent none = absurd (none (λ y. costs 1 s.heap []))
refused_form a (Ok g) s t l stop.NoMemory none = tt

pub begins_refused : (a : Alphabet) (x : Argument Given) (s t : StoreView) (l : Left) (e : Stop) (r : Result Begun Stop) → Refuses x s t e → r ≡ Err e → IsBegun (by_given a s.heap 0 x) s l t l r
begins_refused a x s t l e r none is = subst (IsBegun (by_given a s.heap 0 x) s l t l) (sym is) (refused_form a x s t l e none)

pub begins_faulty : (a : Alphabet) (g : Given) (read : Read) (s t : StoreView) (l : Left) (f : PatternFault) (e : Stop) → IsReadFault read f → FaultStops s t f e → IsBegun (free_read a s.heap g read) s l t l (Err e)
begins_faulty a g read s t l (fault.At n) e is stops = subst (λ x. IsBegun (free_read a s.heap g x) s l t l (Err e)) (sym is) (stops_free (fails s.heap (malformed n)) s t l e stops)
begins_faulty a g read s t l fault.NoMemory e is stops = subst (λ x. IsBegun (free_read a s.heap g read) s l t l (Err x)) (sym stops) (wanting (free_read a s.heap g read))
  where
    wanting : (form : GsubForm Proc) → IsBegun form s l t l (Err stop.NoMemory)
    wanting (GsubAnswers p) = tt
    wanting (GsubAsks n job limit) = tt

-- a text that is refused as a replacement
pub text_refused : (x : Argument (List ℕ)) (s t : StoreView) (e : Stop) → Refuses x s t e → Refuses (by_text x) s t e
text_refused (Ok text) s t e none = λ next. none (λ y. with_argument s.heap (by_text (Ok text)) next)
text_refused (Err message) s t e none = λ next. none (λ y. fails s.heap message)
