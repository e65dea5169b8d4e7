-- Values that are read one after another, each for a step.
use Rattle.std.proofs.Common.{◌≡◌, ◌∙◌, ap, sym, subst, refl, arith, ℕ, zero, suc, ◌+◌, ◌-◌, ◌<◌, ◌≤◌, Bool, true, false, if◌then◌else◌, ℤ, pos, ◌+ℤ◌, List, [], ◌∷◌, ◌++◌, append-nil, length, drop, Some, None, Ok, Err, slice_get}
use Rattle.std.specs.Prelude.{Result}
use Rattle.std.proofs.lemmas.Int.{ints}
use Rattle.lua_number.specs.WkBaseDeclaredLeftLeft.{Left}
use Rattle.lua_basic.specs.LuaHeapValue as kind
use Rattle.lua_basic.specs.LuaHeapValue.{Number}
use Rattle.lua_basic.specs.LuaHeapTable.{Entries, get}
use Rattle.lua_basic.specs.LuaMeaningBasic.{entries_from}
use Rattle.lua_basic.specs.LuaStoreDeclaredValueValue.{Value}
use Rattle.lua_basic.specs.LuaStoreSeen.{StoreView, seen}
use Rattle.lua_basic.specs.LuaStoreParts.{IsOf}
use Rattle.lua_basic.specs.declared.stop.Stop.{Stop}
use Rattle.lua_basic.specs.declared.stop.Stop.TheVariants as stop
use Rattle.lua_basic.specs.Seen.{values_seen, AllOf, Paid}
use Rattle.lua_basic.specs.LuaHeapProc.{Proc}
use Rattle.lua_basic.specs.LuaMeaningArguments.{Plain}
use Rattle.lua_basic.proofs.Lists.{all-with, seen-with}
use Rattle.lua_basic.proofs.Counts.{entry-read}
use Rattle.lua_basic.specs.LuaMeaningTableLibrary.{Walk, PassedAll, Refused, one_passed, walk, greater_key, greatest_key}
use Rattle.lua_tables.specs.declared.walking.Walked.{Walked}
use Rattle.lua_tables.specs.declared.walking.Walked.TheVariants as walked
use Rattle.lua_tables.specs.Paying.{IsTaken, Takes}
use Rattle.lua_tables.specs.Walked.{walk_charge, Walks}
use Rattle.lua_tables.specs.Counted.{Counts}
use Rattle.lua_tables.proofs.Taken.{with_steps, taken-both, again}
use Rattle.lua_tables.proofs.Put.{length-entries}

-- what a walk comes to behind so many values that passed
abbrev pub behind : ℕ → Walk → Walk
behind n PassedAll = PassedAll
behind n (Refused k v) = Refused (n + k) v

behind-one : (n : ℕ) (w : Walk) → behind n (one_passed w) ≡ behind (n + 1) w
behind-one n PassedAll = refl
behind-one n (Refused k v) = let e : n + suc k ≡ (n + 1) + k = omega arith in ap (λ m. Refused m v) e

behind-none : (w : Walk) → behind 0 w ≡ w
behind-none PassedAll = refl
behind-none (Refused k v) = let e : 0 + k ≡ k = omega arith in ap (λ m. Refused m v) e

-- a walk that has come to an offset, with what was read and taken
pub record Walking (s : StoreView) (es : Entries) (test : kind.Value → Bool) (first : ℤ) (n offset : ℕ) (values : List Value) (l m : Left) : Type 0 where
  pub within : offset ≤ n
  pub read : values_seen s.texts values ++ entries_from (n - offset) (first +ℤ pos offset) es ≡ entries_from n first es
  pub rest : behind offset (walk test (entries_from (n - offset) (first +ℤ pos offset) es)) ≡ walk test (entries_from n first es)
  pub of : AllOf s values
  pub taken : IsTaken offset l m

one_more : (n offset : ℕ) (first : ℤ) (es : Entries) → offset < n → entries_from (n - offset) (first +ℤ pos offset) es ≡ get es (Number (first +ℤ pos offset)) ∷ entries_from (n - (offset + 1)) (first +ℤ pos (offset + 1)) es
one_more n offset first es lt =
    let left : n - offset ≡ suc (n - (offset + 1)) = omega (arith, lt) in
    let next : (first +ℤ pos offset) +ℤ pos 1 ≡ first +ℤ pos (offset + 1) = omega (arith, ints) in
    ap (λ k. entries_from k (first +ℤ pos offset) es) left ∙ ap (λ z. get es (Number (first +ℤ pos offset)) ∷ entries_from (n - (offset + 1)) z es) next

none_left : (n offset : ℕ) → n ≤ offset → (z : ℤ) (es : Entries) → entries_from (n - offset) z es ≡ []
none_left n offset le z es = let none : n - offset ≡ 0 = omega (arith, le) in ap (λ k. entries_from k z es) none

module _ (s : StoreView) (es : Entries) (test : kind.Value → Bool) (first : ℤ) (n : ℕ) where
  pub walking-start : (l : Left) → Walking s es test first n 0 [] l l
  walking-start l =
      let here : first +ℤ pos 0 ≡ first = omega (arith, ints) in
      let all : n - 0 ≡ n = omega arith in
      let same_ : entries_from (n - 0) (first +ℤ pos 0) es ≡ entries_from n first es = ap (λ k. entries_from k (first +ℤ pos 0) es) all ∙ ap (λ z. entries_from n z es) here in
      let steps : l.steps ≡ l.steps - 0 = omega arith in
      record {
        within = omega arith;
        read = same_;
        rest = behind-none _ ∙ ap (walk test) same_;
        of = tt;
        taken = record { covered = omega arith; rest = ap (with_steps l) steps };
      }

  module _ (offset : ℕ) (values : List Value) (l m : Left) (w : Walking s es test first n offset values l m) where
    -- what stands ahead
    ahead : (v : kind.Value) → offset < n → v ≡ get es (Number (first +ℤ pos offset)) → walk test (entries_from (n - offset) (first +ℤ pos offset) es) ≡ walk test (v ∷ entries_from (n - (offset + 1)) (first +ℤ pos (offset + 1)) es)
    ahead v lt is = ap (walk test) (one_more n offset first es lt ∙ ap (λ x. x ∷ entries_from (n - (offset + 1)) (first +ℤ pos (offset + 1)) es) (sym is))

    pub walking-on : (v : Value) (after : List Value) (k : Left) → offset < n → after ≡ values ++ v ∷ [] → IsOf s v → seen s.texts v ≡ get es (Number (first +ℤ pos offset))
        → test (seen s.texts v) ≡ true → IsTaken 1 m k → Walking s es test first n (offset + 1) after l k
    walking-on v after k lt pushed of_ is passed t = record {
      within = omega (arith, lt);
      read = entry-read (values_seen s.texts values) (values_seen s.texts after) (seen s.texts v) n offset first es (entries_from n first es) lt (ap (values_seen s.texts) pushed ∙ seen-with s.texts values v) is w.read;
      rest = sym (behind-one offset (walk test (entries_from (n - (offset + 1)) (first +ℤ pos (offset + 1)) es)))
          ∙ sym (ap (λ b. behind offset (if b then one_passed (walk test (entries_from (n - (offset + 1)) (first +ℤ pos (offset + 1)) es)) else Refused 0 (seen s.texts v))) passed)
          ∙ sym (ap (behind offset) (ahead (seen s.texts v) lt is)) ∙ w.rest;
      of = subst (AllOf s) (sym pushed) (all-with s values v w.of of_);
      taken = taken-both offset 1 l m k w.taken t;
    }

    -- the next value is refused
    pub walking-refused : (v : Value) (k : Left) → offset < n → IsOf s v → seen s.texts v ≡ get es (Number (first +ℤ pos offset)) → test (seen s.texts v) ≡ false → IsTaken 1 m k
        → Walks s (entries_from n first es) (walk test (entries_from n first es)) l k (Ok (walked.Refused offset v))
    walking-refused v k lt of_ is failed t =
        let whole : walk test (entries_from n first es) ≡ Refused offset (seen s.texts v) =
        sym w.rest ∙ ap (behind offset) (ahead (seen s.texts v) lt is)
        ∙ ap (λ b. behind offset (if b then one_passed (walk test (entries_from (n - (offset + 1)) (first +ℤ pos (offset + 1)) es)) else Refused 0 (seen s.texts v))) failed
        ∙ (let e : offset + 0 ≡ offset = omega arith in ap (λ j. Refused j (seen s.texts v)) e) in
        let charge : suc offset ≡ offset + 1 = omega arith in
        let taken_ : IsTaken (offset + 1) l k = taken-both offset 1 l m k w.taken t in
        ((whole, of_), subst (λ x. IsTaken (walk_charge (entries_from n first es) x) l k) (sym whole) (subst (λ j. IsTaken j l k) (sym charge) taken_))

    -- none is left
    pub walking-all : n ≤ offset → Walks s (entries_from n first es) (walk test (entries_from n first es)) l m (Ok (walked.Passed values))
    walking-all le =
        let none = none_left n offset le (first +ℤ pos offset) es in
        let within = w.within in
        let here : offset ≡ n = omega (arith, le, within) in
        let whole : walk test (entries_from n first es) ≡ PassedAll = sym w.rest ∙ ap (λ xs. behind offset (walk test xs)) none in
        let read : values_seen s.texts values ≡ entries_from n first es = sym (append-nil (values_seen s.texts values)) ∙ sym (ap (λ xs. values_seen s.texts values ++ xs) none) ∙ w.read in
        let charge : offset ≡ length (entries_from n first es) = here ∙ sym (length-entries n first es) in
        ((whole, read, w.of), subst (λ x. IsTaken (walk_charge (entries_from n first es) x) l m) (sym whole) (subst (λ j. IsTaken j l m) charge w.taken))

    -- the walk costs more than was taken
    dear : offset < n → offset < walk_charge (entries_from n first es) (walk test (entries_from n first es))
    dear lt = subst (λ x. offset < walk_charge (entries_from n first es) x) w.rest (go (walk test (entries_from (n - offset) (first +ℤ pos offset) es)))
      where
        go : (x : Walk) → offset < walk_charge (entries_from n first es) (behind offset x)
        go PassedAll = let e = length-entries n first es in omega (arith, e, lt)
        go (Refused k v) = omega arith

    -- no step is left for the next value
    pub walking-short : (k : Left) (e : Stop) (r : Result Walked Stop) → offset < n → Takes {A = Unit {0}} 1 m k (Err e) → r ≡ Err e → Walks s (entries_from n first es) (walk test (entries_from n first es)) l k r
    walking-short k e r lt t is = subst (Walks s (entries_from n first es) (walk test (entries_from n first es)) l k) (sym is) (go e t)
      where
        go : (e : Stop) → Takes {A = Unit {0}} 1 m k (Err e) → Walks s (entries_from n first es) (walk test (entries_from n first es)) l k (Err e)
        go (stop.Raised v level) t = absurd t
        go stop.Spent t =
            let more = dear lt in
            let less = t.short in
            let le = w.taken.covered in
            let rest : m.steps ≡ l.steps - offset = ap (λ (x : Left). x.steps) w.taken.rest in
            record { short = omega (arith, more, less, le, rest); rest = again l m k _ _ w.taken.rest t.rest }
        go stop.NoMemory t = tt

-- THE ENTRIES OF A TABLE are counted
drop_at : (es : Entries) (at : ℕ) (e : kind.Value × kind.Value) → slice_get es at ≡ Some e → drop at es ≡ e ∷ drop (at + 1) es
drop_at [] at e h = absurd cc
drop_at (x ∷ es) zero e h = let same_ : x ≡ e = cc in ap (λ y. y ∷ es) same_
drop_at (x ∷ es) (suc at) e h = let more : suc (at + 1) ≡ suc at + 1 = omega arith in drop_at es at e h ∙ ap (λ n. e ∷ drop n (x ∷ es)) more

drop_past : (es : Entries) (at : ℕ) → slice_get es at ≡ None → drop at es ≡ []
drop_past [] zero h = refl
drop_past [] (suc at) h = refl
drop_past (x ∷ es) zero h = absurd cc
drop_past (x ∷ es) (suc at) h = drop_past es at h

length-drop_at : (es : Entries) (at : ℕ) (e : kind.Value × kind.Value) → slice_get es at ≡ Some e → at < length es
length-drop_at [] at e h = absurd cc
length-drop_at (x ∷ es) zero e h = omega arith
length-drop_at (x ∷ es) (suc at) e h = let lt = length-drop_at es at e h in omega (arith, lt)

length-drop_past : (es : Entries) (at : ℕ) → slice_get es at ≡ None → length es ≤ at
length-drop_past [] at h = omega arith
length-drop_past (x ∷ es) zero h = absurd cc
length-drop_past (x ∷ es) (suc at) h = let le = length-drop_past es at h in omega (arith, le)

pub record Counting (es : Entries) (at : ℕ) (greatest : ℤ) (l m : Left) : Type 0 where
  pub rest : greatest_key greatest (drop at es) ≡ greatest_key (pos 0) es
  pub within : at ≤ length es
  pub taken : IsTaken at l m

pub counting-start : (es : Entries) (l : Left) → Counting es 0 (pos 0) l l
counting-start es l = let steps : l.steps ≡ l.steps - 0 = omega arith in record { rest = refl; within = omega arith; taken = record { covered = omega arith; rest = ap (with_steps l) steps } }

pub counting-on : (es : Entries) (at : ℕ) (greatest next : ℤ) (e : kind.Value × kind.Value) (l m k : Left) → slice_get es at ≡ Some e → next ≡ greater_key greatest e → IsTaken 1 m k
    → Counting es at greatest l m → Counting es (at + 1) next l k
counting-on es at greatest next e l m k is more t c =
    let lt = length-drop_at es at e is in
    record {
      rest = ap (λ z. greatest_key z (drop (at + 1) es)) more ∙ sym (ap (greatest_key greatest) (drop_at es at e is)) ∙ c.rest;
      within = omega (arith, lt);
      taken = taken-both at 1 l m k c.taken t;
    }

pub counting-all : (es : Entries) (at : ℕ) (greatest : ℤ) (l m : Left) → slice_get es at ≡ None → Counting es at greatest l m → Counts es l m (Ok greatest)
counting-all es at greatest l m is c =
    let le = length-drop_past es at is in
    let within = c.within in
    let all : at ≡ length es = omega (arith, le, within) in
    (sym c.rest ∙ ap (greatest_key greatest) (drop_past es at is), subst (λ n. IsTaken n l m) all c.taken)

pub counting-short : (es : Entries) (at : ℕ) (greatest : ℤ) (e : kind.Value × kind.Value) (l m k : Left) (x : Stop) (r : Result ℤ Stop) → slice_get es at ≡ Some e → Takes {A = Unit {0}} 1 m k (Err x) → r ≡ Err x
    → Counting es at greatest l m → Counts es l k r
counting-short es at greatest e l m k x r is t same_ c = subst (Counts es l k) (sym same_) (go x t)
  where
    go : (x : Stop) → Takes {A = Unit {0}} 1 m k (Err x) → Counts es l k (Err x)
    go (stop.Raised v level) t = absurd t
    go stop.Spent t =
        let lt = length-drop_at es at e is in
        let less = t.short in
        let le = c.taken.covered in
        let rest : m.steps ≡ l.steps - at = ap (λ (x : Left). x.steps) c.taken.rest in
        record { short = omega (arith, lt, less, le, rest); rest = again l m k _ _ c.taken.rest t.rest }
    go stop.NoMemory t = tt

-- the greatest key is given
pub paid-counted : (p : Plain Proc) (es : Entries) (s : StoreView) (l m : Left) (e : Stop) (r : Result (List Value) Stop) → p.charge ≡ length es → Counts es l m (Err e) → r ≡ Err e → Paid p s l s m r
paid-counted p es s l m e r c t is = subst (Paid p s l s m) (sym is) (go e t)
  where
    go : (e : Stop) → Counts es l m (Err e) → Paid p s l s m (Err e)
    go (stop.Raised v level) t = absurd t
    go stop.Spent t = let less = t.short in record { short = omega (arith, less, c); same = refl; rest = t.rest }
    go stop.NoMemory t = tt

-- a walk whose values are not covered ends the function that costs more
pub paid-walked : (p : Plain Proc) (vs : List kind.Value) (w : Walk) (s : StoreView) (l m : Left) (e : Stop) (r : Result (List Value) Stop) → walk_charge vs w ≤ p.charge → Walks s vs w l m (Err e) → r ≡ Err e → Paid p s l s m r
paid-walked p vs w s l m e r c t is = subst (Paid p s l s m) (sym is) (go e t)
  where
    go : (e : Stop) → Walks s vs w l m (Err e) → Paid p s l s m (Err e)
    go (stop.Raised v level) t = absurd t
    go stop.Spent t = let less = t.short in record { short = omega (arith, less, c); same = refl; rest = t.rest }
    go stop.NoMemory t = tt
