-- The map of names, against the variables that are seen.
use Rattle.std.proofs.Common.{◌≡◌, ◌∙◌, ℕ, Bool, true, false, true≢false, cond, refl, sym, ap, List, [], ◌∷◌, drop, length, ◌-◌, ◌<◌, ◌≤◌, suc, arith, bytes_eq, Bor, subst}
use Rattle.std.specs.Prelude.{Option, Some, None, unwrap_or, Result, Ok, Err, MatchOption}
use Rattle.std.specs.Map.{lookup}
use Rattle.std.proofs.lemmas.Slice.Eq.{bytes_eq-Decides}
use Rattle.lua_uses.specs.Uses.{is_bound}
use Rattle.lua_lint.specs.declared.scopes.Open.{Open}
use Rattle.lua_lint.specs.Scopes.{Bytes, Entries, bound_at, names_of, IsRight, IsNoted, IsBoundIn, without_newest, KeepsRight, AreEnded}

-- ---- a map that is written at a name
pulls : (b v : Bool) (o : Option Bool) → unwrap_or (cond b (Some v) o) false ≡ cond b v (unwrap_or o false)
pulls true v o = refl
pulls false v o = refl

pub noted : (k : Bor Bytes) (v : Bool) (old new : Entries) → ((q : Bor Bytes) → lookup (λ (b : Bor Bytes). bytes_eq q.now b.now) new ≡ cond (bytes_eq k.now q.now) (Some v) (lookup (λ (b : Bor Bytes). bytes_eq q.now b.now) old)) → IsNoted old k.now v new
noted k v old new h x = ap (λ (o : Option Bool). unwrap_or o false) (h (record k { now = x })) ∙ pulls (bytes_eq k.now x) v _

pub none_there : (o : Option Bool) → o ≡ None → unwrap_or o false ≡ false
none_there None e = refl
none_there (Some b) e = cc

-- ---- a variable more
declared_right : (o : Open) (os : List Open) (es es' : Entries) → IsRight os es → o.older ≡ bound_at es o.name.now → IsNoted es o.name.now true es' → IsRight (o ∷ os) es'
declared_right o os es es' r e h = record {
  found = λ x. h x ∙ ap (λ (b : Bool). cond (bytes_eq o.name.now x) true b) (r.found x);
  kept = (e ∙ r.found o.name.now, r.kept);
}

pub declared : {T E : Type 0} (o : Open) (os os' : List Open) (es es' : Entries) (result : Result T E) → o.older ≡ bound_at es o.name.now → os' ≡ o ∷ os → IsNoted es o.name.now true es' → KeepsRight os es os' es'
declared o os os' es es' result e p h r = subst (λ (l : List Open). IsRight l es') (sym p) (declared_right o os es es' r e h)

tail_same : (o x : Open) (os new : List Open) → o ∷ os ≡ x ∷ new → new ≡ os
tail_same o x os new e = sym cc

pub taken_back : (o : Open) (os pushed new : List Open) (popped : Option Open) → pushed ≡ o ∷ os → MatchOption popped ((pushed ≡ []) × (new ≡ pushed)) (λ x. pushed ≡ x ∷ new) → new ≡ os
taken_back o os pushed new None p h = absurd (never (sym p ∙ h.0))
  where
    never : o ∷ os ≡ [] → ⊥
    never e = absurd cc
taken_back o os pushed new (Some x) p h = tail_same o x os new (sym p ∙ h)

pub unchanged : (os os' : List Open) (es es' : Entries) → os' ≡ os → es' ≡ es → KeepsRight os es os' es'
unchanged os os' es es' p q r = subst (λ (l : List Open). IsRight l es') (sym p) (subst (λ (e : Entries). IsRight os e) (sym q) r)

-- ---- the newest variable ends
ended_at : (o : Open) (os : List Open) (es : Entries) (x : Bytes) (b : Bool) → bytes_eq o.name.now x ≡ b → IsRight (o ∷ os) es → cond b o.older (bound_at es x) ≡ is_bound (names_of os) x
ended_at o os es x true e r = r.kept.0 ∙ ap (is_bound (names_of os)) ((bytes_eq-Decides o.name.now x).0 e)
ended_at o os es x false e r = r.found x ∙ ap (λ (b : Bool). cond b true (is_bound (names_of os) x)) e

ended_right : (o : Open) (os : List Open) (es es' : Entries) → IsRight (o ∷ os) es → IsNoted es o.name.now o.older es' → IsRight os es'
ended_right o os es es' r h = record {
  found = λ x. h x ∙ ended_at o os es x (bytes_eq o.name.now x) refl r;
  kept = r.kept.1;
}

-- the newest variable is bound, so there was memory
newest_bound : (o : Open) (os : List Open) (es : Entries) → IsRight (o ∷ os) es → bound_at es o.name.now ≡ true
newest_bound o os es r = r.found o.name.now ∙ ap (λ (b : Bool). cond b true (is_bound (names_of os) o.name.now)) ((bytes_eq-Decides o.name.now o.name.now).1 refl)

ended_by : {T E : Type 0} (o : Open) (os : List Open) (es es' : Entries) (result : Result T E) → IsBoundIn es o.name.now o.older es' result → IsRight (o ∷ os) es → IsRight os es'
ended_by o os es es' (Ok x) h r = ended_right o os es es' r h
ended_by o os es es' (Err e) h r = absurd (true≢false (sym (newest_bound o os es r) ∙ h.1))

pub ended : {T E : Type 0} (o : Open) (os os' : List Open) (es es' : Entries) (result : Result T E) → os ≡ o ∷ os' → IsBoundIn es o.name.now o.older es' result → KeepsRight os es os' es'
ended o os os' es es' result p h r = ended_by o os' es es' result h (subst (λ (l : List Open). IsRight l es) p r)

pub ended_names : {T E : Type 0} (o : Open) (os os' : List Open) (result : Result T E) → os ≡ o ∷ os' → AreEnded os os' result
ended_names o os os' (Ok x) p = sym (ap (λ (l : List Open). without_newest (names_of l)) p)
ended_names o os os' (Err e) p = tt

pub none_ended : (os os' : List Open) → os ≡ [] → os' ≡ os → names_of os' ≡ without_newest (names_of os)
none_ended os os' p q = ap names_of (q ∙ p) ∙ sym (ap (λ (l : List Open). without_newest (names_of l)) p)

-- ---- closing
drop_step : (count : ℕ) (now : List Bytes) → count < length now → drop (length (without_newest now) - count) (without_newest now) ≡ drop (length now - count) now
drop_step count [] h = refl
drop_step count (n ∷ now) h =
    let more : suc (length now) - count ≡ suc (length now - count) = omega (arith, h) in
    sym (ap (λ (k : ℕ). drop k (n ∷ now)) more)

pub closing : (count : ℕ) (first now next : List Bytes) → drop (length now - count) now ≡ drop (length first - count) first → count < length now → next ≡ without_newest now → drop (length next - count) next ≡ drop (length first - count) first
closing count first now next h less e = ap (λ (l : List Bytes). drop (length l - count) l) e ∙ drop_step count now less ∙ h

pub closing_falls : (count : ℕ) (now next : List Bytes) → count < length now → next ≡ without_newest now → length next < length now
closing_falls count [] next less e = absurd (omega (arith, less))
closing_falls count (n ∷ now) next less e = let same : length next ≡ length now = ap length e in omega (arith, same)

drop_none : (n : ℕ) (now : List Bytes) → n ≡ 0 → drop n now ≡ now
drop_none n now e = ap (λ (k : ℕ). drop k now) e

pub closed : (count : ℕ) (first now : List Bytes) → drop (length now - count) now ≡ drop (length first - count) first → length now ≤ count → now ≡ drop (length first - count) first
closed count first now h less = sym (drop_none (length now - count) now (omega (arith, less))) ∙ h
