-- What the map has for names, against where names stand.
use Rattle.std.proofs.Common.{◌≡◌, ◌∙◌, ℕ, zero, suc, ◌-◌, ◌<◌, Bool, true, false, true≢false, cond, refl, sym, ap, subst, List, [], ◌∷◌, ◌++◌, map, length, drop, ◌≤◌, slice_get, Option, Some, None, option_map, bytes_eq, Bor, arith}
use Rattle.std.proofs.lemmas.Slice.Eq.{bytes_eq-Decides}
use Rattle.std.proofs.lemmas.List.{drop_all}
use Rattle.std.specs.Cmp.{IsEquivalence, on_equiv}
use Rattle.std.specs.Cmp.Lexicographic.{nat_list_eq_equiv}
use Rattle.indexmap.specs.IndexMap.{IndexMap, IsUnique, with_value_at}
use Rattle.indexmap.proofs.CallerLemmas.{updates-with_value_at}
use Rattle.std.specs.Map.{lookup}
use Rattle.lua_code.specs.LuaMeaningScope.{Bytes}
use Rattle.lua_code.specs.LuaSlotsCode.{Place as PlainPlace, Reg, Box, Up}
use Rattle.lua_code.specs.LuaSlotsSight.{Sighted, Here, Sight, newest, deeper, inside, up_of, up_or}
use Rattle.lua_code.specs.declared.place.Place.{Place}
use Rattle.lua_code.specs.Seen.{place_seen}
use Rattle.lua_scopes.specs.declared.spots.Spot.{Spot}
use Rattle.lua_scopes.specs.declared.spots.Spot.TheVariants as spot
use Rattle.lua_scopes.specs.declared.spots.Entry.{Entry}
use Rattle.lua_scopes.specs.declared.level.Variable.{Variable}
use Rattle.lua_scopes.specs.declared.level.Capture.{Capture}
use Rattle.lua_scopes.specs.declared.level.Level.{Level as Held}
use Rattle.lua_scopes.specs.Scopes.{Local, Level, local_sight, is_local, Misses, closed_to, with_capture}
use Rattle.lua_scopes.specs.Spots.{Spots, joined, spot_at, StandsAt, IsNoted, local_seen, names, level_seen, new_level, spot_of, entry_or, entry_of, AreKept, AreShadowed, AreAllShadowed, IsRight, IsDeclared, IsEndedOf, IsEnded, IsClosed, IsCapturing, IsGivenSoFar, IsGivenBack, found_of, IsFound, AllMiss, onto}

-- EQUAL BYTES
flips : (a b : Bytes) (s t : Bool) → bytes_eq a b ≡ s → bytes_eq b a ≡ t → s ≡ t
flips a b true true e f = refl
flips a b false false e f = refl
flips a b true false e f = sym ((bytes_eq-Decides b a).1 (sym ((bytes_eq-Decides a b).0 e))) ∙ f
flips a b false true e f = sym e ∙ (bytes_eq-Decides a b).1 (sym ((bytes_eq-Decides b a).0 f))

flip : (a b : Bytes) → bytes_eq a b ≡ bytes_eq b a
flip a b = flips a b (bytes_eq a b) (bytes_eq b a) refl refl

-- two names that differ are not both the same as a third
not_both : (a b x : Bytes) → bytes_eq a b ≡ false → bytes_eq a x ≡ true → bytes_eq b x ≡ true → ⊥
not_both a b x d e f = true≢false (sym ((bytes_eq-Decides a b).1 ((bytes_eq-Decides a x).0 e ∙ sym ((bytes_eq-Decides b x).0 f))) ∙ d)

-- A MAP that is written at a name
pulls : (b : Bool) (v : Option Entry) (o : Option (Option Entry)) → joined (cond b (Some v) o) ≡ cond b v (joined o)
pulls true v o = refl
pulls false v o = refl

pub noted : (k : Bor Bytes) (v : Option Entry) (old new : Spots) → ((q : Bor Bytes) → lookup (λ (b : Bor Bytes). bytes_eq q.now b.now) new ≡ cond (bytes_eq k.now q.now) (Some v) (lookup (λ (b : Bor Bytes). bytes_eq q.now b.now) old)) → IsNoted old k.now v new
noted k v old new h x = ap joined (h (record k { now = x })) ∙ pulls (bytes_eq k.now x) v _

pub nothing_noted : (k : Bor Bytes) (old new : Spots) → IsNoted old k.now None new → ((x : Bytes) → spot_at old x ≡ None) → (x : Bytes) → spot_at new x ≡ None
nothing_noted k old new written none x = written x ∙ both (bytes_eq k.now x) (spot_at old x) (none x)
  where
    both : (b : Bool) (o : Option Entry) → o ≡ None → cond b None o ≡ None
    both true o e = refl
    both false o e = e

-- a name that stands at a place, and is written there
pub stands : (es : Spots) (i : ℕ) (x : Bytes) (o : Option (Bor (Bor Bytes) × Bor (Option Entry))) (k : Bor (Bor Bytes)) (v : Bor (Option Entry)) → option_map (λ (p : Bor (Bor Bytes) × Bor (Option Entry)). (p.0.now, p.1.now)) o ≡ slice_get es i → o ≡ Some (k, v) → bytes_eq k.now.now x ≡ true
    → StandsAt es i x
stands es i x o k v at is e = (k.now, v.now, sym at ∙ ap (option_map (λ (p : Bor (Bor Bytes) × Bor (Option Entry)). (p.0.now, p.1.now))) is, (bytes_eq-Decides k.now.now x).0 e)

names_are_same : IsEquivalence (λ (a b : Bor Bytes). bytes_eq a.now b.now)
names_are_same = on_equiv (λ (k : Bor Bytes). k.now) nat_list_eq_equiv

pub put_there : {S : Type 0} (m : IndexMap (Bor Bytes) (Option Entry) S) (i : ℕ) (w : Option Entry) → IsUnique (λ (a b : Bor Bytes). bytes_eq a.now b.now) m → (x : Bytes) → StandsAt m.entries i x → IsNoted m.entries x w (with_value_at m i w).entries
put_there m i w unique x (k, v, at, same) = subst (λ y. IsNoted m.entries y w (with_value_at m i w).entries) same (noted k w m.entries (with_value_at m i w).entries (updates-with_value_at m i w names_are_same unique k v at).0)

-- WHERE A NAME STANDS
both_false : (b c : Bool) → cond b true c ≡ false → (b ≡ false) × (c ≡ false)
both_false true c e = absurd (true≢false e)
both_false false c e = (refl, e)

-- where a name stands that is no local variable
pub local_miss : (ls : List Local) (see : Sight) (x : Bytes) (s : Sighted) → is_local x ls ≡ false → see x ≡ s → deeper s ≡ s → local_sight ls see x ≡ s
local_miss [] see x s h e d = e
local_miss (l ∷ ls) see x s h e d =
    let parts = both_false (bytes_eq l.name x) (is_local x ls) h in
    ap (λ t. cond t (Here (newest l.boxed)) (deeper (local_sight ls see x))) parts.0 ∙ ap deeper (local_miss ls see x s parts.1 e d) ∙ d

-- WHAT A SPOT MEANS
abbrev placed : Bool → ℕ → PlainPlace
placed true i = Box i
placed false i = Reg i

abbrev Means : Bytes → List Variable → List Bytes → Option Spot → Type 0
Means x vs ns (Some (spot.Local older b number)) = (older < length vs) × ((see : Sight) → local_sight (map local_seen vs) see x ≡ Here (placed b (length vs - suc older)))
Means x vs ns (Some (spot.Captured i)) = (is_local x (map local_seen vs) ≡ false) × (up_of ns x ≡ Some i)
Means x vs ns None = (is_local x (map local_seen vs) ≡ false) × (up_of ns x ≡ None)

newest_placed : (b : Bool) (i : ℕ) → i ≡ 0 → newest b ≡ placed b i
newest_placed true i e = ap Box (sym e)
newest_placed false i e = ap Reg (sym e)

deeper_placed : (b : Bool) (i j : ℕ) → suc i ≡ j → deeper (Here (placed b i)) ≡ Here (placed b j)
deeper_placed true i j e = ap (λ n. Here (Box n)) e
deeper_placed false i j e = ap (λ n. Here (Reg n)) e

no_variable : (x : Bytes) (ns : List Bytes) (o : Option ℕ) → up_of ns x ≡ o → Means x [] ns (option_map spot.Captured o)
no_variable x ns (Some i) e = (refl, e)
no_variable x ns None e = (refl, e)

older_means : (x : Bytes) (v : Variable) (vs : List Variable) (ns : List Bytes) (s : Option Spot) → bytes_eq v.name.now x ≡ false → Means x vs ns s → Means x (v ∷ vs) ns s
older_means x v vs ns (Some (spot.Local older b number)) h m =
    let in_range : older < length vs = m.0 in
    let next : suc (length vs - suc older) ≡ suc (length vs) - suc older = omega (arith, in_range) in
    (omega (arith, in_range), λ see. ap (λ t. cond t (Here (newest v.boxed)) (deeper (local_sight (map local_seen vs) see x))) h ∙ ap deeper (m.1 see) ∙ deeper_placed b (length vs - suc older) (suc (length vs) - suc older) next)
older_means x v vs ns (Some (spot.Captured i)) h m = (ap (λ t. cond t true (is_local x (map local_seen vs))) h ∙ m.0, m.1)
older_means x v vs ns None h m = (ap (λ t. cond t true (is_local x (map local_seen vs))) h ∙ m.0, m.1)

newest_means : (x : Bytes) (v : Variable) (vs : List Variable) (ns : List Bytes) (s : Option Spot) (t : Bool) → bytes_eq v.name.now x ≡ t → Means x vs ns s
    → Means x (v ∷ vs) ns (cond t (Some (spot.Local (length vs) v.boxed v.number)) s)
newest_means x v vs ns s true h m =
    let none : suc (length vs) - suc (length vs) ≡ 0 = omega arith in
    (omega arith, λ see. ap (λ t. cond t (Here (newest v.boxed)) (deeper (local_sight (map local_seen vs) see x))) h ∙ ap Here (newest_placed v.boxed _ none))
newest_means x v vs ns s false h m = older_means x v vs ns s h m

means : (x : Bytes) (vs : List Variable) (cs : List Capture) → Means x vs (names cs) (spot_of x vs cs)
means x [] cs = no_variable x (names cs) (up_of (names cs) x) refl
means x (v ∷ vs) cs = newest_means x v vs (names cs) (spot_of x vs cs) (bytes_eq v.name.now x) refl (means x vs cs)

pub missed : (l : Held) (x : Bytes) → spot_of x l.variables l.captures ≡ None → Misses (level_seen l) x
missed l x e =
    let m : Means x l.variables (names l.captures) None = subst (Means x l.variables (names l.captures)) e (means x l.variables l.captures) in
    record { no_local = m.0; no_capture = m.1 }

found_means : (l : Held) (x : Bytes) (s : Spot) → Means x l.variables (names l.captures) (Some s) → IsFound (level_seen l) x (found_of s (length l.variables))
found_means l x (spot.Captured i) m =
    record { here = λ outside. local_miss (map local_seen l.variables) (inside (names l.captures) outside) x (Here (Up i)) m.0 (ap (λ o. up_or o (outside x)) m.1) refl; celled = λ e. refl }
found_means l x (spot.Local older true number) m = record { here = λ outside. m.1 (inside (names l.captures) outside); celled = λ e. refl }
found_means l x (spot.Local older false number) m = record { here = λ outside. m.1 (inside (names l.captures) outside); celled = λ e. cc }

pub found : (l : Held) (x : Bytes) (s : Spot) → spot_of x l.variables l.captures ≡ Some s → IsFound (level_seen l) x (found_of s (length l.variables))
found l x s e = found_means l x s (subst (Means x l.variables (names l.captures)) e (means x l.variables l.captures))

-- WHAT KEEPS the map right: a new function and a new variable
pub none_known : (spots : Spots) → ((x : Bytes) → spot_at spots x ≡ None) → IsRight [] spots
none_known spots none = record { found = none; shadowed = tt }

pub begun : (l : Held) (ls : List Held) (spots : Spots) → l ≡ new_level → IsRight ls spots → IsRight (l ∷ ls) spots
begun l ls spots e right = subst (λ k. IsRight (k ∷ ls) spots) (sym e) (record { found = right.found; shadowed = (tt, right.shadowed) })

chosen : (b : Bool) (n : ℕ) (s : Spot) (o : Option Spot) (outside : Option Entry) → entry_or n (cond b (Some s) o) outside ≡ cond b (Some (record { depth = n; spot = s })) (entry_or n o outside)
chosen true n s o outside = refl
chosen false n s o outside = refl

pub declared : (v : Variable) (l m : Held) (ls : List Held) (depth : ℕ) (old new : Spots) → depth ≡ length ls → v.shadowed ≡ spot_at old v.name.now → IsDeclared l m v depth old new → IsRight (l ∷ ls) old → IsRight (m ∷ ls) new
declared v l m ls depth old new deep shadowed h right =
    let s : Spot = spot.Local (length l.variables) v.boxed v.number in
    let x : Bytes = v.name.now in
    let written : IsNoted old x (Some (record { depth = length ls; spot = s })) new = subst (λ n. IsNoted old x (Some (record { depth = n; spot = s })) new) deep h.1 in
    subst (λ k. IsRight (k ∷ ls) new) (sym h.0)
    (record {
      found = λ y. written y ∙ ap (λ o. cond (bytes_eq x y) (Some (record { depth = length ls; spot = s })) o) (right.found y) ∙ sym (chosen (bytes_eq x y) (length ls) s (spot_of y l.variables l.captures) (entry_of y ls));
      shadowed = ((shadowed ∙ right.found x, right.shadowed.0), right.shadowed.1);
    })

-- the newest variable ends
ended_at : (v : Variable) (vs : List Variable) (cs : List Capture) (ls : List Held) (x : Bytes) (old new : Option Entry) (b : Bool) → bytes_eq v.name.now x ≡ b
    → v.shadowed ≡ entry_or (length ls) (spot_of v.name.now vs cs) (entry_of v.name.now ls) → new ≡ cond b v.shadowed old
    → old ≡ entry_or (length ls) (cond b (Some (spot.Local (length vs) v.boxed v.number)) (spot_of x vs cs)) (entry_of x ls) → new ≡ entry_or (length ls) (spot_of x vs cs) (entry_of x ls)
ended_at v vs cs ls x old new true h s e f = e ∙ s ∙ ap (λ y. entry_or (length ls) (spot_of y vs cs) (entry_of y ls)) ((bytes_eq-Decides v.name.now x).0 h)
ended_at v vs cs ls x old new false h s e f = e ∙ f

abbrev of_variables : List Variable → Held → Held
of_variables vs l = record l { variables = vs }

ended_of : (vs : List Variable) (l m : Held) (ls : List Held) (old new : Spots) → IsEndedOf vs (of_variables vs l) m old new → IsRight (of_variables vs l ∷ ls) old → IsRight (m ∷ ls) new
ended_of [] l m ls old new h right = subst (λ k. IsRight (k ∷ ls) new) (sym h.0) (subst (IsRight (of_variables [] l ∷ ls)) (sym h.1) right)
ended_of (v ∷ vs) l m ls old new h right =
    subst (λ k. IsRight (k ∷ ls) new) (sym h.0)
    (record { found = λ x. ended_at v vs l.captures ls x (spot_at old x) (spot_at new x) (bytes_eq v.name.now x) refl right.shadowed.0.0 (h.1 x) (right.found x); shadowed = (right.shadowed.0.1, right.shadowed.1) })

-- ALL BUT THE OLDEST VARIABLES end
abbrev pub closing : ℕ → Held → Held
closing n l = of_variables (drop (length l.variables - n) l.variables) l

pub record ClosedSoFar (n : ℕ) (l m : Held) (old new : Spots) : Type 0 where
  pub left : closing n m ≡ closing n l
  pub right : (ls : List Held) → IsRight (l ∷ ls) old → IsRight (m ∷ ls) new

pub closed_start : (n : ℕ) (l : Held) (old : Spots) → ClosedSoFar n l l old old
closed_start n l old = record { left = refl; right = λ ls r. r }

closing_of : (n : ℕ) (vs : List Variable) (m k : Held) (new newer : Spots) → n < length vs → IsEndedOf vs (of_variables vs m) k new newer → closing n k ≡ closing n (of_variables vs m)
closing_of n [] m k new newer less h = absurd (omega (arith, less))
closing_of n (v ∷ vs) m k new newer less h =
    let next : suc (length vs) - n ≡ suc (length vs - n) = omega (arith, less) in
    ap (closing n) h.0 ∙ sym (ap (λ i. of_variables (drop i (v ∷ vs)) m) next)

pub closed_step : (n : ℕ) (l m k : Held) (old new newer : Spots) → ClosedSoFar n l m old new → n < length m.variables → IsEnded m k new newer → ClosedSoFar n l k old newer
closed_step n l m k old new newer so less h =
    record { left = closing_of n m.variables m k new newer less h ∙ so.left; right = λ ls r. ended_of m.variables m k ls new newer h (so.right ls r) }

pub closed_end : (n : ℕ) (l m : Held) (old new : Spots) → ClosedSoFar n l m old new → length m.variables ≤ n → IsClosed n l m old new
closed_end n l m old new so h =
    let none : length m.variables - n ≡ 0 = omega (arith, h) in
    record { left = sym (ap (λ i. of_variables (drop i m.variables) m) none) ∙ so.left; right = so.right }

pub fewer : (n : ℕ) (m k : Held) (new newer : Spots) → n < length m.variables → IsEnded m k new newer → length k.variables < length m.variables
fewer n m k new newer less h = go m.variables less h
  where
    go : (vs : List Variable) → n < length vs → IsEndedOf vs (of_variables vs m) k new newer → length k.variables < length vs
    go [] less h = absurd (omega (arith, less))
    go (v ∷ vs) less h = let e : length k.variables ≡ length vs = ap (λ j. length j.variables) h.0 in omega (arith, e)

dropped : (i : ℕ) (vs : List Variable) → map local_seen (drop i vs) ≡ drop i (map local_seen vs)
dropped zero vs = refl
dropped (suc i) [] = refl
dropped (suc i) (v ∷ vs) = dropped i vs

as_many : (vs : List Variable) → length (map local_seen vs) ≡ length vs
as_many [] = refl
as_many (v ∷ vs) = ap suc (as_many vs)

pub closed_seen : (n : ℕ) (l m : Held) (old new : Spots) → IsClosed n l m old new → level_seen m ≡ closed_to n (level_seen l)
closed_seen n l m old new h =
    ap level_seen h.left ∙ ap (λ ls. record (level_seen l) { locals = ls }) (dropped (length l.variables - n) l.variables ∙ ap (λ k. drop (k - n) (map local_seen l.variables)) (sym (as_many l.variables)))

-- CAPTURED NAMES are given back
pub given_start : (cs : List Capture) (old : Spots) → IsGivenSoFar cs cs old old
given_start cs old ls kept h = (kept, h)

given_at : (c : Capture) (cs : List Capture) (ls : List Held) (x : Bytes) (old new : Option Entry) (b : Bool) → bytes_eq c.name.now x ≡ b → c.shadowed ≡ entry_of c.name.now ls
    → new ≡ cond b c.shadowed old → (cond b (Some zero) (option_map suc (up_of (names cs) x)) ≡ None → old ≡ entry_of x ls) → up_of (names cs) x ≡ None → new ≡ entry_of x ls
given_at c cs ls x old new true h s e f none = e ∙ s ∙ ap (λ y. entry_of y ls) ((bytes_eq-Decides c.name.now x).0 h)
given_at c cs ls x old new false h s e f none = e ∙ f (ap (option_map suc) none)

pub given_step : (cs left : List Capture) (c : Capture) (rest : List Capture) (old new newer : Spots) → IsGivenSoFar cs left old new → left ≡ c ∷ rest → IsNoted new c.name.now c.shadowed newer → IsGivenSoFar cs rest old newer
given_step cs left c rest old new newer so e written ls kept h =
    let more : IsGivenSoFar cs (c ∷ rest) old new = subst (λ l. IsGivenSoFar cs l old new) e so in
    let now = more ls kept h in
    (now.0.1, λ x none. given_at c rest ls x (spot_at new x) (spot_at newer x) (bytes_eq c.name.now x) refl now.0.0 (written x) (now.1 x) none)

pub given_end : (cs left : List Capture) (old new : Spots) → IsGivenSoFar cs left old new → left ≡ [] → IsGivenBack cs old new
given_end cs left old new so e ls kept h x =
    let more : IsGivenSoFar cs [] old new = subst (λ l. IsGivenSoFar cs l old new) e so in
    (more ls kept h).1 x refl

unknown_at : (n : ℕ) (x : Bytes) (cs : List Capture) (o : Option ℕ) (outside : Option Entry) → up_of (names cs) x ≡ o → o ≡ None → entry_or n (option_map spot.Captured o) outside ≡ outside
unknown_at n x cs (Some i) outside e none = cc
unknown_at n x cs None outside e none = refl

-- a function ends
pub gone : (l m : Held) (cs : List Capture) (ls : List Held) (old new newer : Spots) → IsClosed 0 l m old new → cs ≡ m.captures → IsGivenBack cs new newer → IsRight (l ∷ ls) old → IsRight ls newer
gone l m cs ls old new newer closed same given right =
    let none : drop (length l.variables - 0) l.variables ≡ [] = drop_all (length l.variables - 0) l.variables (omega arith) in
    let is : m ≡ of_variables [] l = closed.left ∙ ap (λ vs. of_variables vs l) none in
    let now : IsRight (of_variables [] l ∷ ls) new = subst (λ k. IsRight (k ∷ ls) new) is (closed.right ls right) in
    let back : IsGivenBack l.captures new newer = subst (λ k. IsGivenBack k new newer) (same ∙ ap (λ k. k.captures) is) given in
    record { found = back ls now.shadowed.0 (λ x e. now.found x ∙ unknown_at (length ls) x l.captures (up_of (names l.captures) x) (entry_of x ls) refl e); shadowed = now.shadowed.1 }

swap : (b c : Bool) (p q r : Option Spot) → (b ≡ true → c ≡ true → ⊥) → cond b p (cond c q r) ≡ cond c q (cond b p r)
swap true true p q r never = absurd (never refl refl)
swap true false p q r never = refl
swap false c p q r never = refl

no_name : (k m : Bytes) (ns : List Bytes) (b : Bool) (o : Option ℕ) → cond b (Some zero) (option_map suc o) ≡ None → (b ≡ false) × (o ≡ None)
no_name k m ns true o e = cc
no_name k m ns false (Some i) e = cc
no_name k m ns false None e = (refl, refl)

up_swap : (b c : Bool) (n : ℕ) (o p : Option ℕ) → (b ≡ true → c ≡ true → ⊥) → p ≡ cond c (Some n) o → cond b (Some zero) (option_map suc p) ≡ cond c (Some (suc n)) (cond b (Some zero) (option_map suc o))
up_swap true true n o p never e = absurd (never refl refl)
up_swap true false n o p never e = refl
up_swap false true n o p never e = ap (option_map suc) e
up_swap false false n o p never e = ap (option_map suc) e

pub up_more : (ns : List Bytes) (m x : Bytes) → up_of ns m ≡ None → up_of (ns ++ m ∷ []) x ≡ cond (bytes_eq m x) (Some (length ns)) (up_of ns x)
up_more [] m x h = refl
up_more (k ∷ ns) m x h =
    let parts = no_name k m ns (bytes_eq k m) (up_of ns m) h in
    up_swap (bytes_eq k x) (bytes_eq m x) (length ns) (up_of ns x) (up_of (ns ++ m ∷ []) x) (not_both k m x parts.0) (up_more ns m x parts.1)

mapped : (b : Bool) (n : ℕ) (o : Option ℕ) → option_map spot.Captured (cond b (Some n) o) ≡ cond b (Some (spot.Captured n)) (option_map spot.Captured o)
mapped true n o = refl
mapped false n o = refl

pub same_length : (cs : List Capture) → length (names cs) ≡ length cs
same_length [] = refl
same_length (c ∷ cs) = ap suc (same_length cs)

pub names_more : (cs : List Capture) (c : Capture) → names (cs ++ c ∷ []) ≡ names cs ++ c.name.now ∷ []
names_more [] c = refl
names_more (d ∷ cs) c = ap (λ ns. d.name.now ∷ ns) (names_more cs c)

places_more : (ps : List Place) (p : Place) → map place_seen (ps ++ p ∷ []) ≡ map place_seen ps ++ place_seen p ∷ []
places_more [] p = refl
places_more (q ∷ ps) p = ap (λ qs. place_seen q ∷ qs) (places_more ps p)

pub captured_seen : (l m : Held) (c : Capture) (from : Place) (depth : ℕ) (old new : Spots) (p : Place) → IsCapturing l m c from depth old new p → level_seen m ≡ with_capture c.name.now (place_seen from) (level_seen l)
captured_seen l m c from depth old new p h =
    ap level_seen h.now
    ∙ ap (λ ns. record (level_seen l) { names = ns; places = map place_seen (l.places ++ from ∷ []) }) (names_more l.captures c)
    ∙ ap (λ ps. record (level_seen l) { names = names l.captures ++ c.name.now ∷ []; places = ps }) (places_more l.places from)

spot_more : (vs : List Variable) (cs : List Capture) (c : Capture) (x : Bytes) → is_local c.name.now (map local_seen vs) ≡ false → up_of (names cs) c.name.now ≡ None
    → spot_of x vs (cs ++ c ∷ []) ≡ cond (bytes_eq c.name.now x) (Some (spot.Captured (length cs))) (spot_of x vs cs)
spot_more [] cs c x h u =
    ap (λ ns. option_map spot.Captured (up_of ns x)) (names_more cs c)
    ∙ ap (option_map spot.Captured) (up_more (names cs) c.name.now x u)
    ∙ mapped (bytes_eq c.name.now x) (length (names cs)) (up_of (names cs) x)
    ∙ ap (λ n. cond (bytes_eq c.name.now x) (Some (spot.Captured n)) (option_map spot.Captured (up_of (names cs) x))) (same_length cs)
spot_more (v ∷ vs) cs c x h u =
    let parts = both_false (bytes_eq v.name.now c.name.now) (is_local c.name.now (map local_seen vs)) h in
    ap (λ o. cond (bytes_eq v.name.now x) (Some (spot.Local (length vs) v.boxed v.number)) o) (spot_more vs cs c x parts.1 u)
    ∙ swap (bytes_eq v.name.now x) (bytes_eq c.name.now x) _ _ (spot_of x vs cs) (not_both v.name.now c.name.now x parts.0)

-- ANOTHER FUNCTION in the place of one: what is known of other names stays, and so does what functions inside them shadow
abbrev Others : Bytes → List Held → List Held → Type 0
Others x a b = (y : Bytes) → bytes_eq x y ≡ false → entry_of y b ≡ entry_of y a

others_more : (x : Bytes) (l : Held) (a b : List Held) → length b ≡ length a → Others x a b → Others x (l ∷ a) (l ∷ b)
others_more x l a b e h y d = ap (λ n. entry_or n (spot_of y l.variables l.captures) (entry_of y b)) e ∙ ap (entry_or (length a) (spot_of y l.variables l.captures)) (h y d)

kept_on : (x : Bytes) (cs : List Capture) (a b : List Held) → up_of (names cs) x ≡ None → Others x a b → AreKept cs a → AreKept cs b
kept_on x [] a b u h k = tt
kept_on x (c ∷ cs) a b u h k =
    let parts = no_name c.name.now x (names cs) (bytes_eq c.name.now x) (up_of (names cs) x) u in
    (k.0 ∙ sym (h c.name.now (flip x c.name.now ∙ parts.0)), kept_on x cs a b parts.1 h k.1)

shadowed_on : (x : Bytes) (vs : List Variable) (cs : List Capture) (a b : List Held) → is_local x (map local_seen vs) ≡ false → up_of (names cs) x ≡ None → length b ≡ length a → Others x a b → AreShadowed vs cs a → AreShadowed vs cs b
shadowed_on x [] cs a b m u e h s = kept_on x cs a b u h s
shadowed_on x (v ∷ vs) cs a b m u e h s =
    let parts = both_false (bytes_eq v.name.now x) (is_local x (map local_seen vs)) m in
    let name : Bytes = v.name.now in
    (s.0 ∙ sym (ap (λ n. entry_or n (spot_of name vs cs) (entry_of name b)) e ∙ ap (entry_or (length a) (spot_of name vs cs)) (h name (flip x name ∙ parts.0))), shadowed_on x vs cs a b parts.1 u e h s.1)

outside : (inner ls : List Held) → AreAllShadowed (onto inner ls) → AreAllShadowed ls
outside [] ls h = h
outside (l ∷ inner) ls h = (outside inner (l ∷ ls) h).1

inside_on : (x : Bytes) (inner a b : List Held) → length b ≡ length a → Others x a b → AllMiss x inner → AreAllShadowed (onto inner a) → AreAllShadowed b → AreAllShadowed (onto inner b)
inside_on x [] a b e h miss s t = t
inside_on x (l ∷ inner) a b e h miss s t =
    let m = missed l x miss.0 in
    inside_on x inner (l ∷ a) (l ∷ b) (ap suc e) (others_more x l a b e h) miss.1 s (shadowed_on x l.variables l.captures a b m.no_local m.no_capture e h (outside inner (l ∷ a) s).0, t)

others_inside : (x : Bytes) (inner a b : List Held) → length b ≡ length a → Others x a b → Others x (onto inner a) (onto inner b)
others_inside x [] a b e h = h
others_inside x (l ∷ inner) a b e h = others_inside x inner (l ∷ a) (l ∷ b) (ap suc e) (others_more x l a b e h)

pub missed_inside : (x : Bytes) (inner ls : List Held) → AllMiss x inner → entry_of x (onto inner ls) ≡ entry_of x ls
missed_inside x [] ls miss = refl
missed_inside x (l ∷ inner) ls miss = missed_inside x inner (l ∷ ls) miss.1 ∙ ap (λ o. entry_or (length ls) o (entry_of x ls)) miss.0

-- A FUNCTION CAPTURES a name, which those inside it don't know
kept_more : (cs : List Capture) (c : Capture) (ls : List Held) → AreKept cs ls → c.shadowed ≡ entry_of c.name.now ls → AreKept (cs ++ c ∷ []) ls
kept_more [] c ls k e = (e, tt)
kept_more (d ∷ cs) c ls k e = (k.0, kept_more cs c ls k.1 e)

shadowed_more : (vs : List Variable) (cs : List Capture) (c : Capture) (ls : List Held) → is_local c.name.now (map local_seen vs) ≡ false → up_of (names cs) c.name.now ≡ None → AreShadowed vs cs ls → c.shadowed ≡ entry_of c.name.now ls
    → AreShadowed vs (cs ++ c ∷ []) ls
shadowed_more [] cs c ls m u s e = kept_more cs c ls s e
shadowed_more (v ∷ vs) cs c ls m u s e =
    let name : Bytes = v.name.now in
    let parts = both_false (bytes_eq name c.name.now) (is_local c.name.now (map local_seen vs)) m in
    let same : spot_of name vs (cs ++ c ∷ []) ≡ spot_of name vs cs = spot_more vs cs c name parts.1 u ∙ ap (λ t. cond t (Some (spot.Captured (length cs))) (spot_of name vs cs)) (flip c.name.now name ∙ parts.0) in
    (s.0 ∙ sym (ap (λ o. entry_or (length ls) o (entry_of name ls)) same), shadowed_more vs cs c ls parts.1 u s.1 e)

captured_at : (x y : Bytes) (b : Bool) (e old new was is : Option Entry) → bytes_eq x y ≡ b → new ≡ cond b e old → old ≡ was → (b ≡ true → is ≡ e) → (b ≡ false → is ≡ was) → new ≡ is
captured_at x y true e old new was is h written right here other = written ∙ sym (here refl)
captured_at x y false e old new was is h written right here other = written ∙ right ∙ sym (other refl)

captured_of : (inner : List Held) (l : Held) (ls : List Held) (c : Capture) (from : Place) (old new : Spots) → AllMiss c.name.now inner → Misses (level_seen l) c.name.now → c.shadowed ≡ entry_of c.name.now ls
    → IsNoted old c.name.now (Some (record { depth = length ls; spot = spot.Captured (length l.captures) })) new → IsRight (onto inner (l ∷ ls)) old
    → IsRight (onto inner (record l { captures = l.captures ++ c ∷ []; places = l.places ++ from ∷ [] } ∷ ls)) new
captured_of inner l ls c from old new inner_miss miss shadowed written right =
    let x : Bytes = c.name.now in
    let m : Held = record l { captures = l.captures ++ c ∷ []; places = l.places ++ from ∷ [] } in
    let entry : Entry = record { depth = length ls; spot = spot.Captured (length l.captures) } in
    let more : (y : Bytes) → spot_of y m.variables m.captures ≡ cond (bytes_eq x y) (Some (spot.Captured (length l.captures))) (spot_of y l.variables l.captures) = λ y. spot_more l.variables l.captures c y miss.no_local miss.no_capture in
    let others : Others x (l ∷ ls) (m ∷ ls) = λ y d. ap (λ o. entry_or (length ls) o (entry_of y ls)) (more y ∙ ap (λ b. cond b (Some (spot.Captured (length l.captures))) (spot_of y l.variables l.captures)) d) in
    let own : entry_of x (m ∷ ls) ≡ Some entry = ap (λ o. entry_or (length ls) o (entry_of x ls)) (more x ∙ ap (λ b. cond b (Some (spot.Captured (length l.captures))) (spot_of x l.variables l.captures)) ((bytes_eq-Decides x x).1 refl)) in
    let all : entry_of x (onto inner (m ∷ ls)) ≡ Some entry = missed_inside x inner (m ∷ ls) inner_miss ∙ own in
    let before = outside inner (l ∷ ls) right.shadowed in
    record {
      found = λ y. captured_at x y (bytes_eq x y) (Some entry) (spot_at old y) (spot_at new y) (entry_of y (onto inner (l ∷ ls))) (entry_of y (onto inner (m ∷ ls))) refl (written y) (right.found y)
          (λ t. subst (λ z. entry_of z (onto inner (m ∷ ls)) ≡ Some entry) ((bytes_eq-Decides x y).0 t) all)
          (λ d. others_inside x inner (l ∷ ls) (m ∷ ls) refl others y d);
      shadowed = inside_on x inner (l ∷ ls) (m ∷ ls) refl others inner_miss right.shadowed (shadowed_more l.variables l.captures c ls miss.no_local miss.no_capture before.0 shadowed, before.1);
    }

pub captured : (inner : List Held) (l m : Held) (ls : List Held) (c : Capture) (from p : Place) (depth : ℕ) (old new : Spots) → depth ≡ length ls → AllMiss c.name.now inner → Misses (level_seen l) c.name.now
    → c.shadowed ≡ entry_of c.name.now ls → IsCapturing l m c from depth old new p → IsRight (onto inner (l ∷ ls)) old → IsRight (onto inner (m ∷ ls)) new
captured inner l m ls c from p depth old new deep inner_miss miss shadowed h right =
    subst (λ k. IsRight (onto inner (k ∷ ls)) new) (sym h.now)
    (captured_of inner l ls c from old new inner_miss miss shadowed (subst (λ n. IsNoted old c.name.now (Some (record { depth = n; spot = spot.Captured (length l.captures) })) new) deep h.noted) right)

-- WHICH FUNCTION knows a name
same_depth : (a b : Entry) → Some a ≡ Some b → a.depth ≡ b.depth
same_depth a b h = cc

below_by : (x : Bytes) (ls : List Held) (e : Entry) (o : Option Spot) → (entry_of x ls ≡ Some e → e.depth < length ls) → entry_or (length ls) o (entry_of x ls) ≡ Some e → e.depth < suc (length ls)
below_by x ls e (Some s) beyond h = let d : length ls ≡ e.depth = same_depth _ _ h in omega (arith, d)
below_by x ls e None beyond h = let less = beyond h in omega (arith, less)

pub below : (x : Bytes) (ls : List Held) (e : Entry) → entry_of x ls ≡ Some e → e.depth < length ls
below x [] e h = cc
below x (l ∷ ls) e h = below_by x ls e (spot_of x l.variables l.captures) (below x ls e) h
