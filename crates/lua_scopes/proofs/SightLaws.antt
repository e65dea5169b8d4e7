-- Where names stand stays so: through more variables, through a function that captures, and while functions capture more.
use Rattle.std.proofs.Common.{◌≡◌, ◌∙◌, ℕ, Bool, true, false, cond, refl, sym, ap, subst, List, [], ◌∷◌, ◌++◌, length, Option, Some, None, bytes_eq}
use Rattle.std.proofs.lemmas.Slice.Eq.{bytes_eq-Decides}
use Rattle.std.specs.List.{AllByRecursion}
use Rattle.lua_code.specs.LuaHeapRelated.{Each}
use Rattle.lua_code.specs.LuaHeapRelated as related
use Rattle.lua_code.specs.LuaMeaningScope.{Bytes}
use Rattle.lua_code.specs.LuaSlotsCode.{Place, Reg, Box, Up}
use Rattle.lua_code.specs.LuaSlotsSight.{Sighted, Everywhere, Here, Hidden, Sight, nothing_local, newest, deeper, inside, up_of, up_or}
use Rattle.lua_code.specs.LuaSlotsIsCode.{is_plain, IsCaptured}
use Rattle.lua_scopes.specs.Scopes.{Local, Level, nothing_known, with_capture, local_sight, level_sight, stack_sight, Misses, AreCaptured, StaysAs, Covers, Grows, IsPlaced}
use Rattle.lua_scopes.specs.declared.spots.Found.{Found}
use Rattle.lua_scopes.specs.Spots.{IsFound, IsCelled}
use Rattle.lua_code.specs.Seen.{place_seen}
use Rattle.lua_scopes.proofs.SpotLaws.{up_more, local_miss}

-- ONE NAME
stays_same : (s : Sighted) → StaysAs s s
stays_same Hidden = tt
stays_same Everywhere = refl
stays_same (Here p) = refl

stays_trans : (a b c : Sighted) → StaysAs a b → StaysAs b c → StaysAs a c
stays_trans Hidden b c h k = tt
stays_trans Everywhere b c h k = subst (λ s. StaysAs s c) h k
stays_trans (Here p) b c h k = subst (λ s. StaysAs s c) h k

stays_here : (a b : Sighted) (p : Place) → StaysAs a b → a ≡ Here p → b ≡ Here p
stays_here a b p h e = subst (λ s. StaysAs s b) e h

stays_everywhere : (a b : Sighted) → StaysAs a b → a ≡ Everywhere → b ≡ Everywhere
stays_everywhere a b h e = subst (λ s. StaysAs s b) e h

stays_deeper : (a b : Sighted) → StaysAs a b → StaysAs (deeper a) (deeper b)
stays_deeper Hidden b h = tt
stays_deeper Everywhere b h = ap deeper h
stays_deeper (Here (Reg i)) b h = ap deeper h
stays_deeper (Here (Box i)) b h = ap deeper h
stays_deeper (Here (Up i)) b h = ap deeper h

stays_up : (o : Option ℕ) (a b : Sighted) → StaysAs a b → StaysAs (up_or o a) (up_or o b)
stays_up (Some i) a b h = refl
stays_up None Everywhere b h = ap (up_or None) h
stays_up None (Here p) b h = tt
stays_up None Hidden b h = tt

stays_with : (t b : Bool) (x y : Sighted) → StaysAs x y → StaysAs (cond t (Here (newest b)) (deeper x)) (cond t (Here (newest b)) (deeper y))
stays_with true b x y h = refl
stays_with false b x y h = stays_deeper x y h

-- ALL NAMES
pub covers_same : (a : Sight) → Covers a a
covers_same a x = stays_same (a x)

pub covers_trans : (a b c : Sight) → Covers a b → Covers b c → Covers a c
covers_trans a b c h k x = stays_trans (a x) (b x) (c x) (h x) (k x)

pub covers_here : (a b : Sight) (x : Bytes) (p : Place) → Covers a b → a x ≡ Here p → b x ≡ Here p
covers_here a b x p h e = stays_here (a x) (b x) p (h x) e

pub covers_everywhere : (a b : Sight) (x : Bytes) → Covers a b → a x ≡ Everywhere → b x ≡ Everywhere
covers_everywhere a b x h e = stays_everywhere (a x) (b x) (h x) e

pub covers_local : (ls : List Local) (a b : Sight) → Covers a b → Covers (local_sight ls a) (local_sight ls b)
covers_local [] a b h x = h x
covers_local (l ∷ ls) a b h x = stays_with (bytes_eq l.name x) l.boxed _ _ (covers_local ls a b h x)

pub covers_inside : (names : List Bytes) (a b : Sight) → Covers a b → Covers (inside names a) (inside names b)
covers_inside names a b h x = stays_up (up_of names x) (a x) (b x) (h x)

hides : (a b : Sighted) (p : Place) (o : Sighted) → StaysAs a b → b ≡ Here p → StaysAs (up_or None a) o
hides Everywhere b p o h e = absurd (differ (sym h ∙ e))
  where
    differ : Everywhere ≡ Here p → ⊥
    differ e = cc
hides (Here q) b p o h e = tt
hides Hidden b p o h e = tt

captures_at : (t : Bool) (n : ℕ) (o : Option ℕ) (a b : Sighted) → (t ≡ true → o ≡ None) → (t ≡ true → (p : Place) × (b ≡ Here p)) → StaysAs a b → StaysAs (up_or o a) (up_or (cond t (Some n) o) b)
captures_at true n o a b none here h = subst (λ q. StaysAs (up_or q a) (Here (Up n))) (sym (none refl)) (hides a b (here refl).0 _ h (here refl).1)
captures_at false n o a b none here h = stays_up o a b h

pub covers_captured : (names : List Bytes) (x : Bytes) (a b : Sight) (p : Place) → Covers a b → b x ≡ Here p → up_of names x ≡ None → Covers (inside names a) (inside (names ++ x ∷ []) b)
covers_captured names x a b p h here none y =
    subst (λ o. StaysAs (up_or (up_of names y) (a y)) (up_or o (b y))) (sym (up_more names x y none))
    (captures_at (bytes_eq x y) (length names) (up_of names y) (a y) (b y)
    (λ e. subst (λ z. up_of names z ≡ None) ((bytes_eq-Decides x y).0 e) none)
    (λ e. (p, subst (λ z. b z ≡ Here p) ((bytes_eq-Decides x y).0 e) here)) (h y))

-- FUNCTIONS
pub grows_same : (ls : List Level) → Grows ls ls
grows_same [] = tt
grows_same (l ∷ ls) = (refl, covers_same (inside l.names (stack_sight ls)), grows_same ls)

pub grows_trans : (a b c : List Level) → Grows a b → Grows b c → Grows a c
grows_trans [] [] [] h k = tt
grows_trans (l ∷ ls) (m ∷ ms) (n ∷ ns) h k = (k.0 ∙ h.0, covers_trans _ _ _ h.1 k.1, grows_trans ls ms ns h.2 k.2)
grows_trans [] [] (n ∷ ns) h k = absurd k
grows_trans [] (m ∷ ms) c h k = absurd h
grows_trans (l ∷ ls) [] c h k = absurd h
grows_trans (l ∷ ls) (m ∷ ms) [] h k = absurd k

pub grows_covers : (ls ms : List Level) → Grows ls ms → Covers (stack_sight ls) (stack_sight ms)
grows_covers [] [] h x = refl
grows_covers (l ∷ ls) (m ∷ ms) h x = subst (λ k. StaysAs (level_sight l (stack_sight ls) x) (local_sight k (inside m.names (stack_sight ms)) x)) (sym h.0) (covers_local l.locals _ _ h.1 x)
grows_covers [] (m ∷ ms) h x = absurd h
grows_covers (l ∷ ls) [] h x = absurd h

-- CAPTURED NAMES
pub captured_on : (a b : Sight) (names : List Bytes) (places : List Place) → Covers a b → Each (IsCaptured a) names places → Each (IsCaptured b) names places
captured_on a b _ _ h related.none = related.none
captured_on a b _ _ h (related.more x p xs ps c e) = related.more x p xs ps (record { here = covers_here a b x p h c.here; celled = c.celled }) (captured_on a b xs ps h e)

captured_more : (see : Sight) (names : List Bytes) (places : List Place) (x : Bytes) (p : Place) → Each (IsCaptured see) names places → IsCaptured see x p → Each (IsCaptured see) (names ++ x ∷ []) (places ++ p ∷ [])
captured_more see _ _ x p related.none c = related.more x p [] [] c related.none
captured_more see _ _ x p (related.more y q ys qs d e) c = related.more y q (ys ++ x ∷ []) (qs ++ p ∷ []) d (captured_more see ys qs x p e c)

-- A NAME that is looked for
pub known : (l : Level) (ls : List Level) (x : Bytes) (f : Found) → IsFound l x f → IsPlaced (l ∷ ls) (l ∷ ls) x (Some (place_seen f.place))
known l ls x f h = record { grows = grows_same (l ∷ ls); captured = λ c. c; sighted = h.here (stack_sight ls) }

miss_sight : (l : Level) (x : Bytes) (see : Sight) (s : Sighted) → Misses l x → see x ≡ s → s ≡ Everywhere → level_sight l see x ≡ Everywhere
miss_sight l x see s h e everywhere = local_miss l.locals (inside l.names see) x Everywhere h.no_local (ap (λ o. up_or o (see x)) h.no_capture ∙ ap (up_or None) (e ∙ everywhere)) refl

pub unknown : (ls : List Level) (x : Bytes) → AllByRecursion (λ l. Misses l x) ls → stack_sight ls x ≡ Everywhere
unknown [] x h = refl
unknown (l ∷ ls) x h = miss_sight l x (stack_sight ls) Everywhere h.0 (unknown ls x h.1) refl

-- a function captures what was found around it
pub passed : (l m : Level) (ls ms : List Level) (x : Bytes) (p : Place) (i : ℕ) → Misses l x → IsPlaced ls ms x (Some p) → is_plain p ≡ false → m ≡ with_capture x p l → i ≡ length l.names → IsPlaced (l ∷ ls) (m ∷ ms) x (Some (Up i))
passed l m ls ms x p i miss placed celled e f =
    let k : Level = with_capture x p l in
    let covers : Covers (stack_sight ls) (stack_sight ms) = grows_covers ls ms placed.grows in
    let grown : Grows (l ∷ ls) (k ∷ ms) = (refl, covers_captured l.names x _ _ p covers placed.sighted miss.no_capture, placed.grows) in
    let own : IsCaptured (stack_sight ms) x p = record { here = placed.sighted; celled = celled } in
    let up : up_of k.names x ≡ Some (length l.names) = up_more l.names x x miss.no_capture ∙ ap (λ t. cond t (Some (length l.names)) (up_of l.names x)) ((bytes_eq-Decides x x).1 refl) in
    let sight : level_sight k (stack_sight ms) x ≡ Here (Up (length l.names)) = local_miss l.locals (inside k.names (stack_sight ms)) x (Here (Up (length l.names))) miss.no_local (ap (λ o. up_or o (stack_sight ms x)) up) refl in
    let there : IsPlaced (l ∷ ls) (k ∷ ms) x (Some (Up (length l.names))) =
    record { grows = grown; captured = λ c. (captured_more (stack_sight ms) l.names l.places x p (captured_on _ _ l.names l.places covers c.0) own, placed.captured c.1); sighted = sight } in
    subst (λ j. IsPlaced (l ∷ ls) (m ∷ ms) x (Some (Up j))) (sym f) (subst (λ j. IsPlaced (l ∷ ls) (j ∷ ms) x (Some (Up (length l.names)))) (sym e) there)

-- A LEVEL that is new, or has the same captures
pub begun : (l : Level) (ls : List Level) → l ≡ nothing_known → AreCaptured ls → AreCaptured (l ∷ ls)
begun l ls e h = subst (λ k. AreCaptured (k ∷ ls)) (sym e) (related.none, h)

pub same_captures : (l m : Level) (ls : List Level) → m.names ≡ l.names → m.places ≡ l.places → AreCaptured (l ∷ ls) → AreCaptured (m ∷ ls)
same_captures l m ls e f h = (subst (λ ns. Each (IsCaptured (stack_sight ls)) ns m.places) (sym e) (subst (Each (IsCaptured (stack_sight ls)) l.names) (sym f) h.0), h.1)
