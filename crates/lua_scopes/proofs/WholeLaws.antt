-- What keeps the functions in progress whole.
use Rattle.std.proofs.Common.{◌≡◌, ◌∙◌, ℕ, Bool, true, refl, sym, ap, subst, List, [], ◌∷◌, map, length, Option, Some, None}
use Rattle.lua_code.specs.LuaMeaningScope.{Bytes}
use Rattle.lua_code.specs.LuaHeapRelated.{Each}
use Rattle.lua_code.specs.LuaSlotsIsCode.{IsCaptured}
use Rattle.lua_code.specs.declared.place.Place.{Place}
use Rattle.lua_code.specs.Seen.{place_seen}
use Rattle.lua_scopes.specs.declared.spots.Entry.{Entry}
use Rattle.lua_scopes.specs.declared.spots.Found.{Found}
use Rattle.lua_scopes.specs.declared.level.Variable.{Variable}
use Rattle.lua_scopes.specs.declared.level.Level.{Level as Held}
use Rattle.lua_scopes.specs.Scopes.{Level, Scopes, stack_sight, stack, closed_to, declared, IsLeftTo, IsLeft, IsPlaced}
use Rattle.lua_scopes.specs.Spots.{Spots, spot_at, names, level_seen, new_level, IsRight, AreSound, IsDeclared, IsClosed, Reaches}
use Rattle.lua_scopes.proofs.SightLaws.{begun as captures_begun, same_captures}
use Rattle.lua_scopes.proofs.SpotLaws.{none_known, begun, declared as declared_right, closed_seen}
use Rattle.lua_scopes.proofs.ReachLaws.{nowhere}

pub entered : (l : Held) (ls : List Held) (spots : Spots) → l ≡ new_level → AreSound ls spots → AreSound (l ∷ ls) spots
entered l ls spots e whole = (captures_begun (level_seen l) (map level_seen ls) (ap level_seen e) whole.0, begun l ls spots e whole.1)

pub started : (l : Held) (ls : List Held) (spots : Spots) → l ≡ new_level → ls ≡ [] → ((x : Bytes) → spot_at spots x ≡ None) → AreSound (l ∷ ls) spots
started l ls spots e f none = entered l ls spots e (subst (λ k. AreSound k spots) (sym f) (tt, none_known spots none))

pub entered_from : (l k j : Held) (ls ms : List Held) (spots : Spots) → l ≡ new_level → ms ≡ j ∷ ls → j ≡ k → AreSound (k ∷ ls) spots → AreSound (l ∷ ms) spots
entered_from l k j ls ms spots e f g whole = entered l ms spots e (subst (λ k. AreSound k spots) (sym (f ∙ ap (λ i. i ∷ ls) g)) whole)

pub record ArePlaced (ls ms : List Held) (new : Spots) (x : Bytes) (f : Found) : Type 0 where
  pub whole : AreSound ms new
  pub placed : IsPlaced (map level_seen ls) (map level_seen ms) x (Some (place_seen f.place))

pub places : (ls ms : List Held) (old new : Spots) (x : Bytes) (e : Entry) (f : Found) → Reaches ls ms old new x e f → spot_at old x ≡ Some e → AreSound ls old → ArePlaced ls ms new x f
places ls ms old new x e f reaches h whole =
    let there = reaches [] tt whole.1 (sym (whole.1.found x) ∙ h) in
    record { whole = (there.placed.captured whole.0, there.right); placed = there.placed }

-- what is seen of all functions
abbrev seen : Bool → Held → List Held → Scopes
seen clean l ls = record { clean = clean; level = level_seen l; outer = map level_seen ls }

abbrev with_level : Bool → Level → List Held → Scopes
with_level clean k ls = record { clean = clean; level = k; outer = map level_seen ls }

abbrev closed : ℕ → Scopes → Scopes
closed n s = record s { level = closed_to n s.level }

pub closed_scopes : (clean : Bool) (n : ℕ) (l m : Held) (ls : List Held) (old new : Spots) (s : Scopes) → seen clean l ls ≡ s → IsClosed n l m old new → seen clean m ls ≡ closed n s
closed_scopes clean n l m ls old new s is h = ap (λ k. with_level clean k ls) (closed_seen n l m old new h) ∙ ap (closed n) is

pub closed_whole : (clean : Bool) (n : ℕ) (l m : Held) (ls : List Held) (old new : Spots) → (clean ≡ true → AreSound (l ∷ ls) old) → IsClosed n l m old new → clean ≡ true → AreSound (m ∷ ls) new
closed_whole clean n l m ls old new whole h e =
    let w : AreSound (l ∷ ls) old = whole e in
    (same_captures (level_seen l) (level_seen m) (map level_seen ls) (ap (λ k. names k.captures) h.left) (ap (λ k. map place_seen k.places) h.left) w.0, h.right ls w.1)

-- one more variable
pub declared_scopes : (clean now : Bool) (v : Variable) (l m : Held) (ls : List Held) (depth : ℕ) (old new : Spots) (s : Scopes) → seen clean l ls ≡ s → now ≡ clean → IsDeclared l m v depth old new → seen now m ls ≡ declared v.name.now v.boxed s
declared_scopes clean now v l m ls depth old new s is same h = ap (λ b. seen b m ls) same ∙ ap (λ k. with_level clean (level_seen k) ls) h.0 ∙ ap (declared v.name.now v.boxed) is

pub declared_whole : (clean now : Bool) (v : Variable) (l m : Held) (ls : List Held) (depth : ℕ) (old new : Spots) → (clean ≡ true → AreSound (l ∷ ls) old) → now ≡ clean → depth ≡ length ls → v.shadowed ≡ spot_at old v.name.now
    → IsDeclared l m v depth old new → now ≡ true → AreSound (m ∷ ls) new
declared_whole clean now v l m ls depth old new whole same deep shadowed h e =
    let w : AreSound (l ∷ ls) old = whole (sym same ∙ e) in
    (same_captures (level_seen l) (level_seen m) (map level_seen ls) (ap (λ k. names k.captures) h.0) (ap (λ k. map place_seen k.places) h.0) w.0, declared_right v l m ls depth old new deep shadowed h w.1)

-- a function ends: the text itself doesn't
pub not_left : (clean : Bool) (l : Held) (ls ms : List Held) (s : Scopes) (places : List Place) → seen clean l ls ≡ s → ls ≡ [] → ms ≡ ls → IsLeft s (seen clean l ms) (map place_seen places)
not_left clean l ls ms s places is none same =
    subst (λ t. IsLeft t (seen clean l ms) (map place_seen places)) is
    (subst (λ os. IsLeftTo (map level_seen os) (seen clean l ls) (seen clean l ms) (map place_seen places)) (sym none) (ap (seen clean l) same))

pub left_scopes : (clean : Bool) (l k j i : Held) (ls ms : List Held) (old : Spots) (s : Scopes) (places : List Place) → seen clean l ls ≡ s → (clean ≡ true → AreSound (l ∷ ls) old) → ls ≡ k ∷ ms → j ≡ k → i ≡ l → places ≡ i.places
    → IsLeft s (seen clean j ms) (map place_seen places)
left_scopes clean l k j i ls ms old s places is whole popped now before same =
    let kept : clean ≡ true → Each (IsCaptured (stack_sight (map level_seen ls))) (names l.captures) (map place_seen l.places) = λ e. (whole e).0.0 in
    subst (λ t. IsLeft t (seen clean j ms) (map place_seen places)) is
    (subst (λ os. IsLeftTo (map level_seen os) (seen clean l ls) (seen clean j ms) (map place_seen places)) (sym popped)
    (ap (λ h. seen clean h ms) now, ap (map place_seen) (same ∙ ap (λ h. h.places) before), λ e. subst (λ os. Each (IsCaptured (stack_sight (map level_seen os))) (names l.captures) (map place_seen l.places)) popped (kept e)))

pub left_whole : (clean : Bool) (l k j i : Held) (ls ms : List Held) (old new : Spots) → (clean ≡ true → AreSound (l ∷ ls) old) → ls ≡ k ∷ ms → j ≡ k → i ≡ l → ((os : List Held) → IsRight (i ∷ os) old → IsRight os new)
    → clean ≡ true → AreSound (j ∷ ms) new
left_whole clean l k j i ls ms old new whole popped now before ends e =
    let w : AreSound (l ∷ ls) old = whole e in
    let right : IsRight ls new = ends ls (subst (λ h. IsRight (h ∷ ls) old) (sym before) w.1) in
    subst (λ os. AreSound os new) (popped ∙ ap (λ h. h ∷ ms) (sym now)) (w.0.1, right)

pub nowhere_placed : (clean : Bool) (l : Held) (ls : List Held) (spots : Spots) (s : Scopes) (x y : Bytes) (o : Option Entry) → seen clean l ls ≡ s → (clean ≡ true → AreSound (l ∷ ls) spots) → y ≡ x → o ≡ spot_at spots y → o ≡ None
    → clean ≡ true → (s.clean ≡ true) × IsPlaced (stack s) (map level_seen (l ∷ ls)) x None
nowhere_placed clean l ls spots s x y o is whole same found none e =
    let gone : spot_at spots x ≡ None = ap (spot_at spots) (sym same) ∙ sym found ∙ none in
    subst (λ t. (t.clean ≡ true) × IsPlaced (stack t) (map level_seen (l ∷ ls)) x None) is (e, nowhere (l ∷ ls) spots x (whole e).1 gone)

pub there_placed : (clean now : Bool) (l m : Held) (ls ms : List Held) (old new : Spots) (s : Scopes) (x y : Bytes) (o : Option Entry) (e : Entry) (f : Found) → seen clean l ls ≡ s → (clean ≡ true → AreSound (l ∷ ls) old) → y ≡ x → o ≡ spot_at old y → o ≡ Some e
    → (now ≡ true → (clean ≡ true) × Reaches (l ∷ ls) (m ∷ ms) old new y e f) → now ≡ true → (s.clean ≡ true) × IsPlaced (stack s) (map level_seen (m ∷ ms)) x (Some (place_seen f.place))
there_placed clean now l m ls ms old new s x y o e f is whole same found some reaches c =
    let r = reaches c in
    let there = places (l ∷ ls) (m ∷ ms) old new y e f r.1 (sym found ∙ some) (whole r.0) in
    subst (λ t. (t.clean ≡ true) × IsPlaced (stack t) (map level_seen (m ∷ ms)) x (Some (place_seen f.place))) is (r.0, subst (λ z. IsPlaced (map level_seen (l ∷ ls)) (map level_seen (m ∷ ms)) z (Some (place_seen f.place))) same there.placed)

pub there_whole : (clean now : Bool) (l m : Held) (ls ms : List Held) (old new : Spots) (y : Bytes) (o : Option Entry) (e : Entry) (f : Found) → (clean ≡ true → AreSound (l ∷ ls) old) → o ≡ spot_at old y → o ≡ Some e
    → (now ≡ true → (clean ≡ true) × Reaches (l ∷ ls) (m ∷ ms) old new y e f) → now ≡ true → AreSound (m ∷ ms) new
there_whole clean now l m ls ms old new y o e f whole found some reaches c =
    let r = reaches c in (places (l ∷ ls) (m ∷ ms) old new y e f r.1 (sym found ∙ some) (whole r.0)).whole
