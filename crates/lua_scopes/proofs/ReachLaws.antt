-- A name is looked for through the functions in progress.
use Rattle.std.proofs.Common.{◌≡◌, ◌∙◌, ℕ, suc, ◌<◌, refl, sym, ap, subst, List, [], ◌∷◌, map, length, Option, Some, None, arith}
use Rattle.std.specs.List.{AllByRecursion}
use Rattle.lua_code.specs.LuaMeaningScope.{Bytes}
use Rattle.lua_code.specs.LuaSlotsCode.{Up}
use Rattle.lua_code.specs.LuaSlotsIsCode.{is_plain}
use Rattle.lua_code.specs.declared.place.Place.{Place}
use Rattle.lua_code.specs.declared.place.Place.TheVariants.{Captured}
use Rattle.lua_code.specs.Seen.{place_seen}
use Rattle.lua_scopes.specs.declared.spots.Spot.{Spot}
use Rattle.lua_scopes.specs.declared.spots.Entry.{Entry}
use Rattle.lua_scopes.specs.declared.spots.Found.{Found}
use Rattle.lua_scopes.specs.declared.level.Capture.{Capture}
use Rattle.lua_scopes.specs.declared.level.Level.{Level as Held}
use Rattle.lua_scopes.specs.Scopes.{Misses, stack_sight, IsPlaced}
use Rattle.lua_scopes.specs.Spots.{Spots, spot_at, names, level_seen, spot_of, entry_or, entry_of, IsRight, IsCapturing, found_of, IsFound, IsCelled, AllMiss, onto, IsReached, Reaches}
use Rattle.lua_scopes.proofs.SightLaws.{grows_same, known, unknown, passed}
use Rattle.lua_scopes.proofs.SpotLaws.{missed, found, missed_inside, captured, captured_seen, below, same_length}

same_entry : (e f : Entry) → Some e ≡ Some f → e ≡ f
same_entry e f h = cc

-- the function itself knows it
here_by : (l : Held) (ls : List Held) (es : Spots) (x : Bytes) (e : Entry) (f : Found) (inner : List Held) (o : Option Spot) → spot_of x l.variables l.captures ≡ o → e.depth ≡ length ls → f ≡ found_of e.spot (length l.variables)
    → IsRight (onto inner (l ∷ ls)) es → entry_or (length ls) o (entry_of x ls) ≡ Some e → IsReached (l ∷ ls) (l ∷ ls) es x f inner
here_by l ls es x e f inner (Some s) is deep it right h =
    let same : found_of s (length l.variables) ≡ f = ap (λ k. found_of k.spot (length l.variables)) (same_entry _ _ h) ∙ sym it in
    let at : IsFound (level_seen l) x f = subst (IsFound (level_seen l) x) same (found l x s is) in
    record { right = right; placed = known (level_seen l) (map level_seen ls) x f at; celled = at.celled; as_many = refl }
here_by l ls es x e f inner None is deep it right h = let less = below x ls e h in absurd (omega (arith, less, deep))

pub here : (l : Held) (ls : List Held) (es : Spots) (x : Bytes) (e : Entry) (f : Found) → e.depth ≡ length ls → f ≡ found_of e.spot (length l.variables) → Reaches (l ∷ ls) (l ∷ ls) es es x e f
here l ls es x e f deep it inner miss right h = here_by l ls es x e f inner (spot_of x l.variables l.captures) refl deep it right h

-- another one around knows it, and it is captured from there
record IsElsewhere (l : Held) (ls : List Held) (x : Bytes) (e : Entry) : Type 0 where
  miss : spot_of x l.variables l.captures ≡ None
  around : entry_of x ls ≡ Some e

elsewhere : (l : Held) (ls : List Held) (x : Bytes) (e : Entry) (o : Option Spot) → spot_of x l.variables l.captures ≡ o → (e.depth ≡ length ls → ⊥) → entry_or (length ls) o (entry_of x ls) ≡ Some e → IsElsewhere l ls x e
elsewhere l ls x e (Some s) is not_here h = absurd (not_here (sym (ap (λ k. k.depth) (same_entry _ _ h))))
elsewhere l ls x e None is not_here h = record { miss = is; around = h }

pub beyond : (l m : Held) (ls os ms ns : List Held) (es fs gs : Spots) (c : Capture) (e : Entry) (f : Found) (p : Place) (depth : ℕ) → (e.depth ≡ length ls → ⊥) → ls ≡ os → ms ≡ ns → Reaches os ns es fs c.name.now e f → f.plain ≡ None
    → c.shadowed ≡ spot_at fs c.name.now → depth ≡ length ms → IsCapturing l m c f.place depth fs gs p → Reaches (l ∷ ls) (m ∷ ms) es gs c.name.now e (record { place = p; plain = None })
beyond l m ls os ms ns es fs gs c e f p depth not_here before after reached plain shadowed deep capturing inner miss right h =
    let x : Bytes = c.name.now in
    let it : Reaches ls ms es fs x e f = subst (λ k. Reaches ls k es fs x e f) (sym after) (subst (λ k. Reaches k ns es fs x e f) (sym before) reached) in
    let else_where = elsewhere l ls x e (spot_of x l.variables l.captures) refl not_here h in
    let there : IsReached ls ms fs x f (l ∷ inner) = it (l ∷ inner) (else_where.miss, miss) right else_where.around in
    let own : Misses (level_seen l) x = missed l x else_where.miss in
    let kept : c.shadowed ≡ entry_of x ms = shadowed ∙ there.right.found x ∙ missed_inside x (l ∷ inner) ms (else_where.miss, miss) in
    let place : place_seen p ≡ Up (length (names l.captures)) = ap place_seen capturing.place ∙ ap Up (sym (same_length l.captures)) in
    record {
      right = captured inner l m ms c f.place p depth fs gs deep miss own kept capturing there.right;
      placed = subst (λ q. IsPlaced (map level_seen (l ∷ ls)) (map level_seen (m ∷ ms)) x (Some q)) (sym place)
          (passed (level_seen l) (level_seen m) (map level_seen ls) (map level_seen ms) x (place_seen f.place) (length (names l.captures)) own there.placed (there.celled plain) (captured_seen l m c f.place depth fs gs p capturing) refl);
      celled = λ q. ap is_plain place;
      as_many = ap suc there.as_many;
    }

-- no function knows it
miss_by : (l : Held) (ls : List Held) (x : Bytes) (o : Option Spot) → spot_of x l.variables l.captures ≡ o → (entry_of x ls ≡ None → AllByRecursion (λ k. Misses k x) (map level_seen ls)) → entry_or (length ls) o (entry_of x ls) ≡ None
    → AllByRecursion (λ k. Misses k x) (map level_seen (l ∷ ls))
miss_by l ls x (Some s) is around h = cc
miss_by l ls x None is around h = (missed l x is, around h)

all_miss : (ls : List Held) (x : Bytes) → entry_of x ls ≡ None → AllByRecursion (λ k. Misses k x) (map level_seen ls)
all_miss [] x h = tt
all_miss (l ∷ ls) x h = miss_by l ls x (spot_of x l.variables l.captures) refl (all_miss ls x) h

pub nowhere : (ls : List Held) (es : Spots) (x : Bytes) → IsRight ls es → spot_at es x ≡ None → IsPlaced (map level_seen ls) (map level_seen ls) x None
nowhere ls es x right h = record { grows = grows_same (map level_seen ls); captured = λ c. c; sighted = unknown (map level_seen ls) x (all_miss ls x (sym (right.found x) ∙ h)) }
