-- Targets with their values, the last one first.
use Rattle.std.proofs.Common.{◌≡◌, ◌∙◌, ◌+◌, refl, sym, ap, subst, ℕ, List, [], ◌∷◌, map, drop, slice_get, Some, None}
use Rattle.std.specs.Prelude.{reverse}
use mathlib.Core.List.{reverse_aux}
use Rattle.std.specs.List.{AllByRecursion}
use Rattle.lua_state.proofs.LuaGraphPlaces.{drop_at, drop_past}
use Rattle.lua_code.specs.LuaMeaningValues.{first, rest}
use Rattle.lua_state.specs.LuaStoreDeclaredValueValue.{Value}
use Rattle.lua_state.specs.LuaStoreSeen.{StoreView, seen}
use Rattle.lua_code.specs.LuaSlotsStatements.{with_values}
use Rattle.lua_state.specs.LuaStackDeclaredValuesGiven.{Given}
use Rattle.lua_state.specs.LuaStackDeclaredFrameFound.{Found}
use Rattle.lua_state.specs.LuaStackDeclaredFrameSetting.{Setting}
use Rattle.lua_state.specs.LuaStackLists.{first_stored, rest_stored, given_values}
use Rattle.lua_state.specs.LuaStackSeen.{values_seen, given_seen, found_seen, settings_seen}
use Rattle.lua_state.specs.LuaStackOf.{ValuesOf, FoundOf, SettingOf}
use Rattle.lua_state.proofs.LuaStackOpenings.{first_seen, rest_seen, first_of}

-- some have their values, and what is left gives what all give
pub record Assigns (s : StoreView) (ts left : List Found) (vs0 vs : List Value) (ps : List Setting) : Type 0 where
  pub pairs : reverse_aux (with_values (map (found_seen s.texts) left) (values_seen s.texts vs)) (settings_seen s.texts ps) ≡ reverse (with_values (map (found_seen s.texts) ts) (values_seen s.texts vs0))
  pub left_ : AllByRecursion (FoundOf s) left
  pub values : ValuesOf s vs
  pub settings_ : AllByRecursion (SettingOf s) ps

pub assigns_first : (s : StoreView) (ts : List Found) (vs : List Value) (ps : List Setting) → ps ≡ [] → AllByRecursion (FoundOf s) ts → ValuesOf s vs → Assigns s ts ts vs vs ps
assigns_first s ts vs [] none h k = record { pairs = refl; left_ = h; values = k; settings_ = tt }
assigns_first s ts vs (p ∷ ps) none h k = absurd cc

rest_of : (s : StoreView) (vs : List Value) → ValuesOf s vs → ValuesOf s (rest_stored vs)
rest_of s [] h = tt
rest_of s (w ∷ vs) h = h.1

-- one more is set
abbrev pair_of : Found → Value → Setting
pair_of x v = record { target = x; value = v }

by_front : (s : StoreView) (ts rest' : List Found) (vs0 vs : List Value) (ps : List Setting) (x : Found) → Assigns s ts (x ∷ rest') vs0 vs ps → Assigns s ts rest' vs0 (rest_stored vs) (pair_of x (first_stored vs) ∷ ps)
by_front s ts rest' vs0 vs ps x a = record {
  pairs =
      ap (λ z. reverse_aux (with_values (map (found_seen s.texts) rest') z) (settings_seen s.texts (pair_of x (first_stored vs) ∷ ps))) (rest_seen s.texts vs)
      ∙ ap (λ z. reverse_aux (with_values (map (found_seen s.texts) rest') (rest (values_seen s.texts vs))) ((found_seen s.texts x, z) ∷ settings_seen s.texts ps)) (first_seen s.texts vs)
      ∙ a.pairs;
  left_ = a.left_.1;
  values = rest_of s vs a.values;
  settings_ = ((a.left_.0, first_of s vs (first_stored vs) refl a.values), a.settings_);
}

pub assigns_next : (s : StoreView) (ts : List Found) (at : ℕ) (vs0 vs vs' : List Value) (ps ps' : List Setting) (x : Found) (v : Value) → Some x ≡ slice_get ts at → v ≡ first_stored vs → vs' ≡ rest_stored vs → ps' ≡ pair_of x v ∷ ps
    → Assigns s ts (drop at ts) vs0 vs ps → Assigns s ts (drop (at + 1) ts) vs0 vs' ps'
assigns_next s ts at vs0 vs vs' ps ps' x v e f r p a =
    subst (λ z. Assigns s ts (drop (at + 1) ts) vs0 vs' z) (sym (p ∙ ap (λ w. pair_of x w ∷ ps) f))
    (subst (λ z. Assigns s ts (drop (at + 1) ts) vs0 z (pair_of x (first_stored vs) ∷ ps)) (sym r) (by_front s ts (drop (at + 1) ts) vs0 vs ps x (subst (λ z. Assigns s ts z vs0 vs ps) (drop_at ts at x (sym e)) a)))

pub assigns_all : (s : StoreView) (ts : List Found) (at : ℕ) (vs0 vs : List Value) (ps : List Setting) → None ≡ slice_get ts at → Assigns s ts (drop at ts) vs0 vs ps
    → settings_seen s.texts ps ≡ reverse (with_values (map (found_seen s.texts) ts) (values_seen s.texts vs0))
assigns_all s ts at vs0 vs ps e a = (subst (λ z. Assigns s ts z vs0 vs ps) (drop_past ts at (sym e)) a).pairs

-- the first of some values, as it is seen
pub seen_first : (texts : List (List ℕ)) (g : Given) (v : Value) → v ≡ first_stored (given_values g) → seen texts v ≡ first (given_seen texts g)
seen_first texts g v e = ap (seen texts) e ∙ first_seen texts (given_values g)
