-- Items of a constructor: one before other entries gives its first value, and the last one gives all its values, one after another.
use Rattle.std.proofs.Common.{◌≡◌, ◌≢◌, ◌∙◌, ◌+◌, refl, ap, arith, ℕ, List, [], ◌∷◌, length, Some}
use Rattle.std.specs.Prelude.{pos}
use Rattle.lua_code.specs.LuaHeapValue.{Value as Plain, Number}
use Rattle.lua_operators.specs.LuaMeaningValues.{first}
use Rattle.lua_code.specs.declared.expression.Expression.{Expression}
use Rattle.lua_code.specs.declared.expression.Entry.{Entry}
use Rattle.lua_code.specs.declared.expression.Entry.TheOpen.{Entry-F, Item, Pair}
use Rattle.lua_code.specs.declared.expression.Entry.TheViews.{out-Entry}
use Rattle.lua_code.specs.declared.expression.Entry.TheFolds.{map-Entry, fold_out-Entry}
use Rattle.lua_code.specs.Seen.{entry_step, expression_seen, entry_seen, entries_seen}
use Rattle.lua_operators.specs.LuaStoreDeclaredValueValue.{Value}
use Rattle.lua_operators.specs.LuaStoreSeen.{seen}
use Rattle.lua_code.specs.LuaSlotsCode.{CFields}
use Rattle.lua_operators.specs.LuaSlotsSlots.{Slots}
use Rattle.lua_operators.specs.LuaSlotsPoints.{SFrame, FieldsNext, ItemsNext}
use Rattle.lua_code.specs.LuaSlotsIndex.{set_entry}
use Rattle.lua_code.specs.LuaSlotsExpressions.{item, items}
use Rattle.lua_state.specs.LuaStackDeclaredValuesGiven.{Given}
use Rattle.lua_state.specs.LuaStackLists.{first_stored, rest_stored, given_values}
use Rattle.lua_operators.specs.LuaStackSeen.{values_seen, given_seen}
use Rattle.lua_state.proofs.LuaStackOpenings.{first_seen}

-- the first of some values is set, and the others wait
pub first_item : (texts : List (List ℕ)) (vs rest : List Value) (k v : Value) (t n next line : ℕ) (fs : List SFrame) (s : Slots) → vs ≢ [] → seen texts k ≡ Number (pos n) → v ≡ first_stored vs → rest ≡ rest_stored vs → next ≡ n + 1
    → items t n (values_seen texts vs) line fs s ≡ set_entry t (seen texts k) (seen texts v) (Some line) (ItemsNext t next (values_seen texts rest) line ∷ fs) s
first_item texts [] rest k v t n next line fs s some a b c d = absurd (some refl)
first_item texts (w ∷ ws) rest k v t n next line fs s some a b c d = rw (a, b, c, d) refl

pub none_left : (vs : List Value) (n : ℕ) → n ≡ length vs → n ≡ 0 → vs ≡ []
none_left [] n e z = refl
none_left (v ∷ vs) n e z = absurd (omega (arith, e, z))

pub seen_first : (texts : List (List ℕ)) (g : Given) (v : Value) → v ≡ first_stored (given_values g) → seen texts v ≡ first (given_seen texts g)
seen_first texts g v e = ap (seen texts) e ∙ first_seen texts (given_values g)

-- an entry is an item or a pair
entry_opens : (x : Entry) (rest : CFields) → entry_seen x rest ≡ entry_step (map-Entry _ _ _ _ entry_seen expression_seen (out-Entry x)) rest
unfolding expression_seen entry_seen
entry_opens x rest = ap (λ (y : CFields → CFields). y rest) (fold_out-Entry _ _ _ _ x)

before_one : (l : Entry-F Entry Expression) (rest : CFields) (t n line : ℕ) (vs : List Plain) (fs : List SFrame) (s : Slots)
    → item t n (entry_step (map-Entry _ _ _ _ entry_seen expression_seen l) rest) vs line fs s
    ≡ set_entry t (Number (pos n)) (first vs) (Some line) (FieldsNext t (n + 1) (entry_step (map-Entry _ _ _ _ entry_seen expression_seen l) rest) line ∷ fs) s
before_one (Item e) rest t n line vs fs s = refl
before_one (Pair k e) rest t n line vs fs s = refl

before_others : (x : Entry) (rest : CFields) (t n line : ℕ) (vs : List Plain) (fs : List SFrame) (s : Slots)
    → item t n (entry_seen x rest) vs line fs s ≡ set_entry t (Number (pos n)) (first vs) (Some line) (FieldsNext t (n + 1) (entry_seen x rest) line ∷ fs) s
before_others x rest t n line vs fs s = rw (entry_opens x rest) (before_one (out-Entry x) rest t n line vs fs s)

-- an item before other entries
pub other_item : (texts : List (List ℕ)) (es more : List Entry) (x : Entry) (vs : List Value) (k v : Value) (t n next line : ℕ) (fs : List SFrame) (s : Slots) → es ≡ x ∷ more → seen texts k ≡ Number (pos n) → v ≡ first_stored vs → next ≡ n + 1
    → item t n (entries_seen es) (values_seen texts vs) line fs s ≡ set_entry t (seen texts k) (seen texts v) (Some line) (FieldsNext t next (entries_seen es) line ∷ fs) s
other_item texts es more x vs k v t n next line fs s e a b d =
    rw (e, a, b, d, first_seen texts vs) (before_others x (entries_seen more) t n line (values_seen texts vs) fs s)
