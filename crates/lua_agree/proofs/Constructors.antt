-- TABLE CONSTRUCTORS (manual 2.5.7): fields in order, the values of the last item, and the entries that are set.
use Rattle.std.proofs.Common.{◌≡◌, ℕ, pos, ◌+◌, List, ◌∷◌, Some, refl}
use Rattle.lua_slots.specs.LuaSyntaxTree.{Exp, Fields, NoField, Item, Pair}
use Rattle.lua_slots.specs.PageRunOutcome.{on_value}
use Rattle.lua_heap.specs.Value.{Value, Number, Table}
use Rattle.lua_heap.specs.Heap.{tab}
use Rattle.lua_heap.specs.Related.{Map, Each, none, more, Same, number, table}
use Rattle.lua_slots.specs.LuaMeaningScope.{Scope, Levels, levels}
use Rattle.lua_slots.specs.LuaMeaningValues.{first}
use Rattle.lua_slots.specs.LuaMeaningActs.{State}
use Rattle.lua_library_agree.specs.LuaMeaningIndex.{set_entry}
use Rattle.lua_library_agree.specs.LuaMeaningConstructors.{set_items, set_fields}
use Rattle.lua_library_agree.specs.LuaMeaningMeaning.{expression, fields_of}
use Rattle.lua_slots.specs.LuaMeaningWorld.{World}
use Rattle.lua_slots.specs.Code.{CExp, CFields, NoFieldC, ItemC, PairC, CWorld}
use Rattle.lua_slots.specs.Sight.{Sight}
use Rattle.lua_slots.specs.IsCode.{IsExp, IsFields}
use Rattle.lua_slots.specs.Slots.{Slots, levels_at}
use Rattle.lua_slots.specs.Points.{SFrame, PairNow, FieldsNext, Evals, Now}
use Rattle.lua_slots.specs.Index as machine_index
use Rattle.lua_slots.specs.Expressions as machine_expressions
use Rattle.lua_agree.specs.Variables.{Var, Inside}
use Rattle.lua_agree.specs.Functions.{IsMoreFields, here}
use Rattle.lua_agree.specs.Rests.{After, first_of, built, then_fields, then_items, SameRest, at_last_item, at_item, at_pair, at_pair_value, at_fields, at_items}
use Rattle.lua_agree.specs.Agree.{evaluates, Base, Rel}
use Rattle.lua_agree.specs.Follows.{Follows}
use Rattle.lua_agree.proofs.Parts.{first-same, one-value, here-now, values-on}
use Rattle.lua_agree.proofs.Index.{sets-entry}

table-named : {m : Map} {t u : ℕ} → Same m (Table t) (Table u) → m.to (tab t) ≡ Some (tab u)
table-named (table t u e) = e

module _ (world : World) (code : CWorld) (B : Base) {m : Map} {vars : List Var} {h : State} {s : Slots} (r : Rel code B m vars h s) {k : After (List Value)} {fs : List SFrame} (g : SameRest code m vars s.functions k fs) where
  -- the values of the last item, one after another
  pub items-on : (n : ℕ) (ls : Levels) (line : ℕ) {t u : ℕ} → ls ≡ levels_at s.functions (Some line) → Same m (Table t) (Table u) → {vs ws : List Value} → Each (Same m) vs ws
      → Follows world code B (set_items t n vs ls (built t k)) h (machine_expressions.items u n ws line fs s)
  items-on n ls line l x none = values-on world code B r g (one-value x)
  items-on n ls line {t} {u} l x (more v w vs ws e es) =
      sets-entry world code B r (at_items vars s.functions t u (n + 1) vs ws ls line k fs x es l g) (then_items t (n + 1) vs ls k) refl (λ j. refl) ls (Some line) l (table-named x) (number (pos n)) e

  module _ {see : Sight} {scope : Scope} (i : Inside m vars s.functions see scope) (n line : ℕ) {t u : ℕ} (x : Same m (Table t) (Table u)) where
    -- an entry is set, and then the fields that follow
    pub sets-then : (fields : Fields) (cs : CFields) {a b v w : Value} (at : ℕ) → IsFields (here code s.functions) see fields cs → Same m a b → Same m v w
        → Follows world code B (set_entry t a v (levels scope line) (then_fields t at fields (levels scope line) scope k)) h (machine_index.set_entry u b w (Some line) (FieldsNext u at cs line ∷ fs) s)
    sets-then fields cs at c e f =
        sets-entry world code B r (at_fields vars s.functions t u at fields cs line see scope k fs x c i g) (then_fields t at fields (levels scope line) scope k) refl (λ j. refl) (levels scope line) (Some line) (i.levels line) (table-named x) e f

    -- FIELDS, of which the next item has place n
    pub fields-on : (fields : Fields) (cs : CFields) → IsFields (here code s.functions) see fields cs → Follows world code B (set_fields t n (fields_of fields) (levels scope line) scope (built t k)) h (machine_expressions.fields u n cs line fs s)
    fields-on NoField NoFieldC e = values-on world code B r g (one-value x)
    fields-on (Item e NoField) (ItemC c NoFieldC) y = here-now world code B r (evaluates e c see scope _ _ y.0 i (at_last_item vars s.functions t u n (levels scope line) line k fs x (i.levels line) g))
    fields-on (Item e (Item f fields)) (ItemC c (ItemC d cs)) y = here-now world code B r (evaluates e c see scope _ _ y.0 i (at_item vars s.functions t u n (Item f fields) (ItemC d cs) line see scope k fs x y.1 i g))
    fields-on (Item e (Pair key f fields)) (ItemC c (PairC d d' cs)) y = here-now world code B r (evaluates e c see scope _ _ y.0 i (at_item vars s.functions t u n (Pair key f fields) (PairC d d' cs) line see scope k fs x y.1 i g))
    fields-on (Pair key e fields) (PairC c d cs) y = here-now world code B r (evaluates key c see scope _ _ y.0 i (at_pair vars s.functions t u n e d fields cs line see scope k fs x y.1 y.2 i g))
    fields-on (Item e NoField) (ItemC c (ItemC d cs)) y = absurd y.1
    fields-on (Item e NoField) (ItemC c (PairC d d' cs)) y = absurd y.1
    fields-on (Item e (Item f fields)) (ItemC c NoFieldC) y = absurd y.1
    fields-on (Item e (Item f fields)) (ItemC c (PairC d d' cs)) y = absurd y.1
    fields-on (Item e (Pair key f fields)) (ItemC c NoFieldC) y = absurd y.1
    fields-on (Item e (Pair key f fields)) (ItemC c (ItemC d cs)) y = absurd y.1
    fields-on fields cs y = absurd y

    -- FRAMES
    pub goes-item : (fields : Fields) (cs : CFields) {vs ws : List Value} → IsMoreFields (here code s.functions) see fields cs → Each (Same m) vs ws
        → Follows world code B (set_entry t (Number (pos n)) (first vs) (levels scope line) (then_fields t (n + 1) fields (levels scope line) scope k)) h (machine_expressions.item u n cs ws line fs s)
    goes-item (Item f fields) (ItemC d cs) y e = sets-then (Item f fields) (ItemC d cs) (n + 1) y (number (pos n)) (first-same e)
    goes-item (Pair key f fields) (PairC d d' cs) y e = sets-then (Pair key f fields) (PairC d d' cs) (n + 1) y (number (pos n)) (first-same e)
    goes-item fields cs y e = absurd y

    pub goes-pair : (e : Exp) (c : CExp) (fields : Fields) (cs : CFields) {vs ws : List Value} → IsExp (here code s.functions) see e c → IsFields (here code s.functions) see fields cs → Each (Same m) vs ws
        → Follows world code B (expression e scope (first_of (on_value (λ v. set_entry t (first vs) v (levels scope line)) (then_fields t n fields (levels scope line) scope k)))) h (Now (Evals c (PairNow u n (first ws) cs line ∷ fs)) s)
    goes-pair e c fields cs {vs} {ws} y z es = here-now world code B r (evaluates e c see scope _ _ y i (at_pair_value vars s.functions t u n (first vs) (first ws) fields cs line see scope k fs x (first-same es) z i g))
