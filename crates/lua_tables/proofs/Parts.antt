-- The parts that `concat` joins.
use Rattle.std.proofs.Common.{◌≡◌, ◌∙◌, ap, sym, arith, Bool, true, false, if◌then◌else◌, ℕ, ◌+◌, ◌<◌, ◌≤◌, ℤ, pos, ◌+ℤ◌, List, [], ◌∷◌, ◌++◌, append_assoc, length, suc}
use Rattle.std.proofs.lemmas.List.{length-append}
use Rattle.lua_basic.specs.LuaHeapProc.{Proc}
use Rattle.lua_basic.specs.LuaHeapValue as kind
use Rattle.lua_basic.specs.LuaHeapHeap.{Heap, table_at}
use Rattle.lua_basic.specs.LuaMeaningScope.{Bytes}
use Rattle.lua_basic.specs.LuaMeaningArguments.{fails, gives_text, with_charge}
use Rattle.lua_basic.specs.LuaMeaningBasic.{count_between, entries_from}
use Rattle.lua_basic.specs.LuaStoreDeclaredValueValue.{Value}
use Rattle.lua_basic.specs.LuaStoreSeen.{seen}
use Rattle.lua_basic.specs.Seen.{values_seen}
use Rattle.lua_tables.specs.Walked.{walk_charge}
use Rattle.lua_basic.specs.LuaMeaningTableLibrary.{Walk, PassedAll, Refused, one_passed, walk, is_part, part, behind_parts, joined, invalid_item, concat_values, concat_between}

-- one more part stands behind the others
pub parts-length : (texts : List (List ℕ)) (sep : Bytes) (rest more : List Value) (v : Value) → rest ≡ v ∷ more
    → length (behind_parts sep (values_seen texts rest)) ≡ length (sep ++ part (seen texts v)) + length (behind_parts sep (values_seen texts more))
parts-length texts sep rest more v is =
    ap (λ vs. length (behind_parts sep (values_seen texts vs))) is
    ∙ length-append (sep ++ part (seen texts v)) (behind_parts sep (values_seen texts more))

pub parts-more : (texts : List (List ℕ)) (sep before after whole : Bytes) (rest more : List Value) (v : Value) → rest ≡ v ∷ more → after ≡ before ++ (sep ++ part (seen texts v))
    → before ++ behind_parts sep (values_seen texts rest) ≡ whole → after ++ behind_parts sep (values_seen texts more) ≡ whole
parts-more texts sep before after whole rest more v is made e =
    let tail = behind_parts sep (values_seen texts more) in
    ap (λ t. t ++ tail) made ∙ append_assoc before (sep ++ part (seen texts v)) tail
    ∙ sym (ap (λ vs. before ++ behind_parts sep (values_seen texts vs)) is) ∙ e

-- the first part and those behind it
pub joined-length : (texts : List (List ℕ)) (sep : Bytes) (all more : List Value) (v : Value) → all ≡ v ∷ more
    → length (joined sep (values_seen texts all)) ≡ length (part (seen texts v)) + length (behind_parts sep (values_seen texts more))
joined-length texts sep all more v is =
    ap (λ vs. length (joined sep (values_seen texts vs))) is ∙ length-append (part (seen texts v)) (behind_parts sep (values_seen texts more))

-- WHAT `concat` COMES TO
pub concat-passed : (t : ℕ) (sep : Bytes) (i j : ℤ) (h : Heap Proc) (vs : List kind.Value) → vs ≡ entries_from (count_between i j) i (table_at h t).entries → walk is_part vs ≡ PassedAll
    → concat_between t sep i j h ≡ with_charge (length vs) (gives_text h (joined sep vs))
concat-passed t sep i j h vs is e = ap (λ xs. concat_values h sep i xs (walk is_part xs)) (sym is) ∙ ap (concat_values h sep i vs) e

pub concat-refused : (t : ℕ) (sep : Bytes) (i j : ℤ) (h : Heap Proc) (k : ℕ) (v : kind.Value)
    → walk is_part (entries_from (count_between i j) i (table_at h t).entries) ≡ Refused k v → concat_between t sep i j h ≡ with_charge (suc k) (fails h (invalid_item (i +ℤ pos k)))
concat-refused t sep i j h k v e = ap (concat_values h sep i (entries_from (count_between i j) i (table_at h t).entries)) e

-- it costs at least what is read
pub concat-dear : (h : Heap Proc) (sep : Bytes) (i : ℤ) (vs : List kind.Value) (w : Walk) → walk_charge vs w ≤ (concat_values h sep i vs w).charge
concat-dear h sep i vs PassedAll = omega arith
concat-dear h sep i vs (Refused k v) = omega arith

-- a value that is refused stands within what was to be read
refused-inside : (n : ℕ) (w : Walk) (k : ℕ) (v : kind.Value) → ((j : ℕ) → w ≡ Refused j v → j < n) → one_passed w ≡ Refused k v → k < suc n
refused-inside n PassedAll k v f e = absurd (no e)
  where
    no : PassedAll ≡ Refused k v → ⊥
    no e = absurd cc
refused-inside n (Refused j u) k v f e =
    let same_value : u ≡ v = cc in
    let next : suc j ≡ k = cc in
    let less = f j (ap (Refused j) same_value) in
    omega (arith, next, less)

refused-next : (n : ℕ) (b : Bool) (w : Walk) (u : kind.Value) (k : ℕ) (v : kind.Value) → ((j : ℕ) → w ≡ Refused j v → j < n) → (if b then one_passed w else Refused 0 u) ≡ Refused k v → k < suc n
refused-next n true w u k v f e = refused-inside n w k v f e
refused-next n false w u k v f e = let none : 0 ≡ k = cc in omega (arith, none)

pub refused-within : (test : kind.Value → Bool) (vs : List kind.Value) (k : ℕ) (v : kind.Value) → walk test vs ≡ Refused k v → k < length vs
refused-within test [] k v e = absurd (no e)
  where
    no : PassedAll ≡ Refused k v → ⊥
    no e = absurd cc
refused-within test (u ∷ vs) k v e = refused-next (length vs) (test u) (walk test vs) u k v (λ j f. refused-within test vs j v f) e
