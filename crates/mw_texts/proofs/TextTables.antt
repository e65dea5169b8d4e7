-- A new table whose texts are set one after another.
use Rattle.std.proofs.Common.{◌≡◌, ◌∙◌, ap, sym, refl, arith, ℕ, suc, ◌<◌, false, List, [], ◌∷◌, length}
use Rattle.std.specs.Prelude.{pos}
use Rattle.std.specs.List.{AllByRecursion, IsDistinct}
use Rattle.std.specs.Map.{keys_of}
use Rattle.mw_ustrings.specs.LuaHeapValue.{Value, Nil, Number, Text, same}
use Rattle.mw_ustrings.specs.LuaHeapTable.{Entries}
use Rattle.mw_ustrings.specs.LuaHeapHeap.{Heap, TableObj, add, new_table}
use Rattle.mw_ustrings.specs.LuaHeapGraph.{node_table, shift_entries}
use Rattle.mw_ustrings.specs.LuaMeaningScope.{Bytes}
use Rattle.mw_ustrings.specs.LuaMeaningFrames.{with_table}
use Rattle.mw_ustrings.specs.LuaGraphPut.{grown, filled}
use Rattle.mw_ustrings.proofs.LuaGraphJoining.{all_set, joined}
use Rattle.mw_ustrings.proofs.LuaGraphDistinct.{IsLive, all_set-is}
use Rattle.mw_ustrings.proofs.LuaBasicCounts.{int-differs}
use Rattle.mw_ustrings.specs.LuaMeaningTexts.{text_entries}

still : (k n : ℕ) (ts : List Bytes) → shift_entries k (text_entries n ts) ≡ text_entries n ts
still k n [] = refl
still k n (t ∷ ts) = ap (λ (es : Entries). let e : Value × Value = (Number (pos n), Text t) in e ∷ es) (still k (suc n) ts)

live : (n : ℕ) (ts : List Bytes) → AllByRecursion IsLive (text_entries n ts)
live n [] = tt
live n (t ∷ ts) = (refl, live (suc n) ts)

apart : (n k : ℕ) (ts : List Bytes) → n < k → AllByRecursion (λ key. same (Number (pos n)) key ≡ false) (keys_of (text_entries k ts))
apart n k [] lt = tt
apart n k (t ∷ ts) lt = (int-differs (pos n) (pos k) (λ e. differs n k lt e), apart n (suc k) ts (omega (arith, lt)))
  where
    differs : (n k : ℕ) → n < k → pos n ≡ pos k → ⊥
    differs n k lt e = let is : n ≡ k = cc in omega (arith, lt, is)

distinct : (n : ℕ) (ts : List Bytes) → IsDistinct same (keys_of (text_entries n ts))
unfolding IsDistinct
distinct n [] = tt
distinct n (t ∷ ts) = (apart n (suc n) ts (omega arith), distinct (suc n) ts)

pub texts_put : {X : Type 0} (h : Heap X) (ts : List Bytes) → filled (length h.tables) (text_entries 1 ts) (new_table h).0 ≡ with_table h (text_entries 1 ts) Nil
texts_put h ts =
    let size = length h.tables in
    let es : Entries = text_entries 1 ts in
    let once : all_set [] es ≡ es = all_set-is [] es (live 1 ts) (distinct 1 ts) in
    let set : all_set [] (shift_entries size es) ≡ shift_entries size es = ap (all_set []) (still size 1 ts) ∙ once ∙ sym (still size 1 ts) in
    ap (λ fs. filled size fs (grown 1 h)) (sym (still size 1 ts)) ∙ joined h false (es ∷ []) (set, tt) ∙ ap (λ fs. add h (TableObj (node_table false fs))) (still size 1 ts)
