-- A new table with entries that are set one after another.
use Rattle.std.proofs.Common.{◌≡◌, ℕ, false, [], ◌∷◌, length, sym, ap, ◌∙◌}
use Rattle.lua_basic.specs.LuaHeapValue as kind
use Rattle.lua_graph.specs.LuaHeapTable.{Entries}
use Rattle.lua_graph.specs.LuaHeapHeap.{Heap, add, TableObj, set_in, new_table}
use Rattle.lua_graph.specs.LuaHeapGraph.{node_table, shift_entries}
use Rattle.lua_basic.specs.LuaMeaningFrames.{with_table}
use Rattle.lua_graph.specs.Put.{grown, filled}
use Rattle.lua_graph.proofs.Joining.{all_set, joined}

pub three-set : {X : Type 0} (h i j k u : Heap X) (n : ℕ) (a b c : kind.Value × kind.Value)
    → i ≡ (new_table h).0 → j ≡ set_in i n a.0 a.1 → k ≡ set_in j n b.0 b.1 → u ≡ set_in k n c.0 c.1 → n ≡ length h.tables
    → shift_entries (length h.tables) (a ∷ b ∷ c ∷ []) ≡ a ∷ b ∷ c ∷ [] → all_set [] (a ∷ b ∷ c ∷ []) ≡ a ∷ b ∷ c ∷ []
    → u ≡ with_table h (a ∷ b ∷ c ∷ []) kind.Nil
three-set h i j k u n a b c fi fj fk fu at still once =
    let size = length h.tables in
    let es : Entries = a ∷ b ∷ c ∷ [] in
    let sets : u ≡ filled n es (grown 1 h) = fu ∙ ap (λ x. set_in x n c.0 c.1) (fk ∙ ap (λ x. set_in x n b.0 b.1) (fj ∙ ap (λ x. set_in x n a.0 a.1) fi)) in
    let set : all_set [] (shift_entries size es) ≡ shift_entries size es = ap (all_set []) still ∙ once ∙ sym still in
    sets ∙ ap (λ m. filled m es (grown 1 h)) at ∙ ap (λ fs. filled size fs (grown 1 h)) (sym still) ∙ joined h false (es ∷ []) (set, tt) ∙ ap (λ fs. add h (TableObj (node_table false fs))) still
