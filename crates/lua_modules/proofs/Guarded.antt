-- A NEW TABLE is filled, and becomes a metatable.
use Rattle.std.proofs.Common.{◌≡◌, ◌∙◌, refl, ap, ℕ, [], ◌∷◌, ◌++◌, length, slice_set}
use Rattle.lua_code.specs.LuaTableEntries.{Contents}
use Rattle.lua_code.specs.LuaHeapValue.{Value, Nil, Table}
use Rattle.lua_code.specs.LuaHeapTable.{Entries, empty_table}
use Rattle.lua_code.specs.LuaHeapHeap.{Heap, with_entry, new_table, set_meta_in}
use Rattle.lua_code.specs.LuaMeaningFrames.{with_table}
use Rattle.lua_code.specs.LuaMeaningModules.{strict_meta}
use Rattle.lua_state.specs.LuaGraphPut.{filled}
use Rattle.lua_state.proofs.LuaGraphJoining.{with_tables, at_seam, set_seam, all_set}

filled_last : {X : Type 0} (h : Heap X) (t : Contents Value) (es : Entries) → filled (length h.tables) es (with_tables h (h.tables ++ t ∷ [])) ≡ with_tables h (h.tables ++ (record t { entries = all_set t.entries es }) ∷ [])
filled_last h t [] = refl
filled_last h t (e ∷ es) =
    ap (filled (length h.tables) es) (ap (with_tables h) (ap (λ u. slice_set (h.tables ++ t ∷ []) (length h.tables) (with_entry u e.0 e.1)) (at_seam h.tables t empty_table []) ∙ set_seam h.tables t (with_entry t e.0 e.1) []))
    ∙ filled_last h (with_entry t e.0 e.1) es

pub guarded : {X : Type 0} (h f g i : Heap X) (n globals : ℕ) → f ≡ (new_table h).0 → n ≡ length h.tables → g ≡ filled n strict_meta f → i ≡ set_meta_in g globals (Table n)
    → i ≡ set_meta_in (with_table h strict_meta Nil) globals (Table (length h.tables))
guarded h f g i n globals fe ne ge ie =
    let made : g ≡ with_table h strict_meta Nil = ge ∙ ap (filled n strict_meta) fe ∙ ap (λ k. filled k strict_meta (new_table h).0) ne ∙ filled_last h empty_table strict_meta in
    ie ∙ ap (λ x. set_meta_in x globals (Table n)) made ∙ ap (λ k. set_meta_in (with_table h strict_meta Nil) globals (Table k)) ne
