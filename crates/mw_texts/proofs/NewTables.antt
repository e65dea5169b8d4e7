-- A new table that is given.
use Rattle.std.proofs.Common.{◌≡◌, ◌∙◌, ap, arith, ℕ, ◌+◌, List, [], ◌∷◌, length}
use Rattle.mw_ustrings.specs.WkBaseDeclaredLeftLeft.{Left}
use Rattle.mw_ustrings.specs.LuaHeapProc.{Proc}
use Rattle.mw_ustrings.specs.LuaHeapHeap.{Heap}
use Rattle.mw_ustrings.specs.LuaHeapValue as kind
use Rattle.mw_ustrings.specs.LuaMeaningScope.{Bytes}
use Rattle.mw_ustrings.specs.LuaMeaningArguments.{Gives}
use Rattle.mw_ustrings.specs.LuaMeaningFrames.{with_table}
use Rattle.mw_ustrings.specs.LuaStoreDeclaredIdsTableId.{TableId}
use Rattle.mw_ustrings.specs.LuaStoreDeclaredValueValue.{Value}
use Rattle.mw_ustrings.specs.LuaStoreDeclaredValueValueTheVariants as own
use Rattle.mw_ustrings.specs.LuaStoreSeen.{StoreView}
use Rattle.mw_ustrings.specs.LuaBasicSeen.{values_seen, Covers}
use Rattle.mw_ustrings.specs.MwFramesCosts.{Took}
use Rattle.mw_ustrings.proofs.Costs.{values_cover}
use Rattle.mw_ustrings.specs.LuaMeaningTexts.{parts_charge, text_entries, gives_parts}

-- the table with the parts of a text
pub table_covers : (h : Heap Proc) (t : StoreView) (l m : Left) (tries : ℕ) (parts : List Bytes) (vs : List Value) (id : TableId) → Took (tries + 8 + parts_charge parts) l m → vs ≡ own.Table id ∷ [] → id.at ≡ length h.tables
    → t.heap ≡ with_table h (text_entries 1 parts) kind.Nil → Covers (gives_parts h tries parts) l t m (Gives (values_seen t.texts vs))
table_covers h t l m tries parts vs id took is at made =
    let sum : tries + 8 + parts_charge parts ≡ tries + (8 + parts_charge parts) = omega arith in
    let all = rw sum at took in
    values_cover (tries + (8 + parts_charge parts)) (with_table h (text_entries 1 parts) kind.Nil) t l m (kind.Table (length h.tables) ∷ []) vs all made
    (ap (values_seen t.texts) is ∙ ap (λ n. kind.Table n ∷ []) at)
