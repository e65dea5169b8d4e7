-- The entry of a table at a place.
use Rattle.std.proofs.Common.{◌≡◌, ℕ, zero, suc, List, [], ◌∷◌, sym, ap, ◌∙◌, subst, Option, Some, None, IfSome, slice_get}
use Rattle.std.proofs.lemmas.Option.{none-some}
use Rattle.std.specs.List.{AllByRecursion}
use Rattle.std.specs.Option.{option_map}
use Rattle.lua_table.specs.Entries.{Contents}
use Rattle.lua_heap.specs.Value as heap
use Rattle.lua_heap.proofs.Places.{get-map}
use Rattle.lua_store.specs.declared.value.Value.{Value}
use Rattle.lua_store.specs.Seen.{StoreView, seen_entry, seen_table}
use Rattle.lua_store.specs.Parts.{IsEntryOf}

abbrev or_this : {A : Type 0} → Option A → A → A
or_this (Some x) y = x
or_this None y = y

pub entry_of : (s : StoreView) (es : List (Value × Value)) (place : ℕ) (o : Option (Value × Value)) → AllByRecursion (IsEntryOf s) es → o ≡ slice_get es place → IfSome o (IsEntryOf s)
entry_of s es place None a e = tt
entry_of s [] place (Some x) a e = absurd (none-some x (sym e))
entry_of s (y ∷ es) zero (Some x) a e = subst (IsEntryOf s) (ap (λ (o : Option (Value × Value)). or_this o y) (sym e)) a.0
entry_of s (y ∷ es) (suc place) (Some x) a e = entry_of s es place (Some x) a.1 e

pub entry_seen : (texts : List (List ℕ)) (t : Contents Value) (c : Contents heap.Value) (place : ℕ) (o : Option (Value × Value)) → seen_table texts t ≡ c → o ≡ slice_get t.entries place
    → option_map (seen_entry texts) o ≡ slice_get c.entries place
entry_seen texts t c place o is e =
    ap (option_map (seen_entry texts)) e ∙ sym (get-map (seen_entry texts) t.entries place) ∙ ap (λ (u : Contents heap.Value). slice_get u.entries place) is
