-- Each key of a table is there once, as it is kept and as it is seen.
use Rattle.std.proofs.Common.{◌≡◌, ◌≢◌, ℕ, zero, suc, false, List, [], ◌∷◌, map, sym, ◌∙◌, slice_index_or}
use Rattle.std.specs.List.{AllByRecursion, IsDistinct}
use Rattle.std.specs.Map.{keys_of}
use Rattle.std.specs.Str.{bytes_eq}
use Rattle.lua_table.specs.Entries.{Contents}
use Rattle.lua_table.proofs.SetLemmas.{HasKeys-empty}
use Rattle.lua_heap.specs.Value as heap
use Rattle.lua_heap.specs.Value.{same}
use Rattle.lua_heap.specs.Table.{HasValueKeys, empty_table}
use Rattle.lua_store.specs.declared.value.Value.{Value}
use Rattle.lua_store.specs.declared.value.Value.TheVariants.{Nil}
use Rattle.lua_store.specs.contracts.value.ValuePartialEq.TheImpl.{ghosts}
use Rattle.lua_store.specs.Seen.{StoreView, seen, seen_entry, seen_table}
use Rattle.lua_store.specs.Parts.{Parts, view_of, IsOf, IsEntryOf, IsContentsOf, IsSound}
use Rattle.lua_store.specs.Laws.{KeysAreOnce}
use Rattle.lua_store.proofs.Equal.{eq-seen}
use Rattle.lua_store.proofs.Walks.{only_nil}

module _ (s : StoreView) (once : IsDistinct bytes_eq s.texts) where
  apart-seen : (k : Value) (es : List (Value × Value)) → IsOf s k → AllByRecursion (IsEntryOf s) es → AllByRecursion (λ key. ghosts.eq k key ≡ false) (keys_of es)
      → AllByRecursion (λ key. same (seen s.texts k) key ≡ false) (keys_of (map (seen_entry s.texts) es))
  apart-seen k [] of all apart = tt
  apart-seen k (e ∷ es) of all apart = (sym (eq-seen s once k e.0 of all.0.0) ∙ apart.0, apart-seen k es of all.1 apart.1)

  distinct-seen : (es : List (Value × Value)) → AllByRecursion (IsEntryOf s) es → IsDistinct ghosts.eq (keys_of es) → IsDistinct same (keys_of (map (seen_entry s.texts) es))
  unfolding IsDistinct
  distinct-seen [] all d = tt
  distinct-seen (e ∷ es) all d = (apart-seen e.0 es all.0.0 all.1 d.0, distinct-seen es all.1 d.1)

  none-nil : (es : List (Value × Value)) → AllByRecursion (λ key. key ≢ Nil) (keys_of es) → AllByRecursion (λ key. key ≢ heap.Nil) (keys_of (map (seen_entry s.texts) es))
  none-nil [] all = tt
  none-nil (e ∷ es) all = ((λ is. all.0 (only_nil s.texts e.0 is)), none-nil es all.1)

  keys-at : (ts : List (Contents Value)) (n : ℕ) → AllByRecursion (IsContentsOf s) ts → HasValueKeys (slice_index_or (map (seen_table s.texts) ts) n empty_table).entries
  keys-at [] n all = HasKeys-empty same heap.Nil
  keys-at (t ∷ ts) zero all = record { distinct = distinct-seen t.entries all.0.entries all.0.keys.distinct; keys = none-nil t.entries all.0.keys.keys }
  keys-at (t ∷ ts) (suc n) all = keys-at ts n all.1

pub keys-once : (p : Parts) → IsSound p → KeysAreOnce (view_of p)
keys-once p w n = keys-at (view_of p) w.distinct p.tables n w.own.tables
