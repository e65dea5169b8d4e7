-- The functions of `mw` that call back nobody.
use Rattle.std.proofs.Common.{List, refl}
use Rattle.lua_meaning.specs.WkBaseDeclaredTitleTitle.{Title}
use Rattle.lua_heap.specs.Value.{Value, Nil}
use Rattle.lua_heap.specs.Heap.{Heap}
use Rattle.lua_heap.specs.Related.{Map, GrowsWith, Each, none, Same, nil, text, table, SameEntries, Stands}
use Rattle.lua_meaning.proofs.LuaWalkStandings.{cost-same}
use Rattle.lua_meaning.proofs.LuaWalkCopyMoves.{copy-moves}
use Rattle.lua_meaning.specs.Mw.{log, clone, title_entries, get_current_title}
use Rattle.lua_library_agree.specs.Same.{both_give, SamePlain}
use Rattle.lua_library_agree.proofs.Values.{one-each, first-same}
use Rattle.lua_library_agree.proofs.Heaps.{entry-more, giving}
use Rattle.lua_library_agree.proofs.FrameTables.{table-added}

module _ {X Y : Type 0} (R : Map → X → Y → Type 0) (m : Map) (h : Heap X) (s : Heap Y) (st : Stands R m h s) where
  pub log-same : (vs ws : List Value) → SamePlain R m h s (log vs h) (log ws s)
  log-same vs ws = giving R m h s st none

  pub clone-same : GrowsWith R → (vs ws : List Value) → Each (Same m) vs ws → SamePlain R m h s (clone vs h) (clone ws s)
  clone-same up vs ws e =
      let c = copy-moves R up m h s st _ _ (first-same e) in
      record { charge = cost-same R m h s st _ _ (first-same e); names = c.0; moved = c.1; end = both_give _ _ (one-each c.2) }

  title_entries-same : (page : Title) → SameEntries m (title_entries page) (title_entries page)
  title_entries-same page = entry-more (text _) (text _) (entry-more (text _) (text _) (entry-more (text _) (text _) none))

  pub get_current_title-same : GrowsWith R → (page : Title) → SamePlain R m h s (get_current_title page h) (get_current_title page s)
  get_current_title-same up page =
      let a = table-added R up m h s st (title_entries page) (title_entries page) Nil Nil (title_entries-same page) nil in
      record { charge = refl; names = a.names; moved = a.moved; end = both_give _ _ (one-each (table _ _ a.at)) }
