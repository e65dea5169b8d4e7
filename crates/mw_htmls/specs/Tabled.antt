-- WHAT IS READ OF A TABLE of attributes or styles: entry by entry, each for its charge, up to one that is wrong.
use Rattle.std.specs.Prelude.{◌≡◌, ℕ, ◌<◌, ℤ, true, false, List, [], ◌∷◌, Option, Some, None, Result, Ok, Err, if◌then◌else◌}
use Rattle.lua_strings.specs.WkBaseDeclaredLeftLeft.{Left}
use Rattle.lua_strings.specs.LuaHeapValue as kind
use Rattle.lua_strings.specs.LuaHeapValue.{is_nil}
use Rattle.mw_html.specs.LuaHeapTable.{Entries}
use Rattle.mw_html.specs.LuaHeapHeap.{MarkupNode, set_markup_in}
use Rattle.lua_strings.specs.LuaMeaningScope.{Bytes}
use Rattle.lua_strings.specs.LuaMeaningArguments.{fails, text_charge}
use Rattle.lua_strings.specs.LuaMeaningHtml as html
use Rattle.lua_strings.specs.LuaMeaningHtml.{Settings}
use Rattle.lua_strings.specs.LuaStoreDeclaredIdsMarkupId.{MarkupId}
use Rattle.lua_strings.specs.LuaStoreDeclaredValueValue.{Value}
use Rattle.lua_strings.specs.LuaStoreDeclaredValueValueTheVariants as own
use Rattle.lua_strings.specs.LuaStoreSeen.{StoreView, seen}
use Rattle.lua_strings.specs.LuaStoreParts.{IsOf}
use Rattle.lua_strings.specs.LuaBasicDeclaredStopStop.{Stop}
use Rattle.lua_strings.specs.LuaBasicDeclaredStopStopTheVariants as stop
use Rattle.lua_strings.specs.LuaBasicSeen.{Stops, Free}
use Rattle.lua_strings.specs.Costs.{Takes}
use Rattle.mw_htmls.specs.declared.setting.Setter.{Setter}
use Rattle.mw_htmls.specs.declared.setting.Setting.{Setting}
use Rattle.mw_htmls.specs.declared.tabled.EntryRead.{EntryRead}
use Rattle.mw_htmls.specs.declared.tabled.EntryRead.TheVariants as entry
use Rattle.mw_htmls.specs.declared.tabled.SettingsRead.{SettingsRead}
use Rattle.mw_htmls.specs.Setters.{setter_of, set_by, all_set}

-- AN ENTRY that is not cleared, by its key and value: it sets, or it is wrong, which raises
abbrev pub LiveIs : Setter → List kind.Value → StoreView → StoreView → Result EntryRead Stop → Type 0
LiveIs which given s t (Ok (entry.Named x)) = ((n : MarkupNode) → html.set_one (setter_of which) given n ≡ Ok (set_by which x n)) × (t ≡ s)
LiveIs which given s t (Ok (entry.Wrong v level)) = (n : MarkupNode) → (message : Bytes) × (html.set_one (setter_of which) given n ≡ Err message) × Stops (fails s.heap message) t (stop.Raised v level)
LiveIs which given s t (Err stop.NoMemory) = Unit {0}
LiveIs which given s t other = ⊥

abbrev pub charge_of : kind.Value × kind.Value → ℕ
charge_of e = if is_nil e.1 then 1 else text_charge (html.entry_given e)

-- an entry, after what it costs
abbrev pub EntryIs : Setter → kind.Value × kind.Value → StoreView → Left → StoreView → Left → Result EntryRead Stop → Type 0
EntryIs which e s l t m (Ok entry.Passed) = (is_nil e.1 ≡ true) × Takes 1 l m × (t ≡ s)
EntryIs which e s l t m (Ok (entry.Named x)) = (is_nil e.1 ≡ false) × Takes (text_charge (html.entry_given e)) l m × LiveIs which (html.entry_given e) s t (Ok (entry.Named x))
EntryIs which e s l t m (Ok (entry.Wrong v level)) = (is_nil e.1 ≡ false) × Takes (text_charge (html.entry_given e)) l m × LiveIs which (html.entry_given e) s t (Ok (entry.Wrong v level))
EntryIs which e s l t m (Err stop.Spent) = (l.steps < charge_of e) × (m ≡ record l { steps = 0 }) × (t ≡ s)
EntryIs which e s l t m (Err stop.NoMemory) = Unit {0}
EntryIs which e s l t m (Err (stop.Raised v level)) = ⊥

-- ALL THAT WAS READ, after what it costs
abbrev settled : ℕ → MarkupNode → Option Bytes → Settings
settled k n fault = record { charge = k; node = n; fault = fault }

abbrev pub ReadUpTo : Setter → Entries → StoreView → Left → StoreView → Left → List Setting → Option (Value × ℤ) → Type 0
ReadUpTo which es s l t m done None = (k : ℕ) × Takes k l m × ((n : MarkupNode) → html.set_each (setter_of which) es n ≡ settled k (all_set which done n) None) × (t ≡ s)
ReadUpTo which es s l t m done (Some e) = (k : ℕ) × Takes k l m
    × ((n : MarkupNode) → (message : Bytes) × (html.set_each (setter_of which) es n ≡ settled k (all_set which done n) (Some message)) × Stops (fails s.heap message) t (stop.Raised e.0 e.1))

abbrev pub AreRead : Setter → Entries → StoreView → Left → StoreView → Left → Result SettingsRead Stop → Type 0
AreRead which es s l t m (Ok r) = ReadUpTo which es s l t m r.settings r.fault
AreRead which es s l t m (Err stop.Spent) = ((n : MarkupNode) → l.steps < (html.set_each (setter_of which) es n).charge) × (m ≡ record l { steps = 0 }) × (t ≡ s)
AreRead which es s l t m (Err stop.NoMemory) = Unit {0}
AreRead which es s l t m (Err (stop.Raised v level)) = ⊥

-- errors are of the store
abbrev pub EntryOf : StoreView → Result EntryRead Stop → Type 0
EntryOf s (Ok (entry.Wrong v level)) = IsOf s v
EntryOf s other = Unit {0}

abbrev pub ErrorOf : StoreView → Option (Value × ℤ) → Type 0
ErrorOf s (Some e) = IsOf s e.0
ErrorOf s None = Unit {0}

abbrev pub FaultOf : StoreView → SettingsRead → Type 0
FaultOf s r = ErrorOf s r.fault

abbrev pub ReadOf : StoreView → Result SettingsRead Stop → Type 0
ReadOf s (Ok r) = FaultOf s r
ReadOf s (Err e) = Unit {0}

-- HOW IT ENDS, once this node was put: with the object, or with the error
abbrev pub RaisedLater : StoreView → ℕ → MarkupNode → Value × ℤ → StoreView → Result (List Value) Stop → Type 0
RaisedLater s m node e t (Err (stop.Raised v level)) = (t.heap ≡ set_markup_in s.heap m node) × (seen t.texts v ≡ seen s.texts e.0) × (level ≡ e.1)
RaisedLater s m node e t (Err stop.NoMemory) = Unit {0}
RaisedLater s m node e t other = ⊥

abbrev pub EndsRead : StoreView → ℕ → MarkupNode → Option (Value × ℤ) → StoreView → Result (List Value) Stop → Type 0
EndsRead s m node None t r = Free (html.puts s.heap m node) t r
EndsRead s m node (Some e) t r = RaisedLater s m node e t r

abbrev pub GivesOrRaises : MarkupId → Option (Value × ℤ) → Result (List Value) Stop → Type 0
GivesOrRaises id None (Ok vs) = vs ≡ own.Markup id ∷ []
GivesOrRaises id (Some e) (Err (stop.Raised v level)) = (v ≡ e.0) × (level ≡ e.1)
GivesOrRaises id fault (Err stop.NoMemory) = Unit {0}
GivesOrRaises id fault other = ⊥
