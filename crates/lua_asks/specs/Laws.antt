-- A MACHINE ASKS FOR THE TABLES OF A DATA MODULE ONCE (Scribunto, mw.loadData: within one invocation the same table comes back). So the
-- tables of two answers to one machine are of two modules.
use Rattle.std.specs.Prelude.{◌≡◌, ℕ, List, [], ◌∷◌, Option, None, is_some, IsTrue}
use Rattle.lua_slots.specs.WkBaseDeclaredTitleTitle.{Title}
use Rattle.lua_slots.specs.MwFrameDeclaredQuestionAskTheVariants.{Data}
use Rattle.lua_slots.specs.PageRunOutcome.{Goes}
use Rattle.lua_slots.specs.LuaHeapValue.{Table}
use Rattle.lua_slots.specs.LuaMeaningScope.{Bytes}
use Rattle.lua_slots.specs.LuaMeaningTitled.{item_of}
use Rattle.lua_slots.specs.LuaMeaningQuestions.{DataAsked}
use Rattle.lua_slots.specs.Code.{CWorld}
use Rattle.lua_slots.specs.Slots.{Slots}
use Rattle.lua_slots.specs.Points.{SFrame, Hears, Point, Gives, Asking}
use Rattle.lua_slots.specs.Enact.{Funds}
use Rattle.lua_goes.specs.Going.{Stop, Over, Lacks, Waiting, Comes}

-- the machine has the tables of that module
abbrev pub HasLoaded : Title → Slots → Type 0
HasLoaded title s = IsTrue (is_some (item_of s.data_ title))

-- the frame that waits for them is the newest
abbrev pub WaitsFor : Title → List SFrame → Type 0
WaitsFor title fs = (text : Bytes) × (line : Option ℕ) × (rest : List SFrame) × (fs ≡ Hears (DataAsked text title) line ∷ rest)

-- WHERE IT ASKS for a data module, it does not have its tables, and the newest frame waits for them.
abbrev pub AsksAnew : Point → Slots → Type 0
AsksAnew (Asking (Data title) fs) s = (item_of s.data_ title ≡ None) × WaitsFor title fs
AsksAnew point s = Unit {0}

-- at an event
abbrev pub AsksAnewAt : Stop → Type 0
AsksAnewAt (Waiting q fs s f) = AsksAnew (Asking q fs) s
AsksAnewAt e = Unit {0}

abbrev pub HasLoadedAt : Title → Stop → Type 0
HasLoadedAt title (Over o s f) = HasLoaded title s
HasLoadedAt title (Lacks w h f) = Unit {0}
HasLoadedAt title (Waiting q fs s f) = HasLoaded title s

-- WHAT IS LOADED IS NOT ASKED FOR: from a point that is no question (or from one that asks so), a call comes to a question for data only
-- where it is not loaded; and whatever was loaded still is.
abbrev pub LoadedIsNotAsked : Type 0
LoadedIsNotAsked = (code : CWorld) (point : Point) (s : Slots) (f : Funds) → AsksAnew point s → (e : Stop) → Comes code point s f e → AsksAnewAt e × ((title : Title) → HasLoaded title s → HasLoadedAt title e)

-- AND WHAT IS TOLD IS LOADED: after the answer with the tables of that module, at each event.
abbrev pub ToldIsLoaded : Type 0
ToldIsLoaded = (code : CWorld) (t : ℕ) (text : Bytes) (title : Title) (line : Option ℕ) (fs : List SFrame) (s : Slots) (f : Funds) (e : Stop)
    → Comes code (Gives (Goes (Table t ∷ [])) (Hears (DataAsked text title) line ∷ fs)) s f e → HasLoadedAt title e
