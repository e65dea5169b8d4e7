-- WHAT STANDS FOR WHAT beside single values: jumps and outcomes, targets of an assignment, what waits in the library, and what is kept
-- by title.
use Rattle.std.specs.Prelude.{◌≡◌, ℕ, List, Some}
use Rattle.lua_slots.specs.WkBaseDeclaredTitleTitle.{Title}
use Rattle.lua_slots.specs.PageRunOutcome.{Outcome, Goes, Jumps}
use Rattle.lua_heap.specs.Value.{Value}
use Rattle.lua_heap.specs.Related.{Map, Each, Same}
use Rattle.lua_slots.specs.LuaMeaningScope.{Bytes, Levels}
use Rattle.lua_slots.specs.LuaMeaningActs.{Jump, Returned, Broke, Raised, Progress, Running, Finished}
use Rattle.lua_library_agree.specs.LuaMeaningParts.{Target, Local, Global, Entry}
use Rattle.lua_library_agree.specs.LuaMeaningGsub.{Job, Far}
use Rattle.lua_slots.specs.LuaMeaningPending.{Pending, PcallWaits, XpcallWaits, HandlerWaits, ToStringWaits, PairsWaits, GsubWaits, ModuleWaits}
use Rattle.lua_slots.specs.LuaMeaningTitled.{Titled}
use Rattle.lua_library_agree.specs.SameGsub.{SameJob, replacing_of}
use Rattle.lua_slots.specs.Code.{Place}
use Rattle.lua_slots.specs.Slots.{Activation, levels_at, newest_function}
use Rattle.lua_slots.specs.Points.{STarget, PlaceS, GlobalS, EntryS}
use Rattle.lua_agree.specs.Variables.{Var, SameVar}

-- JUMPS AND OUTCOMES (manual 2.4.4, 2.7)
pub data SameJump (m : Map) : Jump → Jump → Type 0 where
  returned : (vs ws : List Value) → Each (Same m) vs ws → SameJump m (Returned vs) (Returned ws)
  broke : SameJump m Broke Broke
  raised : (v w : Value) → Same m v w → SameJump m (Raised v) (Raised w)

pub data SameOutcome (m : Map) : Outcome (List Value) Jump → Outcome (List Value) Jump → Type 0 where
  values_ : (vs ws : List Value) → Each (Same m) vs ws → SameOutcome m (Goes vs) (Goes ws)
  jumps_ : (j j' : Jump) → SameJump m j j' → SameOutcome m (Jumps j) (Jumps j')

-- TARGETS that are found (2.4.3), and what is still to be set
pub data SameTarget (m : Map) (vars : List Var) (fns : List Activation) : Target → STarget → Type 0 where
  places : (c : ℕ) (p : Place) → SameVar m vars (newest_function fns).cells p (Some c) → SameTarget m vars fns (Local c) (PlaceS p)
  globals_ : (x : Bytes) (ls : Levels) (line : ℕ) → ls ≡ levels_at fns (Some line) → SameTarget m vars fns (Global x ls) (GlobalS x line)
  entries_ : (a b k l : Value) (ls : Levels) (line : ℕ) → Same m a b → Same m k l → ls ≡ levels_at fns (Some line) → SameTarget m vars fns (Entry a k ls) (EntryS b l line)

pub record SameSet (m : Map) (vars : List Var) (fns : List Activation) (p : Target × Value) (q : STarget × Value) : Type 0 where
  pub target : SameTarget m vars fns p.0 q.0
  pub value : Same m p.1 q.1

-- WHAT WAITS FOR A CALL: it has the same name, its handler stands for the handler, and the job of a `gsub` for the job
pub data SamePending (m : Map) : Pending → Pending → Type 0 where
  pcalls : SamePending m PcallWaits PcallWaits
  xpcalls : (h i : Value) → Same m h i → SamePending m (XpcallWaits h) (XpcallWaits i)
  handlers : SamePending m HandlerWaits HandlerWaits
  to_strings : SamePending m ToStringWaits ToStringWaits
  walks : SamePending m PairsWaits PairsWaits
  replacings : (x y : Job) (limit : ℕ) (far : Far) (whole : Bytes) → SameJob m x y → SamePending m (GsubWaits (replacing_of x limit far whole)) (GsubWaits (replacing_of y limit far whole))
  modules : (title : Title) → SamePending m (ModuleWaits title) (ModuleWaits title)

-- WHAT IS KEPT OF A RUN by title: modules that were required, and tables of loaded data
pub data SameProgress (m : Map) : Progress → Progress → Type 0 where
  running : SameProgress m Running Running
  finished : (v w : Value) → Same m v w → SameProgress m (Finished v) (Finished w)

pub record SameTitled {A B : Type 0} (R : A → B → Type 0) (a : Titled A) (b : Titled B) : Type 0 where
  pub title : a.title ≡ b.title
  pub item : R a.item b.item
