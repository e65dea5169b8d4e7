-- HOW A MACHINE IS STARTED AND ANSWERED: what the store must hold for it.
use Rattle.std.specs.Prelude.{◌≡◌, ℕ, List, [], ◌∷◌, Some, None}
use Rattle.page_run.specs.WkBaseDeclaredLeftLeft.{Left}
use Rattle.page_run.specs.declared.which.Which.{Which}
use Rattle.page_run.specs.Outcome.{Outcome, Goes, Jumps}
use Rattle.page_run.specs.State.{Reply, Tally, Gives as Says, Exhausts}
use Rattle.lua_heap.specs.Proc.{Proc}
use Rattle.lua_heap.specs.Value.{Value, Text}
use Rattle.lua_heap.specs.Heap.{Heap, Ref, tab, look}
use Rattle.lua_heap.specs.Related.{Map, Stands}
use Rattle.lua_heap.specs.Reach.{Set, nowhere, Frame}
use Rattle.lua_heap.specs.Graph.{Graph, IsKept}
use Rattle.lua_agree.specs.LuaMeaningScope.{Bytes}
use Rattle.lua_agree.specs.LuaMeaningQuestions.{Answer, Expanded, NoPage, Loaded, LoadFailed}
use Rattle.lua_goes.specs.LuaMeaningActs.{Jump, Raised}
use Rattle.lua_goes.specs.LuaMeaningHome.{home, home_heap}
use Rattle.lua_goes.specs.LuaSlotsCode.{CWorld}
use Rattle.lua_goes.specs.LuaSlotsSlots.{Slots}
use Rattle.lua_agree.specs.Functions.{SameFunction}

-- A FRESH ENVIRONMENT was made in the store (manual 5; Scribunto, "Lua environment"): new tables that stand for those with which each run
-- begins, the tables of the global variables and of the functions for strings among them; nothing that was there was changed
pub record IsHome (code : CWorld) (globals strings : ℕ) (s t : Heap Proc) : Type 0 where
  pub names : Map
  pub stands : Stands (SameFunction code) names home_heap t
  pub globals_at : names.to (tab home.globals) ≡ Some (tab globals)
  pub strings_at : names.to (tab home.strings) ≡ Some (tab strings)
  pub made : (q r : Ref) → names.to q ≡ Some r → look s r ≡ None
  pub frame : Frame nowhere s t

-- a machine with that environment, before its first event: no module was required, no data loaded, and no frame made
abbrev pub slots_at_start : Heap Proc → ℕ → ℕ → Slots
slots_at_start t globals strings = record { heap = t; globals = globals; strings = strings; modules = []; data_ = []; frames = []; regs = []; functions = [] }

-- a reply that gives an answer, and one with which an allowance is spent
abbrev pub reply : Answer → Left → Tally → Reply Answer
reply a l told = record { response = Says a; left = l; tally = told }

abbrev pub spent_reply : Which → Left → Tally → Reply Answer
spent_reply w l told = record { response = Exhausts w; left = l; tally = told }

-- AN ANSWER, and the outcome that the frames get for it (Scribunto, Frame object and mw.loadData): a text; no values where there is no
-- page; the root of the tables of a data module; the message of a failed load, which is raised. The tables of a data module are read-only
-- ones of the store, in the first set, and none of them is in the second, which has whatever the machine has; so they are of no earlier
-- answer to it.
pub data IsToldAs : Set → Set → Heap Proc → Answer → Outcome (List Value) Jump → Type 0 where
  as_text : (S : Set) (s : Heap Proc) (text : Bytes) → IsToldAs nowhere S s (Expanded text) (Goes (Text text ∷ []))
  as_none : (S : Set) (s : Heap Proc) → IsToldAs nowhere S s NoPage (Goes [])
  as_tables : (K S : Set) (s : Heap Proc) (graph : Graph) (value : Value) → IsKept K S graph value s → IsToldAs K S s (Loaded graph) (Goes (value ∷ []))
  as_failure : (S : Set) (s : Heap Proc) (message : Bytes) → IsToldAs nowhere S s (LoadFailed message) (Jumps (Raised (Text message)))
