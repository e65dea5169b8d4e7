-- THE CLAUSES OF A MACHINE'S CALLS, in the form in which code cites them: each is true of all runs that stand where the machine stands,
-- whatever their world, work, first allowances, replies and tally. A call counts from nothing, since a machine holds no tally.
use Rattle.std.specs.Prelude.{◌≡◌, ℕ, List, [], ◌∷◌, ◌++◌, Some}
use Rattle.page_run.specs.WkBaseDeclaredLeftLeft.{Left}
use Rattle.page_run.specs.Outcome.{Outcome}
use Rattle.page_run.specs.State.{Reply, Tally, no_tally}
use Rattle.lua_goes.specs.MwFrameDeclaredQuestionAsk.{Ask}
use Rattle.lua_heap.specs.Proc.{Proc, proc_names}
use Rattle.lua_heap.specs.Value.{Value}
use Rattle.lua_heap.specs.Heap.{Heap, Ref, Obj, look}
use Rattle.lua_heap.specs.Reach.{Set, AllIn, nowhere, union, with_shared, with_new, Frame, IsOwnSet, Own, OwnLeads}
use Rattle.lua_agree.specs.LuaMeaningQuestions.{Answer}
use Rattle.lua_goes.specs.LuaMeaningActs.{Jump}
use Rattle.lua_agree.specs.LuaMeaningWorld.{World}
use Rattle.lua_agree.specs.LuaMeaningStart.{Work}
use Rattle.lua_goes.specs.LuaSlotsCode.{CWorld}
use Rattle.lua_agree.specs.LuaSlotsIsCode.{Agrees}
use Rattle.lua_goes.specs.LuaSlotsSlots.{Slots}
use Rattle.lua_goes.specs.LuaSlotsPoints.{SFrame, Point, Gives, Asking, Works}
use Rattle.lua_goes.specs.LuaSlotsEnact.{Funds, funds, replied}
use Rattle.lua_goes.specs.Going.{Stop, heap_at, Comes}
use Rattle.lua_agree.specs.Named.{roots}
use Rattle.lua_points.specs.At.{At, Gone, IsAt}
use Rattle.lua_points.specs.Told.{IsHome, slots_at_start, reply, IsToldAs}
use Rattle.lua_points.specs.Laws.{roots_at, event_telling}

-- what is left to a machine with so many calls in progress, where that much was told of its run
abbrev pub fund : Left → ℕ → Tally → Funds
fund left calls told = record { left = left; in_progress = calls; tally = told }

module _ (code : CWorld) where
  -- `start`, of a machine that holds this: it is at the start of each run of its work
  abbrev pub Starts : Work → Heap Proc → Slots → Type 0
  Starts work before s = (world : World) → Agrees world code → (first : Left) → At code (with_new nowhere before s.heap) world work first [] (Works work) s (funds first)

  -- `go`: some run stands where the machine stands, with what is left and the calls in progress
  abbrev pub CanGo : Point → Slots → Left → ℕ → Type 0
  CanGo point s left calls = (told : Tally) × IsAt code point s (fund left calls told)

  -- and from each run that stands there a call with this event goes to that event
  abbrev pub GoesTo : Point → Slots → Left → ℕ → Stop → Type 0
  GoesTo point s left calls e = (S : Set) (world : World) (work : Work) (first : Left) (given : List (Reply Answer)) (told : Tally)
      → At code S world work first given point s (fund left calls told) → Gone code S world work first given s.heap (event_telling told e)

  -- `answer`: with one reply more each run that waits with the machine goes on with what the answer tells
  abbrev pub GoesOnWith : Ask → List SFrame → Slots → Answer → Outcome (List Value) Jump → Type 0
  GoesOnWith q fs s a o = (S K : Set) (world : World) (work : Work) (first : Left) (given : List (Reply Answer)) (f : Funds)
      → At code S world work first given (Asking q fs) s f → IsToldAs K S s.heap a o → (l : Left) (inner : Tally)
      → At code (union S K) world work first (given ++ reply a l inner ∷ []) (Gives o fs) s (replied (reply a l inner) f)

-- what a call left alone, and what the machine reaches after it
abbrev pub KeepsTo : Point → Slots → Stop → Type 0
KeepsTo point s e = (T : Set) → IsOwnSet proc_names T s.heap → AllIn (with_shared T s.heap) (roots point s) → Frame T s.heap (heap_at e)

abbrev pub LeavesUnowned : Point → Slots → Stop → Type 0
LeavesUnowned point s e = (r : Ref) (b : Obj Proc) → look s.heap r ≡ Some b → (OwnLeads proc_names s.heap (roots point s) r → ⊥) → look (heap_at e) r ≡ Some b

abbrev pub ReachesNoMore : Point → Slots → Stop → Type 0
ReachesNoMore point s e = (r : Ref) (b : Obj Proc) → look s.heap r ≡ Some b → Own proc_names (heap_at e) (roots_at e) r → Own proc_names s.heap (roots point s) r

-- THE LAWS: a fresh environment, and an answer, give their clauses
abbrev pub ClauseOfStart : Type 0
ClauseOfStart = (code : CWorld) (work : Work) (globals strings : ℕ) (before t : Heap Proc) → IsHome code globals strings before t → Starts code work before (slots_at_start t globals strings)

abbrev pub ClauseOfAnswer : Type 0
ClauseOfAnswer = (code : CWorld) (q : Ask) (fs : List SFrame) (s : Slots) (a : Answer) (o : Outcome (List Value) Jump) → GoesOnWith code q fs s a o

-- and what the loop of a machine shows (`Comes`, counted from nothing) gives each clause of `go`
pub record GoIs (code : CWorld) (point : Point) (s : Slots) (left : Left) (calls : ℕ) (e : Stop) : Type 0 where
  pub goes_to : GoesTo code point s left calls e
  pub keeps_to : KeepsTo point s e
  pub leaves_unowned : LeavesUnowned point s e
  pub reaches_no_more : ReachesNoMore point s e

abbrev pub ClausesOfGo : Type 0
ClausesOfGo = (code : CWorld) (point : Point) (s : Slots) (left : Left) (calls : ℕ) (e : Stop) → CanGo code point s left calls → Comes code point s (fund left calls no_tally) e → GoIs code point s left calls e

-- And there is such an event, from wherever a machine can go on: no clause asks too much.
abbrev pub GoCanBe : Type 0
GoCanBe = (code : CWorld) (point : Point) (s : Slots) (left : Left) (calls : ℕ) → CanGo code point s left calls → (e : Stop) × GoIs code point s left calls e
