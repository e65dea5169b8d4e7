-- THE LAWS OF POINTS, which the clauses of a machine's calls cite.
use Rattle.std.specs.Prelude.{◌≡◌, ◌+◌, max, ℕ, true, List, [], ◌∷◌, ◌++◌, Some, IsTrue}
use Rattle.page_run.specs.WkBaseDeclaredLeftLeft.{Left}
use Rattle.page_run.specs.declared.which.Which.{Which}
use Rattle.page_run.specs.Outcome.{Outcome, Goes}
use Rattle.page_run.specs.State.{Reply, Tally, no_tally, Ended, Spent, Asked}
use Rattle.lua_goes.specs.MwFrameDeclaredQuestionAsk.{Ask}
use Rattle.lua_heap.specs.Proc.{Proc, proc_names}
use Rattle.lua_heap.specs.Value.{Value}
use Rattle.lua_heap.specs.Heap.{Heap, Ref, Obj, look, IsShared, empty}
use Rattle.lua_heap.specs.Related.{Map, Stands}
use Rattle.lua_heap.specs.Reach.{Set, AllIn, nowhere, union, with_shared, with_new, MeetShared, Frame, IsClosed, IsOwnSet, Own, OwnLeads}
use Rattle.lua_heap.specs.Graph.{Graph, IsPut}
use Rattle.lua_agree.specs.LuaMeaningQuestions.{Answer, Loaded}
use Rattle.lua_goes.specs.LuaMeaningActs.{Jump, State}
use Rattle.lua_agree.specs.LuaMeaningWorld.{World}
use Rattle.lua_goes.specs.LuaMeaningHome.{home, home_heap}
use Rattle.lua_agree.specs.LuaMeaningStart.{Work, lua}
use Rattle.lua_goes.specs.LuaSlotsCode.{CWorld}
use Rattle.lua_agree.specs.LuaSlotsIsCode.{Agrees}
use Rattle.lua_goes.specs.LuaSlotsSlots.{Slots, with_heap}
use Rattle.lua_goes.specs.LuaSlotsPoints.{SFrame, Point, Gives, Asking, Works}
use Rattle.lua_goes.specs.LuaSlotsEnact.{Funds, funds, all_given_back, replied}
use Rattle.lua_goes.specs.Going.{Stop, Over, Lacks, Waiting, funds_at, heap_at, Comes}
use Rattle.lua_agree.specs.Values.{SameOutcome}
use Rattle.lua_agree.specs.Functions.{SameFunction}
use Rattle.lua_agree.specs.Named.{roots}
use Rattle.lua_agree.specs.Met.{moment_with}
use Rattle.lua_points.specs.At.{At, Gone, IsAt}
use Rattle.lua_points.specs.Told.{IsHome, slots_at_start, reply, spent_reply, IsToldAs}

-- there is such an environment, in a store that had nothing
abbrev pub ThereIsAHome : Type 0
ThereIsAHome = (code : CWorld) → IsHome code home.globals home.strings empty home_heap

-- `start`: with a fresh environment a machine is at the start of each run of its work, in a set that has nothing but what was made
abbrev pub StartIsAt : Type 0
StartIsAt = (code : CWorld) (world : World) → Agrees world code → (work : Work) (first : Left) (globals strings : ℕ) (s t : Heap Proc) → IsHome code globals strings s t
    → At code (with_new nowhere s t) world work first [] (Works work) (slots_at_start t globals strings) (funds first)

-- `go`: a call that comes to an event does so in each run that stands where the machine stands
abbrev pub CallIsMet : Type 0
CallIsMet = (code : CWorld) (S : Set) (world : World) (work : Work) (first : Left) (given : List (Reply Answer)) (point : Point) (s : Slots) (f : Funds) → At code S world work first given point s f
    → (e : Stop) → Comes code point s f e → Gone code S world work first given s.heap e

-- WHAT IS SEEN at a point: at a question the meaning asks it; and where nothing is left to do it has ended, with an outcome that stands for
-- the machine's
abbrev pub QuestionIsAsked : Type 0
QuestionIsAsked = (code : CWorld) (S : Set) (world : World) (work : Work) (first : Left) (given : List (Reply Answer)) (q : Ask) (fs : List SFrame) (s : Slots) (f : Funds)
    → At code S world work first given (Asking q fs) s f → (h : State) × (lua world work first given ≡ Asked q (moment_with h f))

pub record EndIs (code : CWorld) (S : Set) (world : World) (work : Work) (first : Left) (given : List (Reply Answer)) (o : Outcome (List Value) Jump) (s : Slots) (f : Funds) : Type 0 where
  pub outcome : Outcome (List Value) Jump
  pub map : Map
  pub state : State
  pub is_end : (more : List (Reply Answer)) → lua world work first (given ++ more) ≡ Ended outcome (moment_with state (all_given_back f))
  pub stands : Stands (SameFunction code) map state.heap s.heap
  pub same : SameOutcome map outcome o
  pub inside : (q r : Ref) → map.to q ≡ Some r → IsTrue (S r)

abbrev pub EndIsMet : Type 0
EndIsMet = (code : CWorld) (S : Set) (world : World) (work : Work) (first : Left) (given : List (Reply Answer)) (o : Outcome (List Value) Jump) (s : Slots) (f : Funds)
    → At code S world work first given (Gives o []) s f → EndIs code S world work first given o s f

-- `answer`: one reply more, whatever is left with it and whatever it tells; tables of a data module join the set
abbrev pub AnswerIsAt : Type 0
AnswerIsAt = (code : CWorld) (S K : Set) (world : World) (work : Work) (first : Left) (given : List (Reply Answer)) (q : Ask) (fs : List SFrame) (s : Slots) (f : Funds)
    → At code S world work first given (Asking q fs) s f → (a : Answer) (l : Left) (told : Tally) (o : Outcome (List Value) Jump) → IsToldAs K S s.heap a o
    → At code (union S K) world work first (given ++ reply a l told ∷ []) (Gives o fs) s (replied (reply a l told) f)

-- an answer with which an allowance is spent ends the run; all calls in progress are given back
abbrev pub SpentAnswerIsMet : Type 0
SpentAnswerIsMet = (code : CWorld) (S : Set) (world : World) (work : Work) (first : Left) (given : List (Reply Answer)) (q : Ask) (fs : List SFrame) (s : Slots) (f : Funds)
    → At code S world work first given (Asking q fs) s f → (w : Which) (l : Left) (told : Tally)
    → (h : State) × ((more : List (Reply Answer)) → lua world work first ((given ++ spent_reply w l told ∷ []) ++ more) ≡ Spent w (moment_with h (all_given_back (replied (spent_reply w l told) f))))

-- WHERE A POINT MAY BE SEEN: within a closed set with the roots, of which there is one within each set where it is seen; and in each store
-- that has the set as it was
abbrev pub PointIsCut : Type 0
PointIsCut = (code : CWorld) (S T : Set) (world : World) (work : Work) (first : Left) (given : List (Reply Answer)) (point : Point) (s : Slots) (f : Funds) → At code S world work first given point s f
    → IsClosed proc_names T s.heap → AllIn T (roots point s) → At code T world work first given point s f

abbrev pub PointHasImage : Type 0
PointHasImage = (code : CWorld) (S : Set) (world : World) (work : Work) (first : Left) (given : List (Reply Answer)) (point : Point) (s : Slots) (f : Funds) → At code S world work first given point s f
    → (T : Set) × ((r : Ref) → IsTrue (T r) → IsTrue (S r)) × IsClosed proc_names T s.heap × AllIn T (roots point s) × At code T world work first given point s f

abbrev pub PointLooksAtSet : Type 0
PointLooksAtSet = (code : CWorld) (S : Set) (world : World) (work : Work) (first : Left) (given : List (Reply Answer)) (point : Point) (s : Slots) (f : Funds) (t : Heap Proc) → At code S world work first given point s f
    → ((r : Ref) (o : Obj Proc) → IsTrue (S r) → look s.heap r ≡ Some o → look t r ≡ Some o) → At code S world work first given point (with_heap t s) f

-- It looks at an own set with the roots and at read-only tables alone.
abbrev pub PointLooksAtOwn : Type 0
PointLooksAtOwn = (code : CWorld) (S T : Set) (world : World) (work : Work) (first : Left) (given : List (Reply Answer)) (point : Point) (s : Slots) (f : Funds) (t : Heap Proc) → At code S world work first given point s f
    → IsOwnSet proc_names T s.heap → AllIn (with_shared T s.heap) (roots point s) → ((r : Ref) (o : Obj Proc) → IsTrue (with_shared T s.heap r) → look s.heap r ≡ Some o → look t r ≡ Some o)
    → At code (with_shared T s.heap) world work first given point (with_heap t s) f

-- It looks at what the machine owns, and at read-only tables, alone.
abbrev pub PointLooksAtOwned : Type 0
PointLooksAtOwned = (code : CWorld) (S : Set) (world : World) (work : Work) (first : Left) (given : List (Reply Answer)) (point : Point) (s : Slots) (f : Funds) (t : Heap Proc) → At code S world work first given point s f
    → ((r : Ref) (o : Obj Proc) → Own proc_names s.heap (roots point s) r → look s.heap r ≡ Some o → look t r ≡ Some o)
    → ((r : Ref) (o : Obj Proc) → look s.heap r ≡ Some o → IsShared o → look t r ≡ Some o)
    → (T : Set) × ((r : Ref) → IsTrue (T r) → Own proc_names s.heap (roots point s) r) × At code (with_shared T s.heap) world work first given point (with_heap t s) f

-- OTHERS: a call keeps to each own set with the machine's roots, and so to what the machine owns
abbrev pub OthersStay : Type 0
OthersStay = (code : CWorld) (point : Point) (s : Slots) (f : Funds) → IsAt code point s f → (e : Stop) → Comes code point s f e
    → (T : Set) → IsOwnSet proc_names T s.heap → AllIn (with_shared T s.heap) (roots point s) → Frame T s.heap (heap_at e)

abbrev pub UnownedStays : Type 0
UnownedStays = (code : CWorld) (point : Point) (s : Slots) (f : Funds) → IsAt code point s f → (e : Stop) → Comes code point s f e
    → (r : Ref) (b : Obj Proc) → look s.heap r ≡ Some b → (OwnLeads proc_names s.heap (roots point s) r → ⊥) → look (heap_at e) r ≡ Some b

-- REACH: what a machine owns after a call it owned before, or it was made in the call. One that is spent has no roots.
abbrev pub roots_at : Stop → List Ref
roots_at (Over o s f) = roots (Gives o []) s
roots_at (Lacks w t f) = []
roots_at (Waiting q fs s f) = roots (Asking q fs) s

abbrev pub ReachStays : Type 0
ReachStays = (code : CWorld) (point : Point) (s : Slots) (f : Funds) → IsAt code point s f → (e : Stop) → Comes code point s f e
    → (r : Ref) (b : Obj Proc) → look s.heap r ≡ Some b → Own proc_names (heap_at e) (roots_at e) r → Own proc_names s.heap (roots point s) r

-- what a fresh machine owns was made with it, and an answer adds nothing to what is owned
abbrev pub StartOwnsNew : Type 0
StartOwnsNew = (code : CWorld) (work : Work) (globals strings : ℕ) (s t : Heap Proc) → IsHome code globals strings s t
    → (r : Ref) (b : Obj Proc) → look s r ≡ Some b → Own proc_names t (roots (Works work) (slots_at_start t globals strings)) r → ⊥

abbrev pub AnswerOwnsNothing : Type 0
AnswerOwnsNothing = (K S : Set) (q : Ask) (fs : List SFrame) (s : Slots) (a : Answer) (o : Outcome (List Value) Jump) → IsToldAs K S s.heap a o
    → (r : Ref) → Own proc_names s.heap (roots (Gives o fs) s) r → Own proc_names s.heap (roots (Asking q fs) s) r

-- TWO MACHINES of one store that meet in read-only tables alone: one stays at its point while the other goes on, and they stay apart. The
-- set of a machine has objects of the store alone.
abbrev pub IsThere : Set → Heap Proc → Type 0
IsThere S s = (r : Ref) → IsTrue (S r) → (b : Obj Proc) × (look s r ≡ Some b)

abbrev pub NeighbourWaits : Type 0
NeighbourWaits = (code : CWorld) (S T : Set) (world : World) (work : Work) (first : Left) (given : List (Reply Answer)) (point : Point) (s : Slots) (f : Funds) (t : Heap Proc) → MeetShared s.heap S T → Frame S s.heap t
    → At code T world work first given point s f → At code T world work first given point (with_heap t s) f

abbrev pub NeighboursStayApart : Type 0
NeighboursStayApart = (S T : Set) (s t : Heap Proc) → Frame S s t → MeetShared s S T → IsThere T s → MeetShared t (with_new S s t) T × IsThere T t

abbrev pub SetStaysThere : Type 0
SetStaysThere = (S : Set) (s t : Heap Proc) → Frame S s t → IsThere S s → IsThere (with_new S s t) t

-- and so does an answer: its tables are there, and don't bring two machines together
abbrev pub AnswersAreThere : Type 0
AnswersAreThere = (K S : Set) (s : Heap Proc) (a : Answer) (o : Outcome (List Value) Jump) → IsToldAs K S s a o → IsThere S s → IsThere (union S K) s

abbrev pub AnswersStayApart : Type 0
AnswersStayApart = (K S T : Set) (s : Heap Proc) (a : Answer) (o : Outcome (List Value) Jump) → IsToldAs K S s a o → MeetShared s S T → MeetShared s (union S K) T

-- A DATA MODULE was loaded while the machine waited, and its tables were made read-only ones of the store: they are an answer to it, and
-- stay one, whoever goes on.
abbrev pub LoadIsAnswer : Type 0
LoadIsAnswer = (code : CWorld) (S : Set) (world : World) (work : Work) (first : Left) (given : List (Reply Answer)) (point : Point) (s : Slots) (f : Funds) → At code S world work first given point s f → IsThere S s.heap
    → (g : Graph) (value : Value) (t : Heap Proc) → IsPut true g value s.heap t
    → At code S world work first given point (with_heap t s) f × ((K : Set) × IsToldAs K S t (Loaded g) (Goes (value ∷ [])))

abbrev pub AnswersWait : Type 0
AnswersWait = (T K S : Set) (s t : Heap Proc) (a : Answer) (o : Outcome (List Value) Jump) → IsToldAs K S s a o → Frame T s t → IsToldAs K (with_new S s t) t a o

-- THE TALLY is carried along: a machine holds none. What a call tells when it begins with nothing told is joined to what was told before,
-- also by replies, of which a machine gets the answer alone.
abbrev pub told_after : Tally → Tally → Tally
told_after told new = record { height = max told.height new.height; nodes = told.nodes + new.nodes; invoked_nodes = told.invoked_nodes; loads = told.loads }

abbrev pub telling : Tally → Funds → Funds
telling told f = record { left = f.left; in_progress = f.in_progress; tally = told_after told f.tally }

abbrev pub event_telling : Tally → Stop → Stop
event_telling told (Over o s f) = Over o s (telling told f)
event_telling told (Lacks w t f) = Lacks w t (telling told f)
event_telling told (Waiting q fs s f) = Waiting q fs s (telling told f)

abbrev pub TallyIsCarried : Type 0
TallyIsCarried = (code : CWorld) (point : Point) (s : Slots) (f : Funds) (e : Stop) (told : Tally) → Comes code point s f e → Comes code point s (telling told f) (event_telling told e)

abbrev pub NothingTold : Type 0
NothingTold = (told : Tally) → told_after told no_tally ≡ told

-- ALLOWANCES: a call takes steps and calls of what is left, and leaves all other allowances as they are.
abbrev pub TakesItsOwn : Left → Left → Type 0
TakesItsOwn l l' = l' ≡ record l { steps = l'.steps; calls = l'.calls }

abbrev pub OtherAllowancesStay : Type 0
OtherAllowancesStay = (code : CWorld) (point : Point) (s : Slots) (f : Funds) (e : Stop) → Comes code point s f e → TakesItsOwn f.left (funds_at e).left
