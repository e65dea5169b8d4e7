-- MANY MACHINES OF ONE STORE: of each there is a set, and no two of these meet but in read-only tables. Who drives them keeps this: when
-- one is started, goes on or is answered, the others are where they were.
use Rattle.std.specs.Prelude.{true, List, [], ◌∷◌}
use Rattle.std.specs.List.{AllByRecursion}
use Rattle.page_run.specs.Outcome.{Outcome}
use Rattle.lua_heap.specs.Proc.{Proc}
use Rattle.lua_heap.specs.Value.{Value}
use Rattle.lua_heap.specs.Heap.{Heap}
use Rattle.lua_heap.specs.Reach.{Set, nowhere, union, with_new, MeetShared, Frame}
use Rattle.lua_heap.specs.Graph.{Graph, IsPut}
use Rattle.lua_agree.specs.LuaMeaningQuestions.{Answer}
use Rattle.lua_goes.specs.LuaMeaningActs.{Jump}
use Rattle.lua_points.specs.Told.{IsToldAs}
use Rattle.lua_points.specs.Laws.{IsThere}

-- one set meets each of these in read-only tables alone
abbrev pub MeetsNone : Heap Proc → Set → List Set → Type 0
MeetsNone s S others = AllByRecursion (MeetShared s S) others

-- each is there, and no two meet
abbrev pub AreApart : Heap Proc → List Set → Type 0
AreApart s [] = Unit {0}
AreApart s (S ∷ others) = IsThere S s × MeetsNone s S others × AreApart s others

-- a machine is started: its set begins as one with nothing in it
abbrev pub OneMore : Type 0
OneMore = (s : Heap Proc) (others : List Set) → AreApart s others → AreApart s (nowhere ∷ others)

-- the first one goes on, or is started, in its set
abbrev pub OneGoes : Type 0
OneGoes = (S : Set) (others : List Set) (s t : Heap Proc) → Frame S s t → AreApart s (S ∷ others) → AreApart t (with_new S s t ∷ others)

-- the first one is answered
abbrev pub OneIsAnswered : Type 0
OneIsAnswered = (K S : Set) (others : List Set) (s : Heap Proc) (a : Answer) (o : Outcome (List Value) Jump) → IsToldAs K S s a o → AreApart s (S ∷ others) → AreApart s (union S K ∷ others)

-- tables of a data module are put into the store
abbrev pub DataIsPut : Type 0
DataIsPut = (g : Graph) (value : Value) (sets : List Set) (s t : Heap Proc) → IsPut true g value s t → AreApart s sets → AreApart t sets

-- another one goes on instead: the order does not matter
abbrev pub OrderIsFree : Type 0
OrderIsFree = (s : Heap Proc) (S T : Set) (others : List Set) → AreApart s (S ∷ T ∷ others) → AreApart s (T ∷ S ∷ others)
