-- SIX SMALL RUNS, and what each of them comes to. The numbers were worked out by hand.
use Rattle.std.specs.Prelude.{◌≡◌, ℕ, ◌+◌, ◌-◌, ◌*◌, Bool, true, false, List, [], ◌∷◌, Option, Some}
use Rattle.wk_base.specs.declared.left.Left.{Left}
use Rattle.page_run.specs.declared.which.Which.TheVariants.{Steps}
use Rattle.page_run.specs.Run.{TakeBytes, EnterDepth, LeaveDepth, HasTemplate, Run, Ends}
use Rattle.page_run.specs.Part.{Part, ◌>>=◌, ◌>>◌, give, tick, count, note, see, change, try_use, begin, open_or, ask, in_call}
use Rattle.page_run.specs.State.{NoLoads, Load, Gives, Reply, Ended, Spent, start}
use Rattle.page_run.specs.Perform.{perform, wait}
use Rattle.page_run.specs.Trace.{Note, trace}

-- a loop without end, and a construct that stands inside itself
pub data Thing : Type 0 where
  Turn Nest : Thing

-- the heap is a number, questions and answers are numbers
abbrev pub Small : Type 0 → Type 0
Small O = Run (Unit {0}) ℕ Thing ℕ ℕ O

abbrev pub Act : Type 0 → Type 0
Act X = Part (Small ℕ) X

abbrev pub meaning : Thing → Act ℕ
meaning Turn = begin Turn
meaning Nest = do
  inner ← open_or tt 7 Nest
  give (inner + 1)

abbrev pub some_left : Left
some_left = record { steps = 10; nodes = 3; bytes = 5; calls = 2; depth = 1; templates = 1 }

-- 1. A charge of 3, and two of 2, each inside a function of its own; a syntax node is counted; the number in the heap goes from 0 to 1.
abbrev pub charges : Act ℕ
charges = do
  tick 3
  count
  n ← see
  change (n + 1)
  in_call (tick 2)
  in_call (tick 2)
  m ← see
  give (m + 20)

abbrev pub ChargesAreTaken : Type 0
ChargesAreTaken = perform meaning wait (charges Ends) (start 0 some_left []) ≡ Ended 21 (record {
  heap = 1;
  left = record some_left { steps = 3 };
  in_progress = 0;
  tally = record { height = 1; nodes = 1; invoked_nodes = 0; loads = NoLoads };
})

-- 2. A loop without end, inside two functions: it is spent, and both calls are given back.
abbrev pub endless_loop : Act ℕ
endless_loop = in_call (in_call (begin Turn))

abbrev pub EndlessLoopIsSpent : Type 0
EndlessLoopIsSpent = perform meaning wait (endless_loop Ends) (start 0 some_left []) ≡ Spent Steps (record {
  heap = 0;
  left = record some_left { steps = 0 };
  in_progress = 0;
  tally = record { height = 2; nodes = 0; invoked_nodes = 0; loads = NoLoads };
})

-- 3. Four bytes, and four more that are not there; a level, and another that is not there; a test of template levels. It is told so, and goes on.
abbrev pub uses : Part (Small (List Bool)) (List Bool)
uses = do
  a ← try_use tt (TakeBytes 4)
  b ← try_use tt (TakeBytes 4)
  c ← try_use tt EnterDepth
  d ← try_use tt EnterDepth
  e ← try_use tt LeaveDepth
  f ← try_use tt HasTemplate
  give (a ∷ b ∷ c ∷ d ∷ e ∷ f ∷ [])

abbrev nothing_begins : Thing → Part (Small (List Bool)) (List Bool)
nothing_begins t = give []

abbrev pub UsesAreAnswered : Type 0
UsesAreAnswered = perform nothing_begins wait (uses Ends) (start 0 some_left []) ≡ Ended (true ∷ false ∷ true ∷ false ∷ true ∷ true ∷ []) (record {
  heap = 0;
  left = record some_left { bytes = 0 };
  in_progress = 0;
  tally = record { height = 0; nodes = 0; invoked_nodes = 0; loads = NoLoads };
})

-- 4. A construct inside itself is opened three times, and the fourth time it is 7 in its place.
abbrev pub nest : Act ℕ
nest = open_or tt 7 Nest

abbrev pub NestingEndsWithNodes : Type 0
NestingEndsWithNodes = perform meaning wait (nest Ends) (start 0 some_left []) ≡ Ended 10 (record {
  heap = 0;
  left = record some_left { nodes = 0 };
  in_progress = 0;
  tally = record { height = 0; nodes = 0; invoked_nodes = 0; loads = NoLoads };
})

-- 5. Two questions inside a function. The first reply is given: it is a data load, of height 1. The second one is computed: ten times the question, for a step.
abbrev pub two_questions : Act ℕ
two_questions = in_call (do
  a ← ask 1
  b ← ask 2
  give (a + b))

abbrev pub load_reply : Reply ℕ
load_reply = record { response = Gives 5; left = record some_left { steps = 8; calls = 1 }; tally = record { height = 1; nodes = 0; invoked_nodes = 0; loads = Load (68 ∷ []) 2 4 true NoLoads NoLoads } }

abbrev pub tenfold : ℕ → Left → Option (Reply ℕ)
tenfold q l = Some (record { response = Gives (10 * q); left = record l { steps = l.steps - 1 }; tally = record { height = 0; nodes = 9; invoked_nodes = 2; loads = NoLoads } })

abbrev pub QuestionsAreAnswered : Type 0
QuestionsAreAnswered = perform meaning tenfold (two_questions Ends) (start 0 some_left (load_reply ∷ [])) ≡ Ended 25 (record {
  heap = 0;
  left = record some_left { steps = 7 };
  in_progress = 0;
  tally = record { height = 2; nodes = 0; invoked_nodes = 2; loads = Load (68 ∷ []) 2 4 true NoLoads NoLoads };
})

-- 6. Notes before, inside and behind a function. What is noted behind a charge that is not covered is not told; to all of them the meaning is deaf.
abbrev pub noted : ℕ → List ℕ → Note
noted source name = record { source = source ∷ []; name = name }

abbrev pub notes : Act ℕ
notes = do
  note (1 ∷ []) (120 ∷ [])
  in_call (do
    tick 4
    note (2 ∷ []) (121 ∷ []))
  note (1 ∷ []) (120 ∷ [])
  tick 7
  note (1 ∷ []) (122 ∷ [])
  give 0

abbrev pub NotesAreCollected : Type 0
NotesAreCollected =
    (trace meaning wait (notes Ends) (start 0 some_left []) ≡ noted 1 (120 ∷ []) ∷ noted 2 (121 ∷ []) ∷ noted 1 (120 ∷ []) ∷ [])
    × (perform meaning wait (notes Ends) (start 0 some_left []) ≡ Spent Steps (record {
      heap = 0;
      left = record some_left { steps = 0 };
      in_progress = 0;
      tally = record { height = 1; nodes = 0; invoked_nodes = 0; loads = NoLoads };
    }))
