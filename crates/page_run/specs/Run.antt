-- A RUN is the events that it makes, one after another.
--   M  who may use the allowances of expansions: empty for a run of Lua, which may not
--   H  the heap that the run sees and changes
--   T  the things that begin: what is no smaller part of the text that runs, as a loop's next turn or a function's body
--   Q  the questions that it asks, and A their answers
--   O  the outcomes that it, or a part of it, ends with
use Rattle.std.specs.Prelude.{ℕ, Bool, List}

-- What an expansion takes, enters, tests and gives back (MediaWiki, Manual: Template limits). It is told whether there was enough,
-- and goes on either way.
pub data Use : Type 0 where
  TakeBytes : (bytes : ℕ) → Use
  EnterDepth LeaveDepth : Use
  HasTemplate EnterTemplate LeaveTemplate : Use

pub data Run (M H T Q A O : Type 0) : Type 0 where
  -- it is over
  Ends : (outcome : O) → Run M H T Q A O
  -- it takes so many steps; where fewer are left, it is spent
  Takes : (steps : ℕ) (rest : Run M H T Q A O) → Run M H T Q A O
  -- a node of a syntax tree begins, and is counted
  Counts : (rest : Run M H T Q A O) → Run M H T Q A O
  -- it notes that the text of this source names this; nothing comes of it, but that a trace tells it
  Notes : (source name : List ℕ) (rest : Run M H T Q A O) → Run M H T Q A O
  -- it sees the heap
  Sees : (rest : H → Run M H T Q A O) → Run M H T Q A O
  -- from here on the heap is another
  Changes : (heap : H) (rest : Run M H T Q A O) → Run M H T Q A O
  -- a function is entered; where no call is left, the run is spent
  Calls : (rest : Run M H T Q A O) → Run M H T Q A O
  -- the function entered last is left
  Leaves : (rest : Run M H T Q A O) → Run M H T Q A O
  -- it uses an allowance of expansions
  Uses : (may : M) (what : Use) (rest : Bool → Run M H T Q A O) → Run M H T Q A O
  -- a thing begins, at one step; where none is left, the run is spent
  Begins : (thing : T) (rest : O → Run M H T Q A O) → Run M H T Q A O
  -- a thing is opened, at one node; where none is left, the run goes on without it
  Opens : (may : M) (thing : T) (without : Run M H T Q A O) (rest : O → Run M H T Q A O) → Run M H T Q A O
  -- it asks, and goes on with the answer
  Asks : (question : Q) (rest : A → Run M H T Q A O) → Run M H T Q A O

-- what stands for a thing that begins: its events, before those of what follows its outcome
abbrev pub Meaning : (M H T Q A O : Type 0) → Type 0
Meaning M H T Q A O = T → (O → Run M H T Q A O) → Run M H T Q A O
