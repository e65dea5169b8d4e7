-- WHEN A FUNCTION OF THE LIBRARY DOES THE SAME TO TWO HEAPS, of which the first stands in the second under a map of names: it takes the
-- same charge, ends alike with what stands for one another, and moves both heaps together. R relates what functions hold.
use Rattle.std.specs.Prelude.{◌≡◌, ℤ, List, Ok, Err}
use Rattle.lua_meaning.specs.MwFrameDeclaredQuestionAsk.{Ask}
use Rattle.lua_heap.specs.Value.{Value}
use Rattle.lua_heap.specs.Heap.{Heap}
use Rattle.lua_heap.specs.Related.{Map, Each, Same, Moved}
use Rattle.lua_meaning.specs.Scope.{Bytes}
use Rattle.lua_meaning.specs.Questions.{Asked}
use Rattle.lua_meaning.specs.Acts.{Frame}
use Rattle.lua_meaning.specs.Arguments.{PlainEnd, Gives, Fails, Plain, Argument}
use Rattle.lua_meaning.specs.Frames.{Numbered}
use Rattle.lua_meaning.specs.FrameMethods.{FramedEnd, FrameEnds, FrameQuotes, FrameAsks, FrameWalks, Framed}
use Rattle.lua_meaning.specs.Libraries.{Caller, Form, Answers, InFrames, CallsBack}

-- the same frame: its table stands for the first one's
pub record SameFrame (m : Map) (a b : Frame) : Type 0 where
  pub scene : a.scene ≡ b.scene
  pub table : Same m a.table b.table
  pub parent : a.parent ≡ b.parent

-- the frame of one number, on both sides
pub record SameNumbered (m : Map) (a b : Numbered) : Type 0 where
  pub number : a.number ≡ b.number
  pub frame : SameFrame m a.frame b.frame

-- an argument on both sides, or the same message
pub data SameArgument {A B : Type 0} (Q : A → B → Type 0) : Argument A → Argument B → Type 0 where
  both_ok : (a : A) (b : B) → Q a b → SameArgument Q (Ok a) (Ok b)
  both_err : (message : Bytes) → SameArgument Q (Err message) (Err message)

-- HOW IT ENDS: values, or an error with its level
pub data SameEnd (m : Map) : PlainEnd → PlainEnd → Type 0 where
  both_give : (vs ws : List Value) → Each (Same m) vs ws → SameEnd m (Gives vs) (Gives ws)
  both_fail : (v w : Value) (level : ℤ) → Same m v w → SameEnd m (Fails v level) (Fails w level)

-- or the same message that quotes, the same question, or a walk over a value
pub data SameFramedEnd (m : Map) : FramedEnd → FramedEnd → Type 0 where
  both_end : (a b : PlainEnd) → SameEnd m a b → SameFramedEnd m (FrameEnds a) (FrameEnds b)
  both_quote : (message : Bytes) → SameFramedEnd m (FrameQuotes message) (FrameQuotes message)
  both_ask : (question : Ask) (asked : Asked) → SameFramedEnd m (FrameAsks question asked) (FrameAsks question asked)
  both_walk : (v w : Value) → Same m v w → SameFramedEnd m (FrameWalks v) (FrameWalks w)

module _ {X Y : Type 0} (R : Map → X → Y → Type 0) (m : Map) (h : Heap X) (s : Heap Y) where
  -- the same answer of a function that calls back nobody, from the heaps h and s on
  pub record SamePlain (a : Plain X) (b : Plain Y) : Type 0 where
    pub charge : a.charge ≡ b.charge
    pub names : Map
    pub moved : Moved R m names h a.heap s b.heap
    pub end : SameEnd names a.end b.end

  -- and of one that sees the frames
  pub record SameFramed (a : Framed X) (b : Framed Y) : Type 0 where
    pub charge : a.charge ≡ b.charge
    pub names : Map
    pub moved : Moved R m names h a.heap s b.heap
    pub frames : Each (SameFrame names) a.frames b.frames
    pub end : SameFramedEnd names a.end b.end

  -- WHAT THE TABLE OF THE LIBRARY SAYS of one function, on both sides
  pub data SameForm : Form X → Form Y → Type 0 where
    both_answer : (a : Plain X) (b : Plain Y) → SamePlain a b → SameForm (Answers a) (Answers b)
    both_see : (a : Framed X) (b : Framed Y) → SameFramed a b → SameForm (InFrames a) (InFrames b)
    both_call : (caller : Caller) → SameForm (CallsBack caller) (CallsBack caller)
