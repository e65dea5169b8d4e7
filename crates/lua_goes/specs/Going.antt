-- A MACHINE GOES ON: move after move, until an event.
use Rattle.std.specs.Prelude.{◌≡◌, List, []}
use Rattle.lua_slots.specs.MwFrameDeclaredQuestionAsk.{Ask}
use Rattle.lua_slots.specs.PageRunDeclaredWhichWhich.{Which}
use Rattle.lua_slots.specs.PageRunOutcome.{Outcome}
use Rattle.lua_slots.specs.LuaHeapProc.{Proc}
use Rattle.lua_slots.specs.LuaHeapValue.{Value}
use Rattle.lua_slots.specs.LuaHeapHeap.{Heap}
use Rattle.lua_slots.specs.LuaMeaningActs.{Jump}
use Rattle.lua_slots.specs.Code.{CWorld}
use Rattle.lua_slots.specs.Slots.{Slots}
use Rattle.lua_slots.specs.Points.{SFrame, Point, Gives, Asking, Move, Costs, Marks, Enters, Exits, Now}
use Rattle.lua_slots.specs.Moves.{moves}
use Rattle.lua_slots.specs.Enact.{Funds, all_given_back, Stands, Short, enact}

-- AN EVENT: the machine is at its end, and all calls are given back; an allowance is spent, with the store's heap then; or the machine
-- waits for the answer to a question.
pub data Stop : Type 0 where
  Over : (outcome : Outcome (List Value) Jump) (slots : Slots) (funds : Funds) → Stop
  Lacks : (which : Which) (heap : Heap Proc) (funds : Funds) → Stop
  Waiting : (question : Ask) (frames : List SFrame) (slots : Slots) (funds : Funds) → Stop

abbrev pub funds_at : Stop → Funds
funds_at (Over o s f) = f
funds_at (Lacks w h f) = f
funds_at (Waiting q fs s f) = f

-- the store's heap at an event
abbrev pub heap_at : Stop → Heap Proc
heap_at (Over o s f) = s.heap
heap_at (Lacks w h f) = h
heap_at (Waiting q fs s f) = s.heap

-- what the machine holds after a move whose charges are all covered
abbrev pub led : Move → Slots
led (Costs n mv) = led mv
led (Marks mv) = led mv
led (Enters mv) = led mv
led (Exits mv) = led mv
led (Now point s) = s

module _ (world : CWorld) where
  -- FROM WHERE IT STOOD, TO WHERE IT STANDS: a list of moves that grows at its end
  pub data Reaches (p : Point) (s : Slots) (f : Funds) : Point → Slots → Funds → Type 0 where
    here : Reaches p s f p s f
    further : (q : Point) (t : Slots) (g : Funds) (q' : Point) (t' : Slots) (g' : Funds) → Reaches p s f q t g → enact (moves world q t) g ≡ Stands q' t' g' → Reaches p s f q' t' g'

  -- THE EVENT that it comes to. Where an allowance is spent, the store's heap is that from before the last move, or the one to which
  -- this move would have led: code may change the store before it takes the charge.
  pub data Comes (p : Point) (s : Slots) (f : Funds) : Stop → Type 0 where
    is_over : (o : Outcome (List Value) Jump) (t : Slots) (g : Funds) → Reaches p s f (Gives o []) t g → Comes p s f (Over o t (all_given_back g))
    is_short : (q : Point) (t : Slots) (g : Funds) (w : Which) (g' : Funds) → Reaches p s f q t g → enact (moves world q t) g ≡ Short w g' → Comes p s f (Lacks w t.heap g')
    is_short_late : (q : Point) (t : Slots) (g : Funds) (w : Which) (g' : Funds) → Reaches p s f q t g → enact (moves world q t) g ≡ Short w g' → Comes p s f (Lacks w (led (moves world q t)).heap g')
    is_asking : (q : Ask) (fs : List SFrame) (t : Slots) (g : Funds) → Reaches p s f (Asking q fs) t g → Comes p s f (Waiting q fs t g)
