-- THE MOVES OF A FLAT MACHINE.
use Rattle.std.specs.Prelude.{ℕ, ◌+◌, Bool, true, false, List, [], ◌∷◌, length, drop, Option, Some, None, if◌then◌else◌, slice_get}
use Rattle.lua_slots.specs.PageRunOutcome.{Outcome, Goes, Jumps}
use Rattle.lua_slots.specs.PageRunDeclaredWhichWhich.{Which}
use Rattle.lua_slots.specs.PageRunDeclaredWhichWhichTheVariants.{Steps, Calls}
use Rattle.lua_slots.specs.PageRunPerform.{less}
use Rattle.lua_slots.specs.LuaHeapValue.{Value, Nil}
use Rattle.lua_slots.specs.LuaHeapProc.{Proc}
use Rattle.lua_slots.specs.LuaHeapHeap.{Heap, new_cell}
use Rattle.lua_slots.specs.LuaMeaningCharges.{closure_charge}
use Rattle.lua_slots.specs.LuaMeaningValues.{first, rest}
use Rattle.lua_slots.specs.LuaMeaningActs.{Jump}
use Rattle.lua_slots.specs.Code.{Constants, CWorld}
use Rattle.lua_slots.specs.Slots.{Slot, Plain, Boxed, Slots, with_cell, with_one, with_closure, next_closure, function_of}
use Rattle.lua_slots.specs.Points.{SFrame, Point, Gives, Starts, BodyS, Move, Costs, Marks, Enters, Exits, Now}
use Rattle.lua_slots.specs.Calls.{constants_of, rest_of}
use Rattle.lua_slots.specs.Moves.{moves}
use Rattle.lua_slots.specs.Enact.{Funds, all_given_back, Enacted, Stands, Short, marked, called, back}
use Rattle.lua_flat.specs.Operations.{Origin, Op, PayF, OpenF, NamedF, MethodF, CallF, ReturnF, Step, FlatFunction, Codes, no_function}
use Rattle.lua_flat.specs.Registers.{put, operand, values_at, put_slots}
use Rattle.lua_flat.specs.Flat.{Act, FlatPoint, AtPlace, Away, Flat, FlatMove, FNodes, FCosts, FMarks, FEnters, FExits, FNow}
use Rattle.lua_flat.specs.Does.{Landing, captures, values_to, move_of, becomes}

-- THE CODE of the newest function
abbrev pub or_nothing : Option FlatFunction → FlatFunction
or_nothing (Some g) = g
or_nothing None = no_function

abbrev pub code_of : Codes → Slots → Act → FlatFunction
code_of codes s a = or_nothing (codes (function_of s).source a.index)

abbrev pub op_or_pay : Option Step → Op
op_or_pay (Some step) = step.op
op_or_pay None = PayF

abbrev pub op_at : FlatFunction → ℕ → Op
op_at g pc = op_or_pay (slice_get g.steps pc)

-- where the registers of a function begin that is called: behind the function, or behind all registers of the one that waits
abbrev pub room_behind : FlatFunction → Op → ℕ → ℕ
room_behind g (CallF to b arguments results) base = base + b + 1
room_behind g op base = base + g.registers

abbrev pub room_in : Codes → List Act → Flat → ℕ
room_in codes [] f = 0
room_in codes (a ∷ acts) f = let g = code_of codes f.slots a in room_behind g (op_at g a.pc) a.base

-- AN OUTCOME COMES BACK to the operation at which the newest function waits: it puts the values where it wants them, and goes on. An error
-- leaves the function, and goes on to the frames that wait for its outcome.
abbrev pub landed : Landing → Act → List Act → Slots → Flat
landed l a acts s = record { point = AtPlace; acts = record a { pc = l.pc } ∷ acts; regs = l.regs; top = l.top; slots = s }

abbrev pub goes_on : Codes → List Value → Act → List Act → Flat → Flat
goes_on codes vs a acts f = landed (becomes (op_at (code_of codes f.slots a) a.pc) a.base a.pc vs f.regs f.top) a acts f.slots

abbrev pub away_at : Point → Slots → Flat → Flat
away_at point s f = record f { point = Away point; slots = s }

-- a function is left
abbrev pub left_function : Slots → Slots
left_function s = record s { functions = rest_of s.functions }

abbrev pub left_act : Act → List Act → Flat → Flat
left_act a acts f = record f { acts = acts; slots = left_function f.slots }

abbrev pub comes_back : Codes → Outcome (List Value) Jump → List Act → Flat → FlatMove
comes_back codes o [] f = FNow (away_at (Gives o []) f.slots f)
comes_back codes (Goes vs) (a ∷ acts) f = FNow (goes_on codes vs a acts f)
comes_back codes (Jumps j) (a ∷ acts) f = FExits (FNow (away_at (Gives (Jumps j) a.frames) (left_function f.slots) (left_act a acts f)))

-- where a move of the machine over trees leads, above no frames
abbrev pub lands : Codes → Point → Flat → FlatMove
lands codes (Gives o []) f = comes_back codes o f.acts f
lands codes point f = FNow (record f { point = Away point })

abbrev pub settled : Codes → Move → Flat → FlatMove
settled codes (Costs n mv) f = FCosts n (settled codes mv f)
settled codes (Marks mv) f = FMarks (settled codes mv f)
settled codes (Enters mv) f = FEnters (settled codes mv f)
settled codes (Exits mv) f = FExits (settled codes mv f)
settled codes (Now point s) f = lands codes point (record f { slots = s })

-- and where one leads that stays away from code, for one move more
abbrev pub stays_away : Move → Flat → FlatMove
stays_away (Costs n mv) f = FCosts n (stays_away mv f)
stays_away (Marks mv) f = FMarks (stays_away mv f)
stays_away (Enters mv) f = FEnters (stays_away mv f)
stays_away (Exits mv) f = FExits (stays_away mv f)
stays_away (Now point s) f = FNow (away_at point s f)

-- NEW VARIABLES, in order: the heap with the cells of those that have one, and their slots, the oldest first
abbrev pub in_front : Slot → Heap Proc × List Slot → Heap Proc × List Slot
in_front x more = (more.0, x ∷ more.1)

abbrev pub in_order : List Bool → List Value → Heap Proc → Heap Proc × List Slot
in_order [] vs h = (h, [])
in_order (true ∷ flags) vs h = in_front (Boxed (new_cell h (first vs)).1) (in_order flags (rest vs) (new_cell h (first vs)).0)
in_order (false ∷ flags) vs h = in_front (Plain (first vs)) (in_order flags (rest vs) h)

-- the values of these registers become variables
abbrev pub opened : ℕ → List Bool → Flat → Flat
opened at flags f =
    let x = in_order flags (values_at f.regs at (length flags)) f.slots.heap in
    record f { regs = put_slots at x.1 f.regs; slots = record f.slots { heap = x.0 } }

abbrev pub next_place : Act → List Act → Flat → Flat
next_place a acts f = record f { acts = record a { pc = a.pc + 1 } ∷ acts }

-- A LOCAL FUNCTION: its variable is there first, so that it can capture itself
abbrev pub named_in : ℕ → ℕ → List Origin → Slot → Act → Flat → Flat
named_in at index origins (Plain v) a f =
    let s = with_closure (captures index origins f.regs a.base f.slots) f.slots in
    record f { regs = put at (Plain (next_closure f.slots)) f.regs; slots = s }
named_in at index origins (Boxed c) a f =
    let s = with_closure (captures index origins f.regs a.base f.slots) f.slots in
    record f { slots = with_cell (Some c) (next_closure f.slots) s }

abbrev pub first_slot : List Slot → Slot
first_slot [] = Plain Nil
first_slot (x ∷ xs) = x

abbrev pub named : Bool → ℕ → ℕ → List Origin → Act → Flat → Flat
named boxed at index origins a f =
    let x = with_one boxed Nil (f.slots.heap, []) in
    named_in at index origins (first_slot x.1) a (record f { regs = put at (first_slot x.1) f.regs; slots = record f.slots { heap = x.0 } })

-- AN OPERATION
module _ (codes : Codes) (cs : Constants) (line : Option ℕ) where
  abbrev pub does : Op → Act → List Act → Flat → FlatMove
  does (OpenF at flags) a acts f = FNow (next_place a acts (opened (a.base + at) flags f))
  does (NamedF boxed to index origins) a acts f = FCosts closure_charge (FNow (next_place a acts (named boxed (a.base + to) index origins a f)))
  does (ReturnF from count) a acts f = FExits (FNow (away_at (Gives (Goes (values_to count f.regs (a.base + from) f.top)) a.frames) (left_function f.slots) (left_act a acts f)))
  does (MethodF to of name) a acts f =
      settled codes (move_of cs line a.base f.regs f.top f.slots (MethodF to of name)) (record f { regs = put (a.base + to + 1) (Plain (operand cs f.regs a.base of)) f.regs })
  does op a acts f = settled codes (move_of cs line a.base f.regs f.top f.slots op) f

-- A FUNCTION OF LUA IS ENTERED (manual 2.5.8): its registers begin at `room`, and its parameters are the first of them
abbrev pub entered : Option FlatFunction → ℕ → Proc → List Value → Option ℕ → List SFrame → Codes → Flat → FlatMove
entered None room p args line fs codes f = FNow (record f { point = Away (Gives (Goes []) fs) })
entered (Some g) room p args line fs codes f =
    let x = in_order g.flags args f.slots.heap in
    FEnters (FMarks (FNow (record {
      point = AtPlace;
      acts = record { index = p.index; pc = 0; base = room; frames = fs } ∷ f.acts;
      regs = put_slots room x.1 f.regs;
      top = f.top;
      slots = record f.slots {
        heap = x.0;
        functions = record { cells = p.cells; dots = if g.dots then drop (length g.flags) args else []; source = p.title; called_at = line; base = 0 } ∷ f.slots.functions;
      };
    })))

module _ (world : CWorld) (codes : Codes) (room : ℕ) where
  abbrev pub step_of : FlatFunction → Option Step → Act → List Act → Flat → FlatMove
  step_of g None a acts f = FNow f
  step_of g (Some step) a acts f = FNodes step.charge (does codes (constants_of world f.slots) (slice_get g.lines a.pc) step.op a acts f)

  abbrev pub at_place : List Act → Flat → FlatMove
  at_place [] f = FNow f
  at_place (a ∷ acts) f = let g = code_of codes f.slots a in step_of g (slice_get g.steps a.pc) a acts f

  abbrev pub from_away : Point → Flat → FlatMove
  from_away (Gives o []) f = comes_back codes o f.acts f
  from_away (Starts (BodyS p args line) fs) f = FCosts 1 (entered (codes p.title p.index) room p args line fs codes f)
  from_away point f = stays_away (moves world point f.slots) f

  abbrev pub by_point : FlatPoint → Flat → FlatMove
  by_point AtPlace f = at_place f.acts f
  by_point (Away point) f = from_away point f

  -- THE NEXT MOVE, where the registers of a function that is entered begin at `room`
  abbrev pub flat_moves : Flat → FlatMove
  flat_moves f = by_point f.point f

-- WHAT A MOVE COMES TO with what is left. Nodes are paid and counted one by one.
pub data FlatEnacted : Type 0 where
  FStands : (flat : Flat) (funds : Funds) → FlatEnacted
  FShort : (which : Which) (funds : Funds) → FlatEnacted

abbrev pub after_nodes : ℕ → ℕ → Funds → Funds
after_nodes n rest f = record f { left = record f.left { steps = rest }; tally = record f.tally { nodes = f.tally.nodes + n } }

abbrev pub nodes_paid : ℕ → Option ℕ → Funds → (Funds → FlatEnacted) → FlatEnacted
nodes_paid n (Some rest) f go = go (after_nodes n rest f)
nodes_paid n None f go = FShort Steps (all_given_back (after_nodes f.left.steps 0 f))

abbrev pub flat_paid : Option ℕ → Funds → (Funds → FlatEnacted) → FlatEnacted
flat_paid (Some rest) f go = go record f { left = record f.left { steps = rest } }
flat_paid None f go = FShort Steps (all_given_back record f { left = record f.left { steps = 0 } })

abbrev pub flat_calling : Option ℕ → Funds → (Funds → FlatEnacted) → FlatEnacted
flat_calling (Some rest) f go = go (called rest f)
flat_calling None f go = FShort Calls (all_given_back f)

abbrev pub flat_enact : FlatMove → Funds → FlatEnacted
flat_enact (FNow x) f = FStands x f
flat_enact (FNodes n mv) f = nodes_paid n (less n f.left.steps) f (flat_enact mv)
flat_enact (FCosts n mv) f = flat_paid (less n f.left.steps) f (flat_enact mv)
flat_enact (FMarks mv) f = flat_enact mv (marked f)
flat_enact (FEnters mv) f = flat_calling (less 1 f.left.calls) f (flat_enact mv)
flat_enact (FExits mv) f = flat_enact mv (back f.in_progress f)

-- A REPLY to the question at which it stands leads where it leads in the machine over trees
abbrev pub replied_in : Flat → Enacted → FlatEnacted
replied_in f (Stands p s g) = FStands (record f { point = Away p; slots = s }) g
replied_in f (Short which g) = FShort which g
