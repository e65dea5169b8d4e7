-- WHEN A FLAT MACHINE STANDS WHERE A MACHINE OVER TREES STANDS.
use Rattle.std.specs.Prelude.{◌≡◌, ◌≤◌, ◌<◌, ℕ, ◌+◌, ℤ, Bool, true, false, List, [], ◌∷◌, ◌++◌, length, map, Option, Some}
use Rattle.lua_slots.specs.PageRunOutcome.{Outcome, Goes, Jumps}
use Rattle.lua_slots.specs.LuaHeapValue.{Value, Number, Table}
use Rattle.lua_slots.specs.LuaSyntaxDeclaredUnaryOp.{UnaryOp}
use Rattle.lua_slots.specs.LuaMeaningOperators.{Operator}
use Rattle.lua_slots.specs.LuaMeaningScope.{Bytes}
use Rattle.lua_slots.specs.LuaMeaningValues.{first}
use Rattle.lua_slots.specs.LuaMeaningActs.{Jump, Raised}
use Rattle.lua_slots.specs.LuaMeaningStart.{Work}
use Rattle.lua_slots.specs.Code.{Constants, CExp, CExps, CBlock, CWorld}
use Rattle.lua_slots.specs.Slots.{Slot, Activation, Slots}
use Rattle.lua_slots.specs.Calls.{code_of}
use Rattle.lua_slots.specs.Points.{SThing, WhileTurnS, RepeatTurnS, CountTurnS, EachTurnS}
use Rattle.lua_slots.specs.Points.{SFrame, First, Verdict, ItemsNext, MethodNow, LibraryEnd, Waits as WaitsFor, Hears, ModuleFound, FunctionFound, AnswerNow, TextNow, DataNow}
use Rattle.lua_slots.specs.Points.{Point, Gives, Evals, Runs, Starts, Texts, Asking, Works}
use Rattle.lua_flat.specs.Locals.{Local}
use Rattle.lua_flat.specs.Operations.{Operand, RegisterO, Wanted, FlatFunction, Codes}
use Rattle.lua_flat.specs.Operations.{GetGlobalF, SetGlobalF, IndexF, SetIndexF, MethodF, SetFieldF, SetItemsF, OperateF, UnaryF, CompareF, EachCallsF, CallF}
use Rattle.lua_flat.specs.Registers.{operand, values_at, adjusted}
use Rattle.lua_flat.specs.Does.{values_to}
use Rattle.lua_flat.specs.Flat.{Act, AtPlace, Away, Flat}
use Rattle.lua_flat.specs.IsExpression.{Has, HasAt, one_more, IsOperand, IsValue, IsMany, IsRow, IsTest}
use Rattle.lua_flat.specs.IsStatement.{writes_last, IsBlock}
use Rattle.lua_flat.specs.Keeps.{Keeps, AreKept, AreVariables, Bounded, Tidy}
use Rattle.lua_flat.specs.WaitsStatement.{Leaves, IsWhile, IsRepeat, IsCount, IsEach, Resumes, Finishes, StatExact}
use Rattle.lua_flat.specs.WaitsExpression.{IsFork, Waits, Lands, LandsMany, RowWaits, Takes, FieldWaits}

-- WHAT A FLAT MACHINE HOLDS of what a machine over trees holds: all but the registers, and where each function's begin
abbrev pub without_base : Activation → Activation
without_base a = record a { base = 0 }

abbrev pub erased : Slots → Slots
erased s = record s { regs = []; functions = map without_base s.functions }

abbrev pub in_tree : List Slot → List Activation → Slots → Slots
in_tree regs functions s = record s { regs = regs; functions = functions }

-- POINTS AT WHICH NO CODE IS: frames that hold values alone, and points above them
abbrev pub IsAwayFrame : SFrame → Type 0
IsAwayFrame First = Unit {0}
IsAwayFrame (Verdict negated) = Unit {0}
IsAwayFrame (ItemsNext table place items line) = Unit {0}
IsAwayFrame LibraryEnd = Unit {0}
IsAwayFrame (WaitsFor pending line) = Unit {0}
IsAwayFrame (Hears asked line) = Unit {0}
IsAwayFrame (ModuleFound function frame) = Unit {0}
IsAwayFrame (FunctionFound function frame) = Unit {0}
IsAwayFrame AnswerNow = Unit {0}
IsAwayFrame (TextNow values before) = Unit {0}
IsAwayFrame DataNow = Unit {0}
IsAwayFrame f = ⊥

abbrev pub AllAway : List SFrame → Type 0
AllAway [] = Unit {0}
AllAway (f ∷ fs) = IsAwayFrame f × AllAway fs

abbrev pub IsAwayThing : SThing → Type 0
IsAwayThing (WhileTurnS test body) = ⊥
IsAwayThing (RepeatTurnS body test) = ⊥
IsAwayThing (CountTurnS boxed index limit step body) = ⊥
IsAwayThing (EachTurnS flags iterator state results body line) = ⊥
IsAwayThing thing = Unit {0}

-- an error, or values: no `return` or `break` leaves its function's code
abbrev pub IsAwayOutcome : Outcome (List Value) Jump → Type 0
IsAwayOutcome (Goes vs) = Unit {0}
IsAwayOutcome (Jumps (Raised v)) = Unit {0}
IsAwayOutcome (Jumps j) = ⊥

-- these frames wait beneath those of the point
abbrev pub IsAwayPoint : Point → Type 0
IsAwayPoint (Gives o gs) = IsAwayOutcome o × AllAway gs
IsAwayPoint (Starts thing gs) = IsAwayThing thing × AllAway gs
IsAwayPoint (Texts vs before gs) = AllAway gs
IsAwayPoint (Asking q gs) = AllAway gs
IsAwayPoint point = ⊥

abbrev pub below : Point → List SFrame → Point
below (Gives o gs) fs = Gives o (gs ++ fs)
below (Starts thing gs) fs = Starts thing (gs ++ fs)
below (Texts vs before gs) fs = Texts vs before (gs ++ fs)
below (Asking q gs) fs = Asking q (gs ++ fs)
below point fs = point

-- a frame that makes one value of what it is given
abbrev pub IsOneFrame : SFrame → Type 0
IsOneFrame First = Unit {0}
IsOneFrame (Verdict negated) = Unit {0}
IsOneFrame f = ⊥

-- the constants of a module
abbrev pub constants_in : CWorld → Bytes → Constants
constants_in world source = (code_of (world.modules source)).constant

-- AN OPERATION WAITS for the outcome of the point above it. It has these frames of its own beneath that point, and the machine over trees has
-- those others, that do the same as code behind it.
pub data Awaits (cs : Constants) (g : FlatFunction) (under : ℕ) (beneath : List SFrame) : (locals : List Local) (low : ℕ) (keeps : Keeps) (pc : ℕ) (hs fs : List SFrame) → Type 0 where
  await_index : {one : Bool} {locals : List Local} {low : ℕ} {keeps : Keeps} {pc c to : ℕ} {a b : Operand} {fs : List SFrame} → Has g pc c (IndexF to a b) → Lands cs g under beneath true one locals low keeps (pc + 1) to fs → Awaits cs g under beneath locals low keeps pc [] (First ∷ fs)
  await_global : {one : Bool} {locals : List Local} {low : ℕ} {keeps : Keeps} {pc c to x : ℕ} {fs : List SFrame} → Has g pc c (GetGlobalF to x) → Lands cs g under beneath true one locals low keeps (pc + 1) to fs → Awaits cs g under beneath locals low keeps pc [] (First ∷ fs)
  await_operate : {one : Bool} {locals : List Local} {low : ℕ} {keeps : Keeps} {pc c to : ℕ} {op : Operator} {a b : Operand} {h : SFrame} {fs : List SFrame} → IsOneFrame h → Has g pc c (OperateF op to a b) → Lands cs g under beneath true one locals low keeps (pc + 1) to fs
      → Awaits cs g under beneath locals low keeps pc (h ∷ []) (h ∷ fs)
  await_unary : {one : Bool} {locals : List Local} {low : ℕ} {keeps : Keeps} {pc c to : ℕ} {op : UnaryOp} {a : Operand} {h : SFrame} {fs : List SFrame} → IsOneFrame h → Has g pc c (UnaryF op to a) → Lands cs g under beneath true one locals low keeps (pc + 1) to fs
      → Awaits cs g under beneath locals low keeps pc (h ∷ []) (h ∷ fs)
  await_compare : {when : Bool} {locals : List Local} {low : ℕ} {keeps : Keeps} {pc c target hit miss : ℕ} {op : Operator} {a b : Operand} {h : SFrame} {fs : List SFrame} → IsOneFrame h → Has g pc c (CompareF op a b when target) → IsFork when (pc + 1) target hit miss
      → Takes cs g under beneath locals low keeps hit 0 miss 0 fs → Awaits cs g under beneath locals low keeps pc (h ∷ []) (h ∷ fs)
  await_call : {locals : List Local} {low : ℕ} {keeps : Keeps} {pc c to q : ℕ} {arguments wanted : Wanted} {fs : List SFrame} → low ≤ q → Has g pc c (CallF to q arguments wanted) → LandsMany cs g under beneath wanted locals low keeps (pc + 1) to fs → Awaits cs g under beneath locals low keeps pc [] fs
  await_method : {locals : List Local} {low low' : ℕ} {keeps : Keeps} {pc c q x line c' pc' to : ℕ} {object : Value} {a : Operand} {es : CExps} {arguments wanted : Wanted} {fs : List SFrame} → Has g pc c (MethodF q a x) → low' ≤ q → q + 1 < low → q + 1 < g.registers → Bounded low' locals keeps
      → IsRow g locals (q + 2) es 0 (pc + 1) c' pc' arguments → HasAt g pc' c' line (CallF to q (one_more arguments) wanted) → LandsMany cs g under beneath wanted locals low' keeps (pc' + 1) to fs
      → Awaits cs g under beneath locals low ((RegisterO (q + 1), object) ∷ keeps) pc [] (MethodNow object es line ∷ fs)
  await_set : {away : Option ℕ} {locals : List Local} {low : ℕ} {keeps : Keeps} {pc c : ℕ} {a b o : Operand} {fs : List SFrame} → Has g pc c (SetIndexF a b o) → Resumes cs g under beneath away locals low keeps (pc + 1) 0 fs → Awaits cs g under beneath locals low keeps pc [] fs
  await_set_global : {away : Option ℕ} {locals : List Local} {low : ℕ} {keeps : Keeps} {pc c x : ℕ} {o : Operand} {fs : List SFrame} → Has g pc c (SetGlobalF x o) → Resumes cs g under beneath away locals low keeps (pc + 1) 0 fs → Awaits cs g under beneath locals low keeps pc [] fs
  await_field : {locals : List Local} {low : ℕ} {keeps : Keeps} {pc c t : ℕ} {a o : Operand} {fs : List SFrame} → Has g pc c (SetFieldF t a o) → FieldWaits cs g under beneath locals low keeps (pc + 1) fs → Awaits cs g under beneath locals low keeps pc [] fs
  await_items : {one : Bool} {locals : List Local} {low low' : ℕ} {keeps : Keeps} {pc c t table place from n line : ℕ} {left : List Value} {fs : List SFrame} → low' ≤ table → table < low → Bounded low' locals keeps → Has g pc c (SetItemsF table place from)
      → Waits cs g under beneath one locals low' keeps (pc + 1) 0 (RegisterO table) fs → Awaits cs g under beneath locals low ((RegisterO table, Table t) ∷ keeps) pc (ItemsNext t n left line ∷ []) (ItemsNext t n left line ∷ fs)
  await_each : {locals : List Local} {low : ℕ} {keeps : Keeps} {pc c base : ℕ} {count : ℕ} {fs : List SFrame} → low ≤ base + 3 → Has g pc c (EachCallsF base count) → StatExact cs g under beneath locals low keeps (pc + 1) 0 (base + 3) count fs → Awaits cs g under beneath locals low keeps pc [] fs

-- AN OUTCOME ARRIVES at an operation: it has passed the frame that was the operation's own
pub data Arrives (cs : Constants) (g : FlatFunction) (under : ℕ) (beneath : List SFrame) : (locals : List Local) (low : ℕ) (keeps : Keeps) (pc : ℕ) (o : Outcome (List Value) Jump) (fs : List SFrame) → Type 0 where
  arrive_operate : {one : Bool} {locals : List Local} {low : ℕ} {keeps : Keeps} {pc c to : ℕ} {op : Operator} {a b : Operand} {v : Value} {fs : List SFrame} → Has g pc c (OperateF op to a b) → Lands cs g under beneath true one locals low keeps (pc + 1) to fs
      → Arrives cs g under beneath locals low keeps pc (Goes (v ∷ [])) fs
  arrive_unary : {one : Bool} {locals : List Local} {low : ℕ} {keeps : Keeps} {pc c to : ℕ} {op : UnaryOp} {a : Operand} {v : Value} {fs : List SFrame} → Has g pc c (UnaryF op to a) → Lands cs g under beneath true one locals low keeps (pc + 1) to fs
      → Arrives cs g under beneath locals low keeps pc (Goes (v ∷ [])) fs
  arrive_compare : {when : Bool} {locals : List Local} {low : ℕ} {keeps : Keeps} {pc c target hit miss : ℕ} {op : Operator} {a b : Operand} {v : Value} {fs : List SFrame} → Has g pc c (CompareF op a b when target) → IsFork when (pc + 1) target hit miss
      → Takes cs g under beneath locals low keeps hit 0 miss 0 fs → Arrives cs g under beneath locals low keeps pc (Goes (v ∷ [])) fs
  arrive_items : {one : Bool} {locals : List Local} {low low' : ℕ} {keeps : Keeps} {pc c t table place from : ℕ} {fs : List SFrame} → low' ≤ table → table < low → Bounded low' locals keeps → Has g pc c (SetItemsF table place from) → Waits cs g under beneath one locals low' keeps (pc + 1) 0 (RegisterO table) fs
      → Arrives cs g under beneath locals low ((RegisterO table, Table t) ∷ keeps) pc (Goes (Table t ∷ [])) fs
  arrive_error : {locals : List Local} {low : ℕ} {keeps : Keeps} {pc : ℕ} {h : SFrame} {v : Value} {fs : List SFrame} → Awaits cs g under beneath locals low keeps pc (h ∷ []) (h ∷ fs) → Arrives cs g under beneath locals low keeps pc (Jumps (Raised v)) fs

-- A LIST stands in registers from r on, as it is said: exactly so many, or up to the top
abbrev pub IsRowed : List Slot → ℕ → ℕ → Wanted → List Value → Type 0
IsRowed regs top at count vs = values_to count regs at top ≡ vs

module _ (world : CWorld) (codes : Codes) (regs : List Slot) where
  mutual
    -- A FUNCTION IN PROGRESS, where its code relies on these variables and kept values: it is code of its module, and its slots in the machine over
    -- trees are the first of all
    pub data Within : (a : Act) (acts : List Act) (fn : Activation) (fns : List Activation) (g : FlatFunction) (mine theirs : List Slot) (beneath : List SFrame) (locals : List Local) (low : ℕ) (keeps : Keeps) → Type 0 where
      within : {a : Act} {acts : List Act} {fn : Activation} {fns : List Activation} {g : FlatFunction} {mine theirs : List Slot} {beneath : List SFrame} {locals : List Local} {low : ℕ} {keeps : Keeps} → codes fn.source a.index ≡ Some g → fn.base ≡ length theirs
          → AreVariables regs a.base locals mine → AreKept (constants_in world fn.source) regs a.base keeps → Bounded low locals keeps → low ≤ g.registers → Callers acts fns theirs a.frames beneath a.base
          → Within a acts fn fns g mine theirs beneath locals low keeps

    -- THE FUNCTIONS BELOW IT, whose registers are below a limit: frames that wait for its outcome in a flat machine, and in a machine over trees
    pub data Callers : (acts : List Act) (fns : List Activation) (theirs : List Slot) (frames beneath : List SFrame) (limit : ℕ) → Type 0 where
      nobody : {gs : List SFrame} {limit : ℕ} → AllAway gs → Callers [] [] [] gs gs limit
      caller : {a : Act} {acts : List Act} {fn : Activation} {fns : List Activation} {g : FlatFunction} {mine theirs : List Slot} {beneath hs fs : List SFrame} {locals : List Local} {low limit : ℕ} {keeps : Keeps} (gs : List SFrame) → AllAway gs
          → Within a acts fn fns g mine theirs beneath locals low keeps → Awaits (constants_in world fn.source) g (length theirs) beneath locals low keeps a.pc hs fs → a.base + low ≤ limit → Callers (a ∷ acts) (fn ∷ fns) (mine ++ theirs) (gs ++ hs) (gs ++ fs) limit

-- a flat machine in code, and away from it
abbrev pub in_code : Act → List Act → List Slot → ℕ → Slots → Flat
in_code a acts regs top s = record { point = AtPlace; acts = a ∷ acts; regs = regs; top = top; slots = erased s }

abbrev pub from_code : Point → List Act → List Slot → ℕ → Slots → Flat
from_code point acts regs top s = record { point = Away point; acts = acts; regs = regs; top = top; slots = erased s }

-- what is given for an expression: its first value, and the only one where it is single
abbrev pub IsGiven : Bool → List Value → Value → Type 0
IsGiven true vs v = vs ≡ v ∷ []
IsGiven false vs v = first vs ≡ v

-- BOTH STAND TOGETHER: the steps that are left are the same, and no node of what is next has begun
module _ (world : CWorld) (codes : Codes) where
  pub data StandsFor : Flat → Point → Slots → Type 0 where
    -- in code, at an expression, an operand, a list, a test, and where a value is given, or several
    at_value : {a : Act} {acts : List Act} {fn : Activation} {fns : List Activation} {g : FlatFunction} {mine theirs regs : List Slot} {beneath fs : List SFrame} {locals : List Local} {low free to end top : ℕ} {keeps : Keeps} {single : Bool} {e : CExp} (s : Slots)
        → Within world codes regs a acts fn fns g mine theirs beneath locals low keeps → low ≤ free → IsValue g locals single free e 0 to a.pc end → Lands (constants_in world fn.source) g (length theirs) beneath (writes_last e) single locals low keeps end to fs
        → StandsFor (in_code a acts regs top (in_tree (mine ++ theirs) (fn ∷ fns) s)) (Evals e fs) (in_tree (mine ++ theirs) (fn ∷ fns) s)
    at_operand : {a : Act} {acts : List Act} {fn : Activation} {fns : List Activation} {g : FlatFunction} {mine theirs regs : List Slot} {beneath fs : List SFrame} {locals : List Local} {low free c' pc' free' top : ℕ} {keeps : Keeps} {single : Bool} {e : CExp} {o : Operand} (s : Slots)
        → Within world codes regs a acts fn fns g mine theirs beneath locals low keeps → low ≤ free → IsOperand g locals single free e 0 o a.pc c' pc' free' → Waits (constants_in world fn.source) g (length theirs) beneath single locals low keeps pc' c' o fs
        → StandsFor (in_code a acts regs top (in_tree (mine ++ theirs) (fn ∷ fns) s)) (Evals e fs) (in_tree (mine ++ theirs) (fn ∷ fns) s)
    at_many : {a : Act} {acts : List Act} {fn : Activation} {fns : List Activation} {g : FlatFunction} {mine theirs regs : List Slot} {beneath fs : List SFrame} {locals : List Local} {low free to end top : ℕ} {keeps : Keeps} {wanted : Wanted} {e : CExp} (s : Slots)
        → Within world codes regs a acts fn fns g mine theirs beneath locals low keeps → low ≤ free → IsMany g locals free e 0 to wanted a.pc end → LandsMany (constants_in world fn.source) g (length theirs) beneath wanted locals low keeps end to fs
        → StandsFor (in_code a acts regs top (in_tree (mine ++ theirs) (fn ∷ fns) s)) (Evals e fs) (in_tree (mine ++ theirs) (fn ∷ fns) s)
    at_test : {a : Act} {acts : List Act} {fn : Activation} {fns : List Activation} {g : FlatFunction} {mine theirs regs : List Slot} {beneath fs : List SFrame} {locals : List Local} {low free hit ch miss cm top : ℕ} {keeps : Keeps} {e : CExp} (s : Slots)
        → Within world codes regs a acts fn fns g mine theirs beneath locals low keeps → low ≤ free → IsTest g locals free e 0 a.pc hit ch miss cm → Takes (constants_in world fn.source) g (length theirs) beneath locals low keeps hit ch miss cm fs
        → StandsFor (in_code a acts regs top (in_tree (mine ++ theirs) (fn ∷ fns) s)) (Evals e fs) (in_tree (mine ++ theirs) (fn ∷ fns) s)
    at_given : {a : Act} {acts : List Act} {fn : Activation} {fns : List Activation} {g : FlatFunction} {mine theirs regs : List Slot} {beneath fs : List SFrame} {locals : List Local} {low top : ℕ} {keeps : Keeps} {single : Bool} {o : Operand} {vs : List Value} (s : Slots)
        → Within world codes regs a acts fn fns g mine theirs beneath locals low keeps → IsGiven single vs (operand (constants_in world fn.source) regs a.base o) → Waits (constants_in world fn.source) g (length theirs) beneath single locals low keeps a.pc 0 o fs
        → StandsFor (in_code a acts regs top (in_tree (mine ++ theirs) (fn ∷ fns) s)) (Gives (Goes vs) fs) (in_tree (mine ++ theirs) (fn ∷ fns) s)
    at_row : {a : Act} {acts : List Act} {fn : Activation} {fns : List Activation} {g : FlatFunction} {mine theirs regs : List Slot} {beneath fs : List SFrame} {locals : List Local} {low r top : ℕ} {keeps : Keeps} {count : Wanted} {vs : List Value} (s : Slots)
        → Within world codes regs a acts fn fns g mine theirs beneath locals low keeps → IsRowed regs top (a.base + r) count vs → RowWaits (constants_in world fn.source) g (length theirs) beneath locals low keeps a.pc 0 r count fs
        → StandsFor (in_code a acts regs top (in_tree (mine ++ theirs) (fn ∷ fns) s)) (Gives (Goes vs) fs) (in_tree (mine ++ theirs) (fn ∷ fns) s)
    at_exact : {a : Act} {acts : List Act} {fn : Activation} {fns : List Activation} {g : FlatFunction} {mine theirs regs : List Slot} {beneath fs : List SFrame} {locals : List Local} {low r n top : ℕ} {keeps : Keeps} {vs : List Value} (s : Slots)
        → Within world codes regs a acts fn fns g mine theirs beneath locals low keeps → values_at regs (a.base + r) n ≡ adjusted n vs → StatExact (constants_in world fn.source) g (length theirs) beneath locals low keeps a.pc 0 r n fs
        → StandsFor (in_code a acts regs top (in_tree (mine ++ theirs) (fn ∷ fns) s)) (Gives (Goes vs) fs) (in_tree (mine ++ theirs) (fn ∷ fns) s)
    at_field : {a : Act} {acts : List Act} {fn : Activation} {fns : List Activation} {g : FlatFunction} {mine theirs regs : List Slot} {beneath fs : List SFrame} {locals : List Local} {low top : ℕ} {keeps : Keeps} {vs : List Value} (s : Slots)
        → Within world codes regs a acts fn fns g mine theirs beneath locals low keeps → FieldWaits (constants_in world fn.source) g (length theirs) beneath locals low keeps a.pc fs
        → StandsFor (in_code a acts regs top (in_tree (mine ++ theirs) (fn ∷ fns) s)) (Gives (Goes vs) fs) (in_tree (mine ++ theirs) (fn ∷ fns) s)
    -- between statements, and at the end of a block
    at_block : {a : Act} {acts : List Act} {fn : Activation} {fns : List Activation} {g : FlatFunction} {mine theirs regs : List Slot} {beneath fs : List SFrame} {locals inner : List Local} {low c' pc' free' top : ℕ} {keeps : Keeps} {away : Option ℕ} {b : CBlock} (s : Slots)
        → Within world codes regs a acts fn fns g mine theirs beneath locals low keeps → Tidy low locals keeps → Leaves (length locals + length theirs) fs → IsBlock g away locals low b 0 a.pc c' pc' inner free' → Finishes (constants_in world fn.source) g (length theirs) beneath away inner free' keeps pc' c' fs
        → StandsFor (in_code a acts regs top (in_tree (mine ++ theirs) (fn ∷ fns) s)) (Runs b fs) (in_tree (mine ++ theirs) (fn ∷ fns) s)
    at_end_of_statement : {a : Act} {acts : List Act} {fn : Activation} {fns : List Activation} {g : FlatFunction} {mine theirs regs : List Slot} {beneath fs : List SFrame} {locals : List Local} {low top : ℕ} {keeps : Keeps} {away : Option ℕ} {vs : List Value} (s : Slots)
        → Within world codes regs a acts fn fns g mine theirs beneath locals low keeps → Resumes (constants_in world fn.source) g (length theirs) beneath away locals low keeps a.pc 0 fs
        → StandsFor (in_code a acts regs top (in_tree (mine ++ theirs) (fn ∷ fns) s)) (Gives (Goes vs) fs) (in_tree (mine ++ theirs) (fn ∷ fns) s)
    at_end_of_block : {a : Act} {acts : List Act} {fn : Activation} {fns : List Activation} {g : FlatFunction} {mine theirs regs : List Slot} {beneath fs : List SFrame} {locals : List Local} {low top : ℕ} {keeps : Keeps} {away : Option ℕ} {vs : List Value} (s : Slots)
        → Within world codes regs a acts fn fns g mine theirs beneath locals low keeps → Finishes (constants_in world fn.source) g (length theirs) beneath away locals low keeps a.pc 0 fs
        → StandsFor (in_code a acts regs top (in_tree (mine ++ theirs) (fn ∷ fns) s)) (Gives (Goes vs) fs) (in_tree (mine ++ theirs) (fn ∷ fns) s)
    -- where a turn of a loop begins, which no operation has paid yet
    at_while : {a : Act} {acts : List Act} {fn : Activation} {fns : List Activation} {g : FlatFunction} {mine theirs regs : List Slot} {beneath fs : List SFrame} {locals : List Local} {low first_place end top : ℕ} {keeps : Keeps} {away : Option ℕ} {test : CExp} {body : CBlock} (s : Slots)
        → Within world codes regs a acts fn fns g mine theirs beneath locals low keeps → Tidy low locals keeps → IsWhile (constants_in world fn.source) g locals low test body first_place a.pc 0 end
        → Resumes (constants_in world fn.source) g (length theirs) beneath away locals low keeps end 0 fs → StandsFor (in_code a acts regs top (in_tree (mine ++ theirs) (fn ∷ fns) s)) (Starts (WhileTurnS test body) fs) (in_tree (mine ++ theirs) (fn ∷ fns) s)
    at_repeat : {a : Act} {acts : List Act} {fn : Activation} {fns : List Activation} {g : FlatFunction} {mine theirs regs : List Slot} {beneath fs : List SFrame} {locals : List Local} {low end top : ℕ} {keeps : Keeps} {away : Option ℕ} {test : CExp} {body : CBlock} (s : Slots)
        → Within world codes regs a acts fn fns g mine theirs beneath locals low keeps → Tidy low locals keeps → IsRepeat (constants_in world fn.source) g locals low body test a.pc end
        → Resumes (constants_in world fn.source) g (length theirs) beneath away locals low keeps end 0 fs → StandsFor (in_code a acts regs top (in_tree (mine ++ theirs) (fn ∷ fns) s)) (Starts (RepeatTurnS body test) fs) (in_tree (mine ++ theirs) (fn ∷ fns) s)
    at_count : {a : Act} {acts : List Act} {fn : Activation} {fns : List Activation} {g : FlatFunction} {mine theirs regs : List Slot} {beneath fs : List SFrame} {locals : List Local} {low base end top : ℕ} {keeps : Keeps} {away : Option ℕ} {boxed : Bool} {index limit step : ℤ} {body : CBlock} (s : Slots)
        → Within world codes regs a acts fn fns g mine theirs beneath locals (base + 4) ((RegisterO (base + 3), Number index) ∷ (RegisterO base, Number index) ∷ (RegisterO (base + 1), Number limit) ∷ (RegisterO (base + 2), Number step) ∷ keeps) → low ≤ base → Tidy low locals keeps
        → IsCount (constants_in world fn.source) g locals base boxed body a.pc end → Resumes (constants_in world fn.source) g (length theirs) beneath away locals low keeps end 0 fs → StandsFor (in_code a acts regs top (in_tree (mine ++ theirs) (fn ∷ fns) s)) (Starts (CountTurnS boxed index limit step body) fs) (in_tree (mine ++ theirs) (fn ∷ fns) s)
    at_each : {a : Act} {acts : List Act} {fn : Activation} {fns : List Activation} {g : FlatFunction} {mine theirs regs : List Slot} {beneath fs : List SFrame} {locals : List Local} {low base line first_place end top : ℕ} {keeps : Keeps} {away : Option ℕ} {flags : List Bool} {f state : Value} {results : List Value} {body : CBlock} (s : Slots)
        → Within world codes regs a acts fn fns g mine theirs beneath locals (base + 3) ((RegisterO base, f) ∷ (RegisterO (base + 1), state) ∷ (RegisterO (base + 2), first results) ∷ keeps) → values_at regs (a.base + base + 3) (length flags) ≡ adjusted (length flags) results → low ≤ base → Tidy low locals keeps
        → a.pc ≡ first_place + 2 → IsEach (constants_in world fn.source) g locals base flags body line first_place end → Resumes (constants_in world fn.source) g (length theirs) beneath away locals low keeps end 0 fs → StandsFor (in_code a acts regs top (in_tree (mine ++ theirs) (fn ∷ fns) s)) (Starts (EachTurnS flags f state results body line) fs) (in_tree (mine ++ theirs) (fn ∷ fns) s)
    -- away from code, above an operation that waits; where an outcome comes back to one; where a function was left, and before the first event and at the end
    is_away : {a : Act} {acts : List Act} {fn : Activation} {fns : List Activation} {g : FlatFunction} {mine theirs regs : List Slot} {beneath hs fs : List SFrame} {locals : List Local} {low top : ℕ} {keeps : Keeps} (point : Point) (s : Slots) → IsAwayPoint point
        → Within world codes regs a acts fn fns g mine theirs beneath locals low keeps → Awaits (constants_in world fn.source) g (length theirs) beneath locals low keeps a.pc hs fs
        → StandsFor (from_code (below point hs) (a ∷ acts) regs top (in_tree (mine ++ theirs) (fn ∷ fns) s)) (below point fs) (in_tree (mine ++ theirs) (fn ∷ fns) s)
    is_back : {a : Act} {acts : List Act} {fn : Activation} {fns : List Activation} {g : FlatFunction} {mine theirs regs : List Slot} {beneath fs : List SFrame} {locals : List Local} {low top : ℕ} {keeps : Keeps} (o : Outcome (List Value) Jump) (s : Slots)
        → Within world codes regs a acts fn fns g mine theirs beneath locals low keeps → Arrives (constants_in world fn.source) g (length theirs) beneath locals low keeps a.pc o fs
        → StandsFor (from_code (Gives o []) (a ∷ acts) regs top (in_tree (mine ++ theirs) (fn ∷ fns) s)) (Gives o fs) (in_tree (mine ++ theirs) (fn ∷ fns) s)
    is_alone : {regs : List Slot} {top : ℕ} (point : Point) (s : Slots) → IsAwayPoint point → StandsFor (from_code point [] regs top (in_tree [] [] s)) point (in_tree [] [] s)
    begins_run : {regs : List Slot} {top : ℕ} (work : Work) (s : Slots) → StandsFor (from_code (Works work) [] regs top (in_tree [] [] s)) (Works work) (in_tree [] [] s)
