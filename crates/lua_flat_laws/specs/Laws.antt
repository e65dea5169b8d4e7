-- LAWS of a flat machine.
use Rattle.std.specs.Prelude.{◌≡◌, ◌≤◌, ℕ, ◌+◌, ℤ, Bool, List, [], ◌∷◌, ◌++◌, length, Option}
use Rattle.lua_goes.specs.PageRunDeclaredWhichWhich.{Which}
use Rattle.lua_goes.specs.MwFrameDeclaredQuestionAsk.{Ask}
use Rattle.lua_goes.specs.PageRunOutcome.{Outcome, Goes, Jumps}
use Rattle.lua_flat.specs.PageRunState.{Reply}
use Rattle.lua_goes.specs.LuaHeapProc.{Proc}
use Rattle.lua_goes.specs.LuaHeapValue.{Value, Number}
use Rattle.lua_goes.specs.LuaMeaningValues.{first}
use Rattle.lua_goes.specs.LuaMeaningActs.{Jump, Raised}
use Rattle.lua_flat.specs.LuaMeaningQuestions.{Answer}
use Rattle.lua_flat.specs.LuaMeaningStart.{Work}
use Rattle.lua_goes.specs.LuaSlotsCode.{Constants, CExp, CBlock, CWorld}
use Rattle.lua_goes.specs.LuaSlotsSlots.{Slot, Activation, Slots}
use Rattle.lua_goes.specs.LuaSlotsPoints.{BodyS, SFrame, BodyEnd, ReturnNow, Point, WhileTurnS, RepeatTurnS, CountTurnS, EachTurnS, Gives, Evals, Runs, Starts, Asking, Works, Now}
use Rattle.lua_goes.specs.LuaSlotsMoves.{moves}
use Rattle.lua_goes.specs.LuaSlotsEnact.{Funds, Enacted, Stands, Short, enact, takes_reply}
use Rattle.lua_goes.specs.Going.{Reaches}
use Rattle.lua_flat.specs.Locals.{Local}
use Rattle.lua_flat.specs.Operations.{Operand, RegisterO, Wanted, Exactly, ReturnF, FlatFunction, Codes}
use Rattle.lua_flat.specs.Registers.{operand, values_at, adjusted}
use Rattle.lua_flat.specs.Flat.{Act, Away, Flat, FlatMove}
use Rattle.lua_flat.specs.Moves.{room_in, flat_moves, FlatEnacted, FStands, FShort, flat_enact, replied_in}
use Rattle.lua_flat.specs.IsExpression.{Has, IsOperand, IsValue, IsMany, IsTest}
use Rattle.lua_flat.specs.IsStatement.{writes_last, IsBlock, IsFlat}
use Rattle.lua_flat.specs.Keeps.{Keeps, Tidy}
use Rattle.lua_flat.specs.WaitsExpression.{Waits, Lands, LandsMany, RowWaits, Takes, FieldWaits}
use Rattle.lua_flat.specs.WaitsStatement.{Leaves, IsWhile, IsRepeat, IsCount, IsEach, Resumes, Finishes, finish_block, finish_repeat, StatExact, exact_declare, exact_assign}
use Rattle.lua_flat.specs.Stands.{constants_in, in_tree, in_code, from_code, IsGiven, IsRowed, AllAway, IsAwayOutcome, IsAwayPoint, below, Within, Awaits, Arrives, StandsFor}
use Rattle.lua_flat_laws.specs.Follows.{Follows}

-- WHAT FOLLOWS COMES THERE TOO: where a flat move leads, with what is left then, moves of the machine over trees lead, and there both stand
-- together; and where an allowance is spent, they come to a move that spends it.
pub record Reached (world : CWorld) (codes : Codes) (p : Point) (s : Slots) (f : Funds) (to : Flat) (g : Funds) : Type 0 where
  pub point : Point
  pub slots : Slots
  pub reaches : Reaches world p s f point slots g
  pub stands : StandsFor world codes to point slots

pub record Spent (world : CWorld) (p : Point) (s : Slots) (f : Funds) (which : Which) (g : Funds) : Type 0 where
  pub point : Point
  pub slots : Slots
  pub funds : Funds
  pub reaches : Reaches world p s f point slots funds
  pub short : enact (moves world point slots) funds ≡ Short which g

pub record Comes (world : CWorld) (codes : Codes) (m : FlatMove) (p : Point) (s : Slots) (f : Funds) : Type 0 where
  pub on : (to : Flat) (g : Funds) → flat_enact m f ≡ FStands to g → Reached world codes p s f to g
  pub short : (which : Which) (g : Funds) → flat_enact m f ≡ FShort which g → Spent world p s f which g

abbrev pub WhatFollowsComes : Type 0
WhatFollowsComes = (world : CWorld) (codes : Codes) (m : FlatMove) (p : Point) (s : Slots) (f : Funds) → Follows world codes m (Now p s) → Comes world codes m p s f

-- BOTH STAND TOGETHER AT AN EXPRESSION: one begins, for its first value or for several; an operand does; a value is given to a frame of one; a list
-- stands in its registers, and a field of a constructor was set
pub data InExpression (world : CWorld) (codes : Codes) : Flat → Point → Slots → Type 0 where
  begins_it : {a : Act} {acts : List Act} {fn : Activation} {fns : List Activation} {g : FlatFunction} {mine theirs regs : List Slot} {beneath fs : List SFrame} {locals : List Local} {low free to end top : ℕ} {keeps : Keeps} {single : Bool} {e : CExp} (s : Slots)
      → Within world codes regs a acts fn fns g mine theirs beneath locals low keeps → low ≤ free → IsValue g locals single free e 0 to a.pc end → Lands (constants_in world fn.source) g (length theirs) beneath (writes_last e) single locals low keeps end to fs
      → InExpression world codes (in_code a acts regs top (in_tree (mine ++ theirs) (fn ∷ fns) s)) (Evals e fs) (in_tree (mine ++ theirs) (fn ∷ fns) s)
  begins_several : {a : Act} {acts : List Act} {fn : Activation} {fns : List Activation} {g : FlatFunction} {mine theirs regs : List Slot} {beneath fs : List SFrame} {locals : List Local} {low free to end top : ℕ} {keeps : Keeps} {wanted : Wanted} {e : CExp} (s : Slots)
      → Within world codes regs a acts fn fns g mine theirs beneath locals low keeps → low ≤ free → IsMany g locals free e 0 to wanted a.pc end → LandsMany (constants_in world fn.source) g (length theirs) beneath wanted locals low keeps end to fs
      → InExpression world codes (in_code a acts regs top (in_tree (mine ++ theirs) (fn ∷ fns) s)) (Evals e fs) (in_tree (mine ++ theirs) (fn ∷ fns) s)
  begins_operand : {a : Act} {acts : List Act} {fn : Activation} {fns : List Activation} {g : FlatFunction} {mine theirs regs : List Slot} {beneath fs : List SFrame} {locals : List Local} {low free c' pc' free' top : ℕ} {keeps : Keeps} {single : Bool} {e : CExp} {o : Operand} (s : Slots)
      → Within world codes regs a acts fn fns g mine theirs beneath locals low keeps → low ≤ free → IsOperand g locals single free e 0 o a.pc c' pc' free' → Waits (constants_in world fn.source) g (length theirs) beneath single locals low keeps pc' c' o fs
      → InExpression world codes (in_code a acts regs top (in_tree (mine ++ theirs) (fn ∷ fns) s)) (Evals e fs) (in_tree (mine ++ theirs) (fn ∷ fns) s)
  is_given_it : {a : Act} {acts : List Act} {fn : Activation} {fns : List Activation} {g : FlatFunction} {mine theirs regs : List Slot} {beneath fs : List SFrame} {locals : List Local} {low top : ℕ} {keeps : Keeps} {single : Bool} {o : Operand} {vs : List Value} (s : Slots)
      → Within world codes regs a acts fn fns g mine theirs beneath locals low keeps → IsGiven single vs (operand (constants_in world fn.source) regs a.base o) → Waits (constants_in world fn.source) g (length theirs) beneath single locals low keeps a.pc 0 o fs
      → InExpression world codes (in_code a acts regs top (in_tree (mine ++ theirs) (fn ∷ fns) s)) (Gives (Goes vs) fs) (in_tree (mine ++ theirs) (fn ∷ fns) s)
  has_list : {a : Act} {acts : List Act} {fn : Activation} {fns : List Activation} {g : FlatFunction} {mine theirs regs : List Slot} {beneath fs : List SFrame} {locals : List Local} {low r top : ℕ} {keeps : Keeps} {count : Wanted} {vs : List Value} (s : Slots)
      → Within world codes regs a acts fn fns g mine theirs beneath locals low keeps → IsRowed regs top (a.base + r) count vs → RowWaits (constants_in world fn.source) g (length theirs) beneath locals low keeps a.pc 0 r count fs
      → InExpression world codes (in_code a acts regs top (in_tree (mine ++ theirs) (fn ∷ fns) s)) (Gives (Goes vs) fs) (in_tree (mine ++ theirs) (fn ∷ fns) s)
  has_field : {a : Act} {acts : List Act} {fn : Activation} {fns : List Activation} {g : FlatFunction} {mine theirs regs : List Slot} {beneath fs : List SFrame} {locals : List Local} {low top : ℕ} {keeps : Keeps} {vs : List Value} (s : Slots)
      → Within world codes regs a acts fn fns g mine theirs beneath locals low keeps → FieldWaits (constants_in world fn.source) g (length theirs) beneath locals low keeps a.pc fs
      → InExpression world codes (in_code a acts regs top (in_tree (mine ++ theirs) (fn ∷ fns) s)) (Gives (Goes vs) fs) (in_tree (mine ++ theirs) (fn ∷ fns) s)

-- THE LAW BY EXPRESSIONS: the next operation is moves of the machine over trees, to where both stand together again
abbrev pub ExpressionsAreMoves : Type 0
ExpressionsAreMoves = (world : CWorld) (codes : Codes) (room : ℕ) (f : Flat) (p : Point) (s : Slots) → InExpression world codes f p s → Follows world codes (flat_moves world codes room f) (Now p s)

-- AWAY FROM CODE, where the next move brings no outcome back to it and enters no function of Lua
abbrev pub IsOutside : Point → Type 0
IsOutside (Gives o []) = ⊥
IsOutside (Starts (BodyS p args line) gs) = ⊥
IsOutside point = Unit {0}

pub data Outside (world : CWorld) (codes : Codes) : Flat → Point → Slots → Type 0 where
  outside : {a : Act} {acts : List Act} {fn : Activation} {fns : List Activation} {g : FlatFunction} {mine theirs regs : List Slot} {beneath hs fs : List SFrame} {locals : List Local} {low top : ℕ} {keeps : Keeps} (point : Point) (s : Slots) → IsAwayPoint point → IsOutside point
      → Within world codes regs a acts fn fns g mine theirs beneath locals low keeps → Awaits (constants_in world fn.source) g (length theirs) beneath locals low keeps a.pc hs fs
      → Outside world codes (from_code (below point hs) (a ∷ acts) regs top (in_tree (mine ++ theirs) (fn ∷ fns) s)) (below point fs) (in_tree (mine ++ theirs) (fn ∷ fns) s)

-- THE LAW OF THE LIBRARY: handlers, functions of the library, what they call and ask, and errors that pass them
abbrev pub LibraryIsMoves : Type 0
LibraryIsMoves = (world : CWorld) (codes : Codes) (room : ℕ) (f : Flat) (p : Point) (s : Slots) → Outside world codes f p s → Follows world codes (flat_moves world codes room f) (Now p s)

-- A FUNCTION OF LUA BEGINS, with its registers behind all that is relied on
pub data Entering (world : CWorld) (codes : Codes) (room : ℕ) : Flat → Point → Slots → Type 0 where
  entering : {a : Act} {acts : List Act} {fn : Activation} {fns : List Activation} {g : FlatFunction} {mine theirs regs : List Slot} {beneath hs fs : List SFrame} {locals : List Local} {low top : ℕ} {keeps : Keeps} (gs : List SFrame) → AllAway gs → (p : Proc) (args : List Value) (line : Option ℕ) (s : Slots)
      → a.base + low ≤ room → Within world codes regs a acts fn fns g mine theirs beneath locals low keeps → Awaits (constants_in world fn.source) g (length theirs) beneath locals low keeps a.pc hs fs
      → Entering world codes room (from_code (Starts (BodyS p args line) (gs ++ hs)) (a ∷ acts) regs top (in_tree (mine ++ theirs) (fn ∷ fns) s)) (Starts (BodyS p args line) (gs ++ fs)) (in_tree (mine ++ theirs) (fn ∷ fns) s)

-- THE LAW OF CALLS: a function is entered by its flat code as by its resolved code
abbrev pub EnteringIsMoves : Type 0
EnteringIsMoves = (world : CWorld) (codes : Codes) (room : ℕ) → IsFlat world codes → (f : Flat) (p : Point) (s : Slots) → Entering world codes room f p s → Follows world codes (flat_moves world codes room f) (Now p s)

-- NO FUNCTION OF LUA IS IN PROGRESS: before the first event of a run, and where its own frames wait
pub data Alone (world : CWorld) (codes : Codes) : Flat → Point → Slots → Type 0 where
  stands_alone : {regs : List Slot} {top : ℕ} (point : Point) (s : Slots) → IsAwayPoint point → Alone world codes (from_code point [] regs top (in_tree [] [] s)) point (in_tree [] [] s)
  begins : {regs : List Slot} {top : ℕ} (work : Work) (s : Slots) → Alone world codes (from_code (Works work) [] regs top (in_tree [] [] s)) (Works work) (in_tree [] [] s)

-- THE LAW OF RUNS: how they begin, call their function, and end
abbrev pub RunsAreMoves : Type 0
RunsAreMoves = (world : CWorld) (codes : Codes) (room : ℕ) → IsFlat world codes → (f : Flat) (p : Point) (s : Slots) → Alone world codes f p s → Follows world codes (flat_moves world codes room f) (Now p s)

-- TESTS
pub data InTest (world : CWorld) (codes : Codes) : Flat → Point → Slots → Type 0 where
  in_test : {a : Act} {acts : List Act} {fn : Activation} {fns : List Activation} {g : FlatFunction} {mine theirs regs : List Slot} {beneath fs : List SFrame} {locals : List Local} {low free hit ch miss cm top : ℕ} {keeps : Keeps} {e : CExp} (s : Slots)
      → Within world codes regs a acts fn fns g mine theirs beneath locals low keeps → low ≤ free → IsTest g locals free e 0 a.pc hit ch miss cm
      → Takes (constants_in world fn.source) g (length theirs) beneath locals low keeps hit ch miss cm fs
      → InTest world codes (in_code a acts regs top (in_tree (mine ++ theirs) (fn ∷ fns) s)) (Evals e fs) (in_tree (mine ++ theirs) (fn ∷ fns) s)

-- THE LAW BY TESTS: of `if`, `while` and `repeat`, and within them of `and`, `or` and `not`
abbrev pub TestsAreMoves : Type 0
TestsAreMoves = (world : CWorld) (codes : Codes) (room : ℕ) (f : Flat) (p : Point) (s : Slots) → InTest world codes f p s → Follows world codes (flat_moves world codes room f) (Now p s)

-- OUTCOMES THAT COME BACK to an operation: values, and errors; and both through the frame that is the operation's own
pub data ComingBack (world : CWorld) (codes : Codes) : Flat → Point → Slots → Type 0 where
  values_back : {a : Act} {acts : List Act} {fn : Activation} {fns : List Activation} {g : FlatFunction} {mine theirs regs : List Slot} {beneath fs : List SFrame} {locals : List Local} {low top : ℕ} {keeps : Keeps} {vs : List Value} (s : Slots)
      → Within world codes regs a acts fn fns g mine theirs beneath locals low keeps → Awaits (constants_in world fn.source) g (length theirs) beneath locals low keeps a.pc [] fs
      → ComingBack world codes (from_code (Gives (Goes vs) []) (a ∷ acts) regs top (in_tree (mine ++ theirs) (fn ∷ fns) s)) (Gives (Goes vs) fs) (in_tree (mine ++ theirs) (fn ∷ fns) s)
  error_back : {a : Act} {acts : List Act} {fn : Activation} {fns : List Activation} {g : FlatFunction} {mine theirs regs : List Slot} {beneath fs : List SFrame} {locals : List Local} {low top : ℕ} {keeps : Keeps} (v : Value) (s : Slots)
      → Within world codes regs a acts fn fns g mine theirs beneath locals low keeps → Awaits (constants_in world fn.source) g (length theirs) beneath locals low keeps a.pc [] fs
      → ComingBack world codes (from_code (Gives (Jumps (Raised v)) []) (a ∷ acts) regs top (in_tree (mine ++ theirs) (fn ∷ fns) s)) (Gives (Jumps (Raised v)) fs) (in_tree (mine ++ theirs) (fn ∷ fns) s)
  through_frame : {a : Act} {acts : List Act} {fn : Activation} {fns : List Activation} {g : FlatFunction} {mine theirs regs : List Slot} {beneath fs : List SFrame} {locals : List Local} {low top : ℕ} {keeps : Keeps} {h : SFrame} (o : Outcome (List Value) Jump) → IsAwayOutcome o → (s : Slots)
      → Within world codes regs a acts fn fns g mine theirs beneath locals low keeps → Awaits (constants_in world fn.source) g (length theirs) beneath locals low keeps a.pc (h ∷ []) (h ∷ fs)
      → ComingBack world codes (from_code (Gives o (h ∷ [])) (a ∷ acts) regs top (in_tree (mine ++ theirs) (fn ∷ fns) s)) (Gives o (h ∷ fs)) (in_tree (mine ++ theirs) (fn ∷ fns) s)
  has_arrived : {a : Act} {acts : List Act} {fn : Activation} {fns : List Activation} {g : FlatFunction} {mine theirs regs : List Slot} {beneath fs : List SFrame} {locals : List Local} {low top : ℕ} {keeps : Keeps} (o : Outcome (List Value) Jump) (s : Slots)
      → Within world codes regs a acts fn fns g mine theirs beneath locals low keeps → Arrives (constants_in world fn.source) g (length theirs) beneath locals low keeps a.pc o fs
      → ComingBack world codes (from_code (Gives o []) (a ∷ acts) regs top (in_tree (mine ++ theirs) (fn ∷ fns) s)) (Gives o fs) (in_tree (mine ++ theirs) (fn ∷ fns) s)

-- THE LAW OF OUTCOMES: each goes on as code behind the operation does
abbrev pub OutcomesComeBack : Type 0
OutcomesComeBack = (world : CWorld) (codes : Codes) (room : ℕ) (f : Flat) (p : Point) (s : Slots) → ComingBack world codes f p s → Follows world codes (flat_moves world codes room f) (Now p s)

-- A LIST that a generic loop takes
abbrev pub IsEachList : {cs : Constants} {g : FlatFunction} {under : ℕ} {beneath : List SFrame} {locals : List Local} {low : ℕ} {keeps : Keeps} {pc c r n : ℕ} {fs : List SFrame} → StatExact cs g under beneath locals low keeps pc c r n fs → Type 0
IsEachList (exact_declare l l2 tidy left opening code f) = ⊥
IsEachList (exact_assign l l2 l3 tidy above found sets r) = ⊥
IsEachList k = Unit {0}

-- THE END OF A TURN of a loop, and of a function's body
abbrev pub IsTurnEnd : {cs : Constants} {g : FlatFunction} {under : ℕ} {beneath : List SFrame} {away : Option ℕ} {locals : List Local} {low : ℕ} {keeps : Keeps} {pc c : ℕ} {fs : List SFrame} → Finishes cs g under beneath away locals low keeps pc c fs → Type 0
IsTurnEnd (finish_block inner e l tidy r) = ⊥
IsTurnEnd (finish_repeat inner e l tidy loop test r) = ⊥
IsTurnEnd k = Unit {0}

pub data InTurn (world : CWorld) (codes : Codes) : Flat → Point → Slots → Type 0 where
  ends_turn : {a : Act} {acts : List Act} {fn : Activation} {fns : List Activation} {g : FlatFunction} {mine theirs regs : List Slot} {beneath fs : List SFrame} {locals : List Local} {low top : ℕ} {keeps : Keeps} {away : Option ℕ} {vs : List Value} (s : Slots)
      → Within world codes regs a acts fn fns g mine theirs beneath locals low keeps → (k : Finishes (constants_in world fn.source) g (length theirs) beneath away locals low keeps a.pc 0 fs) → IsTurnEnd k
      → InTurn world codes (in_code a acts regs top (in_tree (mine ++ theirs) (fn ∷ fns) s)) (Gives (Goes vs) fs) (in_tree (mine ++ theirs) (fn ∷ fns) s)
  has_results : {a : Act} {acts : List Act} {fn : Activation} {fns : List Activation} {g : FlatFunction} {mine theirs regs : List Slot} {beneath fs : List SFrame} {locals : List Local} {low r n top : ℕ} {keeps : Keeps} {vs : List Value} (s : Slots)
      → Within world codes regs a acts fn fns g mine theirs beneath locals low keeps → values_at regs (a.base + r) n ≡ adjusted n vs → (k : StatExact (constants_in world fn.source) g (length theirs) beneath locals low keeps a.pc 0 r n fs) → IsEachList k
      → InTurn world codes (in_code a acts regs top (in_tree (mine ++ theirs) (fn ∷ fns) s)) (Gives (Goes vs) fs) (in_tree (mine ++ theirs) (fn ∷ fns) s)

-- THE LAW OF TURNS: `while`, counting loops and generic ones go on, or end
abbrev pub TurnsAreMoves : Type 0
TurnsAreMoves = (world : CWorld) (codes : Codes) (room : ℕ) (f : Flat) (p : Point) (s : Slots) → InTurn world codes f p s → Follows world codes (flat_moves world codes room f) (Now p s)

-- STATEMENTS that follow one another: a block, the end of a statement and of a block, a list that stands in its registers for a statement, and a
-- turn of a loop that begins
pub data InBlock (world : CWorld) (codes : Codes) : Flat → Point → Slots → Type 0 where
  in_block : {a : Act} {acts : List Act} {fn : Activation} {fns : List Activation} {g : FlatFunction} {mine theirs regs : List Slot} {beneath fs : List SFrame} {locals inner : List Local} {low c' pc' free' top : ℕ} {keeps : Keeps} {away : Option ℕ} {b : CBlock} (s : Slots)
      → Within world codes regs a acts fn fns g mine theirs beneath locals low keeps → Tidy low locals keeps → Leaves (length locals + length theirs) fs → IsBlock g away locals low b 0 a.pc c' pc' inner free' → Finishes (constants_in world fn.source) g (length theirs) beneath away inner free' keeps pc' c' fs
      → InBlock world codes (in_code a acts regs top (in_tree (mine ++ theirs) (fn ∷ fns) s)) (Runs b fs) (in_tree (mine ++ theirs) (fn ∷ fns) s)
  behind_statement : {a : Act} {acts : List Act} {fn : Activation} {fns : List Activation} {g : FlatFunction} {mine theirs regs : List Slot} {beneath fs : List SFrame} {locals : List Local} {low top : ℕ} {keeps : Keeps} {away : Option ℕ} {vs : List Value} (s : Slots)
      → Within world codes regs a acts fn fns g mine theirs beneath locals low keeps → Resumes (constants_in world fn.source) g (length theirs) beneath away locals low keeps a.pc 0 fs
      → InBlock world codes (in_code a acts regs top (in_tree (mine ++ theirs) (fn ∷ fns) s)) (Gives (Goes vs) fs) (in_tree (mine ++ theirs) (fn ∷ fns) s)
  behind_block : {a : Act} {acts : List Act} {fn : Activation} {fns : List Activation} {g : FlatFunction} {mine theirs regs : List Slot} {beneath fs : List SFrame} {locals : List Local} {low top : ℕ} {keeps : Keeps} {away : Option ℕ} {vs : List Value} (s : Slots)
      → Within world codes regs a acts fn fns g mine theirs beneath locals low keeps → Finishes (constants_in world fn.source) g (length theirs) beneath away locals low keeps a.pc 0 fs
      → InBlock world codes (in_code a acts regs top (in_tree (mine ++ theirs) (fn ∷ fns) s)) (Gives (Goes vs) fs) (in_tree (mine ++ theirs) (fn ∷ fns) s)
  has_values : {a : Act} {acts : List Act} {fn : Activation} {fns : List Activation} {g : FlatFunction} {mine theirs regs : List Slot} {beneath fs : List SFrame} {locals : List Local} {low r n top : ℕ} {keeps : Keeps} {vs : List Value} (s : Slots)
      → Within world codes regs a acts fn fns g mine theirs beneath locals low keeps → values_at regs (a.base + r) n ≡ adjusted n vs → StatExact (constants_in world fn.source) g (length theirs) beneath locals low keeps a.pc 0 r n fs
      → InBlock world codes (in_code a acts regs top (in_tree (mine ++ theirs) (fn ∷ fns) s)) (Gives (Goes vs) fs) (in_tree (mine ++ theirs) (fn ∷ fns) s)
  begins_while : {a : Act} {acts : List Act} {fn : Activation} {fns : List Activation} {g : FlatFunction} {mine theirs regs : List Slot} {beneath fs : List SFrame} {locals : List Local} {low first_place end top : ℕ} {keeps : Keeps} {away : Option ℕ} {test : CExp} {body : CBlock} (s : Slots)
      → Within world codes regs a acts fn fns g mine theirs beneath locals low keeps → Tidy low locals keeps → IsWhile (constants_in world fn.source) g locals low test body first_place a.pc 0 end → Resumes (constants_in world fn.source) g (length theirs) beneath away locals low keeps end 0 fs
      → InBlock world codes (in_code a acts regs top (in_tree (mine ++ theirs) (fn ∷ fns) s)) (Starts (WhileTurnS test body) fs) (in_tree (mine ++ theirs) (fn ∷ fns) s)
  begins_repeat : {a : Act} {acts : List Act} {fn : Activation} {fns : List Activation} {g : FlatFunction} {mine theirs regs : List Slot} {beneath fs : List SFrame} {locals : List Local} {low end top : ℕ} {keeps : Keeps} {away : Option ℕ} {test : CExp} {body : CBlock} (s : Slots)
      → Within world codes regs a acts fn fns g mine theirs beneath locals low keeps → Tidy low locals keeps → IsRepeat (constants_in world fn.source) g locals low body test a.pc end → Resumes (constants_in world fn.source) g (length theirs) beneath away locals low keeps end 0 fs
      → InBlock world codes (in_code a acts regs top (in_tree (mine ++ theirs) (fn ∷ fns) s)) (Starts (RepeatTurnS body test) fs) (in_tree (mine ++ theirs) (fn ∷ fns) s)
  begins_count : {a : Act} {acts : List Act} {fn : Activation} {fns : List Activation} {g : FlatFunction} {mine theirs regs : List Slot} {beneath fs : List SFrame} {locals : List Local} {low base end top : ℕ} {keeps : Keeps} {away : Option ℕ} {boxed : Bool} {index limit step : ℤ} {body : CBlock} (s : Slots)
      → Within world codes regs a acts fn fns g mine theirs beneath locals (base + 4) ((RegisterO (base + 3), Number index) ∷ (RegisterO base, Number index) ∷ (RegisterO (base + 1), Number limit) ∷ (RegisterO (base + 2), Number step) ∷ keeps) → low ≤ base → Tidy low locals keeps
      → IsCount (constants_in world fn.source) g locals base boxed body a.pc end → Resumes (constants_in world fn.source) g (length theirs) beneath away locals low keeps end 0 fs
      → InBlock world codes (in_code a acts regs top (in_tree (mine ++ theirs) (fn ∷ fns) s)) (Starts (CountTurnS boxed index limit step body) fs) (in_tree (mine ++ theirs) (fn ∷ fns) s)
  begins_each : {a : Act} {acts : List Act} {fn : Activation} {fns : List Activation} {g : FlatFunction} {mine theirs regs : List Slot} {beneath fs : List SFrame} {locals : List Local} {low base line first_place end top : ℕ} {keeps : Keeps} {away : Option ℕ} {flags : List Bool} {f state : Value} {results : List Value} {body : CBlock} (s : Slots)
      → Within world codes regs a acts fn fns g mine theirs beneath locals (base + 3) ((RegisterO base, f) ∷ (RegisterO (base + 1), state) ∷ (RegisterO (base + 2), first results) ∷ keeps) → values_at regs (a.base + base + 3) (length flags) ≡ adjusted (length flags) results → low ≤ base → Tidy low locals keeps
      → a.pc ≡ first_place + 2 → IsEach (constants_in world fn.source) g locals base flags body line first_place end → Resumes (constants_in world fn.source) g (length theirs) beneath away locals low keeps end 0 fs
      → InBlock world codes (in_code a acts regs top (in_tree (mine ++ theirs) (fn ∷ fns) s)) (Starts (EachTurnS flags f state results body line) fs) (in_tree (mine ++ theirs) (fn ∷ fns) s)

-- THE LAW OF BLOCKS
abbrev pub BlocksAreMoves : Type 0
BlocksAreMoves = (world : CWorld) (codes : Codes) (room : ℕ) (f : Flat) (p : Point) (s : Slots) → InBlock world codes f p s → Follows world codes (flat_moves world codes room f) (Now p s)

-- A RETURN: of a list of values, and at a function's end
pub data Returning (world : CWorld) (codes : Codes) : Flat → Point → Slots → Type 0 where
  returns_row : {a : Act} {acts : List Act} {fn : Activation} {fns : List Activation} {g : FlatFunction} {mine theirs regs : List Slot} {beneath fs : List SFrame} {away : Option ℕ} {locals : List Local} {low r top : ℕ} {keeps : Keeps} {count : Wanted} {vs : List Value} (s : Slots)
      → Within world codes regs a acts fn fns g mine theirs beneath locals low keeps → IsRowed regs top (a.base + r) count vs → Has g a.pc 0 (ReturnF r count) → Resumes (constants_in world fn.source) g (length theirs) beneath away locals low keeps (a.pc + 1) 0 fs
      → Returning world codes (in_code a acts regs top (in_tree (mine ++ theirs) (fn ∷ fns) s)) (Gives (Goes vs) (ReturnNow ∷ fs)) (in_tree (mine ++ theirs) (fn ∷ fns) s)
  returns_nothing : {a : Act} {acts : List Act} {fn : Activation} {fns : List Activation} {g : FlatFunction} {mine theirs regs : List Slot} {beneath : List SFrame} {locals : List Local} {low top : ℕ} {keeps : Keeps} {vs : List Value} (s : Slots)
      → Within world codes regs a acts fn fns g mine theirs beneath locals low keeps → Has g a.pc 0 (ReturnF 0 (Exactly 0))
      → Returning world codes (in_code a acts regs top (in_tree (mine ++ theirs) (fn ∷ fns) s)) (Gives (Goes vs) (BodyEnd ∷ beneath)) (in_tree (mine ++ theirs) (fn ∷ fns) s)

abbrev pub ReturnsAreMoves : Type 0
ReturnsAreMoves = (world : CWorld) (codes : Codes) (room : ℕ) (f : Flat) (p : Point) (s : Slots) → Returning world codes f p s → Follows world codes (flat_moves world codes room f) (Now p s)

-- THE LAW OF OPERATIONS: wherever both stand together, the next operation, or the next move away from code, is moves of the machine over trees at
-- the same steps, up to where both stand together again. The registers of a function that is called begin behind those that are relied on.
abbrev pub OperationsAreMoves : Type 0
OperationsAreMoves = (world : CWorld) (codes : Codes) (room : ℕ) → IsFlat world codes → (f : Flat) (p : Point) (s : Slots) → StandsFor world codes f p s → room_in codes f.acts f ≤ room → Follows world codes (flat_moves world codes room f) (Now p s)

-- and with what is left of the allowances
abbrev pub OperationsCome : Type 0
OperationsCome = (world : CWorld) (codes : Codes) (room : ℕ) → IsFlat world codes → (f : Flat) (p : Point) (s : Slots) (left : Funds) → StandsFor world codes f p s → room_in codes f.acts f ≤ room → Comes world codes (flat_moves world codes room f) p s left

-- A REPLY: with it both stand together, with the same left of the allowances; or the same allowance is spent
abbrev pub AreReplied : CWorld → Codes → FlatEnacted → Enacted → Type 0
AreReplied world codes (FStands to g) (Stands p s h) = StandsFor world codes to p s × (g ≡ h)
AreReplied world codes (FShort which g) (Short which' h) = (which ≡ which') × (g ≡ h)
AreReplied world codes x y = ⊥

-- the same question is asked
pub record AsksToo (world : CWorld) (codes : Codes) (f : Flat) (q : Ask) (fs : List SFrame) (s : Slots) : Type 0 where
  pub frames : List SFrame
  pub asks : f.point ≡ Away (Asking q frames)
  pub replied : (r : Reply Answer) (left : Funds) → AreReplied world codes (replied_in f (takes_reply r frames f.slots left)) (takes_reply r fs s left)

-- THE LAW OF QUESTIONS: a flat machine that stands for one that asks does so too, and behind the reply both stand together again
abbrev pub QuestionsAreAsked : Type 0
QuestionsAreAsked = (world : CWorld) (codes : Codes) (f : Flat) (q : Ask) (fs : List SFrame) (s : Slots) → StandsFor world codes f (Asking q fs) s → AsksToo world codes f q fs s

-- THE LAW OF ENDS: where no function of Lua is in progress both stand at the same point, so also at their ends
abbrev pub EndsAreEnds : Type 0
EndsAreEnds = (world : CWorld) (codes : Codes) (f : Flat) (p : Point) (s : Slots) → StandsFor world codes f p s → f.acts ≡ [] → f.point ≡ Away p
