-- THE LAW OF OPERATIONS, from wherever both stand together.
use Rattle.std.proofs.Common.{ℕ, ◌+◌, ◌≤◌, List, [], ◌∷◌, ◌++◌, Option, arith, subst}
use Rattle.std.specs.Prelude.{length}
use Rattle.lua_goes.specs.PageRunOutcome.{Outcome, Goes, Jumps}
use Rattle.lua_goes.specs.LuaHeapValue.{Value}
use Rattle.lua_goes.specs.LuaMeaningActs.{Jump, Raised, Returned, Broke}
use Rattle.lua_goes.specs.LuaSlotsCode.{CWorld}
use Rattle.lua_goes.specs.LuaSlotsSlots.{Slot, Activation, Slots}
use Rattle.lua_goes.specs.LuaSlotsPoints.{WhileTurnS, RepeatTurnS, CountTurnS, EachTurnS, BodyS, LibraryS, IndexLinkS, SetLinkS, CallLinkS, SFrame, Point, Gives, Evals, Lists, Finds, Sets, Runs, Starts, Texts, Asking, Works, Now}
use Rattle.lua_flat.specs.Locals.{Local}
use Rattle.lua_flat.specs.Operations.{Op, Step, FlatFunction, Codes}
use Rattle.lua_flat.specs.Flat.{Act}
use Rattle.lua_flat.specs.Moves.{or_nothing, op_or_pay, op_at, room_behind, room_in, flat_moves}
use Rattle.lua_flat.specs.IsExpression.{Has}
use Rattle.lua_flat.specs.IsStatement.{IsFlat}
use Rattle.lua_flat.specs.Keeps.{Keeps}
use Rattle.lua_flat.specs.Stands.{in_tree, from_code, constants_in, IsAwayOutcome, IsAwayPoint, below, Within, Awaits, await_index, await_global, await_operate, await_unary, await_compare, await_call, await_method, await_set, await_set_global, await_field, await_items, await_each}
use Rattle.lua_flat.specs.Stands.{at_value, at_operand, at_many, at_test, at_given, at_row, at_exact, at_field, at_block, at_end_of_statement, at_end_of_block, at_while, at_repeat, at_count, at_each, is_away, is_back, is_alone, begins_run}
use Rattle.lua_flat_laws.specs.Follows.{Follows, follow_free}
use Rattle.lua_flat_laws.specs.Laws.{begins_it, begins_several, begins_operand, is_given_it, has_list, has_field, outside, entering, stands_alone, begins, in_test, values_back, error_back, has_arrived, in_block, behind_statement, behind_block, has_values, begins_while, begins_repeat, begins_count, begins_each, OperationsAreMoves, OperationsCome}
use Rattle.lua_flat_laws.proofs.Kept.{code_there, room_there}
use Rattle.lua_flat_laws.proofs.Comes.{what_follows_comes}
use Rattle.lua_flat_laws.proofs.Away.{library_is_moves}
use Rattle.lua_flat_laws.proofs.Arrives.{passes_frame, outcomes_come_back}
use Rattle.lua_flat_laws.proofs.Enters.{entering_is_moves}
use Rattle.lua_flat_laws.proofs.Alone.{runs_are_moves}
use Rattle.lua_flat_laws.proofs.Blocks.{blocks_are_moves, tests_are_moves}
use Rattle.lua_flat_laws.proofs.Given.{expressions_are_moves}

module _ (world : CWorld) (codes : Codes) (room : ℕ) (regs : List Slot) (index pc base : ℕ) (frames : List SFrame) (acts : List Act) (fn : Activation) (fns : List Activation) (g : FlatFunction) (mine theirs : List Slot) (beneath : List SFrame) (top : ℕ) where
  abbrev act : Act
  act = record { index = index; pc = pc; base = base; frames = frames }

  abbrev tree : Slots → Slots
  tree s = in_tree (mine ++ theirs) (fn ∷ fns) s

  abbrev Here : List Local → ℕ → Keeps → Type 0
  Here locals low keeps = Within world codes regs act acts fn fns g mine theirs beneath locals low keeps

  abbrev Waiting : List Local → ℕ → Keeps → List SFrame → List SFrame → Type 0
  Waiting locals low keeps hs fs = Awaits (constants_in world fn.source) g (length theirs) beneath locals low keeps pc hs fs

  -- THE REGISTERS of a function that is called begin behind all that is relied on
  by_op : {c : ℕ} {op : Op} → Has g pc c op → room_behind g (op_at g pc) base ≤ room → room_behind g op base ≤ room
  by_op has l = subst (λ (o : Option Step). room_behind g (op_or_pay o) base ≤ room) has l

  behind_op : {locals : List Local} {low : ℕ} {keeps : Keeps} {hs fs : List SFrame} → Waiting locals low keeps hs fs → low ≤ g.registers → room_behind g (op_at g pc) base ≤ room → base + low ≤ room
  behind_op (await_index has lands) r l = let m : base + g.registers ≤ room = by_op has l in omega (arith, r, m)
  behind_op (await_global has lands) r l = let m : base + g.registers ≤ room = by_op has l in omega (arith, r, m)
  behind_op (await_operate i has lands) r l = let m : base + g.registers ≤ room = by_op has l in omega (arith, r, m)
  behind_op (await_unary i has lands) r l = let m : base + g.registers ≤ room = by_op has l in omega (arith, r, m)
  behind_op (await_compare i has fork k) r l = let m : base + g.registers ≤ room = by_op has l in omega (arith, r, m)
  behind_op (await_call {q} n has k) r l = let m : base + q + 1 ≤ room = by_op has l in omega (arith, n, m)
  behind_op (await_method has l1 l2 l3 b row h k) r l = let m : base + g.registers ≤ room = by_op has l in omega (arith, r, m)
  behind_op (await_set has k) r l = let m : base + g.registers ≤ room = by_op has l in omega (arith, r, m)
  behind_op (await_set_global has k) r l = let m : base + g.registers ≤ room = by_op has l in omega (arith, r, m)
  behind_op (await_field has k) r l = let m : base + g.registers ≤ room = by_op has l in omega (arith, r, m)
  behind_op (await_items l0 l1 b has k) r l = let m : base + g.registers ≤ room = by_op has l in omega (arith, r, m)
  behind_op (await_each n has k) r l = let m : base + g.registers ≤ room = by_op has l in omega (arith, r, m)

  behind : {locals : List Local} {low : ℕ} {keeps : Keeps} {hs fs : List SFrame} (point : Point) (s : Slots) → Here locals low keeps → Waiting locals low keeps hs fs → room_in codes (act ∷ acts) (from_code point (act ∷ acts) regs top (tree s)) ≤ room → base + low ≤ room
  behind point s w aw l = behind_op aw (room_there world codes w) (subst (λ (o : Option FlatFunction). room_behind (or_nothing o) (op_at (or_nothing o) pc) base ≤ room) (code_there world codes w) l)

  -- AN OUTCOME, above the frame of the operation that waits, if it has one
  outcome_goes : {locals : List Local} {low : ℕ} {keeps : Keeps} (hs fs : List SFrame) (o : Outcome (List Value) Jump) → IsAwayOutcome o → Waiting locals low keeps hs fs → Here locals low keeps → (s : Slots)
      → Follows world codes (flat_moves world codes room (from_code (Gives o hs) (act ∷ acts) regs top (tree s))) (Now (Gives o fs) (tree s))
  outcome_goes [] fs (Goes vs) i aw w s = outcomes_come_back world codes room _ _ _ (values_back {top = top} {vs = vs} s w aw)
  outcome_goes [] fs (Jumps (Raised v)) i aw w s = outcomes_come_back world codes room _ _ _ (error_back {top = top} v s w aw)
  outcome_goes [] fs (Jumps (Returned vs)) i aw w s = absurd i
  outcome_goes [] fs (Jumps Broke) i aw w s = absurd i
  outcome_goes (h ∷ []) (k ∷ fs) o i aw w s = follow_free _ _ (passes_frame world codes room index pc base frames acts fn fns g mine theirs beneath regs top aw w o i s)
  outcome_goes (h ∷ []) [] o i aw w s = elim aw [ ]
  outcome_goes (h ∷ k ∷ hs) fs o i aw w s = elim aw [ ]

  -- AWAY FROM CODE
  pub goes_away : IsFlat world codes → {locals : List Local} {low : ℕ} {keeps : Keeps} {hs fs : List SFrame} (point : Point) (s : Slots) → IsAwayPoint point → Here locals low keeps → Waiting locals low keeps hs fs → room_in codes (act ∷ acts) (from_code (below point hs) (act ∷ acts) regs top (tree s)) ≤ room
      → Follows world codes (flat_moves world codes room (from_code (below point hs) (act ∷ acts) regs top (tree s))) (Now (below point fs) (tree s))
  goes_away is {hs} {fs} (Gives o []) s i w aw l = outcome_goes hs fs o i.0 aw w s
  goes_away is {hs} (Starts (BodyS p args line) gs) s i w aw l = entering_is_moves world codes room is _ _ _ (entering {top = top} gs i.1 p args line s (behind (below (Starts (BodyS p args line) gs) hs) s w aw l) w aw)
  goes_away is (Gives o (f ∷ gs)) s i w aw l = library_is_moves world codes room _ _ _ (outside {top = top} (Gives o (f ∷ gs)) s i tt w aw)
  goes_away is (Starts (LibraryS which args line) gs) s i w aw l = library_is_moves world codes room _ _ _ (outside {top = top} (Starts (LibraryS which args line) gs) s i tt w aw)
  goes_away is (Starts (IndexLinkS object h key line) gs) s i w aw l = library_is_moves world codes room _ _ _ (outside {top = top} (Starts (IndexLinkS object h key line) gs) s i tt w aw)
  goes_away is (Starts (SetLinkS object h key value line) gs) s i w aw l = library_is_moves world codes room _ _ _ (outside {top = top} (Starts (SetLinkS object h key value line) gs) s i tt w aw)
  goes_away is (Starts (CallLinkS h args line) gs) s i w aw l = library_is_moves world codes room _ _ _ (outside {top = top} (Starts (CallLinkS h args line) gs) s i tt w aw)
  goes_away is (Texts vs before gs) s i w aw l = library_is_moves world codes room _ _ _ (outside {top = top} (Texts vs before gs) s i tt w aw)
  goes_away is (Asking q gs) s i w aw l = library_is_moves world codes room _ _ _ (outside {top = top} (Asking q gs) s i tt w aw)
  goes_away is (Starts (WhileTurnS test body) gs) s i w aw l = absurd i.0
  goes_away is (Starts (RepeatTurnS body test) gs) s i w aw l = absurd i.0
  goes_away is (Starts (CountTurnS boxed number limit step body) gs) s i w aw l = absurd i.0
  goes_away is (Starts (EachTurnS flags f state results body line) gs) s i w aw l = absurd i.0
  goes_away is (Evals e gs) s i w aw l = absurd i
  goes_away is (Lists es before gs) s i w aw l = absurd i
  goes_away is (Finds targets before values gs) s i w aw l = absurd i
  goes_away is (Sets pairs gs) s i w aw l = absurd i
  goes_away is (Runs b gs) s i w aw l = absurd i
  goes_away is (Works work) s i w aw l = absurd i

pub operations_are_moves : OperationsAreMoves
operations_are_moves world codes room is f p s (at_value {top} t w n v lands) l = expressions_are_moves world codes room _ _ _ (begins_it {top = top} t w n v lands)
operations_are_moves world codes room is f p s (at_operand {top} t w n ob waits) l = expressions_are_moves world codes room _ _ _ (begins_operand {top = top} t w n ob waits)
operations_are_moves world codes room is f p s (at_many {top} t w n m k) l = expressions_are_moves world codes room _ _ _ (begins_several {top = top} t w n m k)
operations_are_moves world codes room is f p s (at_test {top} t w n test k) l = tests_are_moves world codes room _ _ _ (in_test {top = top} t w n test k)
operations_are_moves world codes room is f p s (at_given {top} {vs} t w e waits) l = expressions_are_moves world codes room _ _ _ (is_given_it {top = top} {vs = vs} t w e waits)
operations_are_moves world codes room is f p s (at_row {top} {vs} t w e k) l = expressions_are_moves world codes room _ _ _ (has_list {top = top} {vs = vs} t w e k)
operations_are_moves world codes room is f p s (at_exact {top} {vs} t w e k) l = blocks_are_moves world codes room _ _ _ (has_values {top = top} {vs = vs} t w e k)
operations_are_moves world codes room is f p s (at_field {top} {vs} t w k) l = expressions_are_moves world codes room _ _ _ (has_field {top = top} {vs = vs} t w k)
operations_are_moves world codes room is f p s (at_block {top} t w tidy left code k) l = blocks_are_moves world codes room _ _ _ (in_block {top = top} t w tidy left code k)
operations_are_moves world codes room is f p s (at_end_of_statement {top} {vs} t w r) l = blocks_are_moves world codes room _ _ _ (behind_statement {top = top} {vs = vs} t w r)
operations_are_moves world codes room is f p s (at_end_of_block {top} {vs} t w k) l = blocks_are_moves world codes room _ _ _ (behind_block {top = top} {vs = vs} t w k)
operations_are_moves world codes room is f p s (at_while {top} t w tidy loop r) l = blocks_are_moves world codes room _ _ _ (begins_while {top = top} t w tidy loop r)
operations_are_moves world codes room is f p s (at_repeat {top} t w tidy loop r) l = blocks_are_moves world codes room _ _ _ (begins_repeat {top = top} t w tidy loop r)
operations_are_moves world codes room is f p s (at_count {top} t w n tidy count r) l = blocks_are_moves world codes room _ _ _ (begins_count {top = top} t w n tidy count r)
operations_are_moves world codes room is f p s (at_each {top} t w e n tidy place each r) l = blocks_are_moves world codes room _ _ _ (begins_each {top = top} t w e n tidy place each r)
operations_are_moves world codes room is f p s (is_away {a} {acts} {fn} {fns} {g} {mine} {theirs} {regs} {beneath} {top} point t i w aw) l = goes_away world codes room regs a.index a.pc a.base a.frames acts fn fns g mine theirs beneath top is point t i w aw l
operations_are_moves world codes room is f p s (is_back {top} o t w arrives) l = outcomes_come_back world codes room _ _ _ (has_arrived {top = top} o t w arrives)
operations_are_moves world codes room is f p s (is_alone {regs} {top} point t i) l = runs_are_moves world codes room is _ _ _ (stands_alone {regs = regs} {top = top} point t i)
operations_are_moves world codes room is f p s (begins_run {regs} {top} work t) l = runs_are_moves world codes room is _ _ _ (begins {regs = regs} {top = top} work t)

pub operations_come : OperationsCome
operations_come world codes room is f p s left stands l = what_follows_comes world codes (flat_moves world codes room f) p s left (operations_are_moves world codes room is f p s stands l)
