-- AN OPERATION THAT LANDS is a move of the flat machine.
use Rattle.std.proofs.Common.{◌≡◌, ◌∙◌, ◌≤◌, ◌<◌, ◌-◌, ℕ, List, Option, Some, take, drop, reverse, ap, slice_get}
use Rattle.page_run.specs.State.{Tally}
use Rattle.page_run.specs.declared.which.Which.TheVariants.{Steps}
use Rattle.page_run.proofs.Less.{less_of, less_over}
use Rattle.lua_store.specs.LuaHeapHeap.{Heap}
use Rattle.lua_store.specs.LuaHeapProc.{Proc}
use Rattle.lua_flat.specs.LuaSlotsCode.{CWorld, Constants}
use Rattle.lua_stack.specs.LuaSlotsSlots.{with_heap}
use Rattle.lua_stack.specs.LuaSlotsPoints.{Move}
use Rattle.lua_code.specs.LuaSlotsCalls as calls
use Rattle.lua_code.specs.LuaSlotsEnact.{Funds, all_given_back}
use Rattle.lua_flat.specs.Operations.{Codes, FlatFunction, Op as PlainOp, Step as PlainStep}
use Rattle.lua_flat.specs.Flat.{Act as PlainAct, FlatMove, FNodes}
use Rattle.lua_flat.specs.Does.{Landing, move_of, becomes}
use Rattle.lua_flat.specs.Moves.{or_nothing, code_of, op_or_pay, op_at, landed, settled, does, step_of, flat_moves, FStands, FShort, after_nodes, nodes_paid, flat_enact}
use Rattle.lua_flat_code.specs.declared.op.Step.{Step}
use Rattle.lua_flat_code.specs.Seen.{op_seen, step_seen}
use Rattle.lua_flat_loop.specs.declared.ready.Code.{Code}
use Rattle.lua_flat_loop.specs.Code.{tables_of, IsCodeOf, Knows, AreReady}
use Rattle.lua_flat_loop.specs.Standing.{Stand, Beside, acts_seen, title_of, flat_of, funds_of}
use Rattle.lua_flat_loop.specs.Lands.{Lands}
use Rattle.lua_flat_loop.proofs.CodeSeen.{plain_of, code_seen, constants_known, step_seen_at}

-- WHERE THE LOOP IS AT AN OPERATION: this is the code of the newest function, and this step is at its place
pub record Sits (x : Stand) (c : Code) (st : Step) : Type 0 where
  pub code : IsCodeOf x.modules x.at.act.source x.at.act.index c
  pub step : slice_get c.steps.now x.at.act.pc ≡ Some st
  pub within : x.at.rest ≤ x.at.total

module _ (w : CWorld) (codes : Codes) (b : Beside) (told : Tally) (x : Stand) (c : Code) (st : Step) (sits : Sits x c st) (ready : AreReady w codes x.store x.modules) where
  abbrev pub newest : PlainAct
  newest = record { index = x.at.act.index; pc = x.at.act.pc; base = x.at.act.base; frames = take x.at.act.frames b.frames }

  abbrev pub waiting : List PlainAct
  waiting = acts_seen (drop x.at.act.frames b.frames) (reverse (take x.at.depth x.acts))

  abbrev pub plain : FlatFunction
  plain = plain_of sits.code.home.functions.now c.function.now

  abbrev pub constants : Constants
  constants = (calls.code_of (w.modules (title_of x.store.texts (slice_get x.modules x.at.act.source)))).constant

  abbrev pub plain_op : PlainOp
  plain_op = op_seen (tables_of sits.code.home.functions.now c.function.now) st.op

  its_code : code_of codes (flat_of b x).slots newest ≡ plain
  its_code = ap or_nothing (code_seen w codes x.store x.modules ready x.at.act.source x.at.act.index c sits.code)

  its_step : slice_get plain.steps x.at.act.pc ≡ Some (step_seen (tables_of sits.code.home.functions.now c.function.now) st)
  its_step = step_seen_at x.modules x.at.act.source x.at.act.index x.at.act.pc c sits.code st sits.step

  pub its_op : op_at (code_of codes (flat_of b x).slots newest) x.at.act.pc ≡ plain_op
  its_op = ap (λ (g : FlatFunction). op_at g x.at.act.pc) its_code ∙ ap op_or_pay its_step

  pub constants_are : Knows x.store.texts constants (tables_of sits.code.home.functions.now c.function.now) c.constants.now
  constants_are = constants_known w codes x.store x.modules ready x.at.act.source x.at.act.index c sits.code

  -- the move at its place
  its_move : (room : ℕ) → flat_moves w codes room (flat_of b x)
      ≡ FNodes st.charge (does codes constants (slice_get plain.lines x.at.act.pc) plain_op newest waiting (flat_of b x))
  its_move room =
      ap (λ (g : FlatFunction). step_of w codes room g (slice_get g.steps x.at.act.pc) newest waiting (flat_of b x)) its_code
      ∙ ap (λ (o : Option PlainStep). step_of w codes room plain o newest waiting (flat_of b x)) its_step

  -- its charge is taken
  its_charge : (m : FlatMove) → st.charge ≤ x.at.rest → flat_enact (FNodes st.charge m) (funds_of told x) ≡ flat_enact m (after_nodes st.charge (x.at.rest - st.charge) (funds_of told x))
  its_charge m covered = ap (λ (o : Option ℕ). nodes_paid st.charge o (funds_of told x) (flat_enact m)) (less_of st.charge x.at.rest covered)

  -- or is not there
  no_charge : (m : FlatMove) → x.at.rest < st.charge → flat_enact (FNodes st.charge m) (funds_of told x) ≡ FShort Steps (all_given_back (after_nodes x.at.rest 0 (funds_of told x)))
  no_charge m short = ap (λ (o : Option ℕ). nodes_paid st.charge o (funds_of told x) (flat_enact m)) (less_over st.charge x.at.rest short)

  -- AN OPERATION THAT DOES THIS, at its charge
  abbrev pub paid : Funds
  paid = after_nodes st.charge (x.at.rest - st.charge) (funds_of told x)

  abbrev pub done : FlatMove
  done = does codes constants (slice_get plain.lines x.at.act.pc) plain_op newest waiting (flat_of b x)

  pub acts_there : (room : ℕ) (m : FlatMove) → st.charge ≤ x.at.rest → done ≡ m → flat_enact (flat_moves w codes room (flat_of b x)) (funds_of told x) ≡ flat_enact m paid
  acts_there room m covered e =
      ap (λ (n : FlatMove). flat_enact n (funds_of told x)) (its_move room) ∙ its_charge done covered ∙ ap (λ (n : FlatMove). flat_enact n paid) e

  pub falls_short : (room : ℕ) → x.at.rest < st.charge → flat_enact (flat_moves w codes room (flat_of b x)) (funds_of told x) ≡ FShort Steps (all_given_back (after_nodes x.at.rest 0 (funds_of told x)))
  falls_short room short =
      ap (λ (m : FlatMove). flat_enact m (funds_of told x)) (its_move room)
      ∙ no_charge done short

  -- AN OPERATION THAT LANDS, at its charge, with this heap
  module _ (h : Heap Proc) (l : Landing) (covered : st.charge ≤ x.at.rest) (lands : Lands constants plain_op x.at.act.base x.at.act.pc (flat_of b x).regs x.at.top (flat_of b x).slots (with_heap h (flat_of b x).slots) l) where
    comes_back_to : op_at (code_of codes (with_heap h (flat_of b x).slots) newest) x.at.act.pc ≡ plain_op
    comes_back_to = its_op

    pub lands_there : (room : ℕ) → flat_enact (flat_moves w codes room (flat_of b x)) (funds_of told x) ≡ FStands (landed l newest waiting (with_heap h (flat_of b x).slots)) paid
    lands_there room =
        acts_there room (settled codes (move_of constants (slice_get plain.lines x.at.act.pc) x.at.act.base (flat_of b x).regs x.at.top (flat_of b x).slots plain_op) (flat_of b x)) covered
        (lands.by_move codes constants (slice_get plain.lines x.at.act.pc) newest waiting (flat_of b x))
        ∙ ap (λ (mv : Move). flat_enact (settled codes mv (flat_of b x)) paid) (lands.moves (slice_get plain.lines x.at.act.pc))
        ∙ ap (λ (o : PlainOp). FStands (landed (becomes o x.at.act.base x.at.act.pc lands.values (flat_of b x).regs x.at.top) newest waiting (with_heap h (flat_of b x).slots)) paid) comes_back_to
        ∙ ap (λ (k : Landing). FStands (landed k newest waiting (with_heap h (flat_of b x).slots)) paid) lands.becomes
