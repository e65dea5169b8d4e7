-- AN OUTCOME passes the frame that is an operation's own, and arrives.
use Rattle.std.proofs.Common.{ℕ, ◌+◌, ◌≤◌, ◌<◌, Bool, List, [], ◌∷◌, ◌++◌, Some, refl, arith}
use Rattle.std.specs.Prelude.{pos, length}
use Rattle.lua_goes.specs.PageRunOutcome.{Outcome, Goes, Jumps}
use Rattle.lua_goes.specs.LuaHeapValue.{Value, Number, Table}
use Rattle.lua_goes.specs.LuaMeaningValues.{first}
use Rattle.lua_goes.specs.LuaMeaningActs.{Jump, Raised, Returned, Broke}
use Rattle.lua_goes.specs.LuaSlotsCode.{Constants, CWorld}
use Rattle.lua_goes.specs.LuaSlotsSlots.{Slot, Activation, Slots}
use Rattle.lua_goes.specs.LuaSlotsPoints.{SFrame, First, Verdict, ItemsNext, Gives, Now}
use Rattle.lua_goes.specs.LuaSlotsExpressions.{items}
use Rattle.lua_goes.specs.LuaSlotsMoves.{goes, passes, moves}
use Rattle.lua_flat.specs.Locals.{Local}
use Rattle.lua_flat.specs.Operations.{RegisterO, SetItemsF, OperateF, UnaryF, CompareF, FlatFunction, Codes}
use Rattle.lua_flat.specs.Registers.{operand}
use Rattle.lua_flat.specs.Flat.{Act, Flat}
use Rattle.lua_flat.specs.Moves.{stays_away, flat_moves}
use Rattle.lua_flat.specs.IsExpression.{Has}
use Rattle.lua_flat.specs.Keeps.{Keeps, Bounded}
use Rattle.lua_flat.specs.WaitsExpression.{Waits}
use Rattle.lua_flat.specs.Stands.{erased, in_tree, from_code, constants_in, IsAwayOutcome, IsOneFrame, Within, Awaits, await_operate, await_unary, await_compare, await_items, Arrives, arrive_operate, arrive_unary, arrive_compare, arrive_items, arrive_error, StandsFor, at_given, is_back}
use Rattle.lua_flat_laws.specs.Follows.{Follows, follow_free, follow_stands}
use Rattle.lua_flat_laws.specs.Laws.{values_back, error_back, through_frame, has_arrived, OutcomesComeBack}
use Rattle.lua_flat_laws.proofs.Kept.{moved, with_keeps, kept_there, room_there}
use Rattle.lua_flat_laws.proofs.Meets.{given_one}
use Rattle.lua_flat_laws.proofs.Likewise as like
use Rattle.lua_flat_laws.proofs.Acts as acts_of
use Rattle.lua_flat_laws.proofs.Away as away_of
use Rattle.lua_flat_laws.proofs.ComesBack as comes_of
use Rattle.lua_flat_laws.proofs.Tests as tests_of

module _ (world : CWorld) (codes : Codes) (room : ℕ) (index pc base : ℕ) (frames : List SFrame) (acts : List Act) (fn : Activation) (fns : List Activation) (g : FlatFunction) (mine theirs : List Slot) (beneath : List SFrame) (regs : List Slot) (top : ℕ) where
  abbrev act : Act
  act = record { index = index; pc = pc; base = base; frames = frames }

  abbrev cs : Constants
  cs = constants_in world fn.source

  abbrev tree : Slots → Slots
  tree s = in_tree (mine ++ theirs) (fn ∷ fns) s

  abbrev Here : List Local → ℕ → Keeps → Type 0
  Here locals low keeps = Within world codes regs act acts fn fns g mine theirs beneath locals low keeps

  -- AN OUTCOME PASSES the frame that is the operation's own
  abbrev away : Outcome (List Value) Jump → List SFrame → Slots → Flat
  away o gs s = from_code (Gives o gs) (act ∷ acts) regs top (tree s)

  abbrev Stood : Outcome (List Value) Jump → List SFrame → Slots → Type 0
  Stood o fs s = StandsFor world codes (away o [] s) (Gives o fs) (tree s)

  one_goes : (h : SFrame) → IsOneFrame h → (fs : List SFrame) (vs : List Value) (s : Slots) → ((v : Value) → Stood (Goes (v ∷ [])) fs s) → Follows world codes (stays_away (goes world h vs [] (erased (tree s))) (away (Goes vs) (h ∷ []) s)) (goes world h vs fs (tree s))
  one_goes First i fs vs s k = follow_stands (k (first vs))
  one_goes (Verdict n) i fs vs s k = follow_stands (k _)
  one_goes h i fs vs s k = absurd i

  one_passes : (h : SFrame) → IsOneFrame h → (fs : List SFrame) (v : Value) (s : Slots) → Stood (Jumps (Raised v)) fs s → Follows world codes (stays_away (passes h (Raised v) [] (erased (tree s))) (away (Jumps (Raised v)) (h ∷ []) s)) (passes h (Raised v) fs (tree s))
  one_passes First i fs v s k = follow_stands k
  one_passes (Verdict n) i fs v s k = follow_stands k
  one_passes h i fs v s k = absurd i

  -- items of a constructor: the next one is set, or all are
  items_go : {one : Bool} {locals : List Local} {low low' : ℕ} {keeps : Keeps} {c t table place from : ℕ} {fs : List SFrame} (n : ℕ) (left : List Value) (line : ℕ) (vs : List Value) (s : Slots) → Here locals low ((RegisterO table, Table t) ∷ keeps) → low' ≤ table → table < low → Bounded low' locals keeps → Has g pc c (SetItemsF table place from)
      → Waits cs g (length theirs) beneath one locals low' keeps (pc + 1) 0 (RegisterO table) fs → Follows world codes (stays_away (items t n left line [] (erased (tree s))) (away (Goes vs) (ItemsNext t n left line ∷ []) s)) (items t n left line fs (tree s))
  items_go {t} n [] line vs s w l0 l b has k = follow_stands (is_back (Goes (Table t ∷ [])) s w (arrive_items l0 l b has k))
  items_go {t} {fs} n (v ∷ left) line vs s w l0 l b has k =
      away_of.stays world codes room top w (await_items l0 l b has k) (like.set_entry (ItemsNext t (n + 1) left line ∷ []) (ItemsNext t (n + 1) left line ∷ fs) [] tt t (Number (pos n)) v (Some line) (tree s)) (Gives (Goes vs) (ItemsNext t n (v ∷ left) line ∷ [])) s

  pub passes_frame : {locals : List Local} {low : ℕ} {keeps : Keeps} {h k : SFrame} {fs : List SFrame} → Awaits cs g (length theirs) beneath locals low keeps pc (h ∷ []) (k ∷ fs) → Here locals low keeps → (o : Outcome (List Value) Jump) → IsAwayOutcome o → (s : Slots)
      → Follows world codes (flat_moves world codes room (away o (h ∷ []) s)) (moves world (Gives o (k ∷ fs)) (tree s))
  passes_frame (await_operate {h} {fs} i has lands) w (Goes vs) j s = one_goes h i fs vs s (λ v. is_back (Goes (v ∷ [])) s w (arrive_operate has lands))
  passes_frame (await_unary {h} {fs} i has lands) w (Goes vs) j s = one_goes h i fs vs s (λ v. is_back (Goes (v ∷ [])) s w (arrive_unary has lands))
  passes_frame (await_compare {h} {fs} i has fork k) w (Goes vs) j s = one_goes h i fs vs s (λ v. is_back (Goes (v ∷ [])) s w (arrive_compare has fork k))
  passes_frame (await_items {n} {line} {left} l0 l b has k) w (Goes vs) j s = items_go n left line vs s w l0 l b has k
  passes_frame (await_operate {h} {fs} i has lands) w (Jumps (Raised v)) j s = one_passes h i fs v s (is_back (Jumps (Raised v)) s w (arrive_error (await_operate i has lands)))
  passes_frame (await_unary {h} {fs} i has lands) w (Jumps (Raised v)) j s = one_passes h i fs v s (is_back (Jumps (Raised v)) s w (arrive_error (await_unary i has lands)))
  passes_frame (await_compare {h} {fs} i has fork k) w (Jumps (Raised v)) j s = one_passes h i fs v s (is_back (Jumps (Raised v)) s w (arrive_error (await_compare i has fork k)))
  passes_frame (await_items {t} {n} {line} {left} l0 l b has k) w (Jumps (Raised v)) j s = follow_stands (is_back (Jumps (Raised v)) s w (arrive_error (await_items {t = t} {n = n} {line = line} {left = left} l0 l b has k)))
  passes_frame aw w (Jumps (Returned vs)) j s = absurd j
  passes_frame aw w (Jumps Broke) j s = absurd j

  -- and has arrived
  pub arrived : {locals : List Local} {low : ℕ} {keeps : Keeps} {o : Outcome (List Value) Jump} {fs : List SFrame} → Arrives cs g (length theirs) beneath locals low keeps pc o fs → Here locals low keeps → (s : Slots) → Follows world codes (flat_moves world codes room (away o [] s)) (Now (Gives o fs) (tree s))
  arrived (arrive_operate {c} {to} {op} {a} {b} {v} has lands) w s = acts_of.value_back world codes room index pc base frames acts fn fns g mine theirs beneath regs top w c (OperateF op to a b) has lands v (v ∷ []) refl s
  arrived (arrive_unary {c} {to} {op} {a} {v} has lands) w s = acts_of.value_back world codes room index pc base frames acts fn fns g mine theirs beneath regs top w c (UnaryF op to a) has lands v (v ∷ []) refl s
  arrived (arrive_compare {when} {c} {target} {op} {a} {b} {v} {fs} has fork k) w s =
      follow_free (Gives (Goes (v ∷ [])) fs) (tree s) (tests_of.comes_to world codes room index pc base frames acts fn fns g mine theirs beneath regs top s w c (CompareF op a b when target) has fork k (v ∷ []) (v ∷ []) refl s)
  arrived (arrive_items {one} {low} {low'} {keeps} {c} {t} {table} {place} {from} {fs} l0 l b has k) w s =
      let r : low' ≤ g.registers = let q = room_there world codes w in omega (arith, l0, l, q) in
      comes_of.onward world codes room index pc base frames acts fn fns g mine theirs beneath regs top w c (SetItemsF table place from) has (Table t ∷ []) fs s
      (follow_stands (at_given s (moved world codes (pc + 1) (with_keeps world codes (kept_there world codes w).1 b r w)) (given_one one (operand cs regs base (RegisterO table)) (Table t) (kept_there world codes w).0) k))
  arrived (arrive_error {h} {v} {fs} aw) w s = follow_free (Gives (Jumps (Raised v)) fs) (tree s) (comes_of.leaves_under world codes room index pc base frames acts fn fns g mine theirs beneath regs top aw w v s)

pub outcomes_come_back : OutcomesComeBack
outcomes_come_back world codes room f p s (values_back {a} {acts} {fn} {fns} {g} {mine} {theirs} {regs} {beneath} {top} {vs} t w aw) =
    comes_of.back world codes room a.index a.pc a.base a.frames acts fn fns g mine theirs beneath regs top aw w vs t
outcomes_come_back world codes room f p s (error_back {a} {acts} {fn} {fns} {g} {mine} {theirs} {regs} {beneath} {top} v t w aw) =
    follow_free _ _ (comes_of.leaves world codes room a.index a.pc a.base a.frames acts fn fns g mine theirs beneath regs top aw w v t)
outcomes_come_back world codes room f p s (through_frame {a} {acts} {fn} {fns} {g} {mine} {theirs} {regs} {beneath} {top} o i t w aw) =
    follow_free _ _ (passes_frame world codes room a.index a.pc a.base a.frames acts fn fns g mine theirs beneath regs top aw w o i t)
outcomes_come_back world codes room f p s (has_arrived {a} {acts} {fn} {fns} {g} {mine} {theirs} {regs} {beneath} {top} o t w aw) =
    arrived world codes room a.index a.pc a.base a.frames acts fn fns g mine theirs beneath regs top aw w t
