-- A PART OF THE MACHINE MAKES A MOVE: from what it says of its own to what is said of the whole.
use Rattle.std.proofs.Common.{◌≡◌, ◌∙◌, ℕ, ◌+◌, ◌-◌, ◌<◌, ◌≤◌, List, [], ◌∷◌, refl, sym, ap, subst, arith}
use Rattle.page_run.specs.WkBaseDeclaredLeftLeft.{Left}
use Rattle.page_run.specs.declared.which.Which.TheVariants.{Steps}
use Rattle.page_run.specs.Outcome.{Outcome, Goes, Jumps}
use Rattle.lua_code.specs.LuaHeapValue.{Value}
use Rattle.lua_blocks.specs.LuaMeaningActs.{Jump as PlainJump}
use Rattle.lua_store.specs.Seen.{StoreView}
use Rattle.lua_store.proofs.Later.{later-itself}
use Rattle.lua_code.specs.LuaSlotsCode.{CWorld, Constants, CExp, ConstantC, TextC, DotsC, FunctionC, LocalC, GlobalC, IndexC, CallC, MethodC, TableC, AndC, OrC, OperateC, UnaryC, ParenC}
use Rattle.lua_blocks.specs.LuaSlotsSlots.{Slots}
use Rattle.lua_blocks.specs.LuaSlotsPoints.{SFrame, Gives, Move, Costs, Marks, Now}
use Rattle.lua_blocks.specs.LuaSlotsErrors.{node}
use Rattle.lua_evals.specs.LuaSlotsExpressions.{evals}
use Rattle.lua_blocks.specs.LuaSlotsMoves.{moves, goes, passes}
use Rattle.lua_rows.specs.LuaSlotsEnact.{Stands, enact}
use Rattle.lua_blocks.specs.LuaArmsDeclaredStepStepTheVariants as step
use Rattle.lua_blocks.specs.LuaArmsDeclaredStepPaid.{Paid}
use Rattle.lua_blocks.specs.LuaArmsDeclaredStepPaidTheVariants as paid
use Rattle.lua_blocks.specs.LuaArmsPaid.{behind_node, IfSpent}
use Rattle.lua_rows.specs.LuaStackDeclaredFrameFrame.{Frame}
use Rattle.lua_environment.specs.LuaStackDeclaredFocusFocus.{Focus}
use Rattle.lua_environment.specs.LuaStackDeclaredFocusFocusTheVariants as focus
use Rattle.lua_environment.specs.LuaStackDeclaredFocusJump.{Jump}
use Rattle.lua_evals.specs.LuaStackDeclaredValuesGiven.{Given}
use Rattle.lua_blocks.specs.LuaStackSeen.{frame_seen, frames_seen, given_seen, jump_seen}
use Rattle.lua_environment.specs.LuaStackOf.{FrameOf, FocusOf}
use Rattle.lua_environment.proofs.LuaStackRaises.{pays, spends}
use Rattle.lua_rows.specs.LuaStateDeclaredStateState.{State}
use Rattle.lua_rows.specs.LuaStateDeclaredTurnTurn.{Turn}
use Rattle.lua_rows.specs.LuaStateDeclaredTurnTurnTheVariants as turn
use Rattle.lua_blocks.specs.LuaStateSeen.{slots_of, funds_of, turn_seen}
use Rattle.lua_blocks.specs.LuaStateOf.{StateOf}
use Rattle.lua_runs.specs.LuaStateWorlds.{world_seen}
use Rattle.lua_blocks.specs.LuaStateMakes.{Makes, Counts, LateCounts}
use Rattle.lua_blocks.proofs.LuaStateMaking.{UnlessOn, counts_late}
use Rattle.lua_machine.specs.Moved.{point_of, MovesTo}
use Rattle.lua_machine.proofs.Loops.{as_many}

-- A MOVE THAT COUNTS NOTHING
pub counted : (s : StoreView) (m : State) (l : Left) (k : ℕ) (t : StoreView) (m' : State) (l' : Left) (mv : Move) (r : Turn) → Makes s m l t m' l' mv r → Counts s m l k t m' l' k mv r
counted s m l k t m' l' mv r e = record {
  state = e.state;
  world = e.world;
  of = e.of;
  later = e.later;
  still = e.still;
  rises = omega arith;
  makes = λ told n n' h. subst (λ (i : ℕ). enact mv (funds_of l m told n) ≡ turn_seen t m' r (funds_of l' m' told i)) (as_many k n n' h) (e.makes told n);
}

-- A STEP IN FRONT, and a node
pub step_paid : (s : StoreView) (m : State) (l l1 : Left) (k : ℕ) (t : StoreView) (m' : State) (l' : Left) (k' : ℕ) (mv : Move) (r : Turn) → 1 ≤ l.steps → l1 ≡ record l { steps = l.steps - 1 } → Counts s m l1 k t m' l' k' mv r
    → Counts s m l k t m' l' k' (Costs 1 mv) r
step_paid s m l l1 k t m' l' k' mv r covered rest e = record {
  state = e.state;
  world = e.world;
  of = e.of;
  later = e.later;
  still = e.still;
  rises = e.rises;
  makes = λ told n n' h. pays 1 mv (funds_of l m told n) covered ∙ (ap (λ (x : Left). enact mv (funds_of x m told n)) (sym rest) ∙ e.makes told n n' h);
}

pub late_step_paid : (s : StoreView) (m : State) (l l1 : Left) (k : ℕ) (t : StoreView) (m' : State) (l' : Left) (k' : ℕ) (mv : Move) (r : Turn) → 1 ≤ l.steps → l1 ≡ record l { steps = l.steps - 1 } → LateCounts s m l1 k t m' l' k' mv r
    → LateCounts s m l k t m' l' k' (Costs 1 mv) r
late_step_paid s m l l1 k t m' l' k' mv r covered rest e = record {
  state = e.state;
  world = e.world;
  of = e.of;
  later = e.later;
  still = e.still;
  rises = e.rises;
  makes = λ told n n' h. pays 1 mv (funds_of l m told n) covered ∙ (ap (λ (x : Left). enact mv (funds_of x m told n)) (sym rest) ∙ e.makes told n n' h);
}

pub mark_counted : (s : StoreView) (m : State) (l : Left) (k : ℕ) (t : StoreView) (m' : State) (l' : Left) (mv : Move) (r : Turn) → Makes s m l t m' l' mv r → Counts s m l k t m' l' (k + 1) (Marks mv) r
mark_counted s m l k t m' l' mv r e = record {
  state = e.state;
  world = e.world;
  of = e.of;
  later = e.later;
  still = e.still;
  rises = omega arith;
  makes = λ told n n' h. subst (λ (i : ℕ). enact mv (funds_of l m told (n + 1)) ≡ turn_seen t m' r (funds_of l' m' told i)) (omega (arith, h)) (e.makes told (n + 1));
}

-- where no step is left
pub step_spent : (s : StoreView) (m : State) (l l1 : Left) (k : ℕ) (mv : Move) → StateOf s m → l.steps < 1 → l1 ≡ record l { steps = 0 } → Counts s m l k s m l1 k (Costs 1 mv) (turn.Spent Steps)
step_spent s m l l1 k mv of short rest = record {
  state = of;
  world = refl;
  of = tt;
  later = later-itself s;
  still = refl;
  rises = omega arith;
  makes = λ told n n' h. spends 1 mv (funds_of l m told n) short ∙ (rw (rest, as_many k n n' h) refl);
}

-- each expression begins with its node
pub begins_with_node : (constants : Constants) (e : CExp) (fs : List SFrame) (s : Slots) → evals constants e fs s ≡ node (behind_node (evals constants e fs s))
begins_with_node constants (ConstantC v) fs s = refl
begins_with_node constants (TextC n) fs s = refl
begins_with_node constants DotsC fs s = refl
begins_with_node constants (FunctionC index places) fs s = refl
begins_with_node constants (LocalC p) fs s = refl
begins_with_node constants (GlobalC x line) fs s = refl
begins_with_node constants (IndexC of key line) fs s = refl
begins_with_node constants (CallC f args line) fs s = refl
begins_with_node constants (MethodC of x args line) fs s = refl
begins_with_node constants (TableC cs line) fs s = refl
begins_with_node constants (AndC a b) fs s = refl
begins_with_node constants (OrC a b) fs s = refl
begins_with_node constants (OperateC o a b line) fs s = refl
begins_with_node constants (UnaryC o a line) fs s = refl
begins_with_node constants (ParenC a) fs s = refl

pub as_move : (s : StoreView) (m : State) (l : Left) (k : ℕ) (t : StoreView) (m' : State) (l' : Left) (k' : ℕ) (mv mv' : Move) (r : Turn) → mv ≡ mv' → Counts s m l k t m' l' k' mv r → Counts s m l k t m' l' k' mv' r
as_move s m l k t m' l' k' mv mv' r e c = subst (λ (x : Move). Counts s m l k t m' l' k' x r) e c

-- OF THE WHOLE MACHINE
pub counted_late : (s : StoreView) (m : State) (l : Left) (k : ℕ) (t : StoreView) (m' : State) (l' : Left) (mv : Move) (r : Turn) → Makes s m l t m' l' mv r → LateCounts s m l k t m' l' k mv r
counted_late s m l k t m' l' mv r e = counts_late s t m m' l l' k k mv r (counted s m l k t m' l' mv r e)

-- where it moves no more it stays
pub stays : (s : StoreView) (m : State) (f : Focus) (l : Left) (k : ℕ) → StateOf s m → FocusOf s f → moves (world_seen m.codes.world) (point_of s m f) (slots_of s m) ≡ Now (point_of s m f) (slots_of s m) → MovesTo s m f l k s m l k (turn.On f)
stays s m f l k state of is = record {
  state = state;
  world = refl;
  of = of;
  later = later-itself s;
  still = tt;
  rises = omega arith;
  makes = λ told n n' h. ap (λ (x : Move). enact x (funds_of l m told n)) is ∙ ap (λ (i : ℕ). Stands (point_of s m f) (slots_of s m) (funds_of l m told i)) (as_many k n n' h);
}

-- A FRAME IS TAKEN
abbrev pub with_frames : State → List Frame → State
with_frames m frames = record m { frames = frames }

pub popped : (s : StoreView) (m : State) (frame : Frame) (rest : List Frame) → m.frames ≡ frame ∷ rest → StateOf s m → StateOf s (with_frames m rest) × FrameOf s frame
popped s m frame rest e o =
    let f = rw e at o.frames in
    (record { frames = f.1; regs = o.regs; functions = o.functions; env = o.env; modules = o.modules; loaded = o.loaded; scenes = o.scenes; codes = o.codes }, f.0)

pub end_stays : (world : CWorld) (s : StoreView) (fs : List Frame) (o : Outcome (List Value) PlainJump) (t : Slots) → fs ≡ [] → moves world (Gives o (frames_seen s.texts fs)) t ≡ Now (Gives o (frames_seen s.texts fs)) t
end_stays world s [] o t e = refl
end_stays world s (f ∷ fs) o t e = absurd cc

pub at_end : (s : StoreView) (m : State) (frames : List Frame) (f : Focus) (l : Left) (k : ℕ) → m.frames ≡ [] → frames ≡ [] → StateOf s m → FocusOf s f
    → moves (world_seen m.codes.world) (point_of s m f) (slots_of s m) ≡ Now (point_of s m f) (slots_of s m) → MovesTo s m f l k s (with_frames m frames) l k (turn.On f)
at_end s m frames f l k old new state of is = subst (λ (fs : List Frame). MovesTo s m f l k s (with_frames m fs) l k (turn.On f)) (old ∙ sym new) (stays s m f l k state of is)

module _ (s : StoreView) (m : State) (l : Left) (k : ℕ) (frame : Frame) (rest : List Frame) (t : StoreView) (m' : State) (l' : Left) (r : Turn) (is : m.frames ≡ frame ∷ rest) where
  over_frames : (mv : Move) → Makes s (with_frames m rest) l t m' l' mv r → LateCounts s m l k t m' l' k mv r
  over_frames mv e = counted_late s m l k t m' l' mv r (record { state = e.state; world = e.world; of = e.of; later = e.later; still = e.still; makes = e.makes })

  with_frame : (o : Outcome (List Value) PlainJump) → LateCounts s m l k t m' l' k (moves (world_seen m.codes.world) (Gives o (frames_seen s.texts (frame ∷ rest))) (slots_of s m)) r → LateCounts s m l k t m' l' k (moves (world_seen m.codes.world) (Gives o (frames_seen s.texts m.frames)) (slots_of s m)) r
  with_frame o e = subst (λ (fs : List Frame). LateCounts s m l k t m' l' k (moves (world_seen m.codes.world) (Gives o (frames_seen s.texts fs)) (slots_of s m)) r) (sym is) e

  pub values_given : (values : Given) → ((world : CWorld) → Makes s (with_frames m rest) l t m' l' (goes world (frame_seen s.texts frame) (given_seen s.texts values) (frames_seen s.texts rest) (slots_of s m)) r) → MovesTo s m (focus.Gives values) l k t m' l' k r
  values_given values e = with_frame (Goes (given_seen s.texts values)) (over_frames _ (e (world_seen m.codes.world)))

  pub jump_passed : (jump : Jump) → Makes s (with_frames m rest) l t m' l' (passes (frame_seen s.texts frame) (jump_seen s.texts jump) (frames_seen s.texts rest) (slots_of s m)) r → MovesTo s m (focus.Jumps jump) l k t m' l' k r
  jump_passed jump e = with_frame (Jumps (jump_seen s.texts jump)) (over_frames _ e)

-- WHERE AN ARM DOES NOT GO ON, the store's objects are as they were.
pub unless_on : (s u : StoreView) (p : Paid) → IfSpent p (u ≡ s) → UnlessOn p (u.heap ≡ s.heap)
unless_on s u (paid.Goes (step.On f)) h = tt
unless_on s u (paid.Goes (step.Fails line f)) h = ap (λ (x : StoreView). x.heap) h
unless_on s u (paid.Spent which) h = ap (λ (x : StoreView). x.heap) h
