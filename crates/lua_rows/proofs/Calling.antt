-- A CALL OF THE LIBRARY IN PLACE: from what leads to the frame that calls, by what is paid, entered and begun, to what ends it.
use Rattle.std.proofs.Common.{◌≡◌, ◌∙◌, ◌⊎◌, ◌≤◌, ◌<◌, ◌+◌, ◌-◌, ℕ, inl, inr, true, false, List, ◌∷◌, Some, refl, sym, ap, subst, arith}
use Rattle.std.specs.Prelude.{Result}
use Rattle.lua_turns.specs.WkBaseDeclaredLeftLeft.{Left}
use Rattle.lua_code.specs.PageRunDeclaredWhichWhich.{Which}
use Rattle.lua_turns.specs.PageRunOutcome.{Goes}
use Rattle.lua_turns.specs.PageRunState.{Tally, no_tally}
use Rattle.lua_code.specs.LuaHeapProc.{Proc}
use Rattle.lua_code.specs.LuaHeapHeap.{Heap}
use Rattle.lua_code.specs.LuaHeapValue.{Value as Plain, Builtin}
use Rattle.lua_calls.specs.LuaHeapDeclaredLibraryLibrary.{Library}
use Rattle.lua_calls.specs.LuaMeaningLibraries.{Form, form}
use Rattle.lua_turns.specs.LuaStoreDeclaredValueValue.{Value}
use Rattle.lua_turns.specs.LuaStoreSeen.{StoreView}
use Rattle.lua_turns.specs.LuaStoreParts.{IsLater}
use Rattle.lua_code.specs.LuaSlotsCode.{CWorld}
use Rattle.lua_turns.specs.LuaSlotsSlots.{Slots}
use Rattle.lua_turns.specs.LuaSlotsPoints.{SFrame, CallNow, LibraryEnd, LibraryS, Point, Gives, Starts, Move, Costs}
use Rattle.lua_turns.specs.LuaSlotsMoves.{moves}
use Rattle.lua_code.specs.LuaSlotsLibraries.{page_alone, does, enters_library}
use Rattle.lua_turns.specs.LuaSlotsEnact.{Funds, all_given_back, Stands, Short, enact}
use Rattle.lua_code.specs.LuaSlotsLaws.{costs_of}
use Rattle.lua_code.proofs.LuaSlotsCharges.{charges_are_exact}
use Rattle.lua_turns.specs.LuaGoesGoing.{led, Lacks, Reaches, further, Comes, is_short, is_short_late}
use Rattle.lua_turns.proofs.LuaInPlaceReading.{free_move, reach_then}
use Rattle.lua_calls.specs.LuaBasicDeclaredStopStop.{Stop}
use Rattle.lua_turns.specs.LuaStackDeclaredFrameFrame.{Frame}
use Rattle.lua_turns.specs.LuaStackDeclaredFrameFrameTheVariants as frame
use Rattle.lua_turns.specs.LuaStackDeclaredFrameEndingTheVariants as ending
use Rattle.lua_turns.specs.LuaStackSeen.{frames_seen, focus_seen, values_seen}
use Rattle.lua_turns.specs.LuaStateDeclaredStateState.{State}
use Rattle.lua_calls.specs.LuaStateDeclaredTurnTurn.{Turn}
use Rattle.lua_turns.specs.LuaStateDeclaredTurnTurnTheVariants as turn
use Rattle.lua_turns.specs.LuaStateCharges.{EntersCall}
use Rattle.lua_calls.specs.LuaStateMakes.{LateMakes, LateCounts}
use Rattle.lua_turns.specs.LuaStateOf.{StateOf}
use Rattle.lua_turns.specs.LuaStateSeen.{slots_of, frames_of, funds_of}
use Rattle.lua_turns.specs.LuaStateWorlds.{world_seen}
use Rattle.lua_turns.proofs.LuaStateStaying.{state_later}
use Rattle.lua_turns.proofs.LuaStackRaises.{pays}
use Rattle.lua_turns.specs.LuaStridesStrides.{PaysNodes, LeadsAt}
use Rattle.lua_turns.proofs.LuaStridesPaths.{with_frames, with_frames_of, funds_after}
use Rattle.lua_turns.proofs.Entered.{never_short}
use Rattle.lua_calls.specs.LuaGsubsDeclaredBeginningBegun.{Begun}
use Rattle.lua_calls.specs.LuaGsubsBegun.{BegunOf}
use Rattle.lua_calls.specs.Table.{IsLine}
use Rattle.lua_calls.specs.Ends.{BegunMakes}
use Rattle.lua_calls.proofs.Enters.{calls_of, entered, late_above}
use Rattle.lua_rows.specs.declared.ready.Callee.{Callee}
use Rattle.lua_rows.specs.Ready.{act_in}
use Rattle.lua_rows.specs.Rows.{TurnsTo}
use Rattle.lua_rows.specs.Begins.{Begins}
use Rattle.lua_rows.specs.Made.{ends_above, LeadsToCall, IsMade}
use Rattle.lua_rows.proofs.Begun.{does_call, call_does}

-- ITS STEP is taken first
step_first : (s u : StoreView) (m n : State) (l l1 i : Left) (k k' : ℕ) (mv : Move) (r : Turn) → 1 ≤ l.steps → l1 ≡ record l { steps = l.steps - 1 } → LateCounts s m l1 k u n i k' mv r → LateCounts s m l k u n i k' (Costs 1 mv) r
step_first s u m n l l1 i k k' mv r some rest e = record {
  state = e.state;
  world = e.world;
  of = e.of;
  later = e.later;
  still = e.still;
  rises = e.rises;
  makes = λ told a b h. pays 1 mv (funds_of l m told a) some ∙ (ap (λ (x : Left). enact mv (funds_of x m told a)) (sym rest) ∙ e.makes told a b h);
}

-- THE CALL is entered, and counted
module _ (s u : StoreView) (m m' n : State) (fs : List Frame) (l l' i : Left) (k k' : ℕ) (r : Turn) (same : m' ≡ record m { calls = m'.calls; height = m'.height }) where
  call_entered : (which : Library) (f : Callee) (vs : List Plain) (line : ℕ) → IsLine which (act_in f) → EntersCall m l m' l' true → k' ≡ k + 1 → LateMakes s (ends_above m' fs) l' u n i (does_call s (ends_above m' fs) f vs line) r
      → LateCounts s (with_frames m fs) l k u n i k' (enters_library (world_seen m.codes.world) which vs (Some line) (frames_seen s.texts fs) (slots_of s m)) r
  call_entered which f vs line is called up made =
      let g : State → Move = λ (x : State).
      does (world_seen x.codes.world) (form (page_alone (world_seen x.codes.world)) which vs (slots_of s x).heap (slots_of s x).frames) vs (Some line) (LibraryEnd ∷ frames_of s x) (slots_of s x) in
      entered s u (with_frames m fs) (with_frames m' fs) n l l' i k k' r (ap (λ (x : State). with_frames x fs) same) g (λ calls height. refl) called up
      (late_above s u (with_frames m' fs) n (frame.End ending.LibraryEnd ∷ fs) l' i (g (with_frames m' fs)) (does_call s (ends_above m' fs) f vs line) r
      (ap (λ (x : Form Proc). does (world_seen m'.codes.world) x vs (Some line) (LibraryEnd ∷ frames_seen s.texts fs) (slots_of s m')) (is (page_alone (world_seen m'.codes.world)) vs (slots_of s m').heap (slots_of s m').frames)) made)

-- a last move, in which an allowance is spent
short_in : (world : CWorld) (p : Point) (x : Slots) (f : Funds) (q : Point) (g : Funds) (u : StoreView) (w : Which) (g' : Funds) → Reaches world p x f q x g → (u.heap ≡ x.heap) ⊎ (u.heap ≡ (led (moves world q x)).heap)
    → enact (moves world q x) g ≡ Short w g' → Comes world p x f (Lacks w u.heap g')
short_in world p x f q g u w g' c (inl st) e = subst (λ (h : Heap Proc). Comes world p x f (Lacks w h g')) (sym st) (is_short _ _ _ w g' c e)
short_in world p x f q g u w g' c (inr st) e = subst (λ (h : Heap Proc). Comes world p x f (Lacks w h g')) (sym st) (is_short_late _ _ _ w g' c e)

-- MOVE AFTER MOVE: the nodes are paid, the frame that calls waits no more, and the function begins
module _ (s u : StoreView) (m n : State) (fs : List Frame) (p : Point) (nodes : ℕ) (l l1 i : Left) (k k1 k' : ℕ) (which : Library) (vs : List Plain) (line : ℕ) (paid : PaysNodes nodes l k l1 k1 true)
    (leads : LeadsAt (world_seen m.codes.world) p (slots_of s m) nodes (Gives (Goes vs) (CallNow (Builtin which) line ∷ frames_seen s.texts fs)) (slots_of s m)) where
  abbrev world : CWorld
  world = world_seen m.codes.world

  abbrev held : Slots
  held = slots_of s m

  abbrev behind : List SFrame
  behind = frames_seen s.texts fs

  abbrev starts : Point
  starts = Starts (LibraryS which vs (Some line)) behind

  abbrev enters : Move
  enters = enters_library world which vs (Some line) behind held

  to_start : (told : Tally) (a b : ℕ) → k1 + a ≡ k + b → Reaches world p held (funds_of l m told a) starts held (funds_of l1 m told b)
  to_start told a b h =
      let calls : Point = Gives (Goes vs) (CallNow (Builtin which) line ∷ behind) in
      let f : Funds = funds_of l m told a in
      let g : Funds = funds_of l1 m told b in
      reach_then (subst (λ (x : Funds). Reaches world p held f calls held x) (funds_after nodes l l1 k k1 m told a b paid h) (leads f paid.0)) (free_move world held calls starts g refl)

  -- steps fall, since it takes its own
  its_step : (q : Point) (x : Slots) (g : Funds) (told : Tally) (a : ℕ) → enact (Costs 1 enters) (funds_of l1 m told a) ≡ Stands q x g → g.left.steps < l.steps
  its_step q x g told a e =
      let fewer : l1.steps ≡ l.steps - nodes = ap (λ (z : Left). z.steps) paid.1 in
      let c : ℕ = costs_of enters in
      let exact : g.left.steps + (1 + c) ≡ l1.steps = (charges_are_exact (Costs 1 enters) q x (funds_of l1 m told a) g e).0 in
      omega (arith, fewer, exact, paid.0)

  pub call_turns : (r : Turn) → LateCounts s (with_frames m fs) l1 k1 u n i k' (Costs 1 enters) r → TurnsTo s m p l k u n i k' r
  call_turns (turn.On y) e = record {
    state = e.state;
    world = e.world;
    of = e.of;
    later = e.later;
    rises = omega (arith, paid.2, e.rises);
    falls = its_step (focus_seen u y (frames_of u n)) (slots_of u n) (funds_of i n no_tally (k' - k1)) no_tally 0 (e.makes no_tally 0 (k' - k1) (omega (arith, e.rises)));
    led = λ told a b h.
        further starts held (funds_of l1 m told (a + nodes)) (focus_seen u y (frames_of u n)) (slots_of u n) (funds_of i n told b) (to_start told a (a + nodes) (omega (arith, paid.2)))
        (e.makes told (a + nodes) b (omega (arith, paid.2, h)));
  }
  call_turns (turn.Spent w) e = record {
    state = e.state;
    world = e.world;
    later = e.later;
    rises = omega (arith, paid.2, e.rises);
    led = λ told a b h.
        short_in world p held (funds_of l m told a) starts (funds_of l1 m told (a + nodes)) u w (all_given_back (funds_of i n told b)) (to_start told a (a + nodes) (omega (arith, paid.2))) e.still (e.makes told (a + nodes) b (omega (arith, paid.2, h)));
  }

-- a step is left for it, and a call
pub step_left : (nodes : ℕ) (l l1 : Left) (k k1 : ℕ) → nodes < l.steps → PaysNodes nodes l k l1 k1 true → 1 ≤ l1.steps
step_left nodes l l1 k k1 more paid =
    let fewer : l1.steps ≡ l.steps - nodes = ap (λ (z : Left). z.steps) paid.1 in
    omega (arith, fewer, more)

pub call_left : (m m' : State) (x : Slots) (nodes : ℕ) (l l1 l3 : Left) (k k1 : ℕ) → 1 ≤ l.calls → PaysNodes nodes l k l1 k1 true → EntersCall m (record l1 { steps = l1.steps - 1 }) m' l3 false → ⊥
call_left m m' x nodes l l1 l3 k k1 some paid short =
    let same : l1.calls ≡ l.calls = ap (λ (z : Left). z.calls) paid.1 in
    never_short m m' (record l1 { steps = l1.steps - 1 }) l3 x (omega (arith, same, some)) short

-- THE WHOLE
module _ (s t : StoreView) (m m' : State) (f : Callee) (args : List Value) (nodes : ℕ) (l l1 l2 l3 l' : Left) (k k1 k' : ℕ) (answer : Result Begun Stop) (of : StateOf s m) (more : nodes < l.steps) (paid : PaysNodes nodes l k l1 k1 true)
    (rest : l2 ≡ record l1 { steps = l1.steps - 1 }) (same : m' ≡ record m { calls = m'.calls; height = m'.height }) (called : EntersCall m l2 m' l3 true) (up : k' ≡ k1 + 1) (later : IsLater s t) (begins : Begins f (values_seen s.texts args) s l3 t l' answer) where
  turns_to : (p : Point) (line : ℕ) (fs : List Frame) → LeadsToCall s m f args nodes p line fs → (u : StoreView) (n : State) (i : Left) (r : Turn) → BegunMakes t (ends_above m' fs) l' (Some line) answer u n i r → TurnsTo s m p l k u n i k' r
  turns_to p line fs to u n i r made =
      let vs : List Plain = values_seen s.texts args in
      let ends : State = ends_above m' fs in
      let held : StateOf s ends = with_frames_of s m' (frame.End ending.LibraryEnd ∷ fs) (calls_of s m m' same of) (tt, to.frames) in
      call_turns s u m n fs p nodes l l1 i k k1 k' to.which vs line paid to.leads r
      (step_first s u (with_frames m fs) n l1 l2 i k1 k' (enters_library (world_seen m.codes.world) to.which vs (Some line) (frames_seen s.texts fs) (slots_of s m)) r (step_left nodes l l1 k k1 more paid) rest
      (call_entered s u m m' n fs l2 l3 i k1 k' r same to.which f vs line to.is called up (call_does s t u ends n l3 l' i vs line r held later f answer begins made)))

  pub call_made : BegunOf t answer → IsMade s m f args nodes l k t m' l' k' answer
  call_made has = record {
    state = state_later s t later m' (calls_of s m m' same of);
    same = same;
    later = later;
    of = has;
    turns = turns_to;
  }
