-- MOVES ONE AFTER ANOTHER, in the forms of the loops.
use Rattle.std.proofs.Common.{◌≡◌, ℕ, ◌+◌, ◌-◌, ◌<◌, ◌≤◌, ◌∙◌, inl, inr, true, false, List, [], ◌∷◌, refl, sym, ap, subst, arith}
use Rattle.page_run.specs.WkBaseDeclaredLeftLeft.{Left}
use Rattle.page_run.specs.State.{Tally, no_tally}
use Rattle.page_run.specs.Outcome.{Outcome as PlainOutcome, Goes, Jumps}
use Rattle.page_run.specs.declared.which.Which.{Which}
use Rattle.lua_store.specs.Seen.{StoreView}
use Rattle.lua_store.proofs.Later.{later-itself, later-then}
use Rattle.lua_code.specs.LuaHeapProc.{Proc}
use Rattle.lua_code.specs.LuaHeapHeap.{Heap}
use Rattle.lua_code.specs.LuaHeapValue.{Value as Plain}
use Rattle.lua_blocks.specs.LuaMeaningActs.{Jump}
use Rattle.lua_code.specs.LuaSlotsCode.{CWorld}
use Rattle.lua_blocks.specs.LuaSlotsSlots.{Slots}
use Rattle.lua_blocks.specs.LuaSlotsPoints.{Point, Gives, Asking}
use Rattle.lua_blocks.specs.LuaSlotsMoves.{moves}
use Rattle.lua_rows.specs.LuaSlotsEnact.{Funds, all_given_back, Stands, Short, enact}
use Rattle.lua_home_laws.specs.LuaGoesWeight.{weight}
use Rattle.lua_rows.specs.LuaGoesGoing.{Lacks, Reaches, here, further, Comes, is_short, is_short_late}
use Rattle.lua_home_laws.specs.LuaGoesLaws.{GoesOnFrom}
use Rattle.lua_home_laws.proofs.LuaGoesCounts.{kept-reached}
use Rattle.lua_home_laws.proofs.LuaGoesEvents.{steps_or_weight_fall}
use Rattle.lua_rows.proofs.LuaInPlaceReading.{reach_then}
use Rattle.lua_environment.specs.LuaStackDeclaredFocusFocus.{Focus}
use Rattle.lua_environment.specs.LuaStackDeclaredFocusFocusTheVariants as focus
use Rattle.lua_rows.specs.LuaStackDeclaredFrameFrame.{Frame}
use Rattle.lua_blocks.specs.LuaStackSeen.{frames_seen, given_seen, jump_seen}
use Rattle.lua_environment.specs.LuaStackOf.{FocusOf}
use Rattle.lua_rows.specs.LuaStateDeclaredStateState.{State}
use Rattle.lua_blocks.specs.LuaStateDeclaredCodesWorld.{World}
use Rattle.lua_rows.specs.LuaStateDeclaredTurnTurn.{Turn}
use Rattle.lua_rows.specs.LuaStateDeclaredTurnTurnTheVariants as turn
use Rattle.lua_blocks.specs.LuaStateSeen.{slots_of, funds_of}
use Rattle.lua_blocks.specs.LuaStateOf.{StateOf}
use Rattle.lua_runs.specs.LuaStateWorlds.{world_seen}
use Rattle.lua_blocks.specs.LuaStateMakes.{IsStill}
use Rattle.lua_rows.specs.LuaStridesStrides.{Strides}
use Rattle.lua_machine.specs.declared.event.Event.{Event}
use Rattle.lua_machine.specs.declared.event.Event.TheVariants as event
use Rattle.lua_machine.specs.Moved.{point_of, MovesTo, is_none, is_event, IsEventAt}
use Rattle.lua_machine.specs.Going.{LeadsTo, EndsIn, GoesTo, IsOn}
use Rattle.lua_rows.specs.LuaStridesNext.{focus_of}
use Rattle.lua_rows.specs.LuaTurnsRows.{Follows}
use Rattle.lua_rows.proofs.LuaTurnsFollowing.{strides_follow}
use Rattle.lua_rows.specs.declared.rows.Went.{Went}
use Rattle.lua_rows.specs.declared.rows.Went.TheVariants as went
use Rattle.lua_rows.specs.Rows.{FollowsTo, IsTurn, StridesTo, TurnsTo}
use Rattle.lua_rows.proofs.Turning.{comes_behind}

-- a last move, in which an allowance is spent
spent : (world : CWorld) (p : Point) (s : Slots) (f : Funds) (a : StoreView) (m : State) (x : Focus) (g : Funds) (b : StoreView) (w : Which) (g' : Funds) → Reaches world p s f (point_of a m x) (slots_of a m) g
    → IsStill a b (moves world (point_of a m x) (slots_of a m)) → enact (moves world (point_of a m x) (slots_of a m)) g ≡ Short w (all_given_back g') → Comes world p s f (Lacks w b.heap (all_given_back g'))
spent world p s f a m x g b w g' c (inl st) e = subst (λ (h : Heap Proc). Comes world p s f (Lacks w h (all_given_back g'))) (sym st) (is_short _ _ _ w (all_given_back g') c e)
spent world p s f a m x g b w g' c (inr st) e = subst (λ (h : Heap Proc). Comes world p s f (Lacks w h (all_given_back g'))) (sym st) (is_short_late _ _ _ w (all_given_back g') c e)

-- FROM ONE STATE OF THE CODE TO ANOTHER
pub as_many : (k n n' : ℕ) → k + n ≡ k + n' → n ≡ n'
as_many k n n' e = omega (arith, e)

pub at_start : (a : StoreView) (m : State) (x : Focus) (l : Left) (k : ℕ) → StateOf a m → FocusOf a x → LeadsTo a m x l k a m l k x
at_start a m x l k state of = record {
  state = state;
  world = refl;
  of = of;
  later = later-itself a;
  rises = omega arith;
  led = λ told n n' e. subst (λ (i : ℕ). Reaches (world_seen m.codes.world) (point_of a m x) (slots_of a m) (funds_of l m told n) (point_of a m x) (slots_of a m) (funds_of l m told i)) (as_many k n n' e) here;
}

module _ (a : StoreView) (m : State) (x : Focus) (l : Left) (k : ℕ) (b : StoreView) (m' : State) (l' : Left) (k' : ℕ) (y : Focus) (c : LeadsTo a m x l k b m' l' k' y) where
  -- one move more
  pub turn_leads : (d : StoreView) (m'' : State) (l'' : Left) (k'' : ℕ) (z : Focus) → MovesTo b m' y l' k' d m'' l'' k'' (turn.On z) → LeadsTo a m x l k d m'' l'' k'' z
  turn_leads d m'' l'' k'' z e = record {
    state = e.state;
    world = e.world ∙ c.world;
    of = e.of;
    later = later-then a b d c.later e.later;
    rises = omega (arith, c.rises, e.rises);
    led = λ told n n' h.
        let j : ℕ = k' + n - k in
        further _ _ _ _ _ _ (c.led told n j (omega (arith, c.rises)))
        (subst (λ (w : World). enact (moves (world_seen w) (point_of b m' y) (slots_of b m')) (funds_of l' m' told j) ≡ Stands (point_of d m'' z) (slots_of d m'') (funds_of l'' m'' told n')) c.world (e.makes told j n' (omega (arith, c.rises, h))));
  }

  -- moves that lead on from there
  pub leads_then : (d : StoreView) (m'' : State) (l'' : Left) (k'' : ℕ) (z : Focus) → LeadsTo b m' y l' k' d m'' l'' k'' z → LeadsTo a m x l k d m'' l'' k'' z
  leads_then d m'' l'' k'' z e = record {
    state = e.state;
    world = e.world ∙ c.world;
    of = e.of;
    later = later-then a b d c.later e.later;
    rises = omega (arith, c.rises, e.rises);
    led = λ told n n' h.
        let j : ℕ = k' + n - k in
        reach_then (c.led told n j (omega (arith, c.rises)))
        (subst (λ (w : World). Reaches (world_seen w) (point_of b m' y) (slots_of b m') (funds_of l' m' told j) (point_of d m'' z) (slots_of d m'') (funds_of l'' m'' told n')) c.world (e.led told j n' (omega (arith, c.rises, h))));
  }

  pub then_spent : (d : StoreView) (m'' : State) (l'' : Left) (k'' : ℕ) (w : Which) → EndsIn b m' y l' k' d m'' l'' k'' (event.Spent w) → EndsIn a m x l k d m'' l'' k'' (event.Spent w)
  then_spent d m'' l'' k'' which e = record {
    state = e.state;
    world = e.world ∙ c.world;
    of = tt;
    later = later-then a b d c.later e.later;
    rises = omega (arith, c.rises, e.rises);
    led = λ told n n' h.
        let j : ℕ = k' + n - k in
        comes_behind (c.led told n j (omega (arith, c.rises)))
        (subst (λ (w : World). Comes (world_seen w) (point_of b m' y) (slots_of b m') (funds_of l' m' told j) (Lacks which d.heap (all_given_back (funds_of l'' m'' told n')))) c.world (e.led told j n' (omega (arith, c.rises, h))));
  }

  pub turn_ends : (d : StoreView) (m'' : State) (l'' : Left) (k'' : ℕ) (w : Which) → MovesTo b m' y l' k' d m'' l'' k'' (turn.Spent w) → EndsIn a m x l k d m'' l'' k'' (event.Spent w)
  turn_ends d m'' l'' k'' which e = record {
    state = e.state;
    world = e.world ∙ c.world;
    of = tt;
    later = later-then a b d c.later e.later;
    rises = omega (arith, c.rises, e.rises);
    led = λ told n n' h.
        let j : ℕ = k' + n - k in
        spent (world_seen m.codes.world) _ _ _ b m' y (funds_of l' m' told j) d which (funds_of l'' m'' told n') (c.led told n j (omega (arith, c.rises)))
        (subst (λ (w : World). IsStill b d (moves (world_seen w) (point_of b m' y) (slots_of b m'))) c.world e.still)
        (subst (λ (w : World). enact (moves (world_seen w) (point_of b m' y) (slots_of b m')) (funds_of l' m' told j) ≡ Short which (all_given_back (funds_of l'' m'' told n'))) c.world (e.makes told j n' (omega (arith, c.rises, h))));
  }

  -- CALLS: those left and those in progress are as many as they were
  pub calls_kept : l'.calls + m'.calls ≡ l.calls + m.calls
  calls_kept =
      let j : ℕ = k' - k in
      kept-reached (world_seen m.codes.world) (point_of a m x) (slots_of a m) (funds_of l m no_tally 0) (c.led no_tally 0 j (omega (arith, c.rises)))

-- WHERE IT MOVES NO MORE
no_frame : (fs : List Frame) → is_none fs ≡ true → fs ≡ []
no_frame [] e = refl
no_frame (f ∷ fs) e = absurd cc

pub needs_no_frame : (fs : List Frame) (y : Focus) → is_event fs y ≡ true → is_event [] y ≡ true
needs_no_frame fs (focus.Gives values) e = refl
needs_no_frame fs (focus.Jumps jump) e = refl
needs_no_frame fs y e = e

ends : (a : StoreView) (m : State) (x : Focus) (l : Left) (k : ℕ) (b : StoreView) (m' : State) (l' : Left) (k' : ℕ) (o : PlainOutcome (List Plain) Jump) → m'.frames ≡ [] → (told : Tally) (n n' : ℕ)
    → Reaches (world_seen m.codes.world) (point_of a m x) (slots_of a m) (funds_of l m told n) (Gives o (frames_seen b.texts m'.frames)) (slots_of b m') (funds_of l' m' told n')
    → Reaches (world_seen m.codes.world) (point_of a m x) (slots_of a m) (funds_of l m told n) (Gives o []) (slots_of b m') (funds_of l' m' told n')
ends a m x l k b m' l' k' o none told n n' c = subst (λ (fs : List Frame). Reaches (world_seen m.codes.world) (point_of a m x) (slots_of a m) (funds_of l m told n) (Gives o (frames_seen b.texts fs)) (slots_of b m') (funds_of l' m' told n')) none c

pub event_ends : (a : StoreView) (m : State) (x : Focus) (l : Left) (k : ℕ) (b : StoreView) (m' : State) (l' : Left) (k' : ℕ) (y : Focus) (e : Event) → is_event m'.frames y ≡ true → IsEventAt y e → LeadsTo a m x l k b m' l' k' y
    → EndsIn a m x l k b m' l' k' e
event_ends a m x l k b m' l' k' (focus.Gives values) e stands is c = subst (λ (v : Event). EndsIn a m x l k b m' l' k' v) (sym is) record {
  state = c.state;
  world = c.world;
  of = c.of;
  later = c.later;
  rises = c.rises;
  led = λ told n n' h. ends a m x l k b m' l' k' (Goes (given_seen b.texts values)) (no_frame m'.frames stands) told n n' (c.led told n n' h);
}
event_ends a m x l k b m' l' k' (focus.Jumps jump) e stands is c = subst (λ (v : Event). EndsIn a m x l k b m' l' k' v) (sym is) record {
  state = c.state;
  world = c.world;
  of = c.of;
  later = c.later;
  rises = c.rises;
  led = λ told n n' h. ends a m x l k b m' l' k' (Jumps (jump_seen b.texts jump)) (no_frame m'.frames stands) told n n' (c.led told n n' h);
}
event_ends a m x l k b m' l' k' (focus.Asks question) e stands is c = subst (λ (v : Event). EndsIn a m x l k b m' l' k' v) (sym is) record { state = c.state; world = c.world; of = tt; later = c.later; rises = c.rises; led = c.led }
event_ends a m x l k b m' l' k' y e stands is c = absurd is

-- where it moves
some_frame : (b : StoreView) (fs : List Frame) (o : PlainOutcome (List Plain) Jump) → is_none fs ≡ false → GoesOnFrom (Gives o (frames_seen b.texts fs))
some_frame b [] o e = absurd cc
some_frame b (f ∷ fs) o e = tt

goes_on : (b : StoreView) (m : State) (y : Focus) → is_event m.frames y ≡ false → GoesOnFrom (point_of b m y)
goes_on b m (focus.Gives values) e = some_frame b m.frames (Goes (given_seen b.texts values)) e
goes_on b m (focus.Jumps jump) e = some_frame b m.frames (Jumps (jump_seen b.texts jump)) e
goes_on b m (focus.Asks question) e = absurd cc
goes_on b m y e = tt

-- THE MEASURE: steps never rise, and where they stay the weight falls
pub turn_falls : (a : StoreView) (m : State) (x : Focus) (l : Left) (k : ℕ) (b : StoreView) (m' : State) (l' : Left) (k' : ℕ) (y : Focus) → is_event m.frames x ≡ false → MovesTo a m x l k b m' l' k' (turn.On y)
    → (l'.steps ≤ l.steps) × (l'.steps ≡ l.steps → weight (point_of b m' y) < weight (point_of a m x))
turn_falls a m x l k b m' l' k' y moving e =
    steps_or_weight_fall (world_seen m.codes.world) (point_of a m x) (slots_of a m) (funds_of l m no_tally k) (point_of b m' y) (slots_of b m') (funds_of l' m' no_tally k') (goes_on a m x moving) (e.makes no_tally k k' (omega arith))

-- SEVERAL MOVES AT ONCE
pub strode_goes : (s : StoreView) (m : State) (x : Focus) (l : Left) (k : ℕ) (t : StoreView) (m' : State) (l' : Left) (k' : ℕ) (y : Focus) → Strides s m (point_of s m x) l k t m' l' k' y → GoesTo s m x l k t m' l' k' (turn.On y)
strode_goes s m x l k t m' l' k' y e =
    (record { state = e.state; world = e.world; of = e.of; later = e.later; rises = e.rises; led = e.led }, omega (arith, e.falls), λ same. absurd (omega (arith, e.falls, same)))

-- ONE MOVE
pub move_goes : (s : StoreView) (m : State) (x : Focus) (l : Left) (k : ℕ) (t : StoreView) (m' : State) (l' : Left) (k' : ℕ) (r : Turn) → StateOf s m → FocusOf s x → is_event m.frames x ≡ false → MovesTo s m x l k t m' l' k' r → GoesTo s m x l k t m' l' k' r
move_goes s m x l k t m' l' k' (turn.On y) state of moving e =
    let falls = turn_falls s m x l k t m' l' k' y moving e in (turn_leads s m x l k s m l k x (at_start s m x l k state of) t m' l' k' y e, falls.0, falls.1)
move_goes s m x l k t m' l' k' (turn.Spent w) state of moving e = turn_ends s m x l k s m l k x (at_start s m x l k state of) t m' l' k' w e

-- TWO MOVES at the same store, of which the first takes nothing
pub two_go : (s : StoreView) (m : State) (x : Focus) (l : Left) (k : ℕ) (n : State) (y : Focus) (t : StoreView) (m' : State) (l' : Left) (k' : ℕ) (r : Turn) → StateOf s m → FocusOf s x → is_event m.frames x ≡ false
    → MovesTo s m x l k s n l k (turn.On y) → is_event n.frames y ≡ false → MovesTo s n y l k t m' l' k' r → GoesTo s m x l k t m' l' k' r
two_go s m x l k n y t m' l' k' (turn.On z) state of moving first still second =
    let before : LeadsTo s m x l k s n l k y = turn_leads s m x l k s m l k x (at_start s m x l k state of) s n l k y first in
    let falls = turn_falls s m x l k s n l k y moving first in
    let then = turn_falls s n y l k t m' l' k' z still second in (
      turn_leads s m x l k s n l k y before t m' l' k' z second,
      then.0,
      λ same. omega (arith, falls.1 refl, then.1 same),
    )
two_go s m x l k n y t m' l' k' (turn.Spent w) state of moving first still second =
    turn_ends s m x l k s n l k y (turn_leads s m x l k s m l k x (at_start s m x l k state of) s n l k y first) t m' l' k' w second

-- MOVES IN A ROW behind one: steps never rise, and where they stay the weight does not
abbrev Sinks : Point → Funds → Point → Funds → Type 0
Sinks p f q g = (g.left.steps ≤ f.left.steps) × (g.left.steps ≡ f.left.steps → weight q ≤ weight p)

-- (at its end, and at a question, a move leads nowhere else)
same_point_and_funds : (p q : Point) (s t : Slots) (f g : Funds) → Stands p s f ≡ Stands q t g → (p ≡ q) × (f ≡ g)
same_point_and_funds p q s t f g e = (cc, cc)

stays_there : (p q : Point) (s t : Slots) (f g : Funds) → Stands p s f ≡ Stands q t g → Sinks p f q g
stays_there p q s t f g e =
    let same = same_point_and_funds p q s t f g e in
    let steps : f.left.steps ≡ g.left.steps = ap (λ (x : Funds). x.left.steps) same.1 in
    let weights : weight p ≡ weight q = ap weight same.0 in
    (omega (arith, steps), λ h. omega (arith, weights))

module _ (world : CWorld) where
  falls_or_sinks : (p : Point) (s : Slots) (f : Funds) (q : Point) (t : Slots) (g : Funds) → GoesOnFrom p → enact (moves world p s) f ≡ Stands q t g → Sinks p f q g
  falls_or_sinks p s f q t g on e = let k = steps_or_weight_fall world p s f q t g on e in (k.0, λ same. omega (arith, k.1 same))

  move_sinks : (p : Point) (s : Slots) (f : Funds) (q : Point) (t : Slots) (g : Funds) → enact (moves world p s) f ≡ Stands q t g → Sinks p f q g
  move_sinks (Gives o []) s f q t g e = stays_there (Gives o []) q s t f g e
  move_sinks (Gives o (x ∷ fs)) s f q t g e = falls_or_sinks (Gives o (x ∷ fs)) s f q t g tt e
  move_sinks (Asking a fs) s f q t g e = stays_there (Asking a fs) q s t f g e
  move_sinks p s f q t g e = falls_or_sinks p s f q t g tt e

  moves_sink : {p : Point} {s : Slots} {f : Funds} {q : Point} {t : Slots} {g : Funds} → Reaches world p s f q t g → Sinks p f q g
  moves_sink here = (omega arith, λ same. omega arith)
  moves_sink (further r u h q t g before last) =
      let a = moves_sink before in
      let b = move_sinks r u h q t g last in
      (omega (arith, a.0, b.0), λ same. omega (arith, a.1 (omega (arith, a.0, b.0, same)), b.1 (omega (arith, a.0, b.0, same))))

pub goes_behind : (s : StoreView) (m : State) (x : Focus) (l : Left) (k : ℕ) (t : StoreView) (m' : State) (l' : Left) (k' : ℕ) (y : Focus) (u : StoreView) (n : State) (i : Left) (j : ℕ) (z : Focus) → GoesTo s m x l k t m' l' k' (turn.On y) → Follows t m' (point_of t m' y) l' k' u n i j z
    → GoesTo s m x l k u n i j (turn.On z)
goes_behind s m x l k t m' l' k' y u n i j z goes e =
    let sinks : (i.steps ≤ l'.steps) × (i.steps ≡ l'.steps → weight (point_of u n z) ≤ weight (point_of t m' y)) = moves_sink (world_seen m'.codes.world) (e.led no_tally k' j (omega arith)) in (
      leads_then s m x l k t m' l' k' y goes.0 u n i j z (record { state = e.state; world = e.world; of = e.of; later = e.later; rises = e.rises; led = e.led }),
      omega (arith, goes.1, sinks.0),
      λ same. omega (arith, goes.2 (omega (arith, goes.1, sinks.0, same)), sinks.1 (omega (arith, goes.1, sinks.0, same))),
    )

-- A ROW, with calls of the library in it, and the turn that it comes to
pub turn_goes : (s : StoreView) (m : State) (x : Focus) (l : Left) (k : ℕ) (t : StoreView) (m' : State) (l' : Left) (k' : ℕ) (r : Turn) → TurnsTo s m (point_of s m x) l k t m' l' k' r → GoesTo s m x l k t m' l' k' r
turn_goes s m x l k t m' l' k' (turn.On y) e = strode_goes s m x l k t m' l' k' y e
turn_goes s m x l k t m' l' k' (turn.Spent w) e = record { state = e.state; world = e.world; of = tt; later = e.later; rises = e.rises; led = e.led }

pub row_goes : (s : StoreView) (m : State) (x : Focus) (l : Left) (k : ℕ) (t : StoreView) (m' : State) (l' : Left) (k' : ℕ) (w : Went) (r : Turn) → StridesTo s m (point_of s m x) l k t m' l' k' w → IsTurn w r → GoesTo s m x l k t m' l' k' r
row_goes s m x l k t m' l' k' (went.On y) r e is = subst (GoesTo s m x l k t m' l' k') (sym is) (strode_goes s m x l k t m' l' k' (focus_of y) e)
row_goes s m x l k t m' l' k' (went.Turned y) r e is = subst (GoesTo s m x l k t m' l' k') (sym is) (turn_goes s m x l k t m' l' k' y.value e)

module _ (s : StoreView) (m : State) (x : Focus) (l : Left) (k : ℕ) (t : StoreView) (m' : State) (l' : Left) (k' : ℕ) (y : Focus) (u : StoreView) (n : State) (i : Left) (j : ℕ) where
  turn_behind : (r : Turn) → GoesTo s m x l k t m' l' k' (turn.On y) → TurnsTo t m' (point_of t m' y) l' k' u n i j r → GoesTo s m x l k u n i j r
  turn_behind (turn.On z) goes e = goes_behind s m x l k t m' l' k' y u n i j z goes (strides_follow t m' (point_of t m' y) l' k' u n i j z e)
  turn_behind (turn.Spent w) goes e = then_spent s m x l k t m' l' k' y goes.0 u n i j w (turn_goes t m' y l' k' u n i j (turn.Spent w) e)

  pub row_behind : (w : Went) (r : Turn) → GoesTo s m x l k t m' l' k' (turn.On y) → FollowsTo t m' (point_of t m' y) l' k' u n i j w → IsTurn w r → GoesTo s m x l k u n i j r
  row_behind (went.On z) r goes e is = subst (GoesTo s m x l k u n i j) (sym is) (goes_behind s m x l k t m' l' k' y u n i j (focus_of z) goes e)
  row_behind (went.Turned z) r goes e is = subst (GoesTo s m x l k u n i j) (sym is) (turn_behind z.value goes e)

pub is_on : (s : StoreView) (m : State) (x : Focus) (l : Left) (k : ℕ) (t : StoreView) (m' : State) (l' : Left) (k' : ℕ) (r : Turn) → GoesTo s m x l k t m' l' k' r → IsOn t m' r
is_on s m x l k t m' l' k' (turn.On y) e = (e.0.state, e.0.of)
is_on s m x l k t m' l' k' (turn.Spent w) e = tt
