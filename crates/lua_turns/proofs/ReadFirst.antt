-- A NODE whose first operand is read in place, and what is next then.
use Rattle.std.proofs.Common.{◌≡◌, ◌≤◌, ◌+◌, ◌-◌, ◌∙◌, ℕ, true, List, [], ◌∷◌, Some, refl, sym, ap, subst, arith}
use Rattle.lua_loops.specs.WkBaseDeclaredLeftLeft.{Left}
use Rattle.lua_loops.specs.PageRunOutcome.{Goes}
use Rattle.lua_code.specs.LuaHeapValue.{Value as Plain}
use Rattle.lua_code.specs.declared.expression.Expression.{Expression}
use Rattle.lua_code.specs.Seen.{expressions_seen}
use Rattle.std.specs.Borrow.{Bor}
use Rattle.lua_code.specs.LuaSlotsCode.{CExp, CExps, CallC, CWorld}
use Rattle.lua_operators.specs.LuaSlotsErrors.{node}
use Rattle.lua_loops.specs.LuaSlotsMoves.{moves}
use Rattle.lua_operators.specs.LuaSlotsPoints.{SFrame, First, ArgumentsNext, CallNow, Point, Gives, Evals, Lists, Now}
use Rattle.lua_operators.specs.LuaSlotsSlots.{Slots}
use Rattle.lua_strides.proofs.LuaInPlaceNodes.{nodes_are_some}
use Rattle.lua_operators.specs.LuaSlotsEnact.{Funds}
use Rattle.lua_strides.specs.LuaGoesGoing.{Reaches}
use Rattle.lua_strides.specs.LuaInPlaceLaws.{after_nodes}
use Rattle.lua_strides.proofs.LuaInPlaceReading.{with_count, reach_then, reads, read_in_place}
use Rattle.lua_strides.proofs.LuaInPlaceStatements.{Leads, free, free_last, behind_node}
use Rattle.lua_operators.specs.LuaStoreDeclaredValueValue.{Value}
use Rattle.lua_operators.specs.LuaStoreSeen.{StoreView, seen}
use Rattle.lua_strides.specs.LuaStackDeclaredFocusFocus.{Focus}
use Rattle.lua_strides.specs.LuaStackDeclaredFocusFocusTheVariants as focus
use Rattle.lua_strides.specs.LuaStackDeclaredFrameFrame.{Frame}
use Rattle.lua_strides.specs.LuaStackDeclaredValuesGivenTheVariants as given
use Rattle.lua_operators.specs.LuaStackDeclaredFrameFrameTheVariants as frame
use Rattle.lua_operators.specs.LuaStackDeclaredFrameInExpressionTheVariants as in_expression
use Rattle.lua_operators.specs.LuaStackOf.{FocusOf, FrameOf, FramesOf, ValuesOf}
use Rattle.lua_operators.specs.LuaStackSeen.{focus_seen, frame_seen, frames_seen, values_seen}
use Rattle.lua_strides.specs.LuaStateDeclaredStateState.{State}
use Rattle.lua_loops.specs.LuaStateOf.{StateOf}
use Rattle.lua_loops.specs.LuaStateSeen.{slots_of, frames_of, constants_in}
use Rattle.lua_loops.specs.LuaStateWorlds.{world_seen}
use Rattle.lua_strides.specs.declared.reading.ValueRead.{ValueRead}
use Rattle.lua_strides.specs.Reads.{ReadsTo}
use Rattle.lua_strides.specs.Strides.{PaysNodes, Strides, LeadsAt, Ready}
use Rattle.lua_strides.proofs.Paths.{with_frames, with_frames_of, strode, at_once}

-- AN EXPRESSION that is read in place is given
pub value_given : (s : StoreView) (m : State) (e : CExp) (r : ValueRead) (l l' : Left) (k k' : ℕ) → StateOf s m → ReadsTo s m e (Some r) → PaysNodes r.nodes l k l' k' true → Strides s m (Evals e (frames_of s m)) l k s m l' k' (focus.Gives (given.One r.value))
value_given s m e r l l' k k' of got pays =
    let v : Plain = seen s.texts r.value in
    strode s m (Evals e (frames_of s m)) r.nodes (focus.Gives (given.One r.value)) m.frames l l' k k'
    (record {
      state = of;
      of = (got.of, tt);
      frames = of.frames;
      some = nodes_are_some (constants_in s m) e (slots_of s m) v r.nodes got.is;
      leads = λ f le. read_in_place (world_seen m.codes.world) e (slots_of s m) v r.nodes got.is (frames_of s m) f le;
    }) pays

-- one frame more waits
pub waits_of : (s : StoreView) (m : State) (f : Frame) (fs : List Frame) → StateOf s m → FrameOf s f → fs ≡ f ∷ m.frames → StateOf s (with_frames m fs)
waits_of s m f fs of known is = with_frames_of s m fs of (subst (FramesOf s) (sym is) (known, of.frames))

-- A NODE with an operand for which a frame would wait. What that frame makes of the value is next, above other frames.
module _ (s : StoreView) (m : State) (e a : CExp) (waits : SFrame) (r : ValueRead) (of : StateOf s m) (got : ReadsTo s m a (Some r))
    (start : moves (world_seen m.codes.world) (Evals e (frames_of s m)) (slots_of s m) ≡ node (Now (Evals a (waits ∷ frames_of s m)) (slots_of s m))) where
  -- its own world
  abbrev own : CWorld
  own = world_seen m.codes.world

  -- the value reaches the frame that would wait
  abbrev reached : Point
  reached = Gives (Goes (seen s.texts r.value ∷ [])) (waits ∷ frames_of s m)

  led_to : Leads own (Evals e (frames_of s m)) (slots_of s m) (1 + r.nodes) reached (slots_of s m)
  led_to =
      let x : Slots = slots_of s m in
      let fs : List SFrame = frames_of s m in
      behind_node own (Evals e fs) (Evals a (waits ∷ fs)) x r.nodes reached x start (reads own x a (seen s.texts r.value) r.nodes got.is (waits ∷ fs))

  -- that frame waits, and the value is given to it
  pub given_first : (f : Frame) → waits ≡ frame_seen s.texts f → FrameOf s f → Ready s m (Evals e (frames_of s m)) (1 + r.nodes) (focus.Gives (given.One r.value)) (f ∷ m.frames)
  given_first f as_seen known =
      let x : Slots = slots_of s m in
      let fs : List SFrame = frames_of s m in
      record {
        state = of;
        of = (got.of, tt);
        frames = (known, of.frames);
        some = omega arith;
        leads = subst (λ (z : SFrame). LeadsAt own (Evals e fs) x (1 + r.nodes) (Gives (Goes (seen s.texts r.value ∷ [])) (z ∷ fs)) x) as_seen (at_once own (Evals e fs) x (1 + r.nodes) reached x led_to);
      }

  -- or it does not wait: what it makes of the value is next
  pub led_first : (q : Point) → moves own reached (slots_of s m) ≡ Now q (slots_of s m) → LeadsAt own (Evals e (frames_of s m)) (slots_of s m) (1 + r.nodes) q (slots_of s m)
  led_first q takes =
      let x : Slots = slots_of s m in
      let fs : List SFrame = frames_of s m in
      at_once own (Evals e fs) x (1 + r.nodes) q x
      (behind_node own (Evals e fs) (Evals a (waits ∷ fs)) x r.nodes q x start
      (free_last own r.nodes (reads own x a (seen s.texts r.value) r.nodes got.is (waits ∷ fs)) (free own reached x q x takes)))

  pub strode_first : (y : Focus) (new fs : List Frame) (l l' : Left) (k k' : ℕ) → FocusOf s y → FramesOf s new → fs ≡ new → moves own reached (slots_of s m) ≡ Now (focus_seen s y (frames_seen s.texts new)) (slots_of s m) → PaysNodes (1 + r.nodes) l k l' k' true
      → Strides s m (Evals e (frames_of s m)) l k s (with_frames m fs) l' k' y
  strode_first y new fs l l' k k' known frames is takes pays =
      subst (λ (z : List Frame). Strides s m (Evals e (frames_of s m)) l k s (with_frames m z) l' k' y) (sym is)
      (strode s m (Evals e (frames_of s m)) (1 + r.nodes) y new l l' k k'
      (record { state = of; of = known; frames = frames; some = omega arith; leads = led_first (focus_seen s y (frames_seen s.texts new)) takes }) pays)

-- A CALL whose function is read in place: its arguments are next
pub call_first : (s : StoreView) (m : State) (a : CExp) (args : List Expression) (slice : Bor (List Expression)) (line : ℕ) (r : ValueRead) (none : List Value) (fs : List Frame) (l l' : Left) (k k' : ℕ) → StateOf s m → ReadsTo s m a (Some r) → slice.now ≡ args → none ≡ []
    → fs ≡ frame.Expression (in_expression.CallNow r.value line) ∷ m.frames → PaysNodes (1 + r.nodes) l k l' k' true → Strides s m (Evals (CallC a (expressions_seen args) line) (frames_of s m)) l k s (with_frames m fs) l' k' (focus.Lists slice none)
call_first s m a args slice line r none fs l l' k k' of got same nothing is pays =
    let x : Slots = slots_of s m in
    let es : CExps = expressions_seen args in
    let gs : List SFrame = CallNow (seen s.texts r.value) line ∷ frames_of s m in
    strode_first s m (CallC a es line) a (ArgumentsNext es line) r of got refl (focus.Lists slice none) (frame.Expression (in_expression.CallNow r.value line) ∷ m.frames) fs l l' k k' (subst (ValuesOf s) (sym nothing) tt) (got.of, of.frames) is
    (ap (λ (z : List Expression). Now (Lists (expressions_seen z) [] gs) x) (sym same) ∙ ap (λ (z : List Value). Now (Lists (expressions_seen slice.now) (values_seen s.texts z) gs) x) (sym nothing)) pays

-- MORE NODES behind some
after_more : (n n' : ℕ) (f : Funds) → after_nodes n' (after_nodes n f) ≡ after_nodes (n + n') f
after_more n n' f =
    ap (λ (i : ℕ). with_count f i (f.tally.nodes + n + n')) (less_more f.left.steps n n') ∙ ap (λ (i : ℕ). with_count f (f.left.steps - (n + n')) i) (more_still f.tally.nodes n n')
  where
    less_more : (i n n' : ℕ) → i - n - n' ≡ i - (n + n')
    less_more i n n' = omega arith

    more_still : (i n n' : ℕ) → i + n + n' ≡ i + (n + n')
    more_still i n n' = omega arith

leads_then : (world : CWorld) (p : Point) (s : Slots) (n n' : ℕ) (q r : Point) → LeadsAt world p s n q s → LeadsAt world q s n' r s → LeadsAt world p s (n + n') r s
leads_then world p s n n' q r a b f le = subst (λ (g : Funds). Reaches world p s f r s g) (after_more n n' f) (reach_then (a f (omega (arith, le))) (b (after_nodes n f) (omega (arith, le))))

-- THE SECOND OPERAND of `and` or `or`, behind nodes that are not paid yet
module _ (s : StoreView) (m : State) (p : Point) (n : ℕ) (of : StateOf s m) (some : 1 ≤ n) where
  pub second_read : (e : CExp) (r : ValueRead) → ReadsTo s m e (Some r) → LeadsAt (world_seen m.codes.world) p (slots_of s m) n (Evals e (First ∷ frames_of s m)) (slots_of s m) → Ready s m p (n + r.nodes) (focus.Gives (given.One r.value)) m.frames
  second_read e r got leads =
      let world : CWorld = world_seen m.codes.world in
      let x : Slots = slots_of s m in
      let v : Plain = seen s.texts r.value in
      let q : Point = Gives (Goes (v ∷ [])) (frames_of s m) in
      record {
        state = of;
        of = (got.of, tt);
        frames = of.frames;
        some = omega (arith, some);
        leads = leads_then world p x n r.nodes (Evals e (First ∷ frames_of s m)) q leads
            (at_once world (Evals e (First ∷ frames_of s m)) x r.nodes q x
            (free_last world r.nodes (reads world x e v r.nodes got.is (First ∷ frames_of s m)) (free world (Gives (Goes (v ∷ [])) (First ∷ frames_of s m)) x q x refl)));
      }

  pub second_waits : (e : Bor Expression) → LeadsAt (world_seen m.codes.world) p (slots_of s m) n (focus_seen s (focus.Evaluates e) (First ∷ frames_of s m)) (slots_of s m) → Ready s m p n (focus.Evaluates e) (frame.Expression in_expression.First ∷ m.frames)
  second_waits e leads = record { state = of; of = tt; frames = (tt, of.frames); some = some; leads = leads }
