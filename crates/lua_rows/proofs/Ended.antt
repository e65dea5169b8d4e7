-- A CALL THAT ANSWERED, or one that goes on: it is left, and its values reach the frames that wait; or the machine has a turn.
use Rattle.std.proofs.Common.{◌≡◌, ◌∙◌, ℕ, List, [], ◌∷◌, Option, Some, None, refl, sym, ap, subst}
use Rattle.std.specs.Prelude.{Bool, Result, Ok, IfOk}
use Rattle.std.specs.Borrow.{Bor}
use Rattle.std.proofs.lemmas.Result.{IfOk-weaker}
use Rattle.lua_turns.specs.PageRunOutcome.{Goes}
use Rattle.lua_turns.specs.WkBaseDeclaredLeftLeft.{Left}
use Rattle.lua_calls.specs.LuaBasicDeclaredStopStop.{Stop}
use Rattle.lua_calls.specs.Ends.{BegunMakes}
use Rattle.lua_code.specs.declared.expression.Expression.{Expression}
use Rattle.lua_code.specs.declared.statement.Statement.{Statement}
use Rattle.lua_code.specs.Seen.{expressions_seen}
use Rattle.lua_calls.specs.LuaGsubsDeclaredBeginningBegun.{Begun}
use Rattle.lua_calls.specs.LuaGsubsDeclaredBeginningBegunTheVariants as begun
use Rattle.lua_turns.specs.LuaGoesGoing.{Reaches}
use Rattle.lua_turns.specs.LuaInPlaceInPlace.{applied}
use Rattle.lua_turns.proofs.LuaInPlacePlain.{applied_is}
use Rattle.lua_turns.specs.LuaSlotsMoves.{moves}
use Rattle.lua_turns.specs.LuaSlotsPoints.{SFrame, MoreNext, UnaryNow, Point, Gives}
use Rattle.lua_turns.specs.LuaSlotsSlots.{all_opened, with_all}
use Rattle.lua_turns.specs.LuaStackDeclaredFocusFocus.{Focus}
use Rattle.lua_turns.specs.LuaStackDeclaredFocusFocusTheVariants as focus
use Rattle.lua_turns.specs.LuaStackDeclaredFrameEndingTheVariants as ending
use Rattle.lua_turns.specs.LuaStackDeclaredFrameFrame.{Frame}
use Rattle.lua_turns.specs.LuaStackDeclaredFrameFrameTheVariants as frame
use Rattle.lua_turns.specs.LuaStackDeclaredFrameInExpressionTheVariants as in_expression
use Rattle.lua_turns.specs.LuaStackDeclaredFrameInStatementTheVariants as in_statement
use Rattle.lua_turns.specs.LuaStackDeclaredRegisterSlot.{Slot}
use Rattle.lua_turns.specs.LuaStackDeclaredValuesGivenTheVariants as given
use Rattle.lua_turns.specs.LuaStackOf.{FocusOf, RegistersOf}
use Rattle.lua_turns.specs.LuaStackSeen.{activations_seen, focus_seen, registers_seen, values_seen}
use Rattle.lua_turns.proofs.LuaStackStay.{frames_later}
use Rattle.lua_turns.proofs.LuaLoopsBeginning.{functions_stay, opened_slots}
use Rattle.lua_turns.specs.LuaStateDeclaredStateState.{State}
use Rattle.lua_calls.specs.LuaStateDeclaredTurnTurn.{Turn}
use Rattle.lua_turns.specs.LuaStateDeclaredTurnTurnTheVariants as turn
use Rattle.lua_turns.specs.LuaStateCharges.{LeavesCall}
use Rattle.lua_turns.specs.LuaStateOf.{StateOf}
use Rattle.lua_turns.specs.LuaStateSeen.{frames_of, funds_of, slots_of}
use Rattle.lua_turns.specs.LuaStateWorlds.{world_seen}
use Rattle.lua_turns.proofs.LuaStateMaking.{stands}
use Rattle.lua_turns.specs.LuaStoreDeclaredValueValue.{Value}
use Rattle.lua_turns.specs.LuaStoreSeen.{StoreView, seen}
use Rattle.lua_turns.specs.LuaStoreParts.{IsLater, IsOf}
use Rattle.lua_turns.proofs.LuaStoreLater.{later-itself}
use Rattle.lua_turns.specs.LuaStridesStrides.{Strides}
use Rattle.lua_turns.proofs.LuaStridesPaths.{with_frames, with_frames_of}
use Rattle.lua_syntax.specs.declared.UnaryOp.{UnaryOp}
use Rattle.lua_turns.proofs.Following.{strides_then}
use Rattle.lua_turns.proofs.Freely.{left_library, popped, popped_here}
use Rattle.lua_rows.specs.declared.ready.Callee.{Callee}
use Rattle.lua_rows.specs.declared.rows.Went.{Went}
use Rattle.lua_rows.specs.declared.rows.Went.TheVariants as went
use Rattle.lua_rows.specs.Declaring.{declaring}
use Rattle.lua_rows.specs.Made.{IsMade, LeadsToCall, ends_above}
use Rattle.lua_rows.specs.Rows.{IsTurned, MayStrideTo, TurnsTo}

-- a state with so many calls
abbrev pub with_calls : State → ℕ → State
with_calls m n = record m { calls = n }

pub with_calls_of : (s : StoreView) (m : State) (n : ℕ) → StateOf s m → StateOf s (with_calls m n)
with_calls_of s m n h = record { frames = h.frames; regs = h.regs; functions = h.functions; env = h.env; modules = h.modules; loaded = h.loaded; scenes = h.scenes; codes = h.codes }

-- what is next, seen alike
pub strides_as : (s : StoreView) (m : State) (p : Point) (l : Left) (k : ℕ) (t : StoreView) (m' : State) (l' : Left) (k' : ℕ) (y z : Focus) → FocusOf t z → focus_seen t z (frames_of t m') ≡ focus_seen t y (frames_of t m')
    → Strides s m p l k t m' l' k' y → Strides s m p l k t m' l' k' z
strides_as s m p l k t m' l' k' y z of e c = record { state = c.state; world = c.world; of = of; later = c.later; rises = c.rises; falls = c.falls; led = λ told i j h. subst (λ (o : Point). Reaches (world_seen m.codes.world) p (slots_of s m) (funds_of l m told i) o (slots_of t m') (funds_of l' m' told j)) (sym e) (c.led told i j h) }

module _ (s : StoreView) (m : State) (callee : Callee) (arguments : List Value) (nodes : ℕ) (l : Left) (k : ℕ) (t : StoreView) (m' : State) (l' : Left) (k' : ℕ) where
  -- A CALL THAT GOES ON, above these frames
  pub begun_turns : (b : Result Begun Stop) (p : Point) (line : ℕ) (fs gs : List Frame) → IsMade s m callee arguments nodes l k t m' l' k' b → LeadsToCall s m callee arguments nodes p line fs → gs ≡ fs
      → (u : StoreView) (n : State) (i : Left) (r : Turn) → BegunMakes t (ends_above m' gs) l' (Some line) b u n i r → TurnsTo s m p l k u n i k' r
  begun_turns b p line fs gs made leads same u n i r makes = made.turns p line fs leads u n i r (subst (λ (hs : List Frame). BegunMakes t (ends_above m' hs) l' (Some line) b u n i r) same makes)

  -- the frames are those from before
  pub frames_same : (b : Result Begun Stop) → IsMade s m callee arguments nodes l k t m' l' k' b → m'.frames ≡ m.frames
  frames_same b made = ap (λ (x : State). x.frames) made.same

  -- A CALL THAT ANSWERED AND IS LEFT, whichever frames wait
  module _ (vs : List Value) (m'' : State) (l'' : Left) (made : IsMade s m callee arguments nodes l k t m' l' k' (Ok (begun.Answers vs))) (leaves : LeavesCall m' l' m'' l'') (same : m'' ≡ with_calls m' m''.calls) where
    pub left_of : StateOf t m''
    left_of = subst (StateOf t) (sym same) (with_calls_of t m' m''.calls made.state)

    pub frames_left : m''.frames ≡ m.frames
    frames_left = ap (λ (x : State). x.frames) same ∙ frames_same (Ok (begun.Answers vs)) made

    answered : (p : Point) (line : ℕ) (fs : List Frame) → LeadsToCall s m callee arguments nodes p line fs → StateOf t (ends_above m' fs) → Strides s m p l k t (ends_above m' fs) l' k' (focus.Gives (given.Many vs))
    answered p line fs leads of =
        made.turns p line fs leads t (ends_above m' fs) l' (turn.On (focus.Gives (given.Many vs)))
        (refl, stands t t (ends_above m' fs) (ends_above m' fs) l' _ (focus.Gives (given.Many vs)) of refl refl refl (later-itself t) made.of refl)

    pub ended : (p : Point) (line : ℕ) (fs gs : List Frame) → LeadsToCall s m callee arguments nodes p line fs → gs ≡ fs → Strides s m p l k t (with_frames m'' gs) l'' k' (focus.Gives (given.Many vs))
    ended p line fs gs leads e =
        let y = focus.Gives (given.Many vs) in
        let of : StateOf t (ends_above m' fs) = with_frames_of t m' (frame.End ending.LibraryEnd ∷ fs) made.state (tt, frames_later s t made.later fs leads.frames) in
        strides_then s m p l k t (ends_above m' fs) l' k' y t (with_frames m'' gs) l'' k' y (answered p line fs leads of)
        (left_library t (ends_above m' fs) (with_frames m'' gs) l' l'' k' (Goes (values_seen t.texts vs)) (frame.End ending.LibraryEnd) fs gs y of refl e made.of leaves (ap (λ (x : State). with_frames x gs) same) (λ world hs. refl))

    -- the values are next, however they are held
    pub handed : (p : Point) (line : ℕ) (y : Focus) → LeadsToCall s m callee arguments nodes p line m.frames → FocusOf t y → ((fs : List SFrame) → focus_seen t y fs ≡ Gives (Goes (values_seen t.texts vs)) fs) → Strides s m p l k t m'' l'' k' y
    handed p line y leads of is = strides_as s m p l k t m'' l'' k' (focus.Gives (given.Many vs)) y of (is (frames_of t m'')) (ended p line m.frames m''.frames leads frames_left)

    -- a frame waits for them that was not there before
    pub handed_above : (p : Point) (line : ℕ) (f : Frame) (gs : List Frame) (y : Focus) → LeadsToCall s m callee arguments nodes p line (f ∷ m.frames) → gs ≡ f ∷ m''.frames → FocusOf t y
        → ((fs : List SFrame) → focus_seen t y fs ≡ Gives (Goes (values_seen t.texts vs)) fs) → Strides s m p l k t (with_frames m'' gs) l'' k' y
    handed_above p line f gs y leads e of is =
        strides_as s m p l k t (with_frames m'' gs) l'' k' (focus.Gives (given.Many vs)) y of (is (frames_of t (with_frames m'' gs)))
        (ended p line (f ∷ m.frames) gs leads (e ∙ ap (λ (fs : List Frame). f ∷ fs) frames_left))

    -- an operator that waited for them gives its result
    pub operated : (p : Point) (line at : ℕ) (op : UnaryOp) (x v : Value) → vs ≡ x ∷ [] → applied t.heap op (seen t.texts x) ≡ Some (seen t.texts v) → IsOf t v
        → LeadsToCall s m callee arguments nodes p line (frame.Expression (in_expression.UnaryNow op at) ∷ m.frames) → Strides s m p l k t m'' l'' k' (focus.Gives (given.One v))
    operated p line at op x v one is of leads =
        let f = frame.Expression (in_expression.UnaryNow op at) in
        let z = with_frames m'' (f ∷ m.frames) in
        let c = ended p line (f ∷ m.frames) (f ∷ m.frames) leads refl in
        strides_then s m p l k t z l'' k' (focus.Gives (given.Many vs)) t m'' l'' k' (focus.Gives (given.One v)) c
        (popped_here t z l'' k' (Goes (values_seen t.texts vs)) f m.frames m''.frames m''.regs (focus.Gives (given.One v)) (slots_of t m'') c.state refl frames_left left_of.regs (of, tt)
        (λ world gs. ap (λ (ws : List Value). moves world (Gives (Goes (values_seen t.texts ws)) (UnaryNow op at ∷ gs)) (slots_of t m'')) one ∙ applied_is (Some at) gs (slots_of t m'') op (seen t.texts x) (seen t.texts v) is) refl)

    -- a statement follows: the values go nowhere
    pub passed : (p : Point) (line : ℕ) (rest : Bor (List Statement)) → LeadsToCall s m callee arguments nodes p line (frame.Statement (in_statement.StatsNext rest) ∷ m.frames) → Strides s m p l k t m'' l'' k' (focus.Runs rest)
    passed p line rest leads =
        let f = frame.Statement (in_statement.StatsNext rest) in
        let x = with_frames m'' (f ∷ m.frames) in
        let c = ended p line (f ∷ m.frames) (f ∷ m.frames) leads refl in
        strides_then s m p l k t x l'' k' (focus.Gives (given.Many vs)) t m'' l'' k' (focus.Runs rest) c
        (popped_here t x l'' k' (Goes (values_seen t.texts vs)) f m.frames m''.frames m''.regs (focus.Runs rest) (slots_of t m'') c.state refl frames_left left_of.regs tt (λ world gs. refl) refl)

    -- a declaration has its values: there are new variables, in a store that may have grown by cells
    module _ (p : Point) (line : ℕ) (none : Bor (List Expression)) (flags : Bor (List Bool)) (rest : Bor (List Statement)) (is : none.now ≡ []) (leads : LeadsToCall s m callee arguments nodes p line (declaring none flags rest m.frames)) where
      listed : Strides s m p l k t (with_frames m'' (frame.Statement (in_statement.DeclareNow flags rest) ∷ m.frames)) l'' k' (focus.Gives (given.Many vs))
      listed =
          let f = frame.Expression (in_expression.MoreNext none []) in
          let more : List Frame = frame.Statement (in_statement.DeclareNow flags rest) ∷ m.frames in
          let y = focus.Gives (given.Many vs) in
          let o = Goes (values_seen t.texts vs) in
          let c = ended p line (f ∷ more) (f ∷ more) leads refl in
          strides_then s m p l k t (with_frames m'' (f ∷ more)) l'' k' y t (with_frames m'' more) l'' k' y c
          (popped_here t (with_frames m'' (f ∷ more)) l'' k' o f more more m''.regs y (slots_of t m'') c.state refl refl left_of.regs made.of
          (λ world gs. ap (λ (es : List Expression). moves world (Gives o (MoreNext (expressions_seen es) [] ∷ gs)) (slots_of t m'')) is) refl)

      pub declared : (u : StoreView) (regs : List Slot) → IsLater t u → u.texts ≡ t.texts → RegistersOf u regs
          → (u.heap, registers_seen u.texts regs) ≡ with_all flags.now (values_seen t.texts vs) (t.heap, registers_seen t.texts m''.regs) → Strides s m p l k u (record m'' { regs = regs }) l'' k' (focus.Runs rest)
      declared u regs later texts of e =
          let f = frame.Statement (in_statement.DeclareNow flags rest) in
          let x = with_frames m'' (f ∷ m.frames) in
          let o = values_seen t.texts vs in
          let kept = functions_stay t u m'' left_of later in
          let c = listed in
          strides_then s m p l k t x l'' k' (focus.Gives (given.Many vs)) u (record m'' { regs = regs }) l'' k' (focus.Runs rest) c
          (popped t u x l'' k' (Goes o) f m.frames m''.frames regs (focus.Runs rest) (all_opened flags.now o (slots_of t m'')) c.state later texts refl frames_left
          (frames_later t u later (f ∷ m.frames) c.state.frames) of kept.0 tt (λ world gs. refl)
          (sym (opened_slots t u m'' m''.frames regs m''.functions (with_all flags.now o (t.heap, registers_seen t.texts m''.regs)) (activations_seen t m''.functions) left_of later e kept.1)))

-- A TURN, with which a row ends
turned_at : (s : StoreView) (m : State) (p : Point) (l : Left) (k : ℕ) (u : StoreView) (n : State) (i : Left) (k' : ℕ) (r : Turn) (w : Option Went) → TurnsTo s m p l k u n i k' r → IsTurned w r → MayStrideTo s m p l k u n i k' w
turned_at s m p l k u n i k' r (Some (went.Turned x)) h e = subst (TurnsTo s m p l k u n i k') (sym e) h
turned_at s m p l k u n i k' r (Some (went.On y)) h e = absurd e
turned_at s m p l k u n i k' r None h e = absurd e

pub turned_goes : {E : Type 0} (s : StoreView) (m : State) (p : Point) (l : Left) (k : ℕ) (u : StoreView) (n : State) (i : Left) (k' : ℕ) (r : Turn) (w : Result (Option Went) E) → TurnsTo s m p l k u n i k' r
    → IfOk w (λ x. IsTurned x r) → IfOk w (MayStrideTo s m p l k u n i k')
turned_goes s m p l k u n i k' r w h e = IfOk-weaker w (λ x. IsTurned x r) (MayStrideTo s m p l k u n i k') (λ x. turned_at s m p l k u n i k' r x h) e
