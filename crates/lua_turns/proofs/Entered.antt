-- A FUNCTION OF LUA IS ENTERED, from where its arguments reach the frame that calls it.
use Rattle.std.proofs.Common.{◌≡◌, ◌∙◌, ◌≤◌, ◌+◌, ◌-◌, ℕ, Bool, true, false, List, [], ◌∷◌, length, Option, Some, None, refl, sym, ap, subst, arith}
use Rattle.std.specs.Prelude.{IfSome}
use Rattle.lua_loops.specs.WkBaseDeclaredLeftLeft.{Left}
use Rattle.lua_loops.specs.PageRunOutcome.{Goes}
use Rattle.lua_code.specs.PageRunPerform.{less}
use Rattle.lua_operators.specs.PageRunState.{Tally, no_tally}
use Rattle.lua_code.proofs.PageRunLess.{less_of}
use Rattle.lua_code.specs.LuaHeapProc.{Proc}
use Rattle.lua_code.specs.LuaHeapHeap.{Heap, Function as FunctionClosed, closure_at, Closed}
use Rattle.lua_code.specs.LuaHeapValue.{Value as Plain, Closure}
use Rattle.lua_operators.specs.LuaStoreDeclaredIdsClosureId.{ClosureId}
use Rattle.lua_operators.specs.LuaStoreDeclaredValueValue.{Value}
use Rattle.lua_operators.specs.LuaStoreSeen.{StoreView}
use Rattle.lua_operators.specs.LuaStoreParts.{IsLater}
use Rattle.lua_loops.specs.LuaSlotsCalls.{call, enter, enters_body, body_of, code_of, slots_in_body}
use Rattle.lua_code.specs.LuaSlotsCode.{CProto, CWorld}
use Rattle.lua_operators.specs.LuaSlotsEnact.{Funds, Enacted, Stands, Short, paid, calling, enact}
use Rattle.lua_operators.specs.LuaSlotsErrors.{gives}
use Rattle.lua_loops.specs.LuaSlotsMoves.{moves}
use Rattle.lua_operators.specs.LuaSlotsPoints.{BodyS, BodyEnd, SFrame, Point, Gives, Runs, Starts, Move, Costs, Marks, Enters, Now}
use Rattle.lua_operators.specs.LuaSlotsSlots.{Slots, with_all}
use Rattle.lua_strides.specs.LuaGoesGoing.{Reaches, here, further}
use Rattle.lua_loops.proofs.Beginning.{with_parts}
use Rattle.lua_loops.proofs.Entering.{with_codes, with_codes_of, entered, functions_of, body_slots}
use Rattle.lua_operators.specs.LuaStackDeclaredActivationActivation.{Activation}
use Rattle.lua_operators.specs.LuaStackDeclaredActivationCallee.{Callee}
use Rattle.lua_strides.specs.LuaStackDeclaredFocusFocus.{Focus}
use Rattle.lua_strides.specs.LuaStackDeclaredFocusFocusTheVariants as focus
use Rattle.lua_operators.specs.LuaStackDeclaredFrameEndingTheVariants as ending
use Rattle.lua_strides.specs.LuaStackDeclaredFrameFrame.{Frame}
use Rattle.lua_operators.specs.LuaStackDeclaredFrameFrameTheVariants as frame
use Rattle.lua_operators.specs.LuaStackDeclaredRegisterSlot.{Slot}
use Rattle.lua_strides.specs.LuaStackDeclaredValuesGivenTheVariants as given
use Rattle.lua_operators.specs.LuaStackOf.{CalleeOf, FocusOf, FramesOf, RegistersOf, ValuesOf}
use Rattle.lua_operators.specs.LuaStackSeen.{callee_seen, focus_seen, frame_seen, frames_seen, registers_seen, values_seen}
use Rattle.lua_operators.proofs.LuaStackStay.{frames_later}
use Rattle.lua_loops.specs.LuaStateDeclaredCodesCodes.{Codes}
use Rattle.lua_strides.specs.LuaStateDeclaredStateState.{State}
use Rattle.lua_loops.specs.LuaStateCharges.{EntersCall}
use Rattle.lua_loops.specs.LuaStateOf.{StateOf}
use Rattle.lua_loops.specs.LuaStateSeen.{slots_of, frames_of, funds_of}
use Rattle.lua_loops.specs.LuaStateWorlds.{world_seen, CodesOf}
use Rattle.lua_loops.proofs.LuaStateStaying.{state_later}
use Rattle.lua_operators.proofs.LuaStoreLater.{later-itself}
use Rattle.lua_turns.specs.Rows.{Follows}
use Rattle.lua_turns.proofs.Freely.{below_of}

-- WHAT IS CALLED
pub function_called : (s : StoreView) (id : ClosureId) (r : Option Callee) (args : List Plain) (line : Option ℕ) (fs : List SFrame) (x : Slots) → x.heap ≡ s.heap → IfSome r (λ c. closure_at s.heap id.at ≡ Some (FunctionClosed (callee_seen s c)))
    → IfSome r (λ c. call (Closure id.at) args line fs x ≡ Now (Starts (BodyS (callee_seen s c) args line) fs) x)
function_called s id (Some c) args line fs x e h =
    ap (λ (hp : Heap Proc). enter (Closure id.at) (closure_at hp id.at) args line fs x) e ∙ ap (λ (o : Option (Closed Proc)). enter (Closure id.at) o args line fs x) h
function_called s id None args line fs x e h = tt

-- A CALL IS LEFT, so it is entered
abbrev steps_there : Enacted → ℕ
steps_there (Stands p s f) = f.left.steps
steps_there (Short w f) = f.left.steps

steps_called : (o : Option ℕ) (f : Funds) (q : Point) (z : Slots) → steps_there (calling o f (enact (Now q z))) ≡ f.left.steps
steps_called (Some r) f q z = refl
steps_called None f q z = refl

abbrev is_standing : Enacted → Bool
is_standing (Stands p s f) = true
is_standing (Short w f) = false

pub never_short : (m m' : State) (l l' : Left) (z : Slots) → 1 ≤ l.calls → EntersCall m l m' l' false → ⊥
never_short m m' l l' z some short =
    let mv : Move = Now (Gives (Goes []) []) z in
    let f : Funds = funds_of l m no_tally 0 in
    let there : calling (less 1 l.calls) f (enact mv) ≡ calling (Some (l.calls - 1)) f (enact mv) = ap (λ (o : Option ℕ). calling o f (enact mv)) (less_of 1 l.calls some) in
    let same : true ≡ false = ap is_standing (sym there ∙ short mv no_tally 0) in
    cc

steps_kept : (m m' : State) (l l' : Left) (z : Slots) → EntersCall m l m' l' true → l'.steps ≡ l.steps
steps_kept m m' l l' z pays =
    sym (ap steps_there (pays (Now (Gives (Goes []) []) z) no_tally 0)) ∙ steps_called (less 1 l.calls) (funds_of l m no_tally 0) (Gives (Goes []) []) z

-- THE STATE then
abbrev pub with_body : State → Codes → ℕ → ℕ → List Frame → List Slot → List Activation → State
with_body m codes n h fs regs fns = record m { codes = codes; calls = n; height = h; frames = fs; regs = regs; functions = fns }

module _ (s : StoreView) (m : State) (l : Left) (k : ℕ) (f : Callee) (args : List Value) (line : ℕ) (g : Frame) (more : List Frame) (codes : Codes) (of : StateOf s m) (e : m.frames ≡ g ∷ more) (world : codes.world ≡ m.codes.world) (some : 1 ≤ l.steps)
    (start : (w : CWorld) (gs : List SFrame) → moves w (Gives (Goes (values_seen s.texts args)) (frame_seen s.texts g ∷ gs)) (slots_of s m) ≡ Now (Starts (BodyS (callee_seen s f) (values_seen s.texts args) (Some line)) gs) (slots_of s m)) where
  abbrev vs : List Plain
  vs = values_seen s.texts args

  abbrev behind : List SFrame
  behind = frames_seen s.texts more

  abbrev less_one : Left
  less_one = record l { steps = l.steps - 1 }

  -- its step is taken
  stepped : (told : Tally) (n : ℕ) (mv : Move) (q : Point) (z : Slots) (h : Funds) → enters_body (world_seen m.codes.world) (callee_seen s f) vs (Some line) behind (slots_of s m) ≡ mv → enact mv (funds_of less_one m told n) ≡ Stands q z h
      → Reaches (world_seen m.codes.world) (Gives (Goes vs) (frames_of s m)) (slots_of s m) (funds_of l m told n) q z h
  stepped told n mv q z h is done =
      let w : CWorld = world_seen m.codes.world in
      let x : Slots = slots_of s m in
      let fn : Funds = funds_of l m told n in
      let p : Point = Gives (Goes vs) (frames_of s m) in
      let b : Point = Starts (BodyS (callee_seen s f) vs (Some line)) behind in
      further b x fn q z h (further p x fn b x fn here (ap (λ (mv : Move). enact mv fn) (ap (λ (fs : List Frame). moves w (Gives (Goes vs) (frames_seen s.texts fs)) x) e ∙ start w behind)))
      (ap (λ (mv : Move). enact (Costs 1 mv) fn) is ∙ ap (λ (o : Option ℕ). paid o fn (enact mv)) (less_of 1 l.steps some) ∙ done)

  -- its code is not there
  pub no_body : (fs : List Frame) → fs ≡ more → CodesOf s codes → (code_of ((world_seen m.codes.world).modules (callee_seen s f).title)).function (callee_seen s f).index ≡ None
      → Follows s m (Gives (Goes vs) (frames_of s m)) l k s (record m { codes = codes; frames = fs }) less_one k (focus.Gives (given.Many []))
  no_body fs n known none =
      let w : CWorld = world_seen m.codes.world in
      let x : Slots = slots_of s m in
      let kept : StateOf s (with_codes m codes) = with_codes_of s m codes of known in
      record {
        state = record { frames = below_of s m.frames fs more g e n of.frames; regs = of.regs; functions = of.functions; env = of.env; modules = of.modules; loaded = of.loaded; scenes = of.scenes; codes = kept.codes };
        world = world;
        of = tt;
        later = later-itself s;
        rises = omega arith;
        sinks = omega arith;
        led = λ told i j h.
            let one : i ≡ j = omega (arith, h) in
            subst (λ (d : ℕ). Reaches w (Gives (Goes vs) (frames_of s m)) x (funds_of l m told i) (Gives (Goes []) (frames_seen s.texts fs)) x (funds_of less_one m told d)) one
            (subst (λ (gs : List Frame). Reaches w (Gives (Goes vs) (frames_of s m)) x (funds_of l m told i) (Gives (Goes []) (frames_seen s.texts gs)) x (funds_of less_one m told i)) (sym n)
            (stepped told i (gives [] behind x) (Gives (Goes []) behind) x (funds_of less_one m told i) (ap (λ (o : Option CProto). body_of o (callee_seen s f) vs (Some line) behind x) none) refl));
      }

  -- it is: the body is next
  pub body_follows : (u : StoreView) (p : CProto) (m2 : State) (l2 : Left) (k' : ℕ) (fs : List Frame) (regs : List Slot) (fns : List Activation) (reach : ℕ) (y : Focus) → fs ≡ frame.End ending.BodyEnd ∷ more → CodesOf s codes
      → (code_of ((world_seen m.codes.world).modules (callee_seen s f).title)).function (callee_seen s f).index ≡ Some p
      → EntersCall (with_codes m codes) less_one m2 l2 true → k' ≡ k + 1 → CalleeOf s f → ValuesOf s args → IsLater s u → u.texts ≡ s.texts → RegistersOf u regs
      → (u.heap, registers_seen u.texts regs) ≡ with_all p.flags vs (s.heap, registers_seen s.texts m.regs) → fns ≡ entered f p.dots (length p.flags) args (Some line) m.regs reach ∷ m.functions
      → FocusOf u y → ((gs : List SFrame) → focus_seen u y gs ≡ Runs p.body gs)
      → Follows s m (Gives (Goes vs) (frames_of s m)) l k u (with_body m codes m2.calls m2.height fs regs fns) l2 k' y
  body_follows u p m2 l2 k' fs regs fns reach y n known code pays more_by callee values later texts r opened made y_of point =
      let w : CWorld = world_seen m.codes.world in
      let x : Slots = slots_of s m in
      let kept : StateOf u (with_codes m codes) = state_later s u later (with_codes m codes) (with_codes_of s m codes of known) in
      let body : Slots = slots_in_body (callee_seen s f) p vs (Some line) x in
      let q : Point = Runs p.body (BodyEnd ∷ behind) in
      let same : slots_of u (with_parts m fs regs fns) ≡ body = body_slots s u m f p args (Some line) reach of callee values later texts fs regs fns made opened in
      let there : focus_seen u y (frames_seen u.texts fs) ≡ q = point (frames_seen u.texts fs) ∙ ap (λ (z : List Frame). Runs p.body (frames_seen u.texts z)) n ∙ ap (λ t. Runs p.body (BodyEnd ∷ frames_seen t more)) texts in
      let steps : l2.steps ≡ l.steps - 1 = steps_kept (with_codes m codes) m2 less_one l2 x pays in
      record {
        state = record {
          frames = subst (FramesOf u) (sym n) (tt, (subst (FramesOf u) e (frames_later s u later m.frames of.frames)).1);
          regs = r;
          functions = functions_of s u m f p args (Some line) reach of callee values later texts fns made;
          env = kept.env;
          modules = kept.modules;
          loaded = kept.loaded;
          scenes = kept.scenes;
          codes = kept.codes;
        };
        world = world;
        of = y_of;
        later = later;
        rises = omega (arith, more_by);
        sinks = omega (arith, steps);
        led = λ told i j h.
            let one : i + 1 ≡ j = omega (arith, h, more_by) in
            subst (λ (d : ℕ). Reaches w (Gives (Goes vs) (frames_of s m)) x (funds_of l m told i) (focus_seen u y (frames_seen u.texts fs)) (slots_of u (with_parts m fs regs fns)) (funds_of l2 m2 told d)) one
            (subst (λ (z : Slots). Reaches w (Gives (Goes vs) (frames_of s m)) x (funds_of l m told i) (focus_seen u y (frames_seen u.texts fs)) z (funds_of l2 m2 told (i + 1))) (sym same)
            (subst (λ (z : Point). Reaches w (Gives (Goes vs) (frames_of s m)) x (funds_of l m told i) z body (funds_of l2 m2 told (i + 1))) (sym there)
            (stepped told i (Enters (Marks (Now q body))) q body (funds_of l2 m2 told (i + 1)) (ap (λ (o : Option CProto). body_of o (callee_seen s f) vs (Some line) behind x) code) (pays (Marks (Now q body)) told i))));
      }
