-- TWO TEXTS BECOME ONE, at the steps of their bytes.
use Rattle.std.proofs.Common.{◌≡◌, ◌∙◌, ◌≤◌, ◌-◌, ◌++◌, ℕ, List, [], ◌∷◌, length, Option, Some, refl, sym, ap, subst, arith}
use Rattle.lua_loops.specs.WkBaseDeclaredLeftLeft.{Left}
use Rattle.lua_loops.specs.PageRunOutcome.{Goes}
use Rattle.lua_code.proofs.PageRunLess.{less_of}
use Rattle.lua_code.specs.LuaHeapValue.{Value as Plain, Text}
use Rattle.lua_operators.specs.LuaMeaningValues.{text_in}
use Rattle.lua_code.specs.LuaSlotsCode.{CWorld}
use Rattle.lua_operators.specs.LuaSlotsEnact.{Funds, paid, enact}
use Rattle.lua_operators.specs.LuaSlotsErrors.{gives}
use Rattle.lua_loops.specs.LuaSlotsMoves.{moves}
use Rattle.lua_operators.specs.LuaSlotsOperators.{join_texts}
use Rattle.lua_operators.specs.LuaSlotsPoints.{SFrame, Point, Gives, Move, Costs, Now}
use Rattle.lua_operators.specs.LuaSlotsSlots.{Slots}
use Rattle.lua_strides.specs.LuaGoesGoing.{Reaches, here, further}
use Rattle.lua_operators.specs.LuaStoreSeen.{StoreView}
use Rattle.lua_operators.specs.LuaStoreParts.{IsLater}
use Rattle.lua_strides.specs.LuaStackDeclaredFocusFocus.{Focus}
use Rattle.lua_strides.specs.LuaStackDeclaredFrameFrame.{Frame}
use Rattle.lua_operators.specs.LuaStackOf.{FocusOf, FramesOf}
use Rattle.lua_operators.specs.LuaStackSeen.{focus_seen, frame_seen, frames_seen}
use Rattle.lua_strides.specs.LuaStateDeclaredStateState.{State}
use Rattle.lua_loops.specs.LuaStateOf.{StateOf}
use Rattle.lua_loops.specs.LuaStateSeen.{slots_of, frames_of, funds_of}
use Rattle.lua_loops.specs.LuaStateWorlds.{world_seen}
use Rattle.lua_loops.proofs.LuaStateStaying.{state_later, frames_stay, slots_same}
use Rattle.lua_turns.specs.Rows.{Follows}
use Rattle.lua_turns.proofs.Freely.{below_of}

pub joins : (a b : Plain) (x y : List ℕ) (line : Option ℕ) (fs : List SFrame) (s : Slots) → text_in a ≡ Some x → text_in b ≡ Some y → join_texts a b (text_in a) (text_in b) line fs s ≡ Costs (length (x ++ y)) (gives (Text (x ++ y) ∷ []) fs s)
joins a b x y line fs s p q = ap (λ (o : Option (List ℕ)). join_texts a b o (text_in b) line fs s) p ∙ ap (λ (o : Option (List ℕ)). join_texts a b (Some x) o line fs s) q

-- the newest frame waits no more, at this cost, in a store in which texts were made
pub popped_at_cost : (s u : StoreView) (m : State) (n : ℕ) (l l' : Left) (k : ℕ) (v : Plain) (f : Frame) (more fs : List Frame) (y : Focus) → StateOf s m → IsLater s u → u.heap ≡ s.heap → m.frames ≡ f ∷ more → fs ≡ more → FocusOf u y
    → n ≤ l.steps → l' ≡ record l { steps = l.steps - n } → ((world : CWorld) (gs : List SFrame) → moves world (Gives (Goes (v ∷ [])) (frame_seen s.texts f ∷ gs)) (slots_of s m) ≡ Costs n (Now (focus_seen u y gs) (slots_of s m)))
    → Follows s m (Gives (Goes (v ∷ [])) (frames_of s m)) l k u (let z : State = record m { frames = fs } in z) l' k y
popped_at_cost s u m n l l' k v f more fs y of later same e is known enough less_by law =
    let x : Slots = slots_of s m in
    let p : Point = Gives (Goes (v ∷ [])) (frames_of s m) in
    let there : StateOf u m = state_later s u later m of in
    let behind : State = record m { frames = more } in
    let kept : StateOf s behind = record { frames = (subst (FramesOf s) e of.frames).1; regs = of.regs; functions = of.functions; env = of.env; modules = of.modules; loaded = of.loaded; scenes = of.scenes; codes = of.codes } in
    let q : Point = focus_seen u y (frames_seen s.texts more) in
    let end_ : focus_seen u y (frames_seen u.texts fs) ≡ q = ap (λ (z : List Frame). focus_seen u y (frames_seen u.texts z)) is ∙ ap (focus_seen u y) (frames_stay s u later behind kept) in
    let steps : l'.steps ≡ l.steps - n = ap (λ (z : Left). z.steps) less_by in
    record {
      state = record { frames = below_of u m.frames fs more f e is there.frames; regs = there.regs; functions = there.functions; env = there.env; modules = there.modules; loaded = there.loaded; scenes = there.scenes; codes = there.codes };
      world = refl;
      of = known;
      later = later;
      rises = omega arith;
      sinks = omega (arith, steps);
      led = λ told i j h.
          let w : CWorld = world_seen m.codes.world in
          let one : i ≡ j = omega (arith, h) in
          let start : Funds = funds_of l m told i in
          subst (λ (d : ℕ). Reaches w p x start (focus_seen u y (frames_seen u.texts fs)) (slots_of u m) (funds_of l' m told d)) one
          (subst (λ (z : Slots). Reaches w p x start (focus_seen u y (frames_seen u.texts fs)) z (funds_of l' m told i)) (sym (slots_same s u later m of same))
          (subst (λ (z : Point). Reaches w p x start z x (funds_of l' m told i)) (sym end_)
          (further p x start q x (funds_of l' m told i) here
          (ap (λ (mv : Move). enact mv start) (ap (λ (z : List Frame). moves w (Gives (Goes (v ∷ [])) (frames_seen s.texts z)) x) e ∙ law w (frames_seen s.texts more))
          ∙ ap (λ (o : Option ℕ). paid o start (enact (Now q x))) (less_of n l.steps enough) ∙ ap (λ (z : Left). enact (Now q x) (funds_of z m told i)) (sym less_by)))));
    }
