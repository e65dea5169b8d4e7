-- AN EXPRESSION OF A LIST has its value, or is read in place: what is left of the list is next, or the list has its values.
use Rattle.std.proofs.Common.{◌≡◌, ◌∙◌, ◌++◌, ℕ, true, List, [], ◌∷◌, Some, refl, sym, ap, subst}
use Rattle.lua_loops.specs.PageRunOutcome.{Goes}
use Rattle.lua_loops.specs.WkBaseDeclaredLeftLeft.{Left}
use Rattle.std.specs.Borrow.{Bor}
use Rattle.lua_code.specs.LuaHeapValue.{Value as Plain}
use Rattle.lua_code.specs.declared.expression.Expression.{Expression}
use Rattle.lua_code.specs.Seen.{expression_seen, expressions_seen}
use Rattle.lua_code.specs.LuaSlotsCode.{CExp, CExps, CWorld}
use Rattle.lua_code.specs.LuaSlotsExpressions.{more_values}
use Rattle.lua_operators.specs.LuaSlotsSlots.{Slots}
use Rattle.lua_operators.specs.LuaSlotsPoints.{CallNow, MoreNext, SFrame, Point, Gives, Evals, Lists, Now}
use Rattle.lua_loops.specs.LuaSlotsMoves.{moves}
use Rattle.lua_strides.proofs.LuaInPlaceNodes.{nodes_are_some}
use Rattle.lua_strides.proofs.LuaInPlaceReading.{reads}
use Rattle.lua_strides.proofs.LuaInPlaceStatements.{free, free_first, free_last}
use Rattle.lua_loops.proofs.Beginning.{with_parts}
use Rattle.lua_operators.specs.LuaStoreDeclaredValueValue.{Value}
use Rattle.lua_operators.specs.LuaStoreSeen.{StoreView, seen}
use Rattle.lua_operators.specs.LuaStoreParts.{IsOf}
use Rattle.lua_operators.proofs.LuaStoreLater.{later-itself}
use Rattle.lua_strides.specs.LuaStackDeclaredFocusFocus.{Focus}
use Rattle.lua_strides.specs.LuaStackDeclaredFocusFocusTheVariants as focus
use Rattle.lua_strides.specs.LuaStackDeclaredFrameFrame.{Frame}
use Rattle.lua_operators.specs.LuaStackDeclaredFrameFrameTheVariants as frame
use Rattle.lua_operators.specs.LuaStackDeclaredFrameInExpressionTheVariants as in_expression
use Rattle.lua_strides.specs.LuaStackDeclaredValuesGivenTheVariants as given
use Rattle.lua_operators.specs.LuaStackOf.{FocusOf, FramesOf, ValuesOf}
use Rattle.lua_operators.specs.LuaStackSeen.{focus_seen, frames_seen, values_seen}
use Rattle.lua_strides.specs.LuaStateDeclaredStateState.{State}
use Rattle.lua_loops.specs.LuaStateSeen.{slots_of, frames_of, constants_in}
use Rattle.lua_loops.specs.LuaStateOf.{StateOf}
use Rattle.lua_loops.specs.LuaStateWorlds.{world_seen}
use Rattle.lua_strides.specs.declared.reading.ValueRead.{ValueRead}
use Rattle.lua_strides.specs.Reads.{ReadsTo}
use Rattle.lua_strides.specs.Strides.{PaysNodes}
use Rattle.lua_strides.proofs.Paths.{at_once, strode}
use Rattle.lua_turns.specs.Rows.{Follows}
use Rattle.lua_turns.proofs.Following.{follows_free, strides_follow}
use Rattle.lua_turns.proofs.Freely.{swapped}

-- one value more
values_of : (s : StoreView) (vs : List Value) (v : Value) → ValuesOf s vs → IsOf s v → ValuesOf s (vs ++ v ∷ [])
values_of s [] v h k = (k, tt)
values_of s (w ∷ vs) v h k = (h.0, values_of s vs v h.1 k)

values_one_more : (texts : List (List ℕ)) (vs : List Value) (v : Value) → values_seen texts (vs ++ v ∷ []) ≡ values_seen texts vs ++ seen texts v ∷ []
values_one_more texts [] v = refl
values_one_more texts (w ∷ vs) v = ap (λ (z : List Plain). seen texts w ∷ z) (values_one_more texts vs v)

-- what a list does with a value, where there are expressions behind it, and where there are none
next_item : (es : List Expression) (first : Expression) (behind : List Expression) (vs : List Plain) (w : Plain) (gs : List SFrame) (x : Slots) → es ≡ first ∷ behind → more_values (expressions_seen es) vs (w ∷ []) gs x ≡ Now (Lists (expressions_seen es) (vs ++ w ∷ []) gs) x
next_item es first behind vs w gs x e = ap (λ (z : List Expression). more_values (expressions_seen z) vs (w ∷ []) gs x) e ∙ ap (λ (z : List Expression). Now (Lists (expressions_seen z) (vs ++ w ∷ []) gs) x) (sym e)

last_item : (es : List Expression) (vs : List Plain) (w : Plain) (gs : List SFrame) (x : Slots) → es ≡ [] → more_values (expressions_seen es) vs (w ∷ []) gs x ≡ Now (Gives (Goes (vs ++ w ∷ [])) gs) x
last_item es vs w gs x e = ap (λ (z : List Expression). more_values (expressions_seen z) vs (w ∷ []) gs x) e

-- WHAT IS CALLED has its value: its arguments are next
pub callee_taken : (s : StoreView) (m : State) (l : Left) (k : ℕ) (args slice : Bor (List Expression)) (line : ℕ) (v : Value) (none : List Value) (more fs : List Frame) → StateOf s m → IsOf s v
    → m.frames ≡ frame.Expression (in_expression.ArgumentsNext args line) ∷ more → fs ≡ frame.Expression (in_expression.CallNow v line) ∷ more → slice.now ≡ args.now → none ≡ []
    → Follows s m (Gives (Goes (seen s.texts v ∷ [])) (frames_of s m)) l k s (with_parts m fs m.regs m.functions) l k (focus.Lists slice none)
callee_taken s m l k args slice line v none more fs of known e n same nothing =
    let w : Plain = seen s.texts v in
    swapped s m l k (Goes (w ∷ [])) (frame.Expression (in_expression.ArgumentsNext args line)) (frame.Expression (in_expression.CallNow v line)) more fs (focus.Lists slice none) of e n known (subst (ValuesOf s) (sym nothing) tt)
    (λ (world : CWorld) gs. ap (λ (es : List Expression). Now (Lists (expressions_seen es) [] (CallNow w line ∷ gs)) (slots_of s m)) (sym same) ∙ ap (λ (vs : List Value). Now (Lists (expressions_seen slice.now) (values_seen s.texts vs) (CallNow w line ∷ gs)) (slots_of s m)) (sym nothing))

-- AN EXPRESSION OF A LIST has its value
module _ (s : StoreView) (m : State) (l : Left) (k : ℕ) (rest : Bor (List Expression)) (v : Value) (before all : List Value) (more : List Frame) where
  abbrev newest : Frame
  newest = frame.Expression (in_expression.MoreNext rest before)

  -- the others are next
  pub item_taken : (first : Expression) (behind : List Expression) → StateOf s m → IsOf s v → m.frames ≡ newest ∷ more → all ≡ before ++ v ∷ [] → rest.now ≡ first ∷ behind
      → Follows s m (Gives (Goes (seen s.texts v ∷ [])) (frames_of s m)) l k s (with_parts m more m.regs m.functions) l k (focus.Lists rest all)
  item_taken first behind of known e added front =
      let x : Slots = slots_of s m in
      let gs : List SFrame = frames_seen s.texts more in
      let vs : List Plain = values_seen s.texts before in
      let w : Plain = seen s.texts v in
      let p : Point = Gives (Goes (w ∷ [])) (frames_of s m) in
      let q : Point = Lists (expressions_seen rest.now) (vs ++ w ∷ []) gs in
      let was : FramesOf s (newest ∷ more) = subst (FramesOf s) e of.frames in
      follows_free s s m more m.regs m.functions p q x (focus.Lists rest all) of (later-itself s) l k was.1 of.regs of.functions (subst (ValuesOf s) (sym added) (values_of s before v was.0 known))
      (λ (world : CWorld). free world p x q x (ap (λ (fs : List Frame). moves world (Gives (Goes (w ∷ [])) (frames_seen s.texts fs)) x) e ∙ next_item rest.now first behind vs w gs x front))
      (ap (λ (z : List Plain). Lists (expressions_seen rest.now) z gs) (sym (ap (values_seen s.texts) added ∙ values_one_more s.texts before v))) refl

  -- the list has its values
  pub items_taken : StateOf s m → IsOf s v → m.frames ≡ newest ∷ more → all ≡ before ++ v ∷ [] → rest.now ≡ []
      → Follows s m (Gives (Goes (seen s.texts v ∷ [])) (frames_of s m)) l k s (with_parts m more m.regs m.functions) l k (focus.Gives (given.Many all))
  items_taken of known e added none =
      let x : Slots = slots_of s m in
      let gs : List SFrame = frames_seen s.texts more in
      let vs : List Plain = values_seen s.texts before in
      let w : Plain = seen s.texts v in
      let p : Point = Gives (Goes (w ∷ [])) (frames_of s m) in
      let q : Point = Gives (Goes (vs ++ w ∷ [])) gs in
      let was : FramesOf s (newest ∷ more) = subst (FramesOf s) e of.frames in
      follows_free s s m more m.regs m.functions p q x (focus.Gives (given.Many all)) of (later-itself s) l k was.1 of.regs of.functions
      (subst (ValuesOf s) (sym added) (values_of s before v was.0 known))
      (λ (world : CWorld). free world p x q x (ap (λ (fs : List Frame). moves world (Gives (Goes (w ∷ [])) (frames_seen s.texts fs)) x) e ∙ last_item rest.now vs w gs x none))
      (ap (λ (z : List Plain). Gives (Goes z) gs) (sym (ap (values_seen s.texts) added ∙ values_one_more s.texts before v))) refl

-- THE FIRST OF A LIST is read in place
module _ (s : StoreView) (m : State) (l l' : Left) (k k' : ℕ) (es : List Expression) (first : Expression) (rest : Bor (List Expression)) (before all : List Value) (r : ValueRead) (of : StateOf s m) (values : ValuesOf s before)
    (got : ReadsTo s m (expression_seen first) (Some r)) (front : es ≡ first ∷ rest.now) (added : all ≡ before ++ r.value ∷ []) (pays : PaysNodes r.nodes l k l' k' true) where
  abbrev start : Point
  start = Lists (expressions_seen es) (values_seen s.texts before) (frames_of s m)

  item_read : (y : Focus) → FocusOf s y → more_values (expressions_seen rest.now) (values_seen s.texts before) (seen s.texts r.value ∷ []) (frames_of s m) (slots_of s m) ≡ Now (focus_seen s y (frames_of s m)) (slots_of s m) → Follows s m start l k s m l' k' y
  item_read y known law =
      let world : CWorld = world_seen m.codes.world in
      let x : Slots = slots_of s m in
      let n : ℕ = r.nodes in
      let w : Plain = seen s.texts r.value in
      let vs : List Plain = values_seen s.texts before in
      let e : CExp = expression_seen first in
      let behind : CExps = expressions_seen rest.now in
      let fs : List SFrame = frames_of s m in
      strides_follow s m start l k s m l' k' y
      (strode s m start n y m.frames l l' k k'
      (record {
        state = of;
        of = known;
        frames = of.frames;
        some = nodes_are_some (constants_in s m) e x w n got.is;
        leads = at_once world start x n (focus_seen s y fs) x
            (free_first world n (free world start x (Evals e (MoreNext behind vs ∷ fs)) x (ap (λ (z : List Expression). moves world (Lists (expressions_seen z) vs fs) x) front))
            (free_last world n (reads world x e w n got.is (MoreNext behind vs ∷ fs)) (free world (Gives (Goes (w ∷ [])) (MoreNext behind vs ∷ fs)) x (focus_seen s y fs) x law)));
      }) pays)

  values_now : values_seen s.texts all ≡ values_seen s.texts before ++ seen s.texts r.value ∷ []
  values_now = ap (values_seen s.texts) added ∙ values_one_more s.texts before r.value

  all_of : ValuesOf s all
  all_of = subst (ValuesOf s) (sym added) (values_of s before r.value values got.of)

  pub one_read : (next : Expression) (behind : List Expression) → rest.now ≡ next ∷ behind → Follows s m start l k s m l' k' (focus.Lists rest all)
  one_read next behind more =
      let gs : List SFrame = frames_of s m in
      let x : Slots = slots_of s m in
      item_read (focus.Lists rest all) all_of (next_item rest.now next behind (values_seen s.texts before) (seen s.texts r.value) gs x more ∙ ap (λ (z : List Plain). Now (Lists (expressions_seen rest.now) z gs) x) (sym values_now))

  pub last_read : rest.now ≡ [] → Follows s m start l k s m l' k' (focus.Gives (given.Many all))
  last_read none =
      let gs : List SFrame = frames_of s m in
      let x : Slots = slots_of s m in
      item_read (focus.Gives (given.Many all)) all_of (last_item rest.now (values_seen s.texts before) (seen s.texts r.value) gs x none ∙ ap (λ (z : List Plain). Now (Gives (Goes z) gs) x) (sym values_now))
