-- A METHOD IS FOUND, and its arguments are next.
use Rattle.std.proofs.Common.{◌≡◌, ◌∙◌, ◌≤◌, ◌-◌, ℕ, Bool, true, false, List, [], ◌∷◌, Option, Some, None, refl, sym, ap, subst, arith}
use Rattle.std.specs.Prelude.{codes, IfSome}
use Rattle.lua_loops.specs.WkBaseDeclaredLeftLeft.{Left}
use Rattle.lua_loops.specs.PageRunOutcome.{Goes}
use Rattle.lua_operators.specs.PageRunState.{Tally}
use Rattle.lua_code.proofs.PageRunLess.{less_of}
use Rattle.lua_code.specs.LuaHeapProc.{Proc}
use Rattle.lua_code.specs.LuaHeapHeap.{Heap, table_at}
use Rattle.lua_code.specs.LuaHeapTable.{get}
use Rattle.lua_code.specs.LuaHeapValue.{Value as Plain, Text, Table, is_nil}
use Rattle.lua_operators.specs.LuaMeaningMetatables.{handler}
use Rattle.lua_code.specs.LuaSlotsCode.{CExps, CWorld}
use Rattle.lua_operators.specs.LuaSlotsEnact.{Funds, paid, enact}
use Rattle.lua_operators.specs.LuaSlotsErrors.{choose, gives}
use Rattle.lua_code.specs.LuaSlotsIndex.{index, index_by, index_table}
use Rattle.lua_loops.specs.LuaSlotsMoves.{moves}
use Rattle.lua_operators.specs.LuaSlotsPoints.{IndexLinkS, First, IndexNow, CallNow, MethodNext, MethodNow, SFrame, Point, Gives, Lists, Starts, Move, Costs, Now}
use Rattle.lua_operators.specs.LuaSlotsSlots.{Slots}
use Rattle.lua_strides.specs.LuaGoesGoing.{Reaches, here, further}
use Rattle.lua_strides.specs.LuaInPlaceInPlace.{entry, indexed}
use Rattle.lua_strides.proofs.LuaInPlacePlain.{entry_is, indexed_is}
use Rattle.lua_strides.proofs.LuaInPlaceReading.{reach_then}
use Rattle.lua_operators.specs.LuaStoreDeclaredValueValue.{Value}
use Rattle.lua_operators.specs.LuaStoreDeclaredIdsTextId.{TextId}
use Rattle.lua_operators.specs.LuaStoreParts.{IsOf}
use Rattle.lua_operators.specs.LuaStoreSeen.{StoreView, seen, text_at}
use Rattle.lua_operators.proofs.LuaStoreLater.{later-itself}
use Rattle.lua_strides.specs.LuaStackDeclaredFocusFocus.{Focus}
use Rattle.lua_strides.specs.LuaStackDeclaredFocusFocusTheVariants as focus
use Rattle.lua_strides.specs.LuaStackDeclaredValuesGivenTheVariants as given
use Rattle.lua_strides.specs.LuaStackDeclaredFrameFrame.{Frame}
use Rattle.lua_operators.specs.LuaStackDeclaredFrameFrameTheVariants as frame
use Rattle.lua_operators.specs.LuaStackDeclaredFrameInExpressionTheVariants as in_expression
use Rattle.lua_operators.specs.LuaStackOf.{FocusOf, FrameOf, FramesOf}
use Rattle.lua_operators.specs.LuaStackSeen.{focus_seen, frame_seen, frames_seen}
use Rattle.lua_strides.specs.LuaStateDeclaredStateState.{State}
use Rattle.lua_loops.specs.LuaStateOf.{StateOf}
use Rattle.lua_loops.specs.LuaStateSeen.{slots_of, frames_of, funds_of}
use Rattle.lua_loops.specs.LuaStateWorlds.{world_seen}
use Rattle.lua_strides.specs.Strides.{Idles}
use Rattle.lua_strides.proofs.Paths.{with_frames, with_frames_of}
use Rattle.lua_turns.specs.Methods.{GivesBehind, PaysLink}
use Rattle.lua_turns.specs.Rows.{Follows}
use Rattle.lua_turns.specs.declared.methods.Method.{Method}
use Rattle.lua_turns.proofs.Freely.{below_of, below_with}

-- WHERE IT IS FOUND
module _ (h : Heap Proc) (t : ℕ) (key v : Plain) (line : Option ℕ) (fs : List SFrame) (s : Slots) (same : s.heap ≡ h) where
  pub found_here : v ≡ get (table_at h t).entries key → is_nil v ≡ false → GivesBehind false (index_table t key line fs s) v fs s
  found_here is some =
      let n : is_nil (get (table_at s.heap t).entries key) ≡ false = ap (λ (x : Heap Proc). is_nil (get (table_at x t).entries key)) same ∙ ap is_nil (sym is) ∙ some in
      ap (λ (b : Bool). choose b (index_by (handler s.heap (Table t) (codes "__index")) (Table t) key line fs s) (gives (get (table_at s.heap t).entries key ∷ []) fs s)) n
      ∙ ap (λ (x : Heap Proc). gives (get (table_at x t).entries key ∷ []) fs s) same ∙ ap (λ (x : Plain). gives (x ∷ []) fs s) (sym is)

  pub found_behind : (b : ℕ) → is_nil (get (table_at h t).entries key) ≡ true → handler h (Table t) (codes "__index") ≡ Table b → entry h b key ≡ Some v → GivesBehind true (index_table t key line fs s) v fs s
  found_behind b none names is =
      let n : is_nil (get (table_at s.heap t).entries key) ≡ true = ap (λ (x : Heap Proc). is_nil (get (table_at x t).entries key)) same ∙ none in
      let g : handler s.heap (Table t) (codes "__index") ≡ Table b = ap (λ (x : Heap Proc). handler x (Table t) (codes "__index")) same ∙ names in
      let e : entry s.heap b key ≡ Some v = ap (λ (x : Heap Proc). entry x b key) same ∙ is in (
        IndexLinkS (Table t) (Table b) key line,
        ap (λ (c : Bool). choose c (index_by (handler s.heap (Table t) (codes "__index")) (Table t) key line fs s) (gives (get (table_at s.heap t).entries key ∷ []) fs s)) n
            ∙ ap (λ (x : Plain). index_by x (Table t) key line fs s) g,
        λ (world : CWorld). entry_is line fs s b key v e,
      )

-- a text has its methods in the table of strings
pub of_strings : (linked : Bool) (bytes : List ℕ) (key v : Plain) (line : Option ℕ) (fs : List SFrame) (s : Slots) (t : ℕ) → s.strings ≡ t → GivesBehind linked (index_table t key line fs s) v fs s → GivesBehind linked (index (Text bytes) key line fs s) v fs s
of_strings linked bytes key v line fs s t e h = subst (λ (x : ℕ). GivesBehind linked (index_table x key line fs s) v fs s) (sym e) h

-- an entry, or nil where nobody is asked
pub found_at_once : (h : Heap Proc) (o key v : Plain) (line : Option ℕ) (fs : List SFrame) (s : Slots) → s.heap ≡ h → indexed h o key ≡ Some v → GivesBehind false (index o key line fs s) v fs s
found_at_once h o key v line fs s same is = indexed_is line fs s o key v (ap (λ (x : Heap Proc). indexed x o key) same ∙ is)

-- THE MOVES to what is found
abbrev after_link : Bool → Funds → Funds
after_link false f = f
after_link true f = record f { left = record f.left { steps = f.left.steps - 1 } }

abbrev IsLeft : Bool → Funds → Type 0
IsLeft false f = Unit {0}
IsLeft true f = 1 ≤ f.left.steps

found : (world : CWorld) (s : Slots) (p : Point) (mv : Move) (v : Plain) (fs : List SFrame) (linked : Bool) (f : Funds) → moves world p s ≡ mv → GivesBehind linked mv v fs s → IsLeft linked f → Reaches world p s f (Gives (Goes (v ∷ [])) fs) s (after_link linked f)
found world s p mv v fs false f e is some = further p s f (Gives (Goes (v ∷ [])) fs) s f here (ap (λ (x : Move). enact x f) (e ∙ is))
found world s p mv v fs true f e is some =
    let b : Point = Starts is.0 fs in
    let q : Point = Gives (Goes (v ∷ [])) fs in
    further b s f q s (after_link true f) (further p s f b s f here (ap (λ (x : Move). enact x f) (e ∙ is.1)))
    (ap (λ (x : Move). enact (Costs 1 x) f) (is.2 world) ∙ ap (λ (x : Option ℕ). paid x f (enact (Now q s))) (less_of 1 f.left.steps some))

-- from the object of a method to its arguments, and from the key of an index to the entry
named : (world : CWorld) (name : List ℕ) (o v : Plain) (args : CExps) (line : ℕ) (gs : List SFrame) (s : Slots) (linked : Bool) (f : Funds) → GivesBehind linked (index o (Text name) (Some line) (MethodNow o args line ∷ gs) s) v (MethodNow o args line ∷ gs) s → IsLeft linked f
    → Reaches world (Gives (Goes (o ∷ [])) (MethodNext name args line ∷ gs)) s f (Lists args (o ∷ []) (CallNow v line ∷ gs)) s (after_link linked f)
named world name o v args line gs s linked f is some =
    reach_then (found world s (Gives (Goes (o ∷ [])) (MethodNext name args line ∷ gs)) (index o (Text name) (Some line) (MethodNow o args line ∷ gs) s) v (MethodNow o args line ∷ gs) linked f refl is some)
    (further (Gives (Goes (v ∷ [])) (MethodNow o args line ∷ gs)) s (after_link linked f) (Lists args (o ∷ []) (CallNow v line ∷ gs)) s (after_link linked f) here refl)

keyed : (world : CWorld) (o key v : Plain) (line : ℕ) (gs : List SFrame) (s : Slots) (linked : Bool) (f : Funds) → GivesBehind linked (index o key (Some line) (First ∷ gs) s) v (First ∷ gs) s → IsLeft linked f
    → Reaches world (Gives (Goes (key ∷ [])) (IndexNow o line ∷ gs)) s f (Gives (Goes (v ∷ [])) gs) s (after_link linked f)
keyed world o key v line gs s linked f is some =
    reach_then (found world s (Gives (Goes (key ∷ [])) (IndexNow o line ∷ gs)) (index o key (Some line) (First ∷ gs) s) v (First ∷ gs) linked f refl is some)
    (further (Gives (Goes (v ∷ [])) (First ∷ gs)) s (after_link linked f) (Gives (Goes (v ∷ [])) gs) s (after_link linked f) here refl)

left_after : (linked : Bool) (l l' : Left) (m : State) (told : Tally) (i : ℕ) → PaysLink linked l l' true → after_link linked (funds_of l m told i) ≡ funds_of l' m told i
left_after false l l' m told i e = ap (λ (x : Left). funds_of x m told i) (sym e)
left_after true l l' m told i e = ap (λ (x : Left). funds_of x m told i) (sym e.1)

is_left : (linked : Bool) (l l' : Left) (m : State) (told : Tally) (i : ℕ) → PaysLink linked l l' true → IsLeft linked (funds_of l m told i)
is_left false l l' m told i e = tt
is_left true l l' m told i e = e.0

sinks_by : (linked : Bool) (l l' : Left) → PaysLink linked l l' true → l'.steps ≤ l.steps
sinks_by false l l' e = let n : l'.steps ≡ l.steps = ap (λ (x : Left). x.steps) e in omega (arith, n)
sinks_by true l l' e = let n : l'.steps ≡ l.steps - 1 = ap (λ (x : Left). x.steps) e.1 in omega (arith, n)

-- THE SAME IN CODE: where the link is paid, other frames wait
linked_follows : (s : StoreView) (m : State) (linked : Bool) (l l' : Left) (k : ℕ) (fs : List Frame) (y : Focus) (p q : Point) → StateOf s m → FramesOf s fs → FocusOf s y → PaysLink linked l l' true
    → ((world : CWorld) (f : Funds) → IsLeft linked f → Reaches world p (slots_of s m) f q (slots_of s m) (after_link linked f)) → q ≡ focus_seen s y (frames_seen s.texts fs)
    → Follows s m p l k s (with_frames m fs) l' k y
linked_follows s m linked l l' k fs y p q of frames known pays law is = record {
  state = with_frames_of s m fs of frames;
  world = refl;
  of = known;
  later = later-itself s;
  rises = omega arith;
  sinks = sinks_by linked l l' pays;
  led = λ told i j h.
      let w : CWorld = world_seen m.codes.world in
      let x : Slots = slots_of s m in
      let one : i ≡ j = omega (arith, h) in
      let start : Funds = funds_of l m told i in
      subst (λ (d : ℕ). Reaches w p x start (focus_seen s y (frames_seen s.texts fs)) x (funds_of l' m told d)) one
      (subst (λ (z : Funds). Reaches w p x start (focus_seen s y (frames_seen s.texts fs)) x z) (left_after linked l l' m told i pays)
      (subst (λ (z : Point). Reaches w p x start z x (after_link linked start)) is (law w start (is_left linked l l' m told i pays))));
}

pub method_follows : (s : StoreView) (m : State) (linked : Bool) (l l' : Left) (k : ℕ) (f g : Frame) (more fs : List Frame) (y : Focus) (name : List ℕ) (o v : Plain) (args : CExps) (line : ℕ) → StateOf s m → m.frames ≡ f ∷ more → fs ≡ g ∷ more
    → frame_seen s.texts f ≡ MethodNext name args line → frame_seen s.texts g ≡ CallNow v line → FrameOf s g → FocusOf s y → ((gs : List SFrame) → focus_seen s y gs ≡ Lists args (o ∷ []) gs) → PaysLink linked l l' true
    → ((gs : List SFrame) → GivesBehind linked (index o (Text name) (Some line) gs (slots_of s m)) v gs (slots_of s m))
    → Follows s m (Gives (Goes (o ∷ [])) (frames_of s m)) l k s (with_frames m fs) l' k y
method_follows s m linked l l' k f g more fs y name o v args line of e n f_is g_is known kept point pays is =
    let x : Slots = slots_of s m in
    let gs : List SFrame = frames_seen s.texts more in
    let q : Point = Lists args (o ∷ []) (CallNow v line ∷ gs) in
    let was : frames_of s m ≡ MethodNext name args line ∷ gs = ap (frames_seen s.texts) e ∙ ap (λ (z : SFrame). z ∷ gs) f_is in
    let there : focus_seen s y (frames_seen s.texts fs) ≡ q = point (frames_seen s.texts fs) ∙ ap (λ (z : List Frame). Lists args (o ∷ []) (frames_seen s.texts z)) n ∙ ap (λ (z : SFrame). Lists args (o ∷ []) (z ∷ gs)) g_is in
    linked_follows s m linked l l' k fs y (Gives (Goes (o ∷ [])) (frames_of s m)) q of (below_with s m.frames fs more f g e n of.frames known) kept pays
    (λ world z some. subst (λ (c : List SFrame). Reaches world (Gives (Goes (o ∷ [])) c) x z q x (after_link linked z)) (sym was) (named world name o v args line gs x linked z (is (MethodNow o args line ∷ gs)) some)) (sym there)

pub key_follows : (s : StoreView) (m : State) (linked : Bool) (l l' : Left) (k : ℕ) (o key v : Value) (line : ℕ) (more fs : List Frame) → StateOf s m → m.frames ≡ frame.Expression (in_expression.IndexNow o line) ∷ more → fs ≡ more → IsOf s v → PaysLink linked l l' true
    → ((gs : List SFrame) → GivesBehind linked (index (seen s.texts o) (seen s.texts key) (Some line) gs (slots_of s m)) (seen s.texts v) gs (slots_of s m))
    → Follows s m (Gives (Goes (seen s.texts key ∷ [])) (frames_of s m)) l k s (with_frames m fs) l' k (focus.Gives (given.One v))
key_follows s m linked l l' k o key v line more fs of e n known pays is =
    let x : Slots = slots_of s m in
    let gs : List SFrame = frames_seen s.texts more in
    let q : Point = Gives (Goes (seen s.texts v ∷ [])) gs in
    linked_follows s m linked l l' k fs (focus.Gives (given.One v)) (Gives (Goes (seen s.texts key ∷ [])) (frames_of s m)) q of (below_of s m.frames fs more (frame.Expression (in_expression.IndexNow o line)) e n of.frames) (known, tt) pays
    (λ world z some. subst (λ (c : List SFrame). Reaches world (Gives (Goes (seen s.texts key ∷ [])) c) x z q x (after_link linked z)) (sym (ap (frames_seen s.texts) e)) (keyed world (seen s.texts o) (seen s.texts key) (seen s.texts v) line gs x linked z (is (First ∷ gs)) some))
    (ap (λ (z : List Frame). Gives (Goes (seen s.texts v ∷ [])) (frames_seen s.texts z)) (sym n))

pub not_paid : (s : StoreView) (m : State) (linked : Bool) (l l' : Left) (k : ℕ) → PaysLink linked l l' false → Idles s m l k s m l' k
not_paid s m false l l' k e = record { store = refl; state = refl; left = e; counter = refl }
not_paid s m true l l' k e = record { store = refl; state = refl; left = e; counter = refl }

pub method_of_strings : (st : StoreView) (r : Option Method) (id : TextId) (key : Plain) (line : Option ℕ) (fs : List SFrame) (s : Slots) (t : ℕ) → s.strings ≡ t
    → IfSome r (λ x. GivesBehind x.linked (index_table t key line fs s) (seen st.texts x.value) fs s) → IfSome r (λ x. GivesBehind x.linked (index (Text (text_at st.texts id.at)) key line fs s) (seen st.texts x.value) fs s)
method_of_strings st (Some x) id key line fs s t e h = of_strings x.linked (text_at st.texts id.at) key (seen st.texts x.value) line fs s t e h
method_of_strings st None id key line fs s t e h = tt
