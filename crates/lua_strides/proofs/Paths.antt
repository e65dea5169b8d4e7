-- Several moves at once in code, from the moves of `lua_in_place`.
use Rattle.std.proofs.Common.{◌≡◌, ◌∙◌, ◌≤◌, ◌<◌, ◌-◌, ◌+◌, ℕ, true, false, List, refl, sym, ap, subst, arith}
use Rattle.lua_state.specs.WkBaseDeclaredLeftLeft.{Left}
use Rattle.lua_state.specs.PageRunState.{Tally}
use Rattle.lua_state.specs.LuaStoreSeen.{StoreView}
use Rattle.lua_state.proofs.LuaStoreLater.{later-itself}
use Rattle.lua_code.specs.LuaSlotsCode.{CWorld}
use Rattle.lua_state.specs.LuaSlotsSlots.{Slots}
use Rattle.lua_state.specs.LuaSlotsPoints.{SFrame, Point}
use Rattle.lua_state.specs.LuaSlotsEnact.{Funds}
use Rattle.lua_state.specs.LuaGoesGoing.{Reaches}
use Rattle.lua_in_place.specs.Laws.{after_nodes}
use Rattle.lua_in_place.proofs.Statements.{Leads}
use Rattle.lua_state.specs.LuaStackDeclaredFocusFocus.{Focus}
use Rattle.lua_state.specs.LuaStackDeclaredFrameFrame.{Frame}
use Rattle.lua_state.specs.LuaStackSeen.{focus_seen, frames_seen}
use Rattle.lua_state.specs.LuaStackOf.{FocusOf, FramesOf}
use Rattle.lua_state.specs.declared.state.State.{State}
use Rattle.lua_state.specs.Seen.{slots_of, frames_of, funds_of}
use Rattle.lua_state.specs.Of.{StateOf}
use Rattle.lua_state.specs.Worlds.{world_seen}
use Rattle.lua_strides.specs.Strides.{PaysNodes, Strides, Idles, LeadsAt, Ready}

abbrev pub with_frames : State → List Frame → State
with_frames m fs = record m { frames = fs }

pub with_frames_of : (s : StoreView) (m : State) (fs : List Frame) → StateOf s m → FramesOf s fs → StateOf s (with_frames m fs)
with_frames_of s m fs h k = record { frames = k; regs = h.regs; functions = h.functions; env = h.env; modules = h.modules; loaded = h.loaded; scenes = h.scenes; codes = h.codes }

-- nodes that are paid
pub funds_after : (n : ℕ) (l l' : Left) (k k' : ℕ) (m : State) (told : Tally) (a b : ℕ) → PaysNodes n l k l' k' true → k' + a ≡ k + b → after_nodes n (funds_of l m told a) ≡ funds_of l' m told b
funds_after n l l' k k' m told a b e h =
    let x : a + n ≡ b = omega (arith, e.2, h) in
    ap (λ (i : ℕ). funds_of (record l { steps = l.steps - n }) m told i) x ∙ ap (λ (z : Left). funds_of z m told b) (sym e.1)

pub steps_fall : (n : ℕ) (l l' : Left) (k k' : ℕ) → 1 ≤ n → PaysNodes n l k l' k' true → l'.steps < l.steps
steps_fall n l l' k k' some e =
    let x : l'.steps ≡ l.steps - n = ap (λ (z : Left). z.steps) e.1 in
    omega (arith, x, e.0, some)

pub strode : (s : StoreView) (m : State) (p : Point) (n : ℕ) (y : Focus) (fs : List Frame) (l l' : Left) (k k' : ℕ) → Ready s m p n y fs → PaysNodes n l k l' k' true → Strides s m p l k s (with_frames m fs) l' k' y
strode s m p n y fs l l' k k' r e = record {
  state = with_frames_of s m fs r.state r.frames;
  world = refl;
  of = r.of;
  later = later-itself s;
  rises = omega (arith, e.2);
  falls = steps_fall n l l' k k' r.some e;
  led = λ told a b h.
      subst (λ (g : Funds). Reaches (world_seen m.codes.world) p (slots_of s m) (funds_of l m told a) (focus_seen s y (frames_seen s.texts fs)) (slots_of s m) g) (funds_after n l l' k k' m told a b e h) (r.leads (funds_of l m told a) e.0);
}

-- where fewer steps are left, or nothing is read
pub unpaid : (s : StoreView) (m : State) (n : ℕ) (l l' : Left) (k k' : ℕ) → PaysNodes n l k l' k' false → Idles s m l k s m l' k'
unpaid s m n l l' k k' e = record { store = refl; state = refl; left = e.0; counter = e.1 }

pub idle_here : (s : StoreView) (m : State) (l : Left) (k : ℕ) → Idles s m l k s m l k
idle_here s m l k = record { store = refl; state = refl; left = refl; counter = refl }

pub at_once : (world : CWorld) (p : Point) (s : Slots) (n : ℕ) (q : Point) (t : Slots) → Leads world p s n q t → LeadsAt world p s n q t
at_once world p s n q t x f le = x f f.left.steps (f.left.steps - n) f.tally.nodes (f.tally.nodes + n) (omega (arith, le)) refl

-- all but the charge is known, from where the moves lead above the frames that wait
pub ready : (s : StoreView) (m : State) (p : Point) (n : ℕ) (y : Focus) (fs : List Frame) (q : List SFrame → Point) → StateOf s m → FocusOf s y → FramesOf s fs → 1 ≤ n
    → LeadsAt (world_seen m.codes.world) p (slots_of s m) n (q (frames_of s m)) (slots_of s m) → q (frames_of s m) ≡ focus_seen s y (frames_seen s.texts fs) → Ready s m p n y fs
ready s m p n y fs q state of frames some law e = record {
  state = state;
  of = of;
  frames = frames;
  some = some;
  leads = subst (λ (z : Point). LeadsAt (world_seen m.codes.world) p (slots_of s m) n z (slots_of s m)) e law;
}
