-- WHAT BEGINS WITH A NODE, and waits for an expression.
use Rattle.std.proofs.Common.{◌≡◌, ◌-◌, ◌+◌, ℕ, Bool, true, false, List, [], ◌∷◌, refl, subst, arith}
use Rattle.lua_loops.specs.WkBaseDeclaredLeftLeft.{Left}
use Rattle.lua_operators.specs.LuaStoreSeen.{StoreView}
use Rattle.lua_code.specs.LuaSlotsCode.{CExp, NoC, MoreC, CTarget, CWorld}
use Rattle.lua_operators.specs.LuaSlotsSlots.{Slots}
use Rattle.lua_loops.specs.LuaSlotsCalls.{constants_of}
use Rattle.lua_operators.specs.LuaSlotsPoints.{STarget, SFrame, DecideNext, MoreNext, AssignNow, Point, Evals, Lists, Finds, Now}
use Rattle.lua_operators.specs.LuaSlotsErrors.{node}
use Rattle.lua_loops.specs.LuaSlotsMoves.{moves}
use Rattle.lua_strides.specs.LuaInPlaceLaws.{after_nodes}
use Rattle.lua_strides.proofs.LuaInPlaceReading.{node_move, reach_then}
use Rattle.lua_strides.proofs.LuaInPlaceStatements.{LeadsFree, free, free_then}
use Rattle.lua_strides.specs.LuaStackDeclaredFocusFocus.{Focus}
use Rattle.lua_strides.specs.LuaStackDeclaredFrameFrame.{Frame}
use Rattle.lua_operators.specs.LuaStackSeen.{focus_seen, frame_seen, frames_seen}
use Rattle.lua_operators.specs.LuaStackOf.{FocusOf, FrameOf, FramesOf}
use Rattle.lua_strides.specs.LuaStateDeclaredStateState.{State}
use Rattle.lua_loops.specs.LuaStateSeen.{slots_of, frames_of}
use Rattle.lua_loops.specs.LuaStateOf.{StateOf}
use Rattle.lua_loops.specs.LuaStateWorlds.{world_seen}
use Rattle.lua_strides.specs.Strides.{PaysNodes, LeadsAt, Ready, Strides}
use Rattle.lua_strides.proofs.Paths.{with_frames, ready, at_once, strode}
use Rattle.lua_turns.specs.Assigning.{IsFoundAt}
use Rattle.lua_turns.specs.Deciding.{deciding_with}

-- A NODE, and a frame waits, or two
pub begun : (s : StoreView) (m : State) (p : Point) (y : Focus) (f : Frame) → StateOf s m → FocusOf s y → FrameOf s f
    → moves (world_seen m.codes.world) p (slots_of s m) ≡ node (Now (focus_seen s y (frame_seen s.texts f ∷ frames_of s m)) (slots_of s m)) → Ready s m p 1 y (f ∷ m.frames)
begun s m p y f of known waits law =
    ready s m p 1 y (f ∷ m.frames) (λ fs. focus_seen s y (frame_seen s.texts f ∷ fs)) of known (waits, of.frames) (omega arith)
    (at_once (world_seen m.codes.world) p (slots_of s m) 1 (focus_seen s y (frame_seen s.texts f ∷ frames_of s m)) (slots_of s m)
    (λ g i k c d h n. node_move (world_seen m.codes.world) (slots_of s m) p (focus_seen s y (frame_seen s.texts f ∷ frames_of s m)) g i k c d law h n)) refl

pub begun_within : (s : StoreView) (m : State) (p : Point) (y : Focus) (inner outer : Frame) → StateOf s m → FocusOf s y → FrameOf s inner → FrameOf s outer
    → moves (world_seen m.codes.world) p (slots_of s m) ≡ node (Now (focus_seen s y (frame_seen s.texts inner ∷ frame_seen s.texts outer ∷ frames_of s m)) (slots_of s m)) → Ready s m p 1 y (inner ∷ outer ∷ m.frames)
begun_within s m p y inner outer of known waits waits_too law =
    ready s m p 1 y (inner ∷ outer ∷ m.frames) (λ fs. focus_seen s y (frame_seen s.texts inner ∷ frame_seen s.texts outer ∷ fs)) of known (waits, (waits_too, of.frames)) (omega arith)
    (at_once (world_seen m.codes.world) p (slots_of s m) 1 (focus_seen s y (frame_seen s.texts inner ∷ frame_seen s.texts outer ∷ frames_of s m)) (slots_of s m)
    (λ g i k c d h n. node_move (world_seen m.codes.world) (slots_of s m) p (focus_seen s y (frame_seen s.texts inner ∷ frame_seen s.texts outer ∷ frames_of s m)) g i k c d law h n)) refl

-- A NODE, and moves without a charge behind it: these frames wait
pub strode_begun : (s : StoreView) (m : State) (p q r : Point) (y : Focus) (fs : List Frame) (l l' : Left) (k k' : ℕ) → StateOf s m → FramesOf s fs → FocusOf s y → PaysNodes 1 l k l' k' true
    → moves (world_seen m.codes.world) p (slots_of s m) ≡ node (Now q (slots_of s m)) → LeadsFree (world_seen m.codes.world) q (slots_of s m) r (slots_of s m) → r ≡ focus_seen s y (frames_seen s.texts fs)
    → Strides s m p l k s (with_frames m fs) l' k' y
strode_begun s m p q r y fs l l' k k' of frames known pays law free_law is =
    strode s m p 1 y fs l l' k k'
    (record {
      state = of;
      of = known;
      frames = frames;
      some = omega arith;
      leads = subst (λ (z : Point). LeadsAt (world_seen m.codes.world) p (slots_of s m) 1 z (slots_of s m)) is
          (λ f le. reach_then (node_move (world_seen m.codes.world) (slots_of s m) p q f f.left.steps (f.left.steps - 1) f.tally.nodes (f.tally.nodes + 1) law (omega (arith, le)) refl) (free_law (after_nodes 1 f)));
    }) pays

-- `and` and `or`
pub decides_begins : (world : CWorld) (deciding : Bool) (a b : CExp) (fs : List SFrame) (s : Slots) → moves world (Evals (deciding_with deciding a b) fs) s ≡ node (Now (Evals a (DecideNext deciding b ∷ fs)) s)
decides_begins world false a b fs s = refl
decides_begins world true a b fs s = refl

-- the target of an assignment is found, and its one value is next
pub assigning : (world : CWorld) (c : CTarget) (t : STarget) (e : CExp) (fs : List SFrame) (s : Slots) → IsFoundAt (constants_of world s) c t
    → LeadsFree world (Finds (c ∷ []) [] (MoreC e NoC) fs) s (Evals e (MoreNext NoC [] ∷ AssignNow (t ∷ []) ∷ fs)) s
assigning world c t e fs s found =
    free_then world (free world (Finds (c ∷ []) [] (MoreC e NoC) fs) s (Finds [] (t ∷ []) (MoreC e NoC) fs) s (found (MoreC e NoC) fs s))
    (free_then world (free world (Finds [] (t ∷ []) (MoreC e NoC) fs) s (Lists (MoreC e NoC) [] (AssignNow (t ∷ []) ∷ fs)) s refl)
    (free world (Lists (MoreC e NoC) [] (AssignNow (t ∷ []) ∷ fs)) s (Evals e (MoreNext NoC [] ∷ AssignNow (t ∷ []) ∷ fs)) s refl))
