-- How a run begins is made of parts.
use Rattle.std.proofs.Common.{◌≡◌, ◌∙◌, true, false, refl, sym, ap, subst, ℕ, List, [], ◌∷◌, ◌++◌, ◌+◌, length, Option, Some, None, Result, Ok, Err}
use Rattle.page_run.specs.WkBaseDeclaredLeftLeft.{Left}
use Rattle.lua_code.specs.WkBaseDeclaredTitleTitle.{Title}
use Rattle.lua_code.specs.WkBaseTitles.{title_text}
use Rattle.mw_frame.specs.declared.scene.Job.{Job}
use Rattle.mw_frame.specs.declared.scene.Scene.{Scene}
use Rattle.lua_code.specs.LuaHeapHeap.{Heap}
use Rattle.lua_code.specs.LuaHeapProc.{Proc}
use Rattle.lua_code.specs.LuaHeapValue.{Table}
use Rattle.lua_code.specs.LuaMeaningActs as act
use Rattle.lua_modules.specs.LuaMeaningFrames.{make_frame, new_frame, frame_table}
use Rattle.lua_modules.specs.LuaMeaningMessages.{nth_level, no_module, loop_in_require}
use Rattle.lua_code.specs.LuaMeaningScope.{Bytes, Place}
use Rattle.lua_modules.specs.LuaMeaningTitled.{item_of}
use Rattle.lua_store.specs.Seen.{StoreView}
use Rattle.lua_store.specs.Parts.{IsLater}
use Rattle.lua_store.proofs.Later.{later-itself}
use Rattle.lua_code.specs.LuaSlotsCode.{Protos, CModule, CWorld}
use Rattle.lua_modules.specs.LuaSlotsErrors.{raises_quote}
use Rattle.lua_modules.specs.LuaSlotsModules.{with_module, begins_text, require_as, require_module}
use Rattle.lua_modules.specs.LuaMeaningPending.{ModuleWaits}
use Rattle.lua_modules.specs.LuaSlotsPoints.{SFrame, Waits, ModuleFound, DataNow, Move, Costs}
use Rattle.lua_modules.specs.LuaSlotsSlots.{Slots, levels_at}
use Rattle.lua_code.specs.LuaSlotsEnact.{all_given_back, Short, enact}
use Rattle.page_run.specs.declared.which.Which.TheVariants.{Steps}
use Rattle.page_run.specs.State.{Tally}
use Rattle.lua_code.specs.LuaSyntaxDeclaredFaultFaultAt.{FaultAt}
use Rattle.lua_code.specs.LuaSlotsStarts.{with_frame, runs_data}
use Rattle.lua_modules.specs.LuaGoesGoing.{led}
use Rattle.lua_modules.specs.LuaStackDeclaredFrameFrame.{Frame}
use Rattle.lua_modules.proofs.LuaStackRaises.{pays, spends}
use Rattle.lua_modules.specs.LuaStateDeclaredStateState.{State}
use Rattle.lua_modules.specs.LuaStateDeclaredTurnTurn.{Turn}
use Rattle.lua_modules.specs.LuaStateCharges.{Pays}
use Rattle.lua_modules.specs.LuaStateDeclaredCodesWorld.{World}
use Rattle.lua_modules.specs.LuaStateMakes.{Makes, LateMakes}
use Rattle.lua_modules.specs.LuaStateWorlds.{world_seen}
use Rattle.lua_modules.specs.LuaStateOf.{StateOf}
use Rattle.lua_modules.specs.LuaStateSeen.{slots_of, frames_of, funds_of}
use Rattle.lua_modules.proofs.LuaStateMaking.{from_parts, late_after, late_changed}
use Rattle.lua_modules.proofs.LuaStateStaying.{slots_stay}
use Rattle.mw_html_texts.specs.LuaBasicDeclaredStopStop.{Stop}
use Rattle.mw_html_texts.specs.LuaBasicDeclaredStopStopTheVariants as stop
use Rattle.lua_modules.specs.MwFramesCosts.{Took, Lacked, Unpaid}
use Rattle.lua_modules.specs.MwFramesDeclaredScenesParentTheVariants as kin
use Rattle.lua_modules.specs.MwFramesDeclaredScenesSceneFrame.{SceneFrame}
use Rattle.lua_modules.specs.MwFramesDeclaredScenesScenes.{Scenes}
use Rattle.lua_modules.specs.MwFramesScenes.{made, frame_seen, frames_seen as scenes_seen, FrameOf, FramesOf, NamesOf, ScenesOf}
use Rattle.lua_runs.proofs.Parts.{with_frames, if_spent}

-- WHAT IS TAKEN for a frame's arguments
pub took : (n : ℕ) (l k : Left) → Took n l k → Pays n l k true
took n l k h = λ m mv told i. pays n mv (funds_of l m told i) h.0 ∙ ap (λ (x : Left). enact mv (funds_of x m told i)) (sym h.1)

pub lacked : (n : ℕ) (l k : Left) → Lacked n l k → Pays n l k false
lacked n l k h = λ m mv told i. spends n mv (funds_of l m told i) h.0 ∙ ap (λ (x : Left). Short Steps (all_given_back (funds_of x m told i))) (sym h.1)

-- A MODULE THAT IS REQUIRED changes no object of the store
quote_keeps : (p : Option Place) (text : Bytes) (fs : List SFrame) (x : Slots) → (led (raises_quote p text fs x)).heap ≡ x.heap
quote_keeps None text fs x = refl
quote_keeps (Some p) text fs x = refl

begins_keep : (title : Title) (m : CModule) (fs : List SFrame) (x : Slots) → (led (begins_text title m.code fs x)).heap ≡ x.heap
begins_keep title m fs x = by m.code
  where
    by : (c : Result Protos FaultAt) → (led (begins_text title c fs x)).heap ≡ x.heap
    by (Ok at) = refl
    by (Err fault) = refl

required_keep : (text : Bytes) (title : Title) (p : Option act.Progress) (m : Option CModule) (line : Option ℕ) (fs : List SFrame) (x : Slots) → (led (require_as text title p m line fs x)).heap ≡ x.heap
required_keep text title (Some (act.Finished v)) m line fs x = refl
required_keep text title (Some act.Running) m line fs x = quote_keeps (nth_level (levels_at x.functions line) 1) (loop_in_require text) fs x
required_keep text title None (Some m) line fs x = begins_keep title m (Waits (ModuleWaits title) line ∷ fs) (with_module title act.Running x)
required_keep text title None None line fs x = quote_keeps (nth_level (levels_at x.functions line) 1) (no_module text) fs x

pub require_keeps : (w : CWorld) (text : Bytes) (title : Title) (line : Option ℕ) (fs : List SFrame) (x : Slots) → (led (require_module w text title line fs x)).heap ≡ x.heap
require_keeps w text title line fs x = required_keep text title (item_of x.modules title) (w.modules (title_text title)) line fs x

-- THE FIRST FRAME is there
abbrev pub with_scenes : State → Scenes → State
with_scenes m x = record m { scenes = x }

pub framed : (s u : StoreView) (m n : State) (job : Job) → StateOf s m → IsLater s u → n ≡ with_scenes m n.scenes → u.heap ≡ make_frame job.scene 0 s.heap
    → scenes_seen (made n.scenes) ≡ new_frame s.heap job.scene (act.Unmade job.parent) ∷ [] → slots_of u n ≡ with_frame job (slots_of s m)
framed s u m n job of later same heap scenes =
    ap (slots_of u) same
    ∙ ap (λ (x : List act.Frame). let y : Slots = record (slots_of u m) { frames = x } in y) scenes
    ∙ ap (λ (x : Slots). let y : Slots = record x { frames = new_frame s.heap job.scene (act.Unmade job.parent) ∷ [] } in y) (slots_stay s u later m of)
    ∙ ap (λ (h : Heap Proc). let y : Slots = record (slots_of s m) { heap = h; frames = new_frame s.heap job.scene (act.Unmade job.parent) ∷ [] } in y) heap

-- STEPS were taken first, of a move whose last charge comes late
pub late_costs : (s t : StoreView) (m m' : State) (l k l' : Left) (n : ℕ) (mv : Move) (r : Turn) → Pays n l k true → LateMakes s m k t m' l' mv r → LateMakes s m l t m' l' (Costs n mv) r
late_costs s t m m' l k l' n mv r paid done = late_after s s t m m m' l k l' (Costs n mv) mv r refl (later-itself s) (if_spent (s.heap ≡ s.heap) r refl) refl (λ told i. paid m mv told i) done

unpaid_is : (n : ℕ) (l k : Left) (e : Stop) → Unpaid n l k e → Lacked n l k
unpaid_is n l k stop.Spent h = h
unpaid_is n l k _ h = absurd h

pub unpaid : (n : ℕ) (l k : Left) (e : Stop) → Unpaid n l k e → Pays n l k false
unpaid n l k e h = lacked n l k (unpaid_is n l k e h)

-- the frames of a run, of which this is the only one
pub first_scenes : (t : StoreView) (x y : Scenes) (first : SceneFrame) → ScenesOf t x → made x ≡ [] → made y ≡ made x ++ first ∷ [] → y.names ≡ x.names → FrameOf t first → ScenesOf t y
first_scenes t x y first of none more names h = record {
  frames = subst (FramesOf t) (sym (more ∙ ap (λ (fs : List SceneFrame). fs ++ first ∷ []) none)) (h, tt);
  names = subst (NamesOf t) (sym names) of.names;
}

pub scenes_of : (t : StoreView) (m : State) (x : Scenes) → StateOf t m → ScenesOf t x → StateOf t (with_scenes m x)
scenes_of t m x h k = record { frames = h.frames; regs = h.regs; functions = h.functions; env = h.env; modules = h.modules; loaded = h.loaded; scenes = k; codes = h.codes }

pub first_seen : (x y : Scenes) (first : SceneFrame) (h : Heap Proc) (scene parent : Scene) → made x ≡ [] → made y ≡ made x ++ first ∷ [] → first ≡ record { scene = scene; table = first.table; parent = kin.Unmade parent } → first.table.at ≡ length h.tables + 2
    → scenes_seen (made y) ≡ new_frame h scene (act.Unmade parent) ∷ []
first_seen x y first h scene parent none more is at =
    ap scenes_seen (more ∙ ap (λ (fs : List SceneFrame). fs ++ first ∷ []) none)
    ∙ ap (λ (f : SceneFrame). frame_seen f ∷ []) is
    ∙ ap (λ (n : ℕ). let f : act.Frame = record { scene = scene; table = Table n; parent = act.Unmade parent } in f ∷ []) at

funds_same : (l : Left) (m n : State) (told : Tally) (i : ℕ) → n.calls ≡ m.calls → n.height ≡ m.height → funds_of l m told i ≡ funds_of l n told i
funds_same l m n told i c h = rw (c, h) refl

-- THE MODULE OF AN INVOCATION is required, where its first frame is there and its value alone is waited for
pub invoked : (s u t : StoreView) (m k n m' : State) (l l' : Left) (job : Job) (r : Turn) (text : Bytes) (table : ℕ) → k ≡ with_scenes m k.scenes → n ≡ with_frames k n.frames → IsLater s u → u.heap ≡ make_frame job.scene 0 s.heap
    → slots_of u k ≡ with_frame job (slots_of s m) → text ≡ title_text job.«module» → table ≡ length s.heap.tables + 2 → frames_of u n ≡ ModuleFound job.function (Table table) ∷ []
    → Makes u n l t m' l' (require_module (world_seen n.codes.world) text job.«module» None (frames_of u n) (slots_of u n)) r
    → LateMakes s m l t m' l' (require_module (world_seen m.codes.world) (title_text job.«module») job.«module» None (ModuleFound job.function (frame_table s.heap) ∷ []) (with_frame job (slots_of s m))) r
invoked s u t m k n m' l l' job r text table first waits later heap slots named at frames done =
    late_changed s u t m n m' l l l' _ _ r worlds later (heap ∙ sym (require_keeps (world_seen m.codes.world) (title_text job.«module») job.«module» None _ (with_frame job (slots_of s m))))
    (λ told i. ap (λ (x : Move). enact x (funds_of l m told i)) (sym same) ∙ ap (enact (require_module (world_seen n.codes.world) text job.«module» None (frames_of u n) (slots_of u n))) (funds_same l m n told i calls height)) done
  where
    worlds : n.codes.world ≡ m.codes.world
    worlds = ap (λ (x : State). x.codes.world) waits ∙ ap (λ (x : State). x.codes.world) first

    calls : n.calls ≡ m.calls
    calls = ap (λ (x : State). x.calls) waits ∙ ap (λ (x : State). x.calls) first

    height : n.height ≡ m.height
    height = ap (λ (x : State). x.height) waits ∙ ap (λ (x : State). x.height) first

    same : require_module (world_seen n.codes.world) text job.«module» None (frames_of u n) (slots_of u n)
        ≡ require_module (world_seen m.codes.world) (title_text job.«module») job.«module» None (ModuleFound job.function (frame_table s.heap) ∷ []) (with_frame job (slots_of s m))
    same =
        ap (λ (w : World). require_module (world_seen w) text job.«module» None (frames_of u n) (slots_of u n)) worlds
        ∙ ap (λ (b : Bytes). require_module (world_seen m.codes.world) b job.«module» None (frames_of u n) (slots_of u n)) named
        ∙ ap (λ (fs : List SFrame). require_module (world_seen m.codes.world) (title_text job.«module») job.«module» None fs (slots_of u n)) (frames ∙ ap (λ (i : ℕ). ModuleFound job.function (Table i) ∷ []) at)
        ∙ ap (λ (x : Slots). require_module (world_seen m.codes.world) (title_text job.«module») job.«module» None (ModuleFound job.function (frame_table s.heap) ∷ []) x) (ap (slots_of u) waits ∙ slots)

-- THE TEXT OF A DATA MODULE runs, whose value alone is waited for
pub loaded : (s t : StoreView) (m n : State) (l l' : Left) (title : Title) (r : Turn) → n ≡ with_frames m n.frames → frames_of s n ≡ DataNow ∷ []
    → Makes s n l t n l' (runs_data title ((world_seen n.codes.world).modules (title_text title)) (frames_of s n) (slots_of s n)) r
    → Makes s m l t n l' (runs_data title ((world_seen m.codes.world).modules (title_text title)) (DataNow ∷ []) (slots_of s m)) r
loaded s t m n l l' title r waits frames done =
    from_parts s t m n n l l' _ _ r (ap (λ (x : State). x.codes.world) waits) (ap (λ (x : State). x.calls) waits) (ap (λ (x : State). x.height) waits)
    (sym (ap (λ (fs : List SFrame). runs_data title ((world_seen n.codes.world).modules (title_text title)) fs (slots_of s n)) frames
    ∙ ap (λ (x : State). runs_data title ((world_seen x.codes.world).modules (title_text title)) (DataNow ∷ []) (slots_of s x)) waits)) done

-- what waits alone
pub only : (fs es : List Frame) (f : Frame) → fs ≡ f ∷ es → es ≡ [] → fs ≡ f ∷ []
only fs es f e none = e ∙ ap (λ (x : List Frame). f ∷ x) none
