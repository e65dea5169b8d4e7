-- What a machine holds is of each later store, and is seen there as it was, but for the heap.
use Rattle.std.proofs.Common.{◌≡◌, ◌∙◌, refl, sym, ℕ, List, Option, Some, None, ap, arith}
use Rattle.std.specs.Prelude.{IfSome}
use Rattle.std.specs.List.{AllByRecursion}
use Rattle.lua_code.specs.WkBaseDeclaredTitleTitle.{Title}
use Rattle.lua_code.specs.LuaHeapProc.{Proc}
use Rattle.lua_code.specs.LuaHeapHeap.{Heap}
use Rattle.lua_code.specs.LuaMeaningActs as act
use Rattle.mw_frames.specs.LuaStoreDeclaredValueValue.{Value}
use Rattle.mw_frames.specs.LuaStoreDeclaredIdsTextId.{TextId}
use Rattle.mw_frames.specs.LuaStoreSeen.{StoreView, seen}
use Rattle.mw_frames.specs.LuaStoreParts.{IsOf, IsLater}
use Rattle.mw_frames.proofs.LuaStoreLater.{of-later, seen-later, text_of-later}
use Rattle.mw_frames.proofs.LuaStoreLists.{all-to, map-alike}
use Rattle.lua_code.specs.declared.proto.Protos.{Protos}
use Rattle.lua_code.specs.LuaSlotsCode.{CWorld}
use Rattle.lua_arms.specs.LuaSlotsCalls.{code_of}
use Rattle.lua_goes.specs.LuaSlotsSlots.{with_heap}
use Rattle.lua_arms.proofs.LuaStackStay.{registers_later, registers_as, activations_later, activations_as, frames_later, frames_as, environment_later}
use Rattle.lua_titled.specs.Seen.{titled_by, by_title}
use Rattle.mw_frames.specs.declared.scenes.SceneFrame.{SceneFrame}
use Rattle.mw_frames.specs.declared.scenes.Scenes.{Scenes}
use Rattle.mw_frames.specs.Scenes.{made, FrameOf, IsNameOf, ScenesOf}
use Rattle.lua_state.specs.declared.codes.Codes.{Codes}
use Rattle.lua_state.specs.declared.codes.Recent.{Recent}
use Rattle.lua_state.specs.declared.held.Held.{Held}
use Rattle.lua_state.specs.declared.progress.Progress.{Progress}
use Rattle.lua_state.specs.declared.progress.Progress.TheVariants as progress
use Rattle.lua_state.specs.declared.state.State.{State}
use Rattle.lua_state.specs.Seen.{progress_seen, slots_of, frames_of}
use Rattle.lua_state.specs.Of.{ProgressOf, StateOf}
use Rattle.lua_state.specs.Worlds.{world_seen, IsFound, IsRecent, IsHeld, CodesOf}
use Rattle.lua_state.specs.Laws.{StateStays}

module _ (s t : StoreView) (l : IsLater s t) where
  progress_later : (p : Progress) → ProgressOf s p → ProgressOf t p
  progress_later progress.Running h = tt
  progress_later (progress.Finished v) h = of-later s t l v h

  progress_stays : (p : Progress) → ProgressOf s p → progress_seen t.texts p ≡ progress_seen s.texts p
  progress_stays progress.Running h = refl
  progress_stays (progress.Finished v) h = ap act.Finished (seen-later s t l v h)

  modules_as : (ms : List (Title × Progress)) → AllByRecursion (λ (x : Title × Progress). ProgressOf s x.1) ms → by_title (progress_seen t.texts) ms ≡ by_title (progress_seen s.texts) ms
  modules_as ms h = map-alike (λ (x : Title × Progress). ProgressOf s x.1) (titled_by (progress_seen t.texts)) (titled_by (progress_seen s.texts)) (λ x k. rw (progress_stays x.1 k) refl) ms h

  loaded_as : (vs : List (Title × Value)) → AllByRecursion (λ (x : Title × Value). IsOf s x.1) vs → by_title (seen t.texts) vs ≡ by_title (seen s.texts) vs
  loaded_as vs h = map-alike (λ (x : Title × Value). IsOf s x.1) (titled_by (seen t.texts)) (titled_by (seen s.texts)) (λ x k. rw (seen-later s t l x.1 k) refl) vs h

  -- FRAMES of the run
  name_later : (id : TextId) (name : List ℕ) → IsNameOf s id name → IsNameOf t id name
  name_later id name h = (text_of-later s t l id h.0, l.texts.same id.at h.0 ∙ h.1)

  scene_later : (f : SceneFrame) → FrameOf s f → FrameOf t f
  scene_later f h = record { table = omega (arith, h.table, l.tables); names = h.names; parent = h.parent }

  scenes_later : (x : Scenes) → ScenesOf s x → ScenesOf t x
  scenes_later x h = record {
    frames = all-to (FrameOf s) (FrameOf t) scene_later (made x) h.frames;
    names = record {
      args = name_later x.names.args _ h.names.args;
      title = name_later x.names.title _ h.names.title;
      name = name_later x.names.name _ h.names.name;
      text = name_later x.names.text _ h.names.text;
      content = name_later x.names.content _ h.names.content;
      attrs = name_later x.names.attrs _ h.names.attrs;
    };
  }

  -- CODE and constants that were found
  found_later : (w : CWorld) (source : TextId) (functions : Protos) → IsFound w s source functions → IsFound w t source functions
  found_later w source functions h = record { of = text_of-later s t l source h.of; code = ap (λ title. code_of (w.modules title)) (l.texts.same source.at h.of) ∙ h.code }

  recent_later : (w : CWorld) (recent : Option Recent) → IsRecent w s recent → IsRecent w t recent
  recent_later w None h = tt
  recent_later w (Some r) h = found_later w r.source r.code.functions.now h

  one_later : (w : CWorld) (one : Held) → IsHeld w s one → IsHeld w t one
  one_later w one h = record {
    of = text_of-later s t l one.source h.of;
    text_of = text_of-later s t l one.text h.text_of;
    same = l.texts.same one.text.at h.text_of ∙ h.same ∙ sym (ap (λ title. (code_of (w.modules title)).constant one.number) (l.texts.same one.source.at h.of));
  }

  place_later : (w : CWorld) (place : Option Held) → IfSome place (IsHeld w s) → IfSome place (IsHeld w t)
  place_later w None h = tt
  place_later w (Some one) h = one_later w one h

  pub codes_later : (c : Codes) → CodesOf s c → CodesOf t c
  codes_later c h = record {
    all = all-to (λ e. IsFound (world_seen c.world) s e.0 e.1.functions.now) (λ e. IsFound (world_seen c.world) t e.0 e.1.functions.now) (λ e k. found_later (world_seen c.world) e.0 e.1.functions.now k) c.known.entries h.all;
    recent = recent_later (world_seen c.world) c.recent h.recent;
    held = all-to (λ place. IfSome place (IsHeld (world_seen c.world) s)) (λ place. IfSome place (IsHeld (world_seen c.world) t)) (place_later (world_seen c.world)) c.held.items h.held;
  }

  pub state_later : (m : State) → StateOf s m → StateOf t m
  state_later m h = record {
    frames = frames_later s t l m.frames h.frames;
    regs = registers_later s t l m.regs h.regs;
    functions = activations_later s t l m.functions h.functions;
    env = environment_later s t l m.env h.env;
    modules = all-to (λ (x : Title × Progress). ProgressOf s x.1) (λ (x : Title × Progress). ProgressOf t x.1) (λ x k. progress_later x.1 k) m.modules h.modules;
    loaded = all-to (λ (x : Title × Value). IsOf s x.1) (λ (x : Title × Value). IsOf t x.1) (λ x k. of-later s t l x.1 k) m.loaded h.loaded;
    scenes = scenes_later m.scenes h.scenes;
    codes = codes_later m.codes h.codes;
  }

  pub frames_stay : (m : State) → StateOf s m → frames_of t m ≡ frames_of s m
  frames_stay m h = frames_as s t l m.frames h.frames

  pub slots_stay : (m : State) → StateOf s m → slots_of t m ≡ with_heap t.heap (slots_of s m)
  slots_stay m h = rw (modules_as m.modules h.modules, loaded_as m.loaded h.loaded, registers_as s t l m.regs h.regs, activations_as s t l m.functions h.functions) refl

  -- the store's objects are as they were, and so is all
  pub slots_same : (m : State) → StateOf s m → t.heap ≡ s.heap → slots_of t m ≡ slots_of s m
  slots_same m h e = slots_stay m h ∙ ap (λ (x : Heap Proc). with_heap x (slots_of s m)) e

pub state_stays : StateStays
state_stays s t m l h = (state_later s t l m h, frames_stay s t l m h, slots_stay s t l m h)
