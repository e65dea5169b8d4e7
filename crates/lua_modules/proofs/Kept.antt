-- MODULES AND DATA that a state keeps by title.
use Rattle.std.proofs.Common.{◌≡◌, ◌∙◌, sym, ap, subst, ℕ, List, Option, option_map}
use Rattle.std.specs.List.{AllByRecursion}
use Rattle.page_run.specs.WkBaseDeclaredLeftLeft.{Left}
use Rattle.lua_code.specs.WkBaseDeclaredTitleTitle.{Title}
use Rattle.lua_code.specs.WkBaseTitles.{title_text}
use Rattle.lua_code.specs.LuaHeapValue.{Value as Plain}
use Rattle.lua_code.specs.LuaMeaningScope.{Bytes}
use Rattle.lua_code.specs.LuaMeaningActs as act
use Rattle.lua_code.specs.LuaMeaningTitled.{ByTitle, item_of, with_item, without_item}
use Rattle.lua_state.specs.LuaStoreDeclaredValueValue.{Value}
use Rattle.lua_state.specs.LuaStoreSeen.{StoreView, seen}
use Rattle.lua_state.specs.LuaStoreParts.{IsOf}
use Rattle.lua_state.specs.LuaTitledSeen.{titled}
use Rattle.lua_state.proofs.LuaTitledNatural.{item_by, with_by, without_by}
use Rattle.lua_code.specs.LuaSlotsCode.{CWorld}
use Rattle.lua_code.specs.LuaSlotsModules.{require_as, require_module, with_module, without_module, with_data, load_as}
use Rattle.lua_state.specs.LuaSlotsSlots.{Slots}
use Rattle.lua_state.specs.declared.progress.Progress.{Progress}
use Rattle.lua_state.specs.declared.state.State.{State}
use Rattle.lua_state.specs.declared.turn.Turn.{Turn}
use Rattle.lua_state.specs.Seen.{progress_seen, slots_of, frames_of}
use Rattle.lua_state.specs.Of.{ProgressOf, StateOf}
use Rattle.lua_state.specs.Makes.{Makes}
use Rattle.lua_modules.proofs.Held.{put_all, out_all}

abbrev pub with_modules : State → List (Title × Progress) → State
with_modules m ms = record m { modules = ms }

abbrev pub with_loaded : State → List (Title × Value) → State
with_loaded m vs = record m { loaded = vs }

with_modules_of : (s : StoreView) (m : State) (ms : List (Title × Progress)) → StateOf s m → AllByRecursion (λ (x : Title × Progress). ProgressOf s x.1) ms → StateOf s (with_modules m ms)
with_modules_of s m ms h k = record { frames = h.frames; regs = h.regs; functions = h.functions; env = h.env; modules = k; loaded = h.loaded; scenes = h.scenes; codes = h.codes }

-- A MODULE is put in, or taken out
pub module_put_of : (s : StoreView) (m : State) (ms : List (Title × Progress)) (title : Title) (p : Progress) → StateOf s m → ProgressOf s p → titled ms ≡ with_item (titled m.modules) title p → StateOf s (with_modules m ms)
module_put_of s m ms title p h k e = with_modules_of s m ms h (put_all (ProgressOf s) m.modules ms title p e h.modules k)

pub module_put : (s : StoreView) (m : State) (ms : List (Title × Progress)) (title : Title) (p : Progress) → titled ms ≡ with_item (titled m.modules) title p
    → slots_of s (with_modules m ms) ≡ with_module title (progress_seen s.texts p) (slots_of s m)
module_put s m ms title p e = ap (λ (x : ByTitle act.Progress). let y : Slots = record (slots_of s m) { modules = x } in y) (with_by (progress_seen s.texts) m.modules ms title p e)

pub module_out_of : (s : StoreView) (m : State) (ms : List (Title × Progress)) (title : Title) → StateOf s m → titled ms ≡ without_item (titled m.modules) title → StateOf s (with_modules m ms)
module_out_of s m ms title h e = with_modules_of s m ms h (out_all (ProgressOf s) m.modules ms title e h.modules)

pub module_out : (s : StoreView) (m : State) (ms : List (Title × Progress)) (title : Title) → titled ms ≡ without_item (titled m.modules) title → slots_of s (with_modules m ms) ≡ without_module title (slots_of s m)
module_out s m ms title e = ap (λ (x : ByTitle act.Progress). let y : Slots = record (slots_of s m) { modules = x } in y) (without_by (progress_seen s.texts) m.modules ms title e)

-- DATA are put in
pub data_put_of : (s : StoreView) (m : State) (vs : List (Title × Value)) (title : Title) (v : Value) → StateOf s m → IsOf s v → titled vs ≡ with_item (titled m.loaded) title v → StateOf s (with_loaded m vs)
data_put_of s m vs title v h k e = record { frames = h.frames; regs = h.regs; functions = h.functions; env = h.env; modules = h.modules; loaded = put_all (IsOf s) m.loaded vs title v e h.loaded k; scenes = h.scenes; codes = h.codes }

pub data_put : (s : StoreView) (m : State) (vs : List (Title × Value)) (title : Title) (v : Value) → titled vs ≡ with_item (titled m.loaded) title v → slots_of s (with_loaded m vs) ≡ with_data title (seen s.texts v) (slots_of s m)
data_put s m vs title v e = ap (λ (x : ByTitle Plain). let y : Slots = record (slots_of s m) { data_ = x } in y) (with_by (seen s.texts) m.loaded vs title v e)

-- WHAT IS FOUND is what the slots have
module _ (s t : StoreView) (m m' : State) (l l' : Left) (text : Bytes) (title : Title) (line : Option ℕ) (r : Turn) where
  pub required : (w : CWorld) (p q : Option Progress) → p ≡ item_of (titled m.modules) title → p ≡ q
      → Makes s m l t m' l' (require_as text title (option_map (progress_seen s.texts) q) (w.modules (title_text title)) line (frames_of s m) (slots_of s m)) r
      → Makes s m l t m' l' (require_module w text title line (frames_of s m) (slots_of s m)) r
  required w p q e is made =
      subst (λ (o : Option act.Progress). Makes s m l t m' l' (require_as text title o (w.modules (title_text title)) line (frames_of s m) (slots_of s m)) r)
      (ap (option_map (progress_seen s.texts)) (sym is ∙ e) ∙ sym (item_by (progress_seen s.texts) m.modules title)) made

  pub loaded : (p q : Option Value) → p ≡ item_of (titled m.loaded) title → p ≡ q
      → Makes s m l t m' l' (load_as text title (option_map (seen s.texts) q) line (frames_of s m) (slots_of s m)) r
      → Makes s m l t m' l' (load_as text title (item_of (slots_of s m).data_ title) line (frames_of s m) (slots_of s m)) r
  loaded p q e is made =
      subst (λ (o : Option Plain). Makes s m l t m' l' (load_as text title o line (frames_of s m) (slots_of s m)) r)
      (ap (option_map (seen s.texts)) (sym is ∙ e) ∙ sym (item_by (seen s.texts) m.loaded title)) made
