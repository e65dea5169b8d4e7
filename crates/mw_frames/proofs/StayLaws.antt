-- The frames of a run are of each later store.
use Rattle.std.proofs.Common.{◌∙◌, arith}
use Rattle.std.specs.Prelude.{ℕ, List, [], ◌∷◌}
use Rattle.lua_basic.specs.LuaStoreDeclaredIdsTextId.{TextId}
use Rattle.lua_basic.specs.LuaStoreSeen.{StoreView}
use Rattle.lua_basic.specs.LuaStoreParts.{IsLater}
use Rattle.mw_frames.specs.declared.scenes.SceneFrame.{SceneFrame}
use Rattle.mw_frames.specs.declared.scenes.FieldNames.{FieldNames}
use Rattle.mw_frames.specs.Scenes.{FrameOf, FramesOf, IsNameOf, NamesOf, ScenesStay}

frames_later : (s t : StoreView) (fs : List SceneFrame) → IsLater s t → FramesOf s fs → FramesOf t fs
frames_later s t [] l h = tt
frames_later s t (f ∷ fs) l h = (record { table = omega (arith, h.0.table, l.tables); names = h.0.names; parent = h.0.parent }, frames_later s t fs l h.1)

name_later : (s t : StoreView) (id : TextId) (bytes : List ℕ) → IsLater s t → IsNameOf s id bytes → IsNameOf t id bytes
name_later s t id bytes l h = (omega (arith, h.0, l.texts.length_), l.texts.same id.at h.0 ∙ h.1)

names_later : (s t : StoreView) (n : FieldNames) → IsLater s t → NamesOf s n → NamesOf t n
names_later s t n l h = record {
  args = name_later s t n.args _ l h.args;
  title = name_later s t n.title _ l h.title;
  name = name_later s t n.name _ l h.name;
  text = name_later s t n.text _ l h.text;
  content = name_later s t n.content _ l h.content;
  attrs = name_later s t n.attrs _ l h.attrs;
}

pub scenes_later : ScenesStay
scenes_later s t x l h = record { frames = frames_later s t _ l h.frames; names = names_later s t x.names l h.names }
