-- THE FRAMES OF A RUN as code holds them (Scribunto, Frame object), and the frames of the meaning that they are seen as. No text of a
-- store stands in them, so they are seen alike with each store.
use Rattle.std.specs.Prelude.{◌≡◌, ℕ, List, map, codes}
use Rattle.std.specs.List.{AllByRecursion}
use Rattle.mw_frame.specs.Scenes.{NamesDiffer}
use Rattle.lua_basic.specs.LuaHeapValue.{Table}
use Rattle.lua_basic.specs.LuaMeaningActs as meaning
use Rattle.lua_basic.specs.LuaMeaningActs.{Frame}
use Rattle.lua_basic.specs.LuaStoreDeclaredIdsTextId.{TextId}
use Rattle.lua_basic.specs.LuaStoreSeen.{StoreView, text_at}
use Rattle.lua_basic.specs.LuaStoreParts.{IsTextOf, IsTableOf, IsLater}
use Rattle.mw_frames.specs.declared.scenes.Parent.{Parent}
use Rattle.mw_frames.specs.declared.scenes.Parent.TheVariants as parent
use Rattle.mw_frames.specs.declared.scenes.SceneFrame.{SceneFrame}
use Rattle.mw_frames.specs.declared.scenes.FieldNames.{FieldNames}
use Rattle.mw_frames.specs.declared.scenes.Scenes.{Scenes}

abbrev pub parent_seen : Parent → meaning.Parent
parent_seen parent.Nobody = meaning.Nobody
parent_seen (parent.Unmade scene) = meaning.Unmade scene
parent_seen (parent.Made number) = meaning.Made number

abbrev pub frame_seen : SceneFrame → Frame
frame_seen f = record { scene = f.scene; table = Table f.table.at; parent = parent_seen f.parent }

abbrev pub frames_seen : List SceneFrame → List Frame
frames_seen fs = map frame_seen fs

-- the frames that were made, by number
abbrev pub made : Scenes → List SceneFrame
made x = x.frames.items

-- THEY ARE OF A STORE, and in each scene the names of arguments differ
abbrev pub HasNames : Parent → Type 0
HasNames parent.Nobody = Unit {0}
HasNames (parent.Unmade scene) = NamesDiffer scene.args
HasNames (parent.Made number) = Unit {0}

pub record FrameOf (s : StoreView) (f : SceneFrame) : Type 0 where
  pub table : IsTableOf s f.table
  pub names : NamesDiffer f.scene.args
  pub parent : HasNames f.parent

abbrev pub FramesOf : StoreView → List SceneFrame → Type 0
FramesOf s fs = AllByRecursion (FrameOf s) fs

-- the names of fields that methods read, and `mw.text.tag`
abbrev pub IsNameOf : StoreView → TextId → List ℕ → Type 0
IsNameOf s id bytes = IsTextOf s id × (text_at s.texts id.at ≡ bytes)

pub record NamesOf (s : StoreView) (n : FieldNames) : Type 0 where
  pub args : IsNameOf s n.args (codes "args")
  pub title : IsNameOf s n.title (codes "title")
  pub name : IsNameOf s n.name (codes "name")
  pub text : IsNameOf s n.text (codes "text")
  pub content : IsNameOf s n.content (codes "content")
  pub attrs : IsNameOf s n.attrs (codes "attrs")

pub record ScenesOf (s : StoreView) (x : Scenes) : Type 0 where
  pub frames : FramesOf s (made x)
  pub names : NamesOf s x.names

-- so it is with each later store
abbrev pub ScenesStay : Type 0
ScenesStay = (s t : StoreView) (x : Scenes) → IsLater s t → ScenesOf s x → ScenesOf t x
