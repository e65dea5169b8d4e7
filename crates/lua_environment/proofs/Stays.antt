-- The name of a handler is one in each later store.
use Rattle.std.proofs.Common.{ℕ, List, ◌∙◌}
use Rattle.lua_store.specs.declared.ids.TextId.{TextId}
use Rattle.lua_store.specs.Seen.{StoreView}
use Rattle.lua_store.specs.Parts.{IsLater}
use Rattle.lua_store.proofs.Later.{text_of-later}
use Rattle.lua_stack.specs.Of.{IsNameOf}

pub name-later : (s t : StoreView) (id : TextId) (name : List ℕ) → IsLater s t → IsNameOf s id name → IsNameOf t id name
name-later s t id name l h = (text_of-later s t l id h.0, l.texts.same id.at h.0 ∙ h.1)
