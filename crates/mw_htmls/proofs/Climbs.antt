-- Going up from parent to parent: whatever root is found from an object on the way is the root of the first one.
use Rattle.std.proofs.Common.{◌≡◌, ◌∙◌, ap, sym, ℕ, suc, List, Option, Some, None, slice_index_or}
use Rattle.mw_html.specs.LuaHeapHeap.{MarkupNode, no_markup}
use Rattle.lua_strings.specs.LuaMeaningHtmlNodes.{root_above, root_by, root_of}
use Rattle.lua_strings.proofs.LuaMeaningHtmlRoots.{found-of}

abbrev parent_at : List MarkupNode → ℕ → Option ℕ
parent_at nodes at = (slice_index_or nodes at no_markup).parent

abbrev pub IsAbove : List MarkupNode → ℕ → ℕ → Type 0
IsAbove nodes id at = (room root : ℕ) → root_by nodes room at ≡ Some root → (more : ℕ) × (root_by nodes more id ≡ Some root)

pub itself : (nodes : List MarkupNode) (id : ℕ) → IsAbove nodes id id
itself nodes id room root e = (room, e)

pub climbs : (nodes : List MarkupNode) (id at above : ℕ) → Some above ≡ parent_at nodes at → IsAbove nodes id at → IsAbove nodes id above
unfolding root_by
climbs nodes id at above is up room root e = up (suc room) root (ap (root_above (root_by nodes room) at) (sym is) ∙ e)

pub arrives : (nodes : List MarkupNode) (id at : ℕ) → None ≡ parent_at nodes at → IsAbove nodes id at → root_of nodes id ≡ Some at
unfolding root_by
arrives nodes id at is up = let m = up 1 at (ap (root_above (root_by nodes 0) at) (sym is)) in found-of nodes m.0 id at m.1
