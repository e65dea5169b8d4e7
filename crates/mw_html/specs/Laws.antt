-- OTHER NUMBERS: a rendering hangs on what is reached, and not on the numbers by which objects go.
use Rattle.std.specs.Prelude.{◌≡◌, ℕ, List, Some, slice_index_or}
use Rattle.lua_heap.specs.Heap.{Heap, MarkupNode, mar, no_markup}
use Rattle.lua_heap.specs.Related.{Map, Each, SameChild, Stands}
use Rattle.mw_html.specs.Render.{render}

-- the same tag, and the same in it under other numbers
pub record SameTag (m : Map) (a b : MarkupNode) : Type 0 where
  pub name : a.name ≡ b.name
  pub closed : a.closed ≡ b.closed
  pub attrs : a.attrs ≡ b.attrs
  pub styles : a.styles ≡ b.styles
  pub children : Each (SameChild m) a.children b.children

-- each object that has another number is the same under it
abbrev pub IsRenumbered : Map → List MarkupNode → List MarkupNode → Type 0
IsRenumbered m ns ms = (a b : ℕ) → m.to (mar a) ≡ Some (mar b) → SameTag m (slice_index_or ns a no_markup) (slice_index_or ms b no_markup)

abbrev pub RenumberedIsRendered : Type 0
RenumberedIsRendered = (m : Map) (ns ms : List MarkupNode) → IsRenumbered m ns ms → (a b : ℕ) → m.to (mar a) ≡ Some (mar b) → render ns a ≡ render ms b

-- so objects of a heap, and what stands for them in another one, are rendered alike
abbrev pub StandsIsRendered : {X Y : Type 0} → (Map → X → Y → Type 0) → Type 0
StandsIsRendered {X} {Y} R = (m : Map) (h : Heap X) (s : Heap Y) → Stands R m h s → (a b : ℕ) → m.to (mar a) ≡ Some (mar b) → render h.markup a ≡ render s.markup b
