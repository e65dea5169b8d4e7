-- PLAIN NODES AS MARKUP OBJECTS: texts and objects stand in two lists, and are named by their places there. What made an
-- object has no part in its rendering, so plain nodes have no parent.
use Rattle.std.specs.Prelude.{◌≡◌, ℕ, ◌+◌, ◌<◌, ◌≤◌, List, [], map, None, length, slice_index_or}
use Rattle.std.specs.List.{AllByRecursion}
use Rattle.lua_heap.specs.Heap.{MarkupStyle, Item, StyleText, MarkupChild, ChildText, ChildNode, MarkupNode}
use Rattle.mw_html.specs.declared.plain.PlainPair.{PlainPair}
use Rattle.mw_html.specs.declared.plain.PlainStyle.{PlainStyle}
use Rattle.mw_html.specs.declared.plain.PlainStyle.TheVariants as plain_style
use Rattle.mw_html.specs.declared.plain.PlainChild.{PlainChild}
use Rattle.mw_html.specs.declared.plain.PlainChild.TheVariants as plain_child
use Rattle.mw_html.specs.declared.plain.PlainNode.{PlainNode}
use Rattle.mw_html.specs.declared.rendering.Rendered.{Rendered}
use Rattle.mw_html.specs.declared.rendering.Rendered.TheVariants as rendered
use Rattle.mw_html.specs.Render.{Piece, Whole, Deep, count}

abbrev pub text_at : List (List ℕ) → ℕ → List ℕ
text_at texts i = slice_index_or texts i []

abbrev pub seen_pair : List (List ℕ) → PlainPair → List ℕ × List ℕ
seen_pair texts p = (text_at texts p.name, text_at texts p.value)

abbrev pub seen_style : List (List ℕ) → PlainStyle → MarkupStyle
seen_style texts (plain_style.Item p) = Item (text_at texts p.name) (text_at texts p.value)
seen_style texts (plain_style.Text i) = StyleText (text_at texts i)

abbrev pub seen_child : List (List ℕ) → PlainChild → MarkupChild
seen_child texts (plain_child.Text i) = ChildText (text_at texts i)
seen_child texts (plain_child.Node i) = ChildNode i

abbrev pub seen_node : List (List ℕ) → PlainNode → MarkupNode
seen_node texts n = record {
  name = text_at texts n.name;
  closed = n.closed;
  parent = None;
  attrs = map (seen_pair texts) n.attrs;
  styles = map (seen_style texts) n.styles;
  children = map (seen_child texts) n.children;
}

abbrev pub seen_nodes : List (List ℕ) → List PlainNode → List MarkupNode
seen_nodes texts nodes = map (seen_node texts) nodes

-- whatever is named is there
abbrev pub IsPairOf : ℕ → PlainPair → Type 0
IsPairOf texts p = (p.name < texts) × (p.value < texts)

abbrev pub IsStyleOf : ℕ → PlainStyle → Type 0
IsStyleOf texts (plain_style.Item p) = IsPairOf texts p
IsStyleOf texts (plain_style.Text i) = i < texts

abbrev pub IsChildOf : ℕ → ℕ → PlainChild → Type 0
IsChildOf nodes texts (plain_child.Text i) = i < texts
IsChildOf nodes texts (plain_child.Node i) = i < nodes

pub record IsNodeOf (nodes texts : ℕ) (n : PlainNode) : Type 0 where
  pub name : n.name < texts
  pub attrs : AllByRecursion (IsPairOf texts) n.attrs
  pub styles : AllByRecursion (IsStyleOf texts) n.styles
  pub children : AllByRecursion (IsChildOf nodes texts) n.children

-- THE ANSWER under a budget for what the piece counts
abbrev pub IsRendered : ℕ → Piece → Rendered → Type 0
IsRendered budget (Whole a n) (rendered.Text bytes m) = (m ≤ budget) × (bytes.items ≡ a) × (m ≡ n + length a)
IsRendered budget (Deep a n) (rendered.TooDeep m) = (m ≤ budget) × (m ≡ n + length a)
IsRendered budget p rendered.Spent = budget < count p
IsRendered budget p answer = ⊥
