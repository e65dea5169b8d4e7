-- Stretches of a page's nodes.
use Rattle.std.specs.Prelude.{ℕ, ◌-◌, List, take, drop}
use Rattle.wiki_markup.specs.Nodes.{Node}
use Rattle.wiki_markup.specs.Trees.{Trees}
use Rattle.expand_texts.specs.ExpandMeaningPlaces.{trees_at, parts_in}

-- the nodes from a place up to another
abbrev pub between : ℕ → ℕ → List Node → List Node
between at end nodes = take (end - at) (drop at nodes)

-- their trees
unfoldable pub trees_between : List Node → ℕ → ℕ → Trees
trees_between nodes at end = trees_at at (between at end nodes)

-- what stands in the parts that end there, from a place on
abbrev pub parts_from : List Node → ℕ → ℕ → List Trees
parts_from nodes end at = parts_in (trees_between nodes at end)
