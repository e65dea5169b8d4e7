-- The trees that a list of nodes in preorder stands for, and the parts of a construct or parameter.
use Rattle.std.specs.Prelude.{◌≡◌, ℕ, zero, suc, ◌+◌, ◌-◌, Bool, true, false, List, [], ◌∷◌, take, drop, length, Option, Some, None}
use Rattle.wiki_markup.specs.Nodes.{Node, NodeKind, Text, Construct, Parameter, Part, Equals}
use Rattle.wiki_markup.specs.Trees.{Trees, done, text, equals, node, preorder}
use Rattle.wiki_markup.specs.Formed.{IsMarked}

-- a tree of this kind, with what stands in it, before others
abbrev pub planted : NodeKind → Trees → Trees → Trees
planted (Text bytes) inside rest = text bytes rest
planted Equals inside rest = equals rest
planted Construct inside rest = node Construct inside rest
planted Parameter inside rest = node Parameter inside rest
planted Part inside rest = node Part inside rest

-- how many of the nodes behind one stand in it
abbrev pub reach : ℕ → Node → ℕ
reach at x = x.end - (at + 1)

-- of at most n nodes, the first of them at this place
unfoldable pub trees_by : ℕ → ℕ → List Node → Trees
trees_by n at [] = done
trees_by zero at (x ∷ xs) = done
trees_by (suc n) at (x ∷ xs) =
    planted x.kind (trees_by n (at + 1) (take (reach at x) xs)) (trees_by n (at + 1 + reach at x) (drop (reach at x) xs))

-- THE TREES of nodes in preorder, the first of them at this place
unfoldable pub trees_at : ℕ → List Node → Trees
trees_at at nodes = trees_by (length nodes) at nodes

-- the law: they are the trees whose preorder the nodes are
abbrev pub ReadBack : Type 0
ReadBack = (nodes : List Node) (marked : IsMarked nodes) → trees_at 0 nodes ≡ marked.0

-- what stands in each part of a construct or parameter
abbrev pub parts_in : Trees → List Trees
parts_in (node kind inside rest) = inside ∷ parts_in rest
parts_in _ = []

-- the first part, if there is one
abbrev pub part_in : List Trees → Option Trees
part_in [] = None
part_in (part ∷ others) = Some part

-- the first part, empty where there is none
abbrev pub first_in : List Trees → Trees
first_in [] = done
first_in (part ∷ others) = part

-- the parts behind the first
abbrev pub others_in : List Trees → List Trees
others_in [] = []
others_in (part ∷ others) = others

abbrev pub no_part : List Trees → Bool
no_part [] = true
no_part (part ∷ others) = false

-- A part that has an `=` is valued: its name stands before the first one, and its value behind it.
abbrev pub name_in : Trees → Trees
name_in done = done
name_in (equals rest) = done
name_in (text bytes rest) = text bytes (name_in rest)
name_in (node kind inside rest) = node kind inside (name_in rest)

abbrev pub value_in : Trees → Option Trees
value_in done = None
value_in (equals rest) = Some rest
value_in (text bytes rest) = value_in rest
value_in (node kind inside rest) = value_in rest
