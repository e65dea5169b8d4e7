-- How nodes are held: their texts one behind another, and each node in eight bytes.
use Rattle.std.specs.Prelude.{ℕ, zero, suc, ◌+◌, ◌-◌, ◌≤◌, ◌<◌, ◌≡◌, List, [], ◌∷◌, length, take, drop, get_or}
use Rattle.wiki_markup.specs.declared.held.Kept.{Kept}
use Rattle.wiki_markup.specs.declared.held.Kept.TheVariants.{Text as KeptText, Equals as KeptEquals, Branch as KeptBranch}
use Rattle.wiki_markup.specs.declared.held.Branch.{Branch}
use Rattle.wiki_markup.specs.declared.held.Branch.TheVariants.{Construct as ConstructBranch, Parameter as ParameterBranch, Part as PartBranch}
use Rattle.wiki_markup.specs.Nodes.{NodeKind, Text, Construct, Parameter, Part, Equals, Node}

-- ---- texts

-- where the text of a number begins: the first one at a place, and each other one where the one before it ends
abbrev pub begin_of : ℕ → List ℕ → ℕ → ℕ
begin_of from ends zero = from
begin_of from ends (suc n) = get_or ends n 0

-- the texts that end at these places, the first of them from a place on
unfoldable pub texts_from : ℕ → List ℕ → List ℕ → List (List ℕ)
texts_from from [] bytes = []
texts_from from (end ∷ ends) bytes = take (end - from) (drop from bytes) ∷ texts_from end ends bytes

-- each ends where it begins or later, and the last one where the bytes end
abbrev pub AreEnds : ℕ → List ℕ → ℕ → Type 0
AreEnds from [] size = from ≡ size
AreEnds from (end ∷ ends) size = (from ≤ end) × AreEnds end ends size

-- ---- nodes

abbrev pub branch_kind : Branch → NodeKind
branch_kind ConstructBranch = Construct
branch_kind ParameterBranch = Parameter
branch_kind PartBranch = Part

abbrev pub kind_of : List (List ℕ) → Kept → NodeKind
kind_of texts (KeptText number) = Text (get_or texts number [])
kind_of texts KeptEquals = Equals
kind_of texts (KeptBranch branch place) = branch_kind branch

-- a node without children ends at the place that is given
abbrev pub end_of : ℕ → Kept → ℕ
end_of next (KeptText number) = next
end_of next KeptEquals = next
end_of next (KeptBranch branch place) = place

abbrev pub node_of : List (List ℕ) → ℕ → Kept → Node
node_of texts next kept = record { kind = kind_of texts kept; end = end_of next kept }

-- the nodes from a place on
unfoldable pub nodes_from : List (List ℕ) → ℕ → List Kept → List Node
nodes_from texts at [] = []
nodes_from texts at (k ∷ ks) = node_of texts (at + 1) k ∷ nodes_from texts (at + 1) ks

-- the nodes as they are put together: each has those behind it in the list to its right, and is counted from the right
unfoldable pub nodes_before : List (List ℕ) → List Kept → List Node
nodes_before texts [] = []
nodes_before texts (k ∷ ks) = node_of texts (length ks) k ∷ nodes_before texts ks

-- each text that is named is there
abbrev pub AreNumbered : ℕ → List Kept → Type 0
AreNumbered n [] = Unit {0}
AreNumbered n (KeptText number ∷ ks) = (number < n) × AreNumbered n ks
AreNumbered n (KeptEquals ∷ ks) = AreNumbered n ks
AreNumbered n (KeptBranch branch place ∷ ks) = AreNumbered n ks

-- one of so many nodes, counted from the left
abbrev pub turned : ℕ → Kept → Kept
turned count (KeptText number) = KeptText number
turned count KeptEquals = KeptEquals
turned count (KeptBranch branch right) = KeptBranch branch (count - right)
