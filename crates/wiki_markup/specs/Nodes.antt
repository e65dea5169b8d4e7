-- THE NODES of a pairing: trees in preorder.
use Rattle.std.specs.Prelude.{ℕ, List}

-- What a node is: bytes that stand as they are (no text is empty, and no text follows another); `{{..}}` or `{{{..}}}`, whose children are
-- parts, one at least; what stands between their marks and their `|`; or the first `=` of a part that isn't the first of its node.
pub data NodeKind : Type 0 where
  Text : List ℕ → NodeKind
  Construct : NodeKind
  Parameter : NodeKind
  Part : NodeKind
  Equals : NodeKind

-- Its children, and theirs, are the nodes after it up to, but not including, `end`.
pub record Node : Type 0 where
  pub kind : NodeKind
  pub end : ℕ

pub record Marked : Type 0 where
  pub nodes : List Node
