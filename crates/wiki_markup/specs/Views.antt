-- What a caller reads of a node.
use Rattle.std.specs.Prelude.{ℕ}
use Rattle.wiki_markup.specs.declared.marked.KindView.{KindView}
use Rattle.wiki_markup.specs.declared.marked.KindView.TheVariants.{Text as TextView, Construct as ConstructView, Parameter as ParameterView, Part as PartView, Equals as EqualsView}
use Rattle.wiki_markup.specs.declared.marked.NodeView.{NodeView}
use Rattle.wiki_markup.specs.Nodes.{NodeKind, Text, Construct, Parameter, Part, Equals, Node}

abbrev pub kind_seen : KindView → NodeKind
kind_seen (TextView bytes) = Text bytes.now
kind_seen ConstructView = Construct
kind_seen ParameterView = Parameter
kind_seen PartView = Part
kind_seen EqualsView = Equals

abbrev pub node_seen : NodeView → Node
node_seen view = record { kind = kind_seen view.kind; end = view.end }
