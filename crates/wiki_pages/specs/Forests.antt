-- What a forest of the code stands for.
use Rattle.std.specs.Prelude.{◌≡◌, ℕ, ◌+◌, ◌-◌, ◌<◌, List, [], Option, Some, None}
use Rattle.wiki_markup.specs.Nodes.{Node, NodeKind, Text as TextKind, Equals as EqualsKind, Construct as ConstructKind, Parameter as ParameterKind, Part as PartKind}
use Rattle.expand_texts.specs.Ropes.{bytes_of}
use Rattle.wiki_markup.specs.Trees.{Trees, done, text, equals, node}
use Rattle.expand_texts.specs.ExpandMeaningPlaces.{trees_at, parts_in, value_in}
pub use Rattle.wiki_pages.specs.Stretches.{between}
use Rattle.wiki_pages.specs.declared.forest.Nodes.{Nodes}
use Rattle.wiki_pages.specs.declared.forest.Nodes.TheVariants.{Held, Own}
use Rattle.wiki_pages.specs.declared.forest.Forest.{Forest}
use Rattle.wiki_pages.specs.declared.forest.Past.{Past}
use Rattle.wiki_pages.specs.declared.forest.Past.TheVariants.{Nothing as NoneLeft, Equals as AtEquals, Next as Further}
use Rattle.wiki_pages.specs.declared.forest.Split.{Split}
use Rattle.wiki_pages.specs.declared.forest.Split.TheVariants.{Nothing, Text, Equals, Construct, Parameter, Part}

abbrev pub nodes_in : Nodes → List Node
nodes_in (Held marked) = marked.now.nodes
nodes_in (Own marked) = marked.value.nodes

-- the text that a node is, if it is one
abbrev pub text_in : NodeKind → List ℕ
text_in (TextKind bytes) = bytes
text_in EqualsKind = []
text_in ConstructKind = []
text_in ParameterKind = []
text_in PartKind = []

-- THE TREES that a forest stands for
unfoldable pub trees_in : Forest → Trees
trees_in f = trees_at f.at (between f.at f.end (nodes_in f.nodes))

-- how many nodes it has at most
abbrev pub size : Forest → ℕ
size f = f.end - f.at

-- its first tree, with what stands in it, and the trees behind it
abbrev pub Splits : Split → Trees → Type 0
Splits Nothing t = t ≡ done
Splits (Text piece rest) t = t ≡ text (bytes_of piece) (trees_in rest)
Splits (Equals rest) t = t ≡ equals (trees_in rest)
Splits (Construct inside rest) t = t ≡ node ConstructKind (trees_in inside) (trees_in rest)
Splits (Parameter inside rest) t = t ≡ node ParameterKind (trees_in inside) (trees_in rest)
Splits (Part inside rest) t = t ≡ node PartKind (trees_in inside) (trees_in rest)

-- each time there are fewer
abbrev pub Falls : Split → ℕ → Type 0
Falls Nothing n = Unit {0}
Falls (Text piece rest) n = size rest < n
Falls (Equals rest) n = size rest < n
Falls (Construct inside rest) n = size inside + size rest < n
Falls (Parameter inside rest) n = size inside + size rest < n
Falls (Part inside rest) n = size inside + size rest < n

-- a forest among the same nodes, and one that ends at the same place as well
abbrev pub Amid : Forest → Forest → Type 0
Amid g f = nodes_in g.nodes ≡ nodes_in f.nodes

abbrev pub Behind : Forest → Forest → Type 0
Behind g f = Amid g f × (g.end ≡ f.end)

-- what stands in the first tree is amid, and what is left behind
abbrev pub Stays : Split → Forest → Type 0
Stays Nothing f = Unit {0}
Stays (Text piece rest) f = Behind rest f
Stays (Equals rest) f = Behind rest f
Stays (Construct inside rest) f = Amid inside f × Behind rest f
Stays (Parameter inside rest) f = Amid inside f × Behind rest f
Stays (Part inside rest) f = Amid inside f × Behind rest f

-- what stands in the parts that it is
abbrev pub parts : Forest → List Trees
parts f = parts_in (trees_in f)

abbrev pub option_trees : Option Forest → Option Trees
option_trees (Some f) = Some (trees_in f)
option_trees None = None

abbrev pub option_size : Option Forest → ℕ
option_size (Some f) = size f
option_size None = 0

abbrev pub OptionAmid : Option Forest → Forest → Type 0
OptionAmid (Some g) f = Amid g f
OptionAmid None f = Unit {0}

-- what a step of the search for the first `=` tells of the value
abbrev pub GoesPast : Past → Trees → Type 0
GoesPast NoneLeft t = value_in t ≡ None
GoesPast (AtEquals value) t = value_in t ≡ Some (trees_in value)
GoesPast (Further next) t = value_in t ≡ value_in (trees_in next)

abbrev pub PastFalls : Past → ℕ → Type 0
PastFalls NoneLeft n = Unit {0}
PastFalls (AtEquals value) n = size value < n
PastFalls (Further next) n = size next < n

abbrev pub PastAmid : Past → Forest → Type 0
PastAmid NoneLeft f = Unit {0}
PastAmid (AtEquals value) f = Amid value f
PastAmid (Further next) f = Amid next f
