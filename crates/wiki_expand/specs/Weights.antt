-- What a stack has in progress, and why an expander comes to an end.
use Rattle.std.specs.Prelude.{◌≡◌, ℕ, ◌+◌, ◌*◌, ◌<◌, ◌≤◌, List, [], ◌∷◌}
use Rattle.page_run.specs.WkBaseDeclaredLeftLeft.{Left}
use Rattle.wiki_pages.specs.Forests.{size}
use Rattle.wiki_expand.specs.declared.frame.Frame.{Frame}
use Rattle.wiki_expand.specs.declared.frame.Frame.TheVariants.{Walk as Walking, Level, Trim, Parameter, First, Written, Compare, Case, Valueless, Function, Unnamed, Name, Value, Body}
use Rattle.wiki_expand.specs.declared.frame.Focus.{Focus}
use Rattle.wiki_expand.specs.declared.frame.Focus.TheVariants.{Walk as Goes, Text as Hands}
use Rattle.wiki_expand.specs.declared.frame.Progress.{Progress}
use Rattle.wiki_expand.specs.declared.frame.Progress.TheVariants.{On, Deeper, Asks}

abbrev pub sum_of : (Frame → ℕ) → List Frame → ℕ
sum_of f [] = 0
sum_of f (x ∷ xs) = f x + sum_of f xs

-- constructs and parameters in progress
abbrev pub level : Frame → ℕ
level Level = 1
level (Parameter rest) = 1
level _ = 0

abbrev pub levels : List Frame → ℕ
levels fs = sum_of level fs

-- bodies in progress
abbrev pub body_count : Frame → ℕ
body_count (Body title args) = 1
body_count _ = 0

abbrev pub bodies : List Frame → ℕ
bodies fs = sum_of body_count fs

-- constructs that may still begin a body or ask
abbrev pub chance : Frame → ℕ
chance (First rest) = 1
chance (Function name rest) = 1
chance (Unnamed c) = 1
chance (Name c value) = 1
chance (Value c name) = 1
chance _ = 0

abbrev pub chances : List Frame → ℕ
chances fs = sum_of chance fs

-- what nodes and chances allow: a node that is taken gives one chance
abbrev pub allowed : Left → List Frame → ℕ
allowed l fs = 2 * l.nodes + chances fs

-- how much of the trees is to come before a node is taken or a body begun
abbrev pub weight : Frame → ℕ
weight (Walking s) = 8 * size s.rest + 4
weight Level = 1
weight Trim = 1
weight (Parameter rest) = 16 * size rest + 8
weight (First rest) = 16 * size rest + 16
weight (Written rest) = 16 * size rest + 8
weight (Compare left rest) = 16 * size rest + 8
weight (Case s value) = 16 * size s.rest + 8 * size value + 8 * size s.seen.default + 16
weight (Valueless s) = 16 * size s.rest + 8 * size s.seen.default + 16
weight (Function name rest) = 16 * size rest + 16
weight (Unnamed c) = 16 * size c.rest + 16
weight (Name c value) = 16 * size c.rest + 8 * size value + 24
weight (Value c name) = 16 * size c.rest + 16
weight (Body title args) = 1

abbrev pub weights : List Frame → ℕ
weights fs = sum_of weight fs

abbrev pub focus_weight : Focus → ℕ
focus_weight (Goes s) = 8 * size s.rest + 4
focus_weight (Hands x) = 2

abbrev pub point_weight : Focus → List Frame → ℕ
point_weight f fs = focus_weight f + weights fs

-- a step that goes on falls; one that goes deeper or asks takes what is allowed
abbrev pub Falls : ℕ → ℕ → Progress → List Frame → Left → Type 0
Falls n allowance (On f) fs l = (point_weight f fs < n) × (allowed l fs ≤ allowance)
Falls n allowance (Deeper f) fs l = allowed l fs < allowance
Falls n allowance (Asks job) fs l = allowed l fs < allowance

-- frames that are put on a stack: no construct or body begins, and at most so many chances come
abbrev pub Calm : ℕ → List Frame → List Frame → Type 0
Calm n old new = (levels new ≡ levels old) × (bodies new ≡ bodies old) × (chances new ≤ chances old + n)

-- levels of constructs and bodies are given back when their frames go, and no step takes steps or calls
abbrev pub Keeps : Left → List Frame → Left → List Frame → Type 0
Keeps l fs l' gs = (l'.depth + levels gs ≡ l.depth + levels fs) × (l'.templates + bodies gs ≡ l.templates + bodies fs) × (l'.steps ≡ l.steps) × (l'.calls ≡ l.calls)
