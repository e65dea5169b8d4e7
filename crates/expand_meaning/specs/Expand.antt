-- THE EXPANSION of a text as its events (MediaWiki, Help:Templates, Help:Extension:ParserFunctions; Extension:Scribunto, "#invoke").
-- A construct or a parameter is not entered where it stands: it is opened, at one node, and `thing_text` says what then stands for it.
use Rattle.std.specs.Prelude.{ℕ, ◌+◌, Bool, true, false, cond, ◌||◌, List, [], ◌∷◌, ◌++◌, length, codes, decimal, bytes_eq, Option, Some, None}
use Rattle.std.specs.List.{list_any}
use Rattle.wiki_markup.specs.WkBaseSpace.{trim}
use Rattle.mw_frame.specs.WkBaseTitles.{is_module}
use Rattle.mw_frame.specs.WkBaseDeclaredTitleNamespaceTheVariants.{Module}
use Rattle.mw_frame.specs.WkBaseDeclaredTitleTitle.{Title}
use Rattle.page_run.specs.WkBaseContractsTitleTitlePartialEqTheImpl as titles
use Rattle.wiki_markup.specs.Nodes.{NodeKind, Construct, Parameter}
use Rattle.wiki_markup.specs.Trees.{Trees, done, text, equals, node}
use Rattle.mw_frame.specs.declared.scene.Arg.{Arg}
use Rattle.mw_frame.specs.declared.scene.Scene.{Scene}
use Rattle.mw_frame.specs.declared.scene.Job.{Job}
use Rattle.page_run.specs.Run.{Use, TakeBytes, EnterDepth, LeaveDepth, HasTemplate, EnterTemplate, LeaveTemplate, Run}
use Rattle.page_run.specs.Part.{Part, ◌>>=◌, give, try_use, open_or, ask}
use Rattle.expand_meaning.specs.Texts.{node_text, size_text, depth_text, loop_text, missing_text, no_function_text, no_module_text, are_equal}
use Rattle.expand_meaning.specs.Kind.{Kind, Written, Word, If, IfEq, Switch, Invoke, Include, title_named, kind_of}
use Rattle.expand_meaning.specs.Places.{parts_in, part_in, first_in, others_in, no_part, name_in, value_in}

-- WHERE a text is expanded: the pages that can be included, as they are read for it, and the page that is expanded
pub record Setting : Type 0 where
  pub included : Title → Option Trees
  pub page : Title

-- what is opened: the parts of a construct or of a parameter, in the scene where it stands
pub data Thing : Type 0 where
  AConstruct : (parts : List Trees) (scene : Scene) → Thing
  AParameter : (parts : List Trees) (scene : Scene) → Thing

-- A run of an expansion: it may use its allowances, has no heap, asks for what invocations give, and comes to a text.
abbrev pub Page : Type 0
Page = Run (Unit {0}) (Unit {0}) Thing Job (List ℕ) (List ℕ)

abbrev pub Doing : Type 0 → Type 0
Doing X = Part Page X

abbrev pub choice : {X : Type 0} → Bool → Doing X → Doing X → Doing X
choice true a b = a
choice false a b = b

-- ---- what is taken and given back

-- a part, and then a level is given back
abbrev pub giving_back : Use → Doing (List ℕ) → Doing (List ℕ)
giving_back level m = do
  x ← m
  _ ← try_use tt level
  give x

-- one level of depth around a part, or the text in its place
abbrev pub deeper : Doing (List ℕ) → Doing (List ℕ)
deeper m = do
  enough ← try_use tt EnterDepth
  choice enough (giving_back LeaveDepth m) (give depth_text)

-- a result takes its length, or the text stands in its place
abbrev pub sized : Doing (List ℕ) → Doing (List ℕ)
sized m = do
  x ← m
  enough ← try_use tt (TakeBytes (length x))
  give (cond enough x size_text)

-- ---- texts

abbrev pub opened : NodeKind → Trees → Scene → Doing (List ℕ)
opened Construct inside sc = open_or tt node_text (AConstruct (parts_in inside) sc)
opened Parameter inside sc = open_or tt node_text (AParameter (parts_in inside) sc)
opened _ inside sc = give []

-- behind the text so far, that of some trees in turn; an `=` is text
abbrev pub onward : Trees → Scene → List ℕ → Doing (List ℕ)
onward done sc out = give out
onward (text bytes rest) sc out = onward rest sc (out ++ bytes)
onward (equals rest) sc out = onward rest sc (out ++ 61 ∷ [])
onward (node kind inside rest) sc out = do
  x ← opened kind inside sc
  onward rest sc (out ++ x)

abbrev pub expand : Trees → Scene → Doing (List ℕ)
expand trees sc = onward trees sc []

abbrev pub trimmed : Doing (List ℕ) → Doing (List ℕ)
trimmed m = do
  x ← m
  give (trim x)

-- behind the text so far, parts in turn, each behind a `|`
abbrev pub all_parts : List Trees → Scene → List ℕ → Doing (List ℕ)
all_parts (part ∷ rest) sc out = do
  out ← onward part sc (out ++ 124 ∷ [])
  all_parts rest sc out
all_parts [] sc out = give out

-- ---- arguments

-- Of two arguments with one name the last counts, at the place of the first.
abbrev pub put : List ℕ → List ℕ → List Arg → List Arg
put name value [] = record { name = name; value = value } ∷ []
put name value (a ∷ args) = cond (bytes_eq name a.name) (record { name = a.name; value = value } ∷ args) (a ∷ put name value args)

abbrev pub found : List ℕ → List Arg → Option (List ℕ)
found name [] = None
found name (a ∷ args) = cond (bytes_eq name a.name) (Some a.value) (found name args)

-- the arguments so far, and the number of the next one that has no name
pub record Given : Type 0 where
  pub args : List Arg
  pub number : ℕ

-- A part without an `=` is named by its number, and its value is as it is; else name and value are trimmed.
abbrev pub argument : Option Trees → Trees → Scene → Given → Doing Given
argument None part sc g = do
  x ← expand part sc
  give (record { args = put (decimal g.number) x g.args; number = g.number + 1 })
argument (Some value) part sc g = do
  name ← expand (name_in part) sc
  x ← expand value sc
  give (record { args = put (trim name) (trim x) g.args; number = g.number })

-- from left to right
abbrev pub arguments : List Trees → Scene → Given → Doing (List Arg)
arguments (part ∷ rest) sc g = do
  g ← argument (value_in part) part sc g
  arguments rest sc g
arguments [] sc g = give g.args

abbrev pub none_given : Given
none_given = record { args = []; number = 1 }

-- ---- parameters

-- The argument of that name, even an empty one; else the second part; else what is written.
abbrev pub value_or : Option (List ℕ) → List ℕ → Option Trees → Scene → Doing (List ℕ)
value_or (Some value) name default sc = give value
value_or None name (Some default) sc = expand default sc
value_or None name None sc = give (codes "{{{" ++ name ++ codes "}}}")

abbrev pub parameter : List Trees → Scene → Doing (List ℕ)
parameter parts sc = do
  name ← expand (first_in parts) sc
  value_or (found (trim name) sc.args) name (part_in (others_in parts)) sc

-- ---- `#switch`

-- What is known before a part: whether an earlier valueless part was equal, whether a valueless `#default` waits for
-- a value, and the default so far.
pub record Looking : Type 0 where
  pub met : Bool
  pub waits : Bool
  pub default : Trees

-- a part decides, or the next one is looked at
pub data Turn : Type 0 where
  Decided : (text : List ℕ) → Turn
  Next : (looking : Looking) → Turn

abbrev pub is_default : List ℕ → Bool
is_default name = bytes_eq name (codes "#default")

abbrev pub decided : Doing (List ℕ) → Doing Turn
decided m = do
  x ← m
  give (Decided x)

-- a valued part decides where its name is equal, and else may set the default
abbrev pub by_name : List ℕ → List ℕ → Trees → Scene → Looking → Doing Turn
by_name x name value sc s =
    choice (are_equal x name) (decided (trimmed (expand value sc)))
    (give (Next (record { met = false; waits = false; default = cond (s.waits || is_default name) value s.default })))

abbrev pub valued : List ℕ → Trees → Trees → Scene → Looking → Doing Turn
valued x part value sc s = do
  name ← expand (name_in part) sc
  by_name x (trim name) value sc s

-- a valueless part decides where it is the last one, but for `#default`
abbrev pub valueless : List ℕ → List ℕ → Bool → Looking → Turn
valueless x name last s =
    cond last (cond (s.waits || is_default name) (Next s) (Decided name))
    (Next (record { met = s.met || are_equal x name; waits = s.waits || is_default name; default = s.default }))

abbrev pub turn : Option Trees → List ℕ → Trees → Bool → Scene → Looking → Doing Turn
turn (Some value) x part last sc s = choice s.met (decided (trimmed (expand value sc))) (valued x part value sc s)
turn None x part last sc s = do
  name ← expand part sc
  give (valueless x (trim name) last s)

abbrev pub after_turn : Turn → (Looking → Doing (List ℕ)) → Doing (List ℕ)
after_turn (Decided x) go = give x
after_turn (Next s) go = go s

abbrev pub switch : List ℕ → List Trees → Scene → Looking → Doing (List ℕ)
switch x (part ∷ rest) sc s = do
  t ← turn (value_in part) x part (no_part rest) sc s
  after_turn t (switch x rest sc)
switch x [] sc s = trimmed (expand s.default sc)

abbrev pub nothing_seen : Looking
nothing_seen = record { met = false; waits = false; default = done }

-- ---- `#if` and `#ifeq`

abbrev pub is_text : List ℕ → Bool
is_text [] = false
is_text (c ∷ cs) = true

-- the first branch, or the second; one that is missing is empty
abbrev pub either : Bool → List Trees → Scene → Doing (List ℕ)
either first branches sc = trimmed (expand (first_in (cond first branches (others_in branches))) sc)

abbrev pub if_else : List ℕ → List Trees → Scene → Doing (List ℕ)
if_else test parts sc = either (is_text test) parts sc

abbrev pub if_equal : List ℕ → List Trees → Scene → Doing (List ℕ)
if_equal left parts sc = do
  right ← expand (first_in parts) sc
  either (are_equal left (trim right)) (others_in parts) sc

-- ---- `#invoke`

abbrev pub if_held : Bool → Option Trees → Title → Option Title
if_held true (Some page) title = Some title
if_held true None title = None
if_held false page title = None

-- the page of namespace Module that a text names
abbrev pub module_titled : Setting → Option Title → Option Title
module_titled w (Some title) = if_held (is_module title.ns) (w.included title) title
module_titled w None = None

abbrev pub job_of : Title → List ℕ → List Arg → Scene → Job
job_of title function args sc = record {
  «module» = title;
  function = function;
  scene = record { title = title; args = args; chain = sc.chain };
  parent = sc;
}

-- what the function gives is not expanded again
abbrev pub invocation : Option Title → List ℕ → List ℕ → List Arg → Scene → Doing (List ℕ)
invocation (Some title) name function args sc = ask (job_of title function args sc)
invocation None name function args sc = give (no_module_text name)

abbrev pub invoke : Setting → List ℕ → List Trees → Scene → Doing (List ℕ)
invoke w name [] sc = give no_function_text
invoke w name (part ∷ rest) sc = do
  function ← expand part sc
  args ← arguments rest sc none_given
  invocation (module_titled w (title_named name Module)) name (trim function) args sc

-- ---- templates

abbrev pub is_in : Title → List Title → Bool
is_in title chain = list_any (titles.ghosts.eq title) chain

abbrev pub unless_looped : Title → Scene → Doing (List ℕ) → Doing (List ℕ)
unless_looped title sc m = choice (is_in title sc.chain) (give (loop_text title)) m

-- the text of a page in a frame with these arguments, unless it is being expanded already or no level is left
abbrev pub template_body : Trees → Title → List Arg → Scene → Doing (List ℕ)
template_body trees title args sc = unless_looped title sc (do
  enough ← try_use tt EnterTemplate
  choice enough
      (giving_back LeaveTemplate (expand trees record { title = title; args = args; chain = title ∷ sc.chain }))
      (give depth_text))

-- both tests come before the arguments
abbrev pub template : Option Trees → Title → List Trees → Scene → Doing (List ℕ)
template None title parts sc = give (missing_text title)
template (Some trees) title parts sc = unless_looped title sc (do
  enough ← try_use tt HasTemplate
  choice enough (do
    args ← arguments parts sc none_given
    template_body trees title args sc) (give depth_text))

-- ---- constructs

-- `first` is the first part, expanded
abbrev pub by_kind : Setting → Kind → List ℕ → List Trees → Scene → Doing (List ℕ)
by_kind w Written first parts sc = do
  out ← all_parts parts sc (codes "{{" ++ first)
  give (out ++ codes "}}")
by_kind w (Word word) first parts sc = give word
by_kind w (If test) first parts sc = if_else (trim test) parts sc
by_kind w (IfEq left) first parts sc = if_equal (trim left) parts sc
by_kind w (Switch value) first parts sc = switch (trim value) parts sc nothing_seen
by_kind w (Invoke name) first parts sc = invoke w (trim name) parts sc
by_kind w (Include title) first parts sc = template (w.included title) title parts sc

abbrev pub construct : Setting → List Trees → Scene → Doing (List ℕ)
construct w parts sc = do
  first ← expand (first_in parts) sc
  by_kind w (kind_of (no_part (others_in parts)) w.page (trim first)) first (others_in parts) sc

-- what stands for a construct or parameter once its node is taken
abbrev pub thing_text : Setting → Thing → Doing (List ℕ)
thing_text w (AConstruct parts sc) = sized (deeper (construct w parts sc))
thing_text w (AParameter parts sc) = sized (deeper (parameter parts sc))
