-- AN EXPANSION COMES TO A TEXT: it takes no steps and no calls, so it is never spent. Runs that are so by their events; the parts that they
-- are made of, in the order of their definitions; and one induction over events.
use Rattle.std.proofs.Common.{◌≡◌, ℕ, zero, suc, ◌+◌, ◌≤◌, Bool, true, false, List, [], ◌∷◌, ◌++◌, Option, Some, None, refl, sym, subst, arith}
use Rattle.std.specs.Prelude.{cond, codes}
use Rattle.wk_base.specs.Space.{trim}
use Rattle.wk_base.specs.declared.left.Left.{Left}
use Rattle.wk_base.specs.declared.title.Title.{Title}
use Rattle.wk_base.specs.declared.title.Namespace.TheVariants.{Module}
use Rattle.expand_meaning.specs.WikiMarkupNodes.{NodeKind, Text, Construct, Parameter, Part, Equals}
use Rattle.expand_meaning.specs.WikiMarkupTrees.{Trees, done, text, equals, node}
use Rattle.expand_meaning.specs.MwFrameDeclaredSceneArg.{Arg}
use Rattle.expand_meaning.specs.MwFrameDeclaredSceneScene.{Scene}
use Rattle.expand_meaning.specs.MwFrameDeclaredSceneJob.{Job}
use Rattle.page_run.specs.Run.{Use, Ends, Takes, Counts, Notes, Sees, Changes, Calls, Leaves, Uses, Begins, Opens, Asks}
use Rattle.page_run.specs.Part as part
use Rattle.page_run.specs.State.{Gives, Reply, Replier, State, start, Event}
use Rattle.page_run.specs.Perform.{less, apply_use, after_use, count_node, with_node, take_reply, after_response, with_computed, with_reply, nothing_begins, perform_with, perform_by, perform, size, to_come, NoRise}
use Rattle.page_run.proofs.Less.{less_some, used_size}
use Rattle.expand_meaning.specs.Texts.{node_text, size_text, depth_text, loop_text, missing_text, no_function_text, no_module_text, are_equal}
use Rattle.expand_meaning.specs.Kind.{Kind, Written, Word, If, IfEq, Switch, Invoke, Include, title_named, kind_of}
use Rattle.expand_meaning.specs.Places.{parts_in, part_in, first_in, others_in, no_part, name_in, value_in}
use Rattle.expand_meaning.specs.Expand as spec
use Rattle.expand_meaning.specs.Expand.{Setting, Thing, AConstruct, AParameter, Page, Doing, Given, none_given, Looking, Turn, Decided, Next, nothing_seen, job_of, module_titled, is_text, is_in}
use Rattle.expand_meaning.specs.Outcome.{Work, Reading, Including, expansion}
use Rattle.page_meaning.specs.Laws.{IsText}

infixl 40 ◌>>=◌
-- A RUN that takes no steps and enters no function
abbrev OnlyExpands : Page → Type 0
OnlyExpands (Ends outcome) = Unit {0}
OnlyExpands (Takes steps rest) = ⊥
OnlyExpands (Counts rest) = OnlyExpands rest
OnlyExpands (Notes source name rest) = OnlyExpands rest
OnlyExpands (Sees rest) = (h : Unit {0}) → OnlyExpands (rest h)
OnlyExpands (Changes heap rest) = OnlyExpands rest
OnlyExpands (Calls rest) = ⊥
OnlyExpands (Leaves rest) = ⊥
OnlyExpands (Uses may what rest) = (b : Bool) → OnlyExpands (rest b)
OnlyExpands (Begins thing rest) = ⊥
OnlyExpands (Opens may thing without rest) = OnlyExpands without × ((x : List ℕ) → OnlyExpands (rest x))
OnlyExpands (Asks job rest) = (x : List ℕ) → OnlyExpands (rest x)

-- A PART of such a run: before whatever goes on so, it is so
record Fine {X : Type 0} (m : Doing X) : Type 0 where
  before : (k : X → Page) → ((x : X) → OnlyExpands (k x)) → OnlyExpands (m k)

◌>>=◌ : {X Y : Type 0} {m : Doing X} {f : X → Doing Y} → Fine m → ((x : X) → Fine (f x)) → Fine (part.◌>>=◌ m f)
◌>>=◌ {f = f} q r = record { before = λ k h. q.before (λ x. f x k) (λ x. (r x).before k h) }

give : {X : Type 0} → (x : X) → Fine (part.give x)
give x = record { before = λ k h. h x }

try_use : (u : Use) → Fine (part.try_use tt u)
try_use u = record { before = λ k h. h }

open_or : (instead : List ℕ) (t : Thing) → Fine (part.open_or tt instead t)
open_or instead t = record { before = λ k h. (h instead, h) }

ask : (job : Job) → Fine (part.ask job)
ask job = record { before = λ k h. h }

choice : {X : Type 0} {a b : Doing X} → (test : Bool) → Fine a → Fine b → Fine (spec.choice test a b)
choice true q r = q
choice false q r = r

-- WHAT IS TAKEN AND GIVEN BACK
giving_back : {m : Doing (List ℕ)} → (level : Use) → Fine m → Fine (spec.giving_back level m)
giving_back level q = do
  x ← q
  _ ← try_use level
  give x

deeper : {m : Doing (List ℕ)} → Fine m → Fine (spec.deeper m)
deeper q = do
  enough ← try_use _
  choice enough (giving_back _ q) (give depth_text)

sized : {m : Doing (List ℕ)} → Fine m → Fine (spec.sized m)
sized q = do
  x ← q
  enough ← try_use _
  give (cond enough x size_text)

-- TEXTS
opened : (kind : NodeKind) (inside : Trees) (sc : Scene) → Fine (spec.opened kind inside sc)
opened Construct inside sc = open_or node_text (AConstruct (parts_in inside) sc)
opened Parameter inside sc = open_or node_text (AParameter (parts_in inside) sc)
opened (Text bytes) inside sc = give []
opened Equals inside sc = give []
opened Part inside sc = give []

onward : (trees : Trees) (sc : Scene) (out : List ℕ) → Fine (spec.onward trees sc out)
onward done sc out = give out
onward (text bytes rest) sc out = onward rest sc (out ++ bytes)
onward (equals rest) sc out = onward rest sc (out ++ 61 ∷ [])
onward (node kind inside rest) sc out = do
  x ← opened kind inside sc
  onward rest sc (out ++ x)

expand : (trees : Trees) (sc : Scene) → Fine (spec.expand trees sc)
expand trees sc = onward trees sc []

trimmed : {m : Doing (List ℕ)} → Fine m → Fine (spec.trimmed m)
trimmed q = do
  x ← q
  give _

all_parts : (parts : List Trees) (sc : Scene) (out : List ℕ) → Fine (spec.all_parts parts sc out)
all_parts (p ∷ rest) sc out = do
  out ← onward p sc (out ++ 124 ∷ [])
  all_parts rest sc out
all_parts [] sc out = give out

-- ARGUMENTS AND PARAMETERS
argument : (value : Option Trees) (p : Trees) (sc : Scene) (g : Given) → Fine (spec.argument value p sc g)
argument None p sc g = do
  x ← expand p sc
  give _
argument (Some value) p sc g = do
  name ← expand (name_in p) sc
  x ← expand value sc
  give _

arguments : (parts : List Trees) (sc : Scene) (g : Given) → Fine (spec.arguments parts sc g)
arguments (p ∷ rest) sc g = do
  g ← argument (value_in p) p sc g
  arguments rest sc g
arguments [] sc g = give g.args

value_or : (value : Option (List ℕ)) (name : List ℕ) (default : Option Trees) (sc : Scene) → Fine (spec.value_or value name default sc)
value_or (Some value) name default sc = give value
value_or None name (Some default) sc = expand default sc
value_or None name None sc = give _

parameter : (parts : List Trees) (sc : Scene) → Fine (spec.parameter parts sc)
parameter parts sc = do
  name ← expand (first_in parts) sc
  value_or _ name (part_in (others_in parts)) sc

-- `#switch`, `#if` AND `#ifeq`
decided : {m : Doing (List ℕ)} → Fine m → Fine (spec.decided m)
decided q = do
  x ← q
  give (Decided x)

by_name : (x name : List ℕ) (value : Trees) (sc : Scene) (s : Looking) → Fine (spec.by_name x name value sc s)
by_name x name value sc s = choice (are_equal x name) (decided (trimmed (expand value sc))) (give _)

valued : (x : List ℕ) (p value : Trees) (sc : Scene) (s : Looking) → Fine (spec.valued x p value sc s)
valued x p value sc s = do
  name ← expand (name_in p) sc
  by_name x _ value sc s

turn : (value : Option Trees) (x : List ℕ) (p : Trees) (last : Bool) (sc : Scene) (s : Looking) → Fine (spec.turn value x p last sc s)
turn (Some value) x p last sc s = choice s.met (decided (trimmed (expand value sc))) (valued x p value sc s)
turn None x p last sc s = do
  name ← expand p sc
  give _

after_turn : (t : Turn) (go : Looking → Doing (List ℕ)) → ((s : Looking) → Fine (go s)) → Fine (spec.after_turn t go)
after_turn (Decided x) go q = give x
after_turn (Next s) go q = q s

switch : (x : List ℕ) (parts : List Trees) (sc : Scene) (s : Looking) → Fine (spec.switch x parts sc s)
switch x (p ∷ rest) sc s = do
  t ← turn (value_in p) x p (no_part rest) sc s
  after_turn t (spec.switch x rest sc) (λ s'. switch x rest sc s')
switch x [] sc s = trimmed (expand s.default sc)

either : (first : Bool) (branches : List Trees) (sc : Scene) → Fine (spec.either first branches sc)
either first branches sc = trimmed (expand (first_in (cond first branches (others_in branches))) sc)

if_equal : (left : List ℕ) (parts : List Trees) (sc : Scene) → Fine (spec.if_equal left parts sc)
if_equal left parts sc = do
  right ← expand (first_in parts) sc
  either _ (others_in parts) sc

-- `#invoke`, AND TEMPLATES
invocation : (titled : Option Title) (name function : List ℕ) (args : List Arg) (sc : Scene) → Fine (spec.invocation titled name function args sc)
invocation (Some title) name function args sc = ask (job_of title function args sc)
invocation None name function args sc = give (no_module_text name)

invoke : (w : Setting) (name : List ℕ) (parts : List Trees) (sc : Scene) → Fine (spec.invoke w name parts sc)
invoke w name [] sc = give no_function_text
invoke w name (p ∷ rest) sc = do
  function ← expand p sc
  args ← arguments rest sc none_given
  invocation (module_titled w (title_named name Module)) name _ args sc

unless_looped : {m : Doing (List ℕ)} → (title : Title) (sc : Scene) → Fine m → Fine (spec.unless_looped title sc m)
unless_looped title sc q = choice (is_in title sc.chain) (give (loop_text title)) q

template_body : (trees : Trees) (title : Title) (args : List Arg) (sc : Scene) → Fine (spec.template_body trees title args sc)
template_body trees title args sc = unless_looped title sc (do
  enough ← try_use _
  choice enough (giving_back _ (expand trees _)) (give depth_text))

template : (held : Option Trees) (title : Title) (parts : List Trees) (sc : Scene) → Fine (spec.template held title parts sc)
template None title parts sc = give (missing_text title)
template (Some trees) title parts sc = unless_looped title sc (do
  enough ← try_use _
  choice enough (do
    args ← arguments parts sc none_given
    template_body trees title args sc) (give depth_text))

-- CONSTRUCTS
by_kind : (w : Setting) (kind : Kind) (first : List ℕ) (parts : List Trees) (sc : Scene) → Fine (spec.by_kind w kind first parts sc)
by_kind w Written first parts sc = do
  out ← all_parts parts sc (codes "{{" ++ first)
  give (out ++ codes "}}")
by_kind w (Word word) first parts sc = give word
by_kind w (If test) first parts sc = either _ parts sc
by_kind w (IfEq left) first parts sc = if_equal _ parts sc
by_kind w (Switch value) first parts sc = switch _ parts sc nothing_seen
by_kind w (Invoke name) first parts sc = invoke w _ parts sc
by_kind w (Include title) first parts sc = template (w.included title) title parts sc

construct : (w : Setting) (parts : List Trees) (sc : Scene) → Fine (spec.construct w parts sc)
construct w parts sc = do
  first ← expand (first_in parts) sc
  by_kind w (kind_of (no_part (others_in parts)) w.page (trim first)) first (others_in parts) sc

thing_text : (w : Setting) (t : Thing) → Fine (spec.thing_text w t)
thing_text w (AConstruct parts sc) = sized (deeper (construct w parts sc))
thing_text w (AParameter parts sc) = sized (deeper (parameter parts sc))

expansion_is : (work : Work) → OnlyExpands (expansion work)
expansion_is (Reading trees sc) = (expand trees sc).before (λ x. Ends x) (λ x. tt)
expansion_is (Including trees title sc) = (template_body trees title sc.args sc).before (λ x. Ends x) (λ x. tt)

-- FROM RUNS TO WHAT THEY COME TO
abbrev Now : Type 0
Now = State (Unit {0}) (List ℕ)

abbrev Seen : Type 0
Seen = Event (Unit {0}) Job (List ℕ)

-- each invocation gives its text
abbrev pub Gives_all : Replier Job (List ℕ) → Type 0
Gives_all b = (job : Job) (l : Left) → (r : Reply (List ℕ)) × (b job l ≡ Some r) × ((x : List ℕ) × (r.response ≡ Gives x))

node_text_of : (o : Option ℕ) (s : Now) (go without : Now → Seen) → less 1 s.left.nodes ≡ o → ((r : ℕ) → r + 1 ≡ s.left.nodes → IsText (go record s { left = record s.left { nodes = r } })) → IsText (without s) → IsText (with_node o s go without)
node_text_of (Some r) s go without e h i = h r (less_some 1 s.left.nodes r e)
node_text_of None s go without e h i = i

computed_text : (b : Replier Job (List ℕ)) (job : Job) (s : Now) (go : List ℕ → Now → Seen) (k : ℕ) → NoRise b → Gives_all b → size s.left ≤ k → ((x : List ℕ) (t : Now) → t.replies ≡ [] → to_come t ≤ k → IsText (go x t)) → IsText (with_reply b [] job s go)
computed_text b job s go k nr gives le h =
    let x = gives job s.left in
    let low : size x.0.left ≤ size s.left = nr job s.left x.0 x.1 in
    subst (λ o. IsText (with_computed o job s go)) (sym x.1) (subst (λ y. IsText (after_response y (take_reply x.0 [] s) go)) (sym x.2.1) (h x.2.0 (take_reply x.0 [] s) refl (omega arith)))

abbrev Always : ℕ → (Page → Now → Seen) → Type 0
Always k go = (p : Page) → OnlyExpands p → (s : Now) → s.replies ≡ [] → to_come s ≤ k → IsText (go p s)

module _ (w : Setting) (b : Replier Job (List ℕ)) (nr : NoRise b) (gives : Gives_all b) where
  with_text : (g : Page → Now → Seen) (k : ℕ) → ((p : Page) → OnlyExpands p → (s : Now) → s.replies ≡ [] → suc (to_come s) ≤ k → IsText (g p s)) → Always k (perform_with (spec.thing_text w) b g)
  with_text g k h (Ends outcome) only s e le = tt
  with_text g k h (Takes n p) only s e le = absurd only
  with_text g k h (Counts p) only s e le = with_text g k h p only (count_node s) e le
  with_text g k h (Notes source name p) only s e le = with_text g k h p only s e le
  with_text g k h (Sees f) only s e le = with_text g k h (f s.heap) (only s.heap) s e le
  with_text g k h (Changes heap p) only s e le = with_text g k h p only record s { heap = heap } e le
  with_text g k h (Calls p) only s e le = absurd only
  with_text g k h (Leaves p) only s e le = absurd only
  with_text g k h (Uses v u f) only s e le = with_text g k h (f (apply_use u s.left).0) (only (apply_use u s.left).0) (after_use u s) e (omega (arith, used_size u s.left))
  with_text g k h (Begins t f) only s e le = absurd only
  with_text g k h (Opens v t p f) (without, only) s e le =
      node_text_of (less 1 s.left.nodes) s (g (spec.thing_text w t f)) (perform_with (spec.thing_text w) b g p) refl (λ r i. h (spec.thing_text w t f) ((thing_text w t).before f only) record s { left = record s.left { nodes = r } } e (omega arith)) (with_text g k h p without s e le)
  with_text g k h (Asks job f) only s e le =
      subst (λ rs. IsText (with_reply b rs job s (λ x. perform_with (spec.thing_text w) b g (f x)))) (sym e) (computed_text b job s (λ x. perform_with (spec.thing_text w) b g (f x)) k nr gives (omega arith) (λ x t i le'. with_text g k h (f x) (only x) t i le'))

  by_text : (n : ℕ) → Always n (perform_by (spec.thing_text w) b n)
  by_text zero = with_text nothing_begins 0 (λ p only s e le. absurd (omega arith))
  by_text (suc n) = with_text (perform_by (spec.thing_text w) b n) (suc n) (λ p only s e le. by_text n p only s e (omega arith))

  pub comes_to_text : (work : Work) (l : Left) → IsText (perform (spec.thing_text w) b (expansion work) (start tt l []))
  unfolding perform
  comes_to_text work l = by_text (size l + 0) (expansion work) (expansion_is work) (start tt l []) refl (omega arith)
