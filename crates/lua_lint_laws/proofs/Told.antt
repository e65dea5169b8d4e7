-- RUNS THAT NOTE ONLY WHAT IS ALLOWED, by their events, in states whose functions are sound: what stands in their texts as a global is
-- allowed. And the parts that such runs are made of. A part keeps a run so if the run is so after each of its outcomes. With the
-- operators of this file the proof of a `do` block is that block again, with the proof of each line in its place.
use Rattle.std.specs.Prelude.{◌≡◌, ◌⊎◌, ℕ, Bool, true, false, List, [], ◌∷◌, ◌++◌}
use Rattle.std.proofs.Common.{refl, inl, inr}
use Rattle.page_run.specs.Run.{Ends, Takes, Counts, Notes, Sees, Changes, Calls, Leaves, Uses, Begins, Opens, Asks}
use Rattle.page_run.specs.Outcome.{Outcome, Goes, Jumps, on_value}
use Rattle.page_run.specs.Outcome as act
use Rattle.lua_meaning.specs.MwFrameDeclaredQuestionAsk.{Ask}
use Rattle.lua_meaning.specs.LuaSyntaxTree.{Block, Exp}
use Rattle.lua_walk.specs.LuaHeapValue.{Value}
use Rattle.lua_walk.specs.LuaHeapHeap.{Heap, Closed, Function as FunctionClosed}
use Rattle.lua_meaning.specs.Scope.{Bytes, Names as Cells, Scope, Function}
use Rattle.lua_meaning.specs.Questions.{Answer}
use Rattle.lua_meaning.specs.Acts as acts
use Rattle.lua_meaning.specs.Acts.{LuaRun, Act, Jump, State, Thing, WhileTurn, RepeatTurn, CountTurn, EachTurn, Body, LibraryBody, ChunkBody, IndexLink, SetLink, CallLink}
use Rattle.lua_lint_laws.specs.Laws.{IsIn}
use Rattle.lua_uses.specs.Uses.{Use, Names, with_names, expr_uses, function_uses, block_uses, block_scope}

infixl 40 ◌>>=◌
infixl 40 ◌>>◌
-- WHAT IS ALLOWED: in the text of this source, this name
abbrev pub Allowed : Type 1
Allowed = List ℕ → List ℕ → Type 0

pub record AreAllowed (P : Allowed) (source : List ℕ) (uses : List Use) : Type 0 where
  pub each : (u : Use) → IsIn u uses → P source u.name

-- the names of the variables that are seen
abbrev pub names_of : Cells → Names
names_of [] = []
names_of (n ∷ cells) = n.0 ∷ names_of cells

-- FUNCTIONS, and the heap that holds them
abbrev pub IsSound : Allowed → Function → Type 0
IsSound P f = AreAllowed P f.source (function_uses f.node (names_of f.names))

pub record AreSound (P : Allowed) (closures : List (Closed Function)) : Type 0 where
  pub each : (f : Function) → IsIn (FunctionClosed f) closures → IsSound P f

abbrev pub IsSoundHeap : Allowed → Heap Function → Type 0
IsSoundHeap P h = AreSound P h.closures

-- an item of two lists
pub in_joined : {A : Type 0} (x : A) (xs ys : List A) → IsIn x (xs ++ ys) → IsIn x xs ⊎ IsIn x ys
in_joined x [] ys at = inr at
in_joined x (y ∷ xs) ys (inl e) = inl (inl e)
in_joined x (y ∷ xs) ys (inr at) = go (in_joined x xs ys at)
  where
    go : (IsIn x xs ⊎ IsIn x ys) → IsIn x (y ∷ xs) ⊎ IsIn x ys
    go (inl a) = inl (inr a)
    go (inr b) = inr b

-- one closure more
pub with_closed : {P : Allowed} (closures : List (Closed Function)) (c : Closed Function) → AreSound P closures → ((f : Function) → c ≡ FunctionClosed f → IsSound P f) → AreSound P (closures ++ c ∷ [])
with_closed {P = P} closures c ok new = record { each = λ f at. go f (in_joined (FunctionClosed f) closures (c ∷ []) at) }
  where
    go : (f : Function) → (IsIn (FunctionClosed f) closures ⊎ IsIn (FunctionClosed f) (c ∷ [])) → IsSound P f
    go f (inl at) = ok.each f at
    go f (inr (inl e)) = new f e
    go f (inr (inr none)) = absurd none

-- PARTS OF THE TREE in a scope
abbrev pub IsAllowedExp : Allowed → Exp → Scope → Type 0
IsAllowedExp P e scope = AreAllowed P scope.source (expr_uses e (names_of scope.names))

abbrev pub IsAllowedBlock : Allowed → Block → Scope → Type 0
IsAllowedBlock P b scope = AreAllowed P scope.source (block_uses b (names_of scope.names))

-- a block that sees more variables
abbrev pub IsAllowedUnder : Allowed → List Bytes → Block → Scope → Type 0
IsAllowedUnder P names b scope = AreAllowed P scope.source (block_uses b (with_names names (names_of scope.names)))

-- a test that sees what a block before it declares
abbrev pub IsAllowedBehind : Allowed → Block → Exp → Scope → Type 0
IsAllowedBehind P b e scope = AreAllowed P scope.source (expr_uses e (block_scope b (names_of scope.names)))

-- THINGS that begin
abbrev pub IsAllowedThing : Allowed → Thing → Type 0
IsAllowedThing P (WhileTurn test body scope) = IsAllowedExp P test scope × IsAllowedBlock P body scope
IsAllowedThing P (RepeatTurn body test scope) = IsAllowedBlock P body scope × IsAllowedBehind P body test scope
IsAllowedThing P (CountTurn name index limit step body scope) = IsAllowedUnder P (name ∷ []) body scope
IsAllowedThing P (EachTurn names iterator state results body line scope) = IsAllowedUnder P names body scope
IsAllowedThing P (Body f arguments callers) = IsSound P f
IsAllowedThing P (LibraryBody which arguments callers) = Unit {0}
IsAllowedThing P (ChunkBody source body) = AreAllowed P source (block_uses body [])
IsAllowedThing P (IndexLink object handler key levels) = Unit {0}
IsAllowedThing P (SetLink object handler key value levels) = Unit {0}
IsAllowedThing P (CallLink handler arguments levels) = Unit {0}

-- A RUN
abbrev pub OnlyAllowed : Allowed → LuaRun → Type 0
OnlyAllowed P (Ends outcome) = Unit {0}
OnlyAllowed P (Takes steps rest) = OnlyAllowed P rest
OnlyAllowed P (Counts rest) = OnlyAllowed P rest
OnlyAllowed P (Notes source name rest) = P source name × OnlyAllowed P rest
OnlyAllowed P (Sees rest) = (s : State) → IsSoundHeap P s.heap → OnlyAllowed P (rest s)
OnlyAllowed P (Changes s rest) = IsSoundHeap P s.heap × OnlyAllowed P rest
OnlyAllowed P (Calls rest) = OnlyAllowed P rest
OnlyAllowed P (Leaves rest) = OnlyAllowed P rest
OnlyAllowed P (Uses may what rest) = ⊥
OnlyAllowed P (Begins thing rest) = IsAllowedThing P thing × ((o : Outcome (List Value) Jump) → OnlyAllowed P (rest o))
OnlyAllowed P (Opens may thing without rest) = ⊥
OnlyAllowed P (Asks question rest) = (a : Answer) → OnlyAllowed P (rest a)

-- A PART of such a run: before whatever goes on so, it is so
pub record Quiet (P : Allowed) {X : Type 0} (part : Act X) : Type 0 where
  pub before : (k : Outcome X Jump → LuaRun) → ((o : Outcome X Jump) → OnlyAllowed P (k o)) → OnlyAllowed P (part k)

-- a part of which is known what it gives
pub record Gives (P : Allowed) {X : Type 0} (Q : X → Type 0) (part : Act X) : Type 0 where
  pub before : (k : Outcome X Jump → LuaRun) → ((x : X) → Q x → OnlyAllowed P (k (Goes x))) → ((j : Jump) → OnlyAllowed P (k (Jumps j))) → OnlyAllowed P (part k)

pub forget : {P : Allowed} {X : Type 0} {Q : X → Type 0} {m : Act X} → Gives P Q m → Quiet P m
forget q = record { before = λ k h. q.before k (λ x is. h (Goes x)) (λ j. h (Jumps j)) }

-- ONE AFTER ANOTHER
pub followed : {P : Allowed} {X Y : Type 0} → (f : X → Act Y) (k : Outcome Y Jump → LuaRun) → ((x : X) → Quiet P (f x)) → ((o : Outcome Y Jump) → OnlyAllowed P (k o)) → (o : Outcome X Jump) → OnlyAllowed P (on_value f k o)
followed f k q h (Goes x) = (q x).before k h
followed f k q h (Jumps j) = h (Jumps j)

pub ◌>>=◌ : {P : Allowed} {X Y : Type 0} {m : Act X} {f : X → Act Y} → Quiet P m → ((x : X) → Quiet P (f x)) → Quiet P (act.◌>>=◌ m f)
◌>>=◌ {m = m} {f = f} q r = record { before = λ k h. q.before (on_value f k) (followed f k r h) }

pub ◌>>◌ : {P : Allowed} {X Y : Type 0} {m : Act X} {n : Act Y} → Quiet P m → Quiet P n → Quiet P (act.◌>>◌ m n)
◌>>◌ {m = m} {n = n} q r = record { before = λ k h. q.before (on_value (λ x. n) k) (followed (λ x. n) k (λ x. r) h) }

pub catch : {P : Allowed} {X Y : Type 0} {m : Act X} {f : Outcome X Jump → Act Y} → Quiet P m → ((o : Outcome X Jump) → Quiet P (f o)) → Quiet P (act.catch m f)
catch {m = m} {f = f} q r = record { before = λ k h. q.before (λ o. f o k) (λ o. (r o).before k h) }

pub choose : {P : Allowed} {X : Type 0} {a b : Act X} → (test : Bool) → Quiet P a → Quiet P b → Quiet P (acts.choose test a b)
choose true q r = q
choose false q r = r

-- behind a part of which is known what it gives
pub knowing : {P : Allowed} {X Y : Type 0} {Q : X → Type 0} {m : Act X} {f : X → Act Y} → Gives P Q m → ((x : X) → Q x → Quiet P (f x)) → Quiet P (act.◌>>=◌ m f)
knowing {m = m} {f = f} q r = record { before = λ k h. q.before (on_value f k) (λ x is. (r x is).before k h) (λ j. h (Jumps j)) }

-- a part that gives what is known, behind another one
pub behind : {P : Allowed} {X Y : Type 0} {Q : Y → Type 0} {m : Act X} {f : X → Act Y} → Quiet P m → ((x : X) → Gives P Q (f x)) → Gives P Q (act.◌>>=◌ m f)
behind {P = P} {X = X} {Y = Y} {Q = Q} {m = m} {f = f} q r = record { before = λ k h j. q.before (on_value f k) (go k h j) }
  where
    go : (k : Outcome Y Jump → LuaRun) → ((y : Y) → Q y → OnlyAllowed P (k (Goes y))) → ((j : Jump) → OnlyAllowed P (k (Jumps j))) → (o : Outcome X Jump) → OnlyAllowed P (on_value f k o)
    go k h j (Goes x) = (r x).before k h j
    go k h j (Jumps i) = j i

pub behind_line : {P : Allowed} {X Y : Type 0} {Q : Y → Type 0} {m : Act X} {n : Act Y} → Quiet P m → Gives P Q n → Gives P Q (act.◌>>◌ m n)
behind_line q r = behind q (λ x. r)

-- and behind one of which it is known too
pub from : {P : Allowed} {X Y : Type 0} {R : X → Type 0} {Q : Y → Type 0} {m : Act X} {f : X → Act Y} → Gives P R m → ((x : X) → R x → Gives P Q (f x)) → Gives P Q (act.◌>>=◌ m f)
from {m = m} {f = f} q r = record { before = λ k h j. q.before (on_value f k) (λ x is. (r x is).before k h j) j }

pub gives : {P : Allowed} {X : Type 0} {Q : X → Type 0} → (x : X) → Q x → Gives P Q (act.give x)
gives x is = record { before = λ k h j. h x is }

pub never_gives : {P : Allowed} {X : Type 0} {Q : X → Type 0} → (j : Jump) → Gives P {X = X} Q (act.jump j)
never_gives i = record { before = λ k h j. j i }

-- LINES
pub give : {P : Allowed} {X : Type 0} → (x : X) → Quiet P (act.give x)
give x = record { before = λ k h. h (Goes x) }

pub jump : {P : Allowed} {X : Type 0} → (j : Jump) → Quiet P {X = X} (act.jump j)
jump j = record { before = λ k h. h (Jumps j) }

pub raise : {P : Allowed} {X : Type 0} → (v : Value) → Quiet P {X = X} (acts.raise v)
raise v = record { before = λ k h. h _ }

pub tick : {P : Allowed} → (n : ℕ) → Quiet P (act.tick n)
tick n = record { before = λ k h. h (Goes tt) }

pub count : {P : Allowed} → Quiet P act.count
count = record { before = λ k h. h (Goes tt) }

pub note : {P : Allowed} → (source name : List ℕ) → P source name → Quiet P (act.note source name)
note source name p = record { before = λ k h. (p, h (Goes tt)) }

pub begin : {P : Allowed} → (thing : Thing) → IsAllowedThing P thing → Quiet P {X = List Value} (act.begin thing)
begin thing p = record { before = λ k h. (p, h) }

pub in_call : {P : Allowed} {X : Type 0} {m : Act X} → Quiet P m → Quiet P (act.in_call m)
in_call {m = m} q = record { before = λ k h. q.before _ h }

-- a look at the state, and at the heap: what follows need be so only where its functions are sound
pub look : {P : Allowed} {Y : Type 0} {f : State → Act Y} → ((s : State) → IsSoundHeap P s.heap → Quiet P (f s)) → Quiet P (act.◌>>=◌ act.see f)
look {f = f} q = record { before = λ k h s e. (q s e).before k h }

pub look_heap : {P : Allowed} {Y : Type 0} {f : Heap Function → Act Y} → ((h : Heap Function) → IsSoundHeap P h → Quiet P (f h)) → Quiet P (act.◌>>=◌ acts.see_heap f)
look_heap {f = f} q = record { before = λ k h s e. (q s.heap e).before k h }

pub change : {P : Allowed} → (s : State) → IsSoundHeap P s.heap → Quiet P (act.change s)
change s e = record { before = λ k h. (e, h (Goes tt)) }

pub ask : {P : Allowed} → (question : Ask) → Quiet P (act.ask question)
ask question = record { before = λ k h a. h (Goes a) }

-- IN THIS SCOPE: each of a list of expressions
abbrev pub Each : {X : Type 0} → Allowed → Scope → List (Scope → Act X) → Type 0
Each P scope [] = Unit {0}
Each P scope (part ∷ more) = Quiet P (part scope) × Each P scope more

-- THE SCOPE that a statement gives: that of this source, with variables of these names
pub record IsScope (source : List ℕ) (names : Names) (scope : Scope) : Type 0 where
  pub source_is : scope.source ≡ source
  pub names_are : names_of scope.names ≡ names

pub same_scope : (scope : Scope) → IsScope scope.source (names_of scope.names) scope
same_scope scope = record { source_is = refl; names_are = refl }
