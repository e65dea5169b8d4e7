-- RUNS THAT STAY WITHOUT FRAMES AND ASK FOR DATA ALONE, by their events; and the parts that such runs are made of. A part keeps a run
-- so if the run is so after each of its outcomes. With the two operators of this file the proof of a `do` block is that block again,
-- with the proof of each line in its place.
use Rattle.std.specs.Prelude.{◌≡◌, ℕ, Bool, true, false, List, [], ◌∷◌}
use Rattle.lua_meaning.specs.PageRunRun.{Ends, Takes, Counts, Notes, Sees, Changes, Calls, Leaves, Uses, Begins, Opens, Asks}
use Rattle.lua_meaning.specs.PageRunOutcome.{Outcome, Goes, Jumps, on_value}
use Rattle.lua_meaning.specs.PageRunOutcome as act
use Rattle.lua_meaning.specs.MwFrameDeclaredQuestionAsk.{Ask}
use Rattle.lua_meaning.specs.LuaHeapValue.{Value}
use Rattle.lua_meaning.specs.Scope.{Scope}
use Rattle.lua_meaning.specs.Questions.{Answer}
use Rattle.lua_meaning.specs.Acts as acts
use Rattle.lua_meaning.specs.Acts.{LuaRun, Act, Jump, State, Thing}
use Rattle.lua_meaning_laws.specs.Laws.{IsForData}

infixl 40 ◌>>=◌
infixl 40 ◌>>◌
-- A RUN that makes no frame where there is none, and asks for data alone. What it does when it sees frames is left open.
-- A run of Lua may not use the allowances of expansions.
abbrev pub OnlyData : LuaRun → Type 0
OnlyData (Ends outcome) = Unit {0}
OnlyData (Takes steps rest) = OnlyData rest
OnlyData (Counts rest) = OnlyData rest
OnlyData (Notes source name rest) = OnlyData rest
OnlyData (Sees rest) = (s : State) → s.frames ≡ [] → OnlyData (rest s)
OnlyData (Changes s rest) = (s.frames ≡ []) × OnlyData rest
OnlyData (Calls rest) = OnlyData rest
OnlyData (Leaves rest) = OnlyData rest
OnlyData (Uses may what rest) = ⊥
OnlyData (Begins thing rest) = (o : Outcome (List Value) Jump) → OnlyData (rest o)
OnlyData (Opens may thing without rest) = ⊥
OnlyData (Asks question rest) = IsForData question × ((a : Answer) → OnlyData (rest a))

-- A PART of such a run: before whatever goes on so, it is so
pub record Quiet {X : Type 0} (part : Act X) : Type 0 where
  pub before : (k : Outcome X Jump → LuaRun) → ((o : Outcome X Jump) → OnlyData (k o)) → OnlyData (part k)

-- ONE AFTER ANOTHER
pub followed : {X Y : Type 0} → (f : X → Act Y) (k : Outcome Y Jump → LuaRun) → ((x : X) → Quiet (f x)) → ((o : Outcome Y Jump) → OnlyData (k o)) → (o : Outcome X Jump) → OnlyData (on_value f k o)
followed f k q h (Goes x) = (q x).before k h
followed f k q h (Jumps j) = h (Jumps j)

pub ◌>>=◌ : {X Y : Type 0} {m : Act X} {f : X → Act Y} → Quiet m → ((x : X) → Quiet (f x)) → Quiet (act.◌>>=◌ m f)
◌>>=◌ {m = m} {f = f} q r = record { before = λ k h. q.before (on_value f k) (followed f k r h) }

pub ◌>>◌ : {X Y : Type 0} {m : Act X} {n : Act Y} → Quiet m → Quiet n → Quiet (act.◌>>◌ m n)
◌>>◌ {m = m} {n = n} q r = record { before = λ k h. q.before (on_value (λ x. n) k) (followed (λ x. n) k (λ x. r) h) }

pub catch : {X Y : Type 0} {m : Act X} {f : Outcome X Jump → Act Y} → Quiet m → ((o : Outcome X Jump) → Quiet (f o)) → Quiet (act.catch m f)
catch {m = m} {f = f} q r = record { before = λ k h. q.before (λ o. f o k) (λ o. (r o).before k h) }

pub choose : {X : Type 0} {a b : Act X} → (test : Bool) → Quiet a → Quiet b → Quiet (acts.choose test a b)
choose true q r = q
choose false q r = r

-- LINES
pub give : {X : Type 0} → (x : X) → Quiet (act.give x)
give x = record { before = λ k h. h (Goes x) }

pub jump : {X : Type 0} → (j : Jump) → Quiet {X = X} (act.jump j)
jump j = record { before = λ k h. h (Jumps j) }

pub raise : {X : Type 0} → (v : Value) → Quiet {X = X} (acts.raise v)
raise v = record { before = λ k h. h _ }

pub tick : (n : ℕ) → Quiet (act.tick n)
tick n = record { before = λ k h. h (Goes tt) }

pub count : Quiet act.count
count = record { before = λ k h. h (Goes tt) }

pub note : (source name : List ℕ) → Quiet (act.note source name)
note source name = record { before = λ k h. h (Goes tt) }

pub begin : (thing : Thing) → Quiet {X = List Value} (act.begin thing)
begin thing = record { before = λ k h. h }

pub in_call : {X : Type 0} {m : Act X} → Quiet m → Quiet (act.in_call m)
in_call {m = m} q = record { before = λ k h. q.before _ h }

-- a look at the state: what follows need be so only where there are no frames
pub look : {Y : Type 0} {f : State → Act Y} → ((s : State) → s.frames ≡ [] → Quiet (f s)) → Quiet (act.◌>>=◌ act.see f)
look {f = f} q = record { before = λ k h s e. (q s e).before k h }

pub change : (s : State) → s.frames ≡ [] → Quiet (act.change s)
change s e = record { before = λ k h. (e, h (Goes tt)) }

-- a question for data
pub ask : (question : Ask) → IsForData question → Quiet (act.ask question)
ask question data_ = record { before = λ k h. (data_, λ a. h (Goes a)) }

-- IN EACH SCOPE: an expression, a target or a statement; and each of a list of them
pub record Everywhere {X : Type 0} (part : Scope → Act X) : Type 0 where
  pub at : (scope : Scope) → Quiet (part scope)

abbrev pub Each : {X : Type 0} → List (Scope → Act X) → Type 0
Each [] = Unit {0}
Each (part ∷ more) = Everywhere part × Each more
