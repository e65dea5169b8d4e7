-- The laws of the meaning: mostly they compute, form by form.
use Rattle.std.proofs.Common.{◌≡◌, refl, ap, ◌∙◌, subst, arith, ℕ, ◌+◌, Bool, false, List, []}
use Rattle.lua_syntax.specs.declared.BinaryOp.{BinaryOp}
use Rattle.lua_syntax.specs.declared.BinaryOp.TheVariants as op
use Rattle.lua_syntax.specs.Tree.{NilE, TrueE, FalseE, NumberE, TextE, DotsE, FunctionE, NameE, IndexE, CallE, MethodE, TableE, BinaryE, UnaryE, ParenE}
use Rattle.lua_syntax.specs.Tree.{AssignS, CallS, DoS, WhileS, RepeatS, IfS, IfElseS, CountS, CountByS, EachS, LocalFunctionS, LocalS, ReturnS, BreakS}
use Rattle.page_run.specs.Outcome.{Outcome}
use Rattle.page_run.specs.State.{start}
use Rattle.page_run.specs.Perform.{perform}
use Rattle.page_run.specs.Charges.{GivenBack}
use Rattle.page_run.proofs.EventLaws.{begins_is, asks_is, sees_is, changes_is}
use Rattle.page_run.proofs.ChargeLaws.{calls_come_back}
use Rattle.page_run.proofs.FitLaws.{more_is_as_good}
use Rattle.lua_walk.specs.LuaHeapValue.{Value, is_nil}
use Rattle.lua_walk.specs.LuaHeapValue as value
use Rattle.lua_meaning.specs.Scope.{Scope}
use Rattle.lua_meaning.specs.Acts.{LuaRun, Act, Jump, choose, WhileTurn, RepeatTurn, CountTurn, EachTurn, Body, LibraryBody, ChunkBody, IndexLink, SetLink, CallLink}
use Rattle.lua_meaning.specs.Parts.{Expression}
use Rattle.lua_meaning.specs.Expressions.{binary}
use Rattle.lua_meaning.specs.Things.{meaning_of}
use Rattle.lua_meaning.specs.Questions.{Loaded}
use Rattle.lua_meaning.specs.Waiting.{receive}
use Rattle.lua_meaning.specs.Home.{home}
use Rattle.lua_meaning.specs.Start.{run_of, Done, DoneData, Failed}
use Rattle.lua_meaning.specs.Laws.{ThingsUnfold, IsNode, ExpressionsAreNodes, StatementsAreNodes, TargetNamesAreNone, TurnsAreCounted, EntriesAreCounted, CallsAreGivenBack, MoreChangesNothing, EndsAreTold, CallsAreNamed, ModulesAreNamed, QuestionsAreNamed, TablesAreJoined}

pub things_unfold : ThingsUnfold
things_unfold world beyond no_rise = begins_is (meaning_of world) beyond no_rise

binary-node : (o : BinaryOp) (a b : Expression) (line : ℕ) (scope : Scope) (k : Outcome (List Value) Jump → LuaRun) → IsNode (binary o a b line scope k)
binary-node op.Or a b line scope k = (_, refl)
binary-node op.And a b line scope k = (_, refl)
binary-node op.Lt a b line scope k = (_, refl)
binary-node op.Gt a b line scope k = (_, refl)
binary-node op.Le a b line scope k = (_, refl)
binary-node op.Ge a b line scope k = (_, refl)
binary-node op.Ne a b line scope k = (_, refl)
binary-node op.Eq a b line scope k = (_, refl)
binary-node op.Concat a b line scope k = (_, refl)
binary-node op.Add a b line scope k = (_, refl)
binary-node op.Sub a b line scope k = (_, refl)
binary-node op.Mul a b line scope k = (_, refl)
binary-node op.Div a b line scope k = (_, refl)
binary-node op.Mod a b line scope k = (_, refl)
binary-node op.Pow a b line scope k = (_, refl)

pub expressions_are_nodes : ExpressionsAreNodes
expressions_are_nodes (NilE line) scope k = (_, refl)
expressions_are_nodes (TrueE line) scope k = (_, refl)
expressions_are_nodes (FalseE line) scope k = (_, refl)
expressions_are_nodes (NumberE line z) scope k = (_, refl)
expressions_are_nodes (TextE line t) scope k = (_, refl)
expressions_are_nodes (DotsE line) scope k = (_, refl)
expressions_are_nodes (FunctionE line f) scope k = (_, refl)
expressions_are_nodes (NameE line x) scope k = (_, refl)
expressions_are_nodes (IndexE line of key) scope k = (_, refl)
expressions_are_nodes (CallE line f args) scope k = (_, refl)
expressions_are_nodes (MethodE line of x args) scope k = (_, refl)
expressions_are_nodes (TableE line fields) scope k = (_, refl)
expressions_are_nodes (BinaryE line o a b) scope k = binary-node o _ _ line scope k
expressions_are_nodes (UnaryE line o a) scope k = (_, refl)
expressions_are_nodes (ParenE line a) scope k = (_, refl)

pub statements_are_nodes : StatementsAreNodes
statements_are_nodes (AssignS line left right) scope k = (_, refl)
statements_are_nodes (CallS line e) scope k = (_, refl)
statements_are_nodes (DoS line b) scope k = (_, refl)
statements_are_nodes (WhileS line test b) scope k = (_, refl)
statements_are_nodes (RepeatS line b test) scope k = (_, refl)
statements_are_nodes (IfS line arms) scope k = (_, refl)
statements_are_nodes (IfElseS line arms other) scope k = (_, refl)
statements_are_nodes (CountS line x from to b) scope k = (_, refl)
statements_are_nodes (CountByS line x from to by b) scope k = (_, refl)
statements_are_nodes (EachS line names right b) scope k = (_, refl)
statements_are_nodes (LocalFunctionS line x f) scope k = (_, refl)
statements_are_nodes (LocalS line names right) scope k = (_, refl)
statements_are_nodes (ReturnS line right) scope k = (_, refl)
statements_are_nodes (BreakS line) scope k = (_, refl)

pub target_names_are_none : TargetNamesAreNone
target_names_are_none line x scope k = refl

pub turns_are_counted : TurnsAreCounted
turns_are_counted world (WhileTurn test body scope) turn k = (_, refl)
turns_are_counted world (RepeatTurn body test scope) turn k = (_, refl)
turns_are_counted world (CountTurn name index limit step body scope) turn k = (_, refl)
turns_are_counted world (EachTurn names iterator state results body line scope) turn k = (_, refl)
turns_are_counted world (Body f args callers) turn k = absurd turn
turns_are_counted world (LibraryBody which args callers) turn k = absurd turn
turns_are_counted world (ChunkBody source b) turn k = absurd turn
turns_are_counted world (IndexLink object h key ls) turn k = absurd turn
turns_are_counted world (SetLink object h key value ls) turn k = absurd turn
turns_are_counted world (CallLink h args ls) turn k = absurd turn

pub entries_are_counted : EntriesAreCounted
entries_are_counted world (WhileTurn test body scope) entry k = absurd entry
entries_are_counted world (RepeatTurn body test scope) entry k = absurd entry
entries_are_counted world (CountTurn name index limit step body scope) entry k = absurd entry
entries_are_counted world (EachTurn names iterator state results body line scope) entry k = absurd entry
entries_are_counted world (Body f args callers) entry k = (_, refl)
entries_are_counted world (LibraryBody which args callers) entry k = (_, refl)
entries_are_counted world (ChunkBody source b) entry k = (_, refl)
entries_are_counted world (IndexLink object h key ls) entry k = absurd entry
entries_are_counted world (SetLink object h key value ls) entry k = absurd entry
entries_are_counted world (CallLink h args ls) entry k = absurd entry

pub calls_are_given_back : CallsAreGivenBack
calls_are_given_back world work beyond keeps left =
    let same : left.calls + 0 ≡ left.calls = omega arith in
    subst (λ n. GivenBack n (perform (meaning_of world) beyond (run_of world work) (start home left []))) same (calls_come_back (meaning_of world) beyond keeps (run_of world work) (start home left []) refl)

pub more_changes_nothing : MoreChangesNothing
more_changes_nothing world work beyond no_rise fit left o end ended a b = more_is_as_good (meaning_of world) (λ no_. no_) beyond no_rise fit (run_of world work) home left o end ended a b

pub ends_are_told : EndsAreTold
ends_are_told (Done t) end = refl
ends_are_told (DoneData value.Nil) end = absurd end
ends_are_told (DoneData (value.Truth b)) end = absurd end
ends_are_told (DoneData (value.Number n)) end = absurd end
ends_are_told (DoneData (value.Text t)) end = absurd end
ends_are_told (DoneData (value.Table t)) end = refl
ends_are_told (DoneData (value.Closure c)) end = absurd end
ends_are_told (DoneData (value.Builtin b)) end = absurd end
ends_are_told (DoneData (value.Markup m)) end = absurd end
ends_are_told (Failed t) end = refl

-- one branch or the other, where the test is known
chosen : {X : Type 0} → (b : Bool) (x y : Act X) (k : Outcome X Jump → LuaRun) → b ≡ false → choose b x y k ≡ y k
chosen b x y k e = ap (λ t. choose t x y k) e

pub calls_are_named : CallsAreNamed
calls_are_named callers v h args k = (refl, refl, refl, λ e. chosen (is_nil h) _ _ k e, λ e. chosen (is_nil h) _ _ k e, λ e. chosen (is_nil h) _ _ k e)

pub modules_are_named : ModulesAreNamed
modules_are_named callers title m k = refl

pub questions_are_named : QuestionsAreNamed
questions_are_named callers question asked text title k = (refl, refl)

pub tables_are_joined : TablesAreJoined
tables_are_joined world beyond nr question waits k s r more graph given says =
    let go = ((asks_is (meaning_of world) beyond nr question (λ a. receive a (λ o. waits o k)) s).0 r more given).0 (Loaded graph) says in
    go ∙ sees_is (meaning_of world) beyond nr _ _ ∙ sees_is (meaning_of world) beyond nr _ _ ∙ changes_is (meaning_of world) beyond nr _ _ _
