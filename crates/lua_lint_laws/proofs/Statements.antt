-- Statements and blocks, by the scopes that they give.
use Rattle.std.proofs.Common.{sym, subst}
use Rattle.std.proofs.lemmas.Grind.{reverse_onto}
use Rattle.std.specs.Prelude.{Bool, true, false, List, [], ◌∷◌, ◌++◌, reverse, Option, Some, None}
use Rattle.lua_meaning.specs.LuaSyntaxTree.{Fun}
use Rattle.lua_walk.specs.LuaHeapValue.{Value, Nil, Text, Table, is_true}
use Rattle.lua_meaning.specs.Scope.{Bytes, Scope, with_name}
use Rattle.lua_meaning.specs.Values.{rest}
use Rattle.lua_meaning.specs.Acts as acts
use Rattle.lua_meaning.specs.Acts.{Returned, Broke}
use Rattle.lua_meaning.specs.Parts.{Expression, Targeted, Statement, Branch, Target, Local, Global, Entry}
use Rattle.lua_meaning.specs.Statements as statements
use Rattle.lua_meaning.specs.Statements.{with_values}
use Rattle.lua_uses.specs.Uses.{with_names, function_uses}
use Rattle.lua_lint_laws.proofs.Told.{Allowed, AreAllowed, names_of, Quiet, Gives, Each, IsScope, same_scope, ◌>>◌, behind, behind_line, from, gives, never_gives, give, look, note}
use Rattle.lua_lint_laws.proofs.Heaps.{node, one, make_cell, write_cell, declare}
use Rattle.lua_lint_laws.proofs.Calls.{set_index}
use Rattle.lua_lint_laws.proofs.Expressions.{values, closure, IsTarget}

-- the scope stays as it was
abbrev pub Stays : Allowed → Statement → Scope → Type 0
Stays P s scope = Gives P (IsScope scope.source (names_of scope.names)) (s scope)

-- BLOCKS
pub in_order : {P : Allowed} {R Q : Scope → Type 0} → (s more : Statement) (scope : Scope) → Gives P R (s scope) → ((after : Scope) → R after → Gives P Q (more after)) → Gives P Q (statements.in_order s more scope)
in_order s more scope q r = from q r

pub at_end : {P : Allowed} → (scope : Scope) → Stays P statements.at_end scope
at_end scope = gives scope (same_scope scope)

pub within : {P : Allowed} → (body : Statement) (scope : Scope) → Quiet P (body scope) → Stays P (statements.within body) scope
within body scope q = behind_line q (gives scope (same_scope scope))

pub do_block : {P : Allowed} → (body : Statement) (scope : Scope) → Quiet P (body scope) → Stays P (statements.do_block body) scope
do_block body scope q = behind_line node (within body scope q)

-- ASSIGNMENT
abbrev AreTargets : Allowed → List Target → Type 0
AreTargets P [] = Unit {0}
AreTargets P (t ∷ ts) = IsTarget P t × AreTargets P ts

more_targets : (P : Allowed) (ts : List Target) (t : Target) → AreTargets P ts → IsTarget P t → AreTargets P (ts ++ t ∷ [])
more_targets P [] t are is = (is, tt)
more_targets P (x ∷ ts) t (one, are) is = (one, more_targets P ts t are is)

-- each finds a target
abbrev pub EachTarget : Allowed → Scope → List Targeted → Type 0
EachTarget P scope [] = Unit {0}
EachTarget P scope (part ∷ more) = Gives P (IsTarget P) (part scope) × EachTarget P scope more

targets : {P : Allowed} → (es : List Targeted) (scope : Scope) → EachTarget P scope es → (before : List Target) → AreTargets P before → Gives P (AreTargets P) (statements.targets es scope before)
targets [] scope each before are = gives before are
targets {P = P} (e ∷ more) scope (q, each) before are = from q (λ t is. targets more scope each (before ++ t ∷ []) (more_targets P before t are is))

-- each target with its value
abbrev ArePairs : Allowed → List (Target × Value) → Type 0
ArePairs P [] = Unit {0}
ArePairs P (p ∷ ps) = IsTarget P p.0 × ArePairs P ps

pairs_of : (P : Allowed) (ts : List Target) (vs : List Value) → AreTargets P ts → ArePairs P (with_values ts vs)
pairs_of P [] vs are = tt
pairs_of P (t ∷ ts) vs (is, are) = (is, pairs_of P ts (rest vs) are)

pairs_joined : (P : Allowed) (ps qs : List (Target × Value)) → ArePairs P ps → ArePairs P qs → ArePairs P (ps ++ qs)
pairs_joined P [] qs are more = more
pairs_joined P (p ∷ ps) qs (is, are) more = (is, pairs_joined P ps qs are more)

pairs_reversed : (P : Allowed) (ps : List (Target × Value)) → ArePairs P ps → ArePairs P (reverse ps)
pairs_reversed P [] are = tt
pairs_reversed P (p ∷ ps) (is, are) = subst (λ (l : List (Target × Value)). ArePairs P l) (sym (reverse_onto ps p [])) (pairs_joined P (reverse ps) (p ∷ []) (pairs_reversed P ps are) (is, tt))

assign_one : {P : Allowed} → (t : Target) → IsTarget P t → (v : Value) → Quiet P (statements.assign_one t v)
assign_one (Local cell) is v = write_cell cell v
assign_one (Global name ls) is v = note _ name is >> look (λ s e. set_index (Table s.globals) (Text name) v ls)
assign_one (Entry of key ls) is v = set_index of key v ls

assign_each : {P : Allowed} → (ps : List (Target × Value)) → ArePairs P ps → Quiet P (statements.assign_each ps)
assign_each [] are = give tt
assign_each (p ∷ ps) (is, are) = assign_one p.0 is p.1 >> assign_each ps are

pub assign : {P : Allowed} → (left : List Targeted) (right : List Expression) (scope : Scope) → EachTarget P scope left → Each P scope right → Stays P (statements.assign left right) scope
assign {P = P} left right scope ts es =
    behind_line node
    (from (targets left scope ts [] tt) (λ found are.
    behind (values right scope es []) (λ vs.
    behind_line (assign_each (reverse (with_values found vs)) (pairs_reversed P (with_values found vs) (pairs_of P found vs are)))
    (gives scope (same_scope scope)))))

-- LOCAL VARIABLES
pub local : {P : Allowed} → (names : List Bytes) (right : List Expression) (scope : Scope) → Each P scope right → Gives P (IsScope scope.source (with_names names (names_of scope.names))) (statements.local names right scope)
local names right scope es = behind_line node (behind (values right scope es []) (λ vs. declare names vs scope))

pub local_function : {P : Allowed} → (name : Bytes) (f : Fun) (scope : Scope) → AreAllowed P scope.source (function_uses f (name ∷ names_of scope.names)) → Gives P (IsScope scope.source (name ∷ names_of scope.names)) (statements.local_function name f scope)
local_function name f scope ok =
    behind_line node
    (behind (make_cell Nil) (λ cell.
    behind (closure f (with_name name cell scope) ok) (λ v.
    behind_line (write_cell cell v)
    (gives (with_name name cell scope) (same_scope (with_name name cell scope))))))

pub call_statement : {P : Allowed} → (e : Expression) (scope : Scope) → Quiet P (e scope) → Stays P (statements.call_statement e) scope
call_statement e scope q = behind_line node (behind_line q (gives scope (same_scope scope)))

-- CONDITIONS: the last block if there is one, and each branch
abbrev pub IfAny : Allowed → Scope → Option Statement → Type 0
IfAny P scope None = Unit {0}
IfAny P scope (Some body) = Quiet P (body scope)

abbrev pub EachBranch : Allowed → Scope → List Branch → Type 0
EachBranch P scope [] = Unit {0}
EachBranch P scope (arm ∷ more) = Quiet P (arm.test scope) × Quiet P (arm.body scope) × EachBranch P scope more

otherwise : {P : Allowed} → (other : Option Statement) (scope : Scope) → IfAny P scope other → Stays P (statements.otherwise other) scope
otherwise None scope any = gives scope (same_scope scope)
otherwise (Some body) scope any = within body scope any

either : {P : Allowed} {X : Type 0} {Q : X → Type 0} {a b : acts.Act X} → (test : Bool) → Gives P Q a → Gives P Q b → Gives P Q (acts.choose test a b)
either true q r = q
either false q r = r

branches : {P : Allowed} → (arms : List Branch) (other : Option Statement) (scope : Scope) → EachBranch P scope arms → IfAny P scope other → Stays P (statements.branches arms other) scope
branches [] other scope each any = otherwise other scope any
branches (arm ∷ more) other scope (test, body, each) any =
    behind (one test) (λ v. either (is_true v) (within arm.body scope body) (branches more other scope each any))

pub conditional : {P : Allowed} → (arms : List Branch) (other : Option Statement) (scope : Scope) → EachBranch P scope arms → IfAny P scope other → Stays P (statements.conditional arms other) scope
conditional arms other scope each any = behind_line node (branches arms other scope each any)

-- JUMPS
pub return : {P : Allowed} → (right : List Expression) (scope : Scope) → Each P scope right → Stays P (statements.return right) scope
return right scope es = behind_line node (behind (values right scope es []) (λ vs. never_gives (Returned vs)))

pub break : {P : Allowed} → (scope : Scope) → Stays P statements.break scope
break scope = behind_line node (never_gives Broke)
