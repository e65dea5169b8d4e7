-- Forms of expressions and statements put together from their parts.
use Rattle.std.proofs.Common.{◌≡◌, ◌∙◌, ℕ, zero, suc, Bool, true, false, refl, sym, ap, subst, List, [], ◌∷◌, ◌++◌, map, length, drop, get_or, ◌<◌, ◌+◌, slice_get, Option, Some, None, option_map, Result, IfOk}
use Rattle.std.proofs.lemmas.List.{drop_more}
use Rattle.std.specs.declared.alloc.Global.{Global}
use Rattle.std.specs.declared.boxed.Box.{Box}
use Rattle.lua_syntax.specs.Tree.{Exp, Fields, Arms, Block, Stat, MoreStat}
use Rattle.lua_syntax.specs.declared.BinaryOp.{BinaryOp}
use Rattle.lua_syntax.specs.declared.BinaryOp.TheVariants as op
use Rattle.lua_syntax.specs.declared.Expr.{Expr as ExprNode}
use Rattle.lua_syntax.specs.declared.Field.{Field as FieldNode}
use Rattle.lua_syntax.specs.declared.Arm.{Arm as ArmNode}
use Rattle.lua_syntax.specs.declared.Stat.{Stat as StatNode}
use Rattle.lua_syntax.specs.declared.Block.{Block as BlockNode}
use Rattle.lua_syntax.specs.declared.StatKind.TheVariants as stats
use Rattle.lua_syntax.specs.View.{expr_view, exprs_view, fields_view, arms_view, stats_view, block_view, stat_kind_view}
use Rattle.lua_syntax.proofs.Views.{stat-If, stat-IfElse, stat-Count, stat-CountBy}
use Rattle.lua_code.specs.declared.expression.Expression.{Expression}
use Rattle.lua_code.specs.declared.statement.Branch.{Branch}
use Rattle.lua_code.specs.declared.statement.Target.{Target}
use Rattle.lua_code.specs.declared.statement.Statement.TheVariants as codes
use Rattle.lua_code.proofs.Views.{statement-If, statement-IfElse, statement-Count, statement-CountBy}
use Rattle.lua_code.specs.LuaMeaningScope.{Bytes}
use Rattle.lua_code.specs.LuaSlotsCode.{Place, CExp, CExps, CFields, CTarget, CArms, CBlock, CProto, Protos}
use Rattle.lua_code.specs.LuaSlotsSight.{Everywhere, Sight, nothing_local, with_local, inside}
use Rattle.lua_code.specs.LuaSlotsIsCode.{EndSight, any_sight, operator_of, IsExp, IsExps, IsFields, IsTarget, IsTargets, IsArms, IsBlock, IsProtos}
use Rattle.lua_code.specs.declared.statement.Statement.{Statement}
use Rattle.lua_code.specs.Seen.{expression_seen, target_seen, statement_seen, block_seen, branches_seen, proto_seen, protos_seen, or_empty}
use Rattle.lua_code.specs.declared.proto.Proto.{Proto}
use Rattle.lua_scopes.specs.Scopes.{Level, Scopes, closed_to, entered, IsLeft, nothing_known, local_sight, stack, stack_sight, Covers, StaysAs, Grows}
use Rattle.lua_resolve.specs.Parts.{State, locals, Holds, Names, Later, Next, tail_of, IsPart, AreDeclared, IsStep, IsOther}
use Rattle.lua_resolve.proofs.PartLaws.{plain_part, IsClosed, entered_state}

-- CODE under other names of a tree and of its code
pub exp_as : (at : Protos) (see : Sight) {e f : Exp} {c d : CExp} → e ≡ f → c ≡ d → IsExp at see f d → IsExp at see e c
exp_as at see {f = f} {c = c} e k h = subst (λ x. IsExp at see x c) (sym e) (subst (IsExp at see f) (sym k) h)

pub code_as : (at : Protos) (see : Sight) (e : Exp) {c d : CExp} → c ≡ d → IsExp at see e d → IsExp at see e c
code_as at see e k h = subst (IsExp at see e) (sym k) h

-- the same of a result that is handed on
pub result_as : {E : Type 0} (r : Result Expression E) (t : State) {e f : Exp} → e ≡ f → IfOk r (λ c. (at : Protos) (see : Sight) → Later t at see → IsExp at see f (expression_seen c)) → IfOk r (λ c. (at : Protos) (see : Sight) → Later t at see → IsExp at see e (expression_seen c))
result_as r t e h = subst (λ x. IfOk r (λ c. (at : Protos) (see : Sight) → Later t at see → IsExp at see x (expression_seen c))) (sym e) h

pub target_result_as : {E : Type 0} (r : Result Target E) (t : State) {e f : Exp} → e ≡ f → IfOk r (λ c. (at : Protos) (see : Sight) → Later t at see → IsTarget at see f (target_seen c)) → IfOk r (λ c. (at : Protos) (see : Sight) → Later t at see → IsTarget at see e (target_seen c))
target_result_as r t e h = subst (λ x. IfOk r (λ c. (at : Protos) (see : Sight) → Later t at see → IsTarget at see x (target_seen c))) (sym e) h

pub part_result_as : {E : Type 0} (r : Result Statement E) (s t : State) {a b : Stat} → a ≡ b → IfOk r (λ c. IsPart s t b (statement_seen c)) → IfOk r (λ c. IsPart s t a (statement_seen c))
part_result_as r s t e h = subst (λ x. IfOk r (λ c. IsPart s t x (statement_seen c))) (sym e) h

pub part_as : (s t : State) {st su : Stat} {c d : CBlock → CBlock} → st ≡ su → ((rest : CBlock) → c rest ≡ d rest) → IsPart s t su d → IsPart s t st c
part_as s t {c = c} {d = d} e same h = subst (λ x. IsPart s t x c) (sym e) (record {
  opens = h.opens;
  next = h.next;
  code = λ at see tail left rest l b. subst (IsBlock at (tail_of at tail) see (MoreStat _ left)) (sym (same rest)) (h.code at see tail left rest l b);
})

-- the text itself: nothing is local in front of it
nowhere : (l m : Level) (ms : List Level) → l ≡ nothing_known → Grows (l ∷ []) (m ∷ ms) → Covers (stack_sight (m ∷ ms)) nothing_local
nowhere l m [] e g x =
    let h : Grows (nothing_known ∷ []) (m ∷ []) = subst (λ k. Grows (k ∷ []) (m ∷ [])) e g in
    let is : stack_sight (m ∷ []) x ≡ inside m.names nothing_local x = ap (λ ls. local_sight ls (inside m.names nothing_local) x) h.0 in
    subst (λ s. StaysAs s Everywhere) (sym (is ∙ h.1 x)) refl
nowhere l m (n ∷ ms) e g x = absurd g.2

get_mapped : (ps : List Proto) (i : ℕ) (p : CProto) → slice_get (map proto_seen ps) i ≡ Some p → option_map proto_seen (slice_get ps i) ≡ Some p
get_mapped [] i p e = cc
get_mapped (q ∷ ps) zero p e = e
get_mapped (q ∷ ps) (suc i) p e = get_mapped ps i p e

pub text_code : (s t : State) (b : Block) (text : Proto) (functions : List Proto) (constants : List Bytes) (out : List Statement) → s.scopes.level ≡ nothing_known → s.scopes.outer ≡ [] → Next s t
    → ((at : Protos) (see : Sight) → Later t at see → IsBlock at any_sight see b (block_seen out)) → t.functions ≡ map proto_seen functions → constants ≡ t.constants → text.flags ≡ [] → text.dots ≡ false → text.body ≡ out → t.scopes.clean ≡ true
    → IsProtos (protos_seen (record { text = text; functions = functions; constants = constants })) b
text_code s t b text functions constants out level outer next code are same flags dots body clean =
    let at : Protos = protos_seen (record { text = text; functions = functions; constants = constants }) in
    let grown : Grows (s.scopes.level ∷ []) (stack t.scopes) = subst (λ o. Grows (s.scopes.level ∷ o) (stack t.scopes)) outer (next.went clean).grows in
    let covers : Covers (stack_sight (stack t.scopes)) nothing_local = nowhere s.scopes.level t.scopes.level t.scopes.outer level grown in
    let holds : Holds t.functions at = subst (λ ps. Holds ps at) (sym are) (get_mapped functions) in
    let names : Names t.constants at = subst (λ cs. Names cs at) same (λ n x e. ap or_empty e) in
    let block : IsBlock at any_sight nothing_local b (block_seen out) = code at nothing_local (record { clean = clean; functions = holds; constants = names; covers = covers }) in
    (proto_seen text, record { first = refl; no_parameters = flags; no_dots = dots; body = subst (λ ss. IsBlock at any_sight nothing_local b (block_seen ss)) (sym body) block })

pub or_else : (o : BinaryOp) → operator_of o ≡ None → (o ≡ op.And → ⊥) → o ≡ op.Or
or_else op.Or e n = refl
or_else op.And e n = absurd (n refl)
or_else _ e n = cc

pub fields_as : (at : Protos) (see : Sight) {e f : Fields} {c d : CFields} → e ≡ f → c ≡ d → IsFields at see f d → IsFields at see e c
fields_as at see {f = f} {c = c} e k h = subst (λ x. IsFields at see x c) (sym e) (subst (IsFields at see f) (sym k) h)

pub arms_as : (at : Protos) (see : Sight) {e f : Arms} {c d : CArms} → e ≡ f → c ≡ d → IsArms at see f d → IsArms at see e c
arms_as at see {f = f} {c = c} e k h = subst (λ x. IsArms at see x c) (sym e) (subst (IsArms at see f) (sym k) h)

-- an item of a list, and those behind it
pub next_item : {A : Type 0} (xs : List A) (i : ℕ) (x : A) → x ≡ get_or xs i x → i < length xs → drop i xs ≡ x ∷ drop (i + 1) xs
next_item xs i x e h = drop_more xs i x h ∙ ap (λ y. y ∷ drop (i + 1) xs) (sym e)

-- the code's own words for a state that was closed, entered, left
pub closing : (s : State) (t u : Scopes) (fs gs : List Proto) (cs ds : List Bytes) (n : ℕ) → n ≡ length (locals s) → (u ≡ record t { level = closed_to n t.level }) × (gs ≡ fs) × (ds ≡ cs)
    → IsClosed s (record { scopes = t; functions = map proto_seen fs; constants = cs }) (record { scopes = u; functions = map proto_seen gs; constants = ds })
closing s t u fs gs cs ds n e h = (h.0 ∙ ap (λ k. record t { level = closed_to k t.level }) e, ap (map proto_seen) h.1, h.2)

pub entering : (s : State) (k : Scopes) (d : State) (params : List Bytes) (flags : List Bool) → k ≡ entered s.scopes → AreDeclared (record { scopes = k; functions = s.functions; constants = s.constants }) d params flags → AreDeclared (entered_state s) d params flags
entering s k d params flags e h = subst (λ j. AreDeclared (record { scopes = j; functions = s.functions; constants = s.constants }) d params flags) e h

pub leaving : (t v w : Scopes) (places : List Place) → IsLeft t w places → v ≡ w → IsLeft t v places
leaving t v w places h e = subst (λ k. IsLeft t k places) (sym e) h

pub adding : (old new : List Proto) (p : Proto) → new ≡ old ++ p ∷ [] → map proto_seen new ≡ map proto_seen old ++ proto_seen p ∷ []
adding old new p e = ap (map proto_seen) e ∙ go old
  where
    go : (ps : List Proto) → map proto_seen (ps ++ p ∷ []) ≡ map proto_seen ps ++ proto_seen p ∷ []
    go [] = refl
    go (q ∷ ps) = ap (λ qs. proto_seen q ∷ qs) (go ps)

pub numbered : (ps : List Proto) (i : ℕ) → i ≡ suc (length ps) → i ≡ suc (length (map proto_seen ps))
numbered ps i e = e ∙ ap suc (go ps)
  where
    go : (ps : List Proto) → length ps ≡ length (map proto_seen ps)
    go [] = refl
    go (q ∷ ps) = ap suc (go ps)

pub target_as : (at : Protos) (see : Sight) {e f : Exp} (c : CTarget) → e ≡ f → IsTarget at see f c → IsTarget at see e c
target_as at see c e h = subst (λ x. IsTarget at see x c) (sym e) h

-- the code's own names of parts of a tree
pub exp_of : (at : Protos) (see : Sight) (x : CExp) {a b : ExprNode} → a ≡ b → IsExp at see (expr_view a) x → IsExp at see (expr_view b) x
exp_of at see x e h = subst (λ k. IsExp at see (expr_view k) x) e h

pub exps_of : (at : Protos) (see : Sight) (x : CExps) {a b : List ExprNode} → a ≡ b → IsExps at see (exprs_view a) x → IsExps at see (exprs_view b) x
exps_of at see x e h = subst (λ k. IsExps at see (exprs_view k) x) e h

pub targets_of : (at : Protos) (see : Sight) (x : List CTarget) {a b : List ExprNode} → a ≡ b → IsTargets at see (exprs_view a) x → IsTargets at see (exprs_view b) x
targets_of at see x e h = subst (λ k. IsTargets at see (exprs_view k) x) e h

pub fields_of_list : (at : Protos) (see : Sight) (x : CFields) {a b : List FieldNode} → a ≡ b → IsFields at see (fields_view a) x → IsFields at see (fields_view b) x
fields_of_list at see x e h = subst (λ k. IsFields at see (fields_view k) x) e h

pub arms_of_list : (at : Protos) (see : Sight) (x : CArms) {a b : List ArmNode} → a ≡ b → IsArms at see (arms_view a) x → IsArms at see (arms_view b) x
arms_of_list at see x e h = subst (λ k. IsArms at see (arms_view k) x) e h

pub stats_of_list : (at : Protos) (end : EndSight) (see : Sight) (x : CBlock) {a b : List StatNode} → a ≡ b → IsBlock at end see (stats_view a) x → IsBlock at end see (stats_view b) x
stats_of_list at end see x e h = subst (λ k. IsBlock at end see (stats_view k) x) e h

pub names_of_list : (s t : State) {a b : List Bytes} {flags : List Bool} → a ≡ b → AreDeclared s t a flags → AreDeclared s t b flags
names_of_list s t {flags = flags} e h = subst (λ k. AreDeclared s t k flags) e h

-- `if`, with and without `else`
pub if_part : (s t : State) (line : ℕ) (arms : List ArmNode) (other : Option BlockNode) (cs : List Branch) (c : Option (List Statement)) → Next s t
    → ((at : Protos) (see : Sight) → Later t at see → IsArms at see (arms_view arms) (branches_seen cs)) → ((at : Protos) (see : Sight) → Later t at see → IsOther at see other c)
    → IsPart s t (stat_kind_view (stats.If arms other) line) (statement_seen (codes.If cs c))
if_part s t line arms None cs None next first last = part_as s t (stat-If arms line) (statement-If cs) (plain_part s t _ _ next (λ at see l tail left rest h. (first at see l, h)))
if_part s t line arms (Some b) cs (Some c) next first last = part_as s t (stat-IfElse arms b line) (statement-IfElse cs c) (plain_part s t _ _ next (λ at see l tail left rest h. ((first at see l, last at see l), h)))
if_part s t line arms None cs (Some c) next first last = plain_part s t _ _ next (λ at see l tail left rest h. absurd (last at see l))
if_part s t line arms (Some b) cs None next first last = plain_part s t _ _ next (λ at see l tail left rest h. absurd (last at see l))

-- the loop that counts, with and without a step
pub count_part : (s t : State) (line : ℕ) (x : Bytes) (from to : ExprNode) (by : Option ExprNode) (b : BlockNode) (boxed : Bool) (c d : Box Expression Global) (e : Option (Box Expression Global)) (cs : List Statement) → Next s t
    → ((at : Protos) (see : Sight) → Later t at see → IsExp at see (expr_view from) (expression_seen c.value)) → ((at : Protos) (see : Sight) → Later t at see → IsExp at see (expr_view to) (expression_seen d.value))
    → ((at : Protos) (see : Sight) → Later t at see → IsStep at see by e) → ((at : Protos) (see : Sight) → Later t at see → IsBlock at any_sight (with_local x boxed see) (block_view b) (block_seen cs))
    → IsPart s t (stat_kind_view (stats.Count x from to by b) line) (statement_seen (codes.Count boxed c d e cs line))
count_part s t line x from to None b boxed c d None cs next first second third body =
    part_as s t (stat-Count x from to b line) (statement-Count boxed c d cs line) (plain_part s t _ _ next (λ at see l tail left rest h. ((refl, first at see l, second at see l, body at see l), h)))
count_part s t line x from to (Some by) b boxed c d (Some e) cs next first second third body =
    part_as s t (stat-CountBy x from to by b line) (statement-CountBy boxed c d e cs line) (plain_part s t _ _ next (λ at see l tail left rest h. ((refl, first at see l, second at see l, third at see l, body at see l), h)))
count_part s t line x from to None b boxed c d (Some e) cs next first second third body = plain_part s t _ _ next (λ at see l tail left rest h. absurd (third at see l))
count_part s t line x from to (Some by) b boxed c d None cs next first second third body = plain_part s t _ _ next (λ at see l tail left rest h. absurd (third at see l))
