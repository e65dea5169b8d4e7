-- What is known stays known, and parts put together.
use Rattle.std.proofs.Common.{◌≡◌, ◌∙◌, ℕ, zero, suc, ◌-◌, ◌+◌, Bool, true, refl, sym, ap, subst, List, [], ◌∷◌, ◌++◌, map, length, drop, slice_get, Option, Some, None, arith}
use Rattle.std.proofs.lemmas.List.{append_assoc, append-nil}
use Rattle.lua_syntax.specs.Tree.{LocalS, LocalFunctionS, Exp, Exps, NoExp, MoreExp, Fields, NoField, Arms, NoArm, Block, NoStat, MoreStat, Stat, Fun, Lambda}
use Rattle.lua_scopes.specs.LuaHeapRelated.{Each}
use Rattle.lua_code.specs.LuaMeaningScope.{Bytes}
use Rattle.lua_code.specs.LuaSlotsCode.{Place, CExp, CExps, NoC, MoreC, CFields, NoFieldC, CTarget, CArms, NoArmC, CBlock, EndC, DeclareC, LocalFunctionC, CProto, Protos}
use Rattle.lua_code.specs.LuaSlotsSight.{Sight, with_local, with_locals, AreAsMany, inside}
use Rattle.lua_code.specs.LuaSlotsIsCode.{IsCaptured, IsClosure, any_sight, IsExp, IsExps, IsFields, IsFun, IsTarget, IsTargets, IsArms, IsBlock}
use Rattle.lua_code.specs.declared.expression.Expression.{Expression}
use Rattle.lua_code.specs.declared.expression.Entry.{Entry}
use Rattle.lua_code.specs.declared.statement.Target.{Target}
use Rattle.lua_code.specs.declared.statement.Statement.{Statement}
use Rattle.lua_code.specs.declared.statement.Branch.{Branch}
use Rattle.lua_code.specs.Seen.{expression_seen, expressions_seen, entry_seen, entries_seen, target_seen, statement_seen, block_seen, branch_seen, branches_seen}
use Rattle.lua_scopes.specs.Scopes.{Local, Level, stack, closed_to, local_sight, stack_sight, Covers, Grows, IsLeft, IsLeftTo, entered}
use Rattle.lua_resolve.specs.Parts.{State, locals, with_locals_of, opened, Holds, Names, Later, Went, Next, expressions_before, entries_before, branches_before, statements_before, ExpressionsSoFar, EntriesSoFar, TargetsSoFar, BranchesSoFar, tail_of, IsPart, BlockSoFar, with_names, AreDeclared, NamesSoFar}
use Rattle.lua_resolve.specs.Constants.{StayNumbered}
use Rattle.lua_scopes.proofs.SightLaws.{covers_trans, covers_local, covers_inside, grows_same, grows_trans, grows_covers, captured_on}

-- STATES
pub next_same : (s : State) → Next s s
next_same s = record { went = λ clean. record { clean = clean; functions = λ at h. h; constants = λ at h. h; grows = grows_same (stack s.scopes) } }

-- one more constant
pub next_numbered : (s : State) (cs : List Bytes) → StayNumbered s.constants cs → Next s (record s { constants = cs })
next_numbered s cs h = record { went = λ clean. record { clean = clean; functions = λ at k. k; constants = λ at k n t e. k n t (h n t e); grows = grows_same (stack s.scopes) } }

pub next_trans : (s t u : State) → Next s t → Next t u → Next s u
next_trans s t u h k = record {
  went = λ clean.
      let later = k.went clean in
      let before = h.went later.clean in
      record { clean = before.clean; functions = λ at g. before.functions at (later.functions at g); constants = λ at g. before.constants at (later.constants at g); grows = grows_trans (stack s.scopes) (stack t.scopes) (stack u.scopes) before.grows later.grows };
}

pub later : (s t : State) (at : Protos) (see : Sight) → Next s t → Later t at see → Later s at see
later s t at see h l =
    let went = h.went l.clean in
    record { clean = went.clean; functions = went.functions at l.functions; constants = went.constants at l.constants; covers = covers_trans (stack_sight (stack s.scopes)) (stack_sight (stack t.scopes)) see (grows_covers (stack s.scopes) (stack t.scopes) went.grows) l.covers }

-- LISTS
pub exps_start : (s : State) (whole : Exps) → ExpressionsSoFar s s whole whole []
exps_start s whole = record { next = next_same s; code = λ at see rest l h. h }

exps_snoc : (cs : List Expression) (c : Expression) (rest : CExps) → expressions_before (cs ++ c ∷ []) rest ≡ expressions_before cs (MoreC (expression_seen c) rest)
exps_snoc [] c rest = refl
exps_snoc (d ∷ cs) c rest = ap (λ r. MoreC (expression_seen d) r) (exps_snoc cs c rest)

exps_all : (cs : List Expression) → expressions_before cs NoC ≡ expressions_seen cs
exps_all [] = refl
exps_all (c ∷ cs) = ap (λ r. MoreC (expression_seen c) r) (exps_all cs)

pub exps_step : (s t u : State) (whole left more : Exps) (out new : List Expression) (e : Exp) (c : Expression) → ExpressionsSoFar s t whole left out → left ≡ MoreExp e more → Next t u
    → ((at : Protos) (see : Sight) → Later u at see → IsExp at see e (expression_seen c)) → new ≡ out ++ c ∷ [] → ExpressionsSoFar s u whole more new
exps_step s t u whole left more out new e c so is next code added = subst (ExpressionsSoFar s u whole more) (sym added) (record {
  next = next_trans s t u so.next next;
  code = λ at see rest l h. subst (IsExps at see whole) (sym (exps_snoc out c rest))
      (so.code at see (MoreC (expression_seen c) rest) (later t u at see next l) (subst (λ k. IsExps at see k (MoreC (expression_seen c) rest)) (sym is) (code at see l, h)));
})

pub exps_end : (s t : State) (whole left : Exps) (out : List Expression) → ExpressionsSoFar s t whole left out → left ≡ NoExp → (at : Protos) (see : Sight) → Later t at see → IsExps at see whole (expressions_seen out)
exps_end s t whole left out so is at see l = subst (IsExps at see whole) (exps_all out) (so.code at see NoC l (subst (λ k. IsExps at see k NoC) (sym is) tt))

pub fields_start : (s : State) (whole : Fields) → EntriesSoFar s s whole whole []
fields_start s whole = record { next = next_same s; code = λ at see rest l h. h }

fields_snoc : (cs : List Entry) (c : Entry) (rest : CFields) → entries_before (cs ++ c ∷ []) rest ≡ entries_before cs (entry_seen c rest)
fields_snoc [] c rest = refl
fields_snoc (d ∷ cs) c rest = ap (entry_seen d) (fields_snoc cs c rest)

fields_all : (cs : List Entry) → entries_before cs NoFieldC ≡ entries_seen cs
fields_all [] = refl
fields_all (c ∷ cs) = ap (entry_seen c) (fields_all cs)

pub fields_step : (s t u : State) (whole left more : Fields) (out new : List Entry) (f : Fields → Fields) (c : Entry) → EntriesSoFar s t whole left out → left ≡ f more → Next t u
    → ((at : Protos) (see : Sight) → Later u at see → (fs : Fields) (cs : CFields) → IsFields at see fs cs → IsFields at see (f fs) (entry_seen c cs)) → new ≡ out ++ c ∷ [] → EntriesSoFar s u whole more new
fields_step s t u whole left more out new f c so is next code added = subst (EntriesSoFar s u whole more) (sym added) (record {
  next = next_trans s t u so.next next;
  code = λ at see rest l h. subst (IsFields at see whole) (sym (fields_snoc out c rest))
      (so.code at see (entry_seen c rest) (later t u at see next l) (subst (λ k. IsFields at see k (entry_seen c rest)) (sym is) (code at see l more rest h)));
})

pub fields_end : (s t : State) (whole left : Fields) (out : List Entry) → EntriesSoFar s t whole left out → left ≡ NoField → (at : Protos) (see : Sight) → Later t at see → IsFields at see whole (entries_seen out)
fields_end s t whole left out so is at see l = subst (IsFields at see whole) (fields_all out) (so.code at see NoFieldC l (subst (λ k. IsFields at see k NoFieldC) (sym is) tt))

pub arms_start : (s : State) (whole : Arms) → BranchesSoFar s s whole whole []
arms_start s whole = record { next = next_same s; code = λ at see rest l h. h }

arms_snoc : (cs : List Branch) (c : Branch) (rest : CArms) → branches_before (cs ++ c ∷ []) rest ≡ branches_before cs (branch_seen c rest)
arms_snoc [] c rest = refl
arms_snoc (d ∷ cs) c rest = ap (branch_seen d) (arms_snoc cs c rest)

arms_all : (cs : List Branch) → branches_before cs NoArmC ≡ branches_seen cs
arms_all [] = refl
arms_all (c ∷ cs) = ap (branch_seen c) (arms_all cs)

pub arms_step : (s t u : State) (whole left more : Arms) (out new : List Branch) (f : Arms → Arms) (c : Branch) → BranchesSoFar s t whole left out → left ≡ f more → Next t u
    → ((at : Protos) (see : Sight) → Later u at see → (fs : Arms) (cs : CArms) → IsArms at see fs cs → IsArms at see (f fs) (branch_seen c cs)) → new ≡ out ++ c ∷ [] → BranchesSoFar s u whole more new
arms_step s t u whole left more out new f c so is next code added = subst (BranchesSoFar s u whole more) (sym added) (record {
  next = next_trans s t u so.next next;
  code = λ at see rest l h. subst (IsArms at see whole) (sym (arms_snoc out c rest))
      (so.code at see (branch_seen c rest) (later t u at see next l) (subst (λ k. IsArms at see k (branch_seen c rest)) (sym is) (code at see l more rest h)));
})

pub arms_end : (s t : State) (whole left : Arms) (out : List Branch) → BranchesSoFar s t whole left out → left ≡ NoArm → (at : Protos) (see : Sight) → Later t at see → IsArms at see whole (branches_seen out)
arms_end s t whole left out so is at see l = subst (IsArms at see whole) (arms_all out) (so.code at see NoArmC l (subst (λ k. IsArms at see k NoArmC) (sym is) tt))

pub targets_start : (s : State) (whole : Exps) → TargetsSoFar s s whole whole []
targets_start s whole = record { next = next_same s; code = λ at see rest l h. h }

targets_snoc : (cs : List Target) (c : Target) (rest : List CTarget) → map target_seen (cs ++ c ∷ []) ++ rest ≡ map target_seen cs ++ target_seen c ∷ rest
targets_snoc [] c rest = refl
targets_snoc (d ∷ cs) c rest = ap (λ r. target_seen d ∷ r) (targets_snoc cs c rest)

pub targets_step : (s t u : State) (whole left more : Exps) (out new : List Target) (e : Exp) (c : Target) → TargetsSoFar s t whole left out → left ≡ MoreExp e more → Next t u
    → ((at : Protos) (see : Sight) → Later u at see → IsTarget at see e (target_seen c)) → new ≡ out ++ c ∷ [] → TargetsSoFar s u whole more new
targets_step s t u whole left more out new e c so is next code added = subst (TargetsSoFar s u whole more) (sym added) (record {
  next = next_trans s t u so.next next;
  code = λ at see rest l h. subst (IsTargets at see whole) (sym (targets_snoc out c rest))
      (so.code at see (target_seen c ∷ rest) (later t u at see next l) (subst (λ k. IsTargets at see k (target_seen c ∷ rest)) (sym is) (code at see l, h)));
})

pub targets_end : (s t : State) (whole left : Exps) (out : List Target) → TargetsSoFar s t whole left out → left ≡ NoExp → (at : Protos) (see : Sight) → Later t at see → IsTargets at see whole (map target_seen out)
targets_end s t whole left out so is at see l = subst (IsTargets at see whole) (append-nil (map target_seen out)) (so.code at see [] l (subst (λ k. IsTargets at see k []) (sym is) tt))

-- VARIABLES that open and close
local_sight_more : (p b : List Local) (see : Sight) → local_sight (p ++ b) see ≡ local_sight p (local_sight b see)
local_sight_more [] b see = refl
local_sight_more (l ∷ p) b see = ap (with_local l.name l.boxed) (local_sight_more p b see)

-- the same variables on both sides
pub next_with : (s t : State) (ls ks : List Local) → Next s t → ks ≡ ls → Next (with_locals_of ls s) (with_locals_of ks t)
next_with s t ls ks h e = record { went = λ clean. let w = h.went clean in record { clean = w.clean; functions = w.functions; constants = w.constants; grows = (e, w.grows.1, w.grows.2) } }

-- the variables in front of those that were there
locals_are : (s t : State) (d : List Local) → Next (opened d s) t → t.scopes.clean ≡ true → locals t ≡ d ++ locals s
locals_are s t d h clean = (h.went clean).grows.0

-- more variables in front of both
next_opened : (s t : State) (p d : List Local) → Next (opened d s) t → Next (opened (p ++ d) s) (opened p t)
next_opened s t p d h = record {
  went = λ clean.
      let w = h.went clean in
      record { clean = w.clean; functions = w.functions; constants = w.constants; grows = (ap (λ ls. p ++ ls) w.grows.0 ∙ sym (append_assoc p d (locals s)), w.grows.1, w.grows.2) };
}

-- what is seen under some open variables
pub later_open : (s t : State) (d : List Local) (at : Protos) (see : Sight) → Next (opened d s) t → Later (with_locals_of (locals s) t) at see → Later t at (local_sight d see)
later_open s t d at see h l =
    let base : Sight = inside t.scopes.level.names (stack_sight t.scopes.outer) in
    let is : local_sight (locals t) base ≡ local_sight d (local_sight (locals s) base) = ap (λ ls. local_sight ls base) (locals_are s t d h l.clean) ∙ local_sight_more d (locals s) base in
    record { clean = l.clean; functions = l.functions; constants = l.constants; covers = subst (λ a. Covers a (local_sight d see)) (sym is) (covers_local d _ _ l.covers) }

-- the same, where still more was open
later_under : (s t u : State) (b : List Local) (at : Protos) (see : Sight) → Next (opened b s) t → t.scopes.clean ≡ true → Later (with_locals_of (locals s) u) at see → Later (with_locals_of (locals t) u) at (local_sight b see)
later_under s t u b at see h clean l =
    let base : Sight = inside u.scopes.level.names (stack_sight u.scopes.outer) in
    let is : local_sight (locals t) base ≡ local_sight b (local_sight (locals s) base) = ap (λ ls. local_sight ls base) (locals_are s t b h clean) ∙ local_sight_more b (locals s) base in
    record { clean = l.clean; functions = l.functions; constants = l.constants; covers = subst (λ a. Covers a (local_sight b see)) (sym is) (covers_local b _ _ l.covers) }

drop_front : (d ls : List Local) → drop (length (d ++ ls) - length ls) (d ++ ls) ≡ ls
drop_front [] ls = let none : length ls - length ls ≡ 0 = omega arith in ap (λ n. drop n ls) none
drop_front (x ∷ d) ls =
    let longer : length (d ++ ls) ≡ length d + length ls = length_both d ls in
    let next : suc (length (d ++ ls)) - length ls ≡ suc (length (d ++ ls) - length ls) = omega (arith, longer) in
    ap (λ n. drop n (x ∷ (d ++ ls))) next ∙ drop_front d ls
  where
    length_both : (d ls : List Local) → length (d ++ ls) ≡ length d + length ls
    length_both [] ls = omega arith
    length_both (x ∷ d) ls = ap suc (length_both d ls) ∙ omega arith

-- a state after variables were closed again
abbrev pub IsClosed : State → State → State → Type 0
IsClosed s t u = (u.scopes ≡ record t.scopes { level = closed_to (length (locals s)) t.scopes.level }) × (u.functions ≡ t.functions) × (u.constants ≡ t.constants)

closed_is : (s t u : State) (d : List Local) → Next (opened d s) t → t.scopes.clean ≡ true → IsClosed s t u → u ≡ with_locals_of (locals s) t
closed_is s t u d h clean e =
    ap (λ k. record u { scopes = k }) e.0
    ∙ ap (λ fs. record { scopes = record t.scopes { level = closed_to (length (locals s)) t.scopes.level }; functions = fs; constants = u.constants }) e.1
    ∙ ap (λ cs. record { scopes = record t.scopes { level = closed_to (length (locals s)) t.scopes.level }; functions = t.functions; constants = cs }) e.2
    ∙ ap (λ ls. with_locals_of ls t) (ap (λ ls. drop (length ls - length (locals s)) ls) (locals_are s t d h clean) ∙ drop_front d (locals s))

pub next_closed : (s t u : State) (d : List Local) → Next (opened d s) t → IsClosed s t u → Next s u
next_closed s t u d h e = record {
  went = λ clean.
      let was : t.scopes.clean ≡ true = sym (ap (λ k. k.clean) e.0) ∙ clean in
      let w = h.went was in
      subst (Went s) (sym (closed_is s t u d h was e)) (record { clean = w.clean; functions = w.functions; constants = w.constants; grows = (refl, w.grows.1, w.grows.2) });
}

pub later_closed : (s t u : State) (d : List Local) (at : Protos) (see : Sight) → Next (opened d s) t → IsClosed s t u → Later u at see → Later (with_locals_of (locals s) t) at see
later_closed s t u d at see h e l =
    let was : t.scopes.clean ≡ true = sym (ap (λ k. k.clean) e.0) ∙ l.clean in
    subst (λ k. Later k at see) (closed_is s t u d h was e) l

-- BLOCKS
pub block_start : (s : State) (whole : Block) → BlockSoFar s s whole whole []
block_start s whole = record { opens = []; next = next_same s; code = λ at see tail rest l h. h }

statements_snoc : (cs : List Statement) (c : Statement) (rest : CBlock) → statements_before (cs ++ c ∷ []) rest ≡ statements_before cs (statement_seen c rest)
statements_snoc [] c rest = refl
statements_snoc (d ∷ cs) c rest = ap (statement_seen d) (statements_snoc cs c rest)

statements_all : (cs : List Statement) → statements_before cs EndC ≡ block_seen cs
statements_all [] = refl
statements_all (c ∷ cs) = ap (statement_seen c) (statements_all cs)

pub block_step : (s t u : State) (whole left more : Block) (out new : List Statement) (st : Stat) (c : Statement) → BlockSoFar s t whole left out → left ≡ MoreStat st more → IsPart t u st (statement_seen c)
    → new ≡ out ++ c ∷ [] → BlockSoFar s u whole more new
block_step s t u whole left more out new st c so is part added = subst (BlockSoFar s u whole more) (sym added) (record {
  opens = part.opens ++ so.opens;
  next = next_trans _ _ u (next_opened s t part.opens so.opens so.next) part.next;
  code = λ at see tail rest l h.
      let clean : t.scopes.clean ≡ true = (part.next.went l.clean).clean in
      let under : Later (with_locals_of (locals s) t) at see = later _ _ at see (next_with _ _ (locals s) (locals s) part.next refl) l in
      let inner : Later (with_locals_of (locals t) u) at (local_sight so.opens see) = later_under s t u so.opens at see so.next clean l in
      let rest_is : IsBlock at (tail_of at tail) (local_sight part.opens (local_sight so.opens see)) more rest = subst (λ a. IsBlock at (tail_of at tail) a more rest) (local_sight_more part.opens so.opens see) h in
      subst (IsBlock at (tail_of at tail) see whole) (sym (statements_snoc out c rest))
      (so.code at see tail (statement_seen c rest) under (subst (λ b. IsBlock at (tail_of at tail) (local_sight so.opens see) b (statement_seen c rest)) (sym is) (part.code at (local_sight so.opens see) tail more rest inner rest_is)));
})

pub block_done : (s t : State) (whole left : Block) (out : List Statement) → BlockSoFar s t whole left out → left ≡ NoStat → BlockSoFar s t whole NoStat out
block_done s t whole left out so is = subst (λ b. BlockSoFar s t whole b out) is so

pub block_next : (s t u : State) (whole : Block) (out : List Statement) → BlockSoFar s t whole NoStat out → IsClosed s t u → Next s u
block_next s t u whole out so e = next_closed s t u so.opens so.next e

pub block_code : (s t u : State) (whole : Block) (out : List Statement) → BlockSoFar s t whole NoStat out → IsClosed s t u → (at : Protos) (see : Sight) → Later u at see → IsBlock at any_sight see whole (block_seen out)
block_code s t u whole out so e at see l = subst (IsBlock at any_sight see whole) (statements_all out) (so.code at see None EndC (later_closed s t u so.opens at see so.next e l) tt)

-- of `repeat` the test is gone over before its variables are closed
pub repeat_next : (s t v u : State) (whole : Block) (out : List Statement) → BlockSoFar s t whole NoStat out → Next t v → IsClosed s v u → Next s u
repeat_next s t v u whole out so h e = next_closed s v u so.opens (next_trans _ t v so.next h) e

pub repeat_code : (s t v u : State) (whole : Block) (out : List Statement) (e : Exp) (c : Expression) → BlockSoFar s t whole NoStat out → Next t v → ((at : Protos) (see : Sight) → Later v at see → IsExp at see e (expression_seen c)) → IsClosed s v u
    → (at : Protos) (see : Sight) → Later u at see → IsBlock at (λ end. IsExp at end e (expression_seen c)) see whole (block_seen out)
repeat_code s t v u whole out e c so h code closed at see l =
    let opens : Next (opened so.opens s) v = next_trans _ t v so.next h in
    let under : Later (with_locals_of (locals s) v) at see = later_closed s v u so.opens at see opens closed l in
    let before : Later (with_locals_of (locals s) t) at see = later _ _ at see (next_with t v (locals s) (locals s) h refl) under in
    subst (IsBlock at (λ end. IsExp at end e (expression_seen c)) see whole) (statements_all out)
    (so.code at see (Some (e, expression_seen c)) EndC before (code at (local_sight so.opens see) (later_open s v so.opens at see opens under)))

-- A PLAIN STATEMENT opens no variables
pub plain_part : (s t : State) (st : Stat) (c : CBlock → CBlock) → Next s t
    → ((at : Protos) (see : Sight) → Later t at see → (tail : Option (Exp × CExp)) (left : Block) (rest : CBlock) → IsBlock at (tail_of at tail) see left rest → IsBlock at (tail_of at tail) see (MoreStat st left) (c rest)) → IsPart s t st c
plain_part s t st c next code = record {
  opens = [];
  next = next;
  code = λ at see tail left rest l h. code at see (subst (λ k. Later k at see) (ap (λ ls. with_locals_of ls t) (sym (locals_are s t [] next l.clean))) l) tail left rest h;
}

-- DECLARED NAMES
pub names_end : (s t : State) (whole left : List Bytes) (flags : List Bool) → NamesSoFar s t whole left flags → left ≡ [] → AreDeclared s t whole flags
names_end s t whole left flags so is = record {
  as_many = subst (AreAsMany whole) (append-nil flags) (so.as_many [] (subst (λ k. AreAsMany k []) (sym is) tt));
  opened = so.others ∙ ap (λ ls. with_locals_of ls s) (ap (λ k. with_names k [] (locals t)) (sym is) ∙ so.locals [] ∙ ap (λ bs. with_names whole bs (locals s)) (append-nil flags));
}

names_front : (xs : List Bytes) (bs : List Bool) (d ls : List Local) → with_names xs bs (d ++ ls) ≡ with_names xs bs d ++ ls
names_front [] bs d ls = refl
names_front (x ∷ xs) [] d ls = refl
names_front (x ∷ xs) (b ∷ bs) d ls = names_front xs bs (record { name = x; boxed = b } ∷ d) ls

names_sight : (xs : List Bytes) (bs : List Bool) (ls : List Local) (see : Sight) → local_sight (with_names xs bs ls) see ≡ with_locals xs bs (local_sight ls see)
names_sight [] bs ls see = refl
names_sight (x ∷ xs) [] ls see = refl
names_sight (x ∷ xs) (b ∷ bs) ls see = names_sight xs bs (record { name = x; boxed = b } ∷ ls) see

declared_opened : (s d : State) (names : List Bytes) (flags : List Bool) → AreDeclared s d names flags → d ≡ opened (with_names names flags []) s
declared_opened s d names flags h = h.opened ∙ ap (λ ls. with_locals_of ls s) (names_front names flags [] (locals s))

-- the body of a loop, whose variables are closed behind it
pub body_next : (s d t u : State) (names : List Bytes) (flags : List Bool) → AreDeclared s d names flags → Next d t → IsClosed s t u → Next s u
body_next s d t u names flags h next e = next_closed s t u (with_names names flags []) (subst (λ k. Next k t) (declared_opened s d names flags h) next) e

pub body_code : (s d t u : State) (names : List Bytes) (flags : List Bool) (whole : Block) (out : List Statement) → AreDeclared s d names flags → Next d t
    → ((at : Protos) (see : Sight) → Later t at see → IsBlock at any_sight see whole (block_seen out)) → IsClosed s t u → (at : Protos) (see : Sight) → Later u at see → IsBlock at any_sight (with_locals names flags see) whole (block_seen out)
body_code s d t u names flags whole out h next code e at see l =
    let opens : Next (opened (with_names names flags []) s) t = subst (λ k. Next k t) (declared_opened s d names flags h) next in
    subst (λ a. IsBlock at any_sight a whole (block_seen out)) (names_sight names flags [] see)
    (code at (local_sight (with_names names flags []) see) (later_open s t (with_names names flags []) at see opens (later_closed s t u (with_names names flags []) at see opens e l)))

-- `local names = values`
pub local_part : (s t d : State) (line : ℕ) (names : List Bytes) (flags : List Bool) (es : Exps) (cs : CExps) → Next s t → ((at : Protos) (see : Sight) → Later t at see → IsExps at see es cs) → AreDeclared t d names flags
    → IsPart s d (LocalS line names es) (DeclareC flags cs)
local_part s t d line names flags es cs next code h = record {
  opens = with_names names flags [];
  next = subst (λ ls. Next (opened ls s) d) (append-nil (with_names names flags [])) (subst (Next (opened (with_names names flags [] ++ []) s)) (sym (declared_opened t d names flags h)) (next_opened s t (with_names names flags []) [] next));
  code = λ at see tail left rest l b.
      let clean : t.scopes.clean ≡ true = sym (ap (λ k. k.scopes.clean) h.opened) ∙ l.clean in
      let same : with_locals_of (locals s) d ≡ t = ap (with_locals_of (locals s)) h.opened ∙ ap (λ ls. with_locals_of ls t) (sym (locals_are s t [] next clean)) in
      (h.as_many, code at see (subst (λ k. Later k at see) same l), subst (λ a. IsBlock at (tail_of at tail) a left rest) (names_sight names flags [] see) b);
}

-- FUNCTIONS
abbrev pub entered_state : State → State
entered_state s = record s { scopes = entered s.scopes }

get_front : (ps : List CProto) (p : CProto) (i : ℕ) (q : CProto) → slice_get ps i ≡ Some q → slice_get (ps ++ p ∷ []) i ≡ Some q
get_front [] p i q e = cc
get_front (r ∷ ps) p zero q e = e
get_front (r ∷ ps) p (suc i) q e = get_front ps p i q e

get_last : (ps : List CProto) (p : CProto) → slice_get (ps ++ p ∷ []) (length ps) ≡ Some p
get_last [] p = refl
get_last (r ∷ ps) p = get_last ps p

holds_front : (ps qs : List CProto) (p : CProto) (at : Protos) → qs ≡ ps ++ p ∷ [] → Holds qs at → Holds ps at
holds_front ps qs p at e h i q g = h i q (subst (λ k. slice_get k i ≡ Some q) (sym e) (get_front ps p i q g))

-- what is so where a function ends
record Ended (s d t v : State) (params : List Bytes) (flags : List Bool) (p : CProto) (places : List Place) : Type 0 where
  declared : AreDeclared (entered_state s) d params flags
  next : Next d t
  left : IsLeft t.scopes v.scopes places
  added : v.functions ≡ t.functions ++ p ∷ []
  same : v.constants ≡ t.constants

went_in : (s d t v : State) (params : List Bytes) (flags : List Bool) (p : CProto) (places : List Place) → Ended s d t v params flags p places → t.scopes.clean ≡ true
    → Went (with_locals_of (with_names params flags []) (entered_state s)) t
went_in s d t v params flags p places h clean = subst (λ k. Went k t) h.declared.opened (h.next.went clean)

-- the functions around are those that were there
abbrev LeftIn : (s t v : State) (places : List Place) → Type 0
LeftIn s t v places = (v.scopes.clean ≡ t.scopes.clean) × Grows (stack s.scopes) (stack v.scopes) × (stack v.scopes ≡ t.scopes.outer) × (places ≡ t.scopes.level.places) × (t.scopes.clean ≡ true → Each (IsCaptured (stack_sight (stack v.scopes))) t.scopes.level.names t.scopes.level.places)

left_to : (s t v : State) (places : List Place) (outer : List Level) → t.scopes.outer ≡ outer → Grows (stack s.scopes) outer → IsLeftTo outer t.scopes v.scopes places → LeftIn s t v places
left_to s t v places [] e g l = absurd g
left_to s t v places (m ∷ ms) e g l =
    let is : stack v.scopes ≡ m ∷ ms = ap stack l.0 in
    (ap (λ k. k.clean) l.0, subst (Grows (stack s.scopes)) (sym is) g, is ∙ sym e, l.1, λ c. subst (λ k. Each (IsCaptured (stack_sight k)) t.scopes.level.names t.scopes.level.places) (sym is) (l.2 c))

left_clean : (t v : State) (places : List Place) (outer : List Level) → IsLeftTo outer t.scopes v.scopes places → v.scopes.clean ≡ t.scopes.clean
left_clean t v places [] l = ap (λ k. k.clean) l
left_clean t v places (m ∷ ms) l = ap (λ k. k.clean) l.0

left_in : (s d t v : State) (params : List Bytes) (flags : List Bool) (p : CProto) (places : List Place) → Ended s d t v params flags p places → t.scopes.clean ≡ true → LeftIn s t v places
left_in s d t v params flags p places h clean = left_to s t v places t.scopes.outer refl (went_in s d t v params flags p places h clean).grows.2 h.left

pub function_next : (s d t v : State) (params : List Bytes) (flags : List Bool) (p : CProto) (places : List Place) → AreDeclared (entered_state s) d params flags → Next d t → IsLeft t.scopes v.scopes places → v.functions ≡ t.functions ++ p ∷ []
    → v.constants ≡ t.constants → Next s v
function_next s d t v params flags p places declared next left added same = record {
  went = λ clean.
      let h : Ended s d t v params flags p places = record { declared = declared; next = next; left = left; added = added; same = same } in
      let was : t.scopes.clean ≡ true = sym (left_clean t v places t.scopes.outer left) ∙ clean in
      let w = went_in s d t v params flags p places h was in
      record { clean = w.clean; functions = λ at g. w.functions at (holds_front t.functions v.functions p at added g); constants = λ at g. w.constants at (subst (λ cs. Names cs at) same g); grows = (left_in s d t v params flags p places h was).1 };
}

pub function_code : (s d t v : State) (params : List Bytes) (flags : List Bool) (dots : Bool) (body : Block) (out : List Statement) (p : CProto) (places : List Place) (index : ℕ)
    → AreDeclared (entered_state s) d params flags → Next d t → ((at : Protos) (see : Sight) → Later t at see → IsBlock at any_sight see body (block_seen out)) → IsLeft t.scopes v.scopes places → v.functions ≡ t.functions ++ p ∷ [] → v.constants ≡ t.constants
    → p ≡ record { flags = flags; dots = dots; body = block_seen out } → index ≡ suc (length t.functions)
    → (at : Protos) (see : Sight) → Later v at see → IsClosure at see index places (λ inner q. IsFun at inner (Lambda params dots body) q)
function_code s d t v params flags dots body out p places index declared next code left added same is number at see l =
    let h : Ended s d t v params flags p places = record { declared = declared; next = next; left = left; added = added; same = same } in
    let was : t.scopes.clean ≡ true = sym (left_clean t v places t.scopes.outer left) ∙ l.clean in
    let w = went_in s d t v params flags p places h was in
    let k = left_in s d t v params flags p places h was in
    let names : List Bytes = t.scopes.level.names in
    let around : Covers (stack_sight t.scopes.outer) see = subst (λ o. Covers (stack_sight o) see) k.2 l.covers in
    let within : Sight = inside names see in
    let seen : Covers (stack_sight (stack t.scopes)) (local_sight (with_names params flags []) within) =
    subst (λ ls. Covers (local_sight ls (inside names (stack_sight t.scopes.outer))) (local_sight (with_names params flags []) within)) (sym w.grows.0) (covers_local (with_names params flags []) _ _ (covers_inside names _ _ around)) in
    let inner : Later t at (local_sight (with_names params flags []) within) = record { clean = was; functions = holds_front t.functions v.functions p at added l.functions; constants = subst (λ cs. Names cs at) same l.constants; covers = seen } in
    let found : at.function index ≡ Some p = ap at.function number ∙ l.functions (length t.functions) p (subst (λ ps. slice_get ps (length t.functions) ≡ Some p) (sym added) (get_last t.functions p)) in
    let cells : Each (IsCaptured see) names places = subst (Each (IsCaptured see) names) (sym k.3) (captured_on _ see names t.scopes.level.places l.covers (k.4 was)) in
    let block : IsBlock at any_sight (with_locals params flags within) body (block_seen out) = subst (λ a. IsBlock at any_sight a body (block_seen out)) (names_sight params flags [] within) (code at _ inner) in
    (names, p, found, cells, subst (IsFun at within (Lambda params dots body)) (sym is) (refl, declared.as_many, block))

-- `local function`
pub local_function_part : (s d t : State) (line : ℕ) (x : Bytes) (b : Bool) (f : Fun) (index : ℕ) (places : List Place) → AreDeclared s d (x ∷ []) (b ∷ []) → Next d t
    → ((at : Protos) (see : Sight) → Later t at see → IsClosure at see index places (λ inner q. IsFun at inner f q)) → IsPart s t (LocalFunctionS line x f) (LocalFunctionC b index places)
local_function_part s d t line x b f index places h next code =
    let own : List Local = record { name = x; boxed = b } ∷ [] in
    let opens : Next (opened own s) t = subst (λ k. Next k t) h.opened next in
    record { opens = own; next = opens; code = λ at see tail left rest l g. (code at (with_local x b see) (later_open s t own at see opens l), g) }
