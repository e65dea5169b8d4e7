-- STATEMENTS AND BLOCKS: what begins with a node of theirs, what waits in them, and how blocks and bodies end.
use Rattle.std.proofs.Common.{◌≡◌, ℕ, Bool, List, [], ◌∷◌, ◌++◌, length, reverse, Option, Some, None, refl, sym, subst}
use Rattle.std.proofs.lemmas.List.{reverse-append}
use Rattle.lua_slots.specs.LuaSyntaxTree.{Exp, NameE, IndexE, Exps, NoExp, MoreExp, Fun, Arms, NoArm, Arm, Block, NoStat, MoreStat, Stat, AssignS, CallS, DoS, WhileS, RepeatS, IfS, IfElseS, CountS, CountByS, EachS, LocalFunctionS, LocalS, ReturnS, BreakS}
use Rattle.lua_slots.specs.PageRunOutcome.{Goes, Jumps, on_value, ◌>>=◌, ◌>>◌, give, jump}
use Rattle.lua_heap.specs.Value.{Value, Nil, is_true}
use Rattle.lua_heap.specs.Heap.{new_cell}
use Rattle.lua_heap.specs.Related.{Map, Each, none, more, Same, nil, text, table}
use Rattle.lua_slots.specs.LuaMeaningScope.{Bytes, Scope, Levels, cell_of, levels, with_name}
use Rattle.lua_slots.specs.LuaMeaningActs.{Jump, Returned, State, choose, write_cell, declare}
use Rattle.lua_slots.specs.LuaMeaningMessages.{no_target}
use Rattle.lua_library_agree.specs.LuaMeaningParts.{Target, Entry}
use Rattle.lua_library_agree.specs.LuaMeaningExpressions.{value, name_target}
use Rattle.lua_library_agree.specs.LuaMeaningStatements as meaning
use Rattle.lua_library_agree.specs.LuaMeaningMeaning.{expression, targets_of, statement, block, branches_of}
use Rattle.lua_library_agree.specs.LuaMeaningThings.{after_body}
use Rattle.lua_slots.specs.LuaMeaningWorld.{World}
use Rattle.lua_slots.specs.Code.{Place, CExp, CExps, CTarget, PlaceC, GlobalTargetC, EntryC, RefusedC, CArms, NoArmC, ArmC, CWorld}
use Rattle.lua_slots.specs.Code.{CStat, AssignC, CallStatC, DoC, WhileC, RepeatC, IfC, IfElseC, CountC, CountByC, EachC, ReturnC, BreakC, CBlock, EndC, DeclareC, LocalFunctionC, ThenC}
use Rattle.lua_slots.specs.Sight.{Sight, newest, with_local, with_locals, AreAsMany}
use Rattle.lua_slots.specs.IsCode.{any_sight, IsExp, IsExps, IsFun, IsTarget, IsTargets, IsArms, IsStat, IsBlock, IsClosure}
use Rattle.lua_slots.specs.Slots.{Activation, Slots, newest_function, opened, all_opened}
use Rattle.lua_slots.specs.Points.{STarget, PlaceS, GlobalS, SFrame, TargetKey, TargetNow, AssignNow, SetsNext, DeclareNow, StatsNext, BranchNext, BlockEnd, BodyEnd, ReturnNow, Finds, Runs, Now}
use Rattle.lua_slots.specs.Calls.{constants_of}
use Rattle.lua_slots.specs.Statements as machine
use Rattle.lua_slots.specs.Moves as moves
use Rattle.lua_agree.specs.Variables.{Var, Opens, as_many, one_more, SameVar, at_reg, at_box, at_up, HeldFunction, Inside}
use Rattle.lua_agree.specs.Values.{SameJump, returned, broke, raised, SameTarget, places, globals_, entries_, SameSet}
use Rattle.lua_agree.specs.Functions.{here, end_of, IsOther, other_of}
use Rattle.lua_agree.specs.Rests.{After, first_of, stays, dropped, all_targets, more_targets, more_sets, leaving, SameRest, at_target_key, at_target, at_assign, at_sets, at_declare, at_stats, at_branch, at_while, at_count_from, at_each_values, at_return, SameEnd, ends_block}
use Rattle.lua_agree.specs.Agree.{SamePoint, ends, evaluates, lists, finds, sets, runs, starts, repeat_turns, Base, Rel}
use Rattle.lua_agree.specs.Follows.{Follows, notes, takes, counts, leaves, sees, changes}
use Rattle.lua_agree.proofs.Carries.{inside-grows, end-grows}
use Rattle.lua_agree.proofs.Parts.{first-same, rest-same, each-join, true-same, here-now, values-on, passes-on}
use Rattle.lua_agree.proofs.Parts as parts
use Rattle.lua_agree.proofs.Places.{Opened, same-functions, written, writes, var-here, inside-more, one-opened, opens}
use Rattle.lua_agree.proofs.Ends.{end-more, rel-cut, with-functions, depth-is}
use Rattle.lua_agree.proofs.Index.{sets-index}
use Rattle.lua_agree.proofs.Expressions.{function-code, makes-on}

-- each target with its value, and in the other order
valued-same : {m : Map} {vars : List Var} {fns : List Activation} {ts : List Target} {us : List STarget} {vs ws : List Value} → Each (SameTarget m vars fns) ts us → Each (Same m) vs ws
    → Each (SameSet m vars fns) (meaning.with_values ts vs) (machine.with_values us ws)
valued-same none f = none
valued-same (more t u ts us r e) f = more _ _ _ _ (record { target = r; value = first-same f }) (valued-same e (rest-same f))

reverse-same : {A B : Type 0} {R : A → B → Type 0} {xs : List A} {ys : List B} → Each R xs ys → Each R (reverse xs) (reverse ys)
reverse-same none = none
reverse-same {R = R} (more x y xs ys r e) =
    subst (λ z. Each R z (reverse (y ∷ ys))) (sym (reverse-append (x ∷ []) xs)) (subst (λ z. Each R (reverse xs ++ x ∷ []) z) (sym (reverse-append (y ∷ []) ys)) (each-join (reverse-same e) (more x y [] [] r none)))

module _ (world : World) (code : CWorld) (B : Base) {m : Map} {vars : List Var} {h : State} {s : Slots} (r : Rel code B m vars h s) where
  -- ASSIGNMENT (manual 2.4.3)
  module _ {see : Sight} {scope : Scope} (i : Inside m vars s.functions see scope) (k : After Scope) {fs : List SFrame} (g : SameRest code m vars s.functions (stays scope k) fs) where
    local-target : (x : Bytes) (ls : Levels) (p : Place) (o : Option ℕ) → SameVar m vars (newest_function s.functions).cells p o → SameTarget m vars s.functions (name_target o x ls) (PlaceS p)
    local-target x ls _ _ (at_reg j c e) = places c _ (at_reg j c e)
    local-target x ls _ _ (at_box j c e) = places c _ (at_box j c e)
    local-target x ls _ _ (at_up j c q e f) = places c _ (at_up j c q e f)

    pub finds-on : (left : Exps) (ts : List CTarget) {found : List Target} {sfound : List STarget} (right : Exps) (cs : CExps) → IsTargets (here code s.functions) see left ts → Each (SameTarget m vars s.functions) found sfound
        → IsExps (here code s.functions) see right cs → Follows world code B (meaning.targets (targets_of left) scope found (all_targets right scope k)) h (machine.finds (constants_of code s) ts sfound cs fs s)
    finds-on NoExp [] {found} {sfound} right cs a b c = here-now world code B r (lists right cs [] [] see scope _ _ c i none (at_assign vars s.functions found sfound scope k fs b g))
    finds-on (MoreExp e es) (t ∷ ts) {found} {sfound} right cs a b c = one e t a.0
      where
        one : (e : Exp) (t : CTarget) → IsTarget (here code s.functions) see e t → Follows world code B (meaning.targets (targets_of (MoreExp e es)) scope found (all_targets right scope k)) h (machine.finds (constants_of code s) (t ∷ ts) sfound cs fs s)
        one (NameE line x) (PlaceC p) u =
            here-now world code B r (finds es ts _ _ right cs see scope k fs a.1 (each-join b (more _ _ _ _ (local-target x (levels scope line) p (cell_of scope.names x) (i.locals x p u)) none)) c i g)
        one (NameE line x) (GlobalTargetC y l) u =
            rw u.2
            (subst (λ y. Follows world code B (meaning.targets (targets_of (MoreExp (NameE line x) es)) scope found (all_targets right scope k)) h (Now (Finds ts (sfound ++ GlobalS y line ∷ []) cs fs) s)) (sym u.1)
            (subst (λ o. Follows world code B (more_targets es found right scope k (Goes (name_target o x (levels scope line)))) h (Now (Finds ts (sfound ++ GlobalS x line ∷ []) cs fs) s)) (sym (i.globals x u.0))
            (here-now world code B r (finds es ts _ _ right cs see scope k fs a.1 (each-join b (more _ _ _ _ (globals_ x (levels scope line) line (i.levels line)) none)) c i g))))
        one (IndexE line of key) (EntryC d f l) u =
            rw u.0
            (takes _ _ _ _ (counts _ _ _ (here-now world code B r (evaluates of d see scope _ _ u.1 i (at_target_key vars s.functions key f line es ts found sfound right cs see scope k fs u.2 a.1 b c i g)))))
        one (NameE line x) RefusedC u = absurd u
        one (IndexE line of key) RefusedC u = absurd u
        one e RefusedC u = passes-on world code B r g (raised _ _ (text no_target))
        one e t u = absurd u
    finds-on NoExp (t ∷ ts) right cs a b c = absurd a
    finds-on (MoreExp e es) [] right cs a b c = absurd a

  module _ (scope : Scope) (k : After Scope) {fs : List SFrame} (g : SameRest code m vars s.functions (stays scope k) fs) where
    pub sets-on : {ps : List (Target × Value)} {qs : List (STarget × Value)} → Each (SameSet m vars s.functions) ps qs → Follows world code B (meaning.assign_each ps (on_value (λ _. give scope) k)) h (machine.sets qs fs s)
    sets-on none = values-on world code B r g none
    sets-on (more p q ps qs x xs) = one p.0 q.0 x.target
      where
        after : SameRest code m vars s.functions (dropped (more_sets ps scope k)) (SetsNext qs ∷ fs)
        after = at_sets vars s.functions ps qs scope k fs xs g

        one : (t : Target) (u : STarget) → SameTarget m vars s.functions t u → Follows world code B (meaning.assign_one t p.1 (more_sets ps scope k)) h (machine.sets_one u q.1 (SetsNext qs ∷ fs) s)
        one _ _ (places c d e) = writes world code B r (more_sets ps scope k) after d c e x.value
        one _ _ (globals_ y ls line e) = notes _ _ _ _ _ (sees _ _ _ (sets-index world code B r (more_sets ps scope k) after ls (Some line) e (table _ _ r.globals) (text y) x.value))
        one _ _ (entries_ a b c d ls line e f l) = sets-index world code B r (more_sets ps scope k) after ls (Some line) l e f x.value

  -- BLOCKS OF THEIR OWN and conditions (2.4.4)
  module _ {see : Sight} {scope : Scope} (i : Inside m vars s.functions see scope) (k : After Scope) {fs : List SFrame} (g : SameRest code m vars s.functions (stays scope k) fs) where
    pub within-on : (b : Block) (c : CBlock) → IsBlock (here code s.functions) any_sight see b c → Follows world code B (meaning.within (block b) scope k) h (machine.within c fs s)
    within-on b c e = here-now world code B r (runs None b c see scope _ _ e i (ends_block vars vars s.functions (length s.regs) scope k fs (as_many vars) (depth-is code r) g))

    otherwise-on : (other : Option Block) (d : Option CBlock) → IsOther (here code s.functions) see other d → Follows world code B (meaning.otherwise (other_of other) scope k) h (machine.otherwise d fs s)
    otherwise-on None None e = values-on world code B r g none
    otherwise-on (Some b) (Some c) e = within-on b c e
    otherwise-on None (Some c) e = absurd e
    otherwise-on (Some b) None e = absurd e

    pub branches-on : (arms : Arms) (cs : CArms) (other : Option Block) (d : Option CBlock) → IsArms (here code s.functions) see arms cs → IsOther (here code s.functions) see other d
        → Follows world code B (meaning.branches (branches_of arms) (other_of other) scope k) h (machine.branches cs d fs s)
    branches-on NoArm NoArmC other d x y = otherwise-on other d y
    branches-on (Arm e b arms) (ArmC c d cs) other otherC x y = here-now world code B r (evaluates e c see scope _ _ x.0 i (at_branch vars s.functions b d arms cs other otherC see scope k fs x.1 x.2 y i g))
    branches-on NoArm (ArmC c d cs) other otherC x y = absurd x
    branches-on (Arm e b arms) NoArmC other otherC x y = absurd x

    -- STATEMENTS
    pub executes : (st : Stat) (c : CStat) → IsStat (here code s.functions) see st c → Follows world code B (statement st scope k) h (machine.executes c fs s)
    executes (AssignS line left right) (AssignC ts cs) e = takes _ _ _ _ (counts _ _ _ (here-now world code B r (finds left ts [] [] right cs see scope k fs e.0 none e.1 i g)))
    executes (CallS line e) (CallStatC c) x = takes _ _ _ _ (counts _ _ _ (here-now world code B r (evaluates e c see scope _ fs x i g)))
    executes (DoS line b) (DoC c) e = takes _ _ _ _ (counts _ _ _ (within-on b c e))
    executes (WhileS line e b) (WhileC c d) x = takes _ _ _ _ (counts _ _ _ (here-now world code B r (evaluates e c see scope _ _ x.0 i (at_while vars s.functions e c b d see scope (stays scope k) fs x.0 x.1 i g))))
    executes (RepeatS line b e) (RepeatC c d) x = takes _ _ _ _ (counts _ _ _ (here-now world code B r (starts _ _ (stays scope k) fs (repeat_turns b c e d see scope x i) g)))
    executes (IfS line arms) (IfC cs) e = takes _ _ _ _ (counts _ _ _ (branches-on arms cs None None e tt))
    executes (IfElseS line arms b) (IfElseC cs c) e = takes _ _ _ _ (counts _ _ _ (branches-on arms cs (Some b) (Some c) e.0 e.1))
    executes (CountS line x from to b) (CountC boxed c d cs l) e =
        rw e.0 (takes _ _ _ _ (counts _ _ _ (here-now world code B r (evaluates from c see scope _ _ e.1 i (at_count_from vars s.functions x boxed to d None None b cs line see scope k fs e.2 tt e.3 i g)))))
    executes (CountByS line x from to by b) (CountByC boxed c d f cs l) e =
        rw e.0 (takes _ _ _ _ (counts _ _ _ (here-now world code B r (evaluates from c see scope _ _ e.1 i (at_count_from vars s.functions x boxed to d (Some by) (Some f) b cs line see scope k fs e.2 e.3 e.4 i g)))))
    executes (EachS line names es b) (EachC flags cs c l) e =
        rw e.0 (takes _ _ _ _ (counts _ _ _ (here-now world code B r (lists es cs [] [] see scope _ _ e.2 i none (at_each_values vars s.functions names flags b c line see scope k fs e.1 e.3 i g)))))
    executes (ReturnS line es) (ReturnC cs) e = takes _ _ _ _ (counts _ _ _ (here-now world code B r (lists es cs [] [] see scope _ _ e i none (at_return vars s.functions scope k fs g))))
    executes (BreakS line) BreakC e = takes _ _ _ _ (counts _ _ _ (passes-on world code B r g broke))
    executes st c e = absurd e

module _ (world : World) (code : CWorld) (B : Base) {m : Map} {vars : List Var} {h : State} {s : Slots} (r : Rel code B m vars h s) where
  -- BLOCKS
  module _ (tail : Option (Exp × CExp)) {see : Sight} {scope : Scope} (i : Inside m vars s.functions see scope) (k : After Scope) {fs : List SFrame} (g : SameEnd code m tail vars s.functions k fs) where
    apart : (st : Stat) (b : Block) (c : CStat) (d : CBlock) → IsBlock (here code s.functions) (end_of code s.functions tail) see (MoreStat st b) (ThenC c d)
        → IsStat (here code s.functions) see st c × IsBlock (here code s.functions) (end_of code s.functions tail) see b d
    apart (BreakS line) b c d e = e
    apart st b c d e = e

    local-function : (x : Bytes) (flag : Bool) (index : ℕ) (held : List Place) (f : Fun) (line : ℕ) (b : Block) (c : CBlock)
        → IsClosure (here code s.functions) (with_local x flag see) index held (λ inner p. IsFun (here code s.functions) inner f p)
        → IsBlock (here code s.functions) (end_of code s.functions tail) (with_local x flag see) b c
        → Follows world code B (block (MoreStat (LocalFunctionS line x f) b) scope k) h (machine.runs (LocalFunctionC flag index held c) fs s)
    local-function x flag index held f line b c e e' =
        let cell : ℕ = length h.heap.cells in
        let o : Opened code B m (record { cell = cell; boxed = flag } ∷ vars) (record h { heap = (new_cell h.heap Nil).0 }) (opened flag Nil s) = one-opened code flag r nil in
        let inner : Inside o.map (record { cell = cell; boxed = flag } ∷ vars) s.functions (with_local x flag see) (with_name x cell scope) = inside-more o.map vars s.functions see scope x flag cell (inside-grows o.grows i) in
        takes _ _ _ _ (counts _ _ _ (sees _ _ _ (sees _ _ _ (changes _ _ _ _
        (makes-on world code B o.rel index held f (with_name x cell scope) (on_value (λ v. write_cell cell v >> give (with_name x cell scope)) (on_value (λ after. block b after) k)) (function-code world code B o.rel inner index held f e)
        (λ n up r' v. sees _ _ _ (sees _ _ _ (changes _ _ _ _
        (here-now world code B (written world code B r' (newest flag) cell _ refl (var-here n flag cell vars _) v)
        (subst (λ (fns : List Activation). SamePoint code n (record { cell = cell; boxed = flag } ∷ vars) fns (block b (with_name x cell scope) k) (Runs c fs)) (sym (same-functions world code B r' (newest flag) _))
        (runs tail b c (with_local x flag see) (with_name x cell scope) k fs e' (inside-grows up inner)
        (end-more code (one_more _ vars vars (as_many vars)) (end-grows code (λ y z q. up y z (o.grows y z q)) g)))))))))))))

    pub runs-on : (b : Block) (c : CBlock) → IsBlock (here code s.functions) (end_of code s.functions tail) see b c → Follows world code B (block b scope k) h (machine.runs c fs s)
    runs-on NoStat EndC e = here-now world code B r (ends tail see scope k fs e i g)
    runs-on (MoreStat (LocalS line names es) b) (DeclareC flags cs c) e =
        takes _ _ _ _ (counts _ _ _ (here-now world code B r (lists es cs [] [] see scope _ _ e.1 i none (at_declare vars s.functions tail names flags b c see scope k fs e.0 e.2 i g))))
    runs-on (MoreStat (LocalFunctionS line x f) b) (LocalFunctionC flag index held c) e = local-function x flag index held f line b c e.0 e.1
    runs-on (MoreStat st b) (ThenC c d) e = let x = apart st b c d e in executes world code B r i (on_value (λ after. block b after) k) (at_stats vars s.functions tail b d see scope k fs x.1 i g) st c x.0
    runs-on b c e = absurd e

  -- WHAT WAITS IN AN ASSIGNMENT
  pub goes-target-key : (e : Exp) (c : CExp) (line : ℕ) (left : Exps) (ts : List CTarget) (found : List Target) (sfound : List STarget) (right : Exps) (cs : CExps) (see : Sight) (scope : Scope) (k : After Scope) (fs : List SFrame)
      → IsExp (here code s.functions) see e c → IsTargets (here code s.functions) see left ts → Each (SameTarget m vars s.functions) found sfound → IsExps (here code s.functions) see right cs → Inside m vars s.functions see scope
      → SameRest code m vars s.functions (stays scope k) fs → {vs ws : List Value} → Each (Same m) vs ws
      → Follows world code B (first_of (on_value (λ t. value (expression e) scope >>= (λ i. give (Entry t i (levels scope line)))) (more_targets left found right scope k)) (Goes vs)) h (moves.goes code (TargetKey c line ts sfound cs) ws fs s)
  goes-target-key e c line left ts found sfound right cs see scope k fs x y z u i g es =
      here-now world code B r (evaluates e c see scope _ _ x i (at_target vars s.functions _ _ line left ts found sfound right cs see scope k fs (first-same es) y z u i g))

  pub goes-target : (v w : Value) (line : ℕ) (left : Exps) (ts : List CTarget) (found : List Target) (sfound : List STarget) (right : Exps) (cs : CExps) (see : Sight) (scope : Scope) (k : After Scope) (fs : List SFrame)
      → Same m v w → IsTargets (here code s.functions) see left ts → Each (SameTarget m vars s.functions) found sfound → IsExps (here code s.functions) see right cs → Inside m vars s.functions see scope
      → SameRest code m vars s.functions (stays scope k) fs → {vs ws : List Value} → Each (Same m) vs ws
      → Follows world code B (first_of (on_value (λ i. give (Entry v i (levels scope line))) (more_targets left found right scope k)) (Goes vs)) h (moves.goes code (TargetNow w line ts sfound cs) ws fs s)
  goes-target v w line left ts found sfound right cs see scope k fs x y z u i g es =
      here-now world code B r (finds left ts _ _ right cs see scope k fs y (each-join z (more _ _ _ _ (entries_ v w _ _ (levels scope line) line x (first-same es) (i.levels line)) none)) u i g)

  pub goes-assign : (found : List Target) (sfound : List STarget) (scope : Scope) (k : After Scope) (fs : List SFrame) → Each (SameTarget m vars s.functions) found sfound → SameRest code m vars s.functions (stays scope k) fs
      → {vs ws : List Value} → Each (Same m) vs ws → Follows world code B ((meaning.assign_each (reverse (meaning.with_values found vs)) >> give scope) k) h (moves.goes code (AssignNow sfound) ws fs s)
  goes-assign found sfound scope k fs x g es = here-now world code B r (sets _ _ scope k fs (reverse-same (valued-same x es)) g)

  pub goes-sets : (ps : List (Target × Value)) (qs : List (STarget × Value)) (scope : Scope) (k : After Scope) (fs : List SFrame) → Each (SameSet m vars s.functions) ps qs → SameRest code m vars s.functions (stays scope k) fs
      → {vs ws : List Value} → Each (Same m) vs ws → Follows world code B (dropped (more_sets ps scope k) (Goes vs)) h (moves.goes code (SetsNext qs) ws fs s)
  goes-sets ps qs scope k fs x g es = here-now world code B r (sets ps qs scope k fs x g)

  -- in a block
  pub goes-declare : (tail : Option (Exp × CExp)) (names : List Bytes) (flags : List Bool) (b : Block) (c : CBlock) (see : Sight) (scope : Scope) (k : After Scope) (fs : List SFrame)
      → AreAsMany names flags → IsBlock (here code s.functions) (end_of code s.functions tail) (with_locals names flags see) b c → Inside m vars s.functions see scope → SameEnd code m tail vars s.functions k fs
      → {vs ws : List Value} → Each (Same m) vs ws → Follows world code B (declare names vs scope (on_value (λ after. block b after) k)) h (moves.goes code (DeclareNow flags c) ws fs s)
  goes-declare tail names flags b c see scope k fs n x i g {vs} {ws} es =
      opens world code B names flags _ _ (all_opened flags ws s) n r i es refl
      (λ o all j scope' up op r' i'. here-now world code B r' (runs tail b c (with_locals names flags see) scope' k fs x i' (end-more code op (end-grows code up g))))

  pub goes-stats : (tail : Option (Exp × CExp)) (b : Block) (c : CBlock) (see : Sight) (scope : Scope) (k : After Scope) (fs : List SFrame)
      → IsBlock (here code s.functions) (end_of code s.functions tail) see b c → Inside m vars s.functions see scope → SameEnd code m tail vars s.functions k fs
      → {vs ws : List Value} → Each (Same m) vs ws → Follows world code B (stays scope (on_value (λ after. block b after) k) (Goes vs)) h (moves.goes code (StatsNext c) ws fs s)
  goes-stats tail b c see scope k fs x i g es = here-now world code B r (runs tail b c see scope k fs x i g)

  pub goes-branch : (b : Block) (c : CBlock) (arms : Arms) (cs : CArms) (other : Option Block) (d : Option CBlock) (see : Sight) (scope : Scope) (k : After Scope) (fs : List SFrame)
      → IsBlock (here code s.functions) any_sight see b c → IsArms (here code s.functions) see arms cs → IsOther (here code s.functions) see other d → Inside m vars s.functions see scope → SameRest code m vars s.functions (stays scope k) fs
      → {vs ws : List Value} → Each (Same m) vs ws
      → Follows world code B (first_of (on_value (λ v. choose (is_true v) (meaning.within (block b) scope) (meaning.branches (branches_of arms) (other_of other) scope)) k) (Goes vs)) h (moves.goes code (BranchNext c cs d) ws fs s)
  goes-branch b c arms cs other d see scope k fs x y z i g es =
      parts.branches world code B _ _ _ _ (true-same (first-same es)) (λ _. within-on world code B r i k g b c x) (λ _. branches-on world code B r i k g arms cs other d y z)

  pub goes-return : (scope : Scope) (k : After Scope) (fs : List SFrame) → SameRest code m vars s.functions (stays scope k) fs
      → {vs ws : List Value} → Each (Same m) vs ws → Follows world code B (on_value (λ vs. jump {X = Scope} (Returned vs)) k (Goes vs)) h (moves.goes code ReturnNow ws fs s)
  goes-return scope k fs g es = passes-on world code B r g (returned _ _ es)

-- THE END OF A BLOCK, AND OF A BODY, with these functions in progress
module _ (world : World) (code : CWorld) (B : Base) {m : Map} {all : List Var} {h : State} (s : Slots) (r : Rel code B m all h s) where
  abbrev among : List Activation → Slots
  among fns = record s { functions = fns }

  pub ends-block : (vars : List Var) (fns : List Activation) (depth : ℕ) (scope : Scope) (k : After Scope) (fs : List SFrame) → Opens vars all → depth ≡ length vars → SameRest code m vars fns (stays scope k) fs
      → {see : Sight} {inner : Scope} → end_of code fns None see → Inside m all fns see inner → Follows world code B (on_value (λ _. give scope) k (Goes inner)) h (moves.goes code (BlockEnd depth) [] fs (among fns))
  ends-block vars fns depth scope k fs o q g x i = values-on world code B (rel-cut code vars depth o q (with-functions code fns r)) g none

  pub jumps-block : (vars : List Var) (fns : List Activation) (depth : ℕ) (scope : Scope) (k : After Scope) (fs : List SFrame) → Opens vars all → depth ≡ length vars → SameRest code m vars fns (stays scope k) fs
      → {j j' : Jump} → SameJump m j j' → Follows world code B (on_value {X = Scope} (λ _. give scope) k (Jumps j)) h (moves.passes (BlockEnd depth) j' fs (among fns))
  jumps-block vars fns depth scope k fs o q g x = passes-on world code B (rel-cut code vars depth o q (with-functions code fns r)) g x

  pub ends-body : (vars : List Var) (a : Activation) (fns : List Activation) (k : After (List Value)) (fs : List SFrame) → Opens vars all → a.base ≡ length vars → HeldFunction m a → SameRest code m vars fns k fs
      → {see : Sight} {inner : Scope} → end_of code (a ∷ fns) None see → Inside m all (a ∷ fns) see inner → Follows world code B (after_body (Goes inner) (leaving k)) h (moves.goes code BodyEnd [] fs (among (a ∷ fns)))
  ends-body vars a fns k fs o q d g x i = leaves _ _ _ (values-on world code B (with-functions code fns (rel-cut code vars a.base o q r)) g none)

  pub jumps-body : (vars : List Var) (a : Activation) (fns : List Activation) (k : After (List Value)) (fs : List SFrame) → Opens vars all → a.base ≡ length vars → HeldFunction m a → SameRest code m vars fns k fs
      → {j j' : Jump} → SameJump m j j' → Follows world code B (after_body (Jumps j) (leaving k)) h (moves.passes BodyEnd j' fs (among (a ∷ fns)))
  jumps-body vars a fns k fs o q d g (returned vs ws e) = leaves _ _ _ (values-on world code B (with-functions code fns (rel-cut code vars a.base o q r)) g e)
  jumps-body vars a fns k fs o q d g broke = leaves _ _ _ (passes-on world code B (with-functions code fns (rel-cut code vars a.base o q r)) g broke)
  jumps-body vars a fns k fs o q d g (raised v w e) = leaves _ _ _ (passes-on world code B (with-functions code fns (rel-cut code vars a.base o q r)) g (raised v w e))
