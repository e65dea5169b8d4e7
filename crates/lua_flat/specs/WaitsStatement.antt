-- WHAT WAITS BETWEEN STATEMENTS: code that goes on from a place, with what is owed there, does what these frames of the machine over trees
-- do. One constructor for each frame.
use Rattle.std.specs.Prelude.{◌≡◌, ◌≤◌, ◌<◌, ℕ, ◌+◌, ℤ, pos, Bool, false, List, [], ◌∷◌, ◌++◌, length, reverse, Option, Some, None, slice_get}
use Rattle.lua_slots.specs.LuaHeapValue.{Value, Number}
use Rattle.lua_slots.specs.Code.{Reg, Box, Up, Constants, CExp, CExps, NoC, MoreC, CTarget, CBlock, CArms}
use Rattle.lua_slots.specs.Points.{STarget, PlaceS, GlobalS, EntryS, SFrame, TargetKey, TargetNow, AssignNow, SetsNext, DeclareNow, StatsNext, BranchNext, BlockEnd, BodyEnd, WhileTest, WhileEnd, TestNext, TestNow, CountFrom, CountTo, CountBy, CountEnd, EachValues, EachNext, EachEnd, ReturnNow}
use Rattle.lua_flat.specs.Locals.{Local, PlainL, CellL, local_of, with_row}
use Rattle.lua_flat.specs.Operations.{Operand, RegisterO, ConstantO, Wanted, Exactly, FlatFunction}
use Rattle.lua_flat.specs.Operations.{LoadF, SetIndexF, JumpF, CountBeginsF, CountGoesOnF, EachCallsF, EachTestsF, ReturnF}
use Rattle.lua_flat.specs.IsExpression.{Has, HasAt, IsOperand, IsValue, IsExact, IsTest}
use Rattle.lua_flat.specs.IsStatement.{FlatTarget, RegisterT, CellT, CapturedT, GlobalT, EntryT, IsJoin, IsOpening, IsTargets, IsRefused, IsSets, IsBlock, IsArms}
use Rattle.lua_flat.specs.Keeps.{Keeps, IsBelow, AllAbove, Tidy}

-- THE VARIABLES that are left where a block ends are among so many
abbrev pub Leaves : ℕ → List SFrame → Type 0
Leaves n (BlockEnd d ∷ fs) = d ≤ n
Leaves n (WhileEnd d test body ∷ fs) = d ≤ n
Leaves n (TestNext test d body ∷ fs) = d ≤ n
Leaves n (CountEnd d boxed index limit step body ∷ fs) = d ≤ n
Leaves n (EachEnd d flags f state before body line ∷ fs) = d ≤ n
Leaves n fs = Unit {0}

module _ (cs : Constants) (g : FlatFunction) where
  -- TARGETS that were found, with the tables and keys that are kept for them
  pub data IsFound (locals : List Local) : STarget → FlatTarget → Keeps → Type 0 where
    found_plain : {i r : ℕ} → slice_get locals i ≡ Some (PlainL r) → IsFound locals (PlaceS (Reg i)) (RegisterT r) []
    found_celled : {i r : ℕ} → slice_get locals i ≡ Some (CellL r) → IsFound locals (PlaceS (Box i)) (CellT r) []
    found_captured : {i : ℕ} → IsFound locals (PlaceS (Up i)) (CapturedT i) []
    found_global : {x line : ℕ} → IsFound locals (GlobalS (cs x) line) (GlobalT x line) []
    found_entry : {of key : Value} {a b : Operand} {line : ℕ} → IsFound locals (EntryS of key line) (EntryT a b line) ((b, key) ∷ (a, of) ∷ [])

  -- the last one found stands in front
  pub data AreFound (locals : List Local) : List STarget → List FlatTarget → Keeps → Type 0 where
    none_found : AreFound locals [] [] []
    one_found : {t : STarget} {ts : List STarget} {u : FlatTarget} {us : List FlatTarget} {k keeps : Keeps} → AreFound locals ts us keeps → IsFound locals t u k → AreFound locals (ts ++ t ∷ []) (us ++ u ∷ []) (k ++ keeps)

  -- what is still to be set, in order: each value in its register, from the last one down
  pub data AreSet (locals : List Local) (r : ℕ) : List (STarget × Value) → List FlatTarget → Keeps → Type 0 where
    none_set : AreSet locals r [] [] []
    one_set : {t : STarget} {v : Value} {ps : List (STarget × Value)} {u : FlatTarget} {us : List FlatTarget} {k keeps : Keeps} → IsFound locals t u k → AreSet locals r ps us keeps
        → AreSet locals r ((t, v) ∷ ps) (u ∷ us) ((RegisterO (r + length us), v) ∷ k ++ keeps)

  -- the rest of an assignment, once these targets are found
  pub record IsAssigning (locals : List Local) (free : ℕ) (found : List FlatTarget) (more : List CTarget) (values : CExps) (c pc c' pc' : ℕ) : Type 0 where
    pub targets : List FlatTarget
    pub owed : ℕ
    pub place : ℕ
    pub row : ℕ
    pub finds : IsTargets g locals free more c targets pc owed place row
    pub room : row + length (found ++ targets) ≤ g.registers
    pub owed_then : ℕ
    pub place_then : ℕ
    pub lists : IsExact g locals row values (length (found ++ targets)) owed place owed_then place_then
    pub sets : IsSets g (reverse (found ++ targets)) (row + length (found ++ targets)) owed_then place_then c' pc'

  -- LOOPS, by their code
  pub record IsWhile (locals : List Local) (free : ℕ) (test : CExp) (body : CBlock) (top hit ch end : ℕ) : Type 0 where
    pub owed : ℕ
    pub back : ℕ
    pub inner : List Local
    pub behind : ℕ
    pub tests : IsTest g locals free test 0 top hit ch end 0
    pub inside : IsBlock g (Some end) locals free body (ch + 1) hit owed back inner behind
    pub jumps : Has g back owed (JumpF top)

  pub record IsRepeat (locals : List Local) (free : ℕ) (body : CBlock) (test : CExp) (top end : ℕ) : Type 0 where
    pub owed : ℕ
    pub then_tests : ℕ
    pub inner : List Local
    pub behind : ℕ
    pub inside : IsBlock g (Some end) locals free body 1 top owed then_tests inner behind
    pub tests : IsTest g inner behind test owed then_tests end 0 top 0

  pub record IsCount (locals : List Local) (base : ℕ) (boxed : Bool) (body : CBlock) (top end : ℕ) : Type 0 where
    pub room : base + 3 < g.registers
    pub owed : ℕ
    pub begins : ℕ
    pub opening : IsOpening g (boxed ∷ []) (base + 3) 1 top owed begins
    pub owed_then : ℕ
    pub back : ℕ
    pub inner : List Local
    pub behind : ℕ
    pub inside : IsBlock g (Some end) (local_of boxed (base + 3) ∷ locals) (base + 4) body owed begins owed_then back inner behind
    pub goes_on : Has g back owed_then (CountGoesOnF base top)
    pub ends : end ≡ back + 1

  pub record IsEach (locals : List Local) (base : ℕ) (flags : List Bool) (body : CBlock) (line top end : ℕ) : Type 0 where
    pub some : 1 ≤ length flags
    pub room : base + 2 + length flags < g.registers
    pub calls : HasAt g top 0 line (EachCallsF base (length flags))
    pub tests : Has g (top + 1) 0 (EachTestsF base end)
    pub owed : ℕ
    pub begins : ℕ
    pub opening : IsOpening g flags (base + 3) 1 (top + 2) owed begins
    pub owed_then : ℕ
    pub back : ℕ
    pub inner : List Local
    pub behind : ℕ
    pub inside : IsBlock g (Some end) (with_row (base + 3) flags locals) (base + 3 + length flags) body owed begins owed_then back inner behind
    pub jumps : Has g back owed_then (JumpF top)

  -- counting, behind the limit
  pub data IsCounting (locals : List Local) (base : ℕ) (boxed : Bool) : (by : Option CExp) (body : CBlock) (line pc end : ℕ) → Type 0 where
    by_one : {body : CBlock} {line pc end : ℕ} → Has g pc 0 (LoadF (base + 2) (ConstantO (Number (pos 1)))) → HasAt g (pc + 1) 0 line (CountBeginsF base end) → IsCount locals base boxed body (pc + 2) end → IsCounting locals base boxed None body line pc end
    by_step : {by : CExp} {body : CBlock} {line pc pc1 end : ℕ} → IsValue g locals false (base + 3) by 0 (base + 2) pc pc1 → HasAt g pc1 0 line (CountBeginsF base end) → IsCount locals base boxed body (pc1 + 1) end → IsCounting locals base boxed (Some by) body line pc end

  -- IN ONE FUNCTION, which has so many registers of others under its own, and beneath whose end these frames wait
  module _ (under : ℕ) (beneath : List SFrame) where
    mutual
      -- A STATEMENT'S END: what it gives does not matter
      pub data Resumes : (away : Option ℕ) (locals : List Local) (low : ℕ) (keeps : Keeps) (pc c : ℕ) (fs : List SFrame) → Type 0 where
        resume_jump : {away : Option ℕ} {locals : List Local} {low : ℕ} {keeps : Keeps} {pc c end : ℕ} {fs : List SFrame} → IsJoin g c pc end → Resumes away locals low keeps end 0 fs → Resumes away locals low keeps pc c fs
        resume_stats : {away : Option ℕ} {locals inner : List Local} {low : ℕ} {keeps : Keeps} {pc c c' pc' free' : ℕ} {b : CBlock} {fs : List SFrame} → Tidy low locals keeps → Leaves (length locals + under) fs → IsBlock g away locals low b c pc c' pc' inner free'
            → Finishes away inner free' keeps pc' c' fs → Resumes away locals low keeps pc c (StatsNext b ∷ fs)
        resume_sets : {away : Option ℕ} {locals : List Local} {low low' r : ℕ} {k keeps : Keeps} {pc c c' pc' : ℕ} {ps : List (STarget × Value)} {us : List FlatTarget} {fs : List SFrame} → low' ≤ low → Tidy low' locals keeps → AllAbove low' k → AreSet locals r ps us k
            → IsSets g us (r + length us) c pc c' pc' → Resumes away locals low' keeps pc' c' fs → Resumes away locals low (k ++ keeps) pc c (SetsNext ps ∷ fs)

      -- A BLOCK'S END, with these variables
      pub data Finishes : (away : Option ℕ) (locals : List Local) (low : ℕ) (keeps : Keeps) (pc c : ℕ) (fs : List SFrame) → Type 0 where
        finish_block : {away : Option ℕ} {locals : List Local} (inner : List Local) {low low' d : ℕ} {keeps : Keeps} {pc c : ℕ} {fs : List SFrame} → d ≡ length locals + under → low' ≤ low → Tidy low' locals keeps → Resumes away locals low' keeps pc c fs
            → Finishes away (inner ++ locals) low keeps pc c (BlockEnd d ∷ fs)
        finish_body : {locals : List Local} {low : ℕ} {keeps : Keeps} {pc c : ℕ} → Has g pc c (ReturnF 0 (Exactly 0)) → Finishes None locals low keeps pc c (BodyEnd ∷ beneath)
        finish_while : {away : Option ℕ} {locals : List Local} (inner : List Local) {low low' d : ℕ} {keeps : Keeps} {pc c top hit ch end : ℕ} {test : CExp} {body : CBlock} {fs : List SFrame} → d ≡ length locals + under → low' ≤ low → Tidy low' locals keeps
            → IsWhile locals low' test body top hit ch end → Has g pc c (JumpF top) → Resumes away locals low' keeps end 0 fs → Finishes (Some end) (inner ++ locals) low keeps pc c (WhileEnd d test body ∷ fs)
        finish_repeat : {away : Option ℕ} {locals : List Local} (inner : List Local) {low low' d : ℕ} {keeps : Keeps} {pc c top end : ℕ} {test : CExp} {body : CBlock} {fs : List SFrame} → d ≡ length locals + under → low' ≤ low → Tidy low' locals keeps
            → IsRepeat locals low' body test top end → IsTest g (inner ++ locals) low test c pc end 0 top 0 → Resumes away locals low' keeps end 0 fs → Finishes (Some end) (inner ++ locals) low keeps pc c (TestNext test d body ∷ fs)
        finish_count : {away : Option ℕ} {locals : List Local} (inner : List Local) {low low' d : ℕ} {keeps : Keeps} {pc c base top end : ℕ} {boxed : Bool} {index limit step : ℤ} {body : CBlock} {fs : List SFrame} → d ≡ length locals + under → low' ≤ base → base + 3 ≤ low → Tidy low' locals keeps
            → IsCount locals base boxed body top end → Has g pc c (CountGoesOnF base top) → end ≡ pc + 1 → Resumes away locals low' keeps end 0 fs
            → Finishes (Some end) (inner ++ locals) low ((RegisterO base, Number index) ∷ (RegisterO (base + 1), Number limit) ∷ (RegisterO (base + 2), Number step) ∷ keeps) pc c (CountEnd d boxed index limit step body ∷ fs)
        finish_each : {away : Option ℕ} {locals : List Local} (inner : List Local) {low low' d : ℕ} {keeps : Keeps} {pc c base line top end : ℕ} {flags : List Bool} {f state before : Value} {body : CBlock} {fs : List SFrame} → d ≡ length locals + under → low' ≤ base → base + 3 ≤ low → Tidy low' locals keeps
            → IsEach locals base flags body line top end → Has g pc c (JumpF top) → Resumes away locals low' keeps end 0 fs
            → Finishes (Some end) (inner ++ locals) low ((RegisterO base, f) ∷ (RegisterO (base + 1), state) ∷ (RegisterO (base + 2), before) ∷ keeps) pc c (EachEnd d flags f state before body line ∷ fs)
        -- back at its top, where the iterator is called
        finish_each_top : {away : Option ℕ} {locals : List Local} (inner : List Local) {low low' d : ℕ} {keeps : Keeps} {base line top end : ℕ} {flags : List Bool} {f state before : Value} {body : CBlock} {fs : List SFrame} → d ≡ length locals + under → low' ≤ base → base + 3 ≤ low → Tidy low' locals keeps
            → IsEach locals base flags body line top end → Resumes away locals low' keeps end 0 fs
            → Finishes (Some end) (inner ++ locals) low ((RegisterO base, f) ∷ (RegisterO (base + 1), state) ∷ (RegisterO (base + 2), before) ∷ keeps) top 0 (EachEnd d flags f state before body line ∷ fs)

    -- A TRUTH that a statement takes: code at `hit` does what these frames do with a true value, and code at `miss` what they do with a false one
    pub data StatTakes : (locals : List Local) (low : ℕ) (keeps : Keeps) (hit ch miss cm : ℕ) (fs : List SFrame) → Type 0 where
      take_branch : {away : Option ℕ} {locals inner : List Local} {low : ℕ} {keeps : Keeps} {hit ch miss cm free' c' pc' end : ℕ} {b : CBlock} {arms : CArms} {other : Option CBlock} {fs : List SFrame} → Tidy low locals keeps → IsBlock g away locals low b ch hit c' pc' inner free'
          → IsJoin g c' pc' end → IsArms g away locals low arms other cm miss end → Resumes away locals low keeps end 0 fs → StatTakes locals low keeps hit ch miss cm (BranchNext b arms other ∷ fs)
      take_while : {away : Option ℕ} {locals : List Local} {low : ℕ} {keeps : Keeps} {top hit ch end : ℕ} {test : CExp} {body : CBlock} {fs : List SFrame} → Tidy low locals keeps → IsWhile locals low test body top hit ch end → Resumes away locals low keeps end 0 fs
          → StatTakes locals low keeps hit ch end 0 (WhileTest test body ∷ fs)
      take_repeat : {away : Option ℕ} {locals : List Local} (inner : List Local) {low low' d : ℕ} {keeps : Keeps} {top end : ℕ} {test : CExp} {body : CBlock} {fs : List SFrame} → d ≡ length locals + under → low' ≤ low → Tidy low' locals keeps → IsRepeat locals low' body test top end
          → Resumes away locals low' keeps end 0 fs → StatTakes (inner ++ locals) low keeps end 0 top 0 (TestNow test d body ∷ fs)

    -- A VALUE that a statement takes, where operand o reads it
    pub data StatWaits : (locals : List Local) (low : ℕ) (keeps : Keeps) (pc c : ℕ) (o : Operand) (fs : List SFrame) → Type 0 where
      -- an assignment to one entry: its key and its value follow; its value does
      wait_only_key : {away : Option ℕ} {locals : List Local} {low : ℕ} {keeps : Keeps} {pc c free line c1 pc1 free1 c2 pc2 free2 : ℕ} {key e : CExp} {a b o : Operand} {fs : List SFrame} → Tidy low locals keeps → low ≤ free → IsBelow free a → IsOperand g locals false free key c b pc c1 pc1 free1
          → IsOperand g locals false free1 e c1 o pc1 c2 pc2 free2 → HasAt g pc2 c2 line (SetIndexF a b o) → Resumes away locals low keeps (pc2 + 1) 0 fs → StatWaits locals low keeps pc c a (TargetKey key line [] [] (MoreC e NoC) ∷ fs)
      wait_only_value : {away : Option ℕ} {locals : List Local} {low low' : ℕ} {keeps : Keeps} {pc c free line c2 pc2 free2 : ℕ} {e : CExp} {a b o : Operand} {of : Value} {fs : List SFrame} → low' ≤ low → Tidy low' locals keeps → low ≤ free → IsBelow free b
          → IsOperand g locals false free e c o pc c2 pc2 free2 → HasAt g pc2 c2 line (SetIndexF a b o) → Resumes away locals low' keeps (pc2 + 1) 0 fs → StatWaits locals low ((a, of) ∷ keeps) pc c b (TargetNow of line [] [] (MoreC e NoC) ∷ fs)
      -- one of several targets
      wait_target_key : {away : Option ℕ} {locals : List Local} {low low' : ℕ} {k keeps : Keeps} {pc q line pc1 c' pc' : ℕ} {key : CExp} {before : List STarget} {us : List FlatTarget} {more : List CTarget} {values : CExps} {fs : List SFrame} → low' ≤ low → low ≤ q → q + 1 < g.registers → Tidy low' locals keeps → AllAbove low' k → AreFound locals before us k
          → IsValue g locals false (q + 2) key 0 (q + 1) pc pc1 → IsAssigning locals (q + 2) (us ++ EntryT (RegisterO q) (RegisterO (q + 1)) line ∷ []) more values 0 pc1 c' pc' → Resumes away locals low' keeps pc' c' fs
          → StatWaits locals low (k ++ keeps) pc 0 (RegisterO q) (TargetKey key line more before values ∷ fs)
      wait_target_now : {away : Option ℕ} {locals : List Local} {low low' : ℕ} {k keeps : Keeps} {pc q line c' pc' : ℕ} {of : Value} {before : List STarget} {us : List FlatTarget} {more : List CTarget} {values : CExps} {fs : List SFrame} → low' ≤ q → q < low → low ≤ q + 1 → q + 1 < g.registers → Tidy low' locals keeps → AllAbove low' k → AreFound locals before us k
          → IsAssigning locals (q + 2) (us ++ EntryT (RegisterO q) (RegisterO (q + 1)) line ∷ []) more values 0 pc c' pc' → Resumes away locals low' keeps pc' c' fs
          → StatWaits locals low ((RegisterO q, of) ∷ k ++ keeps) pc 0 (RegisterO (q + 1)) (TargetNow of line more before values ∷ fs)
      -- one in front of a target that can't be assigned to
      wait_refused_key : {away : Option ℕ} {locals there : List Local} {low low' : ℕ} {keeps kept : Keeps} {pc q line pc1 c' pc' : ℕ} {key : CExp} {before : List STarget} {more : List CTarget} {values : CExps} {fs : List SFrame} → low ≤ q → q + 1 < g.registers → IsValue g locals false (q + 2) key 0 (q + 1) pc pc1
          → IsRefused g locals (q + 2) more 0 pc1 pc' → Resumes away there low' kept pc' c' fs → StatWaits locals low keeps pc 0 (RegisterO q) (TargetKey key line more before values ∷ fs)
      wait_refused_now : {away : Option ℕ} {locals there : List Local} {low low' : ℕ} {keeps kept : Keeps} {pc line c' pc' : ℕ} {of : Value} {before : List STarget} {more : List CTarget} {values : CExps} {fs : List SFrame} (q : ℕ) → low ≤ q + 2
          → IsRefused g locals (q + 2) more 0 pc pc' → Resumes away there low' kept pc' c' fs → StatWaits locals low keeps pc 0 (RegisterO (q + 1)) (TargetNow of line more before values ∷ fs)
      -- an expression alone, whose value does not matter
      wait_alone : {away : Option ℕ} {locals : List Local} {low : ℕ} {keeps : Keeps} {pc c : ℕ} {o : Operand} {fs : List SFrame} → Resumes away locals low keeps pc c fs → StatWaits locals low keeps pc c o fs
      -- the numbers of a counting loop
      wait_count_from : {away : Option ℕ} {locals : List Local} {low : ℕ} {keeps : Keeps} {pc base pc1 line end : ℕ} {to : CExp} {boxed : Bool} {by : Option CExp} {body : CBlock} {fs : List SFrame} → low ≤ base → Tidy low locals keeps → IsValue g locals false (base + 2) to 0 (base + 1) pc pc1
          → IsCounting locals base boxed by body line pc1 end → Resumes away locals low keeps end 0 fs → StatWaits locals low keeps pc 0 (RegisterO base) (CountFrom boxed to by body line ∷ fs)
      wait_count_to : {away : Option ℕ} {locals : List Local} {low low' : ℕ} {keeps : Keeps} {pc base line end : ℕ} {from : Value} {boxed : Bool} {by : Option CExp} {body : CBlock} {fs : List SFrame} → low' ≤ base → base < low → Tidy low' locals keeps
          → IsCounting locals base boxed by body line pc end → Resumes away locals low' keeps end 0 fs → StatWaits locals low ((RegisterO base, from) ∷ keeps) pc 0 (RegisterO (base + 1)) (CountTo boxed from by body line ∷ fs)
      wait_count_loaded : {away : Option ℕ} {locals : List Local} {low low' : ℕ} {keeps : Keeps} {pc base line end : ℕ} {from : Value} {boxed : Bool} {body : CBlock} {fs : List SFrame} → low' ≤ base → base + 2 < low → Tidy low' locals keeps → HasAt g pc 0 line (CountBeginsF base end)
          → IsCount locals base boxed body (pc + 1) end → Resumes away locals low' keeps end 0 fs
          → StatWaits locals low ((RegisterO (base + 2), Number (pos 1)) ∷ (RegisterO base, from) ∷ keeps) pc 0 (RegisterO (base + 1)) (CountTo boxed from None body line ∷ fs)
      wait_count_by : {away : Option ℕ} {locals : List Local} {low low' : ℕ} {keeps : Keeps} {pc base line end : ℕ} {from to : Value} {boxed : Bool} {body : CBlock} {fs : List SFrame} → low' ≤ base → base + 1 < low → Tidy low' locals keeps → HasAt g pc 0 line (CountBeginsF base end)
          → IsCount locals base boxed body (pc + 1) end → Resumes away locals low' keeps end 0 fs
          → StatWaits locals low ((RegisterO (base + 1), to) ∷ (RegisterO base, from) ∷ keeps) pc 0 (RegisterO (base + 2)) (CountBy boxed from to body line ∷ fs)

    -- A LIST that a `return` takes with all its values, in registers from r on
    pub data StatRow : (locals : List Local) (low : ℕ) (keeps : Keeps) (pc c r : ℕ) (count : Wanted) (fs : List SFrame) → Type 0 where
      row_return : {away : Option ℕ} {locals : List Local} {low : ℕ} {keeps : Keeps} {pc c r : ℕ} {count : Wanted} {fs : List SFrame} → Has g pc c (ReturnF r count) → Resumes away locals low keeps (pc + 1) 0 fs → StatRow locals low keeps pc c r count (ReturnNow ∷ fs)

    -- A LIST that a statement takes adjusted to n values, in registers from r on
    pub data StatExact : (locals : List Local) (low : ℕ) (keeps : Keeps) (pc c r n : ℕ) (fs : List SFrame) → Type 0 where
      exact_declare : {away : Option ℕ} {locals inner : List Local} {low : ℕ} {keeps : Keeps} {pc c r c1 pc1 c' pc' free' : ℕ} {flags : List Bool} {b : CBlock} {fs : List SFrame} → low ≤ r → r + length flags ≤ g.registers → Tidy low locals keeps → Leaves (length locals + under) fs → IsOpening g flags r c pc c1 pc1
          → IsBlock g away (with_row r flags locals) (r + length flags) b c1 pc1 c' pc' inner free' → Finishes away inner free' keeps pc' c' fs → StatExact locals low keeps pc c r (length flags) (DeclareNow flags b ∷ fs)
      exact_assign : {away : Option ℕ} {locals : List Local} {low low' : ℕ} {k keeps : Keeps} {pc c r c' pc' : ℕ} {ts : List STarget} {us : List FlatTarget} {fs : List SFrame} → low' ≤ low → low ≤ r → r + length us ≤ g.registers → Tidy low' locals keeps → AllAbove low' k → AreFound locals ts us k
          → IsSets g (reverse us) (r + length us) c pc c' pc' → Resumes away locals low' keeps pc' c' fs → StatExact locals low (k ++ keeps) pc c r (length us) (AssignNow ts ∷ fs)
      exact_each : {away : Option ℕ} {locals : List Local} {low : ℕ} {keeps : Keeps} {pc c base line top end : ℕ} {flags : List Bool} {body : CBlock} {fs : List SFrame} → low ≤ base → Tidy low locals keeps → IsJoin g c pc top → IsEach locals base flags body line top end
          → Resumes away locals low keeps end 0 fs → StatExact locals low keeps pc c base 3 (EachValues flags body line ∷ fs)
      exact_next : {away : Option ℕ} {locals : List Local} {low low' : ℕ} {keeps : Keeps} {pc base line top end : ℕ} {f state : Value} {flags : List Bool} {body : CBlock} {fs : List SFrame} → low' ≤ base → base + 3 ≤ low → Tidy low' locals keeps → IsEach locals base flags body line top end → pc ≡ top + 1
          → Resumes away locals low' keeps end 0 fs → StatExact locals low ((RegisterO base, f) ∷ (RegisterO (base + 1), state) ∷ keeps) pc 0 (base + 3) (length flags) (EachNext flags f state body line ∷ fs)
