-- FLAT CODE OF STATEMENTS AND FUNCTIONS, as a relation to resolved code (manual 2.4). `away` is the place to which `break` leads.
use Rattle.std.specs.Prelude.{◌≡◌, ◌≤◌, ◌<◌, ℕ, ◌+◌, pos, Bool, true, false, List, [], ◌∷◌, length, reverse, Option, Some, None, slice_get}
use Rattle.lua_slots.specs.LuaHeapValue.{Number}
use Rattle.lua_slots.specs.LuaMeaningScope.{Bytes}
use Rattle.lua_slots.specs.Code.{Place, Reg, Box, Up, CExp, TableC, AndC, OrC, ParenC, CExps, NoC, MoreC, CTarget, PlaceC, GlobalTargetC, EntryC, RefusedC}
use Rattle.lua_slots.specs.Code.{CStat, AssignC, CallStatC, DoC, WhileC, RepeatC, IfC, IfElseC, CountC, CountByC, EachC, ReturnC, BreakC, CBlock, EndC, DeclareC, LocalFunctionC, ThenC, CArms, NoArmC, ArmC}
use Rattle.lua_slots.specs.Code.{CProto, CWorld}
use Rattle.lua_slots.specs.Calls.{code_of}
use Rattle.lua_flat.specs.Locals.{Local, PlainL, CellL, local_of, with_row}
use Rattle.lua_flat.specs.Operations.{Operand, RegisterO, ConstantO, Wanted, Exactly, Origin, FlatFunction, Codes}
use Rattle.lua_flat.specs.Operations.{PayF, LoadF, NamedF, OpenF, SetCellF, SetUpF, SetGlobalF, SetIndexF, JumpF, CountBeginsF, CountGoesOnF, EachCallsF, EachTestsF, ReturnF, RefuseF}
use Rattle.lua_flat.specs.IsExpression.{Has, HasAt, IsOrigins, IsOperand, IsValue, IsMany, IsRow, IsExact, IsTest}

-- an expression whose register is written by its last operation alone: it may be that of a variable that the expression reads
abbrev pub writes_last : CExp → Bool
writes_last (TableC fields line) = false
writes_last (AndC a b) = false
writes_last (OrC a b) = false
writes_last (ParenC a) = false
writes_last e = true

abbrev pub is_any : List Bool → Bool
is_any [] = false
is_any (true ∷ flags) = true
is_any (false ∷ flags) = is_any flags

-- A TARGET of an assignment (2.4.3), as an operation sets it
pub data FlatTarget : Type 0 where
  RegisterT : (register : ℕ) → FlatTarget
  CellT : (register : ℕ) → FlatTarget
  CapturedT : (number : ℕ) → FlatTarget
  GlobalT : (name line : ℕ) → FlatTarget
  EntryT : (of key : Operand) (line : ℕ) → FlatTarget

module _ (g : FlatFunction) where
  -- TWO WAYS COME TOGETHER at `end`, where nothing is owed
  pub data IsJoin : (c pc end : ℕ) → Type 0 where
    joined : {pc : ℕ} → IsJoin 0 pc pc
    by_jump : {c pc end : ℕ} → Has g pc c (JumpF end) → IsJoin c pc end
    by_pay : {c pc : ℕ} → Has g pc c PayF → IsJoin c pc (pc + 1)

  -- new variables in these registers: an operation where some have cells
  pub data IsOpening : (flags : List Bool) (at c pc c' pc' : ℕ) → Type 0 where
    no_cells : {flags : List Bool} {at c pc : ℕ} → is_any flags ≡ false → IsOpening flags at c pc c pc
    cells : {flags : List Bool} {at c pc : ℕ} → is_any flags ≡ true → Has g pc c (OpenF at flags) → IsOpening flags at c pc 0 (pc + 1)

  -- a target gets a value
  pub data IsSetting : (t : FlatTarget) (from : Operand) (c pc : ℕ) → Type 0 where
    set_register : {r c pc : ℕ} {from : Operand} → Has g pc c (LoadF r from) → IsSetting (RegisterT r) from c pc
    set_cell : {r c pc : ℕ} {from : Operand} → Has g pc c (SetCellF r from) → IsSetting (CellT r) from c pc
    set_captured : {i c pc : ℕ} {from : Operand} → Has g pc c (SetUpF i from) → IsSetting (CapturedT i) from c pc
    set_global : {x line c pc : ℕ} {from : Operand} → HasAt g pc c line (SetGlobalF x from) → IsSetting (GlobalT x line) from c pc
    set_entry : {of key from : Operand} {line c pc : ℕ} → HasAt g pc c line (SetIndexF of key from) → IsSetting (EntryT of key line) from c pc

  -- a target that needs no operation to be found
  pub data IsVariable (locals : List Local) : CTarget → FlatTarget → Type 0 where
    plain_variable : {i r : ℕ} → slice_get locals i ≡ Some (PlainL r) → IsVariable locals (PlaceC (Reg i)) (RegisterT r)
    celled_variable : {i r : ℕ} → slice_get locals i ≡ Some (CellL r) → IsVariable locals (PlaceC (Box i)) (CellT r)
    captured_variable : {i : ℕ} → IsVariable locals (PlaceC (Up i)) (CapturedT i)
    global_variable : {x line : ℕ} → IsVariable locals (GlobalTargetC x line) (GlobalT x line)

  -- TARGETS are found from left to right, each with its table and its key in registers of their own
  pub data IsTargets (locals : List Local) : (free : ℕ) (targets : List CTarget) (c : ℕ) (ts : List FlatTarget) (pc c' pc' free' : ℕ) → Type 0 where
    no_target : {free c pc : ℕ} → IsTargets locals free [] c [] pc c pc free
    to_variable : {free c pc c' pc' free' : ℕ} {target : CTarget} {t : FlatTarget} {targets : List CTarget} {ts : List FlatTarget} → IsVariable locals target t → IsTargets locals free targets c ts pc c' pc' free'
        → IsTargets locals free (target ∷ targets) c (t ∷ ts) pc c' pc' free'
    to_entry : {free c pc line pc1 pc2 c' pc' free' : ℕ} {of key : CExp} {targets : List CTarget} {ts : List FlatTarget} → free + 1 < g.registers → IsValue g locals false (free + 1) of (c + 1) free pc pc1
        → IsValue g locals false (free + 2) key 0 (free + 1) pc1 pc2 → IsTargets locals (free + 2) targets 0 ts pc2 c' pc' free'
        → IsTargets locals free (EntryC of key line ∷ targets) c (EntryT (RegisterO free) (RegisterO (free + 1)) line ∷ ts) pc c' pc' free'

  -- one of them can't be assigned to
  pub data IsRefused (locals : List Local) : (free : ℕ) (targets : List CTarget) (c pc pc' : ℕ) → Type 0 where
    refused : {free c pc : ℕ} {targets : List CTarget} → Has g pc c RefuseF → IsRefused locals free (RefusedC ∷ targets) c pc (pc + 1)
    behind_variable : {free c pc pc' : ℕ} {target : CTarget} {t : FlatTarget} {targets : List CTarget} → IsVariable locals target t → IsRefused locals free targets c pc pc' → IsRefused locals free (target ∷ targets) c pc pc'
    behind_entry : {free c pc line pc1 pc2 pc' : ℕ} {of key : CExp} {targets : List CTarget} → free + 1 < g.registers → IsValue g locals false (free + 1) of (c + 1) free pc pc1 → IsValue g locals false (free + 2) key 0 (free + 1) pc1 pc2
        → IsRefused locals (free + 2) targets 0 pc2 pc' → IsRefused locals free (EntryC of key line ∷ targets) c pc pc'

  -- and they are set from the last to the first: of these, given in that order, the next one has its value in the register `from` - 1
  pub data IsSets : (ts : List FlatTarget) (from c pc c' pc' : ℕ) → Type 0 where
    no_more : {from c pc : ℕ} → IsSets [] from c pc c pc
    one_set : {t : FlatTarget} {ts : List FlatTarget} {from c pc c' pc' : ℕ} → IsSetting t (RegisterO from) c pc → IsSets ts from 0 (pc + 1) c' pc' → IsSets (t ∷ ts) (from + 1) c pc c' pc'

  mutual
    -- A STATEMENT. Registers from `free` on may be written.
    pub data IsStat : (away : Option ℕ) (locals : List Local) (free : ℕ) (s : CStat) (c pc c' pc' : ℕ) → Type 0 where
      -- one target: a plain variable that an expression is made into; a variable, and an entry, with what is assigned as an operand
      assign_into : {away : Option ℕ} {locals : List Local} {free c pc i r pc' : ℕ} {e : CExp} → slice_get locals i ≡ Some (PlainL r) → writes_last e ≡ true → IsValue g locals false free e (c + 1) r pc pc'
          → IsStat away locals free (AssignC (PlaceC (Reg i) ∷ []) (MoreC e NoC)) c pc 0 pc'
      assign_variable : {away : Option ℕ} {locals : List Local} {free c pc c1 pc1 free1 : ℕ} {e : CExp} {o : Operand} {target : CTarget} {t : FlatTarget} → IsVariable locals target t → IsOperand g locals false free e (c + 1) o pc c1 pc1 free1 → IsSetting t o c1 pc1
          → IsStat away locals free (AssignC (target ∷ []) (MoreC e NoC)) c pc 0 (pc1 + 1)
      assign_entry : {away : Option ℕ} {locals : List Local} {free c pc line c1 pc1 free1 c2 pc2 free2 c3 pc3 free3 : ℕ} {of key e : CExp} {a b o : Operand} → IsOperand g locals false free of (c + 1 + 1) a pc c1 pc1 free1 → IsOperand g locals false free1 key c1 b pc1 c2 pc2 free2
          → IsOperand g locals false free2 e c2 o pc2 c3 pc3 free3 → HasAt g pc3 c3 line (SetIndexF a b o) → IsStat away locals free (AssignC (EntryC of key line ∷ []) (MoreC e NoC)) c pc 0 (pc3 + 1)
      -- several: the values stand in a row, and each target is set from the last to the first
      assign_many : {away : Option ℕ} {locals : List Local} {free c pc c1 pc1 free1 c2 pc2 c' pc' : ℕ} {targets : List CTarget} {ts : List FlatTarget} {es : CExps} → IsTargets locals free targets (c + 1) ts pc c1 pc1 free1 → free1 + length targets ≤ g.registers → IsExact g locals free1 es (length targets) c1 pc1 c2 pc2
          → IsSets (reverse ts) (free1 + length targets) c2 pc2 c' pc' → IsStat away locals free (AssignC targets es) c pc c' pc'
      assign_refused : {away : Option ℕ} {locals : List Local} {free c pc pc' : ℕ} {targets : List CTarget} {es : CExps} → IsRefused locals free targets (c + 1) pc pc' → IsStat away locals free (AssignC targets es) c pc 0 pc'
      call_alone : {away : Option ℕ} {locals : List Local} {free c pc pc' : ℕ} {e : CExp} → IsMany g locals free e (c + 1) free (Exactly 0) pc pc' → IsStat away locals free (CallStatC e) c pc 0 pc'
      value_alone : {away : Option ℕ} {locals : List Local} {free c pc pc' : ℕ} {e : CExp} → free < g.registers → IsValue g locals false (free + 1) e (c + 1) free pc pc' → IsStat away locals free (CallStatC e) c pc 0 pc'
      do_block : {away : Option ℕ} {locals locals' : List Local} {free free' c pc c' pc' : ℕ} {b : CBlock} → IsBlock away locals free b (c + 1) pc c' pc' locals' free' → IsStat away locals free (DoC b) c pc c' pc'
      while_loop : {away : Option ℕ} {locals locals' : List Local} {free free' c pc hit ch cb pe : ℕ} {test : CExp} {body : CBlock} → Has g pc (c + 1) PayF → IsTest g locals free test 0 (pc + 1) hit ch (pe + 1) 0 → IsBlock (Some (pe + 1)) locals free body (ch + 1) hit cb pe locals' free'
          → Has g pe cb (JumpF (pc + 1)) → IsStat away locals free (WhileC test body) c pc 0 (pe + 1)
      -- its test sees the variables of the body
      repeat_loop : {away : Option ℕ} {locals locals' : List Local} {free free' c pc cb pt end : ℕ} {test : CExp} {body : CBlock} → Has g pc (c + 1) PayF → IsBlock (Some end) locals free body 1 (pc + 1) cb pt locals' free' → IsTest g locals' free' test cb pt end 0 (pc + 1) 0
          → IsStat away locals free (RepeatC body test) c pc 0 end
      if_arms : {away : Option ℕ} {locals : List Local} {free c pc end : ℕ} {arms : CArms} → IsArms away locals free arms None (c + 1) pc end → IsStat away locals free (IfC arms) c pc 0 end
      if_else : {away : Option ℕ} {locals : List Local} {free c pc end : ℕ} {arms : CArms} {other : CBlock} → IsArms away locals free arms (Some other) (c + 1) pc end → IsStat away locals free (IfElseC arms other) c pc 0 end
      -- the index, the limit and the step stand in three registers, the variable behind them
      count_loop : {away : Option ℕ} {locals locals' : List Local} {free free' c pc pc1 pc2 line cb c3 p3 pe : ℕ} {from to : CExp} {boxed : Bool} {body : CBlock} → free + 3 < g.registers → IsValue g locals false (free + 1) from (c + 1) free pc pc1
          → IsValue g locals false (free + 2) to 0 (free + 1) pc1 pc2 → Has g pc2 0 (LoadF (free + 2) (ConstantO (Number (pos 1)))) → HasAt g (pc2 + 1) 0 line (CountBeginsF free (pe + 1))
          → IsOpening (boxed ∷ []) (free + 3) 1 (pc2 + 2) c3 p3 → IsBlock (Some (pe + 1)) (local_of boxed (free + 3) ∷ locals) (free + 4) body c3 p3 cb pe locals' free' → Has g pe cb (CountGoesOnF free (pc2 + 2))
          → IsStat away locals free (CountC boxed from to body line) c pc 0 (pe + 1)
      count_by_loop : {away : Option ℕ} {locals locals' : List Local} {free free' c pc pc1 pc2 pc3 line cb c3 p3 pe : ℕ} {from to by : CExp} {boxed : Bool} {body : CBlock} → free + 3 < g.registers → IsValue g locals false (free + 1) from (c + 1) free pc pc1
          → IsValue g locals false (free + 2) to 0 (free + 1) pc1 pc2 → IsValue g locals false (free + 3) by 0 (free + 2) pc2 pc3 → HasAt g pc3 0 line (CountBeginsF free (pe + 1))
          → IsOpening (boxed ∷ []) (free + 3) 1 (pc3 + 1) c3 p3 → IsBlock (Some (pe + 1)) (local_of boxed (free + 3) ∷ locals) (free + 4) body c3 p3 cb pe locals' free' → Has g pe cb (CountGoesOnF free (pc3 + 1))
          → IsStat away locals free (CountByC boxed from to by body line) c pc 0 (pe + 1)
      -- the iterator, the state and the value before stand in three registers, the variables behind them
      each_loop : {away : Option ℕ} {locals locals' : List Local} {free free' c pc c1 pc1 top line c3 p3 cb pe : ℕ} {flags : List Bool} {values : CExps} {body : CBlock} → 1 ≤ length flags → free + 2 + length flags < g.registers → IsExact g locals free values 3 (c + 1) pc c1 pc1 → IsJoin c1 pc1 top
          → HasAt g top 0 line (EachCallsF free (length flags)) → Has g (top + 1) 0 (EachTestsF free (pe + 1)) → IsOpening flags (free + 3) 1 (top + 2) c3 p3
          → IsBlock (Some (pe + 1)) (with_row (free + 3) flags locals) (free + 3 + length flags) body c3 p3 cb pe locals' free' → Has g pe cb (JumpF top) → IsStat away locals free (EachC flags values body line) c pc 0 (pe + 1)
      return_row : {away : Option ℕ} {locals : List Local} {free c pc c1 pc1 : ℕ} {values : CExps} {count : Wanted} → IsRow g locals free values (c + 1) pc c1 pc1 count → Has g pc1 c1 (ReturnF free count) → IsStat away locals free (ReturnC values) c pc 0 (pc1 + 1)
      return_one : {away : Option ℕ} {locals : List Local} {free c pc c1 pc1 free1 r : ℕ} {e : CExp} → IsOperand g locals true free e (c + 1) (RegisterO r) pc c1 pc1 free1 → Has g pc1 c1 (ReturnF r (Exactly 1)) → IsStat away locals free (ReturnC (MoreC e NoC)) c pc 0 (pc1 + 1)
      break_away : {away : Option ℕ} {locals : List Local} {free c pc target : ℕ} → away ≡ Some target → Has g pc (c + 1) (JumpF target) → IsStat away locals free BreakC c pc 0 (pc + 1)

    -- A BLOCK, with the registers of its variables at its end
    pub data IsBlock : (away : Option ℕ) (locals : List Local) (free : ℕ) (b : CBlock) (c pc c' pc' : ℕ) (locals' : List Local) (free' : ℕ) → Type 0 where
      block_end : {away : Option ℕ} {locals : List Local} {free c pc : ℕ} → IsBlock away locals free EndC c pc c pc locals free
      block_pays : {away : Option ℕ} {locals locals' : List Local} {free free' c pc c' pc' : ℕ} {b : CBlock} → Has g pc c PayF → IsBlock away locals free b 0 (pc + 1) c' pc' locals' free' → IsBlock away locals free b c pc c' pc' locals' free'
      block_declares : {away : Option ℕ} {locals locals' : List Local} {free free' c pc c1 pc1 c2 pc2 c' pc' : ℕ} {flags : List Bool} {values : CExps} {b : CBlock} → free + length flags ≤ g.registers → IsExact g locals free values (length flags) (c + 1) pc c1 pc1
          → IsOpening flags free c1 pc1 c2 pc2 → IsBlock away (with_row free flags locals) (free + length flags) b c2 pc2 c' pc' locals' free' → IsBlock away locals free (DeclareC flags values b) c pc c' pc' locals' free'
      block_names : {away : Option ℕ} {locals locals' : List Local} {free free' c pc c' pc' index : ℕ} {boxed : Bool} {places : List Place} {os : List Origin} {b : CBlock} → free < g.registers → IsOrigins (local_of boxed free ∷ locals) places os → Has g pc (c + 1) (NamedF boxed free index os)
          → IsBlock away (local_of boxed free ∷ locals) (free + 1) b 0 (pc + 1) c' pc' locals' free' → IsBlock away locals free (LocalFunctionC boxed index places b) c pc c' pc' locals' free'
      block_then : {away : Option ℕ} {locals locals' : List Local} {free free' c pc c1 pc1 c' pc' : ℕ} {s : CStat} {b : CBlock} → IsStat away locals free s c pc c1 pc1 → IsBlock away locals free b c1 pc1 c' pc' locals' free'
          → IsBlock away locals free (ThenC s b) c pc c' pc' locals' free'

    -- THE BRANCHES of an `if`, and the last block, if there is one
    pub data IsArms : (away : Option ℕ) (locals : List Local) (free : ℕ) (arms : CArms) (other : Option CBlock) (c pc end : ℕ) → Type 0 where
      arms_end : {away : Option ℕ} {locals : List Local} {free c pc end : ℕ} → IsJoin c pc end → IsArms away locals free NoArmC None c pc end
      arms_else : {away : Option ℕ} {locals locals' : List Local} {free free' c pc c1 pc1 end : ℕ} {b : CBlock} → IsBlock away locals free b c pc c1 pc1 locals' free' → IsJoin c1 pc1 end → IsArms away locals free NoArmC (Some b) c pc end
      arm_then : {away : Option ℕ} {locals locals' : List Local} {free free' c pc hit ch miss cm c1 pc1 end : ℕ} {test : CExp} {b : CBlock} {arms : CArms} {other : Option CBlock} → IsTest g locals free test c pc hit ch miss cm → IsBlock away locals free b ch hit c1 pc1 locals' free'
          → IsJoin c1 pc1 end → IsArms away locals free arms other cm miss end → IsArms away locals free (ArmC test b arms) other c pc end

-- A FUNCTION: its parameters are in the first registers, and at its end it returns nothing
pub record IsFlatFunction (p : CProto) (g : FlatFunction) : Type 0 where
  pub flags : g.flags ≡ p.flags
  pub dots : g.dots ≡ p.dots
  pub room : length g.flags ≤ g.registers
  pub owed : ℕ
  pub end : ℕ
  pub locals : List Local
  pub free : ℕ
  pub body : IsBlock g None (with_row 0 g.flags []) (length g.flags) p.body 0 0 owed end locals free
  pub returns : Has g end owed (ReturnF 0 (Exactly 0))

-- OF ALL MODULES: each function has flat code, and no other has
pub data IsFlatOption : Option CProto → Option FlatFunction → Type 0 where
  no_code : IsFlatOption None None
  flat_code : {p : CProto} {g : FlatFunction} → IsFlatFunction p g → IsFlatOption (Some p) (Some g)

abbrev pub IsFlat : CWorld → Codes → Type 0
IsFlat world codes = (title : Bytes) (index : ℕ) → IsFlatOption ((code_of (world.modules title)).function index) (codes title index)
