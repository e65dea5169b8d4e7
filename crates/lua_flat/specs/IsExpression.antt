-- FLAT CODE OF EXPRESSIONS, as a relation to resolved code (manual 2.5). Everywhere `c` is owed: the steps of nodes and turns that began
-- since the operation before, which the next operation pays. Registers from `free` on may be written. `locals` has the local variables of the
-- function that are open, the newest first.
use Rattle.std.specs.Prelude.{◌≡◌, ◌≤◌, ◌<◌, ℕ, ◌+◌, pos, Bool, true, false, List, [], ◌∷◌, Some, slice_get}
use Rattle.lua_slots.specs.LuaSyntaxDeclaredUnaryOp.{UnaryOp}
use Rattle.lua_slots.specs.LuaSyntaxDeclaredUnaryOpTheVariants as sign
use Rattle.lua_slots.specs.LuaHeapValue.{Value, Number, is_true}
use Rattle.lua_slots.specs.LuaMeaningOperators.{Operator, Concatenate, Calculate}
use Rattle.lua_slots.specs.Code.{Place, Reg, Box, Up, CExp, ConstantC, TextC, DotsC, FunctionC, LocalC, GlobalC, IndexC, CallC, MethodC, TableC, AndC, OrC, OperateC, UnaryC, ParenC}
use Rattle.lua_slots.specs.Code.{CExps, NoC, MoreC, CFields, NoFieldC, ItemC, PairC}
use Rattle.lua_flat.specs.Locals.{Local, PlainL, CellL}
use Rattle.lua_flat.specs.Operations.{Operand, RegisterO, ConstantO, TextO, Wanted, Exactly, Every, Origin, InRegister, InCaptured, FlatFunction}
use Rattle.lua_flat.specs.Operations.{Op, LoadF, NilsF, DotsF, ClosureF, GetCellF, GetUpF, GetGlobalF, IndexF, MethodF, TableF, SetFieldF, SetItemsF, OperateF, UnaryF, TestF, CompareF, CallF}

-- this operation stands there, at this charge; and at this line
abbrev pub Has : FlatFunction → ℕ → ℕ → Op → Type 0
Has g pc charge op = slice_get g.steps pc ≡ Some (record { charge = charge; op = op })

abbrev pub HasAt : FlatFunction → ℕ → ℕ → ℕ → Op → Type 0
HasAt g pc charge line op = Has g pc charge op × (slice_get g.lines pc ≡ Some line)

-- the operators whose value is a truth
abbrev pub is_comparison : Operator → Bool
is_comparison Concatenate = false
is_comparison (Calculate which) = false
is_comparison o = true

abbrev pub one_more : Wanted → Wanted
one_more (Exactly n) = Exactly (n + 1)
one_more Every = Every

abbrev pub is_last : CFields → Bool
is_last NoFieldC = true
is_last fields = false

-- WHAT IS READ WHERE IT STANDS: a plain variable, a constant and a text. It is owed a step, and needs no operation.
pub data IsThere (locals : List Local) : CExp → Operand → Type 0 where
  there_local : {i r : ℕ} → slice_get locals i ≡ Some (PlainL r) → IsThere locals (LocalC (Reg i)) (RegisterO r)
  there_constant : {v : Value} → IsThere locals (ConstantC v) (ConstantO v)
  there_text : {n : ℕ} → IsThere locals (TextC n) (TextO n)

-- WHERE CAPTURED CELLS COME FROM. A plain register has none.
pub data IsOrigins (locals : List Local) : List Place → List Origin → Type 0 where
  no_origin : IsOrigins locals [] []
  from_register : {i r : ℕ} {places : List Place} {os : List Origin} → slice_get locals i ≡ Some (CellL r) → IsOrigins locals places os → IsOrigins locals (Box i ∷ places) (InRegister r ∷ os)
  from_captured : {i : ℕ} {places : List Place} {os : List Origin} → IsOrigins locals places os → IsOrigins locals (Up i ∷ places) (InCaptured i ∷ os)
  from_nothing : {i : ℕ} {places : List Place} {os : List Origin} → IsOrigins locals places os → IsOrigins locals (Reg i ∷ places) os

module _ (g : FlatFunction) where
  mutual
    -- AN OPERAND: what is read where it stands, or a value that is made in a register of its own
    pub data IsOperand (locals : List Local) : (single : Bool) (free : ℕ) (e : CExp) (c : ℕ) (o : Operand) (pc c' pc' free' : ℕ) → Type 0 where
      in_place : {single : Bool} {free c pc : ℕ} {e : CExp} {o : Operand} → IsThere locals e o → IsOperand locals single free e c o pc (c + 1) pc free
      made : {single : Bool} {free c pc pc' : ℕ} {e : CExp} → free < g.registers → IsValue locals single (free + 1) e c free pc pc' → IsOperand locals single free e c (RegisterO free) pc 0 pc' (free + 1)

    -- A VALUE: from `pc` to `end` the first value of an expression comes to the register `to`; `single` where it has no others
    pub data IsValue (locals : List Local) : (single : Bool) (free : ℕ) (e : CExp) (c to pc end : ℕ) → Type 0 where
      loaded : {single : Bool} {free c to pc : ℕ} {e : CExp} {o : Operand} → IsThere locals e o → Has g pc (c + 1) (LoadF to o) → IsValue locals single free e c to pc (pc + 1)
      closure_of : {single : Bool} {free c to pc index : ℕ} {places : List Place} {os : List Origin} → IsOrigins locals places os → Has g pc (c + 1) (ClosureF to index os) → IsValue locals single free (FunctionC index places) c to pc (pc + 1)
      cell_of : {single : Bool} {free c to pc i r : ℕ} → slice_get locals i ≡ Some (CellL r) → Has g pc (c + 1) (GetCellF to r) → IsValue locals single free (LocalC (Box i)) c to pc (pc + 1)
      captured_of : {single : Bool} {free c to pc i : ℕ} → Has g pc (c + 1) (GetUpF to i) → IsValue locals single free (LocalC (Up i)) c to pc (pc + 1)
      global_of : {single : Bool} {free c to pc x line : ℕ} → HasAt g pc (c + 1) line (GetGlobalF to x) → IsValue locals single free (GlobalC x line) c to pc (pc + 1)
      index_of : {single : Bool} {free c to pc line c1 pc1 free1 c2 pc2 free2 : ℕ} {of key : CExp} {a b : Operand} → IsOperand locals false free of (c + 1) a pc c1 pc1 free1 → IsOperand locals false free1 key c1 b pc1 c2 pc2 free2
          → HasAt g pc2 c2 line (IndexF to a b) → IsValue locals single free (IndexC of key line) c to pc (pc2 + 1)
      operate_of : {single : Bool} {free c to pc line c1 pc1 free1 c2 pc2 free2 : ℕ} {op : Operator} {x y : CExp} {a b : Operand} → IsOperand locals false free x (c + 1) a pc c1 pc1 free1 → IsOperand locals false free1 y c1 b pc1 c2 pc2 free2
          → HasAt g pc2 c2 line (OperateF op to a b) → IsValue locals single free (OperateC op x y line) c to pc (pc2 + 1)
      unary_of : {single : Bool} {free c to pc line c1 pc1 free1 : ℕ} {op : UnaryOp} {x : CExp} {a : Operand} → IsOperand locals false free x (c + 1) a pc c1 pc1 free1
          → HasAt g pc1 c1 line (UnaryF op to a) → IsValue locals single free (UnaryC op x line) c to pc (pc1 + 1)
      -- the first operand stays where it decides
      and_of : {single : Bool} {free c to pc pc1 end : ℕ} {x y : CExp} → IsValue locals false free x (c + 1) to pc pc1 → Has g pc1 0 (TestF false (RegisterO to) end) → IsValue locals false free y 0 to (pc1 + 1) end
          → IsValue locals single free (AndC x y) c to pc end
      or_of : {single : Bool} {free c to pc pc1 end : ℕ} {x y : CExp} → IsValue locals false free x (c + 1) to pc pc1 → Has g pc1 0 (TestF true (RegisterO to) end) → IsValue locals false free y 0 to (pc1 + 1) end
          → IsValue locals single free (OrC x y) c to pc end
      paren_of : {single : Bool} {free c to pc end : ℕ} {x : CExp} → IsValue locals false free x (c + 1) to pc end → IsValue locals single free (ParenC x) c to pc end
      table_of : {single : Bool} {free c to pc line end : ℕ} {fields : CFields} → to < free → to < g.registers → Has g pc (c + 1) (TableF to) → IsFields locals free fields to 1 line (pc + 1) end → IsValue locals single free (TableC fields line) c to pc end
      first_of_many : {free c to pc end : ℕ} {e : CExp} → IsMany locals free e c to (Exactly 1) pc end → IsValue locals false free e c to pc end

    -- WHAT GIVES SEVERAL VALUES: a call, or `...`; so many of them come to registers from `to` on
    pub data IsMany (locals : List Local) : (free : ℕ) (e : CExp) (c to : ℕ) (wanted : Wanted) (pc end : ℕ) → Type 0 where
      dots_of : {free c to pc : ℕ} {wanted : Wanted} → Has g pc (c + 1) (DotsF to wanted) → IsMany locals free DotsC c to wanted pc (pc + 1)
      call_of : {free c to pc line pc1 c2 pc2 : ℕ} {wanted arguments : Wanted} {f : CExp} {es : CExps} → free < g.registers → IsValue locals false (free + 1) f (c + 1) free pc pc1
          → IsRow locals (free + 1) es 0 pc1 c2 pc2 arguments → HasAt g pc2 c2 line (CallF to free arguments wanted) → IsMany locals free (CallC f es line) c to wanted pc (pc2 + 1)
      method_of : {free c to pc x line c1 pc1 free1 c2 pc2 : ℕ} {wanted arguments : Wanted} {of : CExp} {o : Operand} {es : CExps} → free + 1 < g.registers → IsOperand locals false (free + 1) of (c + 1) o pc c1 pc1 free1
          → HasAt g pc1 c1 line (MethodF free o x) → IsRow locals (free + 2) es 0 (pc1 + 1) c2 pc2 arguments → HasAt g pc2 c2 line (CallF to free (one_more arguments) wanted)
          → IsMany locals free (MethodC of x es line) c to wanted pc (pc2 + 1)

    -- A LIST with all its values, in registers from r on
    pub data IsRow (locals : List Local) : (r : ℕ) (es : CExps) (c pc c' pc' : ℕ) (count : Wanted) → Type 0 where
      row_none : {r c pc : ℕ} → IsRow locals r NoC c pc c pc (Exactly 0)
      row_one : {r c pc pc' : ℕ} {e : CExp} → r < g.registers → IsValue locals true (r + 1) e c r pc pc' → IsRow locals r (MoreC e NoC) c pc 0 pc' (Exactly 1)
      row_many : {r c pc pc' : ℕ} {e : CExp} → r ≤ g.registers → IsMany locals r e c r Every pc pc' → IsRow locals r (MoreC e NoC) c pc 0 pc' Every
      row_more : {r c pc pc1 c' pc' : ℕ} {e e' : CExp} {es : CExps} {count : Wanted} → r < g.registers → IsValue locals false (r + 1) e c r pc pc1 → IsRow locals (r + 1) (MoreC e' es) 0 pc1 c' pc' count
          → IsRow locals r (MoreC e (MoreC e' es)) c pc c' pc' (one_more count)

    -- THE FIELDS of a constructor (2.5.7), the next item with place n
    pub data IsFields (locals : List Local) : (free : ℕ) (fields : CFields) (table n line pc end : ℕ) → Type 0 where
      fields_end : {free table n line pc : ℕ} → IsFields locals free NoFieldC table n line pc pc
      field_item : {free table n line pc c1 pc1 free1 end : ℕ} {e : CExp} {o : Operand} {more : CFields} → IsOperand locals (is_last more) free e 0 o pc c1 pc1 free1
          → HasAt g pc1 c1 line (SetFieldF table (ConstantO (Number (pos n))) o) → IsFields locals free more table (n + 1) line (pc1 + 1) end → IsFields locals free (ItemC e more) table n line pc end
      field_items : {free table n line pc pc1 : ℕ} {e : CExp} → IsMany locals free e 0 free Every pc pc1 → HasAt g pc1 0 line (SetItemsF table n free) → IsFields locals free (ItemC e NoFieldC) table n line pc (pc1 + 1)
      field_pair : {free table n line pc c1 pc1 free1 c2 pc2 free2 end : ℕ} {key e : CExp} {a b : Operand} {more : CFields} → IsOperand locals false free key 0 a pc c1 pc1 free1 → IsOperand locals false free1 e c1 b pc1 c2 pc2 free2
          → HasAt g pc2 c2 line (SetFieldF table a b) → IsFields locals free more table n line (pc2 + 1) end → IsFields locals free (PairC key e more) table n line pc end

  -- A LIST adjusted to n values (2.4.3), in registers from r on
  pub data IsExact (locals : List Local) : (r : ℕ) (es : CExps) (n c pc c' pc' : ℕ) → Type 0 where
    exact_none : {r c pc : ℕ} → IsExact locals r NoC 0 c pc c pc
    exact_nils : {r n c pc : ℕ} → Has g pc c (NilsF r n) → IsExact locals r NoC n c pc 0 (pc + 1)
    exact_one : {r c pc pc' : ℕ} {e : CExp} → r < g.registers → IsValue locals true (r + 1) e c r pc pc' → IsExact locals r (MoreC e NoC) 1 c pc 0 pc'
    exact_one_nils : {r n c pc pc1 : ℕ} {e : CExp} → r < g.registers → IsValue locals true (r + 1) e c r pc pc1 → Has g pc1 0 (NilsF (r + 1) n) → IsExact locals r (MoreC e NoC) (n + 1) c pc 0 (pc1 + 1)
    exact_dropped : {r c pc pc' : ℕ} {e : CExp} → r < g.registers → IsValue locals false (r + 1) e c r pc pc' → IsExact locals r (MoreC e NoC) 0 c pc 0 pc'
    exact_many : {r n c pc pc' : ℕ} {e : CExp} → r ≤ g.registers → IsMany locals r e c r (Exactly n) pc pc' → IsExact locals r (MoreC e NoC) n c pc 0 pc'
    exact_more : {r n c pc pc1 c' pc' : ℕ} {e e' : CExp} {es : CExps} → r < g.registers → IsValue locals false (r + 1) e c r pc pc1 → IsExact locals (r + 1) (MoreC e' es) n 0 pc1 c' pc'
        → IsExact locals r (MoreC e (MoreC e' es)) (n + 1) c pc c' pc'
    exact_skips : {r c pc pc1 c' pc' : ℕ} {e e' : CExp} {es : CExps} → r < g.registers → IsValue locals false (r + 1) e c r pc pc1 → IsExact locals r (MoreC e' es) 0 0 pc1 c' pc'
        → IsExact locals r (MoreC e (MoreC e' es)) 0 c pc c' pc'

  -- A TEST, which leads to one place or the other, each with what is owed there
  pub data IsTest (locals : List Local) : (free : ℕ) (e : CExp) (c pc : ℕ) (hit ch miss cm : ℕ) → Type 0 where
    test_true : {free c pc miss cm : ℕ} {v : Value} → is_true v ≡ true → IsTest locals free (ConstantC v) c pc pc (c + 1) miss cm
    test_miss : {free c pc c1 pc1 free1 miss : ℕ} {e : CExp} {o : Operand} → IsOperand locals false free e c o pc c1 pc1 free1 → Has g pc1 c1 (TestF false o miss) → IsTest locals free e c pc (pc1 + 1) 0 miss 0
    test_hit : {free c pc c1 pc1 free1 hit : ℕ} {e : CExp} {o : Operand} → IsOperand locals false free e c o pc c1 pc1 free1 → Has g pc1 c1 (TestF true o hit) → IsTest locals free e c pc hit 0 (pc1 + 1) 0
    compare_miss : {free c pc line c1 pc1 free1 c2 pc2 free2 miss : ℕ} {op : Operator} {x y : CExp} {a b : Operand} → is_comparison op ≡ true → IsOperand locals false free x (c + 1) a pc c1 pc1 free1 → IsOperand locals false free1 y c1 b pc1 c2 pc2 free2
        → HasAt g pc2 c2 line (CompareF op a b false miss) → IsTest locals free (OperateC op x y line) c pc (pc2 + 1) 0 miss 0
    compare_hit : {free c pc line c1 pc1 free1 c2 pc2 free2 hit : ℕ} {op : Operator} {x y : CExp} {a b : Operand} → is_comparison op ≡ true → IsOperand locals false free x (c + 1) a pc c1 pc1 free1 → IsOperand locals false free1 y c1 b pc1 c2 pc2 free2
        → HasAt g pc2 c2 line (CompareF op a b true hit) → IsTest locals free (OperateC op x y line) c pc hit 0 (pc2 + 1) 0
    test_and : {free c pc mid cd hit ch miss cm : ℕ} {x y : CExp} → IsTest locals free x (c + 1) pc mid cd miss cm → IsTest locals free y cd mid hit ch miss cm → IsTest locals free (AndC x y) c pc hit ch miss cm
    test_or : {free c pc mid cd hit ch miss cm : ℕ} {x y : CExp} → IsTest locals free x (c + 1) pc hit ch mid cd → IsTest locals free y cd mid hit ch miss cm → IsTest locals free (OrC x y) c pc hit ch miss cm
    test_not : {free c pc hit ch miss cm line : ℕ} {x : CExp} → IsTest locals free x (c + 1) pc miss cm hit ch → IsTest locals free (UnaryC sign.Not x line) c pc hit ch miss cm
    test_paren : {free c pc hit ch miss cm : ℕ} {x : CExp} → IsTest locals free x (c + 1) pc hit ch miss cm → IsTest locals free (ParenC x) c pc hit ch miss cm
