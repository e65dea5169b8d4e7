-- WHERE AN EXPRESSION BEGINS: down its code to the operation that stands there.
use Rattle.std.proofs.Common.{◌≡◌, ℕ, ◌+◌, ◌≤◌, ◌<◌, Bool, true, false, List, [], ◌∷◌, Option, Some, refl, sym, ap, subst, arith}
use Rattle.std.specs.Prelude.{◌++◌, length, slice_get}
use Rattle.lua_goes.specs.PageRunOutcome.{Goes}
use Rattle.lua_goes.specs.LuaHeapProc.{Proc}
use Rattle.lua_goes.specs.LuaHeapValue.{Value, Text, Table}
use Rattle.lua_goes.specs.LuaSyntaxDeclaredUnaryOp.{UnaryOp}
use Rattle.lua_flat.specs.LuaMeaningOperators.{Operator}
use Rattle.lua_goes.specs.LuaMeaningValues.{first}
use Rattle.lua_flat.specs.LuaMeaningCharges.{table_charge, closure_charge}
use Rattle.lua_goes.specs.LuaHeapHeap.{new_table}
use Rattle.lua_goes.specs.LuaSlotsCode.{Place, Box, Up, Constants, CExp, CExps, CFields, DotsC, IndexC, FunctionC, LocalC, GlobalC, CallC, MethodC, TableC, AndC, OrC, OperateC, UnaryC, ParenC, CWorld}
use Rattle.lua_goes.specs.LuaSlotsSlots.{Slot, Plain, Activation, Slots, slot_cell, cell_value, proc_of, with_closure, next_closure}
use Rattle.lua_goes.specs.LuaSlotsPoints.{SFrame, First, KeyNext, IndexNow, DecideNext, OperandNext, OperateNow, UnaryNow, ArgumentsNext, MethodNext, Point, Gives, Evals, Costs, Now}
use Rattle.lua_goes.specs.LuaSlotsErrors.{node}
use Rattle.lua_goes.specs.LuaSlotsIndex as indexing
use Rattle.lua_goes.specs.LuaSlotsExpressions as expressions
use Rattle.lua_goes.specs.LuaSlotsExpressions.{with_table}
use Rattle.lua_goes.specs.LuaSlotsMoves.{moves}
use Rattle.lua_flat.specs.Locals.{Local, PlainL}
use Rattle.lua_flat.specs.Operations.{Operand, RegisterO, Wanted, Origin, Op, LoadF, DotsF, ClosureF, GetCellF, GetUpF, GetGlobalF, IndexF, OperateF, UnaryF, TableF, MethodF, CallF, FlatFunction, Codes}
use Rattle.lua_flat.specs.Registers.{put, operand}
use Rattle.lua_flat.specs.Does.{into, captures, becomes}
use Rattle.lua_flat.specs.Flat.{Act, Flat, FlatMove, FNodes, FNow}
use Rattle.lua_flat.specs.Moves.{goes_on, does, flat_moves}
use Rattle.lua_flat.specs.IsExpression.{Has, HasAt, one_more, IsRow, IsFields, IsMany, IsThere, IsOrigins, there_local, there_constant, there_text, in_place, made, IsValue, loaded, closure_of, cell_of, captured_of, global_of, index_of, operate_of, unary_of, and_of, or_of, paren_of, table_of, first_of_many, dots_of, call_of, method_of}
use Rattle.lua_flat.specs.IsStatement.{writes_last}
use Rattle.lua_flat.specs.Keeps.{Keeps, IsBelow, Bounded}
use Rattle.lua_flat.specs.WaitsExpression.{Waits, wait_first, wait_key, wait_index, wait_operand, wait_operate, wait_unary, wait_and, wait_or, wait_arguments, wait_object, Lands, in_register, LandsMany, land_first}
use Rattle.lua_flat.specs.Stands.{erased, in_tree, in_code, constants_in, Within}
use Rattle.lua_flat_laws.specs.Follows.{Follows, follow_costs}
use Rattle.lua_flat_laws.proofs.Kept.{put_value, keep_within, moved, with_keeps, code_there, variables_there, kept_there, bounded_there, bounded_more, local_below, variable_value, variable_cell}
use Rattle.lua_flat_laws.proofs.Meets.{Meets, by_free, by_node, by_operation, by_last_node}
use Rattle.lua_flat_laws.proofs.Acts as acts_of
use Rattle.lua_flat_laws.proofs.ComesBack as comes_of
use Rattle.lua_flat_laws.proofs.Operations as operations_of

-- what gives several values writes them with its last operation
many_writes_last : {g : FlatFunction} {locals : List Local} {free c to pc end : ℕ} {wanted : Wanted} {e : CExp} → IsMany g locals free e c to wanted pc end → writes_last e ≡ true
many_writes_last (dots_of has) = refl
many_writes_last (call_of r vf row h) = refl
many_writes_last (method_of r ob h row h') = refl

module _ (world : CWorld) (codes : Codes) (room : ℕ) (index pc base : ℕ) (frames : List SFrame) (acts : List Act) (fn : Activation) (fns : List Activation) (g : FlatFunction) (mine theirs : List Slot) (beneath : List SFrame) (regs : List Slot) (top : ℕ) (s : Slots) where
  abbrev act : Act
  act = record { index = index; pc = pc; base = base; frames = frames }

  abbrev cs : Constants
  cs = constants_in world fn.source

  abbrev tree : Slots
  tree = in_tree (mine ++ theirs) (fn ∷ fns) s

  abbrev flat : Flat
  flat = in_code act acts regs top tree

  abbrev Here : List Local → ℕ → Keeps → Type 0
  Here locals low keeps = Within world codes regs act acts fn fns g mine theirs beneath locals low keeps

  abbrev Landing : Bool → Bool → List Local → ℕ → Keeps → ℕ → ℕ → List SFrame → Type 0
  Landing last single locals low keeps end to fs = Lands cs g (length theirs) beneath last single locals low keeps end to fs

  abbrev pub Met : ℕ → Point → Type 0
  Met c p = Meets world codes room flat c p tree

  abbrev read_of : Operand → Value
  read_of o = operand cs regs base o

  -- the operation that stands there
  next_is : {locals : List Local} {low : ℕ} {keeps : Keeps} → Here locals low keeps → (c : ℕ) (op : Op) → Has g pc c op → flat_moves world codes room flat ≡ FNodes c (does codes cs (slice_get g.lines pc) op act acts flat)
  next_is w c op has = acts_of.operation_at world codes room index pc base frames acts fn fns g mine theirs beneath regs top s c op (code_there world codes w) has

  -- WHAT IS READ WHERE IT STANDS
  pub there_moves : {locals : List Local} {low : ℕ} {keeps : Keeps} {e : CExp} {o : Operand} → Here locals low keeps → IsThere locals e o → (fs : List SFrame) → moves world (Evals e fs) tree ≡ node (Now (Gives (Goes (read_of o ∷ [])) fs) tree)
  there_moves {locals} w (there_local {i} {r} e) fs = ap (λ (x : Value). node (Now (Gives (Goes (x ∷ [])) fs) tree)) (variable_value regs base locals mine theirs i r (variables_there world codes w) e)
  there_moves w there_constant fs = refl
  there_moves w there_text fs = refl

  pub there_below : {locals : List Local} {low free : ℕ} {keeps : Keeps} {e : CExp} {o : Operand} → Here locals low keeps → low ≤ free → IsThere locals e o → IsBelow free o
  there_below {locals} {low} w l (there_local {i} {r} e) = let b : r < low = local_below low locals i (PlainL r) (bounded_there world codes w).locals_below e in omega (arith, b, l)
  there_below w l there_constant = tt
  there_below w l there_text = tt

  -- one more value is kept
  pub keeping : {locals : List Local} {low free : ℕ} {keeps : Keeps} → (o : Operand) (u : Value) → read_of o ≡ u → IsBelow free o → low ≤ free → free ≤ g.registers → Here locals low keeps → Here locals free ((o, u) ∷ keeps)
  keeping {locals} {low} {free} {keeps} o u e b l r w =
      let more : Bounded free locals keeps = bounded_more low free locals keeps l (bounded_there world codes w) in
      with_keeps world codes (e, kept_there world codes w) (record { locals_below = more.locals_below; keeps_below = (b, more.keeps_below) }) r w

  -- a node that reads, and one before an operation at the last node
  pub reads : {locals : List Local} {low : ℕ} {keeps : Keeps} {e : CExp} {o : Operand} → (c : ℕ) → Here locals low keeps → IsThere locals e o → (fs : List SFrame) → Met (c + 1) (Gives (Goes (read_of o ∷ [])) fs) → Met c (Evals e fs)
  reads {e} {o} c w th fs m = by_node world codes room flat c (Evals e fs) tree (Gives (Goes (read_of o ∷ [])) fs) tree (there_moves w th fs) m

  -- an operation that gives a value for a node of its own
  gives_value : {last single : Bool} {locals : List Local} {low to : ℕ} {keeps : Keeps} {fs : List SFrame} → (c : ℕ) (e : CExp) → Here locals low keeps → (op : Op) → Has g pc (c + 1) op → Landing last single locals low keeps (pc + 1) to fs → (v u : Value) (t : Slots) → v ≡ u
      → does codes cs (slice_get g.lines pc) op act acts flat ≡ FNow (goes_on codes (v ∷ []) act acts (in_code act acts regs top (in_tree (mine ++ theirs) (fn ∷ fns) t))) → becomes op base pc (v ∷ []) regs top ≡ into (base + to) v pc regs top
      → moves world (Evals e fs) tree ≡ node (Now (Gives (Goes (u ∷ [])) fs) (in_tree (mine ++ theirs) (fn ∷ fns) t)) → Met c (Evals e fs)
  gives_value {fs} c e w op has lands v u t same own put begins =
      by_last_node world codes room flat c (Evals e fs) tree (does codes cs (slice_get g.lines pc) op act acts flat) (Now (Gives (Goes (u ∷ [])) fs) (in_tree (mine ++ theirs) (fn ∷ fns) t)) (next_is w (c + 1) op has) begins
      (subst (λ (m : FlatMove). Follows world codes m (Now (Gives (Goes (u ∷ [])) fs) (in_tree (mine ++ theirs) (fn ∷ fns) t))) (sym own)
      (subst (λ (x : Value). Follows world codes (FNow (goes_on codes (v ∷ []) act acts (in_code act acts regs top (in_tree (mine ++ theirs) (fn ∷ fns) t)))) (Now (Gives (Goes (x ∷ [])) fs) (in_tree (mine ++ theirs) (fn ∷ fns) t))) same
      (acts_of.value_back world codes room index pc base frames acts fn fns g mine theirs beneath regs top w (c + 1) op has lands v (v ∷ []) put t)))

  -- A NEW FUNCTION
  gives_closure : {last single : Bool} {locals : List Local} {low to number : ℕ} {keeps : Keeps} {fs : List SFrame} {places : List Place} {os : List Origin} → (c : ℕ) → Here locals low keeps → IsOrigins locals places os → Has g pc (c + 1) (ClosureF to number os) → Landing last single locals low keeps (pc + 1) to fs
      → Met c (Evals (FunctionC number places) fs)
  gives_closure {to} {number} {fs} {places} {os} c w origins has lands =
      let made : Proc = captures number os regs base (erased tree) in
      let same : made ≡ proc_of number places tree = ap (λ (cells : List ℕ). record { title = fn.source; index = number; cells = cells }) (acts_of.cells_same world codes room index pc base frames acts fn fns g mine theirs beneath regs top w fn.cells origins) in
      let v : Value = next_closure s in
      by_last_node world codes room flat c (Evals (FunctionC number places) fs) tree (does codes cs (slice_get g.lines pc) (ClosureF to number os) act acts flat) (Costs closure_charge (Now (Gives (Goes (v ∷ [])) fs) (with_closure (proc_of number places tree) tree))) (next_is w (c + 1) (ClosureF to number os) has) refl
      (subst (λ (p : Proc). Follows world codes (does codes cs (slice_get g.lines pc) (ClosureF to number os) act acts flat) (Costs closure_charge (Now (Gives (Goes (v ∷ [])) fs) (with_closure p tree)))) same
      (follow_costs (acts_of.value_back world codes room index pc base frames acts fn fns g mine theirs beneath regs top w (c + 1) (ClosureF to number os) has lands v (v ∷ []) refl (with_closure made s))))

  -- BOTH OPERANDS are there, or the last one is
  module _ {single : Bool} {locals : List Local} {low to : ℕ} {keeps : Keeps} {fs : List SFrame} (c line : ℕ) (w : Here locals low keeps) (lands : Landing true single locals low keeps (pc + 1) to fs) where
    pub index_met : (a b : Operand) → HasAt g pc c line (IndexF to a b) → (u : Value) (vs : List Value) → read_of a ≡ u → read_of b ≡ first vs → Met c (Gives (Goes vs) (IndexNow u line ∷ fs))
    index_met a b h u vs ea eb =
        by_operation world codes room flat c (Gives (Goes vs) (IndexNow u line ∷ fs)) tree (does codes cs (slice_get g.lines pc) (IndexF to a b) act acts flat) (next_is w c (IndexF to a b) h.0)
        (acts_of.index_acts world codes room index pc base frames acts fn fns g mine theirs beneath regs top w s c (Some line) h.1 lands a b h.0 u (first vs) ea eb)

    pub operate_met : (op : Operator) (a b : Operand) → HasAt g pc c line (OperateF op to a b) → (u : Value) (vs : List Value) → read_of a ≡ u → read_of b ≡ first vs → Met c (Gives (Goes vs) (OperateNow op u line ∷ fs))
    operate_met op a b h u vs ea eb =
        by_operation world codes room flat c (Gives (Goes vs) (OperateNow op u line ∷ fs)) tree (does codes cs (slice_get g.lines pc) (OperateF op to a b) act acts flat) (next_is w c (OperateF op to a b) h.0)
        (acts_of.operate_acts world codes room index pc base frames acts fn fns g mine theirs beneath regs top w s c (Some line) h.1 lands op a b h.0 u (first vs) ea eb)

    pub unary_met : (op : UnaryOp) (a : Operand) → HasAt g pc c line (UnaryF op to a) → (vs : List Value) → read_of a ≡ first vs → Met c (Gives (Goes vs) (UnaryNow op line ∷ fs))
    unary_met op a h vs ea =
        by_operation world codes room flat c (Gives (Goes vs) (UnaryNow op line ∷ fs)) tree (does codes cs (slice_get g.lines pc) (UnaryF op to a) act acts flat) (next_is w c (UnaryF op to a) h.0)
        (acts_of.apply_acts world codes room index pc base frames acts fn fns g mine theirs beneath regs top w s c (Some line) h.1 lands op a h.0 (first vs) ea)

    pub global_met : (x : ℕ) → HasAt g pc (c + 1) line (GetGlobalF to x) → Met c (Evals (GlobalC x line) fs)
    global_met x h =
        by_last_node world codes room flat c (Evals (GlobalC x line) fs) tree (does codes cs (slice_get g.lines pc) (GetGlobalF to x) act acts flat) (indexing.index_table s.globals (Text (cs x)) (Some line) (First ∷ fs) tree) (next_is w (c + 1) (GetGlobalF to x) h.0) refl
        (acts_of.global_acts world codes room index pc base frames acts fn fns g mine theirs beneath regs top w s (c + 1) (Some line) h.1 lands x h.0)

  -- THE VALUES of `...`
  gives_dots : {wanted : Wanted} {locals : List Local} {low to : ℕ} {keeps : Keeps} {fs : List SFrame} → (c : ℕ) → Here locals low keeps → Has g pc (c + 1) (DotsF to wanted) → LandsMany cs g (length theirs) beneath wanted locals low keeps (pc + 1) to fs → Met c (Evals DotsC fs)
  gives_dots {wanted} {to} {fs} c w has k =
      by_last_node world codes room flat c (Evals DotsC fs) tree (does codes cs (slice_get g.lines pc) (DotsF to wanted) act acts flat) (Costs (length fn.dots) (Now (Gives (Goes fn.dots) fs) tree)) (next_is w (c + 1) (DotsF to wanted) has) refl
      (follow_costs (comes_of.onward world codes room index pc base frames acts fn fns g mine theirs beneath regs top w (c + 1) (DotsF to wanted) has fn.dots fs s
      (comes_of.many_come world codes room index pc base frames acts fn fns g mine theirs beneath regs top k w fn.dots s)))

  -- A NEW TABLE, in front of its fields
  makes_table : {one : Bool} {locals : List Local} {low free to end : ℕ} {keeps : Keeps} {fields : CFields} {fs : List SFrame} → (c line : ℕ) → Here locals low keeps → to < free → to < g.registers → Has g pc (c + 1) (TableF to) → IsFields g locals free fields to 1 line (pc + 1) end → low ≤ to
      → Waits cs g (length theirs) beneath one locals low keeps end 0 (RegisterO to) fs → Met c (Evals (TableC fields line) fs)
  makes_table {locals} {low} {to} {keeps} {fields} {fs} c line w lt r has code l waits =
      let t : ℕ = (new_table s.heap).1 in
      let made : Slots = with_table s in
      let regs' : List Slot = put (base + to) (Plain (Table t)) regs in
      let more : Bounded (to + 1) locals keeps = bounded_more low (to + 1) locals keeps (omega (arith, l)) (bounded_there world codes w) in
      let kept : Within world codes regs' act acts fn fns g mine theirs beneath locals low keeps = keep_within world codes regs (base + to) (Plain (Table t)) (omega (arith, l)) w in
      let here : Within world codes regs' (record { index = index; pc = pc + 1; base = base; frames = frames }) acts fn fns g mine theirs beneath locals (to + 1) ((RegisterO to, Table t) ∷ keeps) =
      moved world codes (pc + 1) (with_keeps world codes (put_value (base + to) (Table t) regs, kept_there world codes kept) (record { locals_below = more.locals_below; keeps_below = (omega arith, more.keeps_below) }) (omega (arith, r)) kept) in
      by_last_node world codes room flat c (Evals (TableC fields line) fs) tree (does codes cs (slice_get g.lines pc) (TableF to) act acts flat) (Costs table_charge (expressions.fields t 1 fields line fs (with_table tree))) (next_is w (c + 1) (TableF to) has) refl
      (follow_costs
      (subst (λ (x : Flat). Follows world codes (FNow x) (expressions.fields t 1 fields line fs (with_table tree)))
      (sym (acts_of.goes_on_at world codes room index pc base frames acts fn fns g mine theirs beneath regs top made (c + 1) (TableF to) (code_there world codes w) has (Table t ∷ [])))
      (operations_of.fields_stand world codes room index (pc + 1) base frames acts fn fns g mine theirs beneath regs' top made here l (bounded_there world codes w) lt code waits)))

  -- A METHOD of an object that is there
  pub method_met : {wanted arguments : Wanted} {locals : List Local} {low q x c' pc' to : ℕ} {a : Operand} {es : CExps} {keeps : Keeps} {fs : List SFrame} → (c line : ℕ) → Here locals low keeps → low ≤ q → q + 1 < g.registers → HasAt g pc c line (MethodF q a x) → IsRow g locals (q + 2) es 0 (pc + 1) c' pc' arguments
      → HasAt g pc' c' line (CallF to q (one_more arguments) wanted) → LandsMany cs g (length theirs) beneath wanted locals low keeps (pc' + 1) to fs → (vs : List Value) → read_of a ≡ first vs → Met c (Gives (Goes vs) (MethodNext (cs x) es line ∷ fs))
  method_met {q} {x} {a} {es} {fs} c line w l r h row h' k vs ea =
      by_operation world codes room flat c (Gives (Goes vs) (MethodNext (cs x) es line ∷ fs)) tree (does codes cs (slice_get g.lines pc) (MethodF q a x) act acts flat) (next_is w c (MethodF q a x) h.0)
      (operations_of.method_acts world codes room index pc base frames acts fn fns g mine theirs beneath regs top s w l r h row h' k (first vs) ea)

  mutual
    -- EACH EXPRESSION, for its first value
    pub value_meets : {locals : List Local} {single : Bool} {free c to end low : ℕ} {e : CExp} {keeps : Keeps} {fs : List SFrame} → Here locals low keeps → low ≤ free → IsValue g locals single free e c to pc end → Landing (writes_last e) single locals low keeps end to fs → Met c (Evals e fs)
    value_meets {c} {to} {e} {fs} w l (loaded {o} th has) lands = gives_value c e w (LoadF to o) has lands (read_of o) (read_of o) s refl refl refl (there_moves w th fs)
    value_meets {c} w l (closure_of origins has) lands = gives_closure c w origins has lands
    value_meets {locals} {c} {to} {fs} w l (cell_of {i} {r} e has) lands =
        gives_value c (LocalC (Box i)) w (GetCellF to r) has lands (cell_value s.heap (slot_cell (slice_get regs (base + r)))) (cell_value s.heap (slot_cell (slice_get (mine ++ theirs) i))) s
        (ap (λ (x : Option ℕ). cell_value s.heap x) (sym (variable_cell regs base locals mine theirs i r (variables_there world codes w) e))) refl refl refl
    value_meets {c} {to} {fs} w l (captured_of {i} has) lands = gives_value c (LocalC (Up i)) w (GetUpF to i) has lands (cell_value s.heap (slice_get fn.cells i)) (cell_value s.heap (slice_get fn.cells i)) s refl refl refl refl
    value_meets {c} w l (global_of {x} {line} h) lands = global_met c line w lands x h
    value_meets {locals} {free} {c} {to} {fs} w l (index_of {line} {of} {key} (made r va) ob h) lands =
        by_node world codes room flat c (Evals (IndexC of key line) fs) tree (Evals of (KeyNext key line ∷ fs)) tree refl
        (value_meets w (omega (arith, l)) va (in_register l (wait_key (omega (arith, l)) (omega arith) ob h lands)))
    value_meets {locals} {free} {c} {to} {fs} w l (index_of {line} {of} {key} {a} (in_place th) (made r vb) h) lands =
        by_node world codes room flat c (Evals (IndexC of key line) fs) tree (Evals of (KeyNext key line ∷ fs)) tree refl
        (reads (c + 1) w th (KeyNext key line ∷ fs)
        (by_free world codes room flat (c + 1 + 1) (Gives (Goes (read_of a ∷ [])) (KeyNext key line ∷ fs)) tree (Evals key (IndexNow (read_of a) line ∷ fs)) tree refl
        (value_meets (keeping a (read_of a) refl (there_below w l th) l (omega (arith, r)) w) (omega arith) vb (in_register (omega arith) (wait_index l (bounded_there world codes w) h lands)))))
    value_meets {locals} {free} {c} {to} {fs} w l (index_of {line} {of} {key} {a} {b} (in_place th) (in_place th') h) lands =
        by_node world codes room flat c (Evals (IndexC of key line) fs) tree (Evals of (KeyNext key line ∷ fs)) tree refl
        (reads (c + 1) w th (KeyNext key line ∷ fs)
        (by_free world codes room flat (c + 1 + 1) (Gives (Goes (read_of a ∷ [])) (KeyNext key line ∷ fs)) tree (Evals key (IndexNow (read_of a) line ∷ fs)) tree refl
        (reads (c + 1 + 1) w th' (IndexNow (read_of a) line ∷ fs) (index_met (c + 1 + 1 + 1) line w lands a b h (read_of a) (read_of b ∷ []) refl refl))))
    value_meets {locals} {free} {c} {to} {fs} w l (operate_of {line} {op} {x} {y} (made r va) ob h) lands =
        by_node world codes room flat c (Evals (OperateC op x y line) fs) tree (Evals x (OperandNext op y line ∷ fs)) tree refl
        (value_meets w (omega (arith, l)) va (in_register l (wait_operand (omega (arith, l)) (omega arith) ob h lands)))
    value_meets {locals} {free} {c} {to} {fs} w l (operate_of {line} {op} {x} {y} {a} (in_place th) (made r vb) h) lands =
        by_node world codes room flat c (Evals (OperateC op x y line) fs) tree (Evals x (OperandNext op y line ∷ fs)) tree refl
        (reads (c + 1) w th (OperandNext op y line ∷ fs)
        (by_free world codes room flat (c + 1 + 1) (Gives (Goes (read_of a ∷ [])) (OperandNext op y line ∷ fs)) tree (Evals y (OperateNow op (read_of a) line ∷ fs)) tree refl
        (value_meets (keeping a (read_of a) refl (there_below w l th) l (omega (arith, r)) w) (omega arith) vb (in_register (omega arith) (wait_operate l (bounded_there world codes w) h lands)))))
    value_meets {locals} {free} {c} {to} {fs} w l (operate_of {line} {op} {x} {y} {a} {b} (in_place th) (in_place th') h) lands =
        by_node world codes room flat c (Evals (OperateC op x y line) fs) tree (Evals x (OperandNext op y line ∷ fs)) tree refl
        (reads (c + 1) w th (OperandNext op y line ∷ fs)
        (by_free world codes room flat (c + 1 + 1) (Gives (Goes (read_of a ∷ [])) (OperandNext op y line ∷ fs)) tree (Evals y (OperateNow op (read_of a) line ∷ fs)) tree refl
        (reads (c + 1 + 1) w th' (OperateNow op (read_of a) line ∷ fs) (operate_met (c + 1 + 1 + 1) line w lands op a b h (read_of a) (read_of b ∷ []) refl refl))))
    value_meets {locals} {free} {c} {to} {fs} w l (unary_of {line} {op} {x} (made r va) h) lands =
        by_node world codes room flat c (Evals (UnaryC op x line) fs) tree (Evals x (UnaryNow op line ∷ fs)) tree refl
        (value_meets w (omega (arith, l)) va (in_register l (wait_unary h lands)))
    value_meets {locals} {free} {c} {to} {fs} w l (unary_of {line} {op} {x} {a} (in_place th) h) lands =
        by_node world codes room flat c (Evals (UnaryC op x line) fs) tree (Evals x (UnaryNow op line ∷ fs)) tree refl
        (reads (c + 1) w th (UnaryNow op line ∷ fs) (unary_met (c + 1 + 1) line w lands op a h (read_of a ∷ []) refl))
    value_meets {c} {to} {fs} w l (and_of {x} {y} vx has vy) (in_register lt waits) =
        by_node world codes room flat c (Evals (AndC x y) fs) tree (Evals x (DecideNext false y ∷ fs)) tree refl (value_meets w l vx (in_register lt (wait_and l lt has vy waits)))
    value_meets {c} {to} {fs} w l (or_of {x} {y} vx has vy) (in_register lt waits) =
        by_node world codes room flat c (Evals (OrC x y) fs) tree (Evals x (DecideNext true y ∷ fs)) tree refl (value_meets w l vx (in_register lt (wait_or l lt has vy waits)))
    value_meets {c} {to} {fs} w l (paren_of {x} vx) (in_register lt waits) =
        by_node world codes room flat c (Evals (ParenC x) fs) tree (Evals x (First ∷ fs)) tree refl (value_meets w l vx (in_register lt (wait_first waits)))
    value_meets {c} w l (table_of {line} lt r has code) (in_register l' waits) = makes_table c line w lt r has code l' waits
    value_meets {locals} {to} {end} {low} {keeps} {fs} w l (first_of_many many) lands = many_meets w l many (land_first (subst (λ (b : Bool). Landing b false locals low keeps end to fs) (many_writes_last many) lands))

    -- and for several values
    pub many_meets : {locals : List Local} {wanted : Wanted} {free c to end low : ℕ} {e : CExp} {keeps : Keeps} {fs : List SFrame} → Here locals low keeps → low ≤ free → IsMany g locals free e c to wanted pc end → LandsMany cs g (length theirs) beneath wanted locals low keeps end to fs → Met c (Evals e fs)
    many_meets {c} w l (dots_of has) k = gives_dots c w has k
    many_meets {c} {fs} w l (call_of {line} {f} {es} r vf row h) k =
        by_node world codes room flat c (Evals (CallC f es line) fs) tree (Evals f (ArgumentsNext es line ∷ fs)) tree refl (value_meets w (omega (arith, l)) vf (in_register l (wait_arguments l r row h k)))
    many_meets {c} {fs} w l (method_of {x} {line} {of} {es} r (made r' v) h row h') k =
        by_node world codes room flat c (Evals (MethodC of x es line) fs) tree (Evals of (MethodNext (cs x) es line ∷ fs)) tree refl (value_meets w (omega (arith, l)) v (in_register (omega (arith, l)) (wait_object l r h row h' k)))
    many_meets {c} {fs} w l (method_of {x} {line} {of} {o} {es} r (in_place th) h row h') k =
        by_node world codes room flat c (Evals (MethodC of x es line) fs) tree (Evals of (MethodNext (cs x) es line ∷ fs)) tree refl
        (reads (c + 1) w th (MethodNext (cs x) es line ∷ fs) (method_met (c + 1 + 1) line w l r h row h' k (read_of o ∷ []) refl))
