-- WHERE A VALUE IS GIVEN to a frame that waits within an expression; and the law by expressions.
use Rattle.std.proofs.Common.{◌≡◌, ℕ, zero, ◌+◌, ◌≤◌, ◌<◌, ◌∙◌, Bool, true, false, not, List, [], ◌∷◌, ◌++◌, refl, sym, ap, subst, arith, length-append}
use Rattle.std.specs.Prelude.{length, take, slice_get}
use Rattle.lua_goes.specs.PageRunOutcome.{Goes}
use Rattle.lua_goes.specs.LuaHeapValue.{Value, Table, is_true}
use Rattle.lua_goes.specs.LuaMeaningValues.{first}
use Rattle.lua_goes.specs.LuaSlotsCode.{Constants, CExp, NoC, MoreC, CFields, NoFieldC, ItemC, PairC, CWorld}
use Rattle.lua_goes.specs.LuaSlotsSlots.{Slot, Activation, Slots}
use Rattle.lua_goes.specs.LuaSlotsPoints.{SFrame, First, KeyNext, IndexNow, DecideNext, OperandNext, OperateNow, ArgumentsNext, CallNow, MethodNow, MoreNext, ItemNow, PairNext, PairNow, FieldsNext, ItemsNext, Point, Gives, Evals, Lists, Now}
use Rattle.lua_goes.specs.LuaSlotsErrors.{choose, gives}
use Rattle.lua_goes.specs.LuaSlotsMoves.{moves}
use Rattle.lua_flat.specs.Locals.{Local}
use Rattle.lua_flat.specs.Operations.{Operand, RegisterO, Wanted, TestF, FlatFunction, Codes}
use Rattle.lua_flat.specs.Registers.{operand}
use Rattle.lua_flat.specs.Does.{at_place, is_so, place_if}
use Rattle.lua_flat.specs.Flat.{Act, Flat, FNow}
use Rattle.lua_flat.specs.Moves.{landed, does, flat_moves}
use Rattle.lua_flat.specs.IsExpression.{Has, IsOperand, in_place, made, IsValue, IsMany, fields_end, field_item, field_items, field_pair}
use Rattle.lua_flat.specs.IsStatement.{writes_last}
use Rattle.lua_flat.specs.Keeps.{Keeps, Bounded, in_row}
use Rattle.lua_flat.specs.WaitsExpression.{counted_from, IsItem, Waits, wait_first, wait_key, wait_index, wait_operand, wait_operate, wait_unary, wait_and, wait_or, wait_compared, wait_compare, wait_test, wait_arguments, wait_object, wait_method, wait_more, wait_last, exact_goes_on, exact_ends, exact_adds, exact_drops, exact_drops_last, wait_item, wait_pair_key, wait_pair, wait_assign, wait_stat}
use Rattle.lua_flat.specs.WaitsExpression.{Lands, in_register, LandsMany, land_all, RowWaits, row_call, row_items, FieldWaits, field_next, field_last}
use Rattle.lua_flat.specs.Stands.{erased, in_tree, in_code, constants_in, IsGiven, IsRowed, Within, at_value, at_given}
use Rattle.lua_flat_laws.specs.Follows.{Follows, follow_stands}
use Rattle.lua_flat_laws.specs.Laws.{begins_it, begins_several, begins_operand, is_given_it, has_list, has_field, ExpressionsAreMoves}
use Rattle.lua_flat_laws.proofs.Kept.{moved, with_keeps, code_there, kept_there, bounded_there, room_there, bounded_more}
use Rattle.lua_flat_laws.proofs.Meets.{first_given, given_one, Meets, by_free, by_operation, whole}
use Rattle.lua_flat_laws.proofs.Rows.{kept_behind, kept_more, row_under, row_full, row_dropped, adjusted_full}
use Rattle.lua_flat_laws.proofs.Acts as acts_of
use Rattle.lua_flat_laws.proofs.Operations as operations_of
use Rattle.lua_flat_laws.proofs.Values as values_of
use Rattle.lua_flat_laws.proofs.Lists as lists_of
use Rattle.lua_flat_laws.proofs.Tests as tests_of
use Rattle.lua_flat_laws.proofs.Exacts as exacts_of
use Rattle.lua_flat_laws.proofs.Settings as settings_of
use Rattle.lua_flat_laws.proofs.Blocks as blocks_of

module _ (world : CWorld) (codes : Codes) (room : ℕ) (index pc base : ℕ) (frames : List SFrame) (acts : List Act) (fn : Activation) (fns : List Activation) (g : FlatFunction) (mine theirs : List Slot) (beneath : List SFrame) (regs : List Slot) (top : ℕ) (s : Slots) where
  abbrev act : Act
  act = record { index = index; pc = pc; base = base; frames = frames }

  abbrev cs : Constants
  cs = constants_in world fn.source

  abbrev tree : Slots
  tree = in_tree (mine ++ theirs) (fn ∷ fns) s

  abbrev flat : Flat
  flat = in_code act acts regs top tree

  abbrev Here : List Local → ℕ → Keeps → Type 0
  Here locals low keeps = Within world codes regs act acts fn fns g mine theirs beneath locals low keeps

  abbrev Met : ℕ → Point → Type 0
  Met c p = Meets world codes room flat c p tree

  abbrev read_of : Operand → Value
  read_of o = operand cs regs base o

  -- a test of the first operand of `and` and `or`: it goes on to the second one, or keeps the first
  tests : {locals : List Local} {low to end : ℕ} {keeps : Keeps} → Here locals low keeps → (c : ℕ) (when b : Bool) → Has g pc c (TestF when (RegisterO to) end) → is_true (read_of (RegisterO to)) ≡ b → (p : Point)
      → Follows world codes (FNow (landed (at_place (place_if (is_so when b) end (pc + 1)) regs top) act acts (erased tree))) (moves world p tree) → Met c p
  tests {to} {end} w c when b has e p h =
      by_operation world codes room flat c p tree (does codes cs (slice_get g.lines pc) (TestF when (RegisterO to) end) act acts flat) (acts_of.operation_at world codes room index pc base frames acts fn fns g mine theirs beneath regs top s c (TestF when (RegisterO to) end) (code_there world codes w) has)
      (subst (λ (x : Flat). Follows world codes (FNow x) (moves world p tree))
      (sym (acts_of.goes_on_at world codes room index pc base frames acts fn fns g mine theirs beneath regs top s c (TestF when (RegisterO to) end) (code_there world codes w) has (read_of (RegisterO to) ∷ [])
      ∙ ap (λ (x : Bool). landed (at_place (place_if (is_so when x) end (pc + 1)) regs top) act acts (erased tree)) e)) h)

  and_meets : {one : Bool} {locals : List Local} {low free to end : ℕ} {keeps : Keeps} {y : CExp} {fs : List SFrame} (c : ℕ) (vs : List Value) (b : Bool) → is_true (first vs) ≡ b → Here locals low keeps → read_of (RegisterO to) ≡ first vs → low ≤ free → low ≤ to → Has g pc c (TestF false (RegisterO to) end)
      → IsValue g locals false free y 0 to (pc + 1) end → Waits cs g (length theirs) beneath one locals low keeps end 0 (RegisterO to) fs → Met c (Gives (Goes vs) (DecideNext false y ∷ fs))
  and_meets {to} {y} {fs} c vs true e w ea l lt has vy waits =
      tests w c false true has (ap is_true ea ∙ e) (Gives (Goes vs) (DecideNext false y ∷ fs))
      (subst (λ (x : Bool). Follows world codes (FNow (landed (at_place (pc + 1) regs top) act acts (erased tree))) (choose (not x) (gives (first vs ∷ []) fs tree) (Now (Evals y (First ∷ fs)) tree))) (sym e)
      (follow_stands (at_value s (moved world codes (pc + 1) w) l vy (in_register lt (wait_first waits)))))
  and_meets {one} {to} {end} {y} {fs} c vs false e w ea l lt has vy waits =
      tests w c false false has (ap is_true ea ∙ e) (Gives (Goes vs) (DecideNext false y ∷ fs))
      (subst (λ (x : Bool). Follows world codes (FNow (landed (at_place end regs top) act acts (erased tree))) (choose (not x) (gives (first vs ∷ []) fs tree) (Now (Evals y (First ∷ fs)) tree))) (sym e)
      (follow_stands (at_given s (moved world codes end w) (given_one one (read_of (RegisterO to)) (first vs) ea) waits)))

  or_meets : {one : Bool} {locals : List Local} {low free to end : ℕ} {keeps : Keeps} {y : CExp} {fs : List SFrame} (c : ℕ) (vs : List Value) (b : Bool) → is_true (first vs) ≡ b → Here locals low keeps → read_of (RegisterO to) ≡ first vs → low ≤ free → low ≤ to → Has g pc c (TestF true (RegisterO to) end)
      → IsValue g locals false free y 0 to (pc + 1) end → Waits cs g (length theirs) beneath one locals low keeps end 0 (RegisterO to) fs → Met c (Gives (Goes vs) (DecideNext true y ∷ fs))
  or_meets {to} {y} {fs} c vs false e w ea l lt has vy waits =
      tests w c true false has (ap is_true ea ∙ e) (Gives (Goes vs) (DecideNext true y ∷ fs))
      (subst (λ (x : Bool). Follows world codes (FNow (landed (at_place (pc + 1) regs top) act acts (erased tree))) (choose x (gives (first vs ∷ []) fs tree) (Now (Evals y (First ∷ fs)) tree))) (sym e)
      (follow_stands (at_value s (moved world codes (pc + 1) w) l vy (in_register lt (wait_first waits)))))
  or_meets {one} {to} {end} {y} {fs} c vs true e w ea l lt has vy waits =
      tests w c true true has (ap is_true ea ∙ e) (Gives (Goes vs) (DecideNext true y ∷ fs))
      (subst (λ (x : Bool). Follows world codes (FNow (landed (at_place end regs top) act acts (erased tree))) (choose x (gives (first vs ∷ []) fs tree) (Now (Evals y (First ∷ fs)) tree))) (sym e)
      (follow_stands (at_given s (moved world codes end w) (given_one one (read_of (RegisterO to)) (first vs) ea) waits)))

  -- no more than a table is kept, beside what was before
  table_only : {locals : List Local} {low low' table t : ℕ} {keeps : Keeps} → Here locals low ((RegisterO table, Table t) ∷ keeps) → low' ≤ table → table < low → Bounded low' locals keeps → Here locals (table + 1) ((RegisterO table, Table t) ∷ keeps)
  table_only {locals} {low'} {table} {keeps} w l0 l1 b =
      let more : Bounded (table + 1) locals keeps = bounded_more low' (table + 1) locals keeps (omega (arith, l0)) b in
      let n = room_there world codes w in
      with_keeps world codes (kept_there world codes w) (record { locals_below = more.locals_below; keeps_below = (omega arith, more.keeps_below) }) (omega (arith, l1, n)) w

  item_alone : (more : CFields) → IsItem more true
  item_alone NoFieldC = refl
  item_alone (ItemC x more) = tt
  item_alone (PairC key x more) = tt

  given_meets : {single : Bool} {c low : ℕ} {o : Operand} {locals : List Local} {keeps : Keeps} {fs : List SFrame} (vs : List Value) → Waits cs g (length theirs) beneath single locals low keeps pc c o fs → Here locals low keeps → IsGiven single vs (read_of o) → Met c (Gives (Goes vs) fs)
  given_meets {single} {c} {o} vs (wait_first {one} {fs} waits) w e =
      by_free world codes room flat c (Gives (Goes vs) (First ∷ fs)) tree (Gives (Goes (first vs ∷ [])) fs) tree refl (given_meets (first vs ∷ []) waits w (given_one one (read_of o) (first vs) (first_given single vs (read_of o) e)))
  given_meets {single} {c} {o} vs (wait_key {fs} {key} {line} l b (made r vb) h lands) w e =
      by_free world codes room flat c (Gives (Goes vs) (KeyNext key line ∷ fs)) tree (Evals key (IndexNow (first vs) line ∷ fs)) tree refl
      (values_of.value_meets world codes room index pc base frames acts fn fns g mine theirs beneath regs top s
      (values_of.keeping world codes room index pc base frames acts fn fns g mine theirs beneath regs top s o (first vs) (first_given single vs (read_of o) e) b l (omega (arith, r)) w) (omega arith) vb
      (in_register (omega arith) (wait_index l (bounded_there world codes w) h lands)))
  given_meets {single} {c} {o} vs (wait_key {fs} {key} {line} {b = q} l b (in_place th) h lands) w e =
      by_free world codes room flat c (Gives (Goes vs) (KeyNext key line ∷ fs)) tree (Evals key (IndexNow (first vs) line ∷ fs)) tree refl
      (values_of.reads world codes room index pc base frames acts fn fns g mine theirs beneath regs top s c w th (IndexNow (first vs) line ∷ fs)
      (values_of.index_met world codes room index pc base frames acts fn fns g mine theirs beneath regs top s (c + 1) line w lands o q h (first vs) (read_of q ∷ []) (first_given single vs (read_of o) e) refl))
  given_meets {single} {c} {o} vs (wait_index {line} {a} {u} l b h lands) w e =
      values_of.index_met world codes room index pc base frames acts fn fns g mine theirs beneath regs top s c line (with_keeps world codes (kept_there world codes w).1 b (let r = room_there world codes w in omega (arith, l, r)) w) lands a o h u vs
      (kept_there world codes w).0 (first_given single vs (read_of o) e)
  given_meets {single} {c} {o} vs (wait_operand {fs} {op} {y} {line} l b (made r vb) h lands) w e =
      by_free world codes room flat c (Gives (Goes vs) (OperandNext op y line ∷ fs)) tree (Evals y (OperateNow op (first vs) line ∷ fs)) tree refl
      (values_of.value_meets world codes room index pc base frames acts fn fns g mine theirs beneath regs top s
      (values_of.keeping world codes room index pc base frames acts fn fns g mine theirs beneath regs top s o (first vs) (first_given single vs (read_of o) e) b l (omega (arith, r)) w) (omega arith) vb
      (in_register (omega arith) (wait_operate l (bounded_there world codes w) h lands)))
  given_meets {single} {c} {o} vs (wait_operand {fs} {op} {y} {line} {b = q} l b (in_place th) h lands) w e =
      by_free world codes room flat c (Gives (Goes vs) (OperandNext op y line ∷ fs)) tree (Evals y (OperateNow op (first vs) line ∷ fs)) tree refl
      (values_of.reads world codes room index pc base frames acts fn fns g mine theirs beneath regs top s c w th (OperateNow op (first vs) line ∷ fs)
      (values_of.operate_met world codes room index pc base frames acts fn fns g mine theirs beneath regs top s (c + 1) line w lands op o q h (first vs) (read_of q ∷ []) (first_given single vs (read_of o) e) refl))
  given_meets {single} {c} {o} vs (wait_operate {line} {a} {op} {u} l b h lands) w e =
      values_of.operate_met world codes room index pc base frames acts fn fns g mine theirs beneath regs top s c line (with_keeps world codes (kept_there world codes w).1 b (let r = room_there world codes w in omega (arith, l, r)) w) lands op a o h u vs
      (kept_there world codes w).0 (first_given single vs (read_of o) e)
  given_meets {single} {c} {o} vs (wait_unary {line} {op} h lands) w e =
      values_of.unary_met world codes room index pc base frames acts fn fns g mine theirs beneath regs top s c line w lands op o h vs (first_given single vs (read_of o) e)
  given_meets {single} {c} vs (wait_and {to} l lt has vy waits) w e = and_meets c vs (is_true (first vs)) refl w (first_given single vs (read_of (RegisterO to)) e) l lt has vy waits
  given_meets {single} {c} vs (wait_or {to} l lt has vy waits) w e = or_meets c vs (is_true (first vs)) refl w (first_given single vs (read_of (RegisterO to)) e) l lt has vy waits
  given_meets {single} {c} {o} vs (wait_compared {fs} {op} {y} {line} l b q (made r vb) h fork k) w e =
      by_free world codes room flat c (Gives (Goes vs) (OperandNext op y line ∷ fs)) tree (Evals y (OperateNow op (first vs) line ∷ fs)) tree refl
      (values_of.value_meets world codes room index pc base frames acts fn fns g mine theirs beneath regs top s
      (values_of.keeping world codes room index pc base frames acts fn fns g mine theirs beneath regs top s o (first vs) (first_given single vs (read_of o) e) b l (omega (arith, r)) w) (omega arith) vb
      (in_register (omega arith) (wait_compare l (bounded_there world codes w) q h fork k)))
  given_meets {single} {c} {o} vs (wait_compared {fs} {op} {y} {line} {b = a} l b q (in_place th) h fork k) w e =
      by_free world codes room flat c (Gives (Goes vs) (OperandNext op y line ∷ fs)) tree (Evals y (OperateNow op (first vs) line ∷ fs)) tree refl
      (values_of.reads world codes room index pc base frames acts fn fns g mine theirs beneath regs top s c w th (OperateNow op (first vs) line ∷ fs)
      (tests_of.compares_met world codes room index pc base frames acts fn fns g mine theirs beneath regs top s (c + 1) line op o a w h fork k (first vs) (read_of a ∷ []) (first_given single vs (read_of o) e) refl))
  given_meets {single} {c} {o} vs (wait_compare {low'} {line} {a} {op} {u} l b q h fork k) w e =
      let r : low' ≤ g.registers = let n = room_there world codes w in omega (arith, l, n) in
      tests_of.compares_met world codes room index pc base frames acts fn fns g mine theirs beneath regs top s c line op a o (with_keeps world codes (kept_there world codes w).1 b r w) h fork k u vs (kept_there world codes w).0 (first_given single vs (read_of o) e)
  given_meets {single} {c} {o} vs (wait_test has fork k) w e = tests_of.tests_met world codes room index pc base frames acts fn fns g mine theirs beneath regs top s c o w has fork k vs (first_given single vs (read_of o) e)
  -- calls: the arguments follow
  given_meets {single} {c} vs (wait_arguments {locals} {low} {keeps} {q} {line} {c'} {pc'} {es} {arguments} {fs} l1 l2 row h k) w e =
      let f : Value = first vs in
      let here : Here locals (q + 1) ((RegisterO q, f) ∷ keeps) = values_of.keeping world codes room index pc base frames acts fn fns g mine theirs beneath regs top s (RegisterO q) f (first_given single vs (read_of (RegisterO q)) e) (omega arith) (omega (arith, l1)) (omega (arith, l2)) w in
      let no_more : q + 1 ≡ q + 1 + zero = omega arith in
      by_free world codes room flat c (Gives (Goes vs) (ArgumentsNext es line ∷ fs)) tree (Lists es [] (CallNow f line ∷ fs)) tree refl
      (lists_of.row_meets world codes room index pc base frames acts fn fns g mine theirs beneath regs top s {r = q + 1} {before = []} {keeps = (RegisterO q, f) ∷ keeps} no_more row here (omega arith) (omega arith) (bounded_there world codes here)
      (subst (λ (n : Wanted). RowWaits cs g (length theirs) beneath locals (q + 1) ((RegisterO q, f) ∷ keeps) pc' c' (q + 1) n (CallNow f line ∷ fs)) (sym (lists_of.counted_none arguments)) (row_call l1 (omega arith) (bounded_there world codes w) h k)))
  given_meets {single} {c} {o} vs (wait_object {line} l1 l2 h row h' k) w e = values_of.method_met world codes room index pc base frames acts fn fns g mine theirs beneath regs top s c line w l1 l2 h row h' k vs (first_given single vs (read_of o) e)
  given_meets {single} vs (wait_method {locals} {low'} {keeps} {q} {line} {c'} {pc'} {object} {es} {arguments} {fs} l1 l2 l3 b row h k) w e =
      let f : Value = first vs in
      let n : read_of (RegisterO q) ≡ f = first_given single vs (read_of (RegisterO q)) e in
      let more : Bounded (q + 2) locals keeps = bounded_more low' (q + 2) locals keeps (omega (arith, l1)) b in
      let first_more : Bounded (q + 1) locals keeps = bounded_more low' (q + 1) locals keeps (omega (arith, l1)) b in
      let called : Bounded (q + 1) locals ((RegisterO q, f) ∷ keeps) = record { locals_below = first_more.locals_below; keeps_below = (omega arith, first_more.keeps_below) } in
      let here : Here locals (q + 2) ((RegisterO (q + 1), object) ∷ (RegisterO q, f) ∷ keeps) =
      with_keeps world codes ((kept_there world codes w).0, (n, (kept_there world codes w).1)) (record { locals_below = more.locals_below; keeps_below = (omega arith, (omega arith, more.keeps_below)) }) (omega (arith, l3)) w in
      let one_more : q + 2 ≡ q + 1 + 1 = omega arith in
      by_free world codes room flat 0 (Gives (Goes vs) (MethodNow object es line ∷ fs)) tree (Lists es (object ∷ []) (CallNow f line ∷ fs)) tree refl
      (lists_of.row_meets world codes room index pc base frames acts fn fns g mine theirs beneath regs top s {r = q + 1} {before = object ∷ []} {keeps = (RegisterO q, f) ∷ keeps} one_more row here (omega arith) (omega arith) called
      (subst (λ (m : Wanted). RowWaits cs g (length theirs) beneath locals (q + 1) ((RegisterO q, f) ∷ keeps) pc' c' (q + 1) m (CallNow f line ∷ fs)) (sym (lists_of.counted_one arguments)) (row_call l1 (omega arith) b h k)))
  -- a list: others follow; this was the last one
  given_meets {single} vs (wait_more {locals} {low'} {keeps} {r} {c'} {pc'} {e = x} {es} {before} {count} {fs} l1 l2 b row k) w e =
      let v : Value = first vs in
      let n : read_of (RegisterO (r + length before)) ≡ v = first_given single vs (read_of (RegisterO (r + length before))) e in
      let there : length (before ++ v ∷ []) ≡ length before + 1 = length-append before (v ∷ []) in
      let more : Bounded (r + length before + 1) locals keeps = bounded_more low' (r + length before + 1) locals keeps (omega (arith, l1, l2)) b in
      let here : Here locals (r + length before + 1) (in_row r (before ++ v ∷ []) keeps) =
      with_keeps world codes (kept_more cs regs base r before keeps v (kept_there world codes w) n)
      (record { locals_below = more.locals_below; keeps_below = row_under (r + length before + 1) r (before ++ v ∷ []) keeps (omega (arith, there)) more.keeps_below }) (lists_of.row_room row) w in
      by_free world codes room flat 0 (Gives (Goes vs) (MoreNext (MoreC x es) before ∷ fs)) tree (Lists (MoreC x es) (before ++ v ∷ []) fs) tree refl
      (lists_of.row_meets world codes room index pc base frames acts fn fns g mine theirs beneath regs top s {r = r} {before = before ++ v ∷ []} {keeps = keeps} (omega (arith, there)) row here (omega (arith, l1, l2)) (omega arith) b
      (subst (λ (m : ℕ). RowWaits cs g (length theirs) beneath locals low' keeps pc' c' r (counted_from m count) fs) (sym there) k))
  given_meets vs (wait_last {low'} {keeps} {r} {before} {fs} l1 l2 b k) w e =
      let room_left : low' ≤ g.registers = let n = room_there world codes w in omega (arith, l1, n) in
      by_free world codes room flat 0 (Gives (Goes vs) (MoreNext NoC before ∷ fs)) tree (Gives (Goes (before ++ vs)) fs) tree refl
      (lists_of.row_given world codes room index pc base frames acts fn fns g mine theirs beneath regs top s (before ++ vs) k (with_keeps world codes (kept_behind cs regs base r before keeps (kept_there world codes w)) b room_left w)
      (row_full cs regs base r before keeps vs (kept_there world codes w) e))
  -- a list that is adjusted
  given_meets {single} vs (exact_goes_on {r} {before} l1 l2 b code k) w e = exacts_of.goes_on_met world codes room index pc base frames acts fn fns g mine theirs beneath regs top s vs w l1 l2 b code k (first_given single vs (read_of (RegisterO (r + length before))) e)
  given_meets vs (exact_adds l1 l2 b has k) w e = exacts_of.adds_met world codes room index pc base frames acts fn fns g mine theirs beneath regs top s vs w l1 l2 b has k e
  given_meets vs (exact_drops l1 l2 l3 b code k) w e = exacts_of.drops_met world codes room index pc base frames acts fn fns g mine theirs beneath regs top s vs w l1 l2 l3 b code k
  given_meets vs (exact_ends {low'} {keeps} {r} {before} {fs} l1 l2 b k) w e =
      let room_left : low' ≤ g.registers = let n = room_there world codes w in omega (arith, l1, n) in
      by_free world codes room flat 0 (Gives (Goes vs) (MoreNext NoC before ∷ fs)) tree (Gives (Goes (before ++ vs)) fs) tree refl
      (blocks_of.exact_given world codes room index base frames acts fn fns g theirs beneath regs top s (before ++ vs) k (with_keeps world codes (kept_behind cs regs base r before keeps (kept_there world codes w)) b room_left w)
      (row_full cs regs base r before keeps vs (kept_there world codes w) e ∙ sym (adjusted_full before vs (read_of (RegisterO (r + length before))) e)))
  given_meets vs (exact_drops_last {low'} {keeps} {r} {n} {before} {fs} l1 l2 l3 b k) w e =
      let room_left : low' ≤ g.registers = let q = room_there world codes w in omega (arith, l1, q) in
      by_free world codes room flat 0 (Gives (Goes vs) (MoreNext NoC before ∷ fs)) tree (Gives (Goes (before ++ vs)) fs) tree refl
      (blocks_of.exact_given world codes room index base frames acts fn fns g theirs beneath regs top s (before ++ vs) k (with_keeps world codes (kept_behind cs regs base r (take n before) keeps (kept_there world codes w)) b room_left w)
      (row_dropped cs regs base r n before vs keeps l3 (kept_there world codes w)))
  -- constructors
  given_meets {single} vs (wait_item l0 l1 l2 j b h code k) w e = lists_of.item_met world codes room index pc base frames acts fn fns g mine theirs beneath regs top s single vs w e l0 l1 l2 j b h code k
  given_meets {single} {c} {o} vs (wait_pair_key {t} {table} {n} {line} {e = x} {more} {fs} l0 l1 l2 l3 under b (made r v) h code k) w e =
      by_free world codes room flat c (Gives (Goes vs) (PairNext t n x more line ∷ fs)) tree (Evals x (PairNow t n (first vs) more line ∷ fs)) tree refl
      (values_of.value_meets world codes room index pc base frames acts fn fns g mine theirs beneath regs top s
      (values_of.keeping world codes room index pc base frames acts fn fns g mine theirs beneath regs top s o (first vs) (first_given single vs (read_of o) e) under l2 (omega (arith, r)) w) (omega arith) v
      (in_register (omega arith) (wait_pair l0 (omega (arith, l1, l2)) l3 b h code k)))
  given_meets {single} {c} {o} vs (wait_pair_key {t} {table} {n} {line} {b = a} {e = x} {more} {fs} l0 l1 l2 l3 under b (in_place th) h code k) w e =
      by_free world codes room flat c (Gives (Goes vs) (PairNext t n x more line ∷ fs)) tree (Evals x (PairNow t n (first vs) more line ∷ fs)) tree refl
      (values_of.reads world codes room index pc base frames acts fn fns g mine theirs beneath regs top s c w th (PairNow t n (first vs) more line ∷ fs)
      (lists_of.pair_met world codes room index pc base frames acts fn fns g mine theirs beneath regs top s (read_of a ∷ []) w (first_given single vs (read_of o) e) refl l0 l1 l3 b h code k))
  given_meets {single} {low} {o} {locals} vs (wait_pair {keeps} {t} {table} l0 l1 l2 b h code k) w e =
      let bound = bounded_there world codes w in
      let here : Here locals low ((RegisterO table, Table t) ∷ keeps) = with_keeps world codes (kept_there world codes w).1 (record { locals_below = bound.locals_below; keeps_below = bound.keeps_below.1 }) (room_there world codes w) w in
      lists_of.pair_met world codes room index pc base frames acts fn fns g mine theirs beneath regs top s vs here (kept_there world codes w).0 (first_given single vs (read_of o) e) l0 l1 l2 b h code k
  -- statements
  given_meets {single} {o} vs (wait_assign l tidy found setting r) w e = settings_of.assigned_met world codes room index pc base frames acts fn fns g mine theirs beneath regs top s w l tidy found setting r vs (first_given single vs (read_of o) e)
  given_meets {single} {o} vs (wait_stat k) w e = blocks_of.stat_taken world codes room index base frames acts fn fns g theirs beneath regs top s vs k w (first_given single vs (read_of o) e)

  -- A FIELD of a constructor was set: the next one
  field_meets : {locals : List Local} {low : ℕ} {keeps : Keeps} {fs : List SFrame} (vs : List Value) → FieldWaits cs g (length theirs) beneath locals low keeps pc fs → Here locals low keeps → Met 0 (Gives (Goes vs) fs)
  field_meets {low} vs (field_next {one} {low'} {t} {table} {n} {line} {fs} l0 l1 l2 b fields_end k) w =
      let room_left : low' ≤ g.registers = let q = room_there world codes w in omega (arith, l0, l1, q) in
      by_free world codes room flat 0 (Gives (Goes vs) (FieldsNext t n NoFieldC line ∷ fs)) tree (Gives (Goes (Table t ∷ [])) fs) tree refl
      (given_meets (Table t ∷ []) k (with_keeps world codes (kept_there world codes w).1 b room_left w) (given_one one (read_of (RegisterO table)) (Table t) (kept_there world codes w).0))
  field_meets vs (field_next {t} {n} {line} {fs} l0 l1 l2 b (field_item {e = x} {more} (made r v) h code) k) w =
      by_free world codes room flat 0 (Gives (Goes vs) (FieldsNext t n (ItemC x more) line ∷ fs)) tree (Evals x (ItemNow t n more line ∷ fs)) tree refl
      (values_of.value_meets world codes room index pc base frames acts fn fns g mine theirs beneath regs top s (table_only w l0 l1 b) (omega (arith, l2)) v
      (in_register (omega (arith, l2)) (wait_item l0 (omega arith) l2 (operations_of.item_last more) b h code k)))
  field_meets vs (field_next {t} {n} {line} {fs} l0 l1 l2 b (field_item {e = x} {o = a} {more} (in_place th) h code) k) w =
      by_free world codes room flat 0 (Gives (Goes vs) (FieldsNext t n (ItemC x more) line ∷ fs)) tree (Evals x (ItemNow t n more line ∷ fs)) tree refl
      (values_of.reads world codes room index pc base frames acts fn fns g mine theirs beneath regs top s 0 w th (ItemNow t n more line ∷ fs)
      (lists_of.item_met world codes room index pc base frames acts fn fns g mine theirs beneath regs top s true (read_of a ∷ []) w refl l0 l1 l2 (item_alone more) b h code k))
  field_meets vs (field_next {t} {n} {line} {fs} l0 l1 l2 b (field_items {e = x} many h) k) w =
      by_free world codes room flat 0 (Gives (Goes vs) (FieldsNext t n (ItemC x NoFieldC) line ∷ fs)) tree (Evals x (ItemNow t n NoFieldC line ∷ fs)) tree refl
      (values_of.many_meets world codes room index pc base frames acts fn fns g mine theirs beneath regs top s (table_only w l0 l1 b) (omega (arith, l2)) many (land_all (omega (arith, l2)) (row_items l0 (omega arith) b h k)))
  field_meets vs (field_next {t} {n} {line} {fs} l0 l1 l2 b (field_pair {key} {e = x} {more} (made r v) ob h code) k) w =
      by_free world codes room flat 0 (Gives (Goes vs) (FieldsNext t n (PairC key x more) line ∷ fs)) tree (Evals key (PairNext t n x more line ∷ fs)) tree refl
      (values_of.value_meets world codes room index pc base frames acts fn fns g mine theirs beneath regs top s (table_only w l0 l1 b) (omega (arith, l2)) v
      (in_register (omega (arith, l2)) (wait_pair_key l0 (omega arith) (omega (arith, l2)) l2 (omega arith) b ob h code k)))
  field_meets vs (field_next {t} {n} {line} {fs} l0 l1 l2 b (field_pair {key} {e = x} {a} {more} (in_place th) ob h code) k) w =
      by_free world codes room flat 0 (Gives (Goes vs) (FieldsNext t n (PairC key x more) line ∷ fs)) tree (Evals key (PairNext t n x more line ∷ fs)) tree refl
      (values_of.reads world codes room index pc base frames acts fn fns g mine theirs beneath regs top s 0 w th (PairNext t n x more line ∷ fs)
      (given_meets {single = true} (read_of a ∷ []) (wait_pair_key l0 (omega arith) (omega (arith, l2)) l2
      (values_of.there_below world codes room index pc base frames acts fn fns g mine theirs beneath regs top s (table_only w l0 l1 b) (omega (arith, l2)) th) b ob h code k) (table_only w l0 l1 b) refl))
  field_meets vs (field_last {one} {low'} {t} {table} {n} {line} {fs} l0 l1 b k) w =
      let room_left : low' ≤ g.registers = let q = room_there world codes w in omega (arith, l0, l1, q) in
      by_free world codes room flat 0 (Gives (Goes vs) (ItemsNext t n [] line ∷ fs)) tree (Gives (Goes (Table t ∷ [])) fs) tree refl
      (given_meets (Table t ∷ []) k (with_keeps world codes (kept_there world codes w).1 b room_left w) (given_one one (read_of (RegisterO table)) (Table t) (kept_there world codes w).0))

  -- AT EACH OF THESE both stand together
  pub begun : {single : Bool} {free to end low : ℕ} {e : CExp} {locals : List Local} {keeps : Keeps} {fs : List SFrame} → Here locals low keeps → low ≤ free → IsValue g locals single free e 0 to pc end → Lands cs g (length theirs) beneath (writes_last e) single locals low keeps end to fs
      → Follows world codes (flat_moves world codes room flat) (Now (Evals e fs) tree)
  begun {e} {fs} w l v lands = whole world codes room flat (Evals e fs) tree (values_of.value_meets world codes room index pc base frames acts fn fns g mine theirs beneath regs top s w l v lands)

  pub many_begun : {wanted : Wanted} {free to end low : ℕ} {e : CExp} {locals : List Local} {keeps : Keeps} {fs : List SFrame} → Here locals low keeps → low ≤ free → IsMany g locals free e 0 to wanted pc end → LandsMany cs g (length theirs) beneath wanted locals low keeps end to fs
      → Follows world codes (flat_moves world codes room flat) (Now (Evals e fs) tree)
  many_begun {e} {fs} w l m k = whole world codes room flat (Evals e fs) tree (values_of.many_meets world codes room index pc base frames acts fn fns g mine theirs beneath regs top s w l m k)

  pub operand_begun : {single : Bool} {free c' pc' free' low : ℕ} {e : CExp} {o : Operand} {locals : List Local} {keeps : Keeps} {fs : List SFrame} → Here locals low keeps → low ≤ free → IsOperand g locals single free e 0 o pc c' pc' free'
      → Waits cs g (length theirs) beneath single locals low keeps pc' c' o fs → Follows world codes (flat_moves world codes room flat) (Now (Evals e fs) tree)
  operand_begun {e} {fs} w l (made r v) waits =
      whole world codes room flat (Evals e fs) tree (values_of.value_meets world codes room index pc base frames acts fn fns g mine theirs beneath regs top s w (omega (arith, l)) v (in_register l waits))
  operand_begun {single} {e} {o} {fs} w l (in_place th) waits =
      whole world codes room flat (Evals e fs) tree
      (values_of.reads world codes room index pc base frames acts fn fns g mine theirs beneath regs top s 0 w th fs (given_meets (read_of o ∷ []) waits w (given_one single (read_of o) (read_of o) refl)))

  pub given : {single : Bool} {low : ℕ} {o : Operand} {locals : List Local} {keeps : Keeps} {fs : List SFrame} (vs : List Value) → Here locals low keeps → IsGiven single vs (read_of o) → Waits cs g (length theirs) beneath single locals low keeps pc 0 o fs
      → Follows world codes (flat_moves world codes room flat) (Now (Gives (Goes vs) fs) tree)
  given {fs} vs w e waits = whole world codes room flat (Gives (Goes vs) fs) tree (given_meets vs waits w e)

  pub row_stood : {low r : ℕ} {count : Wanted} {locals : List Local} {keeps : Keeps} {fs : List SFrame} (vs : List Value) → Here locals low keeps → IsRowed regs top (base + r) count vs → RowWaits cs g (length theirs) beneath locals low keeps pc 0 r count fs
      → Follows world codes (flat_moves world codes room flat) (Now (Gives (Goes vs) fs) tree)
  row_stood {fs} vs w e k = whole world codes room flat (Gives (Goes vs) fs) tree (lists_of.row_given world codes room index pc base frames acts fn fns g mine theirs beneath regs top s vs k w e)

  pub field_stood : {low : ℕ} {locals : List Local} {keeps : Keeps} {fs : List SFrame} (vs : List Value) → Here locals low keeps → FieldWaits cs g (length theirs) beneath locals low keeps pc fs
      → Follows world codes (flat_moves world codes room flat) (Now (Gives (Goes vs) fs) tree)
  field_stood {fs} vs w k = whole world codes room flat (Gives (Goes vs) fs) tree (field_meets vs k w)

pub expressions_are_moves : ExpressionsAreMoves
expressions_are_moves world codes room f p s (begins_it {a} {acts} {fn} {fns} {g} {mine} {theirs} {regs} {beneath} {top} t w l v lands) =
    begun world codes room a.index a.pc a.base a.frames acts fn fns g mine theirs beneath regs top t w l v lands
expressions_are_moves world codes room f p s (begins_several {a} {acts} {fn} {fns} {g} {mine} {theirs} {regs} {beneath} {top} t w l m k) =
    many_begun world codes room a.index a.pc a.base a.frames acts fn fns g mine theirs beneath regs top t w l m k
expressions_are_moves world codes room f p s (begins_operand {a} {acts} {fn} {fns} {g} {mine} {theirs} {regs} {beneath} {top} t w l ob waits) =
    operand_begun world codes room a.index a.pc a.base a.frames acts fn fns g mine theirs beneath regs top t w l ob waits
expressions_are_moves world codes room f p s (is_given_it {a} {acts} {fn} {fns} {g} {mine} {theirs} {regs} {beneath} {top} {vs} t w e waits) =
    given world codes room a.index a.pc a.base a.frames acts fn fns g mine theirs beneath regs top t vs w e waits
expressions_are_moves world codes room f p s (has_list {a} {acts} {fn} {fns} {g} {mine} {theirs} {regs} {beneath} {top} {vs} t w e k) =
    row_stood world codes room a.index a.pc a.base a.frames acts fn fns g mine theirs beneath regs top t vs w e k
expressions_are_moves world codes room f p s (has_field {a} {acts} {fn} {fns} {g} {mine} {theirs} {regs} {beneath} {top} {vs} t w k) =
    field_stood world codes room a.index a.pc a.base a.frames acts fn fns g mine theirs beneath regs top t vs w k
