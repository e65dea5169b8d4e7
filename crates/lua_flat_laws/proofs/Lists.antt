-- LISTS of values, and the fields of constructors: down their code to the operation that stands there.
use Rattle.std.proofs.Common.{◌≡◌, ℕ, zero, ◌+◌, ◌≤◌, ◌<◌, ◌∙◌, Bool, true, false, List, [], ◌∷◌, ◌++◌, refl, sym, ap, subst, arith}
use Rattle.std.specs.Prelude.{pos, length, slice_get}
use Rattle.lua_goes.specs.PageRunOutcome.{Goes}
use Rattle.lua_goes.specs.LuaHeapValue.{Value, Number, Table}
use Rattle.lua_goes.specs.LuaMeaningValues.{first}
use Rattle.lua_goes.specs.LuaSlotsCode.{Constants, CExp, CExps, NoC, MoreC, CFields, NoFieldC, ItemC, PairC, CWorld}
use Rattle.lua_goes.specs.LuaSlotsSlots.{Slot, Activation, Slots}
use Rattle.lua_goes.specs.LuaSlotsPoints.{SFrame, CallNow, MoreNext, ItemNow, PairNow, Point, Gives, Evals, Lists}
use Rattle.lua_goes.specs.LuaSlotsExpressions as expressions
use Rattle.lua_flat.specs.Locals.{Local}
use Rattle.lua_flat.specs.Operations.{Operand, RegisterO, ConstantO, Wanted, Exactly, Every, Op, SetFieldF, SetItemsF, CallF, FlatFunction, Codes}
use Rattle.lua_flat.specs.Registers.{operand, values_at}
use Rattle.lua_flat.specs.Does.{values_to}
use Rattle.lua_flat.specs.Flat.{Act, Flat, FNodes}
use Rattle.lua_flat.specs.Moves.{does, flat_moves}
use Rattle.lua_flat.specs.IsExpression.{Has, HasAt, one_more, is_last, IsRow, row_none, row_one, row_many, row_more, IsFields, fields_end}
use Rattle.lua_flat.specs.Keeps.{Keeps, Bounded, in_row}
use Rattle.lua_flat.specs.WaitsStatement.{row_return}
use Rattle.lua_flat.specs.WaitsExpression.{counted_from, IsItem, Waits, wait_more, wait_last, in_register, LandsMany, land_row, RowWaits, row_call, row_items, row_stat, field_next, field_last}
use Rattle.lua_flat.specs.Stands.{in_tree, in_code, constants_in, IsRowed, IsGiven, Within}
use Rattle.lua_flat_laws.specs.Follows.{Follows}
use Rattle.lua_flat_laws.proofs.Kept.{with_keeps, code_there, kept_there, room_there}
use Rattle.lua_flat_laws.proofs.Meets.{first_given, Meets, by_free, by_operation}
use Rattle.lua_flat_laws.proofs.Rows.{kept_row, kept_behind}
use Rattle.lua_flat_laws.proofs.Acts as acts_of
use Rattle.lua_flat_laws.proofs.Operations as operations_of
use Rattle.lua_flat_laws.proofs.Returns as returns_of
use Rattle.lua_flat_laws.proofs.Values as values_of

-- HOW MANY there are, behind those before
pub counted_none : (count : Wanted) → counted_from zero count ≡ count
counted_none (Exactly n) = ap Exactly (omega arith)
counted_none Every = refl

pub counted_one : (count : Wanted) → counted_from 1 count ≡ one_more count
counted_one (Exactly n) = ap Exactly (omega arith)
counted_one Every = refl

counted_more : (n : ℕ) (count : Wanted) → counted_from n (one_more count) ≡ counted_from (n + 1) count
counted_more n (Exactly m) = ap Exactly (omega arith)
counted_more n Every = refl

-- its first register is there
pub row_room : {g : FlatFunction} {locals : List Local} {r c pc c' pc' : ℕ} {e : CExp} {es : CExps} {count : Wanted} → IsRow g locals r (MoreC e es) c pc c' pc' count → r ≤ g.registers
row_room (row_one l v) = omega (arith, l)
row_room (row_many l m) = l
row_room (row_more l v row) = omega (arith, l)

module _ (world : CWorld) (codes : Codes) (room : ℕ) (index pc base : ℕ) (frames : List SFrame) (acts : List Act) (fn : Activation) (fns : List Activation) (g : FlatFunction) (mine theirs : List Slot) (beneath : List SFrame) (regs : List Slot) (top : ℕ) (s : Slots) where
  abbrev act : Act
  act = record { index = index; pc = pc; base = base; frames = frames }

  abbrev cs : Constants
  cs = constants_in world fn.source

  abbrev tree : Slots
  tree = in_tree (mine ++ theirs) (fn ∷ fns) s

  abbrev flat : Flat
  flat = in_code act acts regs top tree

  abbrev Here : List Local → ℕ → Keeps → Type 0
  Here locals low keeps = Within world codes regs act acts fn fns g mine theirs beneath locals low keeps

  abbrev pub Met : ℕ → Point → Type 0
  Met c p = Meets world codes room flat c p tree

  abbrev read_of : Operand → Value
  read_of o = operand cs regs base o

  next_is : {locals : List Local} {low : ℕ} {keeps : Keeps} → Here locals low keeps → (c : ℕ) (op : Op) → Has g pc c op → flat_moves world codes room flat ≡ FNodes c (does codes cs (slice_get g.lines pc) op act acts flat)
  next_is w c op has = acts_of.operation_at world codes room index pc base frames acts fn fns g mine theirs beneath regs top s c op (code_there world codes w) has

  -- A LIST is there, with all its values
  pub row_given : {locals : List Local} {low c r : ℕ} {count : Wanted} {keeps : Keeps} {fs : List SFrame} (vs : List Value) → RowWaits cs g (length theirs) beneath locals low keeps pc c r count fs → Here locals low keeps → IsRowed regs top (base + r) count vs → Met c (Gives (Goes vs) fs)
  row_given {c} vs (row_call {low'} {q} {line} {to} {f} {count} {wanted} {fs} l1 l2 b h k) w e =
      let r : low' ≤ g.registers = let n = room_there world codes w in omega (arith, l1, l2, n) in
      let place_is : base + q + 1 ≡ base + (q + 1) = omega arith in
      by_operation world codes room flat c (Gives (Goes vs) (CallNow f line ∷ fs)) tree (does codes cs (slice_get g.lines pc) (CallF to q count wanted) act acts flat) (next_is w c (CallF to q count wanted) h.0)
      (operations_of.call_acts world codes room index pc base frames acts fn fns g mine theirs beneath regs top (with_keeps world codes (kept_there world codes w).1 b r w) k h l1 f vs (kept_there world codes w).0 (ap (λ (n : ℕ). values_to count regs n top) place_is ∙ e) s)
  row_given {c} vs (row_items {t} {table} {n} {line} {from} {fs} l0 l b h k) w e =
      by_operation world codes room flat c (Gives (Goes vs) (ItemNow t n NoFieldC line ∷ fs)) tree (does codes cs (slice_get g.lines pc) (SetItemsF table n from) act acts flat) (next_is w c (SetItemsF table n from) h.0)
      (operations_of.items_acts world codes room index pc base frames acts fn fns g mine theirs beneath regs top w l0 l b h k vs e s)
  row_given vs (row_stat (row_return has r)) w e = returns_of.row_returns world codes room index pc base frames acts fn fns g mine theirs beneath regs top s vs w e has r

  -- A LIST with all its values, behind those that stand before
  pub row_meets : {locals : List Local} {r q c c' pc' low low' : ℕ} {es : CExps} {count : Wanted} {before : List Value} {keeps : Keeps} {fs : List SFrame} → q ≡ r + length before → IsRow g locals q es c pc c' pc' count → Here locals low (in_row r before keeps) → low' ≤ low → low ≤ q → Bounded low' locals keeps
      → RowWaits cs g (length theirs) beneath locals low' keeps pc' c' r (counted_from (length before) count) fs → Met c (Lists es before fs)
  row_meets {r} {c} {low} {low'} {before} {keeps} {fs} e row_none w l1 l2 b k =
      let n : length before + 0 ≡ length before = omega arith in
      let room_left : low' ≤ g.registers = let q = room_there world codes w in omega (arith, l1, q) in
      by_free world codes room flat c (Lists NoC before fs) tree (Gives (Goes before) fs) tree refl
      (row_given before k (with_keeps world codes (kept_behind cs regs base r before keeps (kept_there world codes w)) b room_left w) (ap (λ (m : ℕ). values_at regs (base + r) m) n ∙ kept_row cs regs base r before keeps (kept_there world codes w)))
  row_meets {locals} {r} {q} {c} {pc'} {low} {before} {keeps} {fs} e (row_one {e = x} l v) w l1 l2 b k =
      by_free world codes room flat c (Lists (MoreC x NoC) before fs) tree (Evals x (MoreNext NoC before ∷ fs)) tree refl
      (values_of.value_meets world codes room index pc base frames acts fn fns g mine theirs beneath regs top s w (omega (arith, l2)) v
      (in_register l2 (subst (λ (n : ℕ). Waits cs g (length theirs) beneath true locals low (in_row r before keeps) pc' 0 (RegisterO n) (MoreNext NoC before ∷ fs)) (sym e) (wait_last l1 (omega (arith, e, l2)) b k))))
  row_meets {locals} {r} {q} {c} {pc'} {low} {before} {keeps} {fs} e (row_many {e = x} l m) w l1 l2 b k =
      by_free world codes room flat c (Lists (MoreC x NoC) before fs) tree (Evals x (MoreNext NoC before ∷ fs)) tree refl
      (values_of.many_meets world codes room index pc base frames acts fn fns g mine theirs beneath regs top s w l2 m
      (subst (λ (n : ℕ). LandsMany cs g (length theirs) beneath Every locals low (in_row r before keeps) pc' n (MoreNext NoC before ∷ fs)) (sym e) (land_row l1 (omega (arith, e, l2)) b k)))
  row_meets {locals} {r} {q} {c} {c'} {pc'} {low} {low'} {before} {keeps} {fs} e (row_more {pc1} {e = x} {e' = y} {es} {count} l v row) w l1 l2 b k =
      by_free world codes room flat c (Lists (MoreC x (MoreC y es)) before fs) tree (Evals x (MoreNext (MoreC y es) before ∷ fs)) tree refl
      (values_of.value_meets world codes room index pc base frames acts fn fns g mine theirs beneath regs top s w (omega (arith, l2)) v
      (in_register l2 (subst (λ (n : ℕ). Waits cs g (length theirs) beneath false locals low (in_row r before keeps) pc1 0 (RegisterO n) (MoreNext (MoreC y es) before ∷ fs)) (sym e)
      (wait_more l1 (omega (arith, e, l2)) b (subst (λ (n : ℕ). IsRow g locals (n + 1) (MoreC y es) 0 pc1 c' pc' count) e row)
      (subst (λ (n : Wanted). RowWaits cs g (length theirs) beneath locals low' keeps pc' c' r n fs) (counted_more (length before) count) k)))))

  -- AN ITEM of a constructor is there; and a pair
  item_set : {one : Bool} {locals : List Local} {low low' c t table n line free end : ℕ} {a : Operand} {keeps : Keeps} {fs : List SFrame} (more : CFields) (v : Value) → Here locals low ((RegisterO table, Table t) ∷ keeps) → read_of a ≡ v → low' ≤ table → table < low → table < free → Bounded low' locals keeps
      → HasAt g pc c line (SetFieldF table (ConstantO (Number (pos n))) a) → IsFields g locals free more table (n + 1) line (pc + 1) end → Waits cs g (length theirs) beneath one locals low' keeps end 0 (RegisterO table) fs
      → (vs : List Value) → first vs ≡ v → (is_last more ≡ true → vs ≡ v ∷ []) → Met c (Gives (Goes vs) (ItemNow t n more line ∷ fs))
  item_set {c} {t} {table} {n} {line} {a} {fs} NoFieldC v w ea l0 l1 l2 b h fields_end k vs ev only =
      by_operation world codes room flat c (Gives (Goes vs) (ItemNow t n NoFieldC line ∷ fs)) tree (does codes cs (slice_get g.lines pc) (SetFieldF table (ConstantO (Number (pos n))) a) act acts flat) (next_is w c (SetFieldF table (ConstantO (Number (pos n))) a) h.0)
      (subst (λ (xs : List Value). Follows world codes (does codes cs (slice_get g.lines pc) (SetFieldF table (ConstantO (Number (pos n))) a) act acts flat) (expressions.items t n xs line fs tree)) (sym (only refl))
      (operations_of.field_acts world codes room index pc base frames acts fn fns g mine theirs beneath regs top w (field_last l0 l1 b k) h (kept_there world codes w).0 (Number (pos n)) v refl ea s))
  item_set {c} {t} {table} {n} {line} {a} {fs} (ItemC x more) v w ea l0 l1 l2 b h code k vs ev only =
      by_operation world codes room flat c (Gives (Goes vs) (ItemNow t n (ItemC x more) line ∷ fs)) tree (does codes cs (slice_get g.lines pc) (SetFieldF table (ConstantO (Number (pos n))) a) act acts flat) (next_is w c (SetFieldF table (ConstantO (Number (pos n))) a) h.0)
      (operations_of.field_acts world codes room index pc base frames acts fn fns g mine theirs beneath regs top w (field_next l0 l1 l2 b code k) h (kept_there world codes w).0 (Number (pos n)) (first vs) refl (ea ∙ sym ev) s)
  item_set {c} {t} {table} {n} {line} {a} {fs} (PairC key x more) v w ea l0 l1 l2 b h code k vs ev only =
      by_operation world codes room flat c (Gives (Goes vs) (ItemNow t n (PairC key x more) line ∷ fs)) tree (does codes cs (slice_get g.lines pc) (SetFieldF table (ConstantO (Number (pos n))) a) act acts flat) (next_is w c (SetFieldF table (ConstantO (Number (pos n))) a) h.0)
      (operations_of.field_acts world codes room index pc base frames acts fn fns g mine theirs beneath regs top w (field_next l0 l1 l2 b code k) h (kept_there world codes w).0 (Number (pos n)) (first vs) refl (ea ∙ sym ev) s)

  only_one : (single : Bool) (more : CFields) (vs : List Value) (v : Value) → IsItem more single → IsGiven single vs v → is_last more ≡ true → vs ≡ v ∷ []
  only_one true NoFieldC vs v i e l = e
  only_one false NoFieldC vs v i e l = absurd cc
  only_one single (ItemC x more) vs v i e l = absurd cc
  only_one single (PairC key x more) vs v i e l = absurd cc

  pub item_met : {one : Bool} {locals : List Local} {low low' c t table n line free end : ℕ} {a : Operand} {more : CFields} {keeps : Keeps} {fs : List SFrame} (single : Bool) (vs : List Value) → Here locals low ((RegisterO table, Table t) ∷ keeps) → IsGiven single vs (read_of a) → low' ≤ table → table < low → table < free → IsItem more single
      → Bounded low' locals keeps → HasAt g pc c line (SetFieldF table (ConstantO (Number (pos n))) a) → IsFields g locals free more table (n + 1) line (pc + 1) end → Waits cs g (length theirs) beneath one locals low' keeps end 0 (RegisterO table) fs → Met c (Gives (Goes vs) (ItemNow t n more line ∷ fs))
  item_met {a} {more} single vs w e l0 l1 l2 i b h code k = item_set more (read_of a) w refl l0 l1 l2 b h code k vs (sym (first_given single vs (read_of a) e)) (only_one single more vs (read_of a) i e)

  pub pair_met : {one : Bool} {locals : List Local} {low low' c t table n line free end : ℕ} {a o : Operand} {key : Value} {more : CFields} {keeps : Keeps} {fs : List SFrame} (vs : List Value) → Here locals low ((RegisterO table, Table t) ∷ keeps) → read_of a ≡ key → read_of o ≡ first vs → low' ≤ table → table < low → table < free
      → Bounded low' locals keeps → HasAt g pc c line (SetFieldF table a o) → IsFields g locals free more table n line (pc + 1) end → Waits cs g (length theirs) beneath one locals low' keeps end 0 (RegisterO table) fs → Met c (Gives (Goes vs) (PairNow t n key more line ∷ fs))
  pair_met {c} {t} {table} {n} {line} {a} {o} {key} {more} {fs} vs w ea eo l0 l1 l2 b h code k =
      by_operation world codes room flat c (Gives (Goes vs) (PairNow t n key more line ∷ fs)) tree (does codes cs (slice_get g.lines pc) (SetFieldF table a o) act acts flat) (next_is w c (SetFieldF table a o) h.0)
      (operations_of.field_acts world codes room index pc base frames acts fn fns g mine theirs beneath regs top w (field_next l0 l1 l2 b code k) h (kept_there world codes w).0 key (first vs) ea eo s)
