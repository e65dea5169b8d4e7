-- OPERATIONS THAT CALL, and those of constructors: what the machine over trees does at the same steps.
use Rattle.std.proofs.Common.{◌≡◌, ℕ, ◌+◌, ◌≤◌, ◌<◌, ◌∙◌, Bool, List, [], ◌∷◌, ◌++◌, Option, Some, refl, sym, ap, subst, arith}
use Rattle.std.specs.Prelude.{pos, length, slice_get}
use Rattle.lua_goes.specs.LuaHeapValue.{Value, Number, Text, Table}
use Rattle.lua_goes.specs.LuaSlotsCode.{Constants, CExp, CExps, CFields, NoFieldC, ItemC, PairC, CWorld}
use Rattle.lua_goes.specs.LuaSlotsSlots.{Slot, Plain, Activation, Slots}
use Rattle.lua_goes.specs.LuaSlotsPoints.{SFrame, MethodNow, ItemsNext, Move}
use Rattle.lua_goes.specs.LuaSlotsCalls as calls
use Rattle.lua_goes.specs.LuaSlotsIndex as indexing
use Rattle.lua_goes.specs.LuaSlotsExpressions as expressions
use Rattle.lua_flat.specs.Locals.{Local, PlainL}
use Rattle.lua_flat.specs.Operations.{Operand, RegisterO, Wanted, Every, Op, MethodF, SetIndexF, SetGlobalF, SetFieldF, SetItemsF, CallF, FlatFunction, Codes}
use Rattle.lua_flat.specs.Registers.{read, put, operand}
use Rattle.lua_flat.specs.Does.{values_to, set_field, set_items, or_zero}
use Rattle.lua_flat.specs.Flat.{Act, Flat, FNow}
use Rattle.lua_flat.specs.Moves.{settled, does}
use Rattle.lua_flat.specs.IsExpression.{Has, HasAt, one_more, is_last, IsOperand, in_place, made, IsThere, there_local, there_constant, there_text, IsRow, IsFields, fields_end, field_item, field_items, field_pair}
use Rattle.lua_flat.specs.Keeps.{Keeps, IsBelow, LocalsBelow, Bounded}
use Rattle.lua_flat.specs.WaitsStatement.{Resumes}
use Rattle.lua_flat.specs.WaitsExpression.{IsItem, Waits, wait_item, wait_pair_key, LandsMany, land_all, row_items, FieldWaits}
use Rattle.lua_flat.specs.Stands.{erased, in_tree, in_code, constants_in, Within, await_call, await_method, await_set, await_set_global, await_field, await_items, at_operand, at_many, at_given}
use Rattle.lua_flat_laws.specs.Follows.{Follows, follow_stands}
use Rattle.lua_flat_laws.proofs.Likewise as like
use Rattle.lua_flat_laws.proofs.Kept.{put_value, keep_within, with_keeps, moved, kept_there, bounded_there, room_there, bounded_more, local_below}
use Rattle.lua_flat_laws.proofs.Meets.{given_one}
use Rattle.lua_flat_laws.proofs.Acts as acts_of
use Rattle.lua_flat_laws.proofs.ComesBack as comes_of

-- AN OPERAND'S register is below those that are free behind it
there_under : {locals : List Local} {e : CExp} {o : Operand} (free : ℕ) → LocalsBelow free locals → IsThere locals e o → IsBelow free o
there_under {locals} free b (there_local {i} {r} e) = local_below free locals i (PlainL r) b e
there_under free b there_constant = tt
there_under free b there_text = tt

pub operand_under : {g : FlatFunction} {locals : List Local} {single : Bool} {free c pc c' pc' free' : ℕ} {e : CExp} {o : Operand} → LocalsBelow free locals → IsOperand g locals single free e c o pc c' pc' free' → IsBelow free' o
operand_under {free} b (in_place th) = there_under free b th
operand_under b (made r v) = omega arith

pub free_rises : {g : FlatFunction} {locals : List Local} {single : Bool} {free c pc c' pc' free' : ℕ} {e : CExp} {o : Operand} → IsOperand g locals single free e c o pc c' pc' free' → free ≤ free'
free_rises (in_place th) = omega arith
free_rises (made r v) = omega arith

-- the last item of a constructor gives one value here
pub item_last : (more : CFields) → IsItem more (is_last more)
item_last NoFieldC = refl
item_last (ItemC e more) = tt
item_last (PairC key e more) = tt

module _ (world : CWorld) (codes : Codes) (room : ℕ) (index pc base : ℕ) (frames : List SFrame) (acts : List Act) (fn : Activation) (fns : List Activation) (g : FlatFunction) (mine theirs : List Slot) (beneath : List SFrame) (regs : List Slot) (top : ℕ) where
  abbrev act : Act
  act = record { index = index; pc = pc; base = base; frames = frames }

  abbrev cs : Constants
  cs = constants_in world fn.source

  abbrev tree : Slots → Slots
  tree s = in_tree (mine ++ theirs) (fn ∷ fns) s

  abbrev flat : Slots → Flat
  flat s = in_code act acts regs top (tree s)

  abbrev Here : List Local → ℕ → Keeps → Type 0
  Here locals low keeps = Within world codes regs act acts fn fns g mine theirs beneath locals low keeps

  -- what this operation does, with its line
  abbrev Acts : Op → Move → Slots → Type 0
  Acts op mv s = Follows world codes (does codes cs (slice_get g.lines pc) op act acts (flat s)) mv

  -- A CALL
  pub call_acts : {wanted : Wanted} {locals : List Local} {low to c line q : ℕ} {arguments : Wanted} {keeps : Keeps} {fs : List SFrame} → Here locals low keeps → LandsMany cs g (length theirs) beneath wanted locals low keeps (pc + 1) to fs → HasAt g pc c line (CallF to q arguments wanted)
      → low ≤ q → (f : Value) (args : List Value) → read regs (base + q) ≡ f → values_to arguments regs (base + q + 1) top ≡ args → (s : Slots) → Acts (CallF to q arguments wanted) (calls.call f args (Some line) fs (tree s)) s
  call_acts {line} {q} {arguments} {fs} w k h l f args ef ea s =
      let goal : Move = calls.call f args (Some line) fs (tree s) in
      subst (λ (n : Option ℕ). Follows world codes (settled codes (calls.call (read regs (base + q)) (values_to arguments regs (base + q + 1) top) n [] (erased (tree s))) (flat s)) goal) (sym h.1)
      (subst (λ (x : Value). Follows world codes (settled codes (calls.call x (values_to arguments regs (base + q + 1) top) (Some line) [] (erased (tree s))) (flat s)) goal) (sym ef)
      (subst (λ (xs : List Value). Follows world codes (settled codes (calls.call f xs (Some line) [] (erased (tree s))) (flat s)) goal) (sym ea)
      (comes_of.acts_by world codes room index pc base frames acts fn fns g mine theirs beneath regs top (await_call l h.0 k) w (like.call [] fs [] tt f args (Some line) (tree s)) s)))

  -- AN ASSIGNMENT to an entry, and to a global variable
  pub set_acts : {away : Option ℕ} {locals : List Local} {low c line : ℕ} {a b o : Operand} {keeps : Keeps} {fs : List SFrame} → Here locals low keeps → Resumes cs g (length theirs) beneath away locals low keeps (pc + 1) 0 fs → HasAt g pc c line (SetIndexF a b o)
      → (of key v : Value) → operand cs regs base a ≡ of → operand cs regs base b ≡ key → operand cs regs base o ≡ v → (s : Slots) → Acts (SetIndexF a b o) (indexing.set_index of key v (Some line) fs (tree s)) s
  set_acts {line} {a} {b} {o} {fs} w r h of key v ea eb eo s =
      let goal : Move = indexing.set_index of key v (Some line) fs (tree s) in
      subst (λ (l : Option ℕ). Follows world codes (settled codes (indexing.set_index (operand cs regs base a) (operand cs regs base b) (operand cs regs base o) l [] (erased (tree s))) (flat s)) goal) (sym h.1)
      (subst (λ (x : Value). Follows world codes (settled codes (indexing.set_index x (operand cs regs base b) (operand cs regs base o) (Some line) [] (erased (tree s))) (flat s)) goal) (sym ea)
      (subst (λ (x : Value). Follows world codes (settled codes (indexing.set_index of x (operand cs regs base o) (Some line) [] (erased (tree s))) (flat s)) goal) (sym eb)
      (subst (λ (x : Value). Follows world codes (settled codes (indexing.set_index of key x (Some line) [] (erased (tree s))) (flat s)) goal) (sym eo)
      (comes_of.acts_by world codes room index pc base frames acts fn fns g mine theirs beneath regs top (await_set h.0 r) w (like.set_index [] fs [] tt of key v (Some line) (tree s)) s))))

  pub set_global_acts : {away : Option ℕ} {locals : List Local} {low c line x : ℕ} {o : Operand} {keeps : Keeps} {fs : List SFrame} → Here locals low keeps → Resumes cs g (length theirs) beneath away locals low keeps (pc + 1) 0 fs → HasAt g pc c line (SetGlobalF x o)
      → (v : Value) → operand cs regs base o ≡ v → (s : Slots) → Acts (SetGlobalF x o) (indexing.set_index (Table s.globals) (Text (cs x)) v (Some line) fs (tree s)) s
  set_global_acts {line} {x} {o} {fs} w r h v eo s =
      let goal : Move = indexing.set_index (Table s.globals) (Text (cs x)) v (Some line) fs (tree s) in
      subst (λ (l : Option ℕ). Follows world codes (settled codes (indexing.set_index (Table s.globals) (Text (cs x)) (operand cs regs base o) l [] (erased (tree s))) (flat s)) goal) (sym h.1)
      (subst (λ (y : Value). Follows world codes (settled codes (indexing.set_index (Table s.globals) (Text (cs x)) y (Some line) [] (erased (tree s))) (flat s)) goal) (sym eo)
      (comes_of.acts_by world codes room index pc base frames acts fn fns g mine theirs beneath regs top (await_set_global h.0 r) w (like.set_index [] fs [] tt (Table s.globals) (Text (cs x)) v (Some line) (tree s)) s))

  -- A FIELD of a constructor
  pub field_acts : {locals : List Local} {low c line table t : ℕ} {a o : Operand} {keeps : Keeps} {fs : List SFrame} → Here locals low keeps → FieldWaits cs g (length theirs) beneath locals low keeps (pc + 1) fs → HasAt g pc c line (SetFieldF table a o)
      → read regs (base + table) ≡ Table t → (key v : Value) → operand cs regs base a ≡ key → operand cs regs base o ≡ v → (s : Slots) → Acts (SetFieldF table a o) (indexing.set_entry t key v (Some line) fs (tree s)) s
  field_acts {line} {table} {t} {a} {o} {fs} w k h et key v ea eo s =
      let goal : Move = indexing.set_entry t key v (Some line) fs (tree s) in
      subst (λ (l : Option ℕ). Follows world codes (settled codes (set_field (read regs (base + table)) (operand cs regs base a) (operand cs regs base o) l (erased (tree s))) (flat s)) goal) (sym h.1)
      (subst (λ (x : Value). Follows world codes (settled codes (set_field x (operand cs regs base a) (operand cs regs base o) (Some line) (erased (tree s))) (flat s)) goal) (sym et)
      (subst (λ (x : Value). Follows world codes (settled codes (set_field (Table t) x (operand cs regs base o) (Some line) (erased (tree s))) (flat s)) goal) (sym ea)
      (subst (λ (x : Value). Follows world codes (settled codes (set_field (Table t) key x (Some line) (erased (tree s))) (flat s)) goal) (sym eo)
      (comes_of.acts_by world codes room index pc base frames acts fn fns g mine theirs beneath regs top (await_field h.0 k) w (like.set_entry [] fs [] tt t key v (Some line) (tree s)) s))))

  -- THE LAST ITEM'S values
  items_act : {one : Bool} {locals : List Local} {low low' c table t place from : ℕ} {keeps : Keeps} {fs : List SFrame} (vs : List Value) (n line : ℕ) (s : Slots) → Here locals low ((RegisterO table, Table t) ∷ keeps) → low' ≤ table → table < low → Bounded low' locals keeps → Has g pc c (SetItemsF table place from)
      → Waits cs g (length theirs) beneath one locals low' keeps (pc + 1) 0 (RegisterO table) fs → Follows world codes (settled codes (expressions.items t n vs line [] (erased (tree s))) (flat s)) (expressions.items t n vs line fs (tree s))
  items_act {one} {low} {low'} {c} {table} {t} {place} {from} {fs} [] n line s w l0 l b has k =
      let r : low' ≤ g.registers = let q = room_there world codes w in omega (arith, l0, l, q) in
      comes_of.onward world codes room index pc base frames acts fn fns g mine theirs beneath regs top w c (SetItemsF table place from) has (Table t ∷ []) fs s
      (follow_stands (at_given s (moved world codes (pc + 1) (with_keeps world codes (kept_there world codes w).1 b r w)) (given_one one (operand cs regs base (RegisterO table)) (Table t) (kept_there world codes w).0) k))
  items_act {t} {fs} (v ∷ vs) n line s w l0 l b has k =
      acts_of.settles world codes room index pc base frames acts fn fns g mine theirs beneath regs top (ItemsNext t (n + 1) vs line ∷ []) (ItemsNext t (n + 1) vs line ∷ fs) w (await_items l0 l b has k) (λ e. absurd cc) (λ e. absurd cc)
      (like.set_entry (ItemsNext t (n + 1) vs line ∷ []) (ItemsNext t (n + 1) vs line ∷ fs) [] tt t (Number (pos n)) v (Some line) (tree s)) s

  pub items_acts : {one : Bool} {locals : List Local} {low low' c line table t n from : ℕ} {keeps : Keeps} {fs : List SFrame} → Here locals low ((RegisterO table, Table t) ∷ keeps) → low' ≤ table → table < low → Bounded low' locals keeps → HasAt g pc c line (SetItemsF table n from)
      → Waits cs g (length theirs) beneath one locals low' keeps (pc + 1) 0 (RegisterO table) fs → (vs : List Value) → values_to Every regs (base + from) top ≡ vs → (s : Slots) → Acts (SetItemsF table n from) (expressions.items t n vs line fs (tree s)) s
  items_acts {line} {table} {t} {n} {from} {fs} w l0 l b h k vs ev s =
      let goal : Move = expressions.items t n vs line fs (tree s) in
      subst (λ (x : Option ℕ). Follows world codes (settled codes (set_items (read regs (base + table)) n (values_to Every regs (base + from) top) (or_zero x) (erased (tree s))) (flat s)) goal) (sym h.1)
      (subst (λ (x : Value). Follows world codes (settled codes (set_items x n (values_to Every regs (base + from) top) line (erased (tree s))) (flat s)) goal) (sym (kept_there world codes w).0)
      (subst (λ (xs : List Value). Follows world codes (settled codes (set_items (Table t) n xs line (erased (tree s))) (flat s)) goal) (sym ev) (items_act vs n line s w l0 l b h.0 k)))

  -- A CONSTRUCTOR'S FIELDS, where its table is in its register
  pub fields_stand : {one : Bool} {locals : List Local} {low' free table t n line end : ℕ} {keeps : Keeps} {fields : CFields} {fs : List SFrame} (s : Slots) → Here locals (table + 1) ((RegisterO table, Table t) ∷ keeps) → low' ≤ table → Bounded low' locals keeps → table < free
      → IsFields g locals free fields table n line pc end → Waits cs g (length theirs) beneath one locals low' keeps end 0 (RegisterO table) fs → Follows world codes (FNow (flat s)) (expressions.fields t n fields line fs (tree s))
  fields_stand {one} {low'} {table} {t} s w l b lt fields_end k =
      let r : low' ≤ g.registers = let q = room_there world codes w in omega (arith, l, q) in
      follow_stands (at_given s (with_keeps world codes (kept_there world codes w).1 b r w) (given_one one (operand cs regs base (RegisterO table)) (Table t) (kept_there world codes w).0) k)
  fields_stand s w l b lt (field_item {more} ob h code) k = follow_stands (at_operand s w (omega (arith, lt)) ob (wait_item l (omega arith) lt (item_last more) b h code k))
  fields_stand s w l b lt (field_items many h) k = follow_stands (at_many s w (omega (arith, lt)) many (land_all (omega (arith, lt)) (row_items l (omega arith) b h k)))
  fields_stand {locals} {low'} {free} {table} s w l b lt (field_pair {free1} oa ob h code) k =
      let rises : free ≤ free1 = free_rises oa in
      let under : Bounded free locals [] = bounded_more low' free locals [] (omega (arith, l, lt)) (record { locals_below = b.locals_below; keeps_below = tt }) in
      follow_stands (at_operand s w (omega (arith, lt)) oa (wait_pair_key l (omega arith) (omega (arith, lt, rises)) lt (operand_under under.locals_below oa) b ob h code k))

-- A METHOD'S NAME is looked for, with the object behind it
module _ (world : CWorld) (codes : Codes) (room : ℕ) (index pc base : ℕ) (frames : List SFrame) (acts : List Act) (fn : Activation) (fns : List Activation) (g : FlatFunction) (mine theirs : List Slot) (beneath : List SFrame) (regs : List Slot) (top : ℕ) (s : Slots) where
  abbrev the_act : Act
  the_act = record { index = index; pc = pc; base = base; frames = frames }

  abbrev the_constants : Constants
  the_constants = constants_in world fn.source

  abbrev the_tree : Slots
  the_tree = in_tree (mine ++ theirs) (fn ∷ fns) s

  pub method_acts : {wanted arguments : Wanted} {locals : List Local} {low c line q x c' pc' to : ℕ} {a : Operand} {es : CExps} {keeps : Keeps} {fs : List SFrame} → Within world codes regs the_act acts fn fns g mine theirs beneath locals low keeps → low ≤ q → q + 1 < g.registers → HasAt g pc c line (MethodF q a x)
      → IsRow g locals (q + 2) es 0 (pc + 1) c' pc' arguments → HasAt g pc' c' line (CallF to q (one_more arguments) wanted) → LandsMany the_constants g (length theirs) beneath wanted locals low keeps (pc' + 1) to fs → (u : Value) → operand the_constants regs base a ≡ u
      → Follows world codes (does codes the_constants (slice_get g.lines pc) (MethodF q a x) the_act acts (in_code the_act acts regs top the_tree)) (indexing.index u (Text (the_constants x)) (Some line) (MethodNow u es line ∷ fs) the_tree)
  method_acts {locals} {low} {line} {q} {x} {a} {es} {keeps} {fs} w l r h row h' k u ea =
      let goal : Move = indexing.index u (Text (the_constants x)) (Some line) (MethodNow u es line ∷ fs) the_tree in
      let beside : List Slot = put (base + q + 1) (Plain u) regs in
      let kept : Within world codes beside the_act acts fn fns g mine theirs beneath locals low keeps = keep_within world codes regs (base + q + 1) (Plain u) (omega (arith, l)) w in
      let more : Bounded (q + 2) locals keeps = bounded_more low (q + 2) locals keeps (omega (arith, l)) (bounded_there world codes w) in
      let place_is : base + q + 1 ≡ base + (q + 1) = omega arith in
      let object_there : operand the_constants beside base (RegisterO (q + 1)) ≡ u = ap (λ (n : ℕ). read beside n) (sym place_is) ∙ put_value (base + q + 1) u regs in
      let here : Within world codes beside the_act acts fn fns g mine theirs beneath locals (q + 2) ((RegisterO (q + 1), u) ∷ keeps) =
      with_keeps world codes (object_there, kept_there world codes kept) (record { locals_below = more.locals_below; keeps_below = (omega arith, more.keeps_below) }) (omega (arith, r)) kept in
      subst (λ (o : Option ℕ). Follows world codes (settled codes (indexing.index (operand the_constants regs base a) (Text (the_constants x)) o [] (erased the_tree)) (in_code the_act acts (put (base + q + 1) (Plain (operand the_constants regs base a)) regs) top the_tree)) goal) (sym h.1)
      (subst (λ (y : Value). Follows world codes (settled codes (indexing.index y (Text (the_constants x)) (Some line) [] (erased the_tree)) (in_code the_act acts (put (base + q + 1) (Plain y) regs) top the_tree)) goal) (sym ea)
      (comes_of.acts_by world codes room index pc base frames acts fn fns g mine theirs beneath beside top (await_method h.0 l (omega arith) r (bounded_there world codes w) row h' k) here (like.index [] (MethodNow u es line ∷ fs) [] tt u (Text (the_constants x)) (Some line) the_tree) s))
