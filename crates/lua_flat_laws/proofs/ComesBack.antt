-- AN OUTCOME COMES BACK to the operation that waits for it.
use Rattle.std.proofs.Common.{◌≡◌, ℕ, ◌+◌, ◌-◌, ◌≤◌, ◌∙◌, Bool, false, List, [], ◌∷◌, ◌++◌, sym, ap, subst, arith}
use Rattle.std.specs.Prelude.{length, take, slice_set}
use Rattle.lua_goes.specs.PageRunOutcome.{Goes, Jumps}
use Rattle.lua_goes.specs.LuaHeapValue.{Value}
use Rattle.lua_goes.specs.LuaMeaningValues.{first}
use Rattle.lua_goes.specs.LuaMeaningActs.{Raised}
use Rattle.lua_goes.specs.LuaSlotsCode.{Reg, Constants, NoC, CWorld}
use Rattle.lua_goes.specs.LuaSlotsSlots.{Slot, Plain, Activation, Slots, write_place}
use Rattle.lua_goes.specs.LuaSlotsPoints.{PlaceS, SFrame, First, MethodNow, MoreNext, AssignNow, SetsNext, Gives, Sets, Move, Now}
use Rattle.lua_goes.specs.LuaSlotsMoves.{moves}
use Rattle.lua_flat.specs.Locals.{Local, PlainL}
use Rattle.lua_flat.specs.Operations.{RegisterO, Wanted, Op, IndexF, GetGlobalF, SetIndexF, SetGlobalF, SetFieldF, MethodF, CallF, EachCallsF, FlatFunction, Codes}
use Rattle.lua_flat.specs.Registers.{put, values_at, adjusted, put_values}
use Rattle.lua_flat.specs.Does.{Landing, into, row, becomes}
use Rattle.lua_flat.specs.Flat.{Act, Flat, FlatMove, FExits, FNow}
use Rattle.lua_flat.specs.Moves.{landed, goes_on, settled}
use Rattle.lua_flat.specs.IsExpression.{Has}
use Rattle.lua_flat.specs.Keeps.{Keeps, Bounded, in_row}
use Rattle.lua_flat.specs.WaitsExpression.{Lands, in_register, in_variable, LandsMany, land_first, land_nothing, land_row, land_exact, land_dropped, land_all, wait_method}
use Rattle.lua_flat.specs.Stands.{erased, in_tree, in_code, from_code, constants_in, Within, within, Awaits, await_index, await_global, await_operate, await_unary, await_compare, await_call, await_method, await_set, await_set_global, await_field, await_items, await_each, at_given, at_row, at_exact, at_field, at_end_of_statement}
use Rattle.lua_flat_laws.specs.Follows.{Follows, follow_free, follow_stands}
use Rattle.lua_flat_laws.proofs.Likewise.{Likewise}
use Rattle.lua_flat_laws.proofs.Kept.{put_value, put_reads, keep_within, keep_callers, keep_all, keep_variables, moved, with_keeps, code_there, depth_there, variables_there, kept_there, bounded_there, room_there, callers_there}
use Rattle.lua_flat_laws.proofs.Meets.{set_append, set_variables, apart_at, apart_keeps}
use Rattle.lua_flat_laws.proofs.Unwinds.{unwind_lands, unwind_many, unwind_resumes, unwind_field, unwind_waits, unwind_takes, unwind_stat_exact}
use Rattle.lua_flat_laws.proofs.Rows.{values_put, kept_behind, adjusted_length, keep_values, rows_behind, exact_behind, row_dropped}
use Rattle.lua_flat_laws.proofs.Acts as acts_of

module _ (world : CWorld) (codes : Codes) (room : ℕ) (index pc base : ℕ) (frames : List SFrame) (acts : List Act) (fn : Activation) (fns : List Activation) (g : FlatFunction) (mine theirs : List Slot) (beneath : List SFrame) (regs : List Slot) (top : ℕ) where
  abbrev act : Act
  act = record { index = index; pc = pc; base = base; frames = frames }

  abbrev next : Act
  next = record { index = index; pc = pc + 1; base = base; frames = frames }

  abbrev cs : Constants
  cs = constants_in world fn.source

  abbrev tree : Slots → Slots
  tree s = in_tree (mine ++ theirs) (fn ∷ fns) s

  abbrev flat : Slots → Flat
  flat s = in_code act acts regs top (tree s)

  abbrev Here : List Local → ℕ → Keeps → Type 0
  Here locals low keeps = Within world codes regs act acts fn fns g mine theirs beneath locals low keeps

  abbrev Comes : List Value → List SFrame → Slots → Type 0
  Comes vs fs s = Follows world codes (FNow (goes_on codes vs act acts (flat s))) (Now (Gives (Goes vs) fs) (tree s))

  -- where it goes on
  abbrev Onward : Landing → List Value → List SFrame → Slots → Type 0
  Onward l vs fs s = Follows world codes (FNow (landed l act acts (erased (tree s)))) (Now (Gives (Goes vs) fs) (tree s))

  pub onward : {locals : List Local} {low : ℕ} {keeps : Keeps} → Here locals low keeps → (c : ℕ) (op : Op) → Has g pc c op → (vs : List Value) (fs : List SFrame) (s : Slots) → Onward (becomes op base pc vs regs top) vs fs s → Comes vs fs s
  onward w c op has vs fs s h =
      subst (λ (x : Flat). Follows world codes (FNow x) (Now (Gives (Goes vs) fs) (tree s))) (sym (acts_of.goes_on_at world codes room index pc base frames acts fn fns g mine theirs beneath regs top s c op (code_there world codes w) has vs)) h

  -- the first of several values
  lands_first : {last : Bool} {locals : List Local} {low : ℕ} {keeps : Keeps} {to : ℕ} {fs : List SFrame} → Here locals low keeps → Lands cs g (length theirs) beneath last false locals low keeps (pc + 1) to fs → (vs : List Value) (s : Slots) → Onward (into (base + to) (first vs) pc regs top) vs fs s
  lands_first w (in_register {low} {to} l waits) vs s =
      follow_stands (at_given s (moved world codes (pc + 1) (keep_within world codes regs (base + to) (Plain (first vs)) (omega (arith, l)) w)) (sym (put_value (base + to) (first vs) regs)) waits)
  lands_first w (in_variable {locals} {low} {i} {keeps} {to} {fs} tidy e r) vs s =
      let v : Value = first vs in
      let made : List Slot = slice_set mine i (Plain v) in
      let eq : slice_set (mine ++ theirs) i (Plain v) ≡ made ++ theirs = set_append regs base locals mine theirs i (PlainL to) (Plain v) (variables_there world codes w) e in
      let written : Slots = write_place (tree s) (Reg i) v in
      follow_free (Gives (Goes vs) (MoreNext NoC [] ∷ AssignNow (PlaceS (Reg i) ∷ []) ∷ fs)) (tree s)
      (follow_free (Gives (Goes vs) (AssignNow (PlaceS (Reg i) ∷ []) ∷ fs)) (tree s)
      (follow_free (Sets ((PlaceS (Reg i), v) ∷ []) fs) (tree s)
      (follow_free (Gives (Goes []) (SetsNext [] ∷ fs)) written
      (follow_free (Sets [] fs) written
      (subst (λ (zs : List Slot). Follows world codes (FNow (landed (into (base + to) v pc regs top) act acts (erased (tree s)))) (Now (Gives (Goes []) fs) (in_tree zs (fn ∷ fns) s))) (sym eq)
      (follow_stands (at_end_of_statement {a = next} {mine = made} s
      (within (code_there world codes w) (depth_there world codes w) (set_variables cs regs base locals mine i to v tidy.falling (variables_there world codes w) e)
      (apart_keeps cs regs base to (Plain v) keeps (apart_at locals keeps i (PlainL to) tidy.apart e) (kept_there world codes w)) tidy.bounded (room_there world codes w) (keep_callers world codes regs (base + to) (Plain v) (omega arith) (callers_there world codes w))) r)))))))

  -- SEVERAL VALUES land
  pub many_come : {wanted : Wanted} {locals : List Local} {low to : ℕ} {keeps : Keeps} {fs : List SFrame} → LandsMany cs g (length theirs) beneath wanted locals low keeps (pc + 1) to fs → Here locals low keeps → (vs : List Value) (s : Slots) → Onward (row wanted (base + to) vs pc regs top) vs fs s
  many_come (land_first lands) w vs s = lands_first w lands vs s
  many_come (land_nothing r) w vs s = follow_stands (at_end_of_statement s (moved world codes (pc + 1) w) r)
  many_come (land_row {locals} {low} {low'} {r} {keeps} {before} {fs} l1 l2 b k) w vs s =
      let after : List Slot = put_values (base + (r + length before)) vs regs in
      let kept : Within world codes after act acts fn fns g mine theirs beneath locals low (in_row r before keeps) = keep_values world codes vs regs (base + (r + length before)) (omega (arith, l2)) w in
      let room_left : low' ≤ g.registers = let q = room_there world codes w in omega (arith, l1, q) in
      let here : Within world codes after next acts fn fns g mine theirs beneath locals low' keeps = moved world codes (pc + 1) (with_keeps world codes (kept_behind cs after base r before keeps (kept_there world codes kept)) b room_left kept) in
      follow_free (Gives (Goes vs) (MoreNext NoC before ∷ fs)) (tree s) (follow_stands (at_row s here (rows_behind cs regs base r before keeps vs (kept_there world codes kept)) k))
  many_come (land_exact {locals} {low} {low'} {r} {n} {keeps} {before} {fs} l1 l2 b k) w vs s =
      let after : List Slot = put_values (base + (r + length before)) (adjusted n vs) regs in
      let kept : Within world codes after act acts fn fns g mine theirs beneath locals low (in_row r before keeps) = keep_values world codes (adjusted n vs) regs (base + (r + length before)) (omega (arith, l2)) w in
      let room_left : low' ≤ g.registers = let q = room_there world codes w in omega (arith, l1, q) in
      let here : Within world codes after next acts fn fns g mine theirs beneath locals low' keeps = moved world codes (pc + 1) (with_keeps world codes (kept_behind cs after base r before keeps (kept_there world codes kept)) b room_left kept) in
      follow_free (Gives (Goes vs) (MoreNext NoC before ∷ fs)) (tree s) (follow_stands (at_exact s here (exact_behind cs regs base r before keeps n vs (kept_there world codes kept)) k))
  many_come (land_dropped {low} {low'} {r} {m} {keeps} {before} {fs} l1 l2 b k) w vs s =
      let room_left : low' ≤ g.registers = let q = room_there world codes w in omega (arith, l1, q) in
      follow_free (Gives (Goes vs) (MoreNext NoC before ∷ fs)) (tree s)
      (follow_stands (at_exact s (moved world codes (pc + 1) (with_keeps world codes (kept_behind cs regs base r (take m before) keeps (kept_there world codes w)) b room_left w)) (row_dropped cs regs base r m before vs keeps l2 (kept_there world codes w)) k))
  many_come (land_all {low} {keeps} {to} l k) w vs s =
      let after : List Slot = put_values (base + to) vs regs in
      let count_is : base + to + length vs - (base + to) ≡ length vs = omega arith in
      let filled : values_at after (base + to) (base + to + length vs - (base + to)) ≡ vs = ap (λ (n : ℕ). values_at after (base + to) n) count_is ∙ values_put vs (base + to) regs in
      follow_stands (at_row s (moved world codes (pc + 1) (keep_values world codes vs regs (base + to) (omega (arith, l)) w)) filled k)

  -- a method's name is found, and the object stays behind it
  name_put : {locals : List Local} {low low' q : ℕ} {keeps : Keeps} {object : Value} (v : Value) → low' ≤ q → Bounded low' locals keeps → Here locals low ((RegisterO (q + 1), object) ∷ keeps)
      → Within world codes (put (base + q) (Plain v) regs) next acts fn fns g mine theirs beneath locals low ((RegisterO (q + 1), object) ∷ keeps)
  name_put {locals} {low'} {q} {keeps} v l b w =
      let far : base + low' ≤ base + q = omega (arith, l) in
      within (code_there world codes w) (depth_there world codes w) (keep_variables cs base low' (base + q) (Plain v) regs far locals mine b.locals_below (variables_there world codes w))
      (put_reads (base + q) (Plain v) regs (base + (q + 1)) (λ (k : base + q ≡ base + (q + 1)). omega (arith, k)) ∙ (kept_there world codes w).0, keep_all cs base low' (base + q) (Plain v) regs far keeps b.keeps_below (kept_there world codes w).1)
      (bounded_there world codes w) (room_there world codes w) (keep_callers world codes regs (base + q) (Plain v) (omega arith) (callers_there world codes w))

  pub back : {locals : List Local} {low : ℕ} {keeps : Keeps} {fs : List SFrame} → Awaits cs g (length theirs) beneath locals low keeps pc [] fs → Here locals low keeps → (vs : List Value) (s : Slots) → Comes vs fs s
  back (await_index {c} {to} {a} {b} {fs} has lands) w vs s =
      onward w c (IndexF to a b) has vs (First ∷ fs) s (follow_free (Gives (Goes vs) (First ∷ fs)) (tree s) (acts_of.lands_value world codes room index pc base frames acts fn fns g mine theirs beneath regs top w lands (first vs) s))
  back (await_global {c} {to} {x} {fs} has lands) w vs s =
      onward w c (GetGlobalF to x) has vs (First ∷ fs) s (follow_free (Gives (Goes vs) (First ∷ fs)) (tree s) (acts_of.lands_value world codes room index pc base frames acts fn fns g mine theirs beneath regs top w lands (first vs) s))
  back (await_call {c} {to} {q} {arguments} {wanted} {fs} l has k) w vs s = onward w c (CallF to q arguments wanted) has vs fs s (many_come k w vs s)
  back (await_method {c} {q} {x} {line} {object} {a} {es} {fs} has l1 l2 l3 b row h k) w vs s =
      onward w c (MethodF q a x) has vs (MethodNow object es line ∷ fs) s (follow_stands (at_given {single = false} s (name_put (first vs) l1 b w) (sym (put_value (base + q) (first vs) regs)) (wait_method l1 l2 l3 b row h k)))
  back (await_set {c} {a} {b} {o} {fs} has r) w vs s = onward w c (SetIndexF a b o) has vs fs s (follow_stands (at_end_of_statement s (moved world codes (pc + 1) w) r))
  back (await_set_global {c} {x} {o} {fs} has r) w vs s = onward w c (SetGlobalF x o) has vs fs s (follow_stands (at_end_of_statement s (moved world codes (pc + 1) w) r))
  back (await_field {c} {t} {a} {o} {fs} has k) w vs s = onward w c (SetFieldF t a o) has vs fs s (follow_stands (at_field s (moved world codes (pc + 1) w) k))
  back (await_each {low} {keeps} {c} {base = b} {count} {fs} l has k) w vs s =
      let after : List Slot = put_values (base + b + 3) (adjusted count vs) regs in
      let far : base + low ≤ base + b + 3 = omega (arith, l) in
      let place_is : base + (b + 3) ≡ base + b + 3 = omega arith in
      let filled : values_at after (base + (b + 3)) count ≡ adjusted count vs =
      ap (λ (m : ℕ). values_at after m count) place_is ∙ ap (λ (m : ℕ). values_at after (base + b + 3) m) (sym (adjusted_length count vs)) ∙ values_put (adjusted count vs) (base + b + 3) regs in
      onward w c (EachCallsF b count) has vs fs s (follow_stands (at_exact s (moved world codes (pc + 1) (keep_values world codes (adjusted count vs) regs (base + b + 3) far w)) filled k))

  -- AN ERROR leaves the function
  abbrev gone : Value → Slots → FlatMove
  gone v s = FExits (FNow (from_code (Gives (Jumps (Raised v)) frames) acts regs top (in_tree theirs fns s)))

  abbrev Leaves : Value → List SFrame → Slots → Type 0
  Leaves v fs s = Follows world codes (gone v s) (moves world (Gives (Jumps (Raised v)) fs) (tree s))

  leaves_lands : {last single : Bool} {locals : List Local} {low p to : ℕ} {keeps : Keeps} {fs : List SFrame} → Here locals low keeps → Lands cs g (length theirs) beneath last single locals low keeps p to fs → (v : Value) (s : Slots) → Leaves v fs s
  leaves_lands w lands v s = unwind_lands world codes cs g top theirs fn s v (depth_there world codes w) (callers_there world codes w) lands mine

  pub leaves : {locals : List Local} {low : ℕ} {keeps : Keeps} {fs : List SFrame} → Awaits cs g (length theirs) beneath locals low keeps pc [] fs → Here locals low keeps → (v : Value) (s : Slots) → Leaves v fs s
  leaves (await_index {fs} has lands) w v s = follow_free (Gives (Jumps (Raised v)) fs) (tree s) (leaves_lands w lands v s)
  leaves (await_global {fs} has lands) w v s = follow_free (Gives (Jumps (Raised v)) fs) (tree s) (leaves_lands w lands v s)
  leaves (await_call l has k) w v s = unwind_many world codes cs g top theirs fn s v (depth_there world codes w) (callers_there world codes w) k mine
  leaves (await_method {fs} has l1 l2 l3 b x h k) w v s = follow_free (Gives (Jumps (Raised v)) fs) (tree s) (unwind_many world codes cs g top theirs fn s v (depth_there world codes w) (callers_there world codes w) k mine)
  leaves (await_set has r) w v s = unwind_resumes world codes cs g top theirs fn s v (depth_there world codes w) (callers_there world codes w) r mine
  leaves (await_set_global has r) w v s = unwind_resumes world codes cs g top theirs fn s v (depth_there world codes w) (callers_there world codes w) r mine
  leaves (await_field has k) w v s = unwind_field world codes cs g top theirs fn s v (depth_there world codes w) (callers_there world codes w) k mine
  leaves (await_each l has k) w v s = unwind_stat_exact world codes cs g top theirs fn s v (depth_there world codes w) (callers_there world codes w) k mine

  -- and one that has passed the operation's own frame
  pub leaves_under : {locals : List Local} {low : ℕ} {keeps : Keeps} {h k : SFrame} {fs : List SFrame} → Awaits cs g (length theirs) beneath locals low keeps pc (h ∷ []) (k ∷ fs) → Here locals low keeps → (v : Value) (s : Slots) → Leaves v fs s
  leaves_under (await_operate i has lands) w v s = leaves_lands w lands v s
  leaves_under (await_unary i has lands) w v s = leaves_lands w lands v s
  leaves_under (await_compare i has fork k) w v s = unwind_takes world codes cs g top theirs fn s v (depth_there world codes w) (callers_there world codes w) k mine
  leaves_under (await_items l0 l b has k) w v s = unwind_waits world codes cs g top theirs fn s v (depth_there world codes w) (callers_there world codes w) k mine

  -- AN OPERATION whose move is one of values, with no frame of its own
  pub acts_by : {locals : List Local} {low : ℕ} {keeps : Keeps} {fs : List SFrame} → Awaits cs g (length theirs) beneath locals low keeps pc [] fs → Here locals low keeps → {m mv : Move} → Likewise [] fs (mine ++ theirs) (fn ∷ fns) m mv → (s : Slots) → Follows world codes (settled codes m (flat s)) mv
  acts_by {fs} aw w h s =
      acts_of.settles world codes room index pc base frames acts fn fns g mine theirs beneath regs top [] fs w aw (λ e vs t. back aw w vs t) (λ e v t. follow_free (Gives (Jumps (Raised v)) fs) (tree t) (leaves aw w v t)) h s
