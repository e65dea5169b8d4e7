-- A TARGET GETS A VALUE: the operation that sets it.
use Rattle.std.proofs.Common.{◌≡◌, ℕ, ◌+◌, ◌≤◌, ◌∙◌, List, [], ◌∷◌, ◌++◌, Option, Some, None, refl, sym, ap, subst, arith}
use Rattle.std.specs.Prelude.{length, slice_get, slice_set}
use Rattle.lua_goes.specs.PageRunOutcome.{Goes}
use Rattle.lua_goes.specs.LuaHeapValue.{Value}
use Rattle.lua_goes.specs.LuaMeaningValues.{first}
use Rattle.lua_goes.specs.LuaSlotsCode.{Reg, Box, Up, Constants, NoC, CWorld}
use Rattle.lua_goes.specs.LuaSlotsSlots.{Slot, Plain, Activation, Slots, with_cell, slot_cell}
use Rattle.lua_goes.specs.LuaSlotsPoints.{STarget, PlaceS, GlobalS, EntryS, SFrame, MoreNext, AssignNow, SetsNext, Gives, Sets, Now}
use Rattle.lua_goes.specs.LuaSlotsStatements.{sets_one}
use Rattle.lua_flat.specs.Locals.{Local, PlainL}
use Rattle.lua_flat.specs.Operations.{Operand, Op, LoadF, SetCellF, SetUpF, SetGlobalF, SetIndexF, FlatFunction, Codes}
use Rattle.lua_flat.specs.Registers.{operand}
use Rattle.lua_flat.specs.Does.{Landing, into, at_place, becomes}
use Rattle.lua_flat.specs.Flat.{Act, Flat, FlatMove, FNodes, FNow}
use Rattle.lua_flat.specs.Moves.{landed, goes_on, does, flat_moves}
use Rattle.lua_flat.specs.IsExpression.{Has}
use Rattle.lua_flat.specs.IsStatement.{FlatTarget, IsSetting, set_register, set_cell, set_captured, set_global, set_entry, no_more}
use Rattle.lua_flat.specs.Keeps.{Keeps, AreKept, IsFalling, AreApart, Tidy}
use Rattle.lua_flat.specs.WaitsStatement.{IsFound, found_plain, found_celled, found_captured, found_global, found_entry, none_set, Resumes, resume_sets}
use Rattle.lua_flat.specs.Stands.{erased, in_tree, in_code, constants_in, Within, within, at_end_of_statement}
use Rattle.lua_flat_laws.specs.Follows.{Follows, follow_stands}
use Rattle.lua_flat_laws.proofs.Kept.{keep_callers, moved, with_keeps, code_there, depth_there, variables_there, kept_there, bounded_there, room_there, callers_there, variable_cell}
use Rattle.lua_flat_laws.proofs.Meets.{set_append, set_variables, apart_at, apart_keeps, Meets, by_free, by_operation}
use Rattle.lua_flat_laws.proofs.Acts as acts_of
use Rattle.lua_flat_laws.proofs.Operations as operations_of

-- an assignment of which nothing is left to be set
pub resumes_none : {cs : Constants} {g : FlatFunction} {under : ℕ} {beneath : List SFrame} {away : Option ℕ} {locals : List Local} {low pc : ℕ} {keeps : Keeps} {fs : List SFrame} → Tidy low locals keeps → Resumes cs g under beneath away locals low keeps pc 0 fs
    → Resumes cs g under beneath away locals low keeps pc 0 (SetsNext [] ∷ fs)
resumes_none tidy r = resume_sets {r = 0} {k = []} (omega arith) tidy tt none_set no_more r

-- what is kept for a target
kept_found : {cs : Constants} {g : FlatFunction} {locals : List Local} {t : STarget} {u : FlatTarget} {k : Keeps} (constants : Constants) (regs : List Slot) (base : ℕ) (keeps : Keeps) → IsFound cs g locals t u k → AreKept constants regs base (k ++ keeps) → AreKept constants regs base keeps
kept_found constants regs base keeps (found_plain e) h = h
kept_found constants regs base keeps (found_celled e) h = h
kept_found constants regs base keeps found_captured h = h
kept_found constants regs base keeps found_global h = h
kept_found constants regs base keeps found_entry h = h.1.1

-- a cell is set, if there is one
cell_set : (o : Option ℕ) (v : Value) (regs : List Slot) (fns : List Activation) (s : Slots) → with_cell o v (in_tree regs fns s) ≡ in_tree regs fns (with_cell o v s)
cell_set (Some c) v regs fns s = refl
cell_set None v regs fns s = refl

cell_erased : (o : Option ℕ) (v : Value) (s : Slots) → with_cell o v (erased s) ≡ erased (with_cell o v s)
cell_erased (Some c) v s = refl
cell_erased None v s = refl

module _ (world : CWorld) (codes : Codes) (room : ℕ) (index pc base : ℕ) (frames : List SFrame) (acts : List Act) (fn : Activation) (fns : List Activation) (g : FlatFunction) (mine theirs : List Slot) (beneath : List SFrame) (regs : List Slot) (top : ℕ) (s : Slots) where
  abbrev act : Act
  act = record { index = index; pc = pc; base = base; frames = frames }

  abbrev next : Act
  next = record { index = index; pc = pc + 1; base = base; frames = frames }

  abbrev cs : Constants
  cs = constants_in world fn.source

  abbrev tree : Slots → Slots
  tree t = in_tree (mine ++ theirs) (fn ∷ fns) t

  abbrev flat : Slots → Flat
  flat t = in_code act acts regs top (tree t)

  abbrev Here : List Local → ℕ → Keeps → Type 0
  Here locals low keeps = Within world codes regs act acts fn fns g mine theirs beneath locals low keeps

  abbrev read_of : Operand → Value
  read_of o = operand cs regs base o

  -- what the operation does
  abbrev Sets_it : Op → STarget → Value → List SFrame → Type 0
  Sets_it op t v fs = Follows world codes (does codes cs (slice_get g.lines pc) op act acts (flat s)) (sets_one t v fs (tree s))

  next_is : {locals : List Local} {low : ℕ} {keeps : Keeps} → Here locals low keeps → (c : ℕ) (op : Op) → Has g pc c op → flat_moves world codes room (flat s) ≡ FNodes c (does codes cs (slice_get g.lines pc) op act acts (flat s))
  next_is w c op has = acts_of.operation_at world codes room index pc base frames acts fn fns g mine theirs beneath regs top s c op (code_there world codes w) has

  -- a plain variable is written
  plain_set : {away : Option ℕ} {locals : List Local} {low c r : ℕ} {a : Operand} {keeps : Keeps} {fs : List SFrame} (i : ℕ) → Here locals low keeps → IsFalling locals → AreApart locals keeps → slice_get locals i ≡ Some (PlainL r) → Has g pc c (LoadF r a)
      → Resumes cs g (length theirs) beneath away locals low keeps (pc + 1) 0 fs → (v : Value) → read_of a ≡ v → Sets_it (LoadF r a) (PlaceS (Reg i)) v fs
  plain_set {locals} {c} {r} {a} {keeps} {fs} i w falling apart e has resumes v ea =
      let made : List Slot = slice_set mine i (Plain v) in
      let eq : slice_set (mine ++ theirs) i (Plain v) ≡ made ++ theirs = set_append regs base locals mine theirs i (PlainL r) (Plain v) (variables_there world codes w) e in
      subst (λ (x : Flat). Follows world codes (FNow x) (sets_one (PlaceS (Reg i)) v fs (tree s)))
      (sym (acts_of.goes_on_at world codes room index pc base frames acts fn fns g mine theirs beneath regs top s c (LoadF r a) (code_there world codes w) has (read_of a ∷ [])
      ∙ ap (λ (x : Value). landed (into (base + r) x pc regs top) act acts (erased (tree s))) ea))
      (subst (λ (zs : List Slot). Follows world codes (FNow (landed (into (base + r) v pc regs top) act acts (erased (tree s)))) (Now (Gives (Goes []) fs) (in_tree zs (fn ∷ fns) s))) (sym eq)
      (follow_stands (at_end_of_statement {a = next} {mine = made} s
      (within (code_there world codes w) (depth_there world codes w) (set_variables cs regs base locals mine i r v falling (variables_there world codes w) e)
      (apart_keeps cs regs base r (Plain v) keeps (apart_at locals keeps i (PlainL r) apart e) (kept_there world codes w)) (bounded_there world codes w) (room_there world codes w) (keep_callers world codes regs (base + r) (Plain v) (omega arith) (callers_there world codes w))) resumes)))

  -- a cell is: by an operation that gives nothing
  one_cell_set : {away : Option ℕ} {locals : List Local} {low c : ℕ} {keeps : Keeps} {fs : List SFrame} → Here locals low keeps → (op : Op) → Has g pc c op → Resumes cs g (length theirs) beneath away locals low keeps (pc + 1) 0 fs → (o : Option ℕ) (v : Value)
      → does codes cs (slice_get g.lines pc) op act acts (flat s) ≡ FNow (goes_on codes [] act acts (flat (with_cell o v s))) → becomes op base pc [] regs top ≡ at_place (pc + 1) regs top
      → Follows world codes (does codes cs (slice_get g.lines pc) op act acts (flat s)) (Now (Gives (Goes []) fs) (with_cell o v (tree s)))
  one_cell_set {c} {fs} w op has resumes o v own goes =
      let t : Slots = with_cell o v s in
      subst (λ (x : FlatMove). Follows world codes x (Now (Gives (Goes []) fs) (with_cell o v (tree s)))) (sym own)
      (subst (λ (x : Slots). Follows world codes (FNow (goes_on codes [] act acts (flat t))) (Now (Gives (Goes []) fs) x)) (sym (cell_set o v (mine ++ theirs) (fn ∷ fns) s))
      (subst (λ (x : Flat). Follows world codes (FNow x) (Now (Gives (Goes []) fs) (tree t)))
      (sym (acts_of.goes_on_at world codes room index pc base frames acts fn fns g mine theirs beneath regs top t c op (code_there world codes w) has [] ∙ ap (λ (l : Landing). landed l act acts (erased (tree t))) goes))
      (follow_stands (at_end_of_statement t (moved world codes (pc + 1) w) resumes))))

  cell_own : (o : Option ℕ) (v : Value) → FNow (goes_on codes [] act acts (record (flat s) { slots = with_cell o v (erased (tree s)) })) ≡ FNow (goes_on codes [] act acts (flat (with_cell o v s)))
  cell_own o v = ap (λ (t : Slots). FNow (goes_on codes [] act acts (record (flat s) { slots = t }))) (cell_erased o v (tree s) ∙ ap erased (cell_set o v (mine ++ theirs) (fn ∷ fns) s))

  -- EACH TARGET, in front of those that are still to be set
  pub sets_target : {away : Option ℕ} {locals : List Local} {low c : ℕ} {t : STarget} {u : FlatTarget} {k keeps : Keeps} {a : Operand} {ps : List (STarget × Value)} {fs : List SFrame} → Here locals low keeps → AreKept cs regs base (k ++ keeps) → IsFalling locals → AreApart locals keeps → IsFound cs g locals t u k → IsSetting g u a c pc
      → Resumes cs g (length theirs) beneath away locals low keeps (pc + 1) 0 (SetsNext ps ∷ fs) → (v : Value) → read_of a ≡ v → Meets world codes room (flat s) c (Sets ((t, v) ∷ ps) fs) (tree s)
  sets_target {c} {a} {ps} {fs} w ks falling apart (found_plain {i} {r} e) (set_register has) resumes v ea =
      by_operation world codes room (flat s) c (Sets ((PlaceS (Reg i), v) ∷ ps) fs) (tree s) (does codes cs (slice_get g.lines pc) (LoadF r a) act acts (flat s)) (next_is w c (LoadF r a) has) (plain_set i w falling apart e has resumes v ea)
  sets_target {locals} {c} {a} {ps} {fs} w ks falling apart (found_celled {i} {r} e) (set_cell has) resumes v ea =
      let o : Option ℕ = slot_cell (slice_get regs (base + r)) in
      let same : slot_cell (slice_get (mine ++ theirs) i) ≡ o = variable_cell regs base locals mine theirs i r (variables_there world codes w) e in
      by_operation world codes room (flat s) c (Sets ((PlaceS (Box i), v) ∷ ps) fs) (tree s) (does codes cs (slice_get g.lines pc) (SetCellF r a) act acts (flat s)) (next_is w c (SetCellF r a) has)
      (subst (λ (x : Option ℕ). Follows world codes (does codes cs (slice_get g.lines pc) (SetCellF r a) act acts (flat s)) (Now (Gives (Goes []) (SetsNext ps ∷ fs)) (with_cell x v (tree s)))) (sym same)
      (subst (λ (x : Value). Follows world codes (does codes cs (slice_get g.lines pc) (SetCellF r a) act acts (flat s)) (Now (Gives (Goes []) (SetsNext ps ∷ fs)) (with_cell o x (tree s)))) ea
      (one_cell_set w (SetCellF r a) has resumes o (read_of a) (cell_own o (read_of a)) refl)))
  sets_target {c} {a} {ps} {fs} w ks falling apart (found_captured {i}) (set_captured has) resumes v ea =
      let o : Option ℕ = slice_get fn.cells i in
      by_operation world codes room (flat s) c (Sets ((PlaceS (Up i), v) ∷ ps) fs) (tree s) (does codes cs (slice_get g.lines pc) (SetUpF i a) act acts (flat s)) (next_is w c (SetUpF i a) has)
      (subst (λ (x : Value). Follows world codes (does codes cs (slice_get g.lines pc) (SetUpF i a) act acts (flat s)) (Now (Gives (Goes []) (SetsNext ps ∷ fs)) (with_cell o x (tree s)))) ea
      (one_cell_set w (SetUpF i a) has resumes o (read_of a) (cell_own o (read_of a)) refl))
  sets_target {c} {a} {ps} {fs} w ks falling apart (found_global {x} {line}) (set_global h) resumes v ea =
      by_operation world codes room (flat s) c (Sets ((GlobalS (cs x) line, v) ∷ ps) fs) (tree s) (does codes cs (slice_get g.lines pc) (SetGlobalF x a) act acts (flat s)) (next_is w c (SetGlobalF x a) h.0)
      (operations_of.set_global_acts world codes room index pc base frames acts fn fns g mine theirs beneath regs top w resumes h v ea s)
  sets_target {c} {a = o} {ps} {fs} w ks falling apart (found_entry {of} {key} {a} {b} {line}) (set_entry h) resumes v ea =
      by_operation world codes room (flat s) c (Sets ((EntryS of key line, v) ∷ ps) fs) (tree s) (does codes cs (slice_get g.lines pc) (SetIndexF a b o) act acts (flat s)) (next_is w c (SetIndexF a b o) h.0)
      (operations_of.set_acts world codes room index pc base frames acts fn fns g mine theirs beneath regs top w resumes h of key v ks.1.0 ks.0 ea s)

  -- AN ASSIGNMENT of one value
  pub assigned_met : {away : Option ℕ} {locals : List Local} {low low' c : ℕ} {t : STarget} {u : FlatTarget} {k keeps : Keeps} {a : Operand} {fs : List SFrame} → Here locals low (k ++ keeps) → low' ≤ low → Tidy low' locals keeps → IsFound cs g locals t u k → IsSetting g u a c pc
      → Resumes cs g (length theirs) beneath away locals low' keeps (pc + 1) 0 fs → (vs : List Value) → read_of a ≡ first vs → Meets world codes room (flat s) c (Gives (Goes vs) (MoreNext NoC [] ∷ AssignNow (t ∷ []) ∷ fs)) (tree s)
  assigned_met {low'} {c} {t} {keeps} {fs} w l tidy found setting resumes vs ea =
      let r : low' ≤ g.registers = let n = room_there world codes w in omega (arith, l, n) in
      by_free world codes room (flat s) c (Gives (Goes vs) (MoreNext NoC [] ∷ AssignNow (t ∷ []) ∷ fs)) (tree s) (Gives (Goes vs) (AssignNow (t ∷ []) ∷ fs)) (tree s) refl
      (by_free world codes room (flat s) c (Gives (Goes vs) (AssignNow (t ∷ []) ∷ fs)) (tree s) (Sets ((t, first vs) ∷ []) fs) (tree s) refl
      (sets_target (with_keeps world codes (kept_found cs regs base keeps found (kept_there world codes w)) tidy.bounded r w) (kept_there world codes w) tidy.falling tidy.apart found setting (resumes_none tidy resumes) (first vs) ea))
