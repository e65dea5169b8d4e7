-- A LOCAL FUNCTION: its variable is there before the function is made.
use Rattle.std.proofs.Common.{◌≡◌, ℕ, ◌+◌, ◌≤◌, ◌<◌, Bool, true, false, List, [], ◌∷◌, ◌++◌, Option, Some, refl, subst, arith}
use Rattle.std.specs.Prelude.{length, slice_get}
use Rattle.lua_goes.specs.LuaHeapProc.{Proc}
use Rattle.lua_goes.specs.LuaHeapHeap.{Heap, new_cell}
use Rattle.lua_goes.specs.LuaHeapValue.{Value, Nil}
use Rattle.lua_flat.specs.LuaMeaningCharges.{closure_charge}
use Rattle.lua_goes.specs.LuaSlotsCode.{Place, Constants, CBlock, LocalFunctionC, CWorld}
use Rattle.lua_goes.specs.LuaSlotsSlots.{Slot, Plain, Boxed, Activation, Slots, cells_at, with_cell, with_closure, next_closure, with_function_named, with_heap}
use Rattle.lua_goes.specs.LuaSlotsPoints.{SFrame, Runs, Costs, Now}
use Rattle.lua_flat.specs.Locals.{Local, PlainL, CellL, local_of}
use Rattle.lua_flat.specs.Operations.{Origin, NamedF, FlatFunction, Codes}
use Rattle.lua_flat.specs.Registers.{put}
use Rattle.lua_flat.specs.Does.{origin_cells}
use Rattle.lua_flat.specs.Flat.{Act, Flat, FNow}
use Rattle.lua_flat.specs.Moves.{named, next_place, does}
use Rattle.lua_flat.specs.IsExpression.{Has, IsOrigins}
use Rattle.lua_flat.specs.IsStatement.{IsBlock}
use Rattle.lua_flat.specs.Keeps.{Keeps, Tidy}
use Rattle.lua_flat.specs.WaitsStatement.{Leaves, Finishes}
use Rattle.lua_flat.specs.Stands.{in_tree, in_code, constants_in, Within, within, at_block}
use Rattle.lua_flat_laws.specs.Follows.{Follows, follow_costs, follow_stands}
use Rattle.lua_flat_laws.proofs.Kept.{keep_callers, moved, code_there, depth_there, variables_there, kept_there, room_there, callers_there}
use Rattle.lua_flat_laws.proofs.Meets.{set_variables, apart_at, apart_keeps, Meets, by_last_node}
use Rattle.lua_flat_laws.proofs.Openings.{leaves_row, row_tidy, cells_open}
use Rattle.lua_flat_laws.proofs.Acts as acts_of

module _ (world : CWorld) (codes : Codes) (room : ℕ) (index pc base : ℕ) (frames : List SFrame) (acts : List Act) (fn : Activation) (fns : List Activation) (g : FlatFunction) (mine theirs : List Slot) (beneath : List SFrame) (regs : List Slot) (top : ℕ) (s : Slots) where
  abbrev at : ℕ → Act
  at q = record { index = index; pc = q; base = base; frames = frames }

  abbrev cs : Constants
  cs = constants_in world fn.source

  abbrev tree : Slots
  tree = in_tree (mine ++ theirs) (fn ∷ fns) s

  abbrev flat : Flat
  flat = in_code (at pc) acts regs top tree

  abbrev Here : List Local → ℕ → Keeps → Type 0
  Here locals low keeps = Within world codes regs (at pc) acts fn fns g mine theirs beneath locals low keeps

  abbrev proc : ℕ → List ℕ → Proc
  proc number cells = record { title = fn.source; index = number; cells = cells }

  -- behind it
  names_it : {away : Option ℕ} {locals inner : List Local} {low c' pc' free' : ℕ} {keeps : Keeps} {places : List Place} {os : List Origin} {b : CBlock} {fs : List SFrame} (number : ℕ) (boxed : Bool) → Here locals low keeps → Tidy low locals keeps → Leaves (length locals + length theirs) fs → low < g.registers
      → IsOrigins (local_of boxed low ∷ locals) places os → IsBlock g away (local_of boxed low ∷ locals) (low + 1) b 0 (pc + 1) c' pc' inner free' → Finishes cs g (length theirs) beneath away inner free' keeps pc' c' fs
      → Follows world codes (FNow (next_place (at pc) acts (named boxed (base + low) number os (at pc) flat))) (Now (Runs b fs) (with_function_named boxed number places tree))
  names_it {locals} {low} {keeps} {places} {os} {b} {fs} number false w tidy left r origins code f =
      let fits : low + 1 ≤ g.registers = omega (arith, r) in
      let v : Value = next_closure s in
      let first_regs : List Slot = put (base + low) (Plain Nil) regs in
      let after : List Slot = put (base + low) (Plain v) first_regs in
      let row : Tidy (low + 1) (PlainL low ∷ locals) keeps = row_tidy low low (false ∷ []) locals keeps (omega arith) tidy in
      let opened : Within world codes first_regs (at pc) acts fn fns g (Plain Nil ∷ mine) theirs beneath (PlainL low ∷ locals) (low + 1) keeps = cells_open world codes low (false ∷ []) (Nil ∷ []) s.heap w tidy (omega arith) fits in
      let cells : List ℕ = origin_cells first_regs base fn.cells os in
      let same : cells ≡ cells_at (Plain Nil ∷ mine ++ theirs) fn.cells places = acts_of.cells_same world codes room index pc base frames acts fn fns g (Plain Nil ∷ mine) theirs beneath first_regs top opened fn.cells origins in
      let here : Within world codes after (at pc) acts fn fns g (Plain v ∷ mine) theirs beneath (PlainL low ∷ locals) (low + 1) keeps =
      within (code_there world codes opened) (depth_there world codes opened) (set_variables cs first_regs base (PlainL low ∷ locals) (Plain Nil ∷ mine) 0 low v row.falling (variables_there world codes opened) refl)
      (apart_keeps cs first_regs base low (Plain v) keeps (apart_at (PlainL low ∷ locals) keeps 0 (PlainL low) row.apart refl) (kept_there world codes opened)) row.bounded (room_there world codes opened) (keep_callers world codes first_regs (base + low) (Plain v) (omega arith) (callers_there world codes opened)) in
      subst (λ (xs : List ℕ). Follows world codes (FNow (in_code (at (pc + 1)) acts after top (in_tree (Plain v ∷ mine ++ theirs) (fn ∷ fns) (with_closure (proc number cells) s)))) (Now (Runs b fs) (in_tree (Plain v ∷ mine ++ theirs) (fn ∷ fns) (with_closure (proc number xs) s)))) same
      (follow_stands (at_block {a = at (pc + 1)} {mine = Plain v ∷ mine} {regs = after} (with_closure (proc number cells) s) (moved world codes (pc + 1) here) row (leaves_row low (length theirs) (false ∷ []) locals fs left) code f))
  names_it {locals} {low} {keeps} {places} {os} {b} {fs} number true w tidy left r origins code f =
      let fits : low + 1 ≤ g.registers = omega (arith, r) in
      let made : Heap Proc × ℕ = new_cell s.heap Nil in
      let cell : ℕ = made.1 in
      let t : Slots = with_heap made.0 s in
      let v : Value = next_closure t in
      let after : List Slot = put (base + low) (Boxed cell) regs in
      let row : Tidy (low + 1) (CellL low ∷ locals) keeps = row_tidy low low (true ∷ []) locals keeps (omega arith) tidy in
      let opened : Within world codes after (at pc) acts fn fns g (Boxed cell ∷ mine) theirs beneath (CellL low ∷ locals) (low + 1) keeps = cells_open world codes low (true ∷ []) (Nil ∷ []) s.heap w tidy (omega arith) fits in
      let cells : List ℕ = origin_cells after base fn.cells os in
      let same : cells ≡ cells_at (Boxed cell ∷ mine ++ theirs) fn.cells places = acts_of.cells_same world codes room index pc base frames acts fn fns g (Boxed cell ∷ mine) theirs beneath after top opened fn.cells origins in
      subst (λ (xs : List ℕ). Follows world codes (FNow (in_code (at (pc + 1)) acts after top (in_tree (Boxed cell ∷ mine ++ theirs) (fn ∷ fns) (with_cell (Some cell) v (with_closure (proc number cells) t))))) (Now (Runs b fs) (in_tree (Boxed cell ∷ mine ++ theirs) (fn ∷ fns) (with_cell (Some cell) v (with_closure (proc number xs) t))))) same
      (follow_stands (at_block {a = at (pc + 1)} {mine = Boxed cell ∷ mine} {regs = after} (with_cell (Some cell) v (with_closure (proc number cells) t)) (moved world codes (pc + 1) opened) row (leaves_row low (length theirs) (true ∷ []) locals fs left) code f))

  pub named_met : {away : Option ℕ} {locals inner : List Local} {low c c' pc' free' number : ℕ} {keeps : Keeps} {boxed : Bool} {places : List Place} {os : List Origin} {b : CBlock} {fs : List SFrame} → Here locals low keeps → Tidy low locals keeps → Leaves (length locals + length theirs) fs → low < g.registers
      → IsOrigins (local_of boxed low ∷ locals) places os → Has g pc (c + 1) (NamedF boxed low number os) → IsBlock g away (local_of boxed low ∷ locals) (low + 1) b 0 (pc + 1) c' pc' inner free' → Finishes cs g (length theirs) beneath away inner free' keeps pc' c' fs
      → Meets world codes room flat c (Runs (LocalFunctionC boxed number places b) fs) tree
  named_met {low} {c} {number} {boxed} {places} {os} {b} {fs} w tidy left r origins has code f =
      by_last_node world codes room flat c (Runs (LocalFunctionC boxed number places b) fs) tree (does codes cs (slice_get g.lines pc) (NamedF boxed low number os) (at pc) acts flat) (Costs closure_charge (Now (Runs b fs) (with_function_named boxed number places tree)))
      (acts_of.operation_at world codes room index pc base frames acts fn fns g mine theirs beneath regs top s (c + 1) (NamedF boxed low number os) (code_there world codes w) has) refl (follow_costs (names_it number boxed w tidy left r origins code f))
