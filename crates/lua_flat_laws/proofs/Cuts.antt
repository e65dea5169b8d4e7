-- A BLOCK'S END: its variables are gone, and those that were there before are left.
use Rattle.std.proofs.Common.{◌≡◌, ℕ, suc, ◌+◌, ◌≤◌, ◌∙◌, List, [], ◌∷◌, ◌++◌, refl, ap, arith, length-append, append_assoc}
use Rattle.std.specs.Prelude.{length}
use Rattle.lua_goes.specs.LuaSlotsCode.{CWorld}
use Rattle.lua_goes.specs.LuaSlotsSlots.{Slot, Plain, Boxed, Activation, cut_to}
use Rattle.lua_flat.specs.Locals.{Local, PlainL, CellL}
use Rattle.lua_goes.specs.LuaSlotsPoints.{SFrame}
use Rattle.lua_flat.specs.Operations.{FlatFunction, Codes}
use Rattle.lua_flat.specs.Flat.{Act}
use Rattle.lua_flat.specs.Keeps.{Keeps, AreVariables, Bounded}
use Rattle.lua_flat.specs.Stands.{Within, within}
use Rattle.lua_flat_laws.proofs.Kept.{code_there, depth_there, variables_there, kept_there, room_there, callers_there}
use Rattle.lua_flat_laws.proofs.Unwinds.{cut_all}

pub variables_length : (regs : List Slot) (base : ℕ) (locals : List Local) (mine : List Slot) → AreVariables regs base locals mine → length mine ≡ length locals
variables_length regs base [] [] h = refl
variables_length regs base [] (x ∷ mine) h = absurd h
variables_length regs base (PlainL r ∷ locals) [] h = absurd h
variables_length regs base (CellL r ∷ locals) [] h = absurd h
variables_length regs base (PlainL r ∷ locals) (Boxed c ∷ mine) h = absurd h
variables_length regs base (CellL r ∷ locals) (Plain u ∷ mine) h = absurd h
variables_length regs base (PlainL r ∷ locals) (Plain u ∷ mine) h = ap suc (variables_length regs base locals mine h.1)
variables_length regs base (CellL r ∷ locals) (Boxed c ∷ mine) h = ap suc (variables_length regs base locals mine h.1)

-- the slots of a block's variables, and those below them
pub record Split (regs : List Slot) (base : ℕ) (locals : List Local) (mine : List Slot) : Type 0 where
  pub news : List Slot
  pub olds : List Slot
  pub is : mine ≡ news ++ olds
  pub variables : AreVariables regs base locals olds

split : (regs : List Slot) (base : ℕ) (inner locals : List Local) (mine : List Slot) → AreVariables regs base (inner ++ locals) mine → Split regs base locals mine
split regs base [] locals mine h = record { news = []; olds = mine; is = refl; variables = h }
split regs base (PlainL r ∷ inner) locals [] h = absurd h
split regs base (CellL r ∷ inner) locals [] h = absurd h
split regs base (PlainL r ∷ inner) locals (Boxed c ∷ mine) h = absurd h
split regs base (CellL r ∷ inner) locals (Plain u ∷ mine) h = absurd h
split regs base (PlainL r ∷ inner) locals (Plain u ∷ mine) h =
    let k : Split regs base locals mine = split regs base inner locals mine h.1 in
    record { news = Plain u ∷ k.news; olds = k.olds; is = ap (λ (zs : List Slot). Plain u ∷ zs) k.is; variables = k.variables }
split regs base (CellL r ∷ inner) locals (Boxed c ∷ mine) h =
    let k : Split regs base locals mine = split regs base inner locals mine h.1 in
    record { news = Boxed c ∷ k.news; olds = k.olds; is = ap (λ (zs : List Slot). Boxed c ∷ zs) k.is; variables = k.variables }

-- what is left of a function in progress
pub record Left (world : CWorld) (codes : Codes) (regs : List Slot) (a : Act) (acts : List Act) (fn : Activation) (fns : List Activation) (g : FlatFunction) (mine theirs : List Slot) (beneath : List SFrame) (locals : List Local) (low d : ℕ) (keeps : Keeps) : Type 0 where
  pub olds : List Slot
  pub is : cut_to d (mine ++ theirs) ≡ olds ++ theirs
  pub stays : Within world codes regs a acts fn fns g olds theirs beneath locals low keeps

pub cuts : (world : CWorld) (codes : Codes) {regs : List Slot} {a : Act} {acts : List Act} {fn : Activation} {fns : List Activation} {g : FlatFunction} {mine theirs : List Slot} {beneath : List SFrame} (inner locals : List Local) {low low' d : ℕ} {keeps : Keeps}
    → Within world codes regs a acts fn fns g mine theirs beneath (inner ++ locals) low keeps → d ≡ length locals + length theirs → low' ≤ low → Bounded low' locals keeps → Left world codes regs a acts fn fns g mine theirs beneath locals low' d keeps
cuts world codes {regs} {a} {g} {mine} {theirs} inner locals {low} {low'} {d} w e l b =
    let k : Split regs a.base locals mine = split regs a.base inner locals mine (variables_there world codes w) in
    let r : low' ≤ g.registers = let q = room_there world codes w in omega (arith, l, q) in
    let n : length k.olds ≡ length locals = variables_length regs a.base locals k.olds k.variables in
    let m : length (k.olds ++ theirs) ≡ length k.olds + length theirs = length-append k.olds theirs in
    let deep : d ≡ length (k.olds ++ theirs) = omega (arith, e, n, m) in
    record {
      olds = k.olds;
      is = ap (λ (zs : List Slot). cut_to d (zs ++ theirs)) k.is ∙ ap (λ (zs : List Slot). cut_to d zs) (append_assoc k.news k.olds theirs) ∙ cut_all d k.news (k.olds ++ theirs) deep;
      stays = within (code_there world codes w) (depth_there world codes w) k.variables (kept_there world codes w) b r (callers_there world codes w);
    }
