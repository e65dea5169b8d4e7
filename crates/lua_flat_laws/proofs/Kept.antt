-- REGISTERS that are put, and what stays true of a function in progress.
use Rattle.std.proofs.Common.{◌≡◌, ◌≢◌, ℕ, zero, suc, ◌+◌, ◌≤◌, ◌<◌, ◌∙◌, List, [], ◌∷◌, Some, refl, sym, ap, subst, arith}
use Rattle.std.specs.Prelude.{◌++◌, length, slice_get}
use Rattle.lua_goes.specs.LuaHeapValue.{Value}
use Rattle.lua_goes.specs.LuaSlotsCode.{Constants, CWorld}
use Rattle.lua_goes.specs.LuaSlotsSlots.{Slot, Plain, Boxed, Activation, slot_value, slot_cell}
use Rattle.lua_flat.specs.Locals.{Local, PlainL, CellL, register_of}
use Rattle.lua_goes.specs.LuaSlotsPoints.{SFrame}
use Rattle.lua_flat.specs.Operations.{Operand, RegisterO, ConstantO, TextO, FlatFunction, Codes}
use Rattle.lua_flat.specs.Registers.{read, put, operand}
use Rattle.lua_flat.specs.Flat.{Act}
use Rattle.lua_flat.specs.Keeps.{Keeps, AreKept, AreVariables, IsBelow, AllBelow, LocalsBelow, Bounded}
use Rattle.lua_flat.specs.Stands.{constants_in, Within, within, Callers, nobody, caller}

-- A REGISTER THAT IS PUT has what was put, and no other one is changed
pub put_same : (x : ℕ) (v : Slot) (regs : List Slot) → slice_get (put x v regs) x ≡ Some v
put_same zero v [] = refl
put_same zero v (y ∷ regs) = refl
put_same (suc x) v [] = put_same x v []
put_same (suc x) v (y ∷ regs) = put_same x v regs

pub put_cells : (x : ℕ) (v : Slot) (regs : List Slot) (y : ℕ) → x ≢ y → slot_cell (slice_get (put x v regs) y) ≡ slot_cell (slice_get regs y)
put_cells zero v [] zero n = absurd (n refl)
put_cells zero v [] (suc y) n = refl
put_cells zero v (z ∷ regs) zero n = absurd (n refl)
put_cells zero v (z ∷ regs) (suc y) n = refl
put_cells (suc x) v [] zero n = refl
put_cells (suc x) v [] (suc y) n = put_cells x v [] y (λ q. n (ap suc q))
put_cells (suc x) v (z ∷ regs) zero n = refl
put_cells (suc x) v (z ∷ regs) (suc y) n = put_cells x v regs y (λ q. n (ap suc q))

pub put_reads : (x : ℕ) (v : Slot) (regs : List Slot) (y : ℕ) → x ≢ y → read (put x v regs) y ≡ read regs y
put_reads zero v [] zero n = absurd (n refl)
put_reads zero v [] (suc y) n = refl
put_reads zero v (z ∷ regs) zero n = absurd (n refl)
put_reads zero v (z ∷ regs) (suc y) n = refl
put_reads (suc x) v [] zero n = refl
put_reads (suc x) v [] (suc y) n = put_reads x v [] y (λ q. n (ap suc q))
put_reads (suc x) v (z ∷ regs) zero n = refl
put_reads (suc x) v (z ∷ regs) (suc y) n = put_reads x v regs y (λ q. n (ap suc q))

pub put_value : (x : ℕ) (v : Value) (regs : List Slot) → read (put x (Plain v) regs) x ≡ v
put_value zero v [] = refl
put_value zero v (y ∷ regs) = refl
put_value (suc x) v [] = put_value x v []
put_value (suc x) v (y ∷ regs) = put_value x v regs

module _ (cs : Constants) (base low x : ℕ) (v : Slot) (regs : List Slot) (far : base + low ≤ x) where
  pub keep_operand : (o : Operand) → IsBelow low o → operand cs (put x v regs) base o ≡ operand cs regs base o
  keep_operand (RegisterO r) l = put_reads x v regs (base + r) (λ (q : x ≡ base + r). omega (arith, far, l, q))
  keep_operand (ConstantO u) l = refl
  keep_operand (TextO n) l = refl

  pub keep_all : (keeps : Keeps) → AllBelow low keeps → AreKept cs regs base keeps → AreKept cs (put x v regs) base keeps
  keep_all [] b h = tt
  keep_all (k ∷ keeps) b h = (keep_operand k.0 b.0 ∙ h.0, keep_all keeps b.1 h.1)

  pub keep_variables : (locals : List Local) (slots : List Slot) → LocalsBelow low locals → AreVariables regs base locals slots → AreVariables (put x v regs) base locals slots
  keep_variables [] [] b h = tt
  keep_variables [] (y ∷ slots) b h = absurd h
  keep_variables (PlainL r ∷ locals) [] b h = absurd h
  keep_variables (CellL r ∷ locals) [] b h = absurd h
  keep_variables (PlainL r ∷ locals) (Boxed c ∷ slots) b h = absurd h
  keep_variables (CellL r ∷ locals) (Plain u ∷ slots) b h = absurd h
  keep_variables (PlainL r ∷ locals) (Plain u ∷ slots) b h = (put_reads x v regs (base + r) (λ (q : x ≡ base + r). omega (arith, far, b.0, q)) ∙ h.0, keep_variables locals slots b.1 h.1)
  keep_variables (CellL r ∷ locals) (Boxed c ∷ slots) b h = (put_cells x v regs (base + r) (λ (q : x ≡ base + r). omega (arith, far, b.0, q)) ∙ h.0, keep_variables locals slots b.1 h.1)

module _ (world : CWorld) (codes : Codes) where
  module _ (regs : List Slot) (x : ℕ) (v : Slot) where
    mutual
      pub keep_within : {a : Act} {acts : List Act} {fn : Activation} {fns : List Activation} {g : FlatFunction} {mine theirs : List Slot} {beneath : List SFrame} {locals : List Local} {low : ℕ} {keeps : Keeps} → a.base + low ≤ x
          → Within world codes regs a acts fn fns g mine theirs beneath locals low keeps → Within world codes (put x v regs) a acts fn fns g mine theirs beneath locals low keeps
      keep_within l (within {a} {fn} {mine} {locals} {low} {keeps} c d vs ks b r below) =
          within c d (keep_variables (constants_in world fn.source) a.base low x v regs l locals mine b.locals_below vs) (keep_all (constants_in world fn.source) a.base low x v regs l keeps b.keeps_below ks) b r (keep_callers (omega (arith, l)) below)

      pub keep_callers : {acts : List Act} {fns : List Activation} {theirs : List Slot} {frames beneath : List SFrame} {limit : ℕ} → limit ≤ x → Callers world codes regs acts fns theirs frames beneath limit → Callers world codes (put x v regs) acts fns theirs frames beneath limit
      keep_callers l (nobody away) = nobody away
      keep_callers l (caller gs away w awaits h) = caller gs away (keep_within (omega (arith, l, h)) w) awaits h

  module _ {regs : List Slot} {a : Act} {acts : List Act} {fn : Activation} {fns : List Activation} {g : FlatFunction} {mine theirs : List Slot} {beneath : List SFrame} {locals : List Local} {low : ℕ} {keeps : Keeps} where
    -- at another place
    pub moved : (pc : ℕ) → Within world codes regs a acts fn fns g mine theirs beneath locals low keeps → Within world codes regs (record a { pc = pc }) acts fn fns g mine theirs beneath locals low keeps
    moved pc (within c d vs ks b r below) = within c d vs ks b r below

    -- with other values that are kept
    pub with_keeps : {low' : ℕ} {keeps' : Keeps} → AreKept (constants_in world fn.source) regs a.base keeps' → Bounded low' locals keeps' → low' ≤ g.registers → Within world codes regs a acts fn fns g mine theirs beneath locals low keeps
        → Within world codes regs a acts fn fns g mine theirs beneath locals low' keeps'
    with_keeps ks b r (within c d vs old b' r' below) = within c d vs ks b r below

    pub code_there : Within world codes regs a acts fn fns g mine theirs beneath locals low keeps → codes fn.source a.index ≡ Some g
    code_there (within c d vs ks b r below) = c

    pub depth_there : Within world codes regs a acts fn fns g mine theirs beneath locals low keeps → fn.base ≡ length theirs
    depth_there (within c d vs ks b r below) = d

    pub variables_there : Within world codes regs a acts fn fns g mine theirs beneath locals low keeps → AreVariables regs a.base locals mine
    variables_there (within c d vs ks b r below) = vs

    pub kept_there : Within world codes regs a acts fn fns g mine theirs beneath locals low keeps → AreKept (constants_in world fn.source) regs a.base keeps
    kept_there (within c d vs ks b r below) = ks

    pub bounded_there : Within world codes regs a acts fn fns g mine theirs beneath locals low keeps → Bounded low locals keeps
    bounded_there (within c d vs ks b r below) = b

    pub room_there : Within world codes regs a acts fn fns g mine theirs beneath locals low keeps → low ≤ g.registers
    room_there (within c d vs ks b r below) = r

    pub callers_there : Within world codes regs a acts fn fns g mine theirs beneath locals low keeps → Callers world codes regs acts fns theirs a.frames beneath a.base
    callers_there (within c d vs ks b r below) = below

-- BOUNDS further up
pub locals_below_more : (low low' : ℕ) (locals : List Local) → low ≤ low' → LocalsBelow low locals → LocalsBelow low' locals
locals_below_more low low' [] l b = tt
locals_below_more low low' (r ∷ locals) l b = (omega (arith, l, b.0), locals_below_more low low' locals l b.1)

pub below_more : (low low' : ℕ) (o : Operand) → low ≤ low' → IsBelow low o → IsBelow low' o
below_more low low' (RegisterO r) l b = omega (arith, l, b)
below_more low low' (ConstantO v) l b = tt
below_more low low' (TextO n) l b = tt

pub all_below_more : (low low' : ℕ) (keeps : Keeps) → low ≤ low' → AllBelow low keeps → AllBelow low' keeps
all_below_more low low' [] l b = tt
all_below_more low low' (k ∷ keeps) l b = (below_more low low' k.0 l b.0, all_below_more low low' keeps l b.1)

pub bounded_more : (low low' : ℕ) (locals : List Local) (keeps : Keeps) → low ≤ low' → Bounded low locals keeps → Bounded low' locals keeps
bounded_more low low' locals keeps l b = record { locals_below = locals_below_more low low' locals l b.locals_below; keeps_below = all_below_more low low' keeps l b.keeps_below }

-- a variable's register is below, and reads as its slot does
same_local : {x y : Local} → Some x ≡ Some y → x ≡ y
same_local e = cc

plain_back : {q r : ℕ} → Some (PlainL q) ≡ Some (PlainL r) → q ≡ r
plain_back e = cc

cell_back : {q r : ℕ} → Some (CellL q) ≡ Some (CellL r) → q ≡ r
cell_back e = cc

pub local_below : (low : ℕ) (locals : List Local) (i : ℕ) (l : Local) → LocalsBelow low locals → slice_get locals i ≡ Some l → register_of l < low
local_below low [] i l b e = absurd cc
local_below low (q ∷ locals) zero l b e = subst (λ (x : Local). register_of x < low) (same_local e) b.0
local_below low (q ∷ locals) (suc i) l b e = local_below low locals i l b.1 e

pub variable_value : (regs : List Slot) (base : ℕ) (locals : List Local) (slots theirs : List Slot) (i r : ℕ) → AreVariables regs base locals slots → slice_get locals i ≡ Some (PlainL r) → slot_value (slice_get (slots ++ theirs) i) ≡ read regs (base + r)
variable_value regs base [] slots theirs i r h e = absurd cc
variable_value regs base (PlainL q ∷ locals) [] theirs i r h e = absurd h
variable_value regs base (CellL q ∷ locals) [] theirs i r h e = absurd h
variable_value regs base (PlainL q ∷ locals) (Boxed c ∷ slots) theirs i r h e = absurd h
variable_value regs base (CellL q ∷ locals) (Plain u ∷ slots) theirs i r h e = absurd h
variable_value regs base (PlainL q ∷ locals) (Plain u ∷ slots) theirs zero r h e = sym h.0 ∙ ap (λ (n : ℕ). read regs (base + n)) (plain_back e)
variable_value regs base (CellL q ∷ locals) (Boxed c ∷ slots) theirs zero r h e = absurd cc
variable_value regs base (PlainL q ∷ locals) (Plain u ∷ slots) theirs (suc i) r h e = variable_value regs base locals slots theirs i r h.1 e
variable_value regs base (CellL q ∷ locals) (Boxed c ∷ slots) theirs (suc i) r h e = variable_value regs base locals slots theirs i r h.1 e

pub variable_cell : (regs : List Slot) (base : ℕ) (locals : List Local) (slots theirs : List Slot) (i r : ℕ) → AreVariables regs base locals slots → slice_get locals i ≡ Some (CellL r) → slot_cell (slice_get (slots ++ theirs) i) ≡ slot_cell (slice_get regs (base + r))
variable_cell regs base [] slots theirs i r h e = absurd cc
variable_cell regs base (PlainL q ∷ locals) [] theirs i r h e = absurd h
variable_cell regs base (CellL q ∷ locals) [] theirs i r h e = absurd h
variable_cell regs base (PlainL q ∷ locals) (Boxed c ∷ slots) theirs i r h e = absurd h
variable_cell regs base (CellL q ∷ locals) (Plain u ∷ slots) theirs i r h e = absurd h
variable_cell regs base (CellL q ∷ locals) (Boxed c ∷ slots) theirs zero r h e = sym h.0 ∙ ap (λ (n : ℕ). slot_cell (slice_get regs (base + n))) (cell_back e)
variable_cell regs base (PlainL q ∷ locals) (Plain u ∷ slots) theirs zero r h e = absurd cc
variable_cell regs base (PlainL q ∷ locals) (Plain u ∷ slots) theirs (suc i) r h e = variable_cell regs base locals slots theirs i r h.1 e
variable_cell regs base (CellL q ∷ locals) (Boxed c ∷ slots) theirs (suc i) r h e = variable_cell regs base locals slots theirs i r h.1 e
