-- NEW VARIABLES in registers whose values are there: by an operation where some have cells, and else by none.
use Rattle.std.proofs.Common.{◌≡◌, ℕ, suc, ◌+◌, ◌≤◌, Bool, true, false, List, [], ◌∷◌, refl, ap, subst, arith}
use Rattle.std.specs.Prelude.{length}
use Rattle.lua_goes.specs.LuaHeapProc.{Proc}
use Rattle.lua_goes.specs.LuaHeapHeap.{Heap, new_cell}
use Rattle.lua_goes.specs.LuaHeapValue.{Value}
use Rattle.lua_goes.specs.LuaMeaningValues.{first, rest}
use Rattle.lua_goes.specs.LuaSlotsSlots.{Slot, Plain, Boxed, Activation}
use Rattle.lua_goes.specs.LuaSlotsCode.{CWorld}
use Rattle.lua_goes.specs.LuaSlotsPoints.{SFrame, BlockEnd, WhileEnd, TestNext, CountEnd, EachEnd}
use Rattle.lua_flat.specs.Locals.{Local, PlainL, local_of, register_of, with_row}
use Rattle.lua_flat.specs.Operations.{Operand, RegisterO, ConstantO, TextO, FlatFunction, Codes}
use Rattle.lua_flat.specs.Registers.{values_at, adjusted, put_slots}
use Rattle.lua_flat.specs.Flat.{Act}
use Rattle.lua_flat.specs.Moves.{in_order, in_front}
use Rattle.lua_flat.specs.IsStatement.{is_any}
use Rattle.lua_flat.specs.Keeps.{Keeps, AreVariables, AllBelow, IsBelow, IsOther, IsApart, AreApart, LocalsBelow, Tidy}
use Rattle.lua_flat.specs.WaitsStatement.{Leaves}
use Rattle.lua_flat.specs.Stands.{Within, within}
use Rattle.lua_flat_laws.proofs.Kept.{locals_below_more, all_below_more, code_there, depth_there, variables_there, kept_there, callers_there}
use Rattle.lua_flat_laws.proofs.Enters.{rev_onto, opens_all, row_below, row_falling, keep_slots}

abbrev pub plains : List Value → List Slot
plains [] = []
plains (v ∷ vs) = Plain v ∷ plains vs

-- without cells they are plain, and the heap stays
pub plain_order : (flags : List Bool) (vs : List Value) (h : Heap Proc) → is_any flags ≡ false → in_order flags vs h ≡ (h, plains (adjusted (length flags) vs))
plain_order [] vs h e = refl
plain_order (true ∷ flags) vs h e = absurd cc
plain_order (false ∷ flags) vs h e = ap (λ (x : Heap Proc × List Slot). in_front (Plain (first vs)) x) (plain_order flags (rest vs) h e)

pub reads_plain : (base r : ℕ) (flags : List Bool) (vs : List Value) (locals : List Local) (xs regs : List Slot) → is_any flags ≡ false → values_at regs (base + r) (length flags) ≡ adjusted (length flags) vs → AreVariables regs base locals xs
    → AreVariables regs base (with_row r flags locals) (rev_onto (plains (adjusted (length flags) vs)) xs)
reads_plain base r [] vs locals xs regs e ev h = h
reads_plain base r (true ∷ flags) vs locals xs regs e ev h = absurd cc
reads_plain base r (false ∷ flags) vs locals xs regs e ev h =
    let place_is : base + r + 1 ≡ base + (r + 1) = omega arith in
    reads_plain base (r + 1) flags (rest vs) (PlainL r ∷ locals) (Plain (first vs) ∷ xs) regs e (subst (λ (n : ℕ). values_at regs n (length flags) ≡ adjusted (length flags) (rest vs)) place_is (ap rest ev)) (ap first ev, h)

-- as many values as there are variables
pub order_adjusted : (flags : List Bool) (vs : List Value) (h : Heap Proc) → in_order flags (adjusted (length flags) vs) h ≡ in_order flags vs h
order_adjusted [] vs h = refl
order_adjusted (true ∷ flags) vs h = ap (λ (x : Heap Proc × List Slot). in_front (Boxed (new_cell h (first vs)).1) x) (order_adjusted flags (rest vs) (new_cell h (first vs)).0)
order_adjusted (false ∷ flags) vs h = ap (λ (x : Heap Proc × List Slot). in_front (Plain (first vs)) x) (order_adjusted flags (rest vs) h)

-- a register above all that is kept is none of theirs
above_other : (low r : ℕ) (o : Operand) → low ≤ r → IsBelow low o → IsOther r o
above_other low r (RegisterO q) l b = λ (e : r ≡ q). omega (arith, l, b, e)
above_other low r (ConstantO v) l b = tt
above_other low r (TextO n) l b = tt

above_apart : (low r : ℕ) (keeps : Keeps) → low ≤ r → AllBelow low keeps → IsApart r keeps
above_apart low r [] l b = tt
above_apart low r (k ∷ keeps) l b = (above_other low r k.0 l b.0, above_apart low r keeps l b.1)

one_apart : (b : Bool) (r : ℕ) (keeps : Keeps) → IsApart r keeps → IsApart (register_of (local_of b r)) keeps
one_apart true r keeps h = h
one_apart false r keeps h = h

row_apart : (low r : ℕ) (flags : List Bool) (locals : List Local) (keeps : Keeps) → low ≤ r → AllBelow low keeps → AreApart locals keeps → AreApart (with_row r flags locals) keeps
row_apart low r [] locals keeps l b h = h
row_apart low r (x ∷ flags) locals keeps l b h = row_apart low (r + 1) flags (local_of x r ∷ locals) keeps (omega (arith, l)) b (one_apart x r keeps (above_apart low r keeps l b), h)

-- with them all is as it should be between statements
pub row_tidy : (low r : ℕ) (flags : List Bool) (locals : List Local) (keeps : Keeps) → low ≤ r → Tidy low locals keeps → Tidy (r + length flags) (with_row r flags locals) keeps
row_tidy low r flags locals keeps l tidy =
    let below : LocalsBelow r locals = locals_below_more low r locals l tidy.bounded.locals_below in
    record {
      bounded = record { locals_below = row_below r flags locals below; keeps_below = all_below_more low (r + length flags) keeps (omega (arith, l)) tidy.bounded.keeps_below };
      falling = row_falling r flags locals below tidy.falling;
      apart = row_apart low r flags locals keeps l tidy.bounded.keeps_below tidy.apart;
    }

-- the variables that are left at a block's end are there with more variables too
pub leaves_more : (m n : ℕ) (fs : List SFrame) → m ≤ n → Leaves m fs → Leaves n fs
leaves_more m n [] l h = tt
leaves_more m n (BlockEnd d ∷ fs) l h = omega (arith, l, h)
leaves_more m n (WhileEnd d test body ∷ fs) l h = omega (arith, l, h)
leaves_more m n (TestNext test d body ∷ fs) l h = omega (arith, l, h)
leaves_more m n (CountEnd d boxed index limit step body ∷ fs) l h = omega (arith, l, h)
leaves_more m n (EachEnd d flags f state before body line ∷ fs) l h = omega (arith, l, h)
leaves_more m n (f ∷ fs) l h = tt

pub row_length : (r : ℕ) (flags : List Bool) (locals : List Local) → length (with_row r flags locals) ≡ length flags + length locals
row_length r [] locals = omega arith
row_length r (b ∷ flags) locals =
    let e : length (with_row (r + 1) flags (local_of b r ∷ locals)) ≡ length flags + suc (length locals) = row_length (r + 1) flags (local_of b r ∷ locals) in
    omega (arith, e)

pub leaves_row : (r under : ℕ) (flags : List Bool) (locals : List Local) (fs : List SFrame) → Leaves (length locals + under) fs → Leaves (length (with_row r flags locals) + under) fs
leaves_row r under flags locals fs h = let e = row_length r flags locals in leaves_more (length locals + under) (length (with_row r flags locals) + under) fs (omega (arith, e)) h

-- a value that is kept in a register above the variables is apart from them
apart_more : (low r : ℕ) (v : Value) (locals : List Local) (keeps : Keeps) → LocalsBelow low locals → low ≤ r → AreApart locals keeps → AreApart locals ((RegisterO r, v) ∷ keeps)
apart_more low r v [] keeps b l h = tt
apart_more low r v (x ∷ locals) keeps b l h = ((λ (e : register_of x ≡ r). let m = b.0 in omega (arith, m, l, e), h.0), apart_more low r v locals keeps b.1 l h.1)

-- a loop keeps three values behind the variables
pub keep_three : (low q : ℕ) (u v x : Value) (locals : List Local) (keeps : Keeps) → low ≤ q → Tidy low locals keeps → Tidy (q + 3) locals ((RegisterO q, u) ∷ (RegisterO (q + 1), v) ∷ (RegisterO (q + 2), x) ∷ keeps)
keep_three low q u v x locals keeps l tidy =
    let below : LocalsBelow low locals = tidy.bounded.locals_below in
    record {
      bounded = record {
        locals_below = locals_below_more low (q + 3) locals (omega (arith, l)) below;
        keeps_below = (omega arith, (omega arith, (omega arith, all_below_more low (q + 3) keeps (omega (arith, l)) tidy.bounded.keeps_below)));
      };
      falling = tidy.falling;
      apart = apart_more low q u locals ((RegisterO (q + 1), v) ∷ (RegisterO (q + 2), x) ∷ keeps) below l
          (apart_more low (q + 1) v locals ((RegisterO (q + 2), x) ∷ keeps) below (omega (arith, l)) (apart_more low (q + 2) x locals keeps below (omega (arith, l)) tidy.apart));
    }

module _ (world : CWorld) (codes : Codes) {regs : List Slot} {a : Act} {acts : List Act} {fn : Activation} {fns : List Activation} {g : FlatFunction} {mine theirs : List Slot} {beneath : List SFrame} {locals : List Local} {low : ℕ} {keeps : Keeps} where
  -- they are open: without an operation, and by one
  pub plain_opens : (r : ℕ) (flags : List Bool) (vs : List Value) → Within world codes regs a acts fn fns g mine theirs beneath locals low keeps → Tidy low locals keeps → low ≤ r → r + length flags ≤ g.registers → is_any flags ≡ false
      → values_at regs (a.base + r) (length flags) ≡ adjusted (length flags) vs → Within world codes regs a acts fn fns g (rev_onto (plains (adjusted (length flags) vs)) mine) theirs beneath (with_row r flags locals) (r + length flags) keeps
  plain_opens r flags vs w tidy l room none ev =
      within (code_there world codes w) (depth_there world codes w) (reads_plain a.base r flags vs locals mine regs none ev (variables_there world codes w)) (kept_there world codes w) (row_tidy low r flags locals keeps l tidy).bounded room (callers_there world codes w)

  pub cells_open : (r : ℕ) (flags : List Bool) (vs : List Value) (h : Heap Proc) → Within world codes regs a acts fn fns g mine theirs beneath locals low keeps → Tidy low locals keeps → low ≤ r → r + length flags ≤ g.registers
      → Within world codes (put_slots (a.base + r) (in_order flags vs h).1 regs) a acts fn fns g (rev_onto (in_order flags vs h).1 mine) theirs beneath (with_row r flags locals) (r + length flags) keeps
  cells_open r flags vs h w tidy l room =
      let kept : Within world codes (put_slots (a.base + r) (in_order flags vs h).1 regs) a acts fn fns g mine theirs beneath locals low keeps = keep_slots world codes (in_order flags vs h).1 regs (a.base + r) (omega (arith, l)) w in
      within (code_there world codes w) (depth_there world codes w) (opens_all a.base r flags vs h locals mine regs (locals_below_more low r locals l tidy.bounded.locals_below) (variables_there world codes w)) (kept_there world codes kept)
      (row_tidy low r flags locals keeps l tidy).bounded room (callers_there world codes kept)
