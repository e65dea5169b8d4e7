-- VALUES IN A ROW of registers.
use Rattle.std.proofs.Common.{◌≡◌, ℕ, zero, suc, ◌+◌, ◌-◌, ◌≤◌, ◌<◌, ◌∙◌, List, [], ◌∷◌, ◌++◌, refl, sym, ap, ap₂, arith}
use Rattle.std.specs.Prelude.{length, take}
use Rattle.lua_goes.specs.LuaHeapValue.{Value}
use Rattle.lua_goes.specs.LuaMeaningValues.{rest}
use Rattle.lua_goes.specs.LuaSlotsCode.{Constants, CWorld}
use Rattle.lua_goes.specs.LuaSlotsSlots.{Slot, Plain, Activation}
use Rattle.lua_goes.specs.LuaSlotsPoints.{SFrame}
use Rattle.lua_flat.specs.Locals.{Local}
use Rattle.lua_flat.specs.Operations.{FlatFunction, Codes}
use Rattle.lua_flat.specs.Registers.{read, put, values_at, adjusted, put_values}
use Rattle.lua_flat.specs.Flat.{Act}
use Rattle.lua_flat.specs.Keeps.{Keeps, AreKept, AllBelow, in_row}
use Rattle.lua_flat.specs.Stands.{Within}
use Rattle.lua_flat_laws.proofs.Kept.{put_reads, put_value, keep_within}

pub put_values_reads : (vs : List Value) (at : ℕ) (regs : List Slot) (y : ℕ) → y < at → read (put_values at vs regs) y ≡ read regs y
put_values_reads [] at regs y l = refl
put_values_reads (v ∷ vs) at regs y l = put_values_reads vs (at + 1) (put at (Plain v) regs) y (omega (arith, l)) ∙ put_reads at (Plain v) regs y (λ (q : at ≡ y). omega (arith, l, q))

pub values_put : (vs : List Value) (at : ℕ) (regs : List Slot) → values_at (put_values at vs regs) at (length vs) ≡ vs
values_put [] at regs = refl
values_put (v ∷ vs) at regs =
    ap₂ (λ (x : Value) (xs : List Value). x ∷ xs) (put_values_reads vs (at + 1) (put at (Plain v) regs) at (omega arith) ∙ put_value at v regs) (values_put vs (at + 1) (put at (Plain v) regs))

pub values_append : (regs : List Slot) (at m n : ℕ) → values_at regs at (m + n) ≡ values_at regs at m ++ values_at regs (at + m) n
values_append regs at zero n =
    let e : zero + n ≡ n = omega arith in
    let f : at ≡ at + zero = omega arith in
    ap (λ (k : ℕ). values_at regs at k) e ∙ ap (λ (k : ℕ). values_at regs k n) f
values_append regs at (suc m) n =
    let e : suc m + n ≡ suc (m + n) = omega arith in
    let f : at + 1 + m ≡ at + suc m = omega arith in
    ap (λ (k : ℕ). values_at regs at k) e ∙ ap (λ (xs : List Value). read regs at ∷ xs) (values_append regs (at + 1) m n ∙ ap (λ (k : ℕ). values_at regs (at + 1) m ++ values_at regs k n) f)

pub kept_row : (cs : Constants) (regs : List Slot) (base r : ℕ) (before : List Value) (keeps : Keeps) → AreKept cs regs base (in_row r before keeps) → values_at regs (base + r) (length before) ≡ before
kept_row cs regs base r [] keeps h = refl
kept_row cs regs base r (v ∷ before) keeps h =
    let e : base + r + 1 ≡ base + (r + 1) = omega arith in
    ap₂ (λ (x : Value) (xs : List Value). x ∷ xs) h.0 (ap (λ (k : ℕ). values_at regs k (length before)) e ∙ kept_row cs regs base (r + 1) before keeps h.1)

pub kept_behind : (cs : Constants) (regs : List Slot) (base r : ℕ) (before : List Value) (keeps : Keeps) → AreKept cs regs base (in_row r before keeps) → AreKept cs regs base keeps
kept_behind cs regs base r [] keeps h = h
kept_behind cs regs base r (v ∷ before) keeps h = kept_behind cs regs base (r + 1) before keeps h.1

pub adjusted_length : (n : ℕ) (vs : List Value) → length (adjusted n vs) ≡ n
adjusted_length zero vs = refl
adjusted_length (suc n) vs = ap suc (adjusted_length n (rest vs))

pub adjusted_append : (n : ℕ) (before vs : List Value) → adjusted (length before + n) (before ++ vs) ≡ before ++ adjusted n vs
adjusted_append n [] vs = let e : 0 + n ≡ n = omega arith in ap (λ (k : ℕ). adjusted k vs) e
adjusted_append n (v ∷ before) vs =
    let e : suc (length before) + n ≡ suc (length before + n) = omega arith in
    ap (λ (k : ℕ). adjusted k (v ∷ before ++ vs)) e ∙ ap (λ (xs : List Value). v ∷ xs) (adjusted_append n before vs)

pub keep_values : (world : CWorld) (codes : Codes) (vs : List Value) (regs : List Slot) (x : ℕ) {a : Act} {acts : List Act} {fn : Activation} {fns : List Activation} {g : FlatFunction} {mine theirs : List Slot} {beneath : List SFrame} {locals : List Local} {low : ℕ} {keeps : Keeps} → a.base + low ≤ x
    → Within world codes regs a acts fn fns g mine theirs beneath locals low keeps → Within world codes (put_values x vs regs) a acts fn fns g mine theirs beneath locals low keeps
keep_values world codes [] regs x l w = w
keep_values world codes (v ∷ vs) regs x l w = keep_values world codes vs (put x (Plain v) regs) (x + 1) (omega (arith, l)) (keep_within world codes regs x (Plain v) l w)

-- one more value in the row
pub kept_more : (cs : Constants) (regs : List Slot) (base r : ℕ) (before : List Value) (keeps : Keeps) (v : Value) → AreKept cs regs base (in_row r before keeps) → read regs (base + (r + length before)) ≡ v → AreKept cs regs base (in_row r (before ++ v ∷ []) keeps)
kept_more cs regs base r [] keeps v h e = let same : r + zero ≡ r = omega arith in (ap (λ (n : ℕ). read regs (base + n)) (sym same) ∙ e, h)
kept_more cs regs base r (u ∷ before) keeps v h e =
    let same : r + 1 + length before ≡ r + suc (length before) = omega arith in (h.0, kept_more cs regs base (r + 1) before keeps v h.1 (ap (λ (n : ℕ). read regs (base + n)) same ∙ e))

pub row_under : (bound r : ℕ) (before : List Value) (keeps : Keeps) → r + length before ≤ bound → AllBelow bound keeps → AllBelow bound (in_row r before keeps)
row_under bound r [] keeps l b = b
row_under bound r (v ∷ before) keeps l b = (omega (arith, l), row_under bound (r + 1) before keeps (omega (arith, l)) b)

pub row_full : (cs : Constants) (regs : List Slot) (base r : ℕ) (before : List Value) (keeps : Keeps) (vs : List Value) → AreKept cs regs base (in_row r before keeps) → vs ≡ read regs (base + (r + length before)) ∷ [] → values_at regs (base + r) (length before + 1) ≡ before ++ vs
row_full cs regs base r before keeps vs h e =
    let place_is : base + r + length before ≡ base + (r + length before) = omega arith in
    values_append regs (base + r) (length before) 1 ∙ ap₂ (λ (xs ys : List Value). xs ++ ys) (kept_row cs regs base r before keeps h) (ap (λ (n : ℕ). read regs n ∷ []) place_is ∙ sym e)

-- the first of them are what a list comes to that is adjusted
pub adjusted_take : (m : ℕ) (before vs : List Value) → m ≤ length before → adjusted m (before ++ vs) ≡ take m before
adjusted_take zero before vs l = refl
adjusted_take (suc m) [] vs l = absurd (omega (arith, l))
adjusted_take (suc m) (v ∷ before) vs l = ap (λ (xs : List Value). v ∷ xs) (adjusted_take m before vs (omega (arith, l)))

-- values that end in one
pub adjusted_full : (before vs : List Value) (v : Value) → vs ≡ v ∷ [] → adjusted (length before + 1) (before ++ vs) ≡ before ++ vs
adjusted_full before vs v e = adjusted_append 1 before vs ∙ ap (λ (xs : List Value). before ++ xs) (ap (λ (xs : List Value). adjusted 1 xs) e ∙ sym e)

pub take_all : (before : List Value) → take (length before) before ≡ before
take_all [] = refl
take_all (v ∷ before) = ap (λ (xs : List Value). v ∷ xs) (take_all before)

pub take_before : (m : ℕ) (before vs : List Value) → m ≤ length before → take m (before ++ vs) ≡ take m before
take_before zero before vs l = refl
take_before (suc m) [] vs l = absurd (omega (arith, l))
take_before (suc m) (v ∷ before) vs l = ap (λ (xs : List Value). v ∷ xs) (take_before m before vs (omega (arith, l)))

pub take_length : (m : ℕ) (before : List Value) → m ≤ length before → length (take m before) ≡ m
take_length zero before l = refl
take_length (suc m) [] l = absurd (omega (arith, l))
take_length (suc m) (v ∷ before) l = ap suc (take_length m before (omega (arith, l)))

pub row_dropped : (cs : Constants) (regs : List Slot) (base r m : ℕ) (before vs : List Value) (keeps : Keeps) → m ≤ length before → AreKept cs regs base (in_row r (take m before) keeps) → values_at regs (base + r) m ≡ adjusted m (before ++ vs)
row_dropped cs regs base r m before vs keeps l h =
    let n : length (take m before) ≡ m = take_length m before l in
    ap (λ (k : ℕ). values_at regs (base + r) k) (sym n) ∙ kept_row cs regs base r (take m before) keeps h ∙ sym (adjusted_take m before vs l)

-- behind values that are kept in a row: all that are put; and as many as are wanted
module _ (cs : Constants) (regs : List Slot) (base r : ℕ) (before : List Value) (keeps : Keeps) where
  abbrev behind : ℕ
  behind = base + (r + length before)

  pub rows_behind : (vs : List Value) → AreKept cs (put_values behind vs regs) base (in_row r before keeps) → values_at (put_values behind vs regs) (base + r) (behind + length vs - (base + r)) ≡ before ++ vs
  rows_behind vs h =
      let after : List Slot = put_values behind vs regs in
      let count_is : behind + length vs - (base + r) ≡ length before + length vs = omega arith in
      let place_is : base + r + length before ≡ behind = omega arith in
      ap (λ (n : ℕ). values_at after (base + r) n) count_is ∙ values_append after (base + r) (length before) (length vs)
      ∙ ap₂ (λ (xs ys : List Value). xs ++ ys) (kept_row cs after base r before keeps h) (ap (λ (n : ℕ). values_at after n (length vs)) place_is ∙ values_put vs behind regs)

  pub exact_behind : (n : ℕ) (vs : List Value) → AreKept cs (put_values behind (adjusted n vs) regs) base (in_row r before keeps) → values_at (put_values behind (adjusted n vs) regs) (base + r) (length before + n) ≡ adjusted (length before + n) (before ++ vs)
  exact_behind n vs h =
      let after : List Slot = put_values behind (adjusted n vs) regs in
      let place_is : base + r + length before ≡ behind = omega arith in
      values_append after (base + r) (length before) n
      ∙ ap₂ (λ (xs ys : List Value). xs ++ ys) (kept_row cs after base r before keeps h)
      (ap (λ (m : ℕ). values_at after m n) place_is ∙ ap (λ (m : ℕ). values_at after behind m) (sym (adjusted_length n vs)) ∙ values_put (adjusted n vs) behind regs) ∙ sym (adjusted_append n before vs)
