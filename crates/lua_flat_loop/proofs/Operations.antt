-- WHAT EACH OPERATION DOES, as the loop does it.
use Rattle.std.proofs.Common.{◌≡◌, ◌∙◌, ◌+◌, ◌-◌, ◌<◌, ◌≤◌, ◌^◌, ◌+ℤ◌, ℕ, ℤ, zero, suc, List, [], ◌∷◌, Bool, true, false, Option, length, refl, sym, ap, subst, arith, slice_get, slice_set}
use Rattle.std.proofs.lemmas.Bool.{lt-ltb, le-ltb}
use Rattle.std.proofs.lemmas.List.{length-set}
use Rattle.std.specs.Prelude.{if◌then◌else◌, nat_lt}
use Rattle.lua_flat.specs.LuaHeapValue.{Value as Plain, Number, Text, Truth, is_true}
use Rattle.lua_code.specs.declared.operator.Operator.{Operator}
use Rattle.lua_code.specs.Seen.{operator_seen}
use Rattle.lua_stack.specs.LuaSlotsErrors.{gives}
use Rattle.lua_code.specs.LuaSlotsOperators.{operate}
use Rattle.lua_store.specs.declared.value.Value.{Value}
use Rattle.lua_store.specs.declared.value.Value.TheVariants as own
use Rattle.lua_number.specs.Whole.{fits}
use Rattle.lua_code.specs.LuaMeaningLoops.{is_within}
use Rattle.lua_code.specs.LuaSlotsIndex.{index}
use Rattle.lua_store.specs.Seen.{seen}
use Rattle.lua_flat.specs.LuaSlotsCode.{Constants}
use Rattle.lua_stack.specs.LuaSlotsSlots as slots
use Rattle.lua_stack.specs.LuaSlotsSlots.{Slots, slot_cell, cell_value, function_of}
use Rattle.lua_stack.specs.declared.register.Slot.{Slot}
use Rattle.lua_stack.specs.declared.register.Slot.TheVariants as slot
use Rattle.lua_stack.specs.Seen.{Texts, registers_seen}
use Rattle.lua_stack.proofs.PlaceLemmas.{set_seen}
use Rattle.lua_flat.specs.Operations as flat
use Rattle.lua_flat.specs.Registers.{read, put, operand}
use Rattle.lua_flat.specs.Does.{Landing, move_of, into, becomes, is_so, place_if, whole, count_if, counts_on, fits_within}
use Rattle.lua_flat_code.specs.declared.operand.Operand.{Operand}
use Rattle.lua_flat_code.specs.declared.op.Op.{Op}
use Rattle.lua_flat_code.specs.declared.op.Op.TheVariants as op
use Rattle.lua_flat_code.specs.Seen.{Tables, numbered, operand_seen, op_seen, or_nil}
use Rattle.lua_flat_loop.specs.Code.{constant_in}
use Rattle.lua_flat_loop.specs.Lands.{IsByMove, Lands}

-- A REGISTER THAT IS THERE IS WRITTEN in place
put_set : (at : ℕ) (x : slots.Slot) (regs : List slots.Slot) → at < length regs → put at x regs ≡ slice_set regs at x
put_set zero x [] h = absurd (omega (arith, h))
put_set zero x (y ∷ regs) h = refl
put_set (suc at) x [] h = absurd (omega (arith, h))
put_set (suc at) x (y ∷ regs) h = ap (λ (l : List slots.Slot). y ∷ l) (put_set at x regs (omega (arith, h)))

as_long : (texts : Texts) (regs : List Slot) → length (registers_seen texts regs) ≡ length regs
as_long texts [] = refl
as_long texts (r ∷ regs) = ap (λ (n : ℕ). suc n) (as_long texts regs)

pub put_at : (texts : Texts) (regs : List Slot) (at : ℕ) (v : Value) (p : Plain) → at < length regs → seen texts v ≡ p → put at (slots.Plain p) (registers_seen texts regs) ≡ registers_seen texts (slice_set regs at (slot.Plain v))
put_at texts regs at v p h e =
    put_set at (slots.Plain p) (registers_seen texts regs) (omega (arith, h, as_long texts regs))
    ∙ ap (λ (q : Plain). slice_set (registers_seen texts regs) at (slots.Plain q)) (sym e) ∙ sym (set_seen texts regs at (slot.Plain v))

-- OPERANDS
chosen : (cs : Constants) (regs : List slots.Slot) (base : ℕ) (b : Bool) (n : ℕ) (v : Plain) → operand cs regs base (if b then flat.TextO n else flat.ConstantO v) ≡ (if b then Text (cs n) else v)
chosen cs regs base true n v = refl
chosen cs regs base false n v = refl

pub constant_read : (cs : Constants) (k : Tables) (regs : List slots.Slot) (base n : ℕ) → operand cs regs base (numbered k n) ≡ constant_in cs k n
constant_read cs k regs base n = chosen cs regs base (nat_lt n k.texts) n (or_nil (slice_get k.constants (n - k.texts)))

pub register_operand : (k : Tables) (o : Operand) → o.code < 2 ^ 31 → operand_seen k o ≡ flat.RegisterO o.code
register_operand k o h = ap (λ (b : Bool). if b then flat.RegisterO o.code else numbered k (o.code - 2 ^ 31)) (lt-ltb o.code (2 ^ 31) h)

pub constant_operand : (k : Tables) (o : Operand) → 2 ^ 31 ≤ o.code → operand_seen k o ≡ numbered k (o.code - 2 ^ 31)
constant_operand k o h = ap (λ (b : Bool). if b then flat.RegisterO o.code else numbered k (o.code - 2 ^ 31)) (le-ltb o.code (2 ^ 31) h)

-- OPERATIONS, where the loop has these registers and this place, with the values that operands read
module _ (texts : Texts) (cs : Constants) (k : Tables) (base pc top : ℕ) (regs : List Slot) (s : Slots) where
  abbrev pub At : List Slot → ℕ → Landing
  At regs' pc' = record { pc = pc'; regs = registers_seen texts regs'; top = top }

  abbrev pub Does : Op → List Slot → ℕ → Type 0
  Does o regs' pc' = Lands cs (op_seen k o) base pc (registers_seen texts regs) top s s (At regs' pc')

  pub pay_does : Does op.Pay regs (pc + 1)
  pay_does = record { values = []; by_move = λ codes ds line a acts f. refl; moves = λ line. refl; becomes = refl }

  pub jump_does : (target : ℕ) → Does (op.Jump target) regs target
  jump_does target = record { values = []; by_move = λ codes ds line a acts f. refl; moves = λ line. refl; becomes = refl }

  pub load_does : (to : ℕ) (from : Operand) (v : Value) → base + to < length regs → seen texts v ≡ operand cs (registers_seen texts regs) base (operand_seen k from)
      → Does (op.Load to from) (slice_set regs (base + to) (slot.Plain v)) (pc + 1)
  load_does to from v h e = record {
    values = operand cs (registers_seen texts regs) base (operand_seen k from) ∷ [];
    by_move = λ codes ds line a acts f. refl;
    moves = λ line. refl;
    becomes = ap (λ (r : List slots.Slot). record { pc = pc + 1; regs = r; top = top }) (put_at texts regs (base + to) v _ h e);
  }

  -- an operator, from what it gives for the values of its operands
  operated : (which : Operator) (a b : Operand) (u v : Value) (vs : List Plain) (line : Option ℕ) → seen texts u ≡ operand cs (registers_seen texts regs) base (operand_seen k a) → seen texts v ≡ operand cs (registers_seen texts regs) base (operand_seen k b)
      → operate (operator_seen which) (seen texts u) (seen texts v) line [] s ≡ gives vs [] s
      → operate (operator_seen which) (operand cs (registers_seen texts regs) base (operand_seen k a)) (operand cs (registers_seen texts regs) base (operand_seen k b)) line [] s ≡ gives vs [] s
  operated which a b u v vs line ea eb h =
      ap (λ (p : Plain). operate (operator_seen which) p (operand cs (registers_seen texts regs) base (operand_seen k b)) line [] s) (sym ea)
      ∙ ap (λ (q : Plain). operate (operator_seen which) (seen texts u) q line [] s) (sym eb) ∙ h

  pub operate_does : (which : Operator) (to : ℕ) (a b : Operand) (u v made : Value) → base + to < length regs
      → seen texts u ≡ operand cs (registers_seen texts regs) base (operand_seen k a) → seen texts v ≡ operand cs (registers_seen texts regs) base (operand_seen k b)
      → ((line : Option ℕ) → operate (operator_seen which) (seen texts u) (seen texts v) line [] s ≡ gives (seen texts made ∷ []) [] s)
      → Does (op.Operate which to a b) (slice_set regs (base + to) (slot.Plain made)) (pc + 1)
  operate_does which to a b u v made h ea eb given = record {
    values = seen texts made ∷ [];
    by_move = λ codes ds line a' acts f. refl;
    moves = λ line. operated which a b u v (seen texts made ∷ []) line ea eb (given line);
    becomes = ap (λ (r : List slots.Slot). record { pc = pc + 1; regs = r; top = top }) (put_at texts regs (base + to) made (seen texts made) h refl);
  }

  -- tests
  pub test_does : (when : Bool) (a : Operand) (target : ℕ) (v : Value) (truth : Bool) (place : ℕ) → seen texts v ≡ operand cs (registers_seen texts regs) base (operand_seen k a)
      → truth ≡ is_true (seen texts v) → place ≡ place_if (is_so when truth) target (pc + 1) → Does (op.Test when a target) regs place
  test_does when a target v truth place e t p = record {
    values = operand cs (registers_seen texts regs) base (operand_seen k a) ∷ [];
    by_move = λ codes ds line a' acts f. refl;
    moves = λ line. refl;
    becomes = ap (λ (n : ℕ). record { pc = n; regs = registers_seen texts regs; top = top })
        (ap (λ (q : Plain). place_if (is_so when (is_true q)) target (pc + 1)) (sym e) ∙ ap (λ (b : Bool). place_if (is_so when b) target (pc + 1)) (sym t) ∙ sym p);
  }

  pub compare_does : (which : Operator) (a b : Operand) (when : Bool) (target : ℕ) (u v : Value) (truth : Bool) (place : ℕ)
      → seen texts u ≡ operand cs (registers_seen texts regs) base (operand_seen k a) → seen texts v ≡ operand cs (registers_seen texts regs) base (operand_seen k b)
      → ((line : Option ℕ) → operate (operator_seen which) (seen texts u) (seen texts v) line [] s ≡ gives (Truth truth ∷ []) [] s) → place ≡ place_if (is_so when truth) target (pc + 1)
      → Does (op.Compare which a b when target) regs place
  compare_does which a b when target u v truth place ea eb given p = record {
    values = Truth truth ∷ [];
    by_move = λ codes ds line a' acts f. refl;
    moves = λ line. operated which a b u v (Truth truth ∷ []) line ea eb (given line);
    becomes = ap (λ (n : ℕ). record { pc = n; regs = registers_seen texts regs; top = top }) (sym p);
  }

  -- an operation that gives one value to a register
  gives_one : (o : Op) (to : ℕ) (v : Value) → IsByMove (op_seen k o) → ((line : Option ℕ) → move_of cs line base (registers_seen texts regs) top s (op_seen k o) ≡ gives (seen texts v ∷ []) [] s)
      → becomes (op_seen k o) base pc (seen texts v ∷ []) (registers_seen texts regs) top ≡ into (base + to) (seen texts v) pc (registers_seen texts regs) top
      → base + to < length regs → Does o (slice_set regs (base + to) (slot.Plain v)) (pc + 1)
  gives_one o to v by_move given lands h = record {
    values = seen texts v ∷ [];
    by_move = by_move;
    moves = given;
    becomes = lands ∙ ap (λ (r : List slots.Slot). record { pc = pc + 1; regs = r; top = top }) (put_at texts regs (base + to) v (seen texts v) h refl);
  }

  pub get_up_does : (to captured : ℕ) (v : Value) → base + to < length regs → seen texts v ≡ cell_value s.heap (slice_get (function_of s).cells captured) → Does (op.GetUp to captured) (slice_set regs (base + to) (slot.Plain v)) (pc + 1)
  get_up_does to captured v h e = gives_one (op.GetUp to captured) to v (λ codes ds line a acts f. refl) (λ line. ap (λ (p : Plain). gives (p ∷ []) [] s) (sym e)) refl h

  pub get_cell_does : (to cell : ℕ) (v : Value) → base + to < length regs → seen texts v ≡ cell_value s.heap (slot_cell (slice_get (registers_seen texts regs) (base + cell))) → Does (op.GetCell to cell) (slice_set regs (base + to) (slot.Plain v)) (pc + 1)
  get_cell_does to cell v h e = gives_one (op.GetCell to cell) to v (λ codes ds line a acts f. refl) (λ line. ap (λ (p : Plain). gives (p ∷ []) [] s) (sym e)) refl h

  pub index_does : (to : ℕ) (of key : Operand) (u n v : Value) → base + to < length regs
      → seen texts u ≡ operand cs (registers_seen texts regs) base (operand_seen k of) → seen texts n ≡ operand cs (registers_seen texts regs) base (operand_seen k key)
      → ((line : Option ℕ) → index (seen texts u) (seen texts n) line [] s ≡ gives (seen texts v ∷ []) [] s) → Does (op.Index to of key) (slice_set regs (base + to) (slot.Plain v)) (pc + 1)
  index_does to of key u n v h eu en given =
      gives_one (op.Index to of key) to v (λ codes ds line a acts f. refl)
      (λ line. ap (λ (p : Plain). index p (operand cs (registers_seen texts regs) base (operand_seen k key)) line [] s) (sym eu) ∙ ap (λ (q : Plain). index (seen texts u) q line [] s) (sym en) ∙ given line)
      refl h

  -- counting
  counted : (b target : ℕ) (index limit step : ℤ) → Number index ≡ read (registers_seen texts regs) (base + b) → Number limit ≡ read (registers_seen texts regs) (base + b + 1) → Number step ≡ read (registers_seen texts regs) (base + b + 2)
      → becomes (flat.CountGoesOnF b target) base pc [] (registers_seen texts regs) top ≡ counts_on index limit step (base + b) pc target (registers_seen texts regs) top
  counted b target index limit step ei el es =
      ap (λ (v : Plain). counts_on (whole v) (whole (read (registers_seen texts regs) (base + b + 1))) (whole (read (registers_seen texts regs) (base + b + 2))) (base + b) pc target (registers_seen texts regs) top) (sym ei)
      ∙ ap (λ (v : Plain). counts_on index (whole v) (whole (read (registers_seen texts regs) (base + b + 2))) (base + b) pc target (registers_seen texts regs) top) (sym el)
      ∙ ap (λ (v : Plain). counts_on index limit (whole v) (base + b) pc target (registers_seen texts regs) top) (sym es)

  -- the index goes to two registers
  two_put : (at : ℕ) (n : ℤ) → at + 3 < length regs
      → put (at + 3) (slots.Plain (Number n)) (put at (slots.Plain (Number n)) (registers_seen texts regs)) ≡ registers_seen texts (slice_set (slice_set regs at (slot.Plain (own.Number n))) (at + 3) (slot.Plain (own.Number n)))
  two_put at n h =
      ap (put (at + 3) (slots.Plain (Number n))) (put_at texts regs at (own.Number n) (Number n) (omega (arith, h)) refl)
      ∙ put_at texts (slice_set regs at (slot.Plain (own.Number n))) (at + 3) (own.Number n) (Number n) (subst (λ (l : ℕ). at + 3 < l) (sym (length-set regs at (slot.Plain (own.Number n)))) h) refl

  pub count_goes_on : (b target : ℕ) (index limit step next : ℤ) → Number index ≡ read (registers_seen texts regs) (base + b) → Number limit ≡ read (registers_seen texts regs) (base + b + 1) → Number step ≡ read (registers_seen texts regs) (base + b + 2)
      → base + b + 3 < length regs → next ≡ index +ℤ step → fits_within (fits (index +ℤ step)) (is_within (index +ℤ step) limit step) ≡ true
      → Does (op.CountGoesOn b target) (slice_set (slice_set regs (base + b) (slot.Plain (own.Number next))) (base + b + 3) (slot.Plain (own.Number next))) target
  count_goes_on b target index limit step next ei el es h en on = record {
    values = [];
    by_move = λ codes ds line a acts f. refl;
    moves = λ line. refl;
    becomes = counted b target index limit step ei el es
        ∙ ap (λ (t : Bool). count_if t (index +ℤ step) (base + b) target (pc + 1) (registers_seen texts regs) top) on
        ∙ ap (λ (z : ℤ). record { pc = target; regs = put (base + b + 3) (slots.Plain (Number z)) (put (base + b) (slots.Plain (Number z)) (registers_seen texts regs)); top = top }) (sym en)
        ∙ ap (λ (r : List slots.Slot). record { pc = target; regs = r; top = top }) (two_put (base + b) next h);
  }

  pub count_ends : (b target : ℕ) (index limit step : ℤ) → Number index ≡ read (registers_seen texts regs) (base + b) → Number limit ≡ read (registers_seen texts regs) (base + b + 1) → Number step ≡ read (registers_seen texts regs) (base + b + 2)
      → fits_within (fits (index +ℤ step)) (is_within (index +ℤ step) limit step) ≡ false → Does (op.CountGoesOn b target) regs (pc + 1)
  count_ends b target index limit step ei el es off = record {
    values = [];
    by_move = λ codes ds line a acts f. refl;
    moves = λ line. refl;
    becomes = counted b target index limit step ei el es ∙ ap (λ (t : Bool). count_if t (index +ℤ step) (base + b) target (pc + 1) (registers_seen texts regs) top) off;
  }
