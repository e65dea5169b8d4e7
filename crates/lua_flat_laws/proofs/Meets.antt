-- WHAT A FLAT MACHINE MEETS that stands in code and owes so many steps, where the machine over trees stands at a point.
use Rattle.std.proofs.Common.{◌≡◌, ℕ, zero, suc, ◌+◌, ◌<◌, ◌∙◌, Bool, true, false, List, [], ◌∷◌, Some, refl, sym, ap, subst, arith}
use Rattle.std.specs.Prelude.{◌++◌, slice_get, slice_set}
use Rattle.lua_goes.specs.LuaHeapValue.{Value}
use Rattle.lua_goes.specs.LuaMeaningValues.{first}
use Rattle.lua_goes.specs.LuaSlotsCode.{Constants, CWorld}
use Rattle.lua_flat.specs.Locals.{Local, PlainL, CellL, register_of}
use Rattle.lua_goes.specs.LuaSlotsSlots.{Slot, Plain, Boxed, Slots}
use Rattle.lua_goes.specs.LuaSlotsPoints.{Point, Move, Now}
use Rattle.lua_goes.specs.LuaSlotsErrors.{node}
use Rattle.lua_goes.specs.LuaSlotsMoves.{moves}
use Rattle.lua_flat.specs.Operations.{Operand, RegisterO, Codes}
use Rattle.lua_flat.specs.Registers.{read, put, operand}
use Rattle.lua_flat.specs.Flat.{Flat, FlatMove, FNodes}
use Rattle.lua_flat.specs.Moves.{flat_moves}
use Rattle.lua_flat.specs.Keeps.{Keeps, AreVariables, IsFalling, IsOther, IsApart, AreApart, AreKept}
use Rattle.lua_flat.specs.Stands.{IsGiven}
use Rattle.lua_flat_laws.specs.Follows.{Follows, follow_none, follow_node, follow_free}
use Rattle.lua_flat_laws.proofs.Kept.{put_cells, put_reads, put_value, keep_variables, local_below}

module _ (world : CWorld) (codes : Codes) (room : ℕ) where
  -- the move of the flat machine pays what is owed, and so many steps more, and then it follows from that point
  pub record Meets (f : Flat) (c : ℕ) (p : Point) (s : Slots) : Type 0 where
    pub rest : ℕ
    pub move : FlatMove
    pub is : flat_moves world codes room f ≡ FNodes (c + rest) move
    pub follows : Follows world codes (FNodes rest move) (Now p s)

  module _ (f : Flat) (c : ℕ) (p : Point) (s : Slots) where
    -- a free move, and a node, in front
    pub by_free : (q : Point) (t : Slots) → moves world p s ≡ Now q t → Meets f c q t → Meets f c p s
    by_free q t e m = record {
      rest = m.rest;
      move = m.move;
      is = m.is;
      follows = follow_free p s (subst (λ (mv : Move). Follows world codes (FNodes m.rest m.move) mv) (sym e) m.follows);
    }

    pub by_node : (q : Point) (t : Slots) → moves world p s ≡ node (Now q t) → Meets f (c + 1) q t → Meets f c p s
    by_node q t e m = record {
      rest = m.rest + 1;
      move = m.move;
      is = m.is ∙ ap (λ (n : ℕ). FNodes n m.move) (omega arith);
      follows = follow_free p s (subst (λ (mv : Move). Follows world codes (FNodes (m.rest + 1) m.move) mv) (sym e) (follow_node m.follows));
    }

    -- an operation at which all is paid that is owed; one whose node begins with what it does; and one that leads to where both stand
    pub by_operation : (own : FlatMove) → flat_moves world codes room f ≡ FNodes c own → Follows world codes own (moves world p s) → Meets f c p s
    by_operation own e h = record { rest = 0; move = own; is = e ∙ ap (λ (n : ℕ). FNodes n own) (omega arith); follows = follow_none (follow_free p s h) }

    pub by_last_node : (own : FlatMove) (mv : Move) → flat_moves world codes room f ≡ FNodes (c + 1) own → moves world p s ≡ node mv → Follows world codes own mv → Meets f c p s
    by_last_node own mv e n h = record {
      rest = 0 + 1;
      move = own;
      is = e ∙ ap (λ (n : ℕ). FNodes n own) (omega arith);
      follows = follow_free p s (subst (λ (x : Move). Follows world codes (FNodes (0 + 1) own) x) (sym n) (follow_node (follow_none h)));
    }

    pub by_standing : (own : FlatMove) → flat_moves world codes room f ≡ FNodes c own → Follows world codes own (Now p s) → Meets f c p s
    by_standing own e h = record { rest = 0; move = own; is = e ∙ ap (λ (n : ℕ). FNodes n own) (omega arith); follows = follow_none h }

  -- and where nothing is owed, its move follows
  pub whole : (f : Flat) (p : Point) (s : Slots) → Meets f 0 p s → Follows world codes (flat_moves world codes room f) (Now p s)
  whole f p s m =
      let e : flat_moves world codes room f ≡ FNodes m.rest m.move = m.is ∙ ap (λ (n : ℕ). FNodes n m.move) (omega arith) in
      subst (λ (x : FlatMove). Follows world codes x (Now p s)) (sym e) m.follows

-- A VALUE that is given: it is the first one; and one alone
pub first_given : (single : Bool) (vs : List Value) (v : Value) → IsGiven single vs v → v ≡ first vs
first_given true vs v e = sym (ap first e)
first_given false vs v e = sym e

pub given_one : (single : Bool) (v u : Value) → v ≡ u → IsGiven single (u ∷ []) v
given_one true v u e = ap (λ (x : Value). x ∷ []) (sym e)
given_one false v u e = sym e

-- AN ASSIGNED VARIABLE
same_local : {x y : Local} → Some x ≡ Some y → x ≡ y
same_local e = cc

plain_back : {q r : ℕ} → Some (PlainL q) ≡ Some (PlainL r) → q ≡ r
plain_back e = cc

pub set_append : (regs : List Slot) (base : ℕ) (locals : List Local) (mine theirs : List Slot) (i : ℕ) (l : Local) (x : Slot) → AreVariables regs base locals mine → slice_get locals i ≡ Some l → slice_set (mine ++ theirs) i x ≡ slice_set mine i x ++ theirs
set_append regs base [] mine theirs i l x h e = absurd cc
set_append regs base (PlainL q ∷ locals) [] theirs i l x h e = absurd h
set_append regs base (CellL q ∷ locals) [] theirs i l x h e = absurd h
set_append regs base (PlainL q ∷ locals) (Boxed c ∷ mine) theirs i l x h e = absurd h
set_append regs base (CellL q ∷ locals) (Plain u ∷ mine) theirs i l x h e = absurd h
set_append regs base (PlainL q ∷ locals) (Plain u ∷ mine) theirs zero l x h e = refl
set_append regs base (CellL q ∷ locals) (Boxed c ∷ mine) theirs zero l x h e = refl
set_append regs base (PlainL q ∷ locals) (Plain u ∷ mine) theirs (suc i) l x h e = ap (λ (zs : List Slot). Plain u ∷ zs) (set_append regs base locals mine theirs i l x h.1 e)
set_append regs base (CellL q ∷ locals) (Boxed c ∷ mine) theirs (suc i) l x h e = ap (λ (zs : List Slot). Boxed c ∷ zs) (set_append regs base locals mine theirs i l x h.1 e)

pub set_variables : (cs : Constants) (regs : List Slot) (base : ℕ) (locals : List Local) (mine : List Slot) (i r : ℕ) (v : Value) → IsFalling locals → AreVariables regs base locals mine → slice_get locals i ≡ Some (PlainL r) → AreVariables (put (base + r) (Plain v) regs) base locals (slice_set mine i (Plain v))
set_variables cs regs base [] mine i r v f h e = absurd cc
set_variables cs regs base (PlainL q ∷ locals) [] i r v f h e = absurd h
set_variables cs regs base (CellL q ∷ locals) [] i r v f h e = absurd h
set_variables cs regs base (PlainL q ∷ locals) (Boxed c ∷ mine) i r v f h e = absurd h
set_variables cs regs base (CellL q ∷ locals) (Plain u ∷ mine) i r v f h e = absurd h
set_variables cs regs base (CellL q ∷ locals) (Boxed c ∷ mine) zero r v f h e = absurd cc
set_variables cs regs base (PlainL q ∷ locals) (Plain u ∷ mine) zero r v f h e =
    let same : q ≡ r = plain_back e in (
      subst (λ (n : ℕ). read (put (base + r) (Plain v) regs) (base + n) ≡ v) (sym same) (put_value (base + r) v regs),
      keep_variables cs base q (base + r) (Plain v) regs (omega (arith, same)) locals mine f.0 h.1,
    )
set_variables cs regs base (PlainL q ∷ locals) (Plain u ∷ mine) (suc i) r v f h e =
    let l : r < q = local_below q locals i (PlainL r) f.0 e in
    (put_reads (base + r) (Plain v) regs (base + q) (λ (k : base + r ≡ base + q). omega (arith, l, k)) ∙ h.0, set_variables cs regs base locals mine i r v f.1 h.1 e)
set_variables cs regs base (CellL q ∷ locals) (Boxed c ∷ mine) (suc i) r v f h e =
    let l : r < q = local_below q locals i (PlainL r) f.0 e in
    (put_cells (base + r) (Plain v) regs (base + q) (λ (k : base + r ≡ base + q). omega (arith, l, k)) ∙ h.0, set_variables cs regs base locals mine i r v f.1 h.1 e)

pub apart_at : (locals : List Local) (keeps : Keeps) (i : ℕ) (l : Local) → AreApart locals keeps → slice_get locals i ≡ Some l → IsApart (register_of l) keeps
apart_at [] keeps i l h e = absurd cc
apart_at (q ∷ locals) keeps zero l h e = subst (λ (x : Local). IsApart (register_of x) keeps) (same_local e) h.0
apart_at (q ∷ locals) keeps (suc i) l h e = apart_at locals keeps i l h.1 e

apart_operand : (cs : Constants) (regs : List Slot) (base r : ℕ) (x : Slot) (o : Operand) → IsOther r o → operand cs (put (base + r) x regs) base o ≡ operand cs regs base o
apart_operand cs regs base r x (RegisterO q) h = put_reads (base + r) x regs (base + q) (λ (k : base + r ≡ base + q). h (omega (arith, k)))
apart_operand cs regs base r x o h = refl

pub apart_keeps : (cs : Constants) (regs : List Slot) (base r : ℕ) (x : Slot) (keeps : Keeps) → IsApart r keeps → AreKept cs regs base keeps → AreKept cs (put (base + r) x regs) base keeps
apart_keeps cs regs base r x [] h k = tt
apart_keeps cs regs base r x (k ∷ keeps) h ks = (apart_operand cs regs base r x k.0 h.0 ∙ ks.0, apart_keeps cs regs base r x keeps h.1 ks.1)
