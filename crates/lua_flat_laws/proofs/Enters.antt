-- A FUNCTION OF LUA IS ENTERED.
use Rattle.std.proofs.Common.{◌≡◌, ℕ, ◌+◌, ◌≤◌, ◌<◌, ◌∙◌, Bool, true, false, List, [], ◌∷◌, ◌++◌, Option, Some, None, refl, sym, ap, subst, arith}
use Rattle.std.specs.Prelude.{length, drop, if◌then◌else◌}
use Rattle.lua_goes.specs.PageRunOutcome.{Goes}
use Rattle.lua_goes.specs.LuaHeapProc.{Proc}
use Rattle.lua_goes.specs.LuaHeapHeap.{Heap, new_cell}
use Rattle.lua_goes.specs.LuaHeapValue.{Value}
use Rattle.lua_goes.specs.LuaMeaningValues.{first, rest}
use Rattle.lua_goes.specs.LuaSlotsCode.{CProto, CWorld}
use Rattle.lua_goes.specs.LuaSlotsSlots.{Slot, Plain, Boxed, Activation, Slots, slot_cell, with_all, all_opened, with_heap}
use Rattle.lua_goes.specs.LuaSlotsCalls.{body_of, code_of}
use Rattle.lua_goes.specs.LuaSlotsPoints.{BodyS, SFrame, BodyEnd, Gives, Runs, Starts, Now}
use Rattle.lua_goes.specs.LuaSlotsMoves.{moves}
use Rattle.lua_flat.specs.Locals.{Local, PlainL, CellL, local_of, register_of, with_row}
use Rattle.lua_flat.specs.Operations.{FlatFunction, Codes}
use Rattle.lua_flat.specs.Registers.{put, put_slots}
use Rattle.lua_flat.specs.Flat.{Act, Flat, FNow}
use Rattle.lua_flat.specs.Moves.{in_order, entered, flat_moves}
use Rattle.lua_flat.specs.IsStatement.{IsFlatOption, no_code, flat_code, IsFlat}
use Rattle.lua_flat.specs.Keeps.{Keeps, AreVariables, LocalsBelow, IsFalling, AreApart, Tidy}
use Rattle.lua_flat.specs.WaitsStatement.{finish_body}
use Rattle.lua_flat.specs.Stands.{in_tree, in_code, from_code, Within, within, Callers, caller, StandsFor, at_block, is_away}
use Rattle.lua_flat_laws.specs.Follows.{Follows, follow_costs, follow_marks, follow_enters, follow_free, follow_stands}
use Rattle.lua_flat_laws.specs.Laws.{entering, EnteringIsMoves}
use Rattle.lua_flat_laws.proofs.Kept.{put_same, put_value, keep_variables, keep_within, locals_below_more}

-- new slots in order, in front of others with the newest first
abbrev pub rev_onto : List Slot → List Slot → List Slot
rev_onto [] xs = xs
rev_onto (y ∷ ys) xs = rev_onto ys (y ∷ xs)

pub rev_append : (ys xs rs : List Slot) → rev_onto ys (xs ++ rs) ≡ rev_onto ys xs ++ rs
rev_append [] xs rs = refl
rev_append (y ∷ ys) xs rs = rev_append ys (y ∷ xs) rs

pub with_all_in_order : (flags : List Bool) (vs : List Value) (h : Heap Proc) (xs : List Slot) → with_all flags vs (h, xs) ≡ ((in_order flags vs h).0, rev_onto (in_order flags vs h).1 xs)
with_all_in_order [] vs h xs = refl
with_all_in_order (true ∷ flags) vs h xs = with_all_in_order flags (rest vs) (new_cell h (first vs)).0 (Boxed (new_cell h (first vs)).1 ∷ xs)
with_all_in_order (false ∷ flags) vs h xs = with_all_in_order flags (rest vs) h (Plain (first vs) ∷ xs)

-- REGISTERS of new variables
opens_plain : (base r : ℕ) (v : Value) (locals : List Local) (xs regs : List Slot) → LocalsBelow r locals → AreVariables regs base locals xs → AreVariables (put (base + r) (Plain v) regs) base (PlainL r ∷ locals) (Plain v ∷ xs)
opens_plain base r v locals xs regs b h = (put_value (base + r) v regs, keep_variables (λ n. []) base r (base + r) (Plain v) regs (omega arith) locals xs b h)

opens_cell : (base r c : ℕ) (locals : List Local) (xs regs : List Slot) → LocalsBelow r locals → AreVariables regs base locals xs → AreVariables (put (base + r) (Boxed c) regs) base (CellL r ∷ locals) (Boxed c ∷ xs)
opens_cell base r c locals xs regs b h = (ap slot_cell (put_same (base + r) (Boxed c) regs), keep_variables (λ n. []) base r (base + r) (Boxed c) regs (omega arith) locals xs b h)

pub opens_all : (base r : ℕ) (flags : List Bool) (vs : List Value) (h : Heap Proc) (locals : List Local) (xs regs : List Slot) → LocalsBelow r locals → AreVariables regs base locals xs
    → AreVariables (put_slots (base + r) (in_order flags vs h).1 regs) base (with_row r flags locals) (rev_onto (in_order flags vs h).1 xs)
opens_all base r [] vs h locals xs regs b v = v
opens_all base r (true ∷ flags) vs h locals xs regs b v =
    let c : ℕ = (new_cell h (first vs)).1 in
    let h' : Heap Proc = (new_cell h (first vs)).0 in
    subst (λ (n : ℕ). AreVariables (put_slots n (in_order flags (rest vs) h').1 (put (base + r) (Boxed c) regs)) base (with_row (r + 1) flags (CellL r ∷ locals)) (rev_onto (in_order flags (rest vs) h').1 (Boxed c ∷ xs))) (omega arith)
    (opens_all base (r + 1) flags (rest vs) h' (CellL r ∷ locals) (Boxed c ∷ xs) (put (base + r) (Boxed c) regs) (omega arith, locals_below_more r (r + 1) locals (omega arith) b) (opens_cell base r c locals xs regs b v))
opens_all base r (false ∷ flags) vs h locals xs regs b v =
    let u : Value = first vs in
    subst (λ (n : ℕ). AreVariables (put_slots n (in_order flags (rest vs) h).1 (put (base + r) (Plain u) regs)) base (with_row (r + 1) flags (PlainL r ∷ locals)) (rev_onto (in_order flags (rest vs) h).1 (Plain u ∷ xs))) (omega arith)
    (opens_all base (r + 1) flags (rest vs) h (PlainL r ∷ locals) (Plain u ∷ xs) (put (base + r) (Plain u) regs) (omega arith, locals_below_more r (r + 1) locals (omega arith) b) (opens_plain base r u locals xs regs b v))

one_below : (b : Bool) (r : ℕ) → register_of (local_of b r) < r + 1
one_below true r = omega arith
one_below false r = omega arith

pub row_below : (r : ℕ) (flags : List Bool) (locals : List Local) → LocalsBelow r locals → LocalsBelow (r + length flags) (with_row r flags locals)
row_below r [] locals b = subst (λ (n : ℕ). LocalsBelow n locals) (omega arith) b
row_below r (x ∷ flags) locals b =
    subst (λ (n : ℕ). LocalsBelow n (with_row (r + 1) flags (local_of x r ∷ locals))) (omega arith) (row_below (r + 1) flags (local_of x r ∷ locals) (one_below x r, locals_below_more r (r + 1) locals (omega arith) b))

one_above : (b : Bool) (r : ℕ) (locals : List Local) → LocalsBelow r locals → LocalsBelow (register_of (local_of b r)) locals
one_above true r locals h = h
one_above false r locals h = h

pub row_falling : (r : ℕ) (flags : List Bool) (locals : List Local) → LocalsBelow r locals → IsFalling locals → IsFalling (with_row r flags locals)
row_falling r [] locals b f = f
row_falling r (x ∷ flags) locals b f = row_falling (r + 1) flags (local_of x r ∷ locals) (one_below x r, locals_below_more r (r + 1) locals (omega arith) b) (one_above x r locals b, f)

apart_nothing : (locals : List Local) → AreApart locals []
apart_nothing [] = tt
apart_nothing (r ∷ locals) = (tt, apart_nothing locals)

module _ (world : CWorld) (codes : Codes) where
  pub keep_slots : (ys : List Slot) (regs : List Slot) (x : ℕ) {a : Act} {acts : List Act} {fn : Activation} {fns : List Activation} {g : FlatFunction} {mine theirs : List Slot} {beneath : List SFrame} {locals : List Local} {low : ℕ} {keeps : Keeps} → a.base + low ≤ x
      → Within world codes regs a acts fn fns g mine theirs beneath locals low keeps → Within world codes (put_slots x ys regs) a acts fn fns g mine theirs beneath locals low keeps
  keep_slots [] regs x l w = w
  keep_slots (y ∷ ys) regs x l w = keep_slots ys (put x y regs) (x + 1) (omega (arith, l)) (keep_within world codes regs x y l w)

  -- with these functions in progress below it, and these frames beneath
  module _ (room : ℕ) {acts : List Act} {fns : List Activation} (others regs : List Slot) (hs fs : List SFrame) (top : ℕ) (called : (ys : List Slot) → Callers world codes (put_slots room ys regs) acts fns others hs fs room) (p : Proc) (args : List Value) (line : Option ℕ) (s : Slots)
      (nothing : StandsFor world codes (from_code (Gives (Goes []) hs) acts regs top (in_tree others fns s)) (Gives (Goes []) fs) (in_tree others fns s)) where
    abbrev tree : Slots
    tree = in_tree others fns s

    abbrev flat : Flat
    flat = from_code (Starts (BodyS p args line) hs) acts regs top tree

    -- its slots in the machine over trees, by these flags
    abbrev begun : List Bool → Bool → Activation
    begun flags dots = record { cells = p.cells; dots = if dots then drop (length flags) args else []; source = p.title; called_at = line; base = length others }

    abbrev in_body : List Bool → Bool → Slots
    in_body flags dots = all_opened flags args (record tree { functions = begun flags dots ∷ fns })

    enters_by : (o : Option CProto) (q : Option FlatFunction) → codes p.title p.index ≡ q → IsFlatOption o q → Follows world codes (entered q room p args line hs codes flat) (body_of o p args line fs tree)
    enters_by None None e no_code = follow_stands nothing
    enters_by None (Some f) e x = elim x [ ]
    enters_by (Some c) None e x = elim x [ ]
    enters_by (Some c) (Some f) e (flat_code isf) =
        let o = in_order f.flags args s.heap in
        let made : List Slot = rev_onto o.1 [] in
        let frames : List SFrame = BodyEnd ∷ fs in
        let now : Flat = in_code (record { index = p.index; pc = 0; base = room; frames = hs }) acts (put_slots room o.1 regs) top (in_tree (made ++ others) (begun f.flags f.dots ∷ fns) (with_heap o.0 s)) in
        let eq : with_all f.flags args (s.heap, others) ≡ (o.0, made ++ others) = with_all_in_order f.flags args s.heap others ∙ ap (λ (xs : List Slot). (o.0, xs)) (rev_append o.1 [] others) in
        let same : room + 0 ≡ room = omega arith in
        let vs : AreVariables (put_slots room o.1 regs) room (with_row 0 f.flags []) made = subst (λ (n : ℕ). AreVariables (put_slots n o.1 regs) room (with_row 0 f.flags []) made) same (opens_all room 0 f.flags args s.heap [] [] regs tt tt) in
        let b : LocalsBelow (length f.flags) (with_row 0 f.flags []) = subst (λ (n : ℕ). LocalsBelow n (with_row 0 f.flags [])) (omega arith) (row_below 0 f.flags [] tt) in
        let tidy : Tidy (length f.flags) (with_row 0 f.flags []) [] = record { bounded = record { locals_below = b; keeps_below = tt }; falling = row_falling 0 f.flags [] tt tt; apart = apart_nothing (with_row 0 f.flags []) } in
        follow_enters (follow_marks
        (subst (λ (d : Bool). Follows world codes (FNow now) (Now (Runs c.body frames) (in_body c.flags d))) isf.dots
        (subst (λ (fl : List Bool). Follows world codes (FNow now) (Now (Runs c.body frames) (in_body fl f.dots))) isf.flags
        (subst (λ (x : Heap Proc × List Slot). Follows world codes (FNow now) (Now (Runs c.body frames) (record tree { heap = x.0; regs = x.1; functions = begun f.flags f.dots ∷ fns }))) (sym eq)
        (follow_stands (at_block {a = record { index = p.index; pc = 0; base = room; frames = hs }} {acts = acts} {fn = begun f.flags f.dots} {fns = fns} {g = f} {mine = made} {theirs = others} {regs = put_slots room o.1 regs} {beneath = fs} {fs = frames} {locals = with_row 0 f.flags []} {low = length f.flags} {keeps = []} (with_heap o.0 s)
        (within e refl vs tt tidy.bounded isf.room (called o.1)) tidy tt isf.body (finish_body isf.returns)))))))

    pub enters_it : IsFlat world codes → Follows world codes (flat_moves world codes room flat) (moves world (Starts (BodyS p args line) fs) tree)
    enters_it is = follow_costs (enters_by ((code_of (world.modules p.title)).function p.index) (codes p.title p.index) refl (is p.title p.index))

pub entering_is_moves : EnteringIsMoves
entering_is_moves world codes room is f p s (entering {a} {acts} {fn} {fns} {mine} {theirs} {regs} {hs} {fs} {top} gs away q args line t behind w aw) =
    follow_free _ _ (enters_it world codes room (mine ++ theirs) regs (gs ++ hs) (gs ++ fs) top (λ ys. caller gs away (keep_slots world codes ys regs room behind w) aw behind) q args line t (is_away (Gives (Goes []) gs) t (tt, away) w aw) is)
