-- SEVERAL TARGETS of an assignment: what is kept for those that were found, and for what is still to be set.
use Rattle.std.proofs.Common.{◌≡◌, ℕ, zero, suc, ◌+◌, ◌≤◌, ◌<◌, ◌∙◌, List, [], ◌∷◌, ◌++◌, refl, sym, ap, subst, arith, length-append}
use Rattle.std.proofs.lemmas.List.{length-reverse, reverse-append}
use Rattle.std.specs.Prelude.{length, reverse}
use Rattle.lua_goes.specs.LuaHeapValue.{Value}
use Rattle.lua_goes.specs.LuaMeaningValues.{first, rest}
use Rattle.lua_goes.specs.LuaSlotsCode.{Constants}
use Rattle.lua_goes.specs.LuaSlotsSlots.{Slot}
use Rattle.lua_goes.specs.LuaSlotsPoints.{STarget}
use Rattle.lua_goes.specs.LuaSlotsStatements.{with_values}
use Rattle.lua_flat.specs.Locals.{Local, register_of}
use Rattle.lua_flat.specs.Operations.{Operand, RegisterO, ConstantO, TextO, FlatFunction}
use Rattle.lua_flat.specs.Registers.{read, values_at, adjusted}
use Rattle.lua_flat.specs.IsStatement.{FlatTarget}
use Rattle.lua_flat.specs.Keeps.{Keeps, AreKept, AllBelow, AllAbove, IsAbove, LocalsBelow, IsOther, IsApart, AreApart}
use Rattle.lua_flat.specs.WaitsStatement.{AreFound, none_found, one_found, AreSet, none_set, one_set}
use Rattle.lua_flat_laws.proofs.Kept.{all_below_more}

-- WHAT IS KEPT in two parts
pub kept_left : (cs : Constants) (regs : List Slot) (base : ℕ) (ks keeps : Keeps) → AreKept cs regs base (ks ++ keeps) → AreKept cs regs base ks
kept_left cs regs base [] keeps h = tt
kept_left cs regs base (k ∷ ks) keeps h = (h.0, kept_left cs regs base ks keeps h.1)

pub kept_right : (cs : Constants) (regs : List Slot) (base : ℕ) (ks keeps : Keeps) → AreKept cs regs base (ks ++ keeps) → AreKept cs regs base keeps
kept_right cs regs base [] keeps h = h
kept_right cs regs base (k ∷ ks) keeps h = kept_right cs regs base ks keeps h.1

pub kept_both : (cs : Constants) (regs : List Slot) (base : ℕ) (ks keeps : Keeps) → AreKept cs regs base ks → AreKept cs regs base keeps → AreKept cs regs base (ks ++ keeps)
kept_both cs regs base [] keeps h more = more
kept_both cs regs base (k ∷ ks) keeps h more = (h.0, kept_both cs regs base ks keeps h.1 more)

pub below_left : (low : ℕ) (ks keeps : Keeps) → AllBelow low (ks ++ keeps) → AllBelow low ks
below_left low [] keeps h = tt
below_left low (k ∷ ks) keeps h = (h.0, below_left low ks keeps h.1)

pub below_right : (low : ℕ) (ks keeps : Keeps) → AllBelow low (ks ++ keeps) → AllBelow low keeps
below_right low [] keeps h = h
below_right low (k ∷ ks) keeps h = below_right low ks keeps h.1

pub below_both : (low : ℕ) (ks keeps : Keeps) → AllBelow low ks → AllBelow low keeps → AllBelow low (ks ++ keeps)
below_both low [] keeps h more = more
below_both low (k ∷ ks) keeps h more = (h.0, below_both low ks keeps h.1 more)

above_left : (low : ℕ) (ks keeps : Keeps) → AllAbove low (ks ++ keeps) → AllAbove low ks
above_left low [] keeps h = tt
above_left low (k ∷ ks) keeps h = (h.0, above_left low ks keeps h.1)

pub above_right : (low : ℕ) (ks keeps : Keeps) → AllAbove low (ks ++ keeps) → AllAbove low keeps
above_right low [] keeps h = h
above_right low (k ∷ ks) keeps h = above_right low ks keeps h.1

above_both : (low : ℕ) (ks keeps : Keeps) → AllAbove low ks → AllAbove low keeps → AllAbove low (ks ++ keeps)
above_both low [] keeps h more = more
above_both low (k ∷ ks) keeps h more = (h.0, above_both low ks keeps h.1 more)

-- what is kept above the variables is apart from them
other_above : (low r : ℕ) (o : Operand) → r < low → IsAbove low o → IsOther r o
other_above low r (RegisterO q) l a = λ (e : r ≡ q). omega (arith, l, a, e)
other_above low r (ConstantO v) l a = tt
other_above low r (TextO n) l a = tt

apart_above : (low r : ℕ) (ks keeps : Keeps) → r < low → AllAbove low ks → IsApart r keeps → IsApart r (ks ++ keeps)
apart_above low r [] keeps l a h = h
apart_above low r (k ∷ ks) keeps l a h = (other_above low r k.0 l a.0, apart_above low r ks keeps l a.1 h)

pub all_apart : (low : ℕ) (locals : List Local) (ks keeps : Keeps) → LocalsBelow low locals → AllAbove low ks → AreApart locals keeps → AreApart locals (ks ++ keeps)
all_apart low [] ks keeps b a h = tt
all_apart low (l ∷ locals) ks keeps b a h = (apart_above low (register_of l) ks keeps b.0 a h.0, all_apart low locals ks keeps b.1 a h.1)

-- ONE OF THE VALUES, in its register
abbrev nth : ℕ → List Value → Value
nth zero vs = first vs
nth (suc n) vs = nth n (rest vs)

nth_value : (n i at : ℕ) (regs : List Slot) (vs : List Value) → i < n → values_at regs at n ≡ adjusted n vs → read regs (at + i) ≡ nth i vs
nth_value zero i at regs vs l e = absurd (omega (arith, l))
nth_value (suc n) zero at regs vs l e = let same : at + zero ≡ at = omega arith in ap (λ (q : ℕ). read regs q) same ∙ ap first e
nth_value (suc n) (suc i) at regs vs l e = let same : at + suc i ≡ at + 1 + i = omega arith in ap (λ (q : ℕ). read regs q) same ∙ nth_value n i (at + 1) regs (rest vs) (omega (arith, l)) (ap rest e)

with_values_more : (ts : List STarget) (t : STarget) (vs : List Value) → with_values (ts ++ t ∷ []) vs ≡ with_values ts vs ++ (t, nth (length ts) vs) ∷ []
with_values_more [] t vs = refl
with_values_more (x ∷ ts) t vs = ap (λ (zs : List (STarget × Value)). (x, first vs) ∷ zs) (with_values_more ts t (rest vs))

found_length : {cs : Constants} {g : FlatFunction} {locals : List Local} {ts : List STarget} {us : List FlatTarget} {k : Keeps} → AreFound cs g locals ts us k → length ts ≡ length us
found_length none_found = refl
found_length (one_found {t} {ts} {u} {us} found one) =
    let n = found_length found in
    let a : length (ts ++ t ∷ []) ≡ length ts + 1 = length-append ts (t ∷ []) in
    let b : length (us ++ u ∷ []) ≡ length us + 1 = length-append us (u ∷ []) in
    omega (arith, n, a, b)

-- TARGETS THAT WERE FOUND are set from the last to the first: their values are in the registers from r on
module _ (cs : Constants) (g : FlatFunction) (locals : List Local) (regs : List Slot) (base r n low : ℕ) (vs : List Value) (values_are : values_at regs (base + r) n ≡ adjusted n vs) (higher : low ≤ r) where
  pub record SetsOf (ts : List STarget) (us : List FlatTarget) : Type 0 where
    pub kept : Keeps
    pub are : AreSet cs g locals r (reverse (with_values ts vs)) (reverse us) kept
    pub there : AreKept cs regs base kept
    pub below : AllBelow (r + length us) kept
    pub above : AllAbove low kept

  pub sets_of : {ts : List STarget} {us : List FlatTarget} {k : Keeps} → AreFound cs g locals ts us k → length us ≤ n → AreKept cs regs base k → AllBelow r k → AllAbove low k → SetsOf ts us
  sets_of none_found l ks b a = record { kept = []; are = none_set; there = tt; below = tt; above = tt }
  sets_of (one_found {t} {ts} {u} {us} {k} {keeps} found one) l ks b a =
      let v : Value = nth (length ts) vs in
      let more : length (us ++ u ∷ []) ≡ length us + 1 = length-append us (u ∷ []) in
      let count : length (reverse us) ≡ length us = length-reverse us in
      let same : length ts ≡ length us = found_length found in
      let others : SetsOf ts us = sets_of found (omega (arith, l, more)) (kept_right cs regs base k keeps ks) (below_right r k keeps b) (above_right low k keeps a) in
      let place_is : base + (r + length (reverse us)) ≡ base + r + length ts = omega (arith, count, same) in
      let value : read regs (base + (r + length (reverse us))) ≡ v = ap (λ (q : ℕ). read regs q) place_is ∙ nth_value n (length ts) (base + r) regs vs (omega (arith, l, more, same)) values_are in
      let all : Keeps = (RegisterO (r + length (reverse us)), v) ∷ k ++ others.kept in
      let targets_are : (u ∷ reverse us) ≡ reverse (us ++ u ∷ []) = sym (reverse-append us (u ∷ [])) in
      let pairs_are : ((t, v) ∷ reverse (with_values ts vs)) ≡ reverse (with_values (ts ++ t ∷ []) vs) = sym (reverse-append (with_values ts vs) ((t, v) ∷ [])) ∙ ap reverse (sym (with_values_more ts t vs)) in
      record {
        kept = all;
        are = subst (λ (ps : List (STarget × Value)). AreSet cs g locals r ps (reverse (us ++ u ∷ [])) all) pairs_are (subst (λ (zs : List FlatTarget). AreSet cs g locals r ((t, v) ∷ reverse (with_values ts vs)) zs all) targets_are (one_set one others.are));
        there = (value, kept_both cs regs base k others.kept (kept_left cs regs base k keeps ks) others.there);
        below = (omega (arith, count, more), below_both (r + length (us ++ u ∷ [])) k others.kept (all_below_more r (r + length (us ++ u ∷ [])) k (omega arith) (below_left r k keeps b)) (all_below_more (r + length us) (r + length (us ++ u ∷ [])) others.kept (omega (arith, more)) others.below));
        above = (omega (arith, higher), above_both low k others.kept (above_left low k keeps a) others.above);
      }
