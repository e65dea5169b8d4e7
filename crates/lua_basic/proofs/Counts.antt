-- Whole numbers, and the values that they choose.
use Rattle.std.proofs.Common.{◌≡◌, ◌∙◌, ap, sym, refl, rules, arith, ℕ, zero, suc, ◌+◌, ◌-◌, ◌≤◌, ◌<◌, Bool, true, false, ℤ, pos, negsuc, ◌+ℤ◌, List, [], ◌∷◌, ◌++◌, append_assoc, length, drop, Option, Some, None}
use Rattle.std.specs.Prelude.{nat_lt, if◌then◌else◌}
use Rattle.std.specs.Ordering.{int_eq}
use Rattle.std.proofs.lemmas.Int.{ints}
use Rattle.std.proofs.lemmas.Bool.Decides.{Decides-int_eq}
use Rattle.std.proofs.lemmas.List.{drop_all}
use Rattle.lua_store.specs.LuaHeapProc.{Proc}
use Rattle.lua_store.specs.LuaHeapHeap.{Heap}
use Rattle.lua_meaning.specs.LuaHeapValue.{Value, Number}
use Rattle.lua_store.specs.LuaHeapTable.{Entries, get}
use Rattle.lua_meaning.specs.Arguments.{Plain, gives}
use Rattle.lua_meaning.specs.Basic.{entries_from, from_place, no_such_place}
use Rattle.lua_basic.specs.Select.{left_out}

pub int-differs : (a b : ℤ) → (a ≡ b → ⊥) → int_eq a b ≡ false
int-differs a b h = grind (arith, rules, Decides-int_eq a b)

-- what `select` gives where so many values are left out
abbrev pub behind_them : Option ℕ → List Value → Heap Proc → Plain Proc
behind_them None vs h = no_such_place h
behind_them (Some n) vs h = gives h (drop n vs)

past : (n : ℕ) (vs : List Value) → nat_lt n (length vs) ≡ false → drop n vs ≡ drop (length vs) vs
past n vs h =
    let le : length vs ≤ n = grind (arith, rules, h) in
    drop_all n vs le ∙ sym (drop_all (length vs) vs (omega arith))

pub from-place : (z : ℤ) (vs : List Value) (h : Heap Proc) → from_place z vs h ≡ behind_them (left_out z (length vs)) vs h
from-place (pos zero) vs h = refl
from-place (pos (suc n)) vs h = front (nat_lt n (length vs)) refl
  where
    front : (b : Bool) → nat_lt n (length vs) ≡ b → gives h (drop n vs) ≡ behind_them (if nat_lt n (length vs) then Some n else Some (length vs)) vs h
    front true e = rw e refl
    front false e = rw e (ap (gives h) (past n vs e))
from-place (negsuc n) vs h = back (nat_lt n (length vs))
  where
    back : (b : Bool) → (if b then gives h (drop (length vs - suc n) vs) else no_such_place h) ≡ behind_them (if b then Some (length vs - suc n) else None) vs h
    back true = refl
    back false = refl

-- one more entry is read, at the number so far behind the first one
pub entry-read : (before after : List Value) (v : Value) (count at : ℕ) (first : ℤ) (es : Entries) (whole : List Value) → at < count → after ≡ before ++ v ∷ [] → v ≡ get es (Number (first +ℤ pos at))
    → before ++ entries_from (count - at) (first +ℤ pos at) es ≡ whole → after ++ entries_from (count - (at + 1)) (first +ℤ pos (at + 1)) es ≡ whole
entry-read before after v count at first es whole lt is value e =
    let left : count - at ≡ suc (count - (at + 1)) = omega (arith, lt) in
    let next : first +ℤ pos (at + 1) ≡ (first +ℤ pos at) +ℤ pos 1 = omega (arith, ints) in
    let more = entries_from (count - (at + 1)) ((first +ℤ pos at) +ℤ pos 1) es in
    ap (λ z. after ++ entries_from (count - (at + 1)) z es) next
    ∙ ap (λ xs. xs ++ more) is ∙ append_assoc before (v ∷ []) more ∙ ap (λ x. before ++ x ∷ more) value
    ∙ sym (ap (λ n. before ++ entries_from n (first +ℤ pos at) es) left) ∙ e
