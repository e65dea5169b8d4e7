-- What an expression that is read in place has of its operands.
use Rattle.std.proofs.Common.{◌≡◌, ℕ, ◌+◌, Bool, true, false, not, List, ◌∷◌, Option, Some, None, refl, sym, ap}
use Rattle.lua_goes.specs.LuaHeapValue.{Value, is_true}
use Rattle.lua_in_place.specs.InPlace.{with_nodes, around, around_both, first_if, and_read, or_read, in_front}

pub with_nodes_is : (n : ℕ) (o : Option Value) (v : Value) (m : ℕ) → with_nodes n o ≡ Some (v, m) → (o ≡ Some v) × (m ≡ n)
with_nodes_is n (Some w) v m e = let k : (w, n) ≡ (v, m) = cc in (ap (λ (x : Value × ℕ). Some x.0) k, sym (ap (λ (x : Value × ℕ). x.1) k))
with_nodes_is n None v m e = cc

-- one operand
pub record OneRead (f : Value → Option Value) (x : Option (Value × ℕ)) (v : Value) (n : ℕ) : Type 0 where
  pub a : Value
  pub nodes : ℕ
  pub is : x ≡ Some (a, nodes)
  pub gives : f a ≡ Some v
  pub all : n ≡ 1 + nodes

pub one_read : (f : Value → Option Value) (x : Option (Value × ℕ)) (v : Value) (n : ℕ) → around f x ≡ Some (v, n) → OneRead f x v n
one_read f (Some a) v n e = let k = with_nodes_is (1 + a.1) (f a.0) v n e in record { a = a.0; nodes = a.1; is = refl; gives = k.0; all = k.1 }
one_read f None v n e = absurd cc

-- two operands
pub record TwoRead (f : Value → Value → Option Value) (x y : Option (Value × ℕ)) (v : Value) (n : ℕ) : Type 0 where
  pub a : Value
  pub nodes_a : ℕ
  pub is_a : x ≡ Some (a, nodes_a)
  pub b : Value
  pub nodes_b : ℕ
  pub is_b : y ≡ Some (b, nodes_b)
  pub gives : f a b ≡ Some v
  pub all : n ≡ 1 + nodes_a + nodes_b

pub two_read : (f : Value → Value → Option Value) (x y : Option (Value × ℕ)) (v : Value) (n : ℕ) → around_both f x y ≡ Some (v, n) → TwoRead f x y v n
two_read f (Some a) (Some b) v n e =
    let k = with_nodes_is (1 + a.1 + b.1) (f a.0 b.0) v n e in
    record { a = a.0; nodes_a = a.1; is_a = refl; b = b.0; nodes_b = b.1; is_b = refl; gives = k.0; all = k.1 }
two_read f (Some a) None v n e = absurd cc
two_read f None y v n e = absurd cc

-- an operand that decides, or the second one behind it
pub data Decided (deciding : Bool) (a : Value) (nodes : ℕ) (y : Option (Value × ℕ)) (v : Value) (n : ℕ) : Type 0 where
  by_first : deciding ≡ true → v ≡ a → n ≡ 1 + nodes → Decided deciding a nodes y v n
  by_second : (m : ℕ) → deciding ≡ false → y ≡ Some (v, m) → n ≡ 1 + nodes + m → Decided deciding a nodes y v n

decided : (t : Bool) (a : Value × ℕ) (y : Option (Value × ℕ)) (v : Value) (n : ℕ) → first_if t a y ≡ Some (v, n) → Decided t a.0 a.1 y v n
decided true a y v n e =
    let k : (a.0, 1 + a.1) ≡ (v, n) = cc in
    by_first refl (sym (ap (λ (x : Value × ℕ). x.0) k)) (sym (ap (λ (x : Value × ℕ). x.1) k))
decided false a (Some b) v n e =
    let k : (b.0, 1 + a.1 + b.1) ≡ (v, n) = cc in
    by_second b.1 refl (ap (λ (x : Value × ℕ). Some (x.0, b.1)) k) (sym (ap (λ (x : Value × ℕ). x.1) k))
decided false a None v n e = absurd cc

pub record AndRead (x y : Option (Value × ℕ)) (v : Value) (n : ℕ) : Type 0 where
  pub a : Value
  pub nodes : ℕ
  pub is : x ≡ Some (a, nodes)
  pub decided : Decided (not (is_true a)) a nodes y v n

pub and_parts : (x y : Option (Value × ℕ)) (v : Value) (n : ℕ) → and_read x y ≡ Some (v, n) → AndRead x y v n
and_parts (Some a) y v n e = record { a = a.0; nodes = a.1; is = refl; decided = decided (not (is_true a.0)) a y v n e }
and_parts None y v n e = absurd cc

pub record OrRead (x y : Option (Value × ℕ)) (v : Value) (n : ℕ) : Type 0 where
  pub a : Value
  pub nodes : ℕ
  pub is : x ≡ Some (a, nodes)
  pub decided : Decided (is_true a) a nodes y v n

pub or_parts : (x y : Option (Value × ℕ)) (v : Value) (n : ℕ) → or_read x y ≡ Some (v, n) → OrRead x y v n
or_parts (Some a) y v n e = record { a = a.0; nodes = a.1; is = refl; decided = decided (is_true a.0) a y v n e }
or_parts None y v n e = absurd cc

-- the first of a list, and those behind it
pub record ListRead (x : Option (Value × ℕ)) (y : Option (List Value × ℕ)) (vs : List Value) (n : ℕ) : Type 0 where
  pub a : Value
  pub nodes_a : ℕ
  pub is_a : x ≡ Some (a, nodes_a)
  pub behind : List Value
  pub nodes_b : ℕ
  pub is_b : y ≡ Some (behind, nodes_b)
  pub values : vs ≡ a ∷ behind
  pub all : n ≡ nodes_a + nodes_b

pub list_parts : (x : Option (Value × ℕ)) (y : Option (List Value × ℕ)) (vs : List Value) (n : ℕ) → in_front x y ≡ Some (vs, n) → ListRead x y vs n
list_parts (Some a) (Some b) vs n e =
    let k : (a.0 ∷ b.0, a.1 + b.1) ≡ (vs, n) = cc in
    record {
      a = a.0;
      nodes_a = a.1;
      is_a = refl;
      behind = b.0;
      nodes_b = b.1;
      is_b = refl;
      values = sym (ap (λ (x : List Value × ℕ). x.0) k);
      all = sym (ap (λ (x : List Value × ℕ). x.1) k);
    }
list_parts (Some a) None vs n e = absurd cc
list_parts None y vs n e = absurd cc
