-- What an operator tells in place is what its last move gives, whichever frames wait.
use Rattle.std.proofs.Common.{◌≡◌, ℕ, Bool, true, false, List, [], ◌∷◌, Option, Some, None, ap}
use Rattle.std.specs.Prelude.{ℤ, Result, Ok, Err, if◌then◌else◌, int_lt, int_le, codes}
use Rattle.lua_goes.specs.LuaSyntaxDeclaredUnaryOp.{UnaryOp}
use Rattle.lua_goes.specs.LuaSyntaxDeclaredUnaryOpTheVariants as sign
use Rattle.lua_goes.specs.LuaNumberDeclaredArithmeticNumberFault.{NumberFault}
use Rattle.lua_goes.specs.LuaNumberWhole.{negative_of}
use Rattle.lua_goes.specs.LuaHeapValue.{Value, Nil, Truth, Number, Text, Table, same, is_nil}
use Rattle.lua_goes.specs.LuaHeapTable.{get}
use Rattle.lua_goes.specs.LuaHeapHeap.{table_at}
use Rattle.lua_goes.specs.LuaMeaningValues.{number_in}
use Rattle.lua_goes.specs.LuaMeaningMetatables.{handler, common_handler}
use Rattle.lua_goes.specs.LuaMeaningOperators.{Arithmetic, Operator, Less, Greater, AtMost, AtLeast, Equal, Unequal, Concatenate, Calculate, result_of}
use Rattle.lua_goes.specs.LuaSlotsSlots.{Slots}
use Rattle.lua_goes.specs.LuaSlotsPoints.{SFrame, Move}
use Rattle.lua_goes.specs.LuaSlotsErrors.{choose, gives}
use Rattle.lua_goes.specs.LuaSlotsIndex as indexing
use Rattle.lua_goes.specs.LuaSlotsOperators as operators
use Rattle.lua_in_place.specs.InPlace.{number_of, calculated, is_less, is_at_most, operated, length_told, negated, applied, found, entry, indexed}

module _ (line : Option ℕ) (fs : List SFrame) (s : Slots) where
  pub given : (w v : Value) → Some w ≡ Some v → gives (w ∷ []) fs s ≡ gives (v ∷ []) fs s
  given w v e = let k : w ≡ v = cc in ap (λ (x : Value). gives (x ∷ []) fs s) k

  -- one move or the other, where the first one gives the value
  unless : (b : Bool) (w v : Value) (m : Move) → (if b then Some w else None) ≡ Some v → choose b (gives (w ∷ []) fs s) m ≡ gives (v ∷ []) fs s
  unless true w v m e = given w v e
  unless false w v m e = cc

  number_is : (r : Result ℤ NumberFault) (v : Value) → number_of r ≡ Some v → operators.number_or_fail line r fs s ≡ gives (v ∷ []) fs s
  number_is (Ok n) v e = given (Number n) v e
  number_is (Err x) v e = cc

  calculated_is : (o : Arithmetic) (a b v : Value) → calculated o a b ≡ Some v → operators.calculate o a b (number_in a) (number_in b) line fs s ≡ gives (v ∷ []) fs s
  calculated_is o (Number x) (Number y) v e = number_is (result_of o x y) v e
  calculated_is o a b v e = cc

  less_is : (a b v : Value) → is_less a b ≡ Some v → operators.less a b line fs s ≡ gives (v ∷ []) fs s
  less_is (Number x) (Number y) v e = given (Truth (int_lt x y)) v e
  less_is a b v e = cc

  at_most_is : (a b v : Value) → is_at_most a b ≡ Some v → operators.at_most a b line fs s ≡ gives (v ∷ []) fs s
  at_most_is (Number x) (Number y) v e = given (Truth (int_le x y)) v e
  at_most_is a b v e = cc

  -- equality: whether they are one value, and whether there is a handler
  equal_by : (is none : Bool) (v : Value) (m : Move) → (if is then Some (Truth true) else (if none then Some (Truth false) else None)) ≡ Some v
      → choose is (operators.answers false true fs s) (choose none (operators.answers false false fs s) m) ≡ gives (v ∷ []) fs s
  equal_by true none v m e = given (Truth true) v e
  equal_by false none v m e = unless none (Truth false) v m e

  unequal_by : (is none : Bool) (v : Value) (m : Move) → (if is then Some (Truth false) else (if none then Some (Truth true) else None)) ≡ Some v
      → choose is (operators.answers true true fs s) (choose none (operators.answers true false fs s) m) ≡ gives (v ∷ []) fs s
  unequal_by true none v m e = given (Truth false) v e
  unequal_by false none v m e = unless none (Truth true) v m e

  pub operated_is : (o : Operator) (a b v : Value) → operated s.heap o a b ≡ Some v → operators.operate o a b line fs s ≡ gives (v ∷ []) fs s
  operated_is Less a b v e = less_is a b v e
  operated_is Greater a b v e = less_is b a v e
  operated_is AtMost a b v e = at_most_is a b v e
  operated_is AtLeast a b v e = at_most_is b a v e
  operated_is Equal a b v e = equal_by (same a b) (is_nil (common_handler s.heap a b (codes "__eq"))) v _ e
  operated_is Unequal a b v e = unequal_by (same a b) (is_nil (common_handler s.heap a b (codes "__eq"))) v _ e
  operated_is Concatenate a b v e = cc
  operated_is (Calculate which) a b v e = calculated_is which a b v e

  length_is : (a v : Value) → length_told s.heap a ≡ Some v → operators.length_of a line fs s ≡ gives (v ∷ []) fs s
  length_is (Text t) v e = given _ v e
  length_is (Table t) v e = given _ v e
  length_is a v e = cc

  negated_is : (a v : Value) → negated a ≡ Some v → operators.negate a (number_in a) line fs s ≡ gives (v ∷ []) fs s
  negated_is (Number x) v e = number_is (negative_of x) v e
  negated_is a v e = cc

  pub applied_is : (o : UnaryOp) (a v : Value) → applied s.heap o a ≡ Some v → operators.apply o a line fs s ≡ gives (v ∷ []) fs s
  applied_is sign.Not a v e = given _ v e
  applied_is sign.Len a v e = length_is a v e
  applied_is sign.Minus a v e = negated_is a v e

  found_is : (got h object key v : Value) → found got h ≡ Some v → choose (is_nil got) (indexing.index_by h object key line fs s) (gives (got ∷ []) fs s) ≡ gives (v ∷ []) fs s
  found_is Nil h object key v e = unless (is_nil h) Nil v _ e
  found_is got h object key v e = given got v e

  pub entry_is : (t : ℕ) (key v : Value) → entry s.heap t key ≡ Some v → indexing.index_table t key line fs s ≡ gives (v ∷ []) fs s
  entry_is t key v e = found_is (get (table_at s.heap t).entries key) (handler s.heap (Table t) (codes "__index")) (Table t) key v e

  pub indexed_is : (a key v : Value) → indexed s.heap a key ≡ Some v → indexing.index a key line fs s ≡ gives (v ∷ []) fs s
  indexed_is (Table t) key v e = entry_is t key v e
  indexed_is a key v e = cc
