-- WORKED EXAMPLES: values that a reader knows, each with its nodes.
use Rattle.std.specs.Prelude.{◌≡◌, ℕ, pos, true, false, [], ◌∷◌, Some, None, codes}
use Rattle.lua_goes.specs.LuaSyntaxDeclaredUnaryOpTheVariants as sign
use Rattle.lua_goes.specs.LuaHeapValue.{Nil, Truth, Number, Text, Table}
use Rattle.lua_goes.specs.LuaHeapHeap.{empty, new_table, set_in, set_meta_in}
use Rattle.lua_goes.specs.LuaMeaningOperators.{Add, Mul, Div, Less, AtMost, Greater, Equal, Unequal, Concatenate, Calculate}
use Rattle.lua_goes.specs.LuaSlotsCode.{Constants, CExp, ConstantC, TextC, DotsC, LocalC, Reg, AndC, OrC, OperateC, UnaryC, ParenC, IndexC, GlobalC, NoC, MoreC}
use Rattle.lua_goes.specs.LuaSlotsSlots.{Slots, no_slots, Plain}
use Rattle.lua_goes.specs.LuaSlotsTrial.{code_with}
use Rattle.lua_in_place.specs.InPlace.{in_place, all_in_place}

abbrev pub number : ℕ → CExp
number n = ConstantC (Number (pos n))

abbrev pub texts : Constants
texts = (code_with (codes "1" ∷ codes "abc" ∷ codes "n" ∷ codes "m" ∷ []) []).constant

-- where the newest variable is 7, and the one before it is nil
abbrev pub slots : Slots
slots = record no_slots { regs = Plain (Number (pos 7)) ∷ Plain Nil ∷ [] }

-- where the newest variable is a table with n = 4, whose metatable has nothing, or has an `__index`
abbrev pub with_table : Slots
with_table = record no_slots { heap = set_in (new_table empty).0 0 (Text (codes "n")) (Number (pos 4)); regs = Plain (Table 0) ∷ []; globals = 0 }

abbrev pub with_handler : Slots
with_handler = record with_table { heap = set_in (set_meta_in (new_table with_table.heap).0 0 (Table 1)) 1 (Text (codes "__index")) (Table 1) }

abbrev pub entry_of : CExp → CExp
entry_of key = IndexC (LocalC (Reg 0)) key 1

pub record AllExamples : Type 0 where
  -- 1 + 2 * 3; 10 / 0, an error, and 7 / 2, which is no whole number
  pub sum : in_place texts (OperateC (Calculate Add) (number 1) (OperateC (Calculate Mul) (number 2) (number 3) 1) 1) slots ≡ Some (Number (pos 7), 5)
  pub no_quotient : in_place texts (OperateC (Calculate Div) (number 10) (number 0) 1) slots ≡ None
  pub no_half : in_place texts (OperateC (Calculate Div) (number 7) (number 2) 1) slots ≡ None
  -- variables x = 7 and y = nil: x < 2; 2 < x; 7 <= x; x > 2; not y
  pub less : in_place texts (OperateC Less (LocalC (Reg 0)) (number 2) 1) slots ≡ Some (Truth false, 3)
  pub less_the_other_way : in_place texts (OperateC Less (number 2) (LocalC (Reg 0)) 1) slots ≡ Some (Truth true, 3)
  pub at_most : in_place texts (OperateC AtMost (number 7) (LocalC (Reg 0)) 1) slots ≡ Some (Truth true, 3)
  pub greater : in_place texts (OperateC Greater (LocalC (Reg 0)) (number 2) 1) slots ≡ Some (Truth true, 3)
  pub not_nil : in_place texts (UnaryC sign.Not (LocalC (Reg 1)) 1) slots ≡ Some (Truth true, 2)
  -- 1 == "1" is false, and 1 ~= "1" is true; `#"abc"`; -(7)
  pub equal : in_place texts (OperateC Equal (number 1) (TextC 0) 1) slots ≡ Some (Truth false, 3)
  pub unequal : in_place texts (OperateC Unequal (number 1) (TextC 0) 1) slots ≡ Some (Truth true, 3)
  pub bytes : in_place texts (UnaryC sign.Len (TextC 1) 1) slots ≡ Some (Number (pos 3), 2)
  pub paren : in_place texts (ParenC (LocalC (Reg 0))) slots ≡ Some (Number (pos 7), 2)
  -- y and 1 / 0 is nil; x and 5 is 5; x or 1 / 0 is 7; y or ... is read move by move
  pub and_first : in_place texts (AndC (LocalC (Reg 1)) (OperateC (Calculate Div) (number 1) (number 0) 1)) slots ≡ Some (Nil, 2)
  pub and_second : in_place texts (AndC (LocalC (Reg 0)) (number 5)) slots ≡ Some (Number (pos 5), 3)
  pub or_first : in_place texts (OrC (LocalC (Reg 0)) (OperateC (Calculate Div) (number 1) (number 0) 1)) slots ≡ Some (Number (pos 7), 2)
  pub or_dots : in_place texts (OrC (LocalC (Reg 1)) DotsC) slots ≡ None
  -- 1 .. 2 pays for its bytes
  pub joined : in_place texts (OperateC Concatenate (number 1) (number 2) 1) slots ≡ None
  -- t.n and t.m; behind a handler the second one is asked for; a number has no entries
  pub entry_there : in_place texts (entry_of (TextC 2)) with_table ≡ Some (Number (pos 4), 3)
  pub entry_absent : in_place texts (entry_of (TextC 3)) with_table ≡ Some (Nil, 3)
  pub handled_there : in_place texts (entry_of (TextC 2)) with_handler ≡ Some (Number (pos 4), 3)
  pub handled_absent : in_place texts (entry_of (TextC 3)) with_handler ≡ None
  pub global_there : in_place texts (GlobalC 2 1) with_table ≡ Some (Number (pos 4), 1)
  pub entry_of_number : in_place texts (IndexC (number 1) (number 2) 1) with_table ≡ None
  -- t == t, and t == 1: no handler is asked
  pub table_equal : in_place texts (OperateC Equal (LocalC (Reg 0)) (LocalC (Reg 0)) 1) with_handler ≡ Some (Truth true, 3)
  pub table_unequal : in_place texts (OperateC Unequal (LocalC (Reg 0)) (number 1) 1) with_handler ≡ Some (Truth true, 3)
  -- the list x, x * 2; and with `...` at its end
  pub list : all_in_place texts (MoreC (LocalC (Reg 0)) (MoreC (OperateC (Calculate Mul) (LocalC (Reg 0)) (number 2) 1) NoC)) slots ≡ Some (Number (pos 7) ∷ Number (pos 14) ∷ [], 4)
  pub open_list : all_in_place texts (MoreC (LocalC (Reg 0)) (MoreC DotsC NoC)) slots ≡ None
