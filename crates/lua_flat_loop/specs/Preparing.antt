-- A MODULE MADE READY: its constants are values of the store, texts first, and they are seen as what they are in its code.
use Rattle.std.specs.Prelude.{◌≡◌, ℕ, List, ◌++◌, map}
use Rattle.lua_flat.specs.LuaHeapValue.{Value as Plain, Text}
use Rattle.lua_store.specs.declared.ids.TextId.{TextId}
use Rattle.lua_store.specs.declared.value.Value.{Value}
use Rattle.lua_store.specs.declared.value.Value.TheVariants as own
use Rattle.lua_store.specs.Seen.{StoreView, seen}
use Rattle.lua_store.specs.Parts.{IsLater}
use Rattle.lua_stack.specs.Of.{ValuesOf}
use Rattle.lua_flat_code.specs.declared.operand.Constant.{Constant}
use Rattle.lua_flat_code.specs.declared.operand.Constant.TheVariants as constant
use Rattle.lua_flat_code.specs.declared.function.Functions.{Functions}
use Rattle.lua_flat_code.specs.Seen.{constant_seen}
use Rattle.lua_flat_loop.specs.declared.ready.Ready.{Ready}
use Rattle.lua_flat_loop.specs.Code.{ReadyOf}

-- a constant that is no text, as a value
abbrev pub constant_value : Constant → Value
constant_value constant.Nil = own.Nil
constant_value (constant.Truth b) = own.Bool b
constant_value (constant.Number n) = own.Number n

-- texts as values of a later store
pub record TextsIn (old new : StoreView) (texts : List (List ℕ)) (values : List Value) : Type 0 where
  pub later : IsLater old new
  pub heap : new.heap ≡ old.heap
  pub of : ValuesOf new values
  pub are : map (seen new.texts) values ≡ map Text texts

-- all constants of a module, as they are in its code
abbrev pub constants_seen : Functions → List Plain
constants_seen fs = map Text fs.texts ++ map constant_seen fs.constants

pub record IsPrepared (old new : StoreView) (title : TextId) (fs : Functions) (m : Ready) : Type 0 where
  pub later : IsLater old new
  pub heap : new.heap ≡ old.heap
  pub titled : m.title ≡ title
  pub functions : m.functions.now ≡ fs
  pub of : ReadyOf new m
  pub constants : map (seen new.texts) m.constants.items ≡ constants_seen fs
