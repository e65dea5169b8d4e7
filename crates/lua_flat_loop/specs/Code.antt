-- THE CODE that the loop runs on, and constants as values of the store.
use Rattle.std.specs.Prelude.{◌≡◌, ℕ, zero, suc, ◌-◌, List, length, slice_get, Option, Some, None, if◌then◌else◌, nat_lt}
use Rattle.std.specs.List.{AllByRecursion}
use Rattle.lua_flat.specs.LuaHeapValue.{Value as Plain, Text}
use Rattle.lua_store.specs.declared.value.Value.{Value}
use Rattle.lua_store.specs.declared.value.Value.TheVariants as own
use Rattle.lua_store.specs.Seen.{StoreView, text_at, seen}
use Rattle.lua_store.specs.Parts.{IsTextOf}
use Rattle.lua_flat.specs.LuaSlotsCode.{Constants, CWorld}
use Rattle.lua_code.specs.LuaSlotsCalls as calls
use Rattle.lua_stack.specs.Seen.{Texts}
use Rattle.lua_stack.specs.Of.{ValuesOf}
use Rattle.lua_flat.specs.Operations.{Codes}
use Rattle.lua_flat_code.specs.declared.function.Function.{Function}
use Rattle.lua_flat_code.specs.declared.function.Functions.{Functions}
use Rattle.lua_flat_code.specs.Seen.{Tables, or_nil}
use Rattle.lua_flat_code.specs.Whole.{functions_seen}
use Rattle.lua_flat_loop.specs.declared.ready.Ready.{Ready}
use Rattle.lua_flat_loop.specs.declared.ready.Code.{Code}

-- FUNCTIONS: number 0 is the text of the module
abbrev pub function_at : Functions → ℕ → Option Function
function_at fs zero = Some fs.text
function_at fs (suc i) = slice_get fs.functions i

-- the lists beside the code of a function
abbrev pub tables_of : Functions → Function → Tables
tables_of fs f = record { texts = length fs.texts; constants = fs.constants; cells = f.cells; origins = f.origins }

-- the code of this function of this module
pub record IsCodeOf (modules : List Ready) (source index : ℕ) (c : Code) : Type 0 where
  pub home : Ready
  pub there : slice_get modules source ≡ Some home
  pub function : function_at home.functions.now index ≡ Some c.function.now
  pub steps : c.steps.now ≡ c.function.now.steps
  pub constants : c.constants.now ≡ home.constants.items

-- CONSTANTS: texts first, by their numbers, and then the others. One that isn't there is nil.
abbrev pub value_or_nil : Option Value → Value
value_or_nil (Some v) = v
value_or_nil None = own.Nil

abbrev pub constant_in : Constants → Tables → ℕ → Plain
constant_in cs k n = if nat_lt n k.texts then Text (cs n) else or_nil (slice_get k.constants (n - k.texts))

abbrev pub Knows : Texts → Constants → Tables → List Value → Type 0
Knows texts cs k values = (n : ℕ) → seen texts (value_or_nil (slice_get values n)) ≡ constant_in cs k n

-- MODULES THAT ARE READY: what they name is of the store
pub record ReadyOf (s : StoreView) (m : Ready) : Type 0 where
  pub title : IsTextOf s m.title
  pub constants : ValuesOf s m.constants.items

-- and they are the modules of their titles: their functions are those of the code, and their constants those of the world
pub record IsReady (w : CWorld) (codes : Codes) (s : StoreView) (m : Ready) : Type 0 where
  pub functions : (n : ℕ) → codes (text_at s.texts m.title.at) n ≡ functions_seen m.functions.now n
  pub constants : (f : Function) → Knows s.texts (calls.code_of (w.modules (text_at s.texts m.title.at))).constant (tables_of m.functions.now f) m.constants.items

abbrev pub AreReady : CWorld → Codes → StoreView → List Ready → Type 0
AreReady w codes s modules = AllByRecursion (IsReady w codes s) modules
