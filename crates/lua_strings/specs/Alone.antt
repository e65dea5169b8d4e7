-- AN ANSWER OF ONE VALUE: what it is as an answer of a list of values, as other functions give it.
use Rattle.std.specs.Prelude.{◌≡◌, [], ◌∷◌, List, Result, Ok, Err}
use Rattle.lua_basic.specs.LuaStoreDeclaredValueValue.{Value}
use Rattle.lua_basic.specs.declared.stop.Stop.{Stop}
use Rattle.lua_basic.specs.declared.stop.Stop.TheVariants as stop

abbrev pub alone : Result Value Stop → Result (List Value) Stop
alone (Ok v) = Ok (v ∷ [])
alone (Err e) = Err e

-- the same answer with a list, unless memory runs out
abbrev pub IsListed : Result Value Stop → Result (List Value) Stop → Type 0
IsListed r (Ok vs) = alone r ≡ Ok vs
IsListed r (Err (stop.Raised v level)) = alone r ≡ Err (stop.Raised v level)
IsListed r (Err stop.Spent) = alone r ≡ Err stop.Spent
IsListed r (Err stop.NoMemory) = Unit {0}
