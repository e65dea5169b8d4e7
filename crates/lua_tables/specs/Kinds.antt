-- THE VALUES OF ONE KIND among others, which a sort puts in order by themselves.
use Rattle.std.specs.Prelude.{ℤ, List, [], ◌∷◌}
use Rattle.lua_basic.specs.LuaHeapValue.{Value, Number, Text}
use Rattle.lua_basic.specs.LuaMeaningScope.{Bytes}

abbrev pub numbers_in : List Value → List ℤ
numbers_in [] = []
numbers_in (Number n ∷ vs) = n ∷ numbers_in vs
numbers_in (v ∷ vs) = numbers_in vs

abbrev pub texts_in : List Value → List Bytes
texts_in [] = []
texts_in (Text t ∷ vs) = t ∷ texts_in vs
texts_in (v ∷ vs) = texts_in vs
