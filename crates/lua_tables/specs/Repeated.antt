-- ITEMS WITH HOW OFTEN each stands in a list, which a sort puts in order without comparing one with itself.
use Rattle.std.specs.Prelude.{◌≡◌, ℕ, List, [], ◌∷◌, ◌++◌, map, replicate, Option, Some, None}
use Rattle.std.specs.List.{AllByRecursion}
use Rattle.lua_basic.specs.LuaMeaningScope.{Bytes}
use Rattle.lua_basic.specs.LuaStoreDeclaredIdsTextId.{TextId}
use Rattle.lua_basic.specs.LuaStoreDeclaredValueValue.{Value}
use Rattle.lua_basic.specs.LuaStoreDeclaredValueValueTheVariants as own
use Rattle.lua_basic.specs.LuaStoreParts.{IsTextOf}
use Rattle.lua_basic.specs.LuaStoreSeen.{StoreView, text_at}
use Rattle.lua_tables.specs.declared.distinct.Named.{Named}

-- each of them so often
abbrev pub repeated : {K : Type 0} → List (K × ℕ) → List K
repeated [] = []
repeated (e ∷ es) = replicate e.1 e.0 ++ repeated es

-- texts of a store that were counted
abbrev pub counted_seen : List Bytes → TextId × ℕ → Bytes × ℕ
counted_seen texts e = (text_at texts e.0.at, e.1)

abbrev pub spread : List Bytes → List (TextId × ℕ) → List Bytes
spread texts es = repeated (map (counted_seen texts) es)

abbrev pub AreTextsOf : StoreView → List (TextId × ℕ) → Type 0
AreTextsOf s es = AllByRecursion (λ e. IsTextOf s e.0) es

-- the text that was found, if one was
abbrev pub texts_found : List Bytes → Option TextId → List Bytes
texts_found texts (Some id) = text_at texts id.at ∷ []
texts_found texts None = []

-- texts with their bytes beside them
abbrev pub named_seen : Named → Bytes × ℕ
named_seen n = (n.bytes.now, n.count)

abbrev pub named_values : Named → Value × ℕ
named_values n = (own.Text n.text, n.count)

abbrev pub IsNamedOf : StoreView → Named → Type 0
IsNamedOf s n = IsTextOf s n.text × (n.bytes.now ≡ text_at s.texts n.text.at)
