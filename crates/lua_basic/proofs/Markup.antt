-- A value that is an object of `mw.html`.
use Rattle.std.proofs.Common.{◌≡◌, Some, ap}
use Rattle.lua_store.specs.declared.ids.MarkupId.{MarkupId}
use Rattle.lua_store.specs.declared.value.Value.{Value}
use Rattle.lua_store.specs.declared.value.Value.TheVariants as value
use Rattle.lua_basic.specs.Objects.{object_in}

same_id : (a b : MarkupId) → Some a ≡ Some b → a ≡ b
same_id a b e = cc

pub object_is : (v : Value) (id : MarkupId) → object_in v ≡ Some id → v ≡ value.Markup id
object_is (value.Markup a) id e = ap value.Markup (same_id a id e)
object_is value.Nil id e = absurd cc
object_is (value.Bool b) id e = absurd cc
object_is (value.Number n) id e = absurd cc
object_is (value.Text t) id e = absurd cc
object_is (value.Table t) id e = absurd cc
object_is (value.Closure c) id e = absurd cc
object_is (value.Builtin b) id e = absurd cc
