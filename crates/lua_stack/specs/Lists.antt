-- Lists of the store's own values (manual 2.4.3 and 2.5): what is absent is nil.
use Rattle.std.specs.Prelude.{List, [], ◌∷◌}
use Rattle.lua_store.specs.declared.value.Value.{Value}
use Rattle.lua_store.specs.declared.value.Value.TheVariants.{Nil}
use Rattle.lua_stack.specs.declared.values.Given.{Given}
use Rattle.lua_stack.specs.declared.values.Given.TheVariants as given

abbrev pub first_stored : List Value → Value
first_stored [] = Nil
first_stored (v ∷ vs) = v

abbrev pub rest_stored : List Value → List Value
rest_stored [] = []
rest_stored (v ∷ vs) = vs

abbrev pub given_values : Given → List Value
given_values (given.One v) = v ∷ []
given_values (given.Many vs) = vs
