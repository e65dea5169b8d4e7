-- How two values are ordered (manual 2.5.2): only numbers and texts have an order of their own, each among themselves.
use Rattle.lua_arms.specs.LuaStoreDeclaredValueValue.{Value}
use Rattle.lua_arms.specs.LuaStoreDeclaredValueValueTheVariants as stored
use Rattle.lua_operators.specs.declared.ordering.Order.{Order}
use Rattle.lua_operators.specs.declared.ordering.Order.TheVariants.{Numbers, Texts, Others}

abbrev pub order_as : Value → Value → Order
order_as (stored.Number a) (stored.Number b) = Numbers a b
order_as (stored.Text a) (stored.Text b) = Texts a b
order_as a b = Others
