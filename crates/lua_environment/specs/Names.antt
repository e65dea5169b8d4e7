-- NAMES OF HANDLERS in a store, which are what the manual calls them (2.8): parts of the environment of a run (`EnvironmentOf`).
use Rattle.std.specs.Prelude.{codes}
use Rattle.lua_code.specs.LuaMeaningOperators as plain
use Rattle.lua_store.specs.Seen.{StoreView}
use Rattle.lua_stack.specs.Of.{IsNameOf}
use Rattle.lua_environment.specs.declared.names.AccessNames.{AccessNames}
use Rattle.lua_environment.specs.declared.names.ArithmeticNames.{ArithmeticNames}
use Rattle.lua_environment.specs.declared.names.OtherNames.{OtherNames}

pub record AreAccessNames (s : StoreView) (n : AccessNames) : Type 0 where
  pub index : IsNameOf s n.index (codes "__index")
  pub set_index : IsNameOf s n.set_index (codes "__newindex")
  pub call : IsNameOf s n.call (codes "__call")
  pub to_string : IsNameOf s n.to_string (codes "__tostring")
  pub pairs : IsNameOf s n.pairs (codes "__pairs")
  pub ipairs : IsNameOf s n.ipairs (codes "__ipairs")

pub record AreArithmeticNames (s : StoreView) (n : ArithmeticNames) : Type 0 where
  pub add : IsNameOf s n.add (plain.event plain.Add)
  pub subtract : IsNameOf s n.subtract (plain.event plain.Sub)
  pub multiply : IsNameOf s n.multiply (plain.event plain.Mul)
  pub divide : IsNameOf s n.divide (plain.event plain.Div)
  pub modulo : IsNameOf s n.modulo (plain.event plain.Mod)
  pub power : IsNameOf s n.power (plain.event plain.Pow)

pub record AreOtherNames (s : StoreView) (n : OtherNames) : Type 0 where
  pub negate : IsNameOf s n.negate (codes "__unm")
  pub concatenate : IsNameOf s n.concatenate (codes "__concat")
  pub equal : IsNameOf s n.equal (codes "__eq")
  pub less : IsNameOf s n.less (codes "__lt")
  pub at_most : IsNameOf s n.at_most (codes "__le")
