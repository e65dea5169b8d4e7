-- THE WORLD of a run, which nothing in it changes: the title of the page that is expanded, and the modules.
use Rattle.std.specs.Prelude.{ℕ, Option, Result}
use Rattle.lua_syntax.specs.WkBaseDeclaredTitleTitle.{Title}
use Rattle.lua_syntax.specs.declared.fault.FaultAt.{FaultAt}
use Rattle.lua_syntax.specs.Tree.{Block}

-- a module: the length of its text in bytes, and its tree or its first fault
pub record Module : Type 0 where
  pub size : ℕ
  pub chunk : Result Block FaultAt

-- of each title the module, if it is held
abbrev pub Modules : Type 0
Modules = Title → Option Module

pub record World : Type 0 where
  pub page : Title
  pub modules : Modules
