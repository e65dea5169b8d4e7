-- WHAT PARTS OF THE TREE MEAN: the kinds of their meanings (manual 2.3 to 2.5).
use Rattle.std.specs.Prelude.{ℕ, List}
use Rattle.lua_syntax.specs.Tree.{Exp, Block}
use Rattle.lua_walk.specs.LuaHeapValue.{Value}
use Rattle.lua_meaning.specs.Scope.{Bytes, Scope, Levels}
use Rattle.lua_meaning.specs.Acts.{Act}

-- A TARGET of an assignment (manual 2.4.3): a local variable by its cell, a global one by its name, or an index, whose table and key
-- are evaluated; for the last two the levels of its node
pub data Target : Type 0 where
  Local : (cell : ℕ) → Target
  Global : (name : Bytes) (levels : Levels) → Target
  Entry : (of key : Value) (levels : Levels) → Target

-- WHAT A PART OF THE TREE MEANS: an expression gives values, a target is found, and a statement gives the environment that the
-- statements after it have.
abbrev pub Expression : Type 0
Expression = Scope → Act (List Value)

abbrev pub Targeted : Type 0
Targeted = Scope → Act Target

abbrev pub Statement : Type 0
Statement = Scope → Act Scope

-- a field of a constructor
pub data FieldMeaning : Type 0 where
  ItemOf : Expression → FieldMeaning
  PairOf : Expression → Expression → FieldMeaning

-- a test of an `if`, and what is done where it is true
pub record Branch : Type 0 where
  pub test : Expression
  pub body : Statement

-- A part of the tree beside its meaning, for loops, whose next turn names the part.
pub record ExpPart : Type 0 where
  pub tree : Exp
  pub meaning : Expression

pub record BlockPart : Type 0 where
  pub tree : Block
  pub meaning : Statement
