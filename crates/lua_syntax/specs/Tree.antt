-- A chunk as a plain tree, of which recursive definitions speak: each expression and statement begins with its line. Numbers,
-- names and strings are numbers and lists; lists of trees have types of their own.
use Rattle.std.specs.Prelude.{ℕ, ℤ, Bool, List}
use Rattle.lua_syntax.specs.declared.BinaryOp.{BinaryOp}
use Rattle.lua_syntax.specs.declared.UnaryOp.{UnaryOp}

mutual
  pub data Exp : Type 0 where
    NilE : ℕ → Exp
    TrueE : ℕ → Exp
    FalseE : ℕ → Exp
    NumberE : ℕ → ℤ → Exp
    TextE : ℕ → List ℕ → Exp
    DotsE : ℕ → Exp
    FunctionE : ℕ → Fun → Exp
    NameE : ℕ → List ℕ → Exp
    IndexE : ℕ → Exp → Exp → Exp
    CallE : ℕ → Exp → Exps → Exp
    MethodE : ℕ → Exp → List ℕ → Exps → Exp
    TableE : ℕ → Fields → Exp
    BinaryE : ℕ → BinaryOp → Exp → Exp → Exp
    UnaryE : ℕ → UnaryOp → Exp → Exp
    ParenE : ℕ → Exp → Exp

  pub data Exps : Type 0 where
    NoExp : Exps
    MoreExp : Exp → Exps → Exps

  pub data Fields : Type 0 where
    NoField : Fields
    Item : Exp → Fields → Fields
    Pair : Exp → Exp → Fields → Fields

  -- parameters, whether `...` follows them, and the body
  pub data Fun : Type 0 where
    Lambda : List (List ℕ) → Bool → Block → Fun

  pub data Block : Type 0 where
    NoStat : Block
    MoreStat : Stat → Block → Block

  pub data Arms : Type 0 where
    NoArm : Arms
    Arm : Exp → Block → Arms → Arms

  pub data Stat : Type 0 where
    AssignS : ℕ → Exps → Exps → Stat
    CallS : ℕ → Exp → Stat
    DoS : ℕ → Block → Stat
    WhileS : ℕ → Exp → Block → Stat
    RepeatS : ℕ → Block → Exp → Stat
    IfS : ℕ → Arms → Stat
    IfElseS : ℕ → Arms → Block → Stat
    CountS : ℕ → List ℕ → Exp → Exp → Block → Stat
    CountByS : ℕ → List ℕ → Exp → Exp → Exp → Block → Stat
    EachS : ℕ → List (List ℕ) → Exps → Block → Stat
    LocalFunctionS : ℕ → List ℕ → Fun → Stat
    LocalS : ℕ → List (List ℕ) → Exps → Stat
    ReturnS : ℕ → Exps → Stat
    BreakS : ℕ → Stat
