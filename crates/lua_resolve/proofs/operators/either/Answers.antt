use Rattle.lua_syntax.specs.Tree.{BinaryE}
use Rattle.lua_code.proofs.Views.{expression-And, expression-Or}
use Rattle.lua_resolve.proofs.FormLaws.{code_as, or_else}
use Rattle.lua_resolve.proofs.operators.either.Goals as goal

pub returns-in-And : goal.returns-in-And
returns-in-And c = λ at see line a b x y. code_as at see (BinaryE line c.args.op a b) (expression-And c.args.left c.args.right) (c.in-And.is, x, y)

pub returns-in_default : goal.returns-in_default
returns-in_default c = λ at see line a b x y. code_as at see (BinaryE line c.args.op a b) (expression-Or c.args.left c.args.right) (or_else c.args.op c.requires c.in_default.not-And, x, y)
