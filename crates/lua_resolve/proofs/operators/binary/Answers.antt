use Rattle.std.proofs.Common.{refl, sym}
use Rattle.lua_syntax.specs.Tree.{BinaryE}
use Rattle.lua_code.proofs.Views.{expression-Operate}
use Rattle.lua_resolve.proofs.FormLaws.{code_as}
use Rattle.lua_resolve.proofs.operators.binary.Goals as goal

pub returns-in-Some : goal.returns-in-Some
returns-in-Some c = λ at see a b x y. code_as at see (BinaryE c.args.line c.args.op a b) (expression-Operate c.in-Some.operator c.args.left c.args.right c.args.line) (refl, sym c.in-Some.ensures, x, y)

pub returns-in-None : goal.returns-in-None
returns-in-None c = λ at see a b x y. c.either.ensures at see c.args.line a b x y
