use Rattle.lua_meaning.proofs.ExampleStatementsLaws.{all_statements}
use Rattle.lua_meaning.proofs.examples.statements.Goals as goal

-- src/examples.rt
pub returns : goal.returns
returns c = all_statements
