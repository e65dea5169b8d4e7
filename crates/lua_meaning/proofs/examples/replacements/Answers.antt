use Rattle.lua_meaning.proofs.ExampleGsubLaws.{all_replacements}
use Rattle.lua_meaning.proofs.examples.replacements.Goals as goal

-- src/examples.rt
pub returns : goal.returns
returns c = all_replacements
