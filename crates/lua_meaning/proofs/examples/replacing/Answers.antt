use Rattle.lua_meaning.proofs.ExampleReplacingLaws.{all_replacing}
use Rattle.lua_meaning.proofs.examples.replacing.Goals as goal

-- src/examples.rt
pub returns : goal.returns
returns c = all_replacing
