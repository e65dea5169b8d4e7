use Rattle.lua_meaning.proofs.ExampleModulesLaws.{all_modules}
use Rattle.lua_meaning.proofs.examples.modules.Goals as goal

-- src/examples.rt
pub returns : goal.returns
returns c = all_modules
