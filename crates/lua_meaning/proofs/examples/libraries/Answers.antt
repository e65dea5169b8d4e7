use Rattle.lua_meaning.proofs.ExampleLibrariesLaws.{all_libraries}
use Rattle.lua_meaning.proofs.examples.libraries.Goals as goal

-- src/examples.rt
pub returns : goal.returns
returns c = all_libraries
