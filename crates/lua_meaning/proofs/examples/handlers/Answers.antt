use Rattle.lua_meaning.proofs.ExampleHandlersLaws.{all_handlers}
use Rattle.lua_meaning.proofs.examples.handlers.Goals as goal

-- src/examples.rt
pub returns : goal.returns
returns c = all_handlers
