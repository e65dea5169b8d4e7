use Rattle.lua_meaning.proofs.ExampleMarkupLaws.{all_markup}
use Rattle.lua_meaning.proofs.examples.markup.Goals as goal

-- src/examples.rt
pub returns : goal.returns
returns c = all_markup
