use Rattle.lua_meaning.proofs.ExampleHtmlLaws.{all_objects}
use Rattle.lua_meaning.proofs.examples.objects.Goals as goal

-- src/examples.rt
pub returns : goal.returns
returns c = all_objects
