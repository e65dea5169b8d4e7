use Rattle.lua_meaning.proofs.ExampleFramesLaws.{all_frames}
use Rattle.lua_meaning.proofs.examples.frames.Goals as goal

-- src/examples.rt
pub returns : goal.returns
returns c = all_frames
