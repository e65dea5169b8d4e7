use Rattle.lua_meaning.proofs.FrameLaws.{frames_are_needed}
use Rattle.lua_meaning.proofs.laws.frames_are_needed.Goals as goal

-- src/laws.rt
pub returns : goal.returns
returns c = frames_are_needed
