use Rattle.mw_frames.proofs.StayLaws.{scenes_later}
use Rattle.mw_frames.proofs.scenes.scenes_stay.Goals as goal

pub returns : goal.returns
returns c = scenes_later
