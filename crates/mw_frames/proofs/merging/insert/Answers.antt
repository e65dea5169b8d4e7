use Rattle.std.proofs.Common.{◌≡◌, ◌∙◌, ap, sym, subst}
use Rattle.mw_frame.specs.Scenes.{NamesDiffer}
use Rattle.lua_home.specs.LuaMeaningFrames.{put_arg}
use Rattle.mw_frames.specs.Merging.{args_in}
use Rattle.mw_frames.proofs.Merged.{put-is, differ-put}
use Rattle.mw_frames.proofs.merging.insert.Goals as goal

pub returns-in-Ok : goal.returns-in-Ok
returns-in-Ok c =
    let is : args_in c.insert.new.self.entries ≡ put_arg (record { name = c.args.name; value = c.args.value }) (args_in c.args.map.now.entries) = ap args_in c.in-Ok.ensures.entries ∙ put-is c.args.name c.args.value c.args.map.now.entries in
    record { put = is; differ = λ d. subst NamesDiffer (sym is) (differ-put _ (args_in c.args.map.now.entries) d) }
