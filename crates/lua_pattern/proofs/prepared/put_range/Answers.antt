use Rattle.std.proofs.Common.{ap, ◌∙◌}
use Rattle.regex_class.specs.Ranges.{in_ranges}
use Rattle.lua_pattern.proofs.Tables.{put_range}
use Rattle.lua_pattern.proofs.prepared.put_range.Goals as goal

pub returns-in-Ok : goal.returns-in-Ok
returns-in-Ok c = λ k. ap (λ rs. in_ranges rs k) c.in-Ok.ensures.items ∙ put_range c.args.ranges.now.items c.args.low c.args.high k
