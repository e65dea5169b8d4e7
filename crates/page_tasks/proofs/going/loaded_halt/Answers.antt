use Rattle.std.proofs.Common.{refl}
use Rattle.page_tasks.proofs.going.loaded_halt.Goals as goal

pub end_data-requires : goal.end_data-requires
end_data-requires c = c.requires

pub returns : goal.returns
returns c = (c.in_ok-data.data, refl, c.in_ok-data.ensures.data, c.in_ok-data.ensures.put)
