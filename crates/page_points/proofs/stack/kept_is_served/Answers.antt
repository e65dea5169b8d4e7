use Rattle.page_points.proofs.Loads.{kept_is_served}
use Rattle.page_points.proofs.stack.kept_is_served.Goals as goal

pub returns : goal.returns
returns c = λ wiki page title answer charge height l now k paid covered found. kept_is_served wiki page title answer charge height l now k paid covered found
