use Rattle.lua_flat_cases.proofs.TextsRuns.{all_of_them}
use Rattle.lua_flat_cases.proofs.examples.texts.Goals as goal

pub returns : goal.returns
returns c = all_of_them
