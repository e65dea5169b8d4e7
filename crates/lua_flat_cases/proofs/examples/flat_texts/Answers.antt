use Rattle.lua_flat_cases.proofs.TextsFlat.{all_flat}
use Rattle.lua_flat_cases.proofs.examples.flat_texts.Goals as goal

pub returns : goal.returns
returns c = all_flat
