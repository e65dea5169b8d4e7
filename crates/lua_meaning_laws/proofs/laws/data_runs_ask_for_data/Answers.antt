use Rattle.lua_meaning_laws.proofs.Runs.{data_runs_ask_for_data}
use Rattle.lua_meaning_laws.proofs.laws.data_runs_ask_for_data.Goals as goal

-- src/laws.rt
pub returns : goal.returns
returns c = data_runs_ask_for_data
