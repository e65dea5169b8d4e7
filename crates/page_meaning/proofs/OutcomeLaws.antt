-- The outcome of an invocation is told as its text.
use Rattle.std.proofs.Common.{◌≡◌, refl, ap}
use Rattle.page_run.specs.State.{Gives, Ended, Spent, Asked}
use Rattle.lua_meaning_laws.specs.LuaMeaningStart.{End, Done, DoneData, Failed, end_of}
use Rattle.page_meaning.specs.Told.{end_text}
use Rattle.page_meaning.specs.Outcomes.{end_outcome, outcome_text, OutcomesAreTold}

pub end_is_told : (e : End) → end_text e ≡ outcome_text (end_outcome e)
end_is_told (Done text) = refl
end_is_told (Failed message) = refl
end_is_told (DoneData value) = refl

pub outcomes_are_told : OutcomesAreTold
outcomes_are_told (Ended outcome m) = ap Gives (end_is_told (end_of outcome))
outcomes_are_told (Spent which m) = refl
outcomes_are_told (Asked question m) = refl
