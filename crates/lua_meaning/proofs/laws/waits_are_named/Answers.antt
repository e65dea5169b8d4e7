use Rattle.lua_meaning.proofs.MeaningLaws.{calls_are_named, modules_are_named, questions_are_named}
use Rattle.lua_meaning.proofs.GsubLaws.{gsub_is_named}
use Rattle.lua_meaning.proofs.laws.waits_are_named.Goals as goal

-- src/laws.rt
pub returns-clause-calls : goal.returns-clause-calls
returns-clause-calls c = calls_are_named

pub returns-clause-modules : goal.returns-clause-modules
returns-clause-modules c = modules_are_named

pub returns-clause-replacements : goal.returns-clause-replacements
returns-clause-replacements c = gsub_is_named

pub returns-clause-questions : goal.returns-clause-questions
returns-clause-questions c = questions_are_named
