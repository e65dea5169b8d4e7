-- The laws, at the types of the function.
use Rattle.lua_library_agree.proofs.GsubAgree.{gsub_agrees, searches_agree}
use Rattle.lua_library_agree.proofs.laws.gsub_agrees.Goals as goal

pub returns-clause-forms : goal.returns-clause-forms
returns-clause-forms g c = gsub_agrees g.X.Content.stands_for

pub returns-clause-searches : goal.returns-clause-searches
returns-clause-searches g c = searches_agree
