-- The laws, at the types of the function.
use Rattle.lua_library_agree.proofs.LibraryLaws.{fields_agree, metatables_agree, handlers_agree, either_handlers_agree, common_handlers_agree}
use Rattle.lua_library_agree.proofs.laws.handlers_agree.Goals as goal

pub returns-clause-fields : goal.returns-clause-fields
returns-clause-fields g c = fields_agree g.X.Content.stands_for

pub returns-clause-metatables : goal.returns-clause-metatables
returns-clause-metatables g c = metatables_agree g.X.Content.stands_for

pub returns-clause-handlers : goal.returns-clause-handlers
returns-clause-handlers g c = handlers_agree g.X.Content.stands_for

pub returns-clause-either : goal.returns-clause-either
returns-clause-either g c = either_handlers_agree g.X.Content.stands_for

pub returns-clause-common : goal.returns-clause-common
returns-clause-common g c = common_handlers_agree g.X.Content.stands_for
