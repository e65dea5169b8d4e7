use Rattle.lua_lexer.proofs.Lists.{one_list, no_list_with_fault, one_fault}
use Rattle.lua_lexer.proofs.lexer.is_lexed_once.Goals as goal

pub returns-clause-tokens : goal.returns-clause-tokens
returns-clause-tokens c = λ ts us h k. one_list c.args.text.now h.0 k.0 0 1 ts us h.1 k.1

pub returns-clause-fault : goal.returns-clause-fault
returns-clause-fault c = λ ts kind line h k. no_list_with_fault c.args.text.now h.0 k.0 0 1 ts kind line h.1 k.1

pub returns-clause-faults : goal.returns-clause-faults
returns-clause-faults c = λ kind line other_kind other_line h k. one_fault c.args.text.now h.0 k.0 1 kind line other_kind other_line h.1 k.1
