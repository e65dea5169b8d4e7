use Rattle.lua_parser.proofs.lemmas.AnsweredOnce.{one_chunk, one_fault, chunk_or_fault}
use Rattle.lua_parser.proofs.laws.parsed_once.Goals as goal

pub returns-clause-chunk : goal.returns-clause-chunk
returns-clause-chunk c = one_chunk

pub returns-clause-fault : goal.returns-clause-fault
returns-clause-fault c = one_fault

pub returns-clause-chunk_or_fault : goal.returns-clause-chunk_or_fault
returns-clause-chunk_or_fault c = chunk_or_fault
