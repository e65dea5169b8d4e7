use Rattle.std.proofs.lemmas.Result.{err_from_is_err_and}
use Rattle.lua_reading.proofs.expressions.Exits.{is_class, isn't}
use Rattle.lua_parser.proofs.lemmas.Chunks.{some_token, block_fault, chunk_is, chunk_only, chunk_unended, unended_no_chunk}
use Rattle.lua_parser.proofs.parser.chunk.Goals as goal

pub block-requires-clause-inside : goal.block-requires-clause-inside
block-requires-clause-inside c = some_token _ c.requires

pub returns-in_err-body : goal.returns-in_err-body
returns-in_err-body c =
    let p = err_from_is_err_and c.from_residual.result c.from_residual.ensures.1 in
    rw (p.1, p.2) (block_fault _ _ c.in_err-body.ensures)

pub returns-in_default : goal.returns-in_default
returns-in_default c =
    let ne = isn't _ _ _ _ c.class_at.ensures c.in_default.not-Eof in
    rw c.fault_at.ensures (chunk_unended _ _ _ _ c.in_ok-body.ensures ne, unended_no_chunk _ _ _ _ c.in_ok-body.ensures ne)

pub returns : goal.returns
returns c = (chunk_is _ _ _ _ c.requires c.in_ok-body.ensures (is_class _ _ _ _ c.class_at.ensures c.in-Eof.is), chunk_only _ _ _ _ c.in_ok-body.ensures)
