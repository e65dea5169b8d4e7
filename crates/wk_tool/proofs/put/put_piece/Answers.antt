use Rattle.wk_tool.proofs.PutLemmas.{some_put}
use Rattle.wk_tool.proofs.put.put_piece.Goals as goal

pub returns-clause-some : goal.returns-clause-some
returns-clause-some g c = some_put c.put.result _ _ c.args.piece.now c.put.ensures.ok c.put.ensures.err
