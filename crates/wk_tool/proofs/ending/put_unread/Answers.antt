use Rattle.wk_tool.proofs.EndLemmas.{line_put}
use Rattle.wk_tool.proofs.ending.put_unread.Goals as goal

pub returns-in-Failed : goal.returns-in-Failed
returns-in-Failed g c = rw c.in-Failed.is (line_put c.put_piece.result _ _ _ _ _ c.after_put.ensures c.put_piece.ensures.ok c.put_piece.ensures.some c.put_piece.ensures.cause)
