use denote.Param.Send.{sendable}
use Rattle.std.proofs.Crossing.{crosses}
use Rattle.wiki_batch.proofs.Crossing.{Prepared-field-send, Prepared-send}
use Rattle.wiki_batch.proofs.loading.prepare_shares.Goals as goal

pub map_by_workers-requires-send-X : goal.map_by_workers-requires-send-X
map_by_workers-requires-send-X g c κs within = let f = Prepared-field-send in let r = Prepared-send in search (crosses, sendable) depth 60 fits 20000
