use Rattle.wiki_batch.specs.Batch.{ArePages}
use Rattle.wiki_batch.proofs.Joins.{of_joined}
use Rattle.wiki_batch.proofs.Shares.{none_yet, both_pages}
use Rattle.wiki_batch.proofs.expanding.expand_all.Goals as goal

pub returns : goal.returns
returns g c =
    let wiki = c.args.wiki.now in
    let limits = c.args.limits.now in
    of_joined (ArePages wiki limits) (none_yet wiki limits) (both_pages wiki limits) c.share_size-size.result c.share_count-shares.result c.in_ok-parts.parts.items c.args.titles.now c.gathered.result
    c.share_count-shares.ensures.whole c.in_ok-parts.ensures.0 c.in_ok-parts.ensures.1 c.gathered.ensures
