use Rattle.wiki_texts.specs.Prepared.{ArePrepared}
use Rattle.wiki_texts.proofs.PreparedLaws.{none_prepared, both_prepared}
use Rattle.wiki_batch.proofs.Joins.{of_joined}
use Rattle.wiki_batch.proofs.loading.all_prepared.Goals as goal

pub returns : goal.returns
returns g c =
    of_joined ArePrepared none_prepared both_prepared c.share_size-size.result c.share_count-shares.result c.in_ok-parts.parts.items c.args.pages.now c.gathered.result
    c.share_count-shares.ensures.whole c.in_ok-parts.ensures.0 c.in_ok-parts.ensures.1 c.gathered.ensures
