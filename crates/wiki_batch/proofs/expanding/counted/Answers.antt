use Rattle.wiki_batch.proofs.Shares.{page_is}
use Rattle.wiki_batch.proofs.expanding.counted.Goals as goal

pub returns : goal.returns
returns g c = λ modules are. page_is modules c.args.wiki.now.pages c.args.limits.now c.args.title.now _ _ c.in_ok-page.page (c.in_ok-page.ensures.page modules (are c.args.title.now))
