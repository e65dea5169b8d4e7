use Rattle.std.proofs.Common.{refl}
use Rattle.wiki_expand.proofs.SkipLaws.{skipped}
use Rattle.wiki_expand.proofs.functions.skip_to.Goals as goal

pub returns : goal.returns
returns c = skipped _ _ c.args.further c.requires.unmet c.requires.calm c.requires.leads refl refl refl refl c.set_default.ensures.trees c.set_default.ensures.size
