use Rattle.wiki_expand.proofs.PageLaws.{added_back}
use Rattle.wiki_expand.proofs.laws.pages_read_back.Goals as goal

pub returns : goal.returns
returns c = λ pages title e direct transcluded new own included. added_back pages title e direct transcluded new own included
