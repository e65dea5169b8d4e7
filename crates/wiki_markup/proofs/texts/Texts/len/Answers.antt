use Rattle.std.proofs.Common.{rules}
use Rattle.wiki_markup.proofs.HeldLaws.{texts_length}
use Rattle.wiki_markup.proofs.texts.Texts.len.Goals as goal

pub returns : goal.returns
returns c = texts_length _ _ _ _ c.self.view_is (search rules)
