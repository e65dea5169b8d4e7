use Rattle.wiki_markup.proofs.HeldLaws.{pushed_ends, pushed_texts}
use Rattle.wiki_markup.proofs.texts.Texts.push.Goals as goal

pub invariant_of-self-2 : goal.invariant_of-self-2
invariant_of-self-2 c = pushed_ends _ _ c.args.text.now _ _ c.in_ok-push_text.ensures.ok c.self.invariant

pub returns-clause-ok : goal.returns-clause-ok
returns-clause-ok c = pushed_texts _ _ c.args.text.now _ _ _ c.in_ok-push_text.ensures.ok c.self.invariant c.self.view_is
