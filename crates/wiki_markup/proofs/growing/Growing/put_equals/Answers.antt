use Rattle.wiki_markup.proofs.HeldLaws.{put_equals}
use Rattle.wiki_markup.proofs.growing.Growing.put_equals.Goals as goal

pub returns : goal.returns
returns c = put_equals _ _ _ _ c.self.view_is c.in_ok-push.ensures.ok
