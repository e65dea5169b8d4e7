use Rattle.wiki_markup.proofs.HeldLaws.{put_branch}
use Rattle.wiki_markup.proofs.growing.Growing.put_branch.Goals as goal

pub returns : goal.returns
returns c = put_branch _ c.args.branch c.args.right _ _ _ _ c.self.view_is c.in_ok-place.ensures c.in_ok-push.ensures.ok
