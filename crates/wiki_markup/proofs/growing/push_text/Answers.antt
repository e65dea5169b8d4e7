use Rattle.std.proofs.Common.{◌∙◌, ap, reverse}
use Rattle.wiki_markup.proofs.HeldLaws.{put_text, numbered_kept, numbered_put}
use Rattle.wiki_markup.proofs.growing.push_text.Goals as goal

pub returns-in_err-push-2-clause-numbered : goal.returns-in_err-push-2-clause-numbered
returns-in_err-push-2-clause-numbered c = numbered_kept _ _ c.args.text.now _ _ c.in_ok-push.ensures.ok (ap reverse c.in_err-push-2.ensures.err) c.requires

pub returns-clause-ok : goal.returns-clause-ok
returns-clause-ok c = put_text _ _ c.args.text.now _ _ _ c.in_ok-push.ensures.ok (c.in_ok-number.ensures ∙ c.len.ensures) c.in_ok-push-2.ensures.ok c.requires

pub returns-clause-numbered : goal.returns-clause-numbered
returns-clause-numbered c = numbered_put _ _ c.args.text.now _ _ _ c.in_ok-push.ensures.ok (c.in_ok-number.ensures ∙ c.len.ensures) c.in_ok-push-2.ensures.ok c.requires
