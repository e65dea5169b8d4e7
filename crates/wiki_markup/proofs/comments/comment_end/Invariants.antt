use Rattle.std.proofs.Common.{◌≡◌, drop}
use Rattle.wiki_markup.specs.Shown.{behind, behind_next, comment_end}
use Rattle.wiki_markup.proofs.comments.comment_end.Given as goal

abbrev pub invariant-loop-at : goal.invariant-loop-at
invariant-loop-at l = behind_next (behind comment_end) (drop l.from l.text) ≡ behind_next (behind comment_end) (drop l.at l.text)
