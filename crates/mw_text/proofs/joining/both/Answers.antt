use Rattle.std.proofs.Common.{◌∙◌}
use Rattle.mw_text.proofs.Pieces.{both_is, both_made}
use Rattle.mw_text.proofs.joining.both.Goals as goal

pub returns : goal.returns
returns c =
    both_made c.args.first.now c.args.second.now c.new-made.result.items c.push_all.new.out.items c.push_all-2.new.out.items c.new-made.ensures.items c.in_ok-push_all.ensures c.in_ok-push_all-2.ensures
    ∙ both_is c.args.first.now c.args.second.now c.requires.first c.requires.second
