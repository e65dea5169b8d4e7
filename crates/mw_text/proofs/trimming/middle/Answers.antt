use Rattle.std.proofs.Common.{chars, reverse, ap, ◌∙◌}
use Rattle.mw_text.specs.Sets.{member}
use Rattle.mw_text.specs.Trim.{is_space}
use Rattle.mw_text.proofs.Pieces.{middle_is}
use Rattle.mw_text.proofs.trimming.middle.Goals as goal

pub returns-in-Some-skip_back : goal.returns-in-Some-skip_back
returns-in-Some-skip_back c =
    middle_is (member is_space c.args.set.now) c.args.left.now c.skip_front.new.left c.skip_back.new.left (chars c.args.text.now) (chars c.in-Some.rest.now) c.as_bytes.result.now c.as_bytes.ensures.utf8
    c.in-Some.ensures.0 c.in-Some.ensures.1 c.in-Some.ensures.2
    (ap (λ t. reverse (chars t)) c.as_bytes.ensures.value ∙ c.in-Some-skip_back.ensures.0) c.in-Some-skip_back.ensures.1 c.in-Some-skip_back.ensures.2
