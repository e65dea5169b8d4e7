use Rattle.std.proofs.Common.{◌≡◌, length}
use Rattle.std.specs.Str.{str_eq_ignore_ascii_case}
use Rattle.wk_base.specs.Titles.{with_spaces, squeeze}
use Rattle.wk_base.proofs.title_read.is_spelled.Given as goal

abbrev pub invariant-loop-text : goal.invariant-loop-text
invariant-loop-text l =
    str_eq_ignore_ascii_case (squeeze (with_spaces l.text)) l.prefix
    ≡ str_eq_ignore_ascii_case (squeeze (with_spaces l.fn.text)) l.fn.prefix

abbrev pub decreases-loop-text : goal.decreases-loop-text
decreases-loop-text l = length l.text
