use Rattle.std.proofs.Common.{◌∙◌}
use Rattle.mw_ustrings.proofs.Utf8.{test_agrees}
use Rattle.mw_ustrings.proofs.arguments.is_utf8.Goals as goal

pub returns : goal.returns
returns c = c.is_ok.ensures.value ∙ test_agrees c.args.bytes.now _ _ c.from_utf8.result c.from_utf8.ensures.cases
