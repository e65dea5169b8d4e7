use Rattle.case_names.proofs.CaseLaws.{several}
use Rattle.case_names.proofs.functions.only_one.Goals as goal

pub returns-in-len2-up : goal.returns-in-len2-up
returns-in-len2-up c = several c.args.list.now c.in-len2-up.len_at_least
