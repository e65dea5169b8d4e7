use Rattle.case_names.proofs.CaseLaws.{one_more}
use Rattle.case_names.proofs.naming.put_case.Goals as goal

pub returns-in-Ok : goal.returns-in-Ok
returns-in-Ok c = one_more c.args.met.now.keys _ c.args.name c.in-Ok.ensures.keys
