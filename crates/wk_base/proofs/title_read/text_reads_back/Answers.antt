use Rattle.wk_base.proofs.TitleReadsBack.{reads_back}
use Rattle.wk_base.proofs.title_read.text_reads_back.Goals as goal

pub returns : goal.returns
returns c = reads_back c.args.text.now c.args.default
