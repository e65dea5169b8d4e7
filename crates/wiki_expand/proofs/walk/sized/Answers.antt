use Rattle.std.proofs.Common.{◌∙◌, cond, length, ap, sym}
use Rattle.expand_texts.specs.ExpandMeaningTexts.{size_text}
use Rattle.wiki_expand.proofs.Moves.{bytes_taken, bytes_short, leads_on, stays}
use Rattle.wiki_expand.proofs.walk.sized.Goals as goal

pub returns-then-take_bytes-clause-leads : goal.returns-then-take_bytes-clause-leads
returns-then-take_bytes-clause-leads c = λ w k.
    bytes_taken w (length c.args.text) (λ enough. k (cond enough c.args.text size_text)) c.args.left.now c.take_bytes.new.left
    c.if-take_bytes.ensures.enough c.take_bytes.ensures.taken

pub returns-clause-leads : goal.returns-clause-leads
returns-clause-leads c = λ w k.
    leads_on w _ _ _ c.args.left.now c.take_bytes.new.left c.take_bytes.new.left
    (bytes_short w (length c.args.text) (λ enough. k (cond enough c.args.text size_text)) c.args.left.now c.take_bytes.new.left
    c.if-take_bytes.ensures.short c.take_bytes.ensures.taken)
    (stays w _ _ c.take_bytes.new.left (ap k (sym (c.in_ok-made.ensures ∙ c.size_text.ensures))))
