use Rattle.std.proofs.Common.{Bool, Some, None, ℕ, if◌then◌else◌, ap, sym, ◌∙◌}
use Rattle.expand_texts.proofs.KindLaws.{behind_found}
use Rattle.expand_texts.proofs.kind.behind.Goals as goal

pub returns-then-is_spelled : goal.returns-then-is_spelled
returns-then-is_spelled c =
    ap (λ (b : Bool). if b then Some c.cut.result.1.now else None) (sym c.if-is_spelled.true ∙ c.is_spelled.ensures)
    ∙ behind_found c.args.prefix.now c.args.text.now _ _ _ (c.least.ensures) c.cut.ensures.front c.cut.ensures.rest

pub returns-else-is_spelled : goal.returns-else-is_spelled
returns-else-is_spelled c =
    ap (λ (b : Bool). if b then Some c.cut.result.1.now else None) (sym c.if-is_spelled.false ∙ c.is_spelled.ensures)
    ∙ behind_found c.args.prefix.now c.args.text.now _ _ _ (c.least.ensures) c.cut.ensures.front c.cut.ensures.rest
