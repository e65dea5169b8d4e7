use Rattle.std.proofs.Common.{◌+◌, ◌++◌, ◌∷◌, [], drop, sym, ap, ◌∙◌, append_assoc, append-nil}
use Rattle.case_names.proofs.CaseLaws.{bytes_of, drop_at, drop_past}
use Rattle.case_names.proofs.naming.copies.Goals as goal

pub loop-at-init : goal.loop-at-init
loop-at-init c = ap (λ l. l ++ bytes_of c.args.met.now.keys) c.new-list.ensures

pub loop-at-preserved : goal.loop-at-preserved
loop-at-preserved c =
    let rest = bytes_of (drop (c.loop-at.at + 1) c.args.met.now.keys) in
    ap (λ l. l ++ rest) c.in_ok-push-in-Some.ensures.ok
    ∙ append_assoc c.loop-at.list (c.in_ok-copy-in-Some.field-0 ∷ []) rest
    ∙ ap (λ t. c.loop-at.list ++ (t ∷ rest)) c.in_ok-copy-in-Some.ensures
    ∙ ap (λ l. c.loop-at.list ++ bytes_of l) (sym (drop_at c.args.met.now.keys c.loop-at.at c.in-Some.key (sym c.in-Some.ensures)))
    ∙ c.loop-at.invariant

pub returns-in-None : goal.returns-in-None
returns-in-None c =
    sym (append-nil c.loop-at.list)
    ∙ ap (λ l. c.loop-at.list ++ bytes_of l) (sym (drop_past c.args.met.now.keys c.loop-at.at (sym c.in-None.ensures)))
    ∙ c.loop-at.invariant
