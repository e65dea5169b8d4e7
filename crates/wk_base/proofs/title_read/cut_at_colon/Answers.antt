use Rattle.std.proofs.Common.{◌≡◌, ℕ, ◌+◌, ◌==◌, false, List, sym, subst, arith, add-one}
use Rattle.std.specs.List.{list_any}
use Rattle.std.proofs.lemmas.List.{take_rest, take_all}
use Rattle.wk_base.proofs.TitleReading.{cut_here, no_cut}
use Rattle.wk_base.proofs.title_read.cut_at_colon.Goals as goal

pub returns-then-byte-eq58 : goal.returns-then-byte-eq58
returns-then-byte-eq58 c =
    rw (take_rest c.args.text.now (c.loop-at.at + 1), add-one)
    (sym (cut_here c.args.text.now c.loop-at.at c.loop-at-test.true c.loop-at.invariant c.if-byte-eq58.true))

pub returns : goal.returns
returns c =
    let none : list_any (λ c. c == 58) c.args.text.now ≡ false =
    subst (λ (t : List ℕ). list_any (λ c. c == 58) t ≡ false) (take_all c.loop-at.at c.args.text.now (omega arith)) c.loop-at.invariant in
    sym (no_cut c.args.text.now none)
