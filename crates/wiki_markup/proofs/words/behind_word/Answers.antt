use Rattle.std.proofs.Common.{◌≡◌, ◌∙◌, sym, arith, refl, drop, get_or, eq-eqb, nat_eq, true, false}
use Rattle.wiki_markup.specs.Shown.{small}
use Rattle.wiki_markup.proofs.PlaceLaws.{behind_short, behind_here, behind_end, differs}
use Rattle.wiki_markup.proofs.words.behind_word.Goals as goal

pub returns-then-p-text-clause-same : goal.returns-then-p-text-clause-same
returns-then-p-text-clause-same c = c.loop-w.invariant.same ∙ behind_short c.args.word.now c.args.text.now c.loop-w.w-index c.loop-w.p c.loop-w-test.true c.if-p-text.true

pub returns-then-w-small-clause-same : goal.returns-then-w-small-clause-same
returns-then-w-small-clause-same c = c.loop-w.invariant.same ∙ behind_here c.args.word.now c.args.text.now c.loop-w.w-index c.loop-w.p c.loop-w-test.true c.if-p-text.false
    ∙ (let e : nat_eq (get_or c.args.word.now c.loop-w.w-index 0) (small (get_or c.args.text.now c.loop-w.p 0)) ≡ false = differs _ _ (λ h. c.if-w-small.true (h ∙ sym c.small.ensures)) in rw e refl)

pub loop-w-preserved : goal.loop-w-preserved
loop-w-preserved c = record {
  inside = omega arith;
  size = omega arith;
  same = c.loop-w.invariant.same ∙ behind_here c.args.word.now c.args.text.now c.loop-w.w-index c.loop-w.p c.loop-w-test.true c.if-p-text.false
      ∙ (let e : nat_eq (get_or c.args.word.now c.loop-w.w-index 0) (small (get_or c.args.text.now c.loop-w.p 0)) ≡ true = eq-eqb _ _ (c.if-w-small.false ∙ c.small.ensures) in rw e refl);
}

pub returns-clause-same : goal.returns-clause-same
returns-clause-same c = c.loop-w.invariant.same ∙ behind_end c.args.word.now (drop c.loop-w.p c.args.text.now) c.loop-w.w-index c.loop-w-test.false
