use Rattle.std.proofs.Common.{◌++◌, sym, ◌∙◌, ap, arith, drop}
use Rattle.wiki_markup.specs.Items.{letters_from}
use Rattle.wiki_markup.proofs.LetterLaws.{pass_span, pass_cut, letter_more, letters_all}
use Rattle.wiki_markup.proofs.pairing.letters.Goals as goal

pub loop-at-preserved-then-span_passed : goal.loop-at-preserved-then-span_passed
loop-at-preserved-then-span_passed c =
    let p = pass_span c.args.literals.now c.loop-at.k c.loop-at.at (drop c.loop-at.c c.args.cuts.now) (drop c.loop-at.at c.args.bytes.now) c.requires.spans (sym c.span_passed.ensures ∙ c.if-span_passed.true) in
    record {
      spans = omega (arith, p.0);
      cuts = c.loop-at.invariant.cuts;
      bytes = c.loop-at.invariant.bytes;
      same = c.loop-at.invariant.same ∙ ap (λ l. c.loop-at.out.items ++ l) p.1;
    }

pub loop-at-preserved-then-cut_passed : goal.loop-at-preserved-then-cut_passed
loop-at-preserved-then-cut_passed c =
    let p = pass_cut c.args.cuts.now c.loop-at.c c.loop-at.at (drop c.loop-at.k c.args.literals.now) (drop c.loop-at.at c.args.bytes.now) (sym c.cut_passed.ensures ∙ c.if-cut_passed.true) in
    record {
      spans = c.loop-at.invariant.spans;
      cuts = omega (arith, p.0);
      bytes = c.loop-at.invariant.bytes;
      same = c.loop-at.invariant.same ∙ ap (λ l. c.loop-at.out.items ++ l) p.1;
    }

pub loop-at-preserved : goal.loop-at-preserved
loop-at-preserved c = record {
  spans = c.loop-at.invariant.spans;
  cuts = c.loop-at.invariant.cuts;
  bytes = omega arith;
  same = letter_more (letters_from c.args.literals.now c.args.cuts.now 0 c.args.bytes.now) c.loop-at.out.items c.push.new.self.items c.letter_of-letter.result
      c.args.literals.now c.args.cuts.now c.args.bytes.now c.loop-at.k c.loop-at.c c.loop-at.at c.loop-at-test.true c.requires.spans c.requires.cuts
      (sym c.span_passed.ensures ∙ c.if-span_passed.false) (sym c.cut_passed.ensures ∙ c.if-cut_passed.false) c.letter_of-letter.ensures c.in-Ok.ensures.items c.loop-at.invariant.same;
}

pub returns : goal.returns
returns c = letters_all (letters_from c.args.literals.now c.args.cuts.now 0 c.args.bytes.now) c.loop-at.out.items
    (drop c.loop-at.k c.args.literals.now) (drop c.loop-at.c c.args.cuts.now) c.args.bytes.now c.loop-at.at c.loop-at-test.false c.loop-at.invariant.same
