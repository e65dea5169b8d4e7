use Rattle.std.proofs.Common.{length, arith, rules}
use Rattle.wiki_markup.proofs.HeldLaws.{text_is, no_text, text_inside}
use Rattle.wiki_markup.proofs.texts.text_at.Goals as goal

pub returns-then-number-ends : goal.returns-then-number-ends
returns-then-number-ends c = no_text c.args.ends.now c.args.bytes.now c.args.number c.if-number-ends.true

pub slice_bounds-result-count : goal.slice_bounds-result-count
slice_bounds-result-count c =
    let parts = text_inside c.args.ends.now (length c.args.bytes.now) c.args.number c.requires (omega arith) in
    omega (arith, c.begin-from.ensures, parts.0, parts.1)

pub slice_bounds-result-start : goal.slice_bounds-result-start
slice_bounds-result-start c =
    let parts = text_inside c.args.ends.now (length c.args.bytes.now) c.args.number c.requires (omega arith) in
    omega (arith, c.begin-from.ensures, parts.0, parts.1)

pub slice_bounds-result-end-2 : goal.slice_bounds-result-end-2
slice_bounds-result-end-2 c =
    let parts = text_inside c.args.ends.now (length c.args.bytes.now) c.args.number c.requires (omega arith) in
    omega (arith, c.begin-from.ensures, parts.0, parts.1)

pub returns : goal.returns
returns c = text_is c.args.ends.now c.args.bytes.now c.args.number _ _ (omega arith) c.begin-from.ensures (search rules)
