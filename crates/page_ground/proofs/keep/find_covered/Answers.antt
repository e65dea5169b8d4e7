use Rattle.std.proofs.Common.{inl, inr, arith}
use Rattle.page_ground.proofs.KeepLaws.{finds_none, finds_short, kept_found, nothing_found}
use Rattle.page_ground.proofs.keep.find_covered.Goals as goal

pub returns-in-None : goal.returns-in-None
returns-in-None c = finds_none c.args.keep.now c.args.title.now c.args.left.now (nothing_found _ _ c.find.ensures c.in-None.is)

pub returns-then-left-kept : goal.returns-then-left-kept
returns-then-left-kept c = finds_short c.args.keep.now c.args.title.now c.args.left.now c.in-Some.kept.now (kept_found _ _ _ c.find.ensures c.in-Some.is) (inl c.if-left-kept.true)

pub returns-then-left-kept-2 : goal.returns-then-left-kept-2
returns-then-left-kept-2 c = finds_short c.args.keep.now c.args.title.now c.args.left.now c.in-Some.kept.now (kept_found _ _ _ c.find.ensures c.in-Some.is) (inr c.if-left-kept-2.true)

pub returns-else-left-kept-2 : goal.returns-else-left-kept-2
returns-else-left-kept-2 c = (kept_found _ _ _ c.find.ensures c.in-Some.is, omega (arith, c.if-left-kept.false), omega (arith, c.if-left-kept-2.false))
