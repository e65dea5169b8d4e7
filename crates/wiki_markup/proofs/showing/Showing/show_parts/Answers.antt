use Rattle.std.proofs.Common.{◌-◌, suc, arith, refl, drop, take, length}
use Rattle.wiki_markup.proofs.ScanLaws.{parts_none, parts_last, parts_more}
use Rattle.wiki_markup.proofs.showing.Showing.show_parts.Goals as goal

pub parts-init : goal.parts-init
parts-init c = record {
  inside = omega arith;
  same = (suc (length c.args.text.now), omega arith, refl);
}

pub returns-in_default : goal.returns-in_default
returns-in_default c = parts_none c.args.mode c.parts.invariant.same.0 (length c.args.text.now - c.parts.at) (drop c.parts.at c.args.text.now) _ c.parts.self c.cut.new.self
    c.parts.invariant.same.1 c.parts.invariant.same.2 c.in_ok-cut.ensures c.in_default.ensures.same

pub returns-in_default-find_closing : goal.returns-in_default-find_closing
returns-in_default-find_closing c = parts_last c.args.mode c.parts.invariant.same.0 (length c.args.text.now - c.parts.at) (drop c.parts.at c.args.text.now) (drop c.in-Some.from c.args.text.now) (take (length c.args.text.now - c.in-Some.from) (drop c.in-Some.from c.args.text.now))
    _ c.parts.self c.cut.new.self c.show_pieces.new.self c.parts.invariant.same.1 c.parts.invariant.same.2 c.in_ok-cut.ensures c.in-Some.ensures.same c.in_default-find_closing.ensures.same
    c.in_default-find_closing.ensures.front c.in_ok-show_pieces.ensures

pub parts-preserved : goal.parts-preserved
parts-preserved c = record {
  inside = c.in-Some-find_closing.ensures.inside;
  same = parts_more c.args.mode c.parts.invariant.same.0 c.args.text.now (drop c.in-Some.from c.args.text.now) (take (c.in-Some-find_closing.tag.start - c.in-Some.from) (drop c.in-Some.from c.args.text.now))
      c.parts.at c.in-Some-find_closing.tag.end _ c.parts.self c.cut.new.self c.show_pieces-in-parts.new.self
      c.parts.invariant.same.1 c.parts.invariant.same.2 c.in_ok-cut.ensures c.in-Some.ensures.same c.in-Some-find_closing.ensures.same c.in-Some-find_closing.ensures.front
      c.in_ok-show_pieces-2.ensures (omega (arith, c.in-Some.ensures.ahead, c.in-Some-find_closing.ensures.ahead, c.in-Some-find_closing.ensures.some)) c.in-Some-find_closing.ensures.inside;
}
