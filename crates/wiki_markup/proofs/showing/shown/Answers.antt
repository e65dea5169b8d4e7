use Rattle.std.proofs.Common.{◌≡◌, ◌∙◌, sym, ap, arith, subst, length}
use Rattle.wiki_markup.specs.declared.marked.ShownText.{ShownText}
use Rattle.wiki_markup.specs.Shown.{shown_of, pieces_of}
use Rattle.wiki_markup.specs.Places.{put_pieces}
use Rattle.wiki_markup.specs.Order.{Ordered, Rising}
use Rattle.wiki_markup.proofs.ScanLaws.{shown_all}
use Rattle.wiki_markup.proofs.ShownBounds.{shown_in_order, shown_most}
use Rattle.wiki_markup.proofs.showing.shown.Goals as goal

pub returns : goal.returns
returns c =
    let e : c.into_shown.result ≡ shown_of c.args.mode c.args.text.now = shown_all c.args.mode c.args.text.now c.into_shown.result (c.into_shown.ensures ∙ c.in_ok-show.ensures ∙ ap (put_pieces (pieces_of c.args.mode c.args.text.now)) c.new-showing.ensures) in
    record {
      shown = e;
      spans = (let P : ShownText → Type 0 = λ s. Ordered 0 s.literals in subst P (sym e) (shown_in_order c.args.mode c.args.text.now).0);
      cuts = (let P : ShownText → Type 0 = λ s. Rising 0 s.cuts in subst P (sym e) (shown_in_order c.args.mode c.args.text.now).1);
      few = omega (arith, shown_most c.args.mode c.args.text.now, ap (λ (s : ShownText). length s.bytes) e);
    }
