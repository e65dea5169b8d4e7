use Rattle.wiki_markup.proofs.ShownSame.{text_decides}
use Rattle.wiki_markup.proofs.marked.ShownText.is_same.Goals as goal

pub returns : goal.returns
returns c =
    let bytes = rw (c.as_slice.ensures, c.as_slice-2.ensures) at c.same_bytes-bytes.ensures in
    let literals = rw (c.as_slice-3.ensures, c.as_slice-4.ensures) at c.same_spans-literals.ensures in
    let cuts = rw (c.as_slice-5.ensures, c.as_slice-6.ensures) at c.same_places-cuts.ensures in
    text_decides c.args.self.now c.args.other.now _ _ _ bytes literals cuts
