use Rattle.std.proofs.Common.{◌∙◌, ap}
use Rattle.wiki_markup.specs.declared.marked.Mode.TheVariants.{Direct}
use Rattle.wiki_markup.specs.Shown.{shown_of}
use Rattle.wiki_markup.specs.Trees.{pairing}
use Rattle.wiki_pages.specs.ExpandMeaningPlaces.{trees_at}
use Rattle.expand_texts.proofs.ExpandMeaningReadLaws.{pairing_back}
use Rattle.page_ground.proofs.scenes.read_text.Goals as goal

pub returns : goal.returns
returns c =
    ap (trees_at 0) c.in_ok-marked.ensures.paired ∙ pairing_back c.in_ok-shown_text.shown_text
    ∙ ap pairing (c.in_ok-shown_text.ensures.shown ∙ ap (shown_of Direct) c.as_slice.ensures)
