-- A page that is held: its text, paired, as it is read for itself and as it is included.
use Rattle.wiki_markup.specs.Nodes.{Marked}

pub record Entry : Type 0 where
  pub direct : Marked
  pub transcluded : Marked
