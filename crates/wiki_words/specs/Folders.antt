-- Pages of a folder that are asked for.
use Rattle.std.specs.Prelude.{ℕ, List}
use Rattle.wiki_words.specs.declared.command.Asked.{Asked}

pub record FolderPages : Type 0 where
  pub folder : List ℕ
  pub asked : Asked
