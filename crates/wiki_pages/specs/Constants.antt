-- What is read of a part, by its trees.
use Rattle.std.specs.Prelude.{◌≡◌, ◌≤◌, Some, None}
use Rattle.wiki_markup.specs.Trees.{Trees}
use Rattle.expand_texts.specs.Ropes.{bytes_of}
use Rattle.expand_texts.specs.ExpandMeaningPlaces.{value_in}
use Rattle.wiki_pages.specs.Forests.{trees_in, size, Amid}
use Rattle.wiki_pages.specs.CaseTables.{constant_name}
use Rattle.wiki_pages.specs.declared.forest.Forest.{Forest}
use Rattle.wiki_pages.specs.declared.constants.Constant.{Constant}
use Rattle.wiki_pages.specs.declared.constants.Constant.TheVariants.{Varied, Valueless, Valued}

abbrev pub Reads : Constant → Trees → Type 0
Reads Varied t = constant_name t ≡ None
Reads (Valueless name) t = (constant_name t ≡ Some (bytes_of name)) × (value_in t ≡ None)
Reads (Valued name value) t = (constant_name t ≡ Some (bytes_of name)) × (value_in t ≡ Some (trees_in value))

-- its value stands among the part's nodes
abbrev pub Within : Constant → Forest → Type 0
Within (Valued name value) f = Amid value f × (size value ≤ size f)
Within _ f = Unit {0}
