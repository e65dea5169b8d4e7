-- What is read of a part.
use Rattle.std.proofs.Common.{◌≡◌, ◌<◌, ◌≤◌, ◌∙◌, arith}
use Rattle.wiki_pages.specs.Forests.{nodes_in, size}
use Rattle.wiki_pages.specs.Constants.{Within}
use Rattle.wiki_pages.specs.declared.forest.Forest.{Forest}
use Rattle.wiki_pages.specs.declared.constants.Constant.{Constant}
use Rattle.wiki_pages.specs.declared.constants.Constant.TheVariants.{Varied, Valueless, Valued}

pub within_more : (c : Constant) (g f : Forest) → nodes_in g.nodes ≡ nodes_in f.nodes → size g < size f → Within c g → Within c f
within_more Varied g f n s w = tt
within_more (Valueless name) g f n s w = tt
within_more (Valued name value) g f n s w = let l : size value ≤ size g = w.1 in (w.0 ∙ n, omega (arith, s, l))
