-- Closed sets and what stands, as the contracts say it.
use Rattle.std.proofs.Common.{List}
use Rattle.lua_heap.specs.Heap.{Ref}
use Rattle.lua_heap.specs.Related.{Map}
use Rattle.lua_heap.specs.SetLaws.{ImageIsClosed, CutStands, StandsInFrame, ClosedStands, ValuesNameTheImage, ValuesAreCut}
use Rattle.lua_heap.proofs.Carried.{values-image}
use Rattle.lua_heap.proofs.Sets.{closed-image, stands-cut, stands-frame, stands-itself, values-cut}

module _ {X Y : Type 0} (R : Map → X → Y → Type 0) (names : Y → List Ref) where
  pub image_is_closed : ImageIsClosed R names
  image_is_closed stand m h s st = closed-image R names stand m h s st

  pub cut_stands : CutStands R names
  cut_stands look_ m S h s st c = stands-cut R names look_ m S h s st c

  pub stands_in_frame : StandsInFrame R names
  stands_in_frame m h s t st f = stands-frame R m h s t st f

pub closed_stands : {X : Type 0} (R : Map → X → X → Type 0) (names : X → List Ref) → ClosedStands R names
closed_stands R names own S s c = stands-itself R names own S s c

pub values_name_the_image : ValuesNameTheImage
values_name_the_image m S f vs ws e = values-image m S f vs ws e

pub values_are_cut : ValuesAreCut
values_are_cut m S vs ws e i = values-cut m S vs ws e i
