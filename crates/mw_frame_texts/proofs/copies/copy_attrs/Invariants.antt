use Rattle.std.proofs.Common.{◌≡◌, take}
use Rattle.mw_text.specs.Tag.{attributes}
use Rattle.mw_frame_texts.specs.Written.{attrs_written}
use Rattle.mw_frame_texts.proofs.copies.copy_attrs.Given as goal

abbrev pub invariant-attrs : goal.invariant-attrs
invariant-attrs l = attributes l.copies ≡ attrs_written (take l.attr-index l.attrs)
