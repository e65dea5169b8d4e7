use Rattle.std.proofs.Common.{◌≡◌, ℕ, List, Ok, length}
use Rattle.mw_text.specs.LuaStringDeclaredReplacingCaptureText.{CaptureText}
use Rattle.mw_text.specs.LuaStringReplacements.{replaced_of}
use Rattle.lua_gsubs.proofs.filling.stands_for_itself.Given as goal

abbrev pub StandsForItself : List ℕ → Type 0
StandsForItself bytes = (whole : List ℕ) (captures : List CaptureText) → replaced_of whole captures bytes ≡ Ok bytes

-- where what is left stands for itself, the whole does
abbrev pub invariant-bytes : goal.invariant-bytes
invariant-bytes l = StandsForItself l.left → StandsForItself l.replacement

abbrev pub decreases-bytes : goal.decreases-bytes
decreases-bytes l = length l.left
