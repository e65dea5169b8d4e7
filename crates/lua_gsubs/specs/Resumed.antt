-- WHAT WAS GIVEN FOR A MATCH: a piece, which is put behind the text for its bytes, or the message that there is none.
use Rattle.std.specs.Prelude.{◌≡◌, length, Ok, Err}
use Rattle.lua_number.specs.WkBaseDeclaredLeftLeft.{Left}
use Rattle.lua_iterators.specs.LuaMeaningScope.{Bytes}
use Rattle.lua_iterators.specs.LuaMeaningArguments.{Argument}
use Rattle.lua_replacing.specs.LuaMeaningGsub.{with_piece}
use Rattle.lua_iterators.specs.MwFramesCosts.{Took, Lacked}
use Rattle.lua_replacing.specs.declared.far.Far.{Far}
use Rattle.lua_replacing.specs.Seen.{far_seen}
use Rattle.lua_gsubs.specs.declared.resuming.Given.{Given}
use Rattle.lua_gsubs.specs.declared.resuming.Given.TheVariants as given

abbrev pub IsGiven : Argument Bytes → Far → Left → Far → Left → Given → Type 0
IsGiven (Ok piece) f l g m given.Put = Took (length piece) l m × (far_seen g ≡ with_piece (far_seen f) piece)
IsGiven (Ok piece) f l g m given.Spent = Lacked (length piece) l m
IsGiven (Ok piece) f l g m (given.Refused text) = ⊥
IsGiven (Err message) f l g m (given.Refused text) = (text.items ≡ message) × (m ≡ l)
IsGiven (Err message) f l g m given.Put = ⊥
IsGiven (Err message) f l g m given.Spent = ⊥
