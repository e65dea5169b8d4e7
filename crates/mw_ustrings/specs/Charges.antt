-- WHAT IS TAKEN FROM THE STEPS THAT ARE LEFT, where memory may run out before: so many of them; or fewer are left, and none stays.
use Rattle.std.specs.Prelude.{ℕ, Result, Ok, Err}
use Rattle.lua_number.specs.WkBaseDeclaredLeftLeft.{Left}
use Rattle.mw_frame_texts.specs.LuaBasicDeclaredStopStop.{Stop}
use Rattle.mw_frame_texts.specs.LuaBasicDeclaredStopStopTheVariants as stop
use Rattle.mw_frame_texts.specs.MwFramesCosts.{Took, Unpaid}

abbrev pub UnpaidInMemory : ℕ → Left → Left → Stop → Type 0
UnpaidInMemory n l m stop.NoMemory = Unit {0}
UnpaidInMemory n l m e = Unpaid n l m e

abbrev pub PaysInMemory : {A : Type 0} → ℕ → Left → Left → Result A Stop → Type 0
PaysInMemory n l m (Ok a) = Took n l m
PaysInMemory n l m (Err e) = UnpaidInMemory n l m e
