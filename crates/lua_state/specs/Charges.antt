-- CHARGES in code: a call entered and left, and steps taken, as `lua_slots` enacts them, whatever move stands behind.
use Rattle.std.specs.Prelude.{◌≡◌, ℕ, Bool, true, false}
use Rattle.mw_frames.specs.WkBaseDeclaredLeftLeft.{Left}
use Rattle.lua_arms.specs.PageRunState.{Tally}
use Rattle.lua_titled.specs.PageRunDeclaredWhichWhichTheVariants as which
use Rattle.lua_goes.specs.LuaSlotsPoints.{Move, Costs, Enters, Exits}
use Rattle.lua_code.specs.LuaSlotsEnact.{all_given_back, Short, enact}
use Rattle.lua_state.specs.declared.state.State.{State}
use Rattle.lua_state.specs.Seen.{funds_of}

-- so many steps are taken, or are not there
abbrev pub Pays : ℕ → Left → Left → Bool → Type 0
Pays n l l' true = (m : State) (mv : Move) (told : Tally) (i : ℕ) → enact (Costs n mv) (funds_of l m told i) ≡ enact mv (funds_of l' m told i)
Pays n l l' false = (m : State) (mv : Move) (told : Tally) (i : ℕ) → enact (Costs n mv) (funds_of l m told i) ≡ Short which.Steps (all_given_back (funds_of l' m told i))

-- a call is entered, or none is left
abbrev pub EntersCall : State → Left → State → Left → Bool → Type 0
EntersCall m l m' l' true = (mv : Move) (told : Tally) (i : ℕ) → enact (Enters mv) (funds_of l m told i) ≡ enact mv (funds_of l' m' told i)
EntersCall m l m' l' false = (mv : Move) (told : Tally) (i : ℕ) → enact (Enters mv) (funds_of l m told i) ≡ Short which.Calls (all_given_back (funds_of l' m' told i))

-- one that was entered is left
abbrev pub LeavesCall : State → Left → State → Left → Type 0
LeavesCall m l m' l' = (mv : Move) (told : Tally) (i : ℕ) → enact (Exits mv) (funds_of l m told i) ≡ enact mv (funds_of l' m' told i)
