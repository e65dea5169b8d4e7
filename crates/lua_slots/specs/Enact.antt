-- WHAT A MOVE COMES TO, with what is left of the allowances: its charges are taken one by one, and then the machine stands at the
-- next point; or an allowance is spent, and the calls in progress are given back.
use Rattle.std.specs.Prelude.{ℕ, zero, suc, ◌+◌, max, true, List, [], ◌∷◌, Option, Some, None}
use Rattle.lua_meaning.specs.WkBaseDeclaredLeftLeft.{Left}
use Rattle.lua_meaning.specs.PageRunDeclaredWhichWhich.{Which}
use Rattle.lua_meaning.specs.PageRunDeclaredWhichWhichTheVariants.{Steps, Calls}
use Rattle.lua_meaning.specs.PageRunOutcome.{Goes, Jumps}
use Rattle.lua_meaning.specs.PageRunState.{Tally, no_tally, join as join_tally, Response, Gives as Says, Exhausts, Reply}
use Rattle.lua_meaning.specs.PageRunPerform.{less}
use Rattle.lua_meaning.specs.LuaHeapValue.{Text}
use Rattle.lua_meaning.specs.LuaHeapGraph.{join, joined_root}
use Rattle.lua_meaning.specs.Questions.{Answer, Expanded, NoPage, Loaded, LoadFailed}
use Rattle.lua_meaning.specs.Acts.{Raised}
use Rattle.lua_slots.specs.Slots.{Slots, with_heap}
use Rattle.lua_slots.specs.Points.{SFrame, Point, Gives, Move, Costs, Marks, Enters, Exits, Now}

-- what is left, the calls in progress, and what is told of the run
pub record Funds : Type 0 where
  pub left : Left
  pub in_progress : ℕ
  pub tally : Tally

-- those with which a run begins
abbrev pub funds : Left → Funds
funds left = record { left = left; in_progress = 0; tally = no_tally }

abbrev pub all_given_back : Funds → Funds
all_given_back f = record { left = record f.left { calls = f.left.calls + f.in_progress }; in_progress = 0; tally = f.tally }

-- A machine stands at a point; or an allowance is spent, and of what the machine held nothing is said
pub data Enacted : Type 0 where
  Stands : (point : Point) (slots : Slots) (funds : Funds) → Enacted
  Short : (which : Which) (funds : Funds) → Enacted

-- STEPS that are taken, where they are there
abbrev pub paid : Option ℕ → Funds → (Funds → Enacted) → Enacted
paid (Some rest) f go = go record f { left = record f.left { steps = rest } }
paid None f go = Short Steps (all_given_back record f { left = record f.left { steps = 0 } })

abbrev pub marked : Funds → Funds
marked f = record f { tally = record f.tally { nodes = f.tally.nodes + 1 } }

-- CALLS that are entered, where one is left, and given back
abbrev pub called : ℕ → Funds → Funds
called rest f = record {
  left = record f.left { calls = rest };
  in_progress = f.in_progress + 1;
  tally = record f.tally { height = max f.tally.height (f.in_progress + 1) };
}

abbrev pub calling : Option ℕ → Funds → (Funds → Enacted) → Enacted
calling (Some rest) f go = go (called rest f)
calling None f go = Short Calls (all_given_back f)

abbrev pub back : ℕ → Funds → Funds
back zero f = f
back (suc rest) f = record f { left = record f.left { calls = f.left.calls + 1 }; in_progress = rest }

-- A MOVE
abbrev pub enact : Move → Funds → Enacted
enact (Now point s) f = Stands point s f
enact (Costs n mv) f = paid (less n f.left.steps) f (enact mv)
enact (Marks mv) f = enact mv (marked f)
enact (Enters mv) f = calling (less 1 f.left.calls) f (enact mv)
enact (Exits mv) f = enact mv (back f.in_progress f)

-- A REPLY to the question at which these frames wait: what is left after it; and its answer, as an outcome, or that the run is spent
abbrev pub replied : Reply Answer → Funds → Funds
replied r f = record { left = r.left; in_progress = f.in_progress; tally = join_tally f.in_progress f.tally r.tally }

abbrev pub answered : Answer → List SFrame → Slots → Funds → Enacted
answered (Expanded text) fs s f = Stands (Gives (Goes (Text text ∷ [])) fs) s f
answered NoPage fs s f = Stands (Gives (Goes []) fs) s f
answered (Loaded graph) fs s f = Stands (Gives (Goes (joined_root s.heap ∷ [])) fs) (with_heap (join true graph s.heap) s) f
answered (LoadFailed message) fs s f = Stands (Gives (Jumps (Raised (Text message))) fs) s f

abbrev pub after_response : Response Answer → List SFrame → Slots → Funds → Enacted
after_response (Says a) fs s f = answered a fs s f
after_response (Exhausts which) fs s f = Short which (all_given_back f)

abbrev pub takes_reply : Reply Answer → List SFrame → Slots → Funds → Enacted
takes_reply r fs s f = after_response r.response fs s (replied r f)
