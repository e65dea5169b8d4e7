-- LAWS of a machine that goes on.
use Rattle.std.specs.Prelude.{◌≡◌, ◌≤◌, ◌<◌, ◌+◌, []}
use Rattle.lua_slots.specs.Code.{CWorld}
use Rattle.lua_slots.specs.Slots.{Slots}
use Rattle.lua_slots.specs.Points.{Point, Gives, Asking}
use Rattle.lua_slots.specs.Moves.{moves}
use Rattle.lua_slots.specs.Enact.{Funds, Stands, enact}
use Rattle.lua_slots.specs.Laws.{costs_of}
use Rattle.lua_goes.specs.Weight.{weight, weight_after}
use Rattle.lua_goes.specs.Going.{Stop, Over, Lacks, Waiting, funds_at, Comes}

-- it is not at its end, and does not wait for an answer
abbrev pub GoesOnFrom : Point → Type 0
GoesOnFrom (Gives o []) = ⊥
GoesOnFrom (Asking q fs) = ⊥
GoesOnFrom point = Unit {0}

-- A MOVE WITHOUT CHARGE LOWERS THE WEIGHT.
abbrev pub FreeMovesFall : Type 0
FreeMovesFall = (world : CWorld) (point : Point) (s : Slots) → GoesOnFrom point → costs_of (moves world point s) ≡ 0 → weight_after (moves world point s) < weight point

-- The same of a move that is covered: steps never rise, and where they stay the weight falls.
abbrev pub StepsOrWeightFall : Type 0
StepsOrWeightFall = (world : CWorld) (point : Point) (s : Slots) (f : Funds) (q : Point) (t : Slots) (g : Funds) → GoesOnFrom point → enact (moves world point s) f ≡ Stands q t g
    → (g.left.steps ≤ f.left.steps) × (g.left.steps ≡ f.left.steps → weight q < weight point)

-- SO IT COMES TO AN EVENT, from wherever it stands, whatever is left.
abbrev pub ComesToAnEvent : Type 0
ComesToAnEvent = (world : CWorld) (p : Point) (s : Slots) (f : Funds) → (e : Stop) × Comes world p s f e

-- NODES AND STEPS: up to the event no more nodes, turns and entries are counted than steps are taken, also where the last move is
-- spent half-way; and none that was counted is forgotten.
abbrev pub NodesArePaid : Type 0
NodesArePaid = (world : CWorld) (p : Point) (s : Slots) (f : Funds) (e : Stop) → Comes world p s f e
    → (f.tally.nodes ≤ (funds_at e).tally.nodes) × ((funds_at e).tally.nodes + (funds_at e).left.steps ≤ f.tally.nodes + f.left.steps)

-- CALLS: where it is over or spent none are in progress, and all are given back; where it waits, none are lost.
abbrev pub AreBack : Funds → Stop → Type 0
AreBack f (Over o s g) = (g.left.calls ≡ f.left.calls + f.in_progress) × (g.in_progress ≡ 0)
AreBack f (Lacks w h g) = (g.left.calls ≡ f.left.calls + f.in_progress) × (g.in_progress ≡ 0)
AreBack f (Waiting q fs s g) = g.left.calls + g.in_progress ≡ f.left.calls + f.in_progress

abbrev pub CallsAreBack : Type 0
CallsAreBack = (world : CWorld) (p : Point) (s : Slots) (f : Funds) (e : Stop) → Comes world p s f e → AreBack f e
