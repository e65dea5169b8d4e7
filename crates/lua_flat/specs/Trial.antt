-- SMALL RUNS of a flat machine for worked examples, seen as those of a machine over trees are: how a run ends, and the steps that are left.
use Rattle.std.specs.Prelude.{ℕ, zero, suc, List, [], ◌∷◌, Option, Some, slice_get}
use Rattle.lua_slots.specs.MwFrameDeclaredSceneArg.{Arg}
use Rattle.lua_slots.specs.MwFrameDeclaredQuestionAsk.{Ask}
use Rattle.lua_slots.specs.PageRunOutcome.{Outcome}
use Rattle.lua_slots.specs.PageRunState.{Reply}
use Rattle.lua_slots.specs.LuaHeapValue.{Value}
use Rattle.lua_slots.specs.LuaMeaningActs.{Jump}
use Rattle.lua_slots.specs.LuaMeaningScope.{Bytes}
use Rattle.lua_slots.specs.LuaMeaningQuestions.{Answer}
use Rattle.lua_slots.specs.LuaMeaningStart.{Work, Invoke}
use Rattle.lua_slots.specs.LuaMeaningTrial as seen
use Rattle.lua_slots.specs.LuaMeaningTrial.{Seen, page, job, allowance}
use Rattle.lua_slots.specs.Code.{CModule, CWorld, Protos}
use Rattle.lua_slots.specs.Slots.{no_slots}
use Rattle.lua_slots.specs.Points.{SFrame, Gives, Asking, Works}
use Rattle.lua_slots.specs.Enact.{Funds, funds, takes_reply}
use Rattle.lua_slots.specs.Trial.{seen_end, module_of}
use Rattle.lua_flat.specs.Operations.{FlatFunction, Codes}
use Rattle.lua_flat.specs.Flat.{Act, FlatPoint, Away, Flat}
use Rattle.lua_flat.specs.Moves.{room_in, flat_moves, FlatEnacted, FStands, FShort, flat_enact, replied_in}

-- whether it stops: at its end, or at a question
pub data Halt : Type 0 where
  AtEnd : (outcome : Outcome (List Value) Jump) → Halt
  AtQuestion : (question : Ask) (frames : List SFrame) → Halt
  Nowhere : Halt

abbrev pub halt_of : FlatPoint → List Act → Halt
halt_of (Away (Gives o [])) [] = AtEnd o
halt_of (Away (Asking q fs)) acts = AtQuestion q fs
halt_of point acts = Nowhere

abbrev pub further : Halt → CWorld → Codes → Flat → Funds → List (Reply Answer) → (FlatEnacted → List (Reply Answer) → Seen) → Seen
further (AtEnd o) world codes f g replies go = seen_end o g.left.steps
further (AtQuestion q fs) world codes f g [] go = seen.Asks q g.left.steps
further (AtQuestion q fs) world codes f g (r ∷ replies) go = go (replied_in f (takes_reply r fs f.slots g)) replies
further Nowhere world codes f g replies go = go (flat_enact (flat_moves world codes (room_in codes f.acts f) f) g) replies

-- at most so many moves and replies, one after another
abbrev pub flat_run : ℕ → CWorld → Codes → FlatEnacted → List (Reply Answer) → Seen
flat_run zero world codes e replies = seen.Else
flat_run (suc n) world codes (FShort which g) replies = seen.Spends which g.left.steps
flat_run (suc n) world codes (FStands f g) replies = further (halt_of f.point f.acts) world codes f g replies (λ e rs. flat_run n world codes e rs)

-- where a run begins
abbrev pub flat_start : Work → Flat
flat_start work = record { point = Away (Works work); acts = []; regs = []; top = 0; slots = no_slots }

abbrev pub works_in : (Bytes → Option CModule) → Codes → Work → ℕ → ℕ → List (Reply Answer) → Seen
works_in modules codes work steps calls replies = flat_run 3000 (record { page = page; modules = modules }) codes (FStands (flat_start work) (funds (allowance steps calls))) replies

-- the flat functions of one module, in order
abbrev pub flat_with : List FlatFunction → Codes
flat_with gs title index = slice_get gs index

-- the function `f` of a module is invoked: the module's name, the size of its text, its resolved code, of which the constants are used, its
-- flat functions, and the steps
abbrev pub flat_invoke_with : List Arg → ℕ → Bytes → ℕ → Protos → List FlatFunction → ℕ → Seen
flat_invoke_with args calls name size at gs steps = works_in (λ title. Some (module_of size at)) (flat_with gs) (Invoke (job name args)) steps calls []

abbrev pub flat_invoke : Bytes → ℕ → Protos → List FlatFunction → ℕ → Seen
flat_invoke name size at gs steps = flat_invoke_with [] 20000 name size at gs steps
