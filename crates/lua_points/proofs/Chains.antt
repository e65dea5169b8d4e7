-- THE LAWS COMPOSE: a machine starts and goes on to a question; others go on outside of its set; it is answered, and goes on. What it
-- comes to is what the meaning comes to with that reply.
use Rattle.std.proofs.Common.{◌≡◌, ℕ, List, [], ◌∷◌, Some, IsTrue}
use Rattle.page_run.specs.WkBaseDeclaredLeftLeft.{Left}
use Rattle.page_run.specs.Outcome.{Outcome}
use Rattle.page_run.specs.State.{Tally}
use Rattle.lua_goes.specs.MwFrameDeclaredQuestionAsk.{Ask}
use Rattle.lua_heap.specs.Proc.{Proc}
use Rattle.lua_heap.specs.Value.{Value}
use Rattle.lua_heap.specs.Heap.{Heap, Ref, Obj, look}
use Rattle.lua_heap.specs.Reach.{Set, nowhere, union, with_new}
use Rattle.lua_agree.specs.LuaMeaningQuestions.{Answer}
use Rattle.lua_goes.specs.LuaMeaningActs.{Jump}
use Rattle.lua_agree.specs.LuaMeaningWorld.{World}
use Rattle.lua_agree.specs.LuaMeaningStart.{Work}
use Rattle.lua_goes.specs.LuaSlotsCode.{CWorld}
use Rattle.lua_agree.specs.LuaSlotsIsCode.{Agrees}
use Rattle.lua_goes.specs.LuaSlotsSlots.{Slots, with_heap}
use Rattle.lua_goes.specs.LuaSlotsPoints.{SFrame, Gives, Asking, Works}
use Rattle.lua_goes.specs.LuaSlotsEnact.{Funds, funds, replied}
use Rattle.lua_goes.specs.Going.{Stop, Waiting, Comes}
use Rattle.lua_points.specs.At.{Gone}
use Rattle.lua_points.specs.Told.{IsHome, slots_at_start, reply, IsToldAs}
use Rattle.lua_points.proofs.Points.{at-frame}
use Rattle.lua_points.proofs.Calls.{call_is_met}
use Rattle.lua_points.proofs.Starts.{start_is_at}
use Rattle.lua_points.proofs.Answers.{answer_is_at}

-- what the machine has after it started and went on to its question
abbrev own_set : Heap Proc → Heap Proc → Heap Proc → Set
own_set s t u = with_new (with_new nowhere s t) t u

pub answered : (code : CWorld) (world : World) → Agrees world code → (work : Work) (first : Left) (globals strings : ℕ) (s t : Heap Proc) → IsHome code globals strings s t
    → (q : Ask) (fs : List SFrame) (u : Slots) (g : Funds) → Comes code (Works work) (slots_at_start t globals strings) (funds first) (Waiting q fs u g)
    → (v : Heap Proc) → ((r : Ref) (o : Obj Proc) → IsTrue (own_set s t u.heap r) → look u.heap r ≡ Some o → look v r ≡ Some o)
    → (K : Set) (a : Answer) (l : Left) (told : Tally) (o : Outcome (List Value) Jump) → IsToldAs K (own_set s t u.heap) v a o
    → (e : Stop) → Comes code (Gives o fs) (with_heap v u) (replied (reply a l told) g) e
    → Gone code (union (own_set s t u.heap) K) world work first (reply a l told ∷ []) v e
answered code world agrees work first globals strings s t h q fs u g c v same K a l told o x e d =
    let mine : Set = own_set s t u.heap in
    let at_start = start_is_at code world agrees work first globals strings s t h in
    let went = call_is_met code (with_new nowhere s t) world work first [] (Works work) (slots_at_start t globals strings) (funds first) at_start (Waiting q fs u g) c in
    let waits = at-frame code mine world work first [] (Asking q fs) u g went.event v same in
    let told_ = answer_is_at code mine K world work first [] q fs (with_heap v u) g waits a l told o x in
    call_is_met code (union mine K) world work first (reply a l told ∷ []) (Gives o fs) (with_heap v u) (replied (reply a l told) g) told_ e d
