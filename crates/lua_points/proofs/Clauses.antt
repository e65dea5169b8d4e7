-- The clauses of a machine's calls, from the laws of points.
use Rattle.std.proofs.Common.{◌≡◌, ℕ, Some, refl, subst}
use Rattle.page_run.specs.WkBaseDeclaredLeftLeft.{Left}
use Rattle.page_run.specs.State.{Tally, no_tally}
use Rattle.lua_heap.specs.Proc.{Proc, proc_names}
use Rattle.lua_heap.specs.Heap.{Heap, Ref, look}
use Rattle.lua_heap.specs.Reach.{Frame, Own}
use Rattle.lua_goes.specs.LuaSlotsCode.{CWorld}
use Rattle.lua_goes.specs.LuaSlotsSlots.{Slots}
use Rattle.lua_goes.specs.LuaSlotsPoints.{Point}
use Rattle.lua_goes.specs.Going.{Stop, Over, Lacks, Waiting, heap_at, Comes}
use Rattle.lua_goes.proofs.Events.{comes_to_an_event}
use Rattle.lua_points.specs.Laws.{roots_at, event_telling}
use Rattle.lua_points.specs.Clauses.{fund, ClauseOfStart, ClauseOfAnswer, ClausesOfGo, GoCanBe}
use Rattle.lua_points.proofs.Starts.{start_is_at}
use Rattle.lua_points.proofs.Answers.{answer_is_at}
use Rattle.lua_points.proofs.Tallies.{tally_is_carried, nothing_told}
use Rattle.lua_points.proofs.Calls.{call_is_met, others_stay, unowned_stays_, reach_stays}

pub clause_of_start : ClauseOfStart
clause_of_start code work globals strings before t i world agrees first = start_is_at code world agrees work first globals strings before t i

pub clause_of_answer : ClauseOfAnswer
clause_of_answer code q fs s a o S K world work first given f at told l inner = answer_is_at code S K world work first given q fs s f at a l inner o told

-- an event that is told more is the same in the store
pub heap-told : (told : Tally) (e : Stop) → heap_at (event_telling told e) ≡ heap_at e
heap-told told (Over o s f) = refl
heap-told told (Lacks w t f) = refl
heap-told told (Waiting q fs s f) = refl

own-told : (told : Tally) (e : Stop) (r : Ref) → Own proc_names (heap_at e) (roots_at e) r → Own proc_names (heap_at (event_telling told e)) (roots_at (event_telling told e)) r
own-told told (Over o s f) r own = own
own-told told (Lacks w t f) r own = own
own-told told (Waiting q fs s f) r own = own

module _ (code : CWorld) (point : Point) (s : Slots) (left : Left) (calls : ℕ) (e : Stop) (c : Comes code point s (fund left calls no_tally) e) where
  carried : (told : Tally) → Comes code point s (fund left calls told) (event_telling told e)
  carried told = subst (λ t. Comes code point s (fund left calls t) (event_telling told e)) (nothing_told told) (tally_is_carried code point s (fund left calls no_tally) e told c)

pub clauses_of_go : ClausesOfGo
clauses_of_go code point s left calls e k c =
    let more = carried code point s left calls e c in
    let f = fund left calls k.0 in
    record {
      goes_to = λ S world work first given told at. call_is_met code S world work first given point s (fund left calls told) at (event_telling told e) (more told);
      keeps_to = λ T own i. subst (λ (h : Heap Proc). Frame T s.heap h) (heap-told k.0 e) (others_stay code point s f k.1 (event_telling k.0 e) (more k.0) T own i);
      leaves_unowned = λ r b l n. subst (λ (h : Heap Proc). look h r ≡ Some b) (heap-told k.0 e) (unowned_stays_ code point s f k.1 (event_telling k.0 e) (more k.0) r b l n);
      reaches_no_more = λ r b l own. reach_stays code point s f k.1 (event_telling k.0 e) (more k.0) r b l (own-told k.0 e r own);
    }

pub go_can_be : GoCanBe
go_can_be code point s left calls k = let e = comes_to_an_event code point s (fund left calls no_tally) in (e.0, clauses_of_go code point s left calls e.0 k e.1)
