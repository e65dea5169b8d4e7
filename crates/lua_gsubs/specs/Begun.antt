-- A CALL THAT BEGINS: it answers at once, or asks behind its charge.
use Rattle.std.specs.Prelude.{◌≡◌, ℕ, ◌+◌, Bool, List, Some, Result, Ok, Err}
use Rattle.lua_number.specs.WkBaseDeclaredLeftLeft.{Left}
use Rattle.lua_pattern.specs.declared.item.Item.{Item}
use Rattle.lua_pattern.specs.declared.slots.Slot.{Slot}
use Rattle.lua_pattern.specs.Read.{Read, Fault, Fine}
use Rattle.lua_iterators.specs.LuaHeapProc.{Proc}
use Rattle.lua_iterators.specs.LuaHeapHeap.{Heap}
use Rattle.lua_iterators.specs.LuaMeaningScope.{Bytes}
use Rattle.lua_iterators.specs.LuaMeaningArguments.{fails, with_charge}
use Rattle.lua_replacing.specs.LuaMeaningChecks.{malformed}
use Rattle.lua_replacing.specs.LuaMeaningGsub.{Alphabet, Given, Replacement, ByText, GsubForm, GsubAnswers, GsubAsks, letters, replaced_answer, replaced_from, at_head}
use Rattle.lua_replacing.specs.LuaStoreSeen.{StoreView}
use Rattle.lua_iterators.specs.LuaBasicDeclaredStopStop.{Stop}
use Rattle.lua_iterators.specs.LuaBasicDeclaredStopStopTheVariants as stop
use Rattle.lua_iterators.specs.LuaBasicSeen.{AllOf, Paid, StopOf}
use Rattle.lua_iterators.specs.MwFramesCosts.{Took, Lacked}
use Rattle.lua_replacing.specs.Seen.{job_seen, JobOf}
use Rattle.lua_gsubs.specs.declared.beginning.Begun.{Begun}
use Rattle.lua_gsubs.specs.declared.beginning.Begun.TheVariants as begun

-- THE SAME behind a charge
abbrev pub charged : ℕ → GsubForm Proc → GsubForm Proc
charged n (GsubAnswers p) = GsubAnswers (with_charge n p)
charged n (GsubAsks m job limit) = GsubAsks (n + m) job limit

-- what comes behind the charge of the arguments and of the pattern
abbrev pub free_by : Alphabet → Heap Proc → Bytes → ℕ → Bool → List Item → List Slot → Replacement → GsubForm Proc
free_by a h s limit anchored items slots (ByText r) = GsubAnswers (replaced_answer h (replaced_from (letters a) anchored items slots s r limit 0 (Some at_head)))
free_by a h s limit anchored items slots by = GsubAsks 0 (record { alphabet = a; subject = s; anchored = anchored; items = items; slots = slots; by = by }) limit

abbrev pub free_read : Alphabet → Heap Proc → Given → Read → GsubForm Proc
free_read a h g (Fault fault) = GsubAnswers (fails h (malformed fault))
free_read a h g (Fine anchored items slots) = free_by a h g.subject g.limit anchored items slots g.by

-- THE CALL
abbrev pub IsBegun : GsubForm Proc → StoreView → Left → StoreView → Left → Result Begun Stop → Type 0
IsBegun form s l t m (Err stop.NoMemory) = Unit {0}
IsBegun (GsubAnswers p) s l t m (Ok (begun.Answers vs)) = Paid p s l t m (Ok vs)
IsBegun (GsubAnswers p) s l t m (Err e) = Paid p s l t m (Err e)
IsBegun (GsubAsks n job limit) s l t m (Ok (begun.Asks j k)) = Took n l m × (t.heap ≡ s.heap) × (job ≡ job_seen t.texts j) × (limit ≡ k)
IsBegun (GsubAsks n job limit) s l t m (Err stop.Spent) = Lacked n l m × (t ≡ s)
IsBegun form s l t m r = ⊥

-- what it holds is of the store
abbrev pub BegunOf : StoreView → Result Begun Stop → Type 0
BegunOf s (Ok (begun.Answers vs)) = AllOf s vs
BegunOf s (Ok (begun.Asks j k)) = JobOf s j
BegunOf s (Err e) = StopOf s e
