-- From events to what a run comes to: one case for each event, whatever the language has.
use Rattle.std.proofs.Common.{◌≡◌, ℕ, zero, suc, List, Option, Some, None, refl, ◌∙◌, ap}
use Rattle.lua_slots.specs.PageRunOutcome.{Outcome}
use Rattle.lua_slots.specs.PageRunState.{Reply, Event}
use Rattle.lua_slots.specs.PageRunPerform.{less, give_back, perform, wait, with_steps, with_call, NoRise}
use Rattle.lua_library_agree.proofs.PageRunEnough.{perform-Takes, perform-Counts, perform-Notes, perform-Sees, perform-Changes, perform-Calls, perform-Leaves, perform-Begins}
use Rattle.lua_library_agree.specs.MwFrameDeclaredQuestionAsk.{Ask}
use Rattle.lua_heap.specs.Value.{Value}
use Rattle.lua_slots.specs.LuaMeaningQuestions.{Answer}
use Rattle.lua_slots.specs.LuaMeaningActs.{Jump, State, LuaRun}
use Rattle.lua_slots.specs.LuaMeaningWorld.{World}
use Rattle.lua_library_agree.specs.LuaMeaningThings.{meaning_of}
use Rattle.lua_slots.specs.Code.{CWorld}
use Rattle.lua_slots.specs.Points.{Move}
use Rattle.lua_slots.specs.Enact as money
use Rattle.lua_slots.specs.Enact.{Funds, Enacted, Stands, Short, paid, calling, called, marked, enact}
use Rattle.lua_agree.specs.Agree.{Base}
use Rattle.lua_agree.specs.Laws.{NextIsMet}
use Rattle.lua_agree.specs.Follows.{Follows, takes, counts, calls, leaves, notes, sees, changes, begins, now}
use Rattle.lua_agree.specs.Met.{state_of, comes_to, Met, goes_to, is_spent}
use Rattle.lua_agree.proofs.Moves.{goes_on}

no-replies : NoRise {Q = Ask} {A = Answer} wait
no-replies q l r e = cc

module _ (world : World) (code : CWorld) (B : Base) where
  abbrev Past : Type 0
  Past = List (Reply Answer) → Event State Ask (Outcome (List Value) Jump)

  met-from : (past past' : Past) (e : Enacted) → ((replies : List (Reply Answer)) → past' replies ≡ past replies) → Met world code B past e → Met world code B past' e
  met-from past past' _ q (goes_to m vars p h point s f r x e) = goes_to m vars p h point s f r x (λ replies. q replies ∙ e replies)
  met-from past past' _ q (is_spent h w f e) = is_spent h w f (λ replies. q replies ∙ e replies)

  -- a charge that is covered, or not
  pays : (o : Option ℕ) (p : LuaRun) (h : State) (mv : Move) (f : Funds) → ((g : Funds) → Met world code B (comes_to world p h g) (enact mv g))
      → Met world code B (λ replies. with_steps o (state_of h f replies) (perform (meaning_of world) wait p)) (paid o f (enact mv))
  pays (Some rest) p h mv f go = go record f { left = record f.left { steps = rest } }
  pays None p h mv f go = is_spent h _ _ (λ replies. refl)

  enters : (o : Option ℕ) (p : LuaRun) (h : State) (mv : Move) (f : Funds) → ((g : Funds) → Met world code B (comes_to world p h g) (enact mv g))
      → Met world code B (λ replies. with_call o (state_of h f replies) (perform (meaning_of world) wait p)) (calling o f (enact mv))
  enters (Some rest) p h mv f go = go (called rest f)
  enters None p h mv f go = is_spent h _ _ (λ replies. refl)

  one-back : (n : ℕ) (h : State) (f : Funds) (replies : List (Reply Answer)) → give_back n (state_of h f replies) ≡ state_of h (money.back n f) replies
  one-back zero h f replies = refl
  one-back (suc n) h f replies = refl

  pub leads : {p : LuaRun} {h : State} {mv : Move} → Follows world code B p h mv → (f : Funds) → Met world code B (comes_to world p h f) (enact mv f)
  leads (takes n p h mv x) f = met-from _ _ _ (λ replies. perform-Takes (meaning_of world) wait no-replies n p (state_of h f replies)) (pays (less n f.left.steps) p h mv f (λ g. leads x g))
  leads (counts p h mv x) f = met-from _ _ _ (λ replies. perform-Counts (meaning_of world) wait no-replies p (state_of h f replies)) (leads x (marked f))
  leads (calls p h mv x) f = met-from _ _ _ (λ replies. perform-Calls (meaning_of world) wait no-replies p (state_of h f replies)) (enters (less 1 f.left.calls) p h mv f (λ g. leads x g))
  leads (leaves p h mv x) f =
      met-from _ _ _ (λ replies. perform-Leaves (meaning_of world) wait no-replies p (state_of h f replies) ∙ ap (perform (meaning_of world) wait p) (one-back f.in_progress h f replies)) (leads x (money.back f.in_progress f))
  leads (notes source name p h mv x) f = met-from _ _ _ (λ replies. perform-Notes (meaning_of world) wait no-replies source name p (state_of h f replies)) (leads x f)
  leads (sees q h mv x) f = met-from _ _ _ (λ replies. perform-Sees (meaning_of world) wait no-replies q (state_of h f replies)) (leads x f)
  leads (changes i p h mv x) f = met-from _ _ _ (λ replies. perform-Changes (meaning_of world) wait no-replies i p (state_of h f replies)) (leads x f)
  leads (begins t k h mv x) f = met-from _ _ _ (λ replies. perform-Begins (meaning_of world) wait no-replies t k (state_of h f replies)) (pays (less 1 f.left.steps) (meaning_of world t k) h mv f (λ g. leads x g))
  leads (now m vars p h point s r x) f = goes_to m vars p h point s f r x (λ replies. refl)

pub next_is_met : NextIsMet
next_is_met world code a B m vars p h point s f r x = leads world code B (goes_on world code a B m vars p h point s r x) f
