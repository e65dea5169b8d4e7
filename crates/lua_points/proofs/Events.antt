-- WHAT A RUN DOES NEXT where a machine stands at a question, or at its end.
use Rattle.std.proofs.Common.{◌≡◌, ℕ, ◌+◌, List, [], ◌∷◌, ◌++◌, Option, refl, sym, ◌∙◌, ap, arith}
use Rattle.page_run.specs.Run.{Ends, Asks}
use Rattle.page_run.specs.Outcome.{Outcome}
use Rattle.page_run.specs.State.{Reply, Event, Ended}
use Rattle.page_run.specs.Perform.{wait, NoRise}
use Rattle.page_run.proofs.Enough.{perform-Ends}
use Rattle.lua_goes.specs.MwFrameDeclaredQuestionAsk.{Ask}
use Rattle.lua_agree.specs.LuaSyntaxTree.{Exp}
use Rattle.lua_heap.specs.Value.{Value}
use Rattle.lua_heap.specs.Related.{Map}
use Rattle.lua_agree.specs.LuaMeaningQuestions.{Answer}
use Rattle.lua_goes.specs.LuaMeaningActs.{Jump, State, LuaRun}
use Rattle.lua_agree.specs.LuaMeaningWorld.{World}
use Rattle.lua_agree.specs.LuaMeaningThings.{meaning_of}
use Rattle.lua_agree.specs.LuaMeaningScope.{Scope}
use Rattle.lua_agree.specs.LuaMeaningWaiting.{receive}
use Rattle.lua_goes.specs.LuaSlotsCode.{CExp, CWorld}
use Rattle.lua_goes.specs.LuaSlotsSlots.{Activation}
use Rattle.lua_goes.specs.LuaSlotsPoints.{SFrame, Gives, Asking}
use Rattle.lua_goes.specs.LuaSlotsEnact.{Funds, all_given_back}
use Rattle.lua_agree.specs.Variables.{Var}
use Rattle.lua_agree.specs.Values.{SameOutcome}
use Rattle.lua_agree.specs.Rests.{After, SameRest, at_end, SameEnd, ends_block, ends_body, ends_while, ends_repeat, ends_count, ends_each}
use Rattle.lua_agree.specs.Agree.{SamePoint, gives, jumps, ends, asks}
use Rattle.lua_agree.specs.Met.{state_of, moment_with, comes_to}

pub append-none : (xs : List (Reply Answer)) → xs ++ [] ≡ xs
append-none [] = refl
append-none (x ∷ xs) = ap (λ ys. x ∷ ys) (append-none xs)

pub append-one : (xs : List (Reply Answer)) (x : Reply Answer) (ys : List (Reply Answer)) → (xs ++ x ∷ []) ++ ys ≡ xs ++ x ∷ ys
append-one [] x ys = refl
append-one (z ∷ xs) x ys = ap (λ us. z ∷ us) (append-one xs x ys)

-- replies are given: none is computed
pub no-replies : NoRise {Q = Ask} {A = Answer} wait
no-replies q l r e = cc

-- A QUESTION
pub asked-point : {code : CWorld} {m : Map} {vars : List Var} {fns : List Activation} {p : LuaRun} {q : Ask} {fs : List SFrame} → SamePoint code m vars fns p (Asking q fs)
    → (k : After (List Value)) × (p ≡ Asks q (λ a. receive a k)) × SameRest code m vars fns k fs
asked-point (asks q k fs g) = (k, refl, g)

-- AN END: no block is in progress, so the run has ended
end-some : {code : CWorld} {A : Type 0} {m : Map} {vars : List Var} {fns : List Activation} {t : Option (Exp × CExp)} {k : After Scope} {fs : List SFrame} → SameEnd code m t vars fns k fs → fs ≡ [] → A
end-some (ends_block vars all fns depth scope k fs p0 p1 p2) e = cc
end-some (ends_body vars all a fns k fs p0 p1 p2 p3) e = cc
end-some (ends_while vars all fns c d b d' depth see scope k fs p0 p1 p2 p3 p4 p5) e = cc
end-some (ends_repeat vars all fns b c x d depth see scope k fs p0 p1 p2 p3 p4) e = cc
end-some (ends_count vars all fns x boxed index limit step b c depth see scope k fs p0 p1 p2 p3 p4) e = cc
end-some (ends_each vars all fns names flags f g t u p q b c line depth see scope k fs p0 p1 p2 p3 p4 p5 p6 p7 p8) e = cc

rest-end : {code : CWorld} {m : Map} {vars : List Var} {fns : List Activation} {k : After (List Value)} → SameRest code m vars fns k [] → (o : Outcome (List Value) Jump) → k o ≡ Ends o
rest-end (at_end vars fns a b) o = refl

pub ended-point : {code : CWorld} {m : Map} {vars : List Var} {fns : List Activation} {p : LuaRun} {o' : Outcome (List Value) Jump} → SamePoint code m vars fns p (Gives o' [])
    → (o : Outcome (List Value) Jump) × (p ≡ Ends o) × SameOutcome m o o'
ended-point (gives o o' k _ e g) = (o, rest-end g o, e)
ended-point (jumps tail j j' k _ e g) = end-some g refl
ended-point (ends tail see scope k _ x i g) = end-some g refl

pub end-comes : (world : World) (o : Outcome (List Value) Jump) (h : State) (f : Funds) (later : List (Reply Answer)) → comes_to world (Ends o) h f later ≡ Ended o (moment_with h (all_given_back f))
end-comes world o h f later = perform-Ends (meaning_of world) wait no-replies o (state_of h f later)

-- an ended run comes to the same when its calls are given back already
pub end-is-back : (world : World) (p : LuaRun) (o : Outcome (List Value) Jump) (h : State) (f : Funds) (later : List (Reply Answer)) → p ≡ Ends o → comes_to world p h f later ≡ comes_to world p h (all_given_back f) later
end-is-back world p o h f later e =
    ap (λ x. comes_to world x h f later) e
    ∙ end-comes world o h f later
    ∙ ap (λ n. ended n) (nothing-more f.left.calls f.in_progress)
    ∙ sym (end-comes world o h (all_given_back f) later)
    ∙ sym (ap (λ x. comes_to world x h (all_given_back f) later) e)
  where
    ended : ℕ → Event State Ask (Outcome (List Value) Jump)
    ended n = Ended o (record { heap = h; left = record f.left { calls = n }; in_progress = 0; tally = f.tally })

    nothing-more : (a b : ℕ) → a + b ≡ a + b + 0
    nothing-more a b = omega arith
