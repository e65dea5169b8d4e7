-- A REPLY goes to the frames that wait for it, in both machines; and where no function of Lua is in progress both are at the same point.
use Rattle.std.proofs.Common.{◌≡◌, ℕ, List, [], ◌∷◌, ◌++◌, refl, subst}
use Rattle.std.specs.Prelude.{length}
use Rattle.lua_goes.specs.MwFrameDeclaredQuestionAsk.{Ask}
use Rattle.lua_goes.specs.PageRunOutcome.{Goes, Jumps}
use Rattle.lua_flat.specs.PageRunState.{Response, Gives as Says, Exhausts}
use Rattle.lua_goes.specs.LuaHeapValue.{Text}
use Rattle.lua_flat.specs.LuaMeaningQuestions.{Answer, Expanded, NoPage, Loaded, LoadFailed}
use Rattle.lua_goes.specs.LuaMeaningActs.{Raised}
use Rattle.lua_goes.specs.LuaSlotsCode.{CWorld}
use Rattle.lua_goes.specs.LuaSlotsSlots.{Slot, Activation, Slots, with_heap}
use Rattle.lua_goes.specs.LuaSlotsPoints.{SFrame, Point, Gives, Evals, Lists, Finds, Sets, Runs, Starts, Texts, Asking, Works}
use Rattle.lua_goes.specs.LuaSlotsEnact.{Funds, replied as taken, after_response}
use Rattle.lua_flat.specs.Locals.{Local}
use Rattle.lua_flat.specs.Operations.{FlatFunction, Codes}
use Rattle.lua_flat.specs.Flat.{Act, Away, Flat}
use Rattle.lua_flat.specs.Moves.{replied_in}
use Rattle.lua_flat.specs.Keeps.{Keeps}
use Rattle.lua_flat.specs.Stands.{erased, in_tree, from_code, constants_in, AllAway, IsAwayPoint, below, Within, Awaits, StandsFor, is_away, is_alone, begins_run}
use Rattle.lua_flat_laws.specs.Laws.{AreReplied, AsksToo, QuestionsAreAsked, EndsAreEnds}

same_question : {q q' : Ask} {gs fs : List SFrame} → Asking q gs ≡ Asking q' fs → q ≡ q'
same_question e = cc

same_frames : {q q' : Ask} {gs fs : List SFrame} → Asking q gs ≡ Asking q' fs → gs ≡ fs
same_frames e = cc

-- where none of these functions is in progress
abbrev IsEnd : List Act → Flat → Point → Type 0
IsEnd [] f p = f.point ≡ Away p
IsEnd (a ∷ acts) f p = Unit {0}

module _ (world : CWorld) (codes : Codes) where
  -- the question of this point is that one
  question_is : {f : Flat} {s : Slots} {q q' : Ask} {gs fs : List SFrame} → Asking q gs ≡ Asking q' fs → AsksToo world codes f q gs s → AsksToo world codes f q' fs s
  question_is {f} {s} {q} {q'} {gs} {fs} e a = subst (λ (x : Ask). AsksToo world codes f x fs s) (same_question e) (subst (λ (xs : List SFrame). AsksToo world codes f q xs s) (same_frames e) a)

  -- ABOVE AN OPERATION that waits
  module _ {regs : List Slot} {a : Act} {acts : List Act} {fn : Activation} {fns : List Activation} {g : FlatFunction} {mine theirs : List Slot} {beneath hs fs : List SFrame} {locals : List Local} {low : ℕ} {keeps : Keeps} (top : ℕ) (s : Slots)
      (w : Within world codes regs a acts fn fns g mine theirs beneath locals low keeps) (aw : Awaits (constants_in world fn.source) g (length theirs) beneath locals low keeps a.pc hs fs) where
    abbrev tree : Slots
    tree = in_tree (mine ++ theirs) (fn ∷ fns) s

    abbrev flat : Point → Flat
    flat point = from_code point (a ∷ acts) regs top tree

    replied_above : (q : Ask) (gs : List SFrame) → AllAway gs → (o : Response Answer) (left : Funds) → AreReplied world codes (replied_in (flat (Asking q (gs ++ hs))) (after_response o (gs ++ hs) (erased tree) left)) (after_response o (gs ++ fs) tree left)
    replied_above q gs i (Says (Expanded text)) left = (is_away (Gives (Goes (Text text ∷ [])) gs) s (tt, i) w aw, refl)
    replied_above q gs i (Says NoPage) left = (is_away (Gives (Goes []) gs) s (tt, i) w aw, refl)
    replied_above q gs i (Says (Loaded graph)) left = (is_away (Gives (Goes _) gs) (with_heap _ s) (tt, i) w aw, refl)
    replied_above q gs i (Says (LoadFailed message)) left = (is_away (Gives (Jumps (Raised (Text message))) gs) s (tt, i) w aw, refl)
    replied_above q gs i (Exhausts which) left = (refl, refl)

    asks_above : (point : Point) → IsAwayPoint point → (q : Ask) (xs : List SFrame) → below point fs ≡ Asking q xs → AsksToo world codes (flat (below point hs)) q xs tree
    asks_above (Asking q gs) i q' xs e = question_is e (record { frames = gs ++ hs; asks = refl; replied = λ r left. replied_above q gs i r.response (taken r left) })
    asks_above (Gives o gs) i q' xs e = absurd cc
    asks_above (Evals x gs) i q' xs e = absurd i
    asks_above (Lists es before gs) i q' xs e = absurd i
    asks_above (Finds targets before values gs) i q' xs e = absurd i
    asks_above (Sets pairs gs) i q' xs e = absurd i
    asks_above (Runs b gs) i q' xs e = absurd i
    asks_above (Starts thing gs) i q' xs e = absurd cc
    asks_above (Texts vs before gs) i q' xs e = absurd cc
    asks_above (Works work) i q' xs e = absurd i

  -- WHERE NO FUNCTION OF LUA is in progress
  module _ (regs : List Slot) (top : ℕ) (s : Slots) where
    abbrev alone : Point → Flat
    alone point = from_code point [] regs top (in_tree [] [] s)

    replied_alone : (q : Ask) (gs : List SFrame) → AllAway gs → (o : Response Answer) (left : Funds) → AreReplied world codes (replied_in (alone (Asking q gs)) (after_response o gs (erased (in_tree [] [] s)) left)) (after_response o gs (in_tree [] [] s) left)
    replied_alone q gs i (Says (Expanded text)) left = (is_alone (Gives (Goes (Text text ∷ [])) gs) s (tt, i), refl)
    replied_alone q gs i (Says NoPage) left = (is_alone (Gives (Goes []) gs) s (tt, i), refl)
    replied_alone q gs i (Says (Loaded graph)) left = (is_alone (Gives (Goes _) gs) (with_heap _ s) (tt, i), refl)
    replied_alone q gs i (Says (LoadFailed message)) left = (is_alone (Gives (Jumps (Raised (Text message))) gs) s (tt, i), refl)
    replied_alone q gs i (Exhausts which) left = (refl, refl)

    asks_alone : (point : Point) → IsAwayPoint point → (q : Ask) (xs : List SFrame) → point ≡ Asking q xs → AsksToo world codes (alone point) q xs (in_tree [] [] s)
    asks_alone (Asking q gs) i q' xs e = question_is e (record { frames = gs; asks = refl; replied = λ r left. replied_alone q gs i r.response (taken r left) })
    asks_alone point i q' xs e = absurd cc

  asks : {f : Flat} {p : Point} {s : Slots} → StandsFor world codes f p s → (q : Ask) (xs : List SFrame) → p ≡ Asking q xs → AsksToo world codes f q xs s
  asks (is_away {top} point t i w aw) q xs e = asks_above top t w aw point i q xs e
  asks (is_alone {regs} {top} point t i) q xs e = asks_alone regs top t point i q xs e
  asks stands q xs e = absurd cc

  ends : {f : Flat} {p : Point} {s : Slots} → StandsFor world codes f p s → IsEnd f.acts f p
  ends (is_alone point t i) = refl
  ends (begins_run work t) = refl
  ends stands = tt

pub questions_are_asked : QuestionsAreAsked
questions_are_asked world codes f q fs s stands = asks world codes stands q fs refl

pub ends_are_ends : EndsAreEnds
ends_are_ends world codes f p s stands e = subst (λ (acts : List Act). IsEnd acts f p) e (ends world codes stands)
