-- A RUN before any function of Lua is in progress, and behind the last one: its start and its end.
use Rattle.std.proofs.Common.{◌≡◌, ℕ, List, [], ◌∷◌, ◌++◌, refl, ap, subst}
use Rattle.lua_goes.specs.PageRunOutcome.{Goes, Jumps}
use Rattle.lua_goes.specs.LuaMeaningActs.{Raised}
use Rattle.lua_goes.specs.LuaSlotsCode.{CWorld}
use Rattle.lua_goes.specs.LuaSlotsSlots.{Slot, Slots}
use Rattle.lua_goes.specs.LuaSlotsPoints.{WhileTurnS, RepeatTurnS, CountTurnS, EachTurnS, BodyS, LibraryS, IndexLinkS, SetLinkS, CallLinkS, SFrame, Point, Gives, Evals, Lists, Finds, Sets, Runs, Starts, Texts, Asking, Works, Move}
use Rattle.lua_goes.specs.LuaSlotsMoves.{moves}
use Rattle.lua_flat.specs.Operations.{Codes}
use Rattle.lua_flat.specs.Flat.{Flat}
use Rattle.lua_flat.specs.IsStatement.{IsFlat}
use Rattle.lua_flat.specs.Moves.{stays_away, flat_moves}
use Rattle.lua_flat.specs.Stands.{in_tree, from_code, AllAway, IsAwayPoint, nobody, is_alone}
use Rattle.lua_flat_laws.specs.Follows.{Follows, follow_costs, follow_marks, follow_enters, follow_exits, follow_free, follow_stands}
use Rattle.lua_flat_laws.specs.Laws.{stands_alone, begins, RunsAreMoves}
use Rattle.lua_flat_laws.proofs.Likewise.{Likewise, like_costs, like_marks, like_enters, like_exits, like_goes, like_raises, like_starts, like_texts, like_asks}
use Rattle.lua_flat_laws.proofs.LikewiseLibrary as library
use Rattle.lua_flat_laws.proofs.Enters as enters_of

-- above no frames
all_of_them : (gs : List SFrame) → AllAway gs → AllAway (gs ++ [])
all_of_them [] a = tt
all_of_them (g ∷ gs) a = (a.0, all_of_them gs a.1)

none_more : (gs : List SFrame) → gs ++ [] ≡ gs
none_more [] = refl
none_more (g ∷ gs) = ap (λ (zs : List SFrame). g ∷ zs) (none_more gs)

module _ (world : CWorld) (codes : Codes) (room : ℕ) (regs : List Slot) (top : ℕ) where
  abbrev alone : Point → Slots → Flat
  alone point s = from_code point [] regs top (in_tree [] [] s)

  stays : {m mv : Move} → Likewise [] [] [] [] m mv → (point : Point) (s : Slots) → Follows world codes (stays_away m (alone point s)) mv
  stays (like_costs h) point s = follow_costs (stays h point s)
  stays (like_marks h) point s = follow_marks (stays h point s)
  stays (like_enters h) point s = follow_enters (stays h point s)
  stays (like_exits h) point s = follow_exits (stays h point s)
  stays (like_goes gs vs t a) point s = follow_stands (is_alone (Gives (Goes vs) (gs ++ [])) t (tt, all_of_them gs a))
  stays (like_raises gs v t a) point s = follow_stands (is_alone (Gives (Jumps (Raised v)) (gs ++ [])) t (tt, all_of_them gs a))
  stays (like_starts gs thing t i a) point s = follow_stands (is_alone (Starts thing (gs ++ [])) t (i, all_of_them gs a))
  stays (like_texts gs vs before t a) point s = follow_stands (is_alone (Texts vs before (gs ++ [])) t (all_of_them gs a))
  stays (like_asks gs q t a) point s = follow_stands (is_alone (Asking q (gs ++ [])) t (all_of_them gs a))

  -- a move above these frames, and none beneath them
  stays_above : (gs : List SFrame) (m : List SFrame → Move) (point : Point) (s : Slots) → Likewise [] [] [] [] (m (gs ++ [])) (m (gs ++ [])) → Follows world codes (stays_away (m gs) (alone point s)) (m gs)
  stays_above gs m point s h = subst (λ (zs : List SFrame). Follows world codes (stays_away (m zs) (alone point s)) (m zs)) (none_more gs) (stays h point s)

  goes_alone : IsFlat world codes → (point : Point) (s : Slots) → IsAwayPoint point → Follows world codes (flat_moves world codes room (alone point s)) (moves world point (in_tree [] [] s))
  goes_alone is (Gives o []) s i = follow_stands (is_alone (Gives o []) s i)
  goes_alone is (Gives o (f ∷ gs)) s i = stays_above gs (λ zs. moves world (Gives o (f ∷ zs)) (in_tree [] [] s)) (Gives o (f ∷ gs)) s (library.goes_on [] [] gs f i.1.0 i.1.1 world o i.0 (in_tree [] [] s))
  goes_alone is (Starts (LibraryS which args line) gs) s i = stays_above gs (λ zs. moves world (Starts (LibraryS which args line) zs) (in_tree [] [] s)) (Starts (LibraryS which args line) gs) s (library.starts_library [] [] gs i.1 world which args line (in_tree [] [] s))
  goes_alone is (Starts (IndexLinkS object h key line) gs) s i = stays_above gs (λ zs. moves world (Starts (IndexLinkS object h key line) zs) (in_tree [] [] s)) (Starts (IndexLinkS object h key line) gs) s (library.starts_link [] [] gs i.1 world object h key line (in_tree [] [] s))
  goes_alone is (Starts (SetLinkS object h key value line) gs) s i =
      stays_above gs (λ zs. moves world (Starts (SetLinkS object h key value line) zs) (in_tree [] [] s)) (Starts (SetLinkS object h key value line) gs) s (library.starts_set [] [] gs i.1 world object h key value line (in_tree [] [] s))
  goes_alone is (Starts (CallLinkS h args line) gs) s i = stays_above gs (λ zs. moves world (Starts (CallLinkS h args line) zs) (in_tree [] [] s)) (Starts (CallLinkS h args line) gs) s (library.starts_call [] [] gs i.1 world h args line (in_tree [] [] s))
  goes_alone is (Starts (BodyS p args line) gs) s i = enters_of.enters_it world codes room [] regs gs gs top (λ ys. nobody i.1) p args line s (is_alone (Gives (Goes []) gs) s (tt, i.1)) is
  goes_alone is (Starts (WhileTurnS test body) gs) s i = absurd i.0
  goes_alone is (Starts (RepeatTurnS body test) gs) s i = absurd i.0
  goes_alone is (Starts (CountTurnS boxed index limit step body) gs) s i = absurd i.0
  goes_alone is (Starts (EachTurnS flags f state results body line) gs) s i = absurd i.0
  goes_alone is (Texts vs before gs) s i = stays_above gs (λ zs. moves world (Texts vs before zs) (in_tree [] [] s)) (Texts vs before gs) s (library.goes_on_texts [] [] gs i world vs before (in_tree [] [] s))
  goes_alone is (Asking q gs) s i = follow_stands (is_alone (Asking q gs) s i)
  goes_alone is (Evals e gs) s i = absurd i
  goes_alone is (Lists es before gs) s i = absurd i
  goes_alone is (Finds targets before values gs) s i = absurd i
  goes_alone is (Sets pairs gs) s i = absurd i
  goes_alone is (Runs b gs) s i = absurd i
  goes_alone is (Works work) s i = absurd i

pub runs_are_moves : RunsAreMoves
runs_are_moves world codes room is f p s (stands_alone {regs} {top} point t i) = follow_free _ _ (goes_alone world codes room regs top is point t i)
runs_are_moves world codes room is f p s (begins {regs} {top} work t) = follow_free _ _ (stays world codes room regs top (library.begins_work world work (in_tree [] [] t)) (Works work) t)
