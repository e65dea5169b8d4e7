-- AWAY FROM CODE: handlers, functions of the library, what waits for calls and answers. A move there is the same move above the frames for
-- which code waits.
use Rattle.std.proofs.Common.{ℕ, List, [], ◌∷◌, ◌++◌}
use Rattle.std.specs.Prelude.{length}
use Rattle.lua_goes.specs.PageRunOutcome.{Goes, Jumps}
use Rattle.lua_goes.specs.LuaMeaningActs.{Raised}
use Rattle.lua_goes.specs.LuaSlotsCode.{CWorld}
use Rattle.lua_goes.specs.LuaSlotsSlots.{Slot, Activation, Slots}
use Rattle.lua_goes.specs.LuaSlotsPoints.{WhileTurnS, RepeatTurnS, CountTurnS, EachTurnS, BodyS, LibraryS, IndexLinkS, SetLinkS, CallLinkS, SFrame, Point, Gives, Evals, Lists, Finds, Sets, Runs, Starts, Texts, Asking, Works, Move}
use Rattle.lua_goes.specs.LuaSlotsMoves.{moves}
use Rattle.lua_flat.specs.Locals.{Local}
use Rattle.lua_flat.specs.Operations.{FlatFunction, Codes}
use Rattle.lua_flat.specs.Flat.{Act}
use Rattle.lua_flat.specs.Moves.{stays_away, flat_moves}
use Rattle.lua_flat.specs.Keeps.{Keeps}
use Rattle.lua_flat.specs.Stands.{in_tree, from_code, constants_in, IsAwayPoint, below, Within, Awaits, is_away}
use Rattle.lua_flat_laws.specs.Follows.{Follows, follow_costs, follow_marks, follow_enters, follow_exits, follow_free, follow_stands}
use Rattle.lua_flat_laws.specs.Laws.{IsOutside, outside, LibraryIsMoves}
use Rattle.lua_flat_laws.proofs.Likewise.{Likewise, like_costs, like_marks, like_enters, like_exits, like_goes, like_raises, like_starts, like_texts, like_asks}
use Rattle.lua_flat_laws.proofs.LikewiseLibrary as library

module _ (world : CWorld) (codes : Codes) (room : ℕ) {regs : List Slot} {a : Act} {acts : List Act} {fn : Activation} {fns : List Activation} {g : FlatFunction} {mine theirs : List Slot} {beneath hs fs : List SFrame} {locals : List Local} {low : ℕ} {keeps : Keeps} (top : ℕ)
    (w : Within world codes regs a acts fn fns g mine theirs beneath locals low keeps) (aw : Awaits (constants_in world fn.source) g (length theirs) beneath locals low keeps a.pc hs fs) where
  abbrev tree : Slots → Slots
  tree s = in_tree (mine ++ theirs) (fn ∷ fns) s

  pub stays : {m mv : Move} → Likewise hs fs (mine ++ theirs) (fn ∷ fns) m mv → (point : Point) (s : Slots) → Follows world codes (stays_away m (from_code point (a ∷ acts) regs top (tree s))) mv
  stays (like_costs h) point s = follow_costs (stays h point s)
  stays (like_marks h) point s = follow_marks (stays h point s)
  stays (like_enters h) point s = follow_enters (stays h point s)
  stays (like_exits h) point s = follow_exits (stays h point s)
  stays (like_goes gs vs t away) point s = follow_stands (is_away (Gives (Goes vs) gs) t (tt, away) w aw)
  stays (like_raises gs v t away) point s = follow_stands (is_away (Gives (Jumps (Raised v)) gs) t (tt, away) w aw)
  stays (like_starts gs thing t i away) point s = follow_stands (is_away (Starts thing gs) t (i, away) w aw)
  stays (like_texts gs vs before t away) point s = follow_stands (is_away (Texts vs before gs) t away w aw)
  stays (like_asks gs q t away) point s = follow_stands (is_away (Asking q gs) t away w aw)

  pub moves_outside : (point : Point) (s : Slots) → IsAwayPoint point → IsOutside point → Follows world codes (flat_moves world codes room (from_code (below point hs) (a ∷ acts) regs top (tree s))) (moves world (below point fs) (tree s))
  moves_outside (Gives o []) s i out = absurd out
  moves_outside (Gives o (f ∷ gs)) s i out = stays (library.goes_on hs fs gs f i.1.0 i.1.1 world o i.0 (tree s)) (below (Gives o (f ∷ gs)) hs) s
  moves_outside (Starts (LibraryS which args line) gs) s i out = stays (library.starts_library hs fs gs i.1 world which args line (tree s)) (below (Starts (LibraryS which args line) gs) hs) s
  moves_outside (Starts (IndexLinkS object h key line) gs) s i out = stays (library.starts_link hs fs gs i.1 world object h key line (tree s)) (below (Starts (IndexLinkS object h key line) gs) hs) s
  moves_outside (Starts (SetLinkS object h key value line) gs) s i out = stays (library.starts_set hs fs gs i.1 world object h key value line (tree s)) (below (Starts (SetLinkS object h key value line) gs) hs) s
  moves_outside (Starts (CallLinkS h args line) gs) s i out = stays (library.starts_call hs fs gs i.1 world h args line (tree s)) (below (Starts (CallLinkS h args line) gs) hs) s
  moves_outside (Starts (BodyS p args line) gs) s i out = absurd out
  moves_outside (Starts (WhileTurnS test body) gs) s i out = absurd i.0
  moves_outside (Starts (RepeatTurnS body test) gs) s i out = absurd i.0
  moves_outside (Starts (CountTurnS boxed index limit step body) gs) s i out = absurd i.0
  moves_outside (Starts (EachTurnS flags f state results body line) gs) s i out = absurd i.0
  moves_outside (Texts vs before gs) s i out = stays (library.goes_on_texts hs fs gs i world vs before (tree s)) (below (Texts vs before gs) hs) s
  moves_outside (Asking q gs) s i out = follow_stands (is_away (Asking q gs) s i w aw)
  moves_outside (Evals e gs) s i out = absurd i
  moves_outside (Lists es before gs) s i out = absurd i
  moves_outside (Finds targets before values gs) s i out = absurd i
  moves_outside (Sets pairs gs) s i out = absurd i
  moves_outside (Runs b gs) s i out = absurd i
  moves_outside (Works work) s i out = absurd i

pub library_is_moves : LibraryIsMoves
library_is_moves world codes room f p s (outside {top} point t i out w aw) = follow_free _ _ (moves_outside world codes room top w aw point t i out)
