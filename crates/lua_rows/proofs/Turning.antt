-- A ROW GOES ON to a turn of the machine, or to where a call in place goes.
use Rattle.std.proofs.Common.{◌∙◌, ℕ, ◌+◌, ◌-◌, subst, arith}
use Rattle.lua_turns.specs.WkBaseDeclaredLeftLeft.{Left}
use Rattle.lua_code.specs.PageRunDeclaredWhichWhich.{Which}
use Rattle.lua_turns.specs.LuaStoreSeen.{StoreView}
use Rattle.lua_turns.proofs.LuaStoreLater.{later-then}
use Rattle.lua_code.specs.LuaSlotsCode.{CWorld}
use Rattle.lua_turns.specs.LuaSlotsEnact.{Funds, all_given_back}
use Rattle.lua_turns.specs.LuaSlotsPoints.{Point}
use Rattle.lua_turns.specs.LuaSlotsSlots.{Slots}
use Rattle.lua_turns.specs.LuaGoesGoing.{Stop, Lacks, Reaches, Comes, is_over, is_short, is_short_late, is_asking}
use Rattle.lua_turns.proofs.LuaInPlaceReading.{reach_then}
use Rattle.lua_turns.specs.LuaStackDeclaredFocusFocus.{Focus}
use Rattle.lua_turns.specs.LuaStackSeen.{focus_seen}
use Rattle.lua_turns.specs.LuaStateDeclaredStateState.{State}
use Rattle.lua_turns.specs.LuaStateDeclaredCodesWorld.{World}
use Rattle.lua_calls.specs.LuaStateDeclaredTurnTurn.{Turn}
use Rattle.lua_turns.specs.LuaStateDeclaredTurnTurnTheVariants as turn
use Rattle.lua_turns.specs.LuaStateSeen.{slots_of, frames_of, funds_of}
use Rattle.lua_turns.specs.LuaStateWorlds.{world_seen}
use Rattle.lua_turns.specs.LuaStridesNext.{focus_of}
use Rattle.lua_turns.specs.LuaStridesStrides.{Strides}
use Rattle.lua_turns.specs.Rows.{Follows}
use Rattle.lua_turns.proofs.Following.{follows_then, strides_then, strides_follow}
use Rattle.lua_rows.specs.declared.rows.Went.{Went}
use Rattle.lua_rows.specs.declared.rows.Went.TheVariants as went
use Rattle.lua_rows.specs.Rows.{Spends, TurnsTo, StridesTo, FollowsTo}

-- an end behind moves
pub comes_behind : {world : CWorld} {p : Point} {s : Slots} {f : Funds} {q : Point} {t : Slots} {g : Funds} {e : Stop} → Reaches world p s f q t g → Comes world q t g e → Comes world p s f e
comes_behind c (is_over o u h d) = is_over o u h (reach_then c d)
comes_behind c (is_short r u h w h' d e) = is_short r u h w h' (reach_then c d) e
comes_behind c (is_short_late r u h w h' d e) = is_short_late r u h w h' (reach_then c d) e
comes_behind c (is_asking q fs u h d) = is_asking q fs u h (reach_then c d)

module _ (a : StoreView) (m : State) (p : Point) (l : Left) (k : ℕ) (b : StoreView) (m' : State) (l' : Left) (k' : ℕ) (y : Focus) (c : Follows a m p l k b m' l' k' y) (d : StoreView) (m'' : State) (l'' : Left) (k'' : ℕ) where
  abbrev there : Point
  there = focus_seen b y (frames_of b m')

  -- moves of which one takes a step
  pub strides_behind : (z : Focus) → Strides b m' there l' k' d m'' l'' k'' z → Strides a m p l k d m'' l'' k'' z
  strides_behind z e =
      let f : Follows a m p l k d m'' l'' k'' z = follows_then a m p l k b m' l' k' y d m'' l'' k'' z c (strides_follow b m' there l' k' d m'' l'' k'' z e) in
      record { state = f.state; world = f.world; of = f.of; later = f.later; rises = f.rises; falls = omega (arith, c.sinks, e.falls); led = f.led }

  pub spends_behind : (w : Which) → Spends b m' there l' k' d m'' l'' k'' w → Spends a m p l k d m'' l'' k'' w
  spends_behind w e = record {
    state = e.state;
    world = e.world ∙ c.world;
    later = later-then a b d c.later e.later;
    rises = omega (arith, c.rises, e.rises);
    led = λ told n n' h.
        let j : ℕ = k' + n - k in
        comes_behind (c.led told n j (omega (arith, c.rises)))
        (subst (λ (x : World). Comes (world_seen x) there (slots_of b m') (funds_of l' m' told j) (Lacks w d.heap (all_given_back (funds_of l'' m'' told n')))) c.world (e.led told j n' (omega (arith, c.rises, h))));
  }

  pub turns_behind : (r : Turn) → TurnsTo b m' there l' k' d m'' l'' k'' r → TurnsTo a m p l k d m'' l'' k'' r
  turns_behind (turn.On z) e = strides_behind z e
  turns_behind (turn.Spent w) e = spends_behind w e

-- the same behind strides
pub goes_behind : (a : StoreView) (m : State) (p : Point) (l : Left) (k : ℕ) (b : StoreView) (m' : State) (l' : Left) (k' : ℕ) (y : Focus) (d : StoreView) (m'' : State) (l'' : Left) (k'' : ℕ) (w : Went) → Strides a m p l k b m' l' k' y
    → FollowsTo b m' (focus_seen b y (frames_of b m')) l' k' d m'' l'' k'' w → StridesTo a m p l k d m'' l'' k'' w
goes_behind a m p l k b m' l' k' y d m'' l'' k'' (went.On z) c e = strides_then a m p l k b m' l' k' y d m'' l'' k'' (focus_of z) c e
goes_behind a m p l k b m' l' k' y d m'' l'' k'' (went.Turned r) c e = turns_behind a m p l k b m' l' k' y (strides_follow a m p l k b m' l' k' y c) d m'' l'' k'' r.value e
