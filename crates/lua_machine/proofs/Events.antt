-- WHAT AN EVENT OF CODE SAYS.
use Rattle.std.proofs.Common.{◌≡◌, ℕ, ◌+◌, ◌-◌, ◌≤◌, refl, subst, arith}
use Rattle.page_run.specs.WkBaseDeclaredLeftLeft.{Left}
use Rattle.page_run.specs.State.{no_tally}
use Rattle.lua_store.specs.Seen.{StoreView}
use Rattle.lua_rows.specs.LuaSlotsEnact.{Funds, all_given_back}
use Rattle.lua_rows.specs.LuaGoesGoing.{Over, Lacks, Waiting, Comes, is_over, is_asking, funds_at}
use Rattle.lua_home_laws.proofs.LuaGoesCounts.{nodes_are_paid, calls_are_back, kept-reached}
use Rattle.lua_home_laws.specs.LuaPointsClauses.{fund}
use Rattle.lua_home_laws.specs.LuaPointsLaws.{TakesItsOwn}
use Rattle.lua_home_laws.proofs.LuaPointsAllowances.{other_allowances_stay}
use Rattle.lua_environment.specs.LuaStackDeclaredFocusFocus.{Focus}
use Rattle.lua_rows.specs.LuaStateDeclaredStateState.{State}
use Rattle.lua_blocks.specs.LuaStateSeen.{slots_of, frames_of, funds_of, outcome_seen}
use Rattle.lua_blocks.specs.LuaStateOf.{StateOf}
use Rattle.lua_runs.specs.LuaStateWorlds.{world_seen}
use Rattle.lua_machine.specs.declared.event.Event.{Event}
use Rattle.lua_machine.specs.declared.event.Event.TheVariants as event
use Rattle.lua_machine.specs.Moved.{point_of}
use Rattle.lua_machine.specs.Going.{EndsIn}
use Rattle.lua_machine.specs.Events.{stop_seen, funds_after, BackAt, Settles}

from_nothing : (l : Left) (m : State) → m.height ≡ 0 → funds_of l m no_tally 0 ≡ fund l m.calls no_tally
from_nothing l m h = rw h refl

module _ (a : StoreView) (m : State) (x : Focus) (l : Left) (k : ℕ) (b : StoreView) (m' : State) (l' : Left) (k' : ℕ) where
  -- THE EVENT that the machine comes to, counted from nothing
  pub comes : (e : Event) (l'' : Left) (m'' : State) (n : ℕ) → m.height ≡ 0 → EndsIn a m x l k b m' l' k' e → Settles e l' m' l'' m'' → k' ≡ k + n
      → Comes (world_seen m.codes.world) (point_of a m x) (slots_of a m) (fund l m.calls no_tally) (stop_seen b m'' e (funds_after l'' m'' n))
  comes (event.Over o) l'' m'' n h c s q = rw (s.0, s.1)
      (subst (λ (f : Funds). Comes (world_seen m.codes.world) (point_of a m x) (slots_of a m) f (Over (outcome_seen b.texts o) (slots_of b m') (all_given_back (funds_of l' m' no_tally n)))) (from_nothing l m h) (is_over _ _ _ (c.led no_tally 0 n (omega (arith, q)))))
  comes (event.Spent w) l'' m'' n h c s q = rw (s.0, s.1)
      (subst (λ (f : Funds). Comes (world_seen m.codes.world) (point_of a m x) (slots_of a m) f (Lacks w b.heap (all_given_back (funds_of l' m' no_tally n)))) (from_nothing l m h) (c.led no_tally 0 n (omega (arith, q))))
  comes (event.Asks o) l'' m'' n h c s q = rw (s.0, s.1)
      (subst (λ (f : Funds). Comes (world_seen m.codes.world) (point_of a m x) (slots_of a m) f (Waiting o (frames_of b m') (slots_of b m') (funds_of l' m' no_tally n))) (from_nothing l m h) (is_asking _ _ _ _ (c.led no_tally 0 n (omega (arith, q)))))

  -- what is counted is paid for
  pub paid_for : (e : Event) (l'' : Left) (m'' : State) → m.height ≡ 0 → EndsIn a m x l k b m' l' k' e → Settles e l' m' l'' m'' → (k ≤ k') × (k' + l''.steps ≤ k + l.steps)
  paid_for e l'' m'' h c s =
      let n : ℕ = k' - k in
      let p = nodes_are_paid (world_seen m.codes.world) (point_of a m x) (slots_of a m) (fund l m.calls no_tally) (stop_seen b m'' e (funds_after l'' m'' n)) (comes e l'' m'' n h c s (omega (arith, c.rises))) in
      (c.rises, sum e p.1)
    where
      sum : (e : Event) → (funds_at (stop_seen b m'' e (funds_after l'' m'' (k' - k)))).tally.nodes + (funds_at (stop_seen b m'' e (funds_after l'' m'' (k' - k)))).left.steps ≤ 0 + l.steps → k' + l''.steps ≤ k + l.steps
      sum (event.Over o) p = omega (arith, p, c.rises)
      sum (event.Spent w) p = omega (arith, p, c.rises)
      sum (event.Asks q) p = omega (arith, p, c.rises)

  -- steps and calls alone are taken
  pub takes_its_own : (e : Event) (l'' : Left) (m'' : State) → m.height ≡ 0 → EndsIn a m x l k b m' l' k' e → Settles e l' m' l'' m'' → TakesItsOwn l l''
  takes_its_own e l'' m'' h c s =
      let n : ℕ = k' - k in
      taken e (other_allowances_stay (world_seen m.codes.world) (point_of a m x) (slots_of a m) (fund l m.calls no_tally) (stop_seen b m'' e (funds_after l'' m'' n)) (comes e l'' m'' n h c s (omega (arith, c.rises))))
    where
      taken : (e : Event) → TakesItsOwn l (funds_at (stop_seen b m'' e (funds_after l'' m'' (k' - k)))).left → TakesItsOwn l l''
      taken (event.Over o) t = t
      taken (event.Spent w) t = t
      taken (event.Asks q) t = t

  -- where it stopped, calls left and calls in progress are as many as they were
  pub calls_at : (e : Event) → m.height ≡ 0 → EndsIn a m x l k b m' l' k' e → l'.calls + m'.calls ≡ l.calls + m.calls
  calls_at (event.Over o) h c = kept-reached (world_seen m.codes.world) (point_of a m x) (slots_of a m) (funds_of l m no_tally 0) (c.led no_tally 0 (k' - k) (omega (arith, c.rises)))
  calls_at (event.Asks q) h c = kept-reached (world_seen m.codes.world) (point_of a m x) (slots_of a m) (funds_of l m no_tally 0) (c.led no_tally 0 (k' - k) (omega (arith, c.rises)))
  calls_at (event.Spent w) h c = (calls_are_back (world_seen m.codes.world) (point_of a m x) (slots_of a m) (funds_of l m no_tally 0) _ (c.led no_tally 0 (k' - k) (omega (arith, c.rises)))).0

  -- calls are back
  pub calls_back : (e : Event) (l'' : Left) (m'' : State) → m.height ≡ 0 → EndsIn a m x l k b m' l' k' e → Settles e l' m' l'' m'' → BackAt e l m.calls l'' m''.calls
  calls_back (event.Asks q) l'' m'' h c s = rw (s.0, s.1) (calls_at (event.Asks q) h c)
  calls_back (event.Over o) l'' m'' h c s = rw (s.0, s.1) (calls_at (event.Over o) h c, refl)
  calls_back (event.Spent w) l'' m'' h c s = rw (s.0, s.1) (calls_at (event.Spent w) h c, refl)

-- what is of the store
pub settled_of : (b : StoreView) (e : Event) (l l' : Left) (m m' : State) → StateOf b m → Settles e l m l' m' → StateOf b m'
settled_of b (event.Over o) l l' m m' h s = rw s.0 record { frames = h.frames; regs = h.regs; functions = h.functions; env = h.env; modules = h.modules; loaded = h.loaded; scenes = h.scenes; codes = h.codes }
settled_of b (event.Spent w) l l' m m' h s = rw s.0 record { frames = h.frames; regs = h.regs; functions = h.functions; env = h.env; modules = h.modules; loaded = h.loaded; scenes = h.scenes; codes = h.codes }
settled_of b (event.Asks q) l l' m m' h s = rw s.0 h

pub settled_world : (e : Event) (l l' : Left) (m m' : State) → Settles e l m l' m' → m'.codes.world ≡ m.codes.world
settled_world (event.Over o) l l' m m' s = rw s.0 refl
settled_world (event.Spent w) l l' m m' s = rw s.0 refl
settled_world (event.Asks q) l l' m m' s = rw s.0 refl
