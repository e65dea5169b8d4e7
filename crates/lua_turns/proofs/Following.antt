-- Moves in a row in code: none, more, and those of which the machine's law is known.
use Rattle.std.proofs.Common.{◌≡◌, ◌∙◌, ◌≤◌, ◌-◌, ◌+◌, ℕ, true, false, List, [], Option, Some, None, refl, ap, subst, arith}
use Rattle.std.specs.Prelude.{Result, IfOk}
use Rattle.std.proofs.lemmas.Result.{IfOk-weaker}
use Rattle.lua_loops.specs.WkBaseDeclaredLeftLeft.{Left}
use Rattle.lua_operators.specs.PageRunState.{Tally}
use Rattle.lua_operators.specs.LuaStoreSeen.{StoreView}
use Rattle.lua_operators.specs.LuaStoreParts.{IsLater}
use Rattle.lua_operators.proofs.LuaStoreLater.{later-itself, later-then}
use Rattle.lua_loops.specs.PageRunOutcome.{Goes}
use Rattle.lua_code.specs.LuaSlotsCode.{CWorld, EndC}
use Rattle.lua_operators.specs.LuaSlotsSlots.{Slots}
use Rattle.lua_operators.specs.LuaSlotsPoints.{Point, Gives, Runs}
use Rattle.lua_operators.specs.LuaSlotsEnact.{Funds}
use Rattle.lua_strides.specs.LuaGoesGoing.{Reaches, here}
use Rattle.lua_strides.specs.LuaInPlaceLaws.{after_nodes}
use Rattle.lua_strides.proofs.LuaInPlaceReading.{reach_then}
use Rattle.lua_strides.proofs.LuaInPlaceStatements.{LeadsFree, free}
use Rattle.lua_loops.proofs.Beginning.{with_parts, with_parts_of}
use Rattle.lua_operators.specs.LuaStackDeclaredActivationActivation.{Activation}
use Rattle.lua_strides.specs.LuaStackDeclaredFocusFocus.{Focus}
use Rattle.lua_strides.specs.LuaStackDeclaredFrameFrame.{Frame}
use Rattle.lua_operators.specs.LuaStackDeclaredRegisterSlot.{Slot}
use Rattle.lua_operators.specs.LuaStackSeen.{focus_seen, frames_seen}
use Rattle.lua_operators.specs.LuaStackOf.{ActivationsOf, FocusOf, FramesOf, RegistersOf}
use Rattle.lua_strides.specs.LuaStateDeclaredStateState.{State}
use Rattle.lua_loops.specs.LuaStateDeclaredCodesWorld.{World}
use Rattle.lua_loops.specs.LuaStateSeen.{slots_of, frames_of, funds_of}
use Rattle.lua_loops.specs.LuaStateOf.{StateOf}
use Rattle.lua_loops.specs.LuaStateWorlds.{world_seen}
use Rattle.lua_loops.proofs.LuaStateStaying.{state_later}
use Rattle.lua_strides.specs.declared.next.Next.{Next}
use Rattle.lua_strides.specs.Next.{focus_of}
use Rattle.lua_strides.specs.Strides.{PaysNodes, LeadsAt, Strides, Idles, MayStride}
use Rattle.lua_strides.proofs.Paths.{funds_after}
use Rattle.lua_turns.specs.Rows.{Follows, MayFollow, MustFollow}

as_many : (k n n' : ℕ) → k + n ≡ k + n' → n ≡ n'
as_many k n n' e = omega (arith, e)

-- NONE
pub follows_none : (s : StoreView) (m : State) (y : Focus) (l : Left) (k : ℕ) → StateOf s m → FocusOf s y → Follows s m (focus_seen s y (frames_of s m)) l k s m l k y
follows_none s m y l k state of = record {
  state = state;
  world = refl;
  of = of;
  later = later-itself s;
  rises = omega arith;
  sinks = omega arith;
  led = λ told n n' e.
      subst (λ (i : ℕ). Reaches (world_seen m.codes.world) (focus_seen s y (frames_of s m)) (slots_of s m) (funds_of l m told n) (focus_seen s y (frames_of s m)) (slots_of s m) (funds_of l m told i)) (as_many k n n' e) here;
}

-- A STRIDE leads somewhere
pub strode_follows : (s : StoreView) (m : State) (p : Point) (l : Left) (k : ℕ) (t : StoreView) (m' : State) (l' : Left) (k' : ℕ) (r : Option Next) → MayStride s m p l k t m' l' k' r → MayFollow s m p l k t m' l' k' r
strode_follows s m p l k t m' l' k' (Some y) e = record { state = e.state; world = e.world; of = e.of; later = e.later; rises = e.rises; sinks = omega (arith, e.falls); led = e.led }
strode_follows s m p l k t m' l' k' None e = e

pub strides_follow : (s : StoreView) (m : State) (p : Point) (l : Left) (k : ℕ) (t : StoreView) (m' : State) (l' : Left) (k' : ℕ) (y : Focus) → Strides s m p l k t m' l' k' y → Follows s m p l k t m' l' k' y
strides_follow s m p l k t m' l' k' y e = record { state = e.state; world = e.world; of = e.of; later = e.later; rises = e.rises; sinks = omega (arith, e.falls); led = e.led }

-- MOVES FOLLOW whatever the answer is
must_may_at : (s : StoreView) (m : State) (p : Point) (l : Left) (k : ℕ) (t : StoreView) (m' : State) (l' : Left) (k' : ℕ) (r : Option Next) → MustFollow s m p l k t m' l' k' r → MayFollow s m p l k t m' l' k' r
must_may_at s m p l k t m' l' k' (Some y) e = e
must_may_at s m p l k t m' l' k' None e = absurd e

pub must_may : {E : Type 0} (s : StoreView) (m : State) (p : Point) (l : Left) (k : ℕ) (t : StoreView) (m' : State) (l' : Left) (k' : ℕ) (r : Result (Option Next) E) → IfOk r (MustFollow s m p l k t m' l' k') → IfOk r (MayFollow s m p l k t m' l' k')
must_may s m p l k t m' l' k' r h = IfOk-weaker r (MustFollow s m p l k t m' l' k') (MayFollow s m p l k t m' l' k') (λ x e. must_may_at s m p l k t m' l' k' x e) h

-- A BLOCK at its end gives nothing
pub at_end : (s : StoreView) (m : State) (l : Left) (k : ℕ) (t : StoreView) (m' : State) (l' : Left) (k' : ℕ) (r : Option Next) → MayFollow s m (Gives (Goes []) (frames_of s m)) l k t m' l' k' r → MayFollow s m (Runs EndC (frames_of s m)) l k t m' l' k' r
at_end s m l k t m' l' k' (Some y) e = record {
  state = e.state;
  world = e.world;
  of = e.of;
  later = e.later;
  rises = e.rises;
  sinks = e.sinks;
  led = λ told n n' h. reach_then (free (world_seen m.codes.world) (Runs EndC (frames_of s m)) (slots_of s m) (Gives (Goes []) (frames_of s m)) (slots_of s m) refl (funds_of l m told n)) (e.led told n n' h);
}
at_end s m l k t m' l' k' None e = e

-- MORE behind some
module _ (a : StoreView) (m : State) (p : Point) (l : Left) (k : ℕ) (b : StoreView) (m' : State) (l' : Left) (k' : ℕ) (y : Focus) where
  led_then : (d : StoreView) (m'' : State) (l'' : Left) (k'' : ℕ) (z : Focus) → m'.codes.world ≡ m.codes.world → k ≤ k' → k' ≤ k''
      → ((told : Tally) (n n' : ℕ) → k' + n ≡ k + n' → Reaches (world_seen m.codes.world) p (slots_of a m) (funds_of l m told n) (focus_seen b y (frames_of b m')) (slots_of b m') (funds_of l' m' told n'))
      → ((told : Tally) (n n' : ℕ) → k'' + n ≡ k' + n' → Reaches (world_seen m'.codes.world) (focus_seen b y (frames_of b m')) (slots_of b m') (funds_of l' m' told n) (focus_seen d z (frames_of d m'')) (slots_of d m'') (funds_of l'' m'' told n'))
      → (told : Tally) (n n' : ℕ) → k'' + n ≡ k + n' → Reaches (world_seen m.codes.world) p (slots_of a m) (funds_of l m told n) (focus_seen d z (frames_of d m'')) (slots_of d m'') (funds_of l'' m'' told n')
  led_then d m'' l'' k'' z w r r' x x' told n n' h =
      let j : ℕ = k' + n - k in
      reach_then (x told n j (omega (arith, r)))
      (subst (λ (o : World). Reaches (world_seen o) (focus_seen b y (frames_of b m')) (slots_of b m') (funds_of l' m' told j) (focus_seen d z (frames_of d m'')) (slots_of d m'') (funds_of l'' m'' told n')) w (x' told j n' (omega (arith, r, h))))

  pub follows_then : (d : StoreView) (m'' : State) (l'' : Left) (k'' : ℕ) (z : Focus) → Follows a m p l k b m' l' k' y → Follows b m' (focus_seen b y (frames_of b m')) l' k' d m'' l'' k'' z → Follows a m p l k d m'' l'' k'' z
  follows_then d m'' l'' k'' z c e = record {
    state = e.state;
    world = e.world ∙ c.world;
    of = e.of;
    later = later-then a b d c.later e.later;
    rises = omega (arith, c.rises, e.rises);
    sinks = omega (arith, c.sinks, e.sinks);
    led = led_then d m'' l'' k'' z c.world c.rises e.rises c.led e.led;
  }

  pub strides_then : (d : StoreView) (m'' : State) (l'' : Left) (k'' : ℕ) (z : Focus) → Strides a m p l k b m' l' k' y → Follows b m' (focus_seen b y (frames_of b m')) l' k' d m'' l'' k'' z → Strides a m p l k d m'' l'' k'' z
  strides_then d m'' l'' k'' z c e = record {
    state = e.state;
    world = e.world ∙ c.world;
    of = e.of;
    later = later-then a b d c.later e.later;
    rises = omega (arith, c.rises, e.rises);
    falls = omega (arith, c.falls, e.sinks);
    led = led_then d m'' l'' k'' z c.world c.rises e.rises c.led e.led;
  }

  -- the same, where an answer tells what is next
  then_must_at : (d : StoreView) (m'' : State) (l'' : Left) (k'' : ℕ) (r : Option Next) → Follows a m p l k b m' l' k' y → MustFollow b m' (focus_seen b y (frames_of b m')) l' k' d m'' l'' k'' r → MustFollow a m p l k d m'' l'' k'' r
  then_must_at d m'' l'' k'' (Some z) c e = follows_then d m'' l'' k'' (focus_of z) c e
  then_must_at d m'' l'' k'' None c e = absurd e

  pub then_must : {E : Type 0} (d : StoreView) (m'' : State) (l'' : Left) (k'' : ℕ) (r : Result (Option Next) E) → Follows a m p l k b m' l' k' y → IfOk r (MustFollow b m' (focus_seen b y (frames_of b m')) l' k' d m'' l'' k'') → IfOk r (MustFollow a m p l k d m'' l'' k'')
  then_must d m'' l'' k'' r c h = IfOk-weaker r (MustFollow b m' (focus_seen b y (frames_of b m')) l' k' d m'' l'' k'') (MustFollow a m p l k d m'' l'' k'') (λ x e. then_must_at d m'' l'' k'' x c e) h

  strides_must_at : (d : StoreView) (m'' : State) (l'' : Left) (k'' : ℕ) (r : Option Next) → Strides a m p l k b m' l' k' y → MustFollow b m' (focus_seen b y (frames_of b m')) l' k' d m'' l'' k'' r → MayStride a m p l k d m'' l'' k'' r
  strides_must_at d m'' l'' k'' (Some z) c e = strides_then d m'' l'' k'' (focus_of z) c e
  strides_must_at d m'' l'' k'' None c e = absurd e

  pub strides_must : {E : Type 0} (d : StoreView) (m'' : State) (l'' : Left) (k'' : ℕ) (r : Result (Option Next) E) → Strides a m p l k b m' l' k' y → IfOk r (MustFollow b m' (focus_seen b y (frames_of b m')) l' k' d m'' l'' k'') → IfOk r (MayStride a m p l k d m'' l'' k'')
  strides_must d m'' l'' k'' r c h = IfOk-weaker r (MustFollow b m' (focus_seen b y (frames_of b m')) l' k' d m'' l'' k'') (MayStride a m p l k d m'' l'' k'') (λ x e. strides_must_at d m'' l'' k'' x c e) h

  -- nodes for which steps were lacking
  pub follows_unpaid : (n : ℕ) (l'' : Left) (k'' : ℕ) → Follows a m p l k b m' l' k' y → PaysNodes n l' k' l'' k'' false → Follows a m p l k b m' l'' k'' y
  follows_unpaid n l'' k'' c e = rw (e.0, e.1) c

  -- nothing
  pub follows_idle : (d : StoreView) (m'' : State) (l'' : Left) (k'' : ℕ) → Follows a m p l k b m' l' k' y → Idles b m' l' k' d m'' l'' k'' → Follows a m p l k d m'' l'' k'' y
  follows_idle d m'' l'' k'' c e = rw (e.store, e.state, e.left, e.counter) c

-- WHAT THE LAW OF THE MACHINE IS KNOWN OF, from what is held to what is held then: other frames, registers and functions
module _ (s u : StoreView) (m : State) (fs : List Frame) (regs : List Slot) (fns : List Activation) (p q : Point) (z : Slots) (y : Focus) (of : StateOf s m) (later : IsLater s u) where
  -- at no cost
  pub follows_free : (l : Left) (k : ℕ) → FramesOf u fs → RegistersOf u regs → ActivationsOf u fns → FocusOf u y → ((world : CWorld) → LeadsFree world p (slots_of s m) q z)
      → q ≡ focus_seen u y (frames_seen u.texts fs) → z ≡ slots_of u (with_parts m fs regs fns) → Follows s m p l k u (with_parts m fs regs fns) l k y
  follows_free l k a b c focus law e h = record {
    state = with_parts_of u m fs regs fns (state_later s u later m of) a b c;
    world = refl;
    of = focus;
    later = later;
    rises = omega arith;
    sinks = omega arith;
    led = λ told n n' i.
        subst (λ (j : ℕ). Reaches (world_seen m.codes.world) p (slots_of s m) (funds_of l m told n) (focus_seen u y (frames_seen u.texts fs)) (slots_of u (with_parts m fs regs fns)) (funds_of l m told j)) (as_many k n n' i)
        (subst (λ (o : Slots). Reaches (world_seen m.codes.world) p (slots_of s m) (funds_of l m told n) (focus_seen u y (frames_seen u.texts fs)) o (funds_of l m told n)) h
        (subst (λ (o : Point). Reaches (world_seen m.codes.world) p (slots_of s m) (funds_of l m told n) o z (funds_of l m told n)) e (law (world_seen m.codes.world) (funds_of l m told n))));
  }

  -- at so many nodes
  pub follows_paid : (n : ℕ) (l l' : Left) (k k' : ℕ) → FramesOf u fs → RegistersOf u regs → ActivationsOf u fns → FocusOf u y → PaysNodes n l k l' k' true → ((world : CWorld) → LeadsAt world p (slots_of s m) n q z)
      → q ≡ focus_seen u y (frames_seen u.texts fs) → z ≡ slots_of u (with_parts m fs regs fns) → Follows s m p l k u (with_parts m fs regs fns) l' k' y
  follows_paid n l l' k k' a b c focus pays law e h =
      let less : l'.steps ≡ l.steps - n = ap (λ (o : Left). o.steps) pays.1 in
      record {
        state = with_parts_of u m fs regs fns (state_later s u later m of) a b c;
        world = refl;
        of = focus;
        later = later;
        rises = omega (arith, pays.2);
        sinks = omega (arith, less);
        led = λ told i j x.
            subst (λ (g : Funds). Reaches (world_seen m.codes.world) p (slots_of s m) (funds_of l m told i) (focus_seen u y (frames_seen u.texts fs)) (slots_of u (with_parts m fs regs fns)) g) (funds_after n l l' k k' m told i j pays x)
            (subst (λ (o : Slots). Reaches (world_seen m.codes.world) p (slots_of s m) (funds_of l m told i) (focus_seen u y (frames_seen u.texts fs)) o (after_nodes n (funds_of l m told i))) h
            (subst (λ (o : Point). Reaches (world_seen m.codes.world) p (slots_of s m) (funds_of l m told i) o z (after_nodes n (funds_of l m told i))) e (law (world_seen m.codes.world) (funds_of l m told i) pays.0)));
      }
