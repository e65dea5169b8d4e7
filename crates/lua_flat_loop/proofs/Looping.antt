-- WHERE THE LOOP IS: operations have led here, and what is held is sound.
use Rattle.std.proofs.Common.{◌≡◌, ◌≤◌, ◌<◌, ◌-◌, ℕ, List, Some, sym, subst, arith, slice_get, slice_set}
use Rattle.page_run.specs.declared.which.Which.TheVariants.{Steps}
use Rattle.lua_store.specs.Parts.{IsOf, IsLater}
use Rattle.lua_store.specs.Seen.{StoreView}
use Rattle.lua_store.specs.declared.value.Value.{Value}
use Rattle.lua_store.proofs.Lists.{all-get, all-set}
use Rattle.lua_stack.specs.declared.register.Slot.{Slot}
use Rattle.lua_stack.specs.declared.register.Slot.TheVariants as slot
use Rattle.lua_stack.specs.Of.{SlotOf, RegistersOf, ValuesOf}
use Rattle.lua_flat_code.specs.declared.op.Op.{Op}
use Rattle.lua_flat_code.specs.declared.op.Step.{Step}
use Rattle.lua_flat_loop.specs.declared.ready.Code.{Code}
use Rattle.lua_flat_loop.specs.declared.standing.At.{At}
use Rattle.lua_flat_loop.specs.declared.standing.Exit.TheVariants as exit
use Rattle.lua_flat_loop.specs.Code.{IsCodeOf, ReadyOf}
use Rattle.lua_flat_loop.specs.Standing.{Stand, Sound}
use Rattle.lua_flat_loop.specs.Stops.{Leads, Stopped}
use Rattle.lua_flat_loop.proofs.Landing.{Sits}
use Rattle.lua_flat_loop.proofs.Stepping.{after, then_moves, LandsIn, writes, spends_steps}

pub record Going (x y : Stand) (c : Code) : Type 0 where
  pub leads : Leads x y
  pub begun : Sound x
  pub sound : Sound y
  pub later : IsLater x.store y.store
  pub modules : x.modules ≡ y.modules
  pub code : IsCodeOf y.modules y.at.act.source y.at.act.index c

unfoldable pub sits : (x y : Stand) (c : Code) (st : Step) → Going x y c → slice_get c.steps.now y.at.act.pc ≡ Some st → Sits y c st
sits x y c st g e = record { code = g.code; step = e; within = g.sound.within }

-- EXITS
pub stops_aside : (x y : Stand) (c : Code) → Going x y c → Stopped x exit.Aside y
stops_aside x y c g = record { ends = g.leads; sound = g.sound; later = g.later }

pub stops_full : (x y : Stand) (c : Code) → Going x y c → Stopped x exit.Full y
stops_full x y c g = record { ends = g.leads; sound = g.sound; later = g.later }

pub stops_spent : (x y : Stand) (c : Code) (st : Step) → Going x y c → slice_get c.steps.now y.at.act.pc ≡ Some st → y.at.rest < st.charge → Stopped x (exit.Spent Steps) (record y { at = record y.at { rest = 0 } })
stops_spent x y c st g e short = record {
  ends = spends_steps x y c st g.modules g.begun.modules g.later g.leads (sits x y c st g e) short;
  sound = record { modules = g.sound.modules; globals = g.sound.globals; regs = g.sound.regs; act = g.sound.act; acts = g.sound.acts; waiting = g.sound.waiting; within = omega arith };
  later = g.later;
}

pub stops_late : (x y : Stand) (c : Code) → Going x y c → Stopped x exit.NoMemory y
stops_late x y c g = record { ends = tt; sound = g.sound; later = g.later }

-- AN OPERATION THAT WRITES REGISTERS ALONE
pub goes : (x y : Stand) (c : Code) (st : Step) (o : Op) (regs : List Slot) (pc top : ℕ) (g : Going x y c) (e : slice_get c.steps.now y.at.act.pc ≡ Some st) → st.charge ≤ y.at.rest → st.op ≡ o → RegistersOf y.store regs
    → LandsIn y c st (sits x y c st g e) o regs pc top → Going x (after y st.charge regs pc top) c
goes x y c st o regs pc top g e covered is of lands = record {
  leads = then_moves x y (after y st.charge regs pc top) g.modules g.begun.modules g.later g.leads (writes y c st o regs pc top (sits x y c st g e) covered is lands);
  begun = g.begun;
  sound = record { modules = g.sound.modules; globals = g.sound.globals; regs = of; act = g.sound.act; acts = g.sound.acts; waiting = g.sound.waiting; within = omega (arith, g.sound.within) };
  later = g.later;
  modules = g.modules;
  code = g.code;
}

-- constants of the code are of the store
pub constants_ok : {x y : Stand} {c : Code} → Going x y c → ValuesOf y.store c.constants.now
constants_ok {x} {y} {c} g =
    subst (λ (vs : List Value). ValuesOf y.store vs) (sym g.code.constants) (all-get (ReadyOf y.store) y.modules y.at.act.source g.code.home g.sound.modules g.code.there).constants

-- one register is written
pub one_written : (s : StoreView) (regs : List Slot) (at : ℕ) (v : Value) → RegistersOf s regs → IsOf s v → RegistersOf s (slice_set regs at (slot.Plain v))
one_written s regs at v of h = all-set (SlotOf s) regs at (slot.Plain v) of h

-- THE LOOP'S TURN: what code knows of it
pub turns : {x y : Stand} {c : Code} (st : Step) (g : Going x y c) (e : slice_get c.steps.now y.at.act.pc ≡ Some st) → st.charge ≤ y.at.rest → (charge : ℕ) → charge ≡ st.charge
    → (o : Op) → st.op ≡ o → (regs regs' : List Slot) (pc : ℕ) (at : At) → regs' ≡ regs → at ≡ record y.at { act = record y.at.act { pc = pc } } → RegistersOf y.store regs
    → LandsIn y c st (sits x y c st g e) o regs pc y.at.top → Going x (record y { regs = regs'; at = record at { rest = at.rest - charge } }) c
turns {x} {y} {c} st g e covered charge en o is regs regs' pc at er ea of lands =
    subst (λ (a : At). Going x (record y { regs = regs'; at = record a { rest = a.rest - charge } }) c) (sym ea)
    (subst (λ (r : List Slot). Going x (record y { regs = r; at = record y.at { act = record y.at.act { pc = pc }; rest = y.at.rest - charge } }) c) (sym er)
    (subst (λ (n : ℕ). Going x (record y { regs = regs; at = record y.at { act = record y.at.act { pc = pc }; rest = y.at.rest - n } }) c) (sym en)
    (goes x y c st o regs pc y.at.top g e covered is of lands)))
