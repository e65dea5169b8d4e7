-- THE LOOP GOES ON by one operation, or an allowance is spent.
use Rattle.std.proofs.Common.{◌≡◌, ◌∙◌, ◌≤◌, ◌<◌, ◌+◌, ◌-◌, ℕ, List, refl, sym, ap, subst, arith}
use Rattle.std.specs.List.{AllByRecursion}
use Rattle.page_run.specs.State.{Tally}
use Rattle.page_run.specs.declared.which.Which.TheVariants.{Steps}
use Rattle.lua_store.specs.Parts.{IsLater}
use Rattle.lua_flat.specs.LuaSlotsCode.{CWorld, Constants}
use Rattle.lua_code.specs.LuaSlotsEnact.{all_given_back}
use Rattle.lua_flat.specs.Operations.{Codes}
use Rattle.lua_flat.specs.Moves.{room_in, flat_moves, FStands, FShort, flat_enact}
use Rattle.lua_flat_code.specs.declared.op.Op.{Op}
use Rattle.lua_flat_code.specs.declared.op.Step.{Step}
use Rattle.lua_flat_code.specs.Seen.{op_seen}
use Rattle.lua_stack.specs.declared.register.Slot.{Slot}
use Rattle.lua_stack.specs.Seen.{registers_seen}
use Rattle.lua_flat_loop.specs.declared.ready.Code.{Code}
use Rattle.lua_flat_loop.specs.Code.{tables_of, Knows, ReadyOf, AreReady}
use Rattle.lua_flat_loop.specs.Standing.{Stand, Beside, flat_of, funds_of}
use Rattle.lua_flat_loop.specs.Stops.{further, Leads, Spends}
use Rattle.lua_flat_loop.specs.Lands.{Lands}
use Rattle.lua_flat_loop.proofs.CodeSeen.{ready_stays}
use Rattle.lua_flat_loop.proofs.Landing.{Sits, constants, constants_are, falls_short, lands_there}

pub itself : (n : ℕ) → n ≤ n
itself n = omega arith

-- ONE MOVE
pub record Moves (y z : Stand) : Type 0 where
  pub moves : (w : CWorld) (codes : Codes) (b : Beside) (told : Tally) → AreReady w codes y.store y.modules
      → flat_enact (flat_moves w codes (room_in codes (flat_of b y).acts (flat_of b y)) (flat_of b y)) (funds_of told y) ≡ FStands (flat_of b z) (funds_of told z)

pub ready_later : (x y : Stand) → x.modules ≡ y.modules → AllByRecursion (ReadyOf x.store) x.modules → IsLater x.store y.store → (w : CWorld) (codes : Codes) → AreReady w codes x.store x.modules → AreReady w codes y.store y.modules
ready_later x y same of later w codes ready = subst (AreReady w codes y.store) same (ready_stays x.store y.store later w codes x.modules of ready)

pub then_moves : (x y z : Stand) → x.modules ≡ y.modules → AllByRecursion (ReadyOf x.store) x.modules → IsLater x.store y.store → Leads x y → Moves y z → Leads x z
then_moves x y z same of later leads m w codes b told ready =
    further (flat_of b y) (funds_of told y) (room_in codes (flat_of b y).acts (flat_of b y)) (flat_of b z) (funds_of told z) (leads w codes b told ready) (itself _)
    (m.moves w codes b told (ready_later x y same of later w codes ready))

-- an operation that writes registers alone
abbrev pub after : Stand → ℕ → List Slot → ℕ → ℕ → Stand
after x charge regs pc top = record x { regs = regs; at = record x.at { act = record x.at.act { pc = pc }; top = top; rest = x.at.rest - charge } }

pub nodes_after : (rest total n : ℕ) → n ≤ rest → rest ≤ total → total - rest + n ≡ total - (rest - n)
nodes_after rest total n covered within = omega (arith, covered, within)

-- the operation's clause speaks of constants that are known
abbrev pub LandsIn : (x : Stand) (c : Code) (st : Step) → Sits x c st → Op → List Slot → ℕ → ℕ → Type 0
LandsIn x c st sits o regs pc top = (cs : Constants) → Knows x.store.texts cs (tables_of sits.code.home.functions.now c.function.now) c.constants.now → (b : Beside)
    → Lands cs (op_seen (tables_of sits.code.home.functions.now c.function.now) o) x.at.act.base x.at.act.pc (registers_seen x.store.texts x.regs) x.at.top (flat_of b x).slots (flat_of b x).slots
    (record { pc = pc; regs = registers_seen x.store.texts regs; top = top })

pub writes : (x : Stand) (c : Code) (st : Step) (o : Op) (regs : List Slot) (pc top : ℕ) (sits : Sits x c st) → st.charge ≤ x.at.rest → st.op ≡ o
    → LandsIn x c st sits o regs pc top → Moves x (after x st.charge regs pc top)
writes x c st o regs pc top sits covered is lands = record {
  moves = λ w codes b told ready.
      let same : LandsIn x c st sits st.op regs pc top = subst (λ (p : Op). LandsIn x c st sits p regs pc top) (sym is) lands in
      lands_there w codes b told x c st sits ready x.store.heap (record { pc = pc; regs = registers_seen x.store.texts regs; top = top }) covered
      (same (constants w codes b told x c st sits ready) (constants_are w codes b told x c st sits ready) b) (room_in codes (flat_of b x).acts (flat_of b x))
      ∙ ap (λ (n : ℕ). FStands (flat_of b (after x st.charge regs pc top)) (record { left = record x.purse.left { steps = x.at.rest - st.charge }; in_progress = x.purse.calls; tally = record told { height = x.purse.height; nodes = n } }))
      (nodes_after x.at.rest x.at.total st.charge covered sits.within);
}

-- THE CHARGE IS NOT THERE: none stay
nodes_short : (rest total : ℕ) → rest ≤ total → total - rest + rest ≡ total - 0
nodes_short rest total within = omega (arith, within)

pub spends_steps : (x y : Stand) (c : Code) (st : Step) → x.modules ≡ y.modules → AllByRecursion (ReadyOf x.store) x.modules → IsLater x.store y.store → Leads x y → Sits y c st → y.at.rest < st.charge
    → Spends x Steps (record y { at = record y.at { rest = 0 } })
spends_steps x y c st same of later leads sits short w codes b told ready = record {
  last = flat_of b y;
  spends = record {
    funds = funds_of told y;
    room = room_in codes (flat_of b y).acts (flat_of b y);
    reaches = leads w codes b told ready;
    enough = itself _;
    short = falls_short w codes b told y c st sits (ready_later x y same of later w codes ready) (room_in codes (flat_of b y).acts (flat_of b y)) short
        ∙ ap (λ (n : ℕ). FShort Steps (all_given_back (record { left = record y.purse.left { steps = 0 }; in_progress = y.purse.calls; tally = record told { height = y.purse.height; nodes = n } }))) (nodes_short y.at.rest y.at.total sits.within);
  };
  still = refl;
}
