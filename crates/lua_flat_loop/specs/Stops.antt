-- WHAT IS PROMISED OF THE LOOP: operations have led from where it stood to where it stands, at their charges; and why it left.
use Rattle.std.specs.Prelude.{◌≡◌, ◌≤◌, ℕ, ◌++◌, replicate}
use Rattle.page_run.specs.State.{Tally}
use Rattle.page_run.specs.declared.which.Which.{Which}
use Rattle.lua_flat.specs.LuaHeapValue.{Nil}
use Rattle.lua_store.specs.Parts.{IsLater}
use Rattle.lua_flat.specs.LuaSlotsCode.{CWorld}
use Rattle.lua_stack.specs.LuaSlotsSlots.{Plain}
use Rattle.lua_code.specs.LuaSlotsEnact.{Funds, all_given_back}
use Rattle.lua_flat.specs.Operations.{Codes}
use Rattle.lua_flat.specs.Flat.{Flat}
use Rattle.lua_flat.specs.Moves.{room_in, flat_moves, FStands, FShort, flat_enact}
use Rattle.lua_flat_loop.specs.declared.standing.Exit.{Exit}
use Rattle.lua_flat_loop.specs.declared.standing.Exit.TheVariants as exit
use Rattle.lua_flat_loop.specs.Code.{AreReady}
use Rattle.lua_flat_loop.specs.Standing.{Stand, Beside, flat_of, funds_of, Sound}

-- so many registers more, which read as nil as they did before
abbrev pub widened : ℕ → Flat → Flat
widened n f = record f { regs = f.regs ++ replicate n (Plain Nil) }

-- FROM WHERE A FLAT MACHINE STOOD, TO WHERE IT STANDS: a list of its moves that grows at its end
module _ (world : CWorld) (codes : Codes) where
  pub data FlatReaches (f : Flat) (m : Funds) : Flat → Funds → Type 0 where
    here : FlatReaches f m f m
    further : (g : Flat) (n : Funds) (room : ℕ) (g' : Flat) (n' : Funds) → FlatReaches f m g n → room_in codes g.acts g ≤ room → flat_enact (flat_moves world codes room g) n ≡ FStands g' n' → FlatReaches f m g' n'
    wider : (g : Flat) (n : Funds) (more : ℕ) → FlatReaches f m g n → FlatReaches f m (widened more g) n

  -- AND THEN AN ALLOWANCE IS SPENT by the next move, with this left
  pub record FlatSpends (f : Flat) (m : Funds) (which : Which) (left : Funds) (g : Flat) : Type 0 where
    pub funds : Funds
    pub room : ℕ
    pub reaches : FlatReaches f m g funds
    pub enough : room_in codes g.acts g ≤ room
    pub short : flat_enact (flat_moves world codes room g) funds ≡ FShort which (all_given_back left)

-- in whatever world the modules are ready, whatever is held beside and was told before
abbrev pub Leads : Stand → Stand → Type 0
Leads x y = (world : CWorld) (codes : Codes) (b : Beside) (told : Tally) → AreReady world codes x.store x.modules
    → FlatReaches world codes (flat_of b x) (funds_of told x) (flat_of b y) (funds_of told y)

-- the machine that spends it has the objects of the store that are there then
pub record SpentIn (world : CWorld) (codes : Codes) (b : Beside) (told : Tally) (x : Stand) (which : Which) (y : Stand) : Type 0 where
  pub last : Flat
  pub spends : FlatSpends world codes (flat_of b x) (funds_of told x) which (funds_of told y) last
  pub still : y.store.heap ≡ last.slots.heap

abbrev pub Spends : Stand → Which → Stand → Type 0
Spends x which y = (world : CWorld) (codes : Codes) (b : Beside) (told : Tally) → AreReady world codes x.store x.modules → SpentIn world codes b told x which y

abbrev pub Ends : Stand → Exit → Stand → Type 0
Ends x exit.Aside y = Leads x y
Ends x exit.Full y = Leads x y
Ends x (exit.Spent which) y = Spends x which y
Ends x exit.NoMemory y = Unit {0}

pub record Stopped (x : Stand) (why : Exit) (y : Stand) : Type 0 where
  pub ends : Ends x why y
  pub sound : Sound y
  pub later : IsLater x.store y.store
