-- THE FLAT MACHINE FOR WHICH THE LOOP STANDS: what it holds, and what is left.
use Rattle.std.specs.Prelude.{◌≤◌, ◌-◌, List, [], ◌∷◌, length, take, drop, reverse, slice_get, Option, Some, None}
use Rattle.std.specs.List.{AllByRecursion}
use Rattle.page_run.specs.State.{Tally}
use Rattle.lua_flat.specs.LuaHeapValue.{Value as Plain}
use Rattle.lua_store.specs.declared.ids.TableId.{TableId}
use Rattle.lua_store.specs.Seen.{StoreView, text_at}
use Rattle.lua_store.specs.Parts.{IsTableOf}
use Rattle.lua_code.specs.LuaMeaningScope.{Bytes}
use Rattle.lua_stack.specs.LuaSlotsSlots.{Activation, Slots}
use Rattle.lua_stack.specs.LuaSlotsPoints.{SFrame}
use Rattle.lua_code.specs.LuaSlotsEnact.{Funds}
use Rattle.lua_stack.specs.declared.register.Slot.{Slot}
use Rattle.lua_stack.specs.Seen.{Texts, registers_seen, captured_by}
use Rattle.lua_stack.specs.Of.{RegistersOf, MayBeClosureOf}
use Rattle.lua_flat.specs.Flat as flat
use Rattle.lua_flat.specs.Flat.{Flat, AtPlace}
use Rattle.lua_flat_loop.specs.declared.ready.Ready.{Ready}
use Rattle.lua_flat_loop.specs.declared.standing.Act.{Act}
use Rattle.lua_flat_loop.specs.declared.standing.At.{At}
use Rattle.lua_flat_loop.specs.declared.standing.Purse.{Purse}
use Rattle.lua_flat_loop.specs.Code.{ReadyOf}

-- what the loop reads and writes
pub record Stand : Type 0 where
  pub store : StoreView
  pub modules : List Ready
  pub globals : TableId
  pub regs : List Slot
  pub acts : List Act
  pub purse : Purse
  pub at : At

-- and what it leaves alone: the frames that wait for outcomes of functions in progress, and their values of `...`, both with those of the
-- newest function first; and whatever else a machine holds
pub record Beside : Type 0 where
  pub frames : List SFrame
  pub dots : List Plain
  pub slots : Slots

-- FUNCTIONS IN PROGRESS, the newest first
abbrev pub running : Stand → List Act
running x = x.at.act ∷ reverse (take x.at.depth x.acts)

abbrev pub acts_seen : List SFrame → List Act → List flat.Act
acts_seen fs [] = []
acts_seen fs (a ∷ acts) = record { index = a.index; pc = a.pc; base = a.base; frames = take a.frames fs } ∷ acts_seen (drop a.frames fs) acts

abbrev pub title_of : Texts → Option Ready → Bytes
title_of texts (Some m) = text_at texts m.title.at
title_of texts None = []

abbrev pub activation_seen : StoreView → List Ready → List Plain → Act → Activation
activation_seen s modules dots a = record {
  cells = captured_by s.heap a.closure;
  dots = dots;
  source = title_of s.texts (slice_get modules a.source);
  called_at = a.called_at;
  base = 0;
}

abbrev pub activations_seen : StoreView → List Ready → List Plain → List Act → List Activation
activations_seen s modules dots [] = []
activations_seen s modules dots (a ∷ acts) = activation_seen s modules (take a.dots dots) a ∷ activations_seen s modules (drop a.dots dots) acts

-- THE MACHINE, at the place of its next operation
abbrev pub flat_of : Beside → Stand → Flat
flat_of b x = record {
  point = AtPlace;
  acts = acts_seen b.frames (running x);
  regs = registers_seen x.store.texts x.regs;
  top = x.at.top;
  slots = record b.slots { heap = x.store.heap; globals = x.globals.at; functions = activations_seen x.store x.modules b.dots (running x) };
}

-- WHAT IS LEFT, where this is told of the run otherwise
abbrev pub funds_of : Tally → Stand → Funds
funds_of told x = record {
  left = record x.purse.left { steps = x.at.rest };
  in_progress = x.purse.calls;
  tally = record told { height = x.purse.height; nodes = x.at.total - x.at.rest };
}

-- whatever is held is of the store, and steps that are left are told
pub record Sound (x : Stand) : Type 0 where
  pub modules : AllByRecursion (ReadyOf x.store) x.modules
  pub globals : IsTableOf x.store x.globals
  pub regs : RegistersOf x.store x.regs
  pub act : MayBeClosureOf x.store x.at.act.closure
  pub acts : AllByRecursion (λ a. MayBeClosureOf x.store a.closure) x.acts
  pub waiting : x.at.depth ≤ length x.acts
  pub within : x.at.rest ≤ x.at.total
