-- A FLAT MACHINE: registers, functions in progress, and what is next. What it holds beside these is what a machine over trees holds
-- (`Slots`), whose registers are empty here and whose functions in progress have no base.
use Rattle.std.specs.Prelude.{ℕ, List}
use Rattle.lua_slots.specs.Slots.{Slot, Slots}
use Rattle.lua_slots.specs.Points.{SFrame, Point}

-- A FUNCTION IN PROGRESS: its number in its module, the place of its next operation, or of the one at which it waits; its first register;
-- and the frames that wait for its outcome before the function that called it does: a protected call, or a handler's
pub record Act : Type 0 where
  pub index : ℕ
  pub pc : ℕ
  pub base : ℕ
  pub frames : List SFrame

-- WHAT IS NEXT: the operation at the place of the newest function; or a point of the machine over trees at which no code is, to whose
-- outcome the operation at that place comes back
pub data FlatPoint : Type 0 where
  AtPlace : FlatPoint
  Away : (point : Point) → FlatPoint

-- functions in progress stand with the newest first. Where as many values were given as there were, the top is the register behind them.
pub record Flat : Type 0 where
  pub point : FlatPoint
  pub acts : List Act
  pub regs : List Slot
  pub top : ℕ
  pub slots : Slots

-- A MOVE of it, as moves of the machine over trees are told, and with nodes that were begun and are paid at once
pub data FlatMove : Type 0 where
  FNodes : (count : ℕ) → FlatMove → FlatMove
  FCosts : (steps : ℕ) → FlatMove → FlatMove
  FMarks : FlatMove → FlatMove
  FEnters : FlatMove → FlatMove
  FExits : FlatMove → FlatMove
  FNow : Flat → FlatMove
