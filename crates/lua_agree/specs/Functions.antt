-- A FUNCTION of a run over names, and one of a machine (manual 2.5.9, 2.6): code is found under its number, and what it captures stands for
-- the cells of its names.
use Rattle.std.specs.Prelude.{◌≡◌, ℕ, List, [], Option, Some, None}
use Rattle.lua_slots.specs.LuaSyntaxTree.{Exp, Block, Fields, NoField}
use Rattle.lua_heap.specs.Proc.{Proc}
use Rattle.lua_heap.specs.Related.{Map}
use Rattle.lua_slots.specs.LuaMeaningScope.{Bytes, Function, cell_of}
use Rattle.lua_library_agree.specs.LuaMeaningParts.{Expression, Statement}
use Rattle.lua_library_agree.specs.LuaMeaningMeaning.{expression, block}
use Rattle.lua_slots.specs.Code.{Up, CExp, CBlock, CFields, CProto, Protos, CWorld}
use Rattle.lua_slots.specs.Sight.{Sight, Everywhere, up_of, inside}
use Rattle.lua_slots.specs.IsCode.{EndSight, any_sight, IsExp, IsFields, IsFun, IsBlock}
use Rattle.lua_slots.specs.Slots.{Activation, newest_function}
use Rattle.lua_slots.specs.Calls.{code_of}
use Rattle.lua_agree.specs.Variables.{HasCells, SameVar}

-- the meanings of parts of the tree that may be absent, and which code is theirs: the last block of an `if`, the step of a loop
abbrev pub other_of : Option Block → Option Statement
other_of None = None
other_of (Some b) = Some (block b)

abbrev pub step_of : Option Exp → Option Expression
step_of None = None
step_of (Some e) = Some (expression e)

module _ (at : Protos) (see : Sight) where
  abbrev pub IsOther : Option Block → Option CBlock → Type 0
  IsOther None None = Unit {0}
  IsOther (Some b) (Some c) = IsBlock at any_sight see b c
  IsOther _ _ = ⊥

  abbrev pub IsStep : Option Exp → Option CExp → Type 0
  IsStep None None = Unit {0}
  IsStep (Some e) (Some c) = IsExp at see e c
  IsStep _ _ = ⊥

  -- fields of which there is one
  abbrev pub IsMoreFields : Fields → CFields → Type 0
  IsMoreFields NoField cs = ⊥
  IsMoreFields fields cs = IsFields at see fields cs

module _ (code : CWorld) where
  pub record SameFunction (m : Map) (a : Function) (b : Proc) : Type 0 where
    pub title : a.source ≡ b.title
    pub see : Sight
    pub names : List Bytes
    pub proto : CProto
    pub found : (code_of (code.modules b.title)).function b.index ≡ Some proto
    pub code_ : IsFun (code_of (code.modules b.title)) (inside names see) a.node proto
    pub cells : (x : Bytes) (i : ℕ) → up_of names x ≡ Some i → SameVar m [] b.cells (Up i) (cell_of a.names x)
    pub globals : (x : Bytes) → see x ≡ Everywhere → up_of names x ≡ None → cell_of a.names x ≡ None
    pub has_cells : HasCells m b.cells

  -- the functions and constants of the running module
  abbrev pub here : List Activation → Protos
  here fns = code_of (code.modules (newest_function fns).source)

  -- what is asked of the sight at the end of a block: that the test of a `repeat` is code there, where one follows
  abbrev pub end_of : List Activation → Option (Exp × CExp) → EndSight
  end_of fns None = any_sight
  end_of fns (Some t) = λ see. IsExp (here fns) see t.0 t.1
