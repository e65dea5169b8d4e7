-- CODE OF A DATA MODULE, and what comes of it: the same as of its tree, to the step, where the load ends and where its steps are spent.
use Rattle.std.specs.Prelude.{◌≡◌, false, [], ◌∷◌, codes}
use Rattle.lua_meaning.specs.Trial.{load_module}
use Rattle.lua_meaning.specs.ExampleCharges.{data_start}
use Rattle.lua_slots.specs.Code.{TextC, TableC, NoC, MoreC, NoFieldC, PairC, ReturnC, EndC, ThenC, CProto, Protos}
use Rattle.lua_slots.specs.IsCode.{IsProtos}
use Rattle.lua_slots.specs.Trial.{code_with}
use Rattle.lua_slots.specs.Trial as run

-- The load ends with 1,031 steps, none of which is left; with one step less it is spent.
--     return {x='v'}
abbrev pub data_start_0 : CProto
data_start_0 = record {
  flags = [];
  dots = false;
  body =
      (ThenC (ReturnC (MoreC (TableC (PairC (TextC 0) (TextC 1) NoFieldC) 1) NoC)) EndC);
}

abbrev pub data_start_code : Protos
data_start_code = code_with (codes "x" ∷ codes "v" ∷ []) (data_start_0 ∷ [])

abbrev pub DataStartIsCode : Type 0
DataStartIsCode = IsProtos data_start_code data_start

abbrev pub DataStartAlike : Type 0
DataStartAlike = (run.load_module (codes "D") 14 data_start_code 1031 ≡ load_module (codes "D") 14 data_start 1031) × (run.load_module (codes "D") 14 data_start_code 1030 ≡ load_module (codes "D") 14 data_start 1030)

-- all of these
abbrev pub AllLoads : Type 0
AllLoads = DataStartIsCode × DataStartAlike
