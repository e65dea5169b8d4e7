-- ARGUMENTS that are read in place go behind values that stand before them.
use Rattle.std.proofs.Common.{◌≡◌, ◌∙◌, ◌<◌, ◌^◌, ◌+◌, ℕ, List, [], ◌∷◌, ◌++◌, append_assoc, append-nil, Some, refl, sym, ap}
use Rattle.lua_code.specs.LuaSlotsCode.{CExp, CExps, NoC, MoreC}
use Rattle.lua_turns.specs.LuaStoreDeclaredValueValue.{Value}
use Rattle.lua_turns.specs.LuaStoreSeen.{StoreView}
use Rattle.lua_turns.specs.LuaStateDeclaredStateState.{State}
use Rattle.lua_turns.specs.LuaStridesDeclaredReadingValueRead.{ValueRead}
use Rattle.lua_turns.specs.LuaStridesDeclaredReadingListRead.{ListRead}
use Rattle.lua_turns.specs.LuaStridesReads.{ReadsTo, ReadsAll}
use Rattle.lua_turns.proofs.LuaStridesReadings.{Gathers, gathers_none, gathers_more, gathers_all}
use Rattle.lua_rows.specs.Ready.{StandBehind}

-- the values that were read so far, and what is left
pub record Behind (s : StoreView) (m : State) (all left : CExps) (before now : List Value) (nodes : ℕ) : Type 0 where
  pub values : List Value
  pub behind : now ≡ before ++ values
  pub gathers : Gathers s m all left values nodes

pub none_behind : (s : StoreView) (m : State) (all : CExps) (before : List Value) → Behind s m all all before before 0
none_behind s m all before = record { values = []; behind = sym (append-nil before); gathers = gathers_none s m all [] refl }

pub more_behind : (s : StoreView) (m : State) (all rest : CExps) (e : CExp) (before now new : List Value) (n j : ℕ) (r : ValueRead) → Behind s m all (MoreC e rest) before now n → ReadsTo s m e (Some r) → new ≡ now ++ r.value ∷ [] → j ≡ n + r.nodes → j < 2 ^ 32
    → Behind s m all rest before new j
more_behind s m all rest e before now new n j r b got pushed sum small = record {
  values = b.values ++ r.value ∷ [];
  behind = pushed ∙ ap (λ (vs : List Value). vs ++ r.value ∷ []) b.behind ∙ append_assoc before b.values (r.value ∷ []);
  gathers = gathers_more s m all rest e b.values (b.values ++ r.value ∷ []) n j r b.gathers got refl sum small;
}

pub all_behind : (s : StoreView) (m : State) (all left : CExps) (before now : List Value) (n : ℕ) → left ≡ NoC → Behind s m all left before now n → StandBehind s m all before now n
all_behind s m all left before now n none b =
    let list : ListRead = record { values = b.values; nodes = n } in
    let known : ReadsAll s m all (Some list) = gathers_all s m all left b.values n list none refl refl b.gathers in
    record { values = b.values; behind = b.behind; of = known.of; few = known.few; read = known.is }
