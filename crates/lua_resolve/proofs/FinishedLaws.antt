-- Functions that are done: one more of them, and all of a module.
use Rattle.std.proofs.Common.{◌≡◌, ℕ, zero, suc, Bool, true, sym, subst, List, [], ◌∷◌, ◌++◌, Some, option_map, slice_get}
use Rattle.lua_code.specs.LuaMeaningScope.{Bytes}
use Rattle.lua_code.specs.LuaSlotsCode.{CProto}
use Rattle.lua_code.specs.declared.proto.Proto.{Proto}
use Rattle.lua_code.specs.Seen.{proto_seen, protos_seen}
use Rattle.lua_cells.specs.Cells.{HasNoIdleCell, NoIdleCells}
use Rattle.lua_resolve.specs.Finished.{AllTight}

pub one_more : (ps : List Proto) (p : Proto) → AllTight ps → HasNoIdleCell (proto_seen p) → AllTight (ps ++ p ∷ [])
one_more [] p h k = (k, tt)
one_more (q ∷ ps) p h k = (h.0, one_more ps p h.1 k)

pub pushed : (ps qs : List Proto) (p : Proto) (tight now : Bool) → (tight ≡ true → AllTight ps) → (now ≡ true → (tight ≡ true) × HasNoIdleCell (proto_seen p)) → qs ≡ ps ++ p ∷ [] → now ≡ true → AllTight qs
pushed ps qs p tight now so both e t = let h = both t in subst AllTight (sym e) (one_more ps p (so h.0) h.1)

same : (x : Proto) (p : CProto) → Some (proto_seen x) ≡ Some p → proto_seen x ≡ p
same x p e = cc

tight_at : (fs : List Proto) → AllTight fs → (i : ℕ) (p : CProto) → option_map proto_seen (slice_get fs i) ≡ Some p → HasNoIdleCell p
tight_at [] f i p e = cc
tight_at (x ∷ fs) f zero p e = subst HasNoIdleCell (same x p e) f.0
tight_at (x ∷ fs) f (suc i) p e = tight_at fs f.1 i p e

-- number 0 is the text
pub all_cells : (text : Proto) (functions : List Proto) (constants : List Bytes) → HasNoIdleCell (proto_seen text) → AllTight functions → NoIdleCells (protos_seen (record { text = text; functions = functions; constants = constants }))
all_cells text functions constants h rest zero p e = subst HasNoIdleCell (same text p e) h
all_cells text functions constants h rest (suc i) p e = tight_at functions rest i p e
