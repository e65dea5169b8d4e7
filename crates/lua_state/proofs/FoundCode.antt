-- CODE THAT WAS FOUND: what is known of a text is of its module, also where more is put in.
use Rattle.std.proofs.Common.{◌≡◌, ◌∙◌, refl, sym, ap, subst, ℕ, Bool, true, false, cond, List, [], ◌∷◌, Option, Some, Result, Ok, Err, option_map, Bor}
use Rattle.std.specs.Prelude.{IfSome}
use Rattle.std.specs.Map.{lookup}
use Rattle.std.proofs.lemmas.Bool.Decides.{Decides-eqb}
use Rattle.indexmap.specs.IndexMap.{insert_entry}
use Rattle.lua_code.specs.LuaSyntaxDeclaredFaultFaultAt.{FaultAt}
use Rattle.lua_code.specs.declared.modules.Module.{Module}
use Rattle.lua_code.specs.declared.proto.Proto.{Proto}
use Rattle.lua_code.specs.declared.proto.Protos.{Protos}
use Rattle.lua_code.specs.Seen.{proto_seen, protos_seen}
use Rattle.lua_code.specs.Held.{code_seen, module_seen}
use Rattle.lua_code.specs.LuaSlotsCode.{CWorld, Protos as PlainProtos}
use Rattle.lua_arms.specs.LuaSlotsCalls.{no_code, code_in, code_of}
use Rattle.mw_frames.specs.LuaStoreDeclaredIdsTextId.{TextId}
use Rattle.mw_frames.specs.LuaStoreContractsIdsTextIdPartialEqTheImpl.{ghosts as text_id}
use Rattle.mw_frames.specs.LuaStoreSeen.{StoreView}
use Rattle.lua_state.specs.declared.codes.Known.{Known}
use Rattle.lua_state.specs.declared.codes.Recent.{Recent}
use Rattle.lua_state.specs.Worlds.{IsFound, AreFound}

pub same_id : (a b : TextId) → text_id.eq a b ≡ true → a ≡ b
same_id a b e = let is : a.at ≡ b.at = (Decides-eqb a.at b.at).0 e in ap (λ n. let id : TextId = record { at = n } in id) is

module _ (w : CWorld) (s : StoreView) where
  pub looked_up : (es : List (TextId × Known)) (source : TextId) → AreFound w s es → IfSome (lookup (text_id.eq source) es) (λ k. IsFound w s source k.functions.now)
  looked_up [] source all = tt
  looked_up (e ∷ es) source all = by (text_id.eq source e.0) refl (looked_up es source all.1)
    where
      by : (b : Bool) → text_id.eq source e.0 ≡ b → IfSome (lookup (text_id.eq source) es) (λ k. IsFound w s source k.functions.now) → IfSome (cond b (Some e.1) (lookup (text_id.eq source) es)) (λ k. IsFound w s source k.functions.now)
      by true p later = subst (λ id. IsFound w s id e.1.functions.now) (sym (same_id source e.0 p)) all.0
      by false p later = later

  pub noted : (es : List (TextId × Known)) (source : TextId) (k : Known) → AreFound w s es → IsFound w s source k.functions.now → AreFound w s (insert_entry text_id.eq es source k)
  noted [] source k all h = (h, tt)
  noted (e ∷ es) source k all h = by (text_id.eq source e.0) refl (noted es source k all.1 h)
    where
      by : (b : Bool) → text_id.eq source e.0 ≡ b → AreFound w s (insert_entry text_id.eq es source k) → AreFound w s (cond b ((e.0, k) ∷ es) (e ∷ insert_entry text_id.eq es source k))
      by true p later = (subst (λ id. IsFound w s id k.functions.now) (same_id source e.0 p) h, all.1)
      by false p later = (all.0, later)

  -- the module that was asked for last is asked for again
  pub again : (r : Recent) (source : TextId) → text_id.eq r.source source ≡ true → IsFound w s r.source r.code.functions.now → IsFound w s source r.code.functions.now
  again r source e h = subst (λ id. IsFound w s id r.code.functions.now) (same_id r.source source e) h

-- CODE as it is seen
pub code_found : (m : Module) (functions : Protos) → m.code ≡ Ok functions → code_of (Some (module_seen m)) ≡ protos_seen functions
code_found m functions e = ap (λ (c : Result Protos FaultAt). code_in (code_seen c)) e

pub code_faulty : (m : Module) (fault : FaultAt) → m.code ≡ Err fault → code_of (Some (module_seen m)) ≡ no_code
code_faulty m fault e = ap (λ (c : Result Protos FaultAt). code_in (code_seen c)) e

-- the functions that are found are those of the module, and so are its constants
pub function_is : (code functions : PlainProtos) (index : ℕ) (p : Option (Bor Proto)) → code ≡ functions → option_map (λ f. proto_seen f.now) p ≡ functions.function index → option_map (λ f. proto_seen f.now) p ≡ code.function index
function_is code functions index p h e = e ∙ ap (λ (x : PlainProtos). x.function index) (sym h)

pub constant_is : (code functions : PlainProtos) (number : ℕ) (bytes : List ℕ) → code ≡ functions → bytes ≡ functions.constant number → bytes ≡ code.constant number
constant_is code functions number bytes h e = e ∙ ap (λ (x : PlainProtos). x.constant number) (sym h)
