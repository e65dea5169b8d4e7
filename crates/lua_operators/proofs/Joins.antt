-- Two values that are texts or numbers become one text.
use Rattle.std.proofs.Common.{◌≡◌, ◌∙◌, ℕ, List, [], ◌∷◌, ◌++◌, length, Option, Some, sym, ap}
use Rattle.std.specs.Option.{option_map}
use Rattle.lua_code.specs.LuaHeapValue.{Value, Text}
use Rattle.lua_code.specs.LuaMeaningValues.{text_in}
use Rattle.lua_arms.specs.LuaStoreSeen.{StoreView}
use Rattle.lua_arms.specs.LuaBasicArguments.{text_bytes}
use Rattle.lua_arms.specs.LuaBasicDeclaredTextsTextIn.{TextIn}
use Rattle.lua_arms.specs.LuaSlotsSlots.{Slots, with_heap}
use Rattle.lua_arms.specs.LuaSlotsPoints.{Costs}
use Rattle.lua_arms.specs.LuaSlotsErrors.{gives}
use Rattle.lua_code.specs.LuaSlotsEnact.{Funds, enact}
use Rattle.lua_code.specs.LuaSlotsOperators as machine
use Rattle.lua_arms.specs.LuaStackDeclaredFrameFrame.{Frame}
use Rattle.lua_arms.specs.LuaStackSeen.{frames_seen}
use Rattle.lua_arms.specs.declared.step.Paid.{Paid}
use Rattle.lua_arms.specs.Paid.{paid_seen}
use Rattle.lua_operators.proofs.Charges.{at_heap}

pub text_is : (o : Option TextIn) (t : TextIn) (x : List ℕ) (v : Option (List ℕ)) → option_map text_bytes o ≡ v → o ≡ Some t → x ≡ text_bytes t → v ≡ Some x
text_is o t x v e w q = sym e ∙ ap (option_map text_bytes) w ∙ ap Some (sym q)

pub joined_at : (old new : StoreView) (a b : Value) (x y : List ℕ) (line : Option ℕ) (frames : List Frame) (s : Slots) (f g : Funds) (r : Paid) → text_in a ≡ Some x → text_in b ≡ Some y
    → frames_seen new.texts frames ≡ frames_seen old.texts frames → s.heap ≡ old.heap → new.heap ≡ old.heap
    → enact (Costs (length (x ++ y)) (gives (Text (x ++ y) ∷ []) (frames_seen new.texts frames) s)) f ≡ paid_seen new r (frames_seen new.texts frames) s g
    → enact (machine.join_texts a b (text_in a) (text_in b) line (frames_seen old.texts frames) s) f ≡ paid_seen new r (frames_seen new.texts frames) (with_heap new.heap s) g
joined_at old new a b x y line frames s f g r p q e h k w =
    at_heap new.heap s _ (λ (z : Slots). paid_seen new r (frames_seen new.texts frames) z g)
    (ap (λ o. enact (machine.join_texts a b o (text_in b) line (frames_seen old.texts frames) s) f) p
    ∙ ap (λ o. enact (machine.join_texts a b (Some x) o line (frames_seen old.texts frames) s) f) q
    ∙ ap (λ fs. enact (Costs (length (x ++ y)) (gives (Text (x ++ y) ∷ []) fs s)) f) (sym e) ∙ w) (h ∙ sym k)
