-- Normal forms: that one costs its bytes, and is given for them.
use Rattle.std.proofs.Common.{◌≡◌, ◌∙◌, ap, refl, arith, ◌≤◌, Bool, true, false, List, [], ◌∷◌, length, Option, Some, None, chars, encode_utf8_all, IsUtf8}
use Rattle.std.specs.Prelude.{if◌then◌else◌}
use Rattle.std.specs.Str.{is_utf8}
use Rattle.std.proofs.lemmas.Str.{is_utf8-from_IsUtf8}
use Rattle.unicode_normalization.specs.Forms.{Form, normalize}
use Rattle.mw_text.specs.MwUstringForms.{IsForm}
use Rattle.lua_number.specs.WkBaseDeclaredLeftLeft.{Left}
use Rattle.mw_frame_texts.specs.LuaHeapProc.{Proc}
use Rattle.mw_frame_texts.specs.LuaHeapHeap.{Heap}
use Rattle.mw_frame_texts.specs.LuaHeapValue.{Nil, Text}
use Rattle.mw_frame_texts.specs.LuaMeaningScope.{Bytes}
use Rattle.mw_frame_texts.specs.LuaMeaningArguments.{Gives, gives, gives_text}
use Rattle.mw_frame_texts.specs.LuaMeaningUstring.{in_form}
use Rattle.mw_frame_texts.specs.LuaStoreDeclaredValueValue.{Value}
use Rattle.mw_frame_texts.specs.LuaStoreSeen.{StoreView}
use Rattle.mw_frame_texts.specs.LuaBasicSeen.{values_seen, Covers}
use Rattle.mw_frame_texts.specs.MwFramesCosts.{Took}
use Rattle.mw_ustrings.specs.Forms.{form_charge, form_value}
use Rattle.mw_ustrings.proofs.Costs.{values_cover}
use Rattle.mw_ustrings.proofs.Utf8.{is_none}

charged_if : (b : Bool) (h : Heap Proc) (text : Bytes) → (if b then length text else 0) ≤ (if b then gives_text h text else gives h (Nil ∷ [])).charge
charged_if true h text = omega arith
charged_if false h text = omega arith

pub form_charged : (form : Form) (h : Heap Proc) (s : Bytes) → form_charge form s ≤ (in_form form h s).charge
form_charged form h s = charged_if (is_utf8 s) h (encode_utf8_all (normalize form (chars s)))

pub charge_there : (form : Form) (s : Bytes) → IsUtf8 s → form_charge form s ≡ length (encode_utf8_all (normalize form (chars s)))
charge_there form s k = rw (is_utf8-from_IsUtf8 s k) refl

pub charge_none : (form : Form) (s : Bytes) → (IsUtf8 s → ⊥) → form_charge form s ≡ 0
charge_none form s k = rw (is_none s k) refl

pub form_covers : (form : Form) (h : Heap Proc) (s : Bytes) (o : Option Bytes) (t : StoreView) (l m : Left) (vs : List Value) → IsForm form s o → Took (form_charge form s) l m → t.heap ≡ h
    → values_seen t.texts vs ≡ form_value o ∷ [] → Covers (in_form form h s) l t m (Gives (values_seen t.texts vs))
form_covers form h s None t l m vs k took heap is = rw (is_none s k) (values_cover 0 h t l m (Nil ∷ []) vs (rw (is_none s k) at took) heap is)
form_covers form h s (Some made) t l m vs k took heap is =
    let text = encode_utf8_all (normalize form (chars s)) in
    let same = ap (λ bytes. Text bytes ∷ []) k.1 in
    rw (is_utf8-from_IsUtf8 s k.0) (values_cover (length text) h t l m (Text text ∷ []) vs (rw (is_utf8-from_IsUtf8 s k.0) at took) heap (is ∙ same))
