-- What `mw_text` writes of copies is what is written here.
use Rattle.std.proofs.Common.{◌≡◌, ◌∙◌, ap, sym, refl, ℕ, List, [], ◌∷◌, ◌++◌, append_assoc, append-nil, Some, codes}
use Rattle.std.specs.Option.{option_map}
use Rattle.mw_frames.specs.LuaMeaningTag as meaning
use Rattle.mw_text.specs.Tag as text
use Rattle.mw_text.specs.declared.tagging.TagAttr.{TagAttr}
use Rattle.mw_text.specs.declared.tagging.TagValue.TheVariants as tag_value
use Rattle.mw_frames.specs.LuaBasicArguments.{text_bytes}
use Rattle.mw_frames.specs.LuaBasicDeclaredTextsTextIn.{TextIn}
use Rattle.mw_frame_texts.specs.declared.attributes.AttrText.{AttrText}
use Rattle.mw_frame_texts.specs.Written.{attribute_written, attr_written}

encode_behind_same : (before : ℕ) (cs : List ℕ) → text.encode_behind before cs ≡ meaning.encode_behind before cs
encode_behind_same before [] = refl
encode_behind_same before (c ∷ cs) = ap (λ more. meaning.encode_byte before c cs ++ more) (encode_behind_same c cs)

encode_same : (cs : List ℕ) → text.encode cs ≡ meaning.encode cs
encode_same cs = encode_behind_same 0 cs

pub attributes-push : (xs : List TagAttr) (x : TagAttr) → text.attributes (xs ++ x ∷ []) ≡ text.attributes xs ++ text.attribute x.name x.value
attributes-push [] x = append-nil (text.attribute x.name x.value)
attributes-push (y ∷ ys) x =
    ap (λ l. text.attribute y.name y.value ++ l) (attributes-push ys x) ∙ sym (append_assoc (text.attribute y.name y.value) (text.attributes ys) (text.attribute x.name x.value))

pub attribute_same : (name bytes : List ℕ) (attr : AttrText) (value : TextIn) → name ≡ text_bytes attr.name → bytes ≡ text_bytes value → attr.value ≡ Some value → text.attribute name (tag_value.Text bytes) ≡ attr_written attr
attribute_same name bytes attr value n t is =
    ap (λ x. codes " " ++ x ++ codes "=\"" ++ text.encode bytes ++ codes "\"") n
    ∙ ap (λ x. codes " " ++ text_bytes attr.name ++ codes "=\"" ++ x ++ codes "\"") (encode_same bytes ∙ ap meaning.encode t)
    ∙ ap (λ o. attribute_written (text_bytes attr.name) (option_map text_bytes o)) (sym is)
