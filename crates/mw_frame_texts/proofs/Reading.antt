-- Attributes that are read, one after another.
use Rattle.std.proofs.Common.{◌≡◌, ◌∙◌, ap, sym, refl, true, false, List, [], ◌∷◌, ◌++◌, append_assoc, append-nil, Option, Some, None, Ok, Err}
use Rattle.std.specs.Option.{option_map}
use Rattle.mw_frames.specs.LuaHeapValue.{Value, is_nil}
use Rattle.mw_frames.specs.LuaHeapTable.{Entries}
use Rattle.mw_frames.specs.LuaMeaningScope.{Bytes}
use Rattle.mw_frames.specs.LuaMeaningValues.{text_in}
use Rattle.mw_frames.specs.LuaMeaningArguments.{Argument}
use Rattle.mw_frames.specs.LuaMeaningTag.{attribute, named_attribute, no_attribute, and_then, attributes}
use Rattle.mw_frames.specs.LuaBasicArguments.{text_bytes}
use Rattle.mw_frames.specs.LuaBasicDeclaredTextsTextIn.{TextIn}
use Rattle.mw_frame_texts.specs.declared.attributes.AttrText.{AttrText}
use Rattle.mw_frame_texts.specs.declared.attributes.AttrValue.{AttrValue}
use Rattle.mw_frame_texts.specs.Read.{found_value}
use Rattle.mw_frame_texts.specs.Written.{attr_written, attrs_written}

behind_more : (a w : Bytes) (r : Argument Bytes) → and_then (Ok (a ++ w)) r ≡ and_then (Ok a) (and_then (Ok w) r)
behind_more a w (Ok b) = ap Ok (append_assoc a w b)
behind_more a w (Err message) = refl

pub nothing-before : (r : Argument Bytes) → and_then (Ok []) r ≡ r
nothing-before (Ok b) = refl
nothing-before (Err message) = refl

pub attrs-push : (xs : List AttrText) (x : AttrText) → attrs_written (xs ++ x ∷ []) ≡ attrs_written xs ++ attr_written x
attrs-push [] x = append-nil (attr_written x)
attrs-push (y ∷ ys) x = ap (λ l. attr_written y ++ l) (attrs-push ys x) ∙ sym (append_assoc (attr_written y) (attrs_written ys) (attr_written x))

live : (e : Value × Value) (more : Entries) → is_nil e.1 ≡ false → attributes (e ∷ more) ≡ and_then (named_attribute (text_in e.0) e) (attributes more)
live e more h = rw h refl

-- a cleared entry
pub passed : (xs : List AttrText) (e : Value × Value) (more : Entries) → is_nil e.1 ≡ true → and_then (Ok (attrs_written xs)) (attributes more) ≡ and_then (Ok (attrs_written xs)) (attributes (e ∷ more))
passed xs e more h = rw h refl

-- what is written of a name and a value
pub named : (e : Value × Value) (name : TextIn) (found : Option TextIn) (v : AttrValue) → option_map text_bytes found ≡ text_in e.0 → found ≡ Some name → attribute (text_bytes name) (text_in e.1) e.1 ≡ found_value (text_bytes name) e.1 v
    → named_attribute (text_in e.0) e ≡ found_value (text_bytes name) e.1 v
named e name found v k is h = ap (λ o. named_attribute o e) (sym k) ∙ ap (λ o. named_attribute (option_map text_bytes o) e) is ∙ h

pub no_name : (e : Value × Value) (found : Option TextIn) → option_map text_bytes found ≡ text_in e.0 → found ≡ None → named_attribute (text_in e.0) e ≡ no_attribute e.0
no_name e found k is = ap (λ o. named_attribute o e) (sym k) ∙ ap (λ o. named_attribute (option_map text_bytes o) e) is

-- one that is written
pub taken : (xs ys : List AttrText) (x : AttrText) (e : Value × Value) (more : Entries) → is_nil e.1 ≡ false → named_attribute (text_in e.0) e ≡ Ok (attr_written x) → ys ≡ xs ++ x ∷ []
    → and_then (Ok (attrs_written ys)) (attributes more) ≡ and_then (Ok (attrs_written xs)) (attributes (e ∷ more))
taken xs ys x e more h a y =
    let rest = attributes more in
    ap (λ l. and_then (Ok (attrs_written l)) rest) y ∙ ap (λ l. and_then (Ok l) rest) (attrs-push xs x) ∙ behind_more (attrs_written xs) (attr_written x) rest
    ∙ ap (λ r. and_then (Ok (attrs_written xs)) (and_then r rest)) (sym a) ∙ ap (and_then (Ok (attrs_written xs))) (sym (live e more h))

-- one of which nothing is written
pub left_out : (xs : List AttrText) (e : Value × Value) (more : Entries) → is_nil e.1 ≡ false → named_attribute (text_in e.0) e ≡ Ok []
    → and_then (Ok (attrs_written xs)) (attributes more) ≡ and_then (Ok (attrs_written xs)) (attributes (e ∷ more))
left_out xs e more h a =
    let rest = attributes more in
    ap (and_then (Ok (attrs_written xs))) (sym (nothing-before rest) ∙ ap (λ r. and_then r rest) (sym a) ∙ sym (live e more h))

-- one that is none
pub refused : (xs : List AttrText) (e : Value × Value) (more : Entries) (message : Bytes) → is_nil e.1 ≡ false → named_attribute (text_in e.0) e ≡ Err message
    → and_then (Ok (attrs_written xs)) (attributes (e ∷ more)) ≡ Err message
refused xs e more message h a = ap (and_then (Ok (attrs_written xs))) (live e more h) ∙ ap (λ r. and_then (Ok (attrs_written xs)) (and_then r (attributes more))) a

pub all-read : (xs : List AttrText) (es : Entries) → es ≡ [] → and_then (Ok (attrs_written xs)) (attributes es) ≡ Ok (attrs_written xs)
all-read xs es e = ap (λ l. and_then (Ok (attrs_written xs)) (attributes l)) e ∙ ap Ok (append-nil (attrs_written xs))
