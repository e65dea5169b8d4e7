-- The tag of HTML that `mw.text.tag` and `frame:extensionTag` give (Scribunto, mw.text.tag).
use Rattle.std.proofs.Common.{◌≡◌, true, false, List, ◌++◌, Option, Some, None, refl, ◌∙◌, ap}
use Rattle.std.specs.Prelude.{Err, codes}
use Rattle.lua_heap.specs.Value.{Value, is_nil}
use Rattle.lua_heap.specs.Table.{Entries}
use Rattle.lua_heap.specs.Heap.{Heap}
use Rattle.lua_heap.specs.Related.{Map, Each, none, more, Same, nil, truth, number, text, table, closure, builtin, markup, SameEntry, SameEntries, Stands}
use Rattle.lua_heap.proofs.Entries.{nil-related}
use Rattle.lua_meaning.specs.Scope.{Bytes}
use Rattle.lua_meaning.specs.Values.{text_in}
use Rattle.lua_meaning.specs.Arguments.{Argument}
use Rattle.lua_meaning.specs.Tag.{no_attribute, attribute, named_attribute, entry_attribute, and_then, attributes, passed_in, attributes_in, closed_by, TagParts, tag_of, extension_parts, extension_tag}
use Rattle.lua_library_agree.specs.Same.{SamePlain}
use Rattle.lua_library_agree.proofs.Values.{one-each, second-same, third-same, bad-same, text_in-same, a_text-same, text_charge-same}
use Rattle.lua_library_agree.proofs.Heaps.{chosen, passed-same, entries-stood, field-same, giving_text, with-equal, charging}

no_attribute-same : {m : Map} {v w : Value} → Same m v w → no_attribute v ≡ no_attribute w
no_attribute-same e = ap Err (bad-same 2 (codes "tag") (codes "string") (one-each e))

attribute-same : {m : Map} {v w : Value} (name : Bytes) → Same m v w → attribute name (text_in v) v ≡ attribute name (text_in w) w
attribute-same name nil = refl
attribute-same name (truth true) = refl
attribute-same name (truth false) = refl
attribute-same name (number n) = refl
attribute-same name (text t) = refl
attribute-same name (table a b e) = refl
attribute-same name (closure a b e) = refl
attribute-same name (builtin b) = refl
attribute-same name (markup a b e) = refl

named-same : {m : Map} (e f : Value × Value) → SameEntry m e f → (o : Option Bytes) → named_attribute o e ≡ named_attribute o f
named-same e f r (Some name) = attribute-same name r.value
named-same e f r None = no_attribute-same r.key

named_attribute-same : {m : Map} (e f : Value × Value) → SameEntry m e f → named_attribute (text_in e.0) e ≡ named_attribute (text_in f.0) f
named_attribute-same e f r = named-same e f r (text_in e.0) ∙ ap (λ o. named_attribute o f) (text_in-same r.key)

attributes-same : {m : Map} (es fs : Entries) → SameEntries m es fs → attributes es ≡ attributes fs
attributes-same _ _ none = refl
attributes-same {m} _ _ (more e f es fs r rest) =
    let more_ : attributes es ≡ attributes fs = attributes-same es fs rest in
    chosen (λ (x y : Argument Bytes). x ≡ y) (is_nil e.1) (is_nil f.1) (nil-related m _ _ r.value) more_
    (ap (λ a. and_then a (attributes es)) (named_attribute-same e f r) ∙ ap (and_then (named_attribute (text_in f.0) f)) more_)

closed_by-same : {m : Map} {v w : Value} (name : Bytes) → Same m v w → closed_by name v ≡ closed_by name w
closed_by-same name nil = refl
closed_by-same name (truth true) = refl
closed_by-same name (truth false) = refl
closed_by-same name (number n) = refl
closed_by-same name (text t) = refl
closed_by-same name (table a b e) = refl
closed_by-same name (closure a b e) = refl
closed_by-same name (builtin b) = refl
closed_by-same name (markup a b e) = refl

-- the parts of a tag, on both sides
pub record SameParts (m : Map) (p q : TagParts) : Type 0 where
  pub name : Each (Same m) p.name q.name
  pub attrs : Same m p.attrs q.attrs
  pub content : Same m p.content q.content

module _ {X Y : Type 0} (R : Map → X → Y → Type 0) (m : Map) (h : Heap X) (s : Heap Y) (st : Stands R m h s) where
  attributes_in-same : (v w : Value) → Same m v w → attributes_in h v ≡ attributes_in s w
  attributes_in-same _ _ nil = refl
  attributes_in-same _ _ (table a b e) = attributes-same _ _ (entries-stood R m h s st a b e)
  attributes_in-same _ _ (truth b) = refl
  attributes_in-same _ _ (number n) = refl
  attributes_in-same _ _ (text t) = refl
  attributes_in-same _ _ (closure a b e) = refl
  attributes_in-same _ _ (builtin b) = refl
  attributes_in-same _ _ (markup a b e) = refl

  passed_in-same : (v w : Value) → Same m v w → passed_in h v ≡ passed_in s w
  passed_in-same _ _ nil = refl
  passed_in-same _ _ (table a b e) = passed-same entry_attribute named_attribute-same _ _ (entries-stood R m h s st a b e)
  passed_in-same _ _ (truth b) = refl
  passed_in-same _ _ (number n) = refl
  passed_in-same _ _ (text t) = refl
  passed_in-same _ _ (closure a b e) = refl
  passed_in-same _ _ (builtin b) = refl
  passed_in-same _ _ (markup a b e) = refl

  parts-same : (vs ws : List Value) → Each (Same m) vs ws → SameParts m (extension_parts h vs) (extension_parts s ws)
  parts-same _ _ none = record { name = none; attrs = nil; content = nil }
  parts-same _ _ (more _ _ xs ys (table a b x) e) = record {
    name = one-each (field-same R m h s st _ _ (codes "name") (table a b x));
    attrs = field-same R m h s st _ _ (codes "args") (table a b x);
    content = field-same R m h s st _ _ (codes "content") (table a b x);
  }
  parts-same _ _ (more _ _ xs ys nil e) = let all = more _ _ xs ys nil e in record { name = all; attrs = third-same all; content = second-same all }
  parts-same _ _ (more _ _ xs ys (truth b) e) = let all = more _ _ xs ys (truth b) e in record { name = all; attrs = third-same all; content = second-same all }
  parts-same _ _ (more _ _ xs ys (number b) e) = let all = more _ _ xs ys (number b) e in record { name = all; attrs = third-same all; content = second-same all }
  parts-same _ _ (more _ _ xs ys (text b) e) = let all = more _ _ xs ys (text b) e in record { name = all; attrs = third-same all; content = second-same all }
  parts-same _ _ (more _ _ xs ys (closure a b x) e) = let all = more _ _ xs ys (closure a b x) e in record { name = all; attrs = third-same all; content = second-same all }
  parts-same _ _ (more _ _ xs ys (builtin b) e) = let all = more _ _ xs ys (builtin b) e in record { name = all; attrs = third-same all; content = second-same all }
  parts-same _ _ (more _ _ xs ys (markup a b x) e) = let all = more _ _ xs ys (markup a b x) e in record { name = all; attrs = third-same all; content = second-same all }

  pub tag_of-same : (p q : TagParts) → SameParts m p q → SamePlain R m h s (tag_of p h) (tag_of q s)
  tag_of-same p q e =
      with-equal R m h s st _ _ _ _ (a_text-same 1 (codes "tag") e.name) (λ name.
      charging R m h s st _ _ (passed_in-same _ _ e.attrs) _ _ (
      with-equal R m h s st _ _ _ _ (ap (λ a. and_then a (closed_by name p.content)) (attributes_in-same _ _ e.attrs) ∙ ap (and_then (attributes_in s q.attrs)) (closed_by-same name e.content)) (λ behind.
      giving_text R m h s st (codes "<" ++ name ++ behind))))

  pub extension_tag-same : (vs ws : List Value) → Each (Same m) vs ws → SamePlain R m h s (extension_tag vs h) (extension_tag ws s)
  extension_tag-same vs ws e = charging R m h s st _ _ (text_charge-same e) _ _ (tag_of-same _ _ (parts-same vs ws e))
