-- The functions of `mw.html` do the same to two heaps, of which the first stands in the second (Scribunto, HTML library).
use Rattle.std.proofs.Common.{◌≡◌, ℕ, zero, suc, ◌+◌, Bool, List, [], ◌∷◌, ◌++◌, length, map, Option, Some, None, Ok, Err, refl, sym, ◌∙◌, ap, subst}
use Rattle.std.specs.Prelude.{codes, bytes_eq}
use Rattle.lua_meaning.specs.MwHtmlNames.{with_class}
use Rattle.lua_meaning.specs.MwHtmlRender.{Piece, Whole, Deep, render}
use Rattle.lua_meaning.proofs.MwHtmlRenumbered.{stands_is_rendered}
use Rattle.lua_heap.specs.Value.{Value, Table, Markup, is_nil}
use Rattle.lua_heap.specs.Table.{Entries}
use Rattle.lua_heap.specs.Heap.{MarkupStyle, StyleText, MarkupChild, ChildText, ChildNode, MarkupNode, Heap, markup_at, set_markup_in, new_markup}
use Rattle.lua_heap.specs.Related.{Map, GrowsWith, Each, none, more, SameOption, neither, both, Same, nil, truth, number, text, table, closure, builtin, markup, SameEntry, SameEntries, SameNodeId, SameChild, child_text, child_node, SameNode, Stands}
use Rattle.lua_heap.proofs.Entries.{nil-related}
use Rattle.lua_heap.proofs.Places.{some_back, clash}
use Rattle.lua_heap.proofs.Stood.{stood-markup}
use Rattle.lua_heap.proofs.Steps.{moved-then}
use Rattle.lua_heap.proofs.Changes.{moved-set_markup, moved-new_markup}
use Rattle.lua_meaning.proofs.HtmlRoots.{found-of}
use Rattle.lua_meaning.specs.Scope.{Bytes}
use Rattle.lua_meaning.specs.Values.{rest}
use Rattle.lua_meaning.specs.Arguments.{Plain, Argument, with_argument, with_charge, a_text}
use Rattle.lua_meaning.specs.TextArguments.{as_some}
use Rattle.lua_meaning.specs.Checks.{and_those}
use Rattle.lua_meaning.specs.HtmlNodes.{new_node, value_of, attrs_with, styles_with, set_attribute, set_style, add_style_text, classes_with, set_classes, add_children, root_above, root_by, root_of}
use Rattle.lua_meaning.specs.Html as html
use Rattle.lua_meaning.specs.Html.{an_object, text_if_any, tested_name, is_tag, a_tag_name, closing_option, makes, puts, changes, makes_in, as_child, a_child, texts_from, Setter, attributes, styles, set_read, set_one, sets_one, Settings, behind_charge, go_on_with, entry_given, set_each, set_ends, set_given, adds_styles, adds_class, gives_value, found_or, gives_piece, text_of_object, nested_too_deeply}
use Rattle.lua_library_agree.specs.Same.{SameArgument, both_ok, both_err, both_give, both_fail, SamePlain}
use Rattle.lua_library_agree.proofs.Values.{one-each, rest-same, each-append, text-same, is_true-same, a_text-same, text_or-same, text_charge-same}
use Rattle.lua_library_agree.proofs.Heaps.{chosen, entries-stood, field-same, giving, giving_text, failing, with-argument, with-equal, charging}

-- ARGUMENTS
an_object-same : {m : Map} (n : ℕ) (name : Bytes) {vs ws : List Value} → Each (Same m) vs ws → SameArgument (SameNodeId m) (an_object n name vs) (an_object n name ws)
an_object-same n name none = both_err _
an_object-same n name (more _ _ _ _ nil e) = both_err _
an_object-same n name (more _ _ _ _ (truth b) e) = both_err _
an_object-same n name (more _ _ _ _ (number b) e) = both_err _
an_object-same n name (more _ _ _ _ (text b) e) = both_err _
an_object-same n name (more _ _ _ _ (table a b x) e) = both_err _
an_object-same n name (more _ _ _ _ (closure a b x) e) = both_err _
an_object-same n name (more _ _ _ _ (builtin b) e) = both_err _
an_object-same n name (more _ _ _ _ (markup a b x) e) = both_ok a b x

some-same : {m : Map} (n : ℕ) (name : Bytes) {vs ws : List Value} → Each (Same m) vs ws → as_some (a_text n name vs) ≡ as_some (a_text n name ws)
some-same n name e = ap as_some (a_text-same n name e)

text_if_any-same : {m : Map} (n : ℕ) (name : Bytes) {vs ws : List Value} → Each (Same m) vs ws → text_if_any n name vs ≡ text_if_any n name ws
text_if_any-same n name none = refl
text_if_any-same n name (more _ _ _ _ nil e) = refl
text_if_any-same n name (more _ _ xs ys (truth b) e) = some-same n name (more _ _ xs ys (truth b) e)
text_if_any-same n name (more _ _ xs ys (number b) e) = some-same n name (more _ _ xs ys (number b) e)
text_if_any-same n name (more _ _ xs ys (text b) e) = some-same n name (more _ _ xs ys (text b) e)
text_if_any-same n name (more _ _ xs ys (table a b x) e) = some-same n name (more _ _ xs ys (table a b x) e)
text_if_any-same n name (more _ _ xs ys (closure a b x) e) = some-same n name (more _ _ xs ys (closure a b x) e)
text_if_any-same n name (more _ _ xs ys (builtin b) e) = some-same n name (more _ _ xs ys (builtin b) e)
text_if_any-same n name (more _ _ xs ys (markup a b x) e) = some-same n name (more _ _ xs ys (markup a b x) e)

a_tag_name-same : {m : Map} (n : ℕ) (name : Bytes) {vs ws : List Value} → Each (Same m) vs ws → a_tag_name n name vs ≡ a_tag_name n name ws
a_tag_name-same n name e = ap (tested_name is_tag) (text_or-same [] n name e)

texts_behind : {m : Map} (n : ℕ) {v w : Value} {vs ws : List Value} → Same m v w → Each (Same m) vs ws → texts_from (n + 1) vs ≡ texts_from (n + 1) ws
    → and_those (a_text n (codes "wikitext") (v ∷ vs)) (texts_from (n + 1) vs) ≡ and_those (a_text n (codes "wikitext") (w ∷ ws)) (texts_from (n + 1) ws)
texts_behind n {v} {w} {vs} {ws} r e behind =
    ap (λ a. and_those a (texts_from (n + 1) vs)) (a_text-same n (codes "wikitext") (more v w vs ws r e))
    ∙ ap (and_those (a_text n (codes "wikitext") (w ∷ ws))) behind

texts_from-same : {m : Map} (n : ℕ) {vs ws : List Value} → Each (Same m) vs ws → texts_from n vs ≡ texts_from n ws
texts_from-same n none = refl
texts_from-same n (more _ _ _ _ nil e) = refl
texts_from-same n (more _ _ _ _ (truth b) e) = texts_behind n (truth b) e (texts_from-same (n + 1) e)
texts_from-same n (more _ _ _ _ (number b) e) = texts_behind n (number b) e (texts_from-same (n + 1) e)
texts_from-same n (more _ _ _ _ (text b) e) = texts_behind n (text b) e (texts_from-same (n + 1) e)
texts_from-same n (more _ _ _ _ (table a b x) e) = texts_behind n (table a b x) e (texts_from-same (n + 1) e)
texts_from-same n (more _ _ _ _ (closure a b x) e) = texts_behind n (closure a b x) e (texts_from-same (n + 1) e)
texts_from-same n (more _ _ _ _ (builtin b) e) = texts_behind n (builtin b) e (texts_from-same (n + 1) e)
texts_from-same n (more _ _ _ _ (markup a b x) e) = texts_behind n (markup a b x) e (texts_from-same (n + 1) e)

-- an object that stands for one, as a child
child-of : {m : Map} {a b : ℕ} → Same m (Markup a) (Markup b) → SameChild m (ChildNode a) (ChildNode b)
child-of (markup a b e) = child_node a b e

-- CHILDREN, which stand for one another
abbrev SameChildren : Map → List MarkupChild → List MarkupChild → Type 0
SameChildren m cs ds = Each (SameChild m) cs ds

one-text : {m : Map} (t : Argument Bytes) → SameArgument (SameChildren m) (as_child t) (as_child t)
one-text (Ok t) = both_ok _ _ (more _ _ _ _ (child_text t) none)
one-text (Err message) = both_err message

as_child-same : {m : Map} {vs ws : List Value} → Each (Same m) vs ws → SameArgument (SameChildren m) (as_child (a_text 2 (codes "node") vs)) (as_child (a_text 2 (codes "node") ws))
as_child-same {m} {vs} e =
    subst (λ a. SameArgument (SameChildren m) (as_child (a_text 2 (codes "node") vs)) (as_child a)) (a_text-same 2 (codes "node") e) (one-text (a_text 2 (codes "node") vs))

a_child-same : {m : Map} {vs ws : List Value} → Each (Same m) vs ws → SameArgument (SameChildren m) (a_child vs) (a_child ws)
a_child-same none = both_ok _ _ none
a_child-same (more _ _ _ _ nil e) = both_ok _ _ none
a_child-same (more _ _ _ _ (markup a b x) e) = both_ok _ _ (more _ _ _ _ (child_node a b x) none)
a_child-same (more _ _ xs ys (truth b) e) = as_child-same (more _ _ xs ys (truth b) e)
a_child-same (more _ _ xs ys (number b) e) = as_child-same (more _ _ xs ys (number b) e)
a_child-same (more _ _ xs ys (text b) e) = as_child-same (more _ _ xs ys (text b) e)
a_child-same (more _ _ xs ys (table a b x) e) = as_child-same (more _ _ xs ys (table a b x) e)
a_child-same (more _ _ xs ys (closure a b x) e) = as_child-same (more _ _ xs ys (closure a b x) e)
a_child-same (more _ _ xs ys (builtin b) e) = as_child-same (more _ _ xs ys (builtin b) e)

texts-same : {m : Map} (ts : List Bytes) → SameChildren m (map ChildText ts) (map ChildText ts)
texts-same [] = none
texts-same (t ∷ ts) = more _ _ _ _ (child_text t) (texts-same ts)

-- WHAT IS MADE OF OBJECTS that stand for one another
children-added : {m : Map} {a b : MarkupNode} {cs ds : List MarkupChild} → SameNode m a b → SameChildren m cs ds → SameNode m (add_children cs a) (add_children ds b)
children-added s e = record { name = s.name; closed = s.closed; parent = s.parent; attrs = s.attrs; styles = s.styles; children = each-append s.children e }

attrs-same : {m : Map} {a b : MarkupNode} {x y : List (Bytes × Bytes)} → SameNode m a b → x ≡ y → SameNode m (record a { attrs = x }) (record b { attrs = y })
attrs-same s e = record { name = s.name; closed = s.closed; parent = s.parent; attrs = e; styles = s.styles; children = s.children }

styles-same : {m : Map} {a b : MarkupNode} {x y : List MarkupStyle} → SameNode m a b → x ≡ y → SameNode m (record a { styles = x }) (record b { styles = y })
styles-same s e = record { name = s.name; closed = s.closed; parent = s.parent; attrs = s.attrs; styles = e; children = s.children }

style_text-same : {m : Map} (t : Bytes) {a b : MarkupNode} → SameNode m a b → SameNode m (add_style_text t a) (add_style_text t b)
style_text-same t s = styles-same s (ap (λ (x : List MarkupStyle). x ++ StyleText t ∷ []) s.styles)

set_style-same : {m : Map} (name : Bytes) (value : Option Bytes) {a b : MarkupNode} → SameNode m a b → SameNode m (set_style name value a) (set_style name value b)
set_style-same name value s = styles-same s (ap (styles_with name value) s.styles)

set_attribute-same : {m : Map} (name : Bytes) (value : Option Bytes) {a b : MarkupNode} → SameNode m a b → SameNode m (set_attribute name value a) (set_attribute name value b)
set_attribute-same {m} name value s =
    chosen (SameNode m) (bytes_eq name (codes "style")) (bytes_eq name (codes "style")) refl (styles-same s refl) (attrs-same s (ap (attrs_with name value) s.attrs))

classes-same : {m : Map} (class : Bytes) {a b : MarkupNode} → SameNode m a b → classes_with class a ≡ classes_with class b
classes-same class s = ap (λ x. with_class (value_of (codes "class") x) class) s.attrs

set_classes-same : {m : Map} (classes : Bytes) {a b : MarkupNode} → SameNode m a b → SameNode m (set_classes classes a) (set_classes classes b)
set_classes-same classes s = attrs-same s (ap (attrs_with (codes "class") (Some classes)) s.attrs)

new_node-same : {m : Map} (name : Bytes) (closed : Bool) {p q : Option ℕ} → SameOption (SameNodeId m) p q → SameNode m (new_node name closed p) (new_node name closed q)
new_node-same name closed e = record { name = refl; closed = refl; parent = e; attrs = refl; styles = refl; children = none }

-- WHAT SETS does it alike
abbrev SetsAlike : Setter → Type 0
SetsAlike s = (m : Map) (name : Bytes) (value : Option Bytes) (a b : MarkupNode) → SameNode m a b → SameNode m (s.sets name value a) (s.sets name value b)

module _ (s : Setter) (alike : SetsAlike s) (m : Map) where
  set_read-same : {a b : MarkupNode} → SameNode m a b → (name : Argument Bytes) (value : Argument (Option Bytes)) → SameArgument (SameNode m) (set_read s a name value) (set_read s b name value)
  set_read-same e (Ok name) (Ok value) = both_ok _ _ (alike m name value _ _ e)
  set_read-same e (Ok name) (Err message) = both_err message
  set_read-same e (Err message) value = both_err message

  set_one-same : {a b : MarkupNode} → SameNode m a b → {vs ws : List Value} → Each (Same m) vs ws → SameArgument (SameNode m) (set_one s vs a) (set_one s ws b)
  set_one-same {a} {b} e {vs} {ws} f =
      let name = ap (tested_name s.takes) (a_text-same 2 s.function f) in
      let value = text_if_any-same 3 s.function (rest-same f) in
      subst (λ n. SameArgument (SameNode m) (set_one s vs a) (set_read s b n (text_if_any 3 s.function (rest ws)))) name
      (subst (λ v. SameArgument (SameNode m) (set_one s vs a) (set_read s b (tested_name s.takes (a_text 2 s.function vs)) v)) value
      (set_read-same e (tested_name s.takes (a_text 2 s.function vs)) (text_if_any 3 s.function (rest vs))))

  record SameSettings (p q : Settings) : Type 0 where
    charge : p.charge ≡ q.charge
    node : SameNode m p.node q.node
    fault : p.fault ≡ q.fault

  behind-same : {k l : ℕ} {p q : Settings} → k ≡ l → SameSettings p q → SameSettings (behind_charge k p) (behind_charge l q)
  behind-same {k} {l} {p} {q} e r = record { charge = ap (λ (n : ℕ). n + p.charge) e ∙ ap (λ (n : ℕ). l + n) r.charge; node = r.node; fault = r.fault }

  go_on-same : {a b : MarkupNode} → SameNode m a b → (f g : MarkupNode → Settings) → ((c d : MarkupNode) → SameNode m c d → SameSettings (f c) (g d))
      → {x y : Argument MarkupNode} → SameArgument (SameNode m) x y → SameSettings (go_on_with a x f) (go_on_with b y g)
  go_on-same e f g k (both_ok c d r) = k c d r
  go_on-same e f g k (both_err message) = record { charge = refl; node = e; fault = refl }

  given-same : {e f : Value × Value} → SameEntry m e f → Each (Same m) (entry_given e) (entry_given f)
  given-same r = more _ _ _ _ r.key (one-each r.value)

  set_each-same : (es fs : Entries) → SameEntries m es fs → (a b : MarkupNode) → SameNode m a b → SameSettings (set_each s es a) (set_each s fs b)
  set_each-same _ _ none a b n = record { charge = refl; node = n; fault = refl }
  set_each-same _ _ (more e f es fs r rest) a b n =
      let given : Each (Same m) (entry_given e) (entry_given f) = given-same r in
      chosen SameSettings (is_nil e.1) (is_nil f.1) (nil-related m _ _ r.value)
      (behind-same refl (set_each-same es fs rest a b n))
      (behind-same (text_charge-same given) (go_on-same n (λ made. set_each s es made) (λ made. set_each s fs made) (λ c d k. set_each-same es fs rest c d k) (set_one-same n given)))

module _ {X Y : Type 0} (R : Map → X → Y → Type 0) (m : Map) (h : Heap X) (s : Heap Y) (st : Stands R m h s) where
  abbrev Alike : Plain X → Plain Y → Type 0
  Alike a b = SamePlain R m h s a b

  node-stood : (a b : ℕ) → SameNodeId m a b → SameNode m (markup_at h a) (markup_at s b)
  node-stood a b e = (stood-markup R m h s a b st e).0

  -- ROOTS stand for one another
  above-same : (f g : ℕ → Option ℕ) → ((a b : ℕ) → SameNodeId m a b → SameOption (SameNodeId m) (f a) (g b)) → (a b : ℕ) → SameNodeId m a b
      → {o p : Option ℕ} → SameOption (SameNodeId m) o p → SameOption (SameNodeId m) (root_above f a o) (root_above g b p)
  above-same f g k a b e neither = both a b e
  above-same f g k a b e (both x y r) = k x y r

  root_by-same : (room a b : ℕ) → SameNodeId m a b → SameOption (SameNodeId m) (root_by h.markup room a) (root_by s.markup room b)
  unfolding root_by
  root_by-same zero a b e = neither
  root_by-same (suc room) a b e = above-same (root_by h.markup room) (root_by s.markup room) (λ x y f. root_by-same room x y f) a b e (node-stood a b e).parent

  forth-found : {o p : Option ℕ} {q : ℕ} → SameOption (SameNodeId m) o p → o ≡ Some q → (r : ℕ) × (p ≡ Some r) × SameNodeId m q r
  forth-found neither e = cc
  forth-found (both x y k) e = (y, refl, subst (λ z. SameNodeId m z y) (some_back e) k)

  back-found : {o p : Option ℕ} {r : ℕ} → SameOption (SameNodeId m) o p → p ≡ Some r → (q : ℕ) × (o ≡ Some q)
  back-found neither e = cc
  back-found (both x y k) e = (x, refl)

  roots-by : (a b : ℕ) → SameNodeId m a b → (o p : Option ℕ) → root_of h.markup a ≡ o → root_of s.markup b ≡ p → SameOption (SameNodeId m) o p
  roots-by a b e (Some q) p is was =
      let n = suc (length h.markup) in
      let r = forth-found (root_by-same n a b e) is in
      let there : p ≡ Some r.0 = sym was ∙ found-of s.markup n b r.0 r.1 in
      subst (λ x. SameOption (SameNodeId m) (Some q) x) (sym there) (both q r.0 r.2)
  roots-by a b e None (Some r) is was =
      let n = suc (length s.markup) in
      let q = back-found (root_by-same n a b e) was in
      clash (found-of h.markup n a q.0 q.1) is
  roots-by a b e None None is was = neither

  roots-same : (a b : ℕ) → SameNodeId m a b → SameOption (SameNodeId m) (root_of h.markup a) (root_of s.markup b)
  roots-same a b e = roots-by a b e (root_of h.markup a) (root_of s.markup b) refl refl

  found_or-same : {a b : ℕ} {o p : Option ℕ} → SameNodeId m a b → SameOption (SameNodeId m) o p → Same m (found_or a o) (found_or b p)
  found_or-same e neither = markup _ _ e
  found_or-same e (both x y r) = markup _ _ r

  -- OPTIONS
  closing_option-same : (n : ℕ) (name : Bytes) {vs ws : List Value} → Each (Same m) vs ws → closing_option h n name vs ≡ closing_option s n name ws
  closing_option-same n name none = refl
  closing_option-same n name (more _ _ _ _ nil e) = refl
  closing_option-same n name (more _ _ _ _ (table a b x) e) = ap Ok (is_true-same (field-same R m h s st (Table a) (Table b) (codes "selfClosing") (table a b x)))
  closing_option-same n name (more _ _ _ _ (truth b) e) = refl
  closing_option-same n name (more _ _ _ _ (number b) e) = refl
  closing_option-same n name (more _ _ _ _ (text b) e) = refl
  closing_option-same n name (more _ _ _ _ (closure a b x) e) = refl
  closing_option-same n name (more _ _ _ _ (builtin b) e) = refl
  closing_option-same n name (more _ _ _ _ (markup a b x) e) = refl

  -- a new node in the place of an object
  puts-same : (a b : ℕ) → SameNodeId m a b → (n k : MarkupNode) → SameNode m n k → Alike (puts h a n) (puts s b k)
  puts-same a b e n k r = record { charge = refl; names = m; moved = moved-set_markup R m h s a b n k st e r; end = both_give _ _ (one-each (markup a b e)) }

  -- the answer of the object itself
  itself : (a b : ℕ) → SameNodeId m a b → Alike (html.set_ends h a None) (html.set_ends s b None)
  itself a b e = giving R m h s st (one-each (markup a b e))

  -- SETTINGS
  set_ends-moved : (a b : ℕ) → SameNodeId m a b → (n k : MarkupNode) → SameNode m n k → (c d : ℕ) → c ≡ d → (fault other : Option Bytes) → fault ≡ other
      → Alike (with_charge c (set_ends (set_markup_in h a n) a fault)) (with_charge d (set_ends (set_markup_in s b k) b other))
  set_ends-moved a b e n k r c d i None None f =
      record { charge = ap (λ (z : ℕ). z + 0) i; names = m; moved = moved-set_markup R m h s a b n k st e r; end = both_give _ _ (one-each (markup a b e)) }
  set_ends-moved a b e n k r c d i (Some x) (Some y) f =
      record { charge = ap (λ (z : ℕ). z + 0) i; names = m; moved = moved-set_markup R m h s a b n k st e r; end = both_fail _ _ _ (text-same (some_back f)) }
  set_ends-moved a b e n k r c d i None (Some y) f = cc
  set_ends-moved a b e n k r c d i (Some x) None f = cc

  module _ (f : Setter) (alike : SetsAlike f) where
    sets_one-same : (a b : ℕ) → SameNodeId m a b → {vs ws : List Value} → Each (Same m) vs ws → Alike (sets_one f h a vs) (sets_one f s b ws)
    sets_one-same a b e each =
        with-argument R m h s st (λ made. puts h a made) (λ made. puts s b made) (set_one-same f alike m (node-stood a b e) each) (λ n k r. puts-same a b e n k r)

    set_given-same : (a b : ℕ) → SameNodeId m a b → {vs ws : List Value} → Each (Same m) vs ws → Alike (set_given f h a vs) (set_given f s b ws)
    set_given-same a b e none = sets_one-same a b e none
    set_given-same a b e (more _ _ _ _ (table t u x) each) =
        let r = set_each-same f alike m _ _ (entries-stood R m h s st t u x) _ _ (node-stood a b e) in
        set_ends-moved a b e _ _ r.node _ _ r.charge _ _ r.fault
    set_given-same a b e (more _ _ xs ys nil each) = sets_one-same a b e (more _ _ xs ys nil each)
    set_given-same a b e (more _ _ xs ys (truth k) each) = sets_one-same a b e (more _ _ xs ys (truth k) each)
    set_given-same a b e (more _ _ xs ys (number k) each) = sets_one-same a b e (more _ _ xs ys (number k) each)
    set_given-same a b e (more _ _ xs ys (text k) each) = sets_one-same a b e (more _ _ xs ys (text k) each)
    set_given-same a b e (more _ _ xs ys (closure k l x) each) = sets_one-same a b e (more _ _ xs ys (closure k l x) each)
    set_given-same a b e (more _ _ xs ys (builtin k) each) = sets_one-same a b e (more _ _ xs ys (builtin k) each)
    set_given-same a b e (more _ _ xs ys (markup k l x) each) = sets_one-same a b e (more _ _ xs ys (markup k l x) each)

  -- CLASSES, and values that are given
  adds_class-same : (a b : ℕ) → SameNodeId m a b → (class : Option Bytes) → Alike (adds_class h a class) (adds_class s b class)
  adds_class-same a b e None = itself a b e
  adds_class-same a b e (Some class) =
      let n = node-stood a b e in
      let is = classes-same class n in
      charging R m h s st _ _ (ap length is) _ _
      (subst (λ c. Alike (changes h a (set_classes (classes_with class (markup_at h a)))) (changes s b (set_classes c))) is
      (puts-same a b e _ _ (set_classes-same (classes_with class (markup_at h a)) n)))

  adds_styles-same : (a b : ℕ) → SameNodeId m a b → (given : Option Bytes) → Alike (adds_styles h a given) (adds_styles s b given)
  adds_styles-same a b e None = itself a b e
  adds_styles-same a b e (Some t) = puts-same a b e _ _ (style_text-same t (node-stood a b e))

  gives_value-same : (value : Option Bytes) → Alike (gives_value h value) (gives_value s value)
  gives_value-same None = giving R m h s st (one-each nil)
  gives_value-same (Some value) = giving_text R m h s st value

  -- A RENDERING
  gives_piece-same : (p : Piece) → Alike (gives_piece h p) (gives_piece s p)
  gives_piece-same (Whole bytes begun) = charging R m h s st begun begun refl _ _ (giving_text R m h s st bytes)
  gives_piece-same (Deep bytes begun) = charging R m h s st _ _ refl _ _ (failing R m h s st nested_too_deeply)

  pub text_of_object-same : (a b : ℕ) → SameNodeId m a b → Alike (text_of_object a h) (text_of_object b s)
  text_of_object-same a b e =
      subst (λ p. Alike (gives_piece h (render h.markup a)) (gives_piece s p)) (stands_is_rendered R m h s st a b e) (gives_piece-same (render h.markup a))

  -- THE FUNCTIONS
  module _ (vs ws : List Value) (e : Each (Same m) vs ws) where
    of_object : (name : Bytes) (f : ℕ → Plain X) (g : ℕ → Plain Y) → ((a b : ℕ) → SameNodeId m a b → Alike (f a) (g b))
        → Alike (with_argument h (an_object 1 name vs) f) (with_argument s (an_object 1 name ws) g)
    of_object name f g k = with-argument R m h s st f g (an_object-same 1 name e) k

    pub node-same : Alike (html.node vs h) (html.node ws s)
    node-same = of_object (codes "node") _ _ (λ a b x.
        with-argument R m h s st (λ cs. changes h a (add_children cs)) (λ cs. changes s b (add_children cs)) (a_child-same (rest-same e)) (λ cs ds k.
        puts-same a b x _ _ (children-added (node-stood a b x) k)))

    pub wikitext-same : Alike (html.wikitext vs h) (html.wikitext ws s)
    wikitext-same = of_object (codes "wikitext") _ _ (λ a b x.
        with-equal R m h s st _ _ _ _ (texts_from-same 2 (rest-same e)) (λ ts.
        puts-same a b x _ _ (children-added (node-stood a b x) (texts-same ts))))

    pub newline-same : Alike (html.newline vs h) (html.newline ws s)
    newline-same = of_object (codes "newline") _ _ (λ a b x. puts-same a b x _ _ (children-added (node-stood a b x) (texts-same ((10 ∷ []) ∷ []))))

    pub attr-same : Alike (html.attr vs h) (html.attr ws s)
    attr-same = of_object (codes "attr") _ _ (λ a b x. set_given-same attributes (λ m name value a b. set_attribute-same name value) a b x (rest-same e))

    pub css-same : Alike (html.css vs h) (html.css ws s)
    css-same = of_object (codes "css") _ _ (λ a b x. set_given-same styles (λ m name value a b. set_style-same name value) a b x (rest-same e))

    pub css_text-same : Alike (html.css_text vs h) (html.css_text ws s)
    css_text-same = of_object (codes "cssText") _ _ (λ a b x.
        with-equal R m h s st _ _ _ _ (text_if_any-same 2 (codes "cssText") (rest-same e)) (λ given. adds_styles-same a b x given))

    pub add_class-same : Alike (html.add_class vs h) (html.add_class ws s)
    add_class-same = of_object (codes "addClass") _ _ (λ a b x.
        with-equal R m h s st _ _ _ _ (text_if_any-same 2 (codes "addClass") (rest-same e)) (λ class. adds_class-same a b x class))

    pub get_attr-same : Alike (html.get_attr vs h) (html.get_attr ws s)
    get_attr-same = of_object (codes "getAttr") _ _ (λ a b x.
        with-equal R m h s st _ _ _ _ (a_text-same 2 (codes "getAttr") (rest-same e)) (λ name.
        subst (λ v. Alike (gives_value h (value_of name (markup_at h a).attrs)) (gives_value s v)) (ap (value_of name) (node-stood a b x).attrs)
        (gives_value-same (value_of name (markup_at h a).attrs))))

    pub done-same : Alike (html.done vs h) (html.done ws s)
    done-same = of_object (codes "done") _ _ (λ a b x. giving R m h s st (one-each (found_or-same x (node-stood a b x).parent)))

    pub all_done-same : Alike (html.all_done vs h) (html.all_done ws s)
    all_done-same = of_object (codes "allDone") _ _ (λ a b x. giving R m h s st (one-each (found_or-same x (roots-same a b x))))

-- THOSE THAT MAKE AN OBJECT
module _ {X Y : Type 0} (R : Map → X → Y → Type 0) (up : GrowsWith R) (m : Map) (h : Heap X) (s : Heap Y) (st : Stands R m h s) where
  makes-same : (n k : MarkupNode) → SameNode m n k → SamePlain R m h s (makes h n) (makes s k)
  makes-same n k r =
      let p = moved-new_markup R up m h s n k st r in
      record { charge = refl; names = p.0; moved = p.2; end = both_give _ _ (one-each p.1) }

  makes_in-same : (a b : ℕ) → SameNodeId m a b → (n k : MarkupNode) → SameNode m n k → SamePlain R m h s (makes_in h a n) (makes_in s b k)
  makes_in-same a b e n k r =
      let p = moved-new_markup R up m h s n k st r in
      let i = (new_markup h n).0 in
      let t = (new_markup s k).0 in
      let there = p.2.later.grows _ _ e in
      let added = children-added (node-stood R p.0 i t p.2.stands a b there) (more _ _ _ _ (child-of p.1) none) in
      let q = moved-set_markup R p.0 i t a b _ _ p.2.stands there added in
      record { charge = refl; names = p.0; moved = moved-then R m p.0 p.0 h i _ s t _ p.2 q; end = both_give _ _ (one-each p.1) }

  module _ (vs ws : List Value) (e : Each (Same m) vs ws) where
    pub create-same : SamePlain R m h s (html.create vs h) (html.create ws s)
    create-same =
        with-equal R m h s st _ _ _ _ (a_tag_name-same 1 (codes "create") e) (λ name.
        with-equal R m h s st _ _ _ _ (closing_option-same R m h s st 2 (codes "create") (rest-same e)) (λ closed.
        makes-same _ _ (new_node-same name closed neither)))

    pub tag-same : SamePlain R m h s (html.tag vs h) (html.tag ws s)
    tag-same = of_object R m h s st vs ws e (codes "tag") _ _ (λ a b x.
        with-equal R m h s st _ _ _ _ (a_tag_name-same 2 (codes "tag") (rest-same e)) (λ name.
        with-equal R m h s st _ _ _ _ (closing_option-same R m h s st 3 (codes "tag") (rest-same (rest-same e))) (λ closed.
        makes_in-same a b x _ _ (new_node-same name closed (both a b x)))))
