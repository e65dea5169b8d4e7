-- Objects of a store that are changed: what they are then, and what is given.
use Rattle.std.proofs.lemmas.List.{map-append}
use Rattle.std.proofs.Common.{◌≡◌, ◌∙◌, ap, sym, subst, refl, arith, ℕ, zero, suc, List, [], ◌∷◌, ◌++◌, map, slice_set}
use Rattle.std.specs.List.{AllByRecursion}
use Rattle.lua_strings.specs.LuaHeapProc.{Proc}
use Rattle.mw_html.specs.LuaHeapHeap.{Heap, MarkupStyle as SeenStyle, Item, StyleText, ChildText, ChildNode, MarkupNode as SeenNode, markup_at, set_markup_in}
use Rattle.lua_strings.specs.LuaHeapValue as kind
use Rattle.lua_strings.specs.LuaMeaningArguments.{Plain, Gives, gives}
use Rattle.lua_strings.specs.LuaMeaningHtmlNodes.{add_children, add_style_text}
use Rattle.lua_strings.specs.LuaStoreDeclaredIdsTextId.{TextId}
use Rattle.lua_strings.specs.LuaStoreDeclaredIdsMarkupId.{MarkupId}
use Rattle.lua_strings.specs.LuaStoreDeclaredValueValue.{Value}
use Rattle.lua_strings.specs.LuaStoreDeclaredValueValueTheVariants as own
use Rattle.lua_strings.specs.LuaStoreDeclaredMarkupTextPair.{TextPair}
use Rattle.lua_strings.specs.LuaStoreDeclaredMarkupMarkupStyle.{MarkupStyle}
use Rattle.lua_strings.specs.LuaStoreDeclaredMarkupMarkupStyleTheVariants as style
use Rattle.lua_strings.specs.LuaStoreDeclaredMarkupMarkupChild.{MarkupChild as StoredChild}
use Rattle.lua_strings.specs.LuaStoreDeclaredMarkupMarkupChildTheVariants as child
use Rattle.lua_strings.specs.LuaStoreDeclaredMarkupMarkupNode.{MarkupNode}
use Rattle.lua_strings.specs.LuaStoreSeen.{StoreView, text_at, seen_pair, seen_style, seen_child, seen_node}
use Rattle.lua_strings.specs.LuaStoreParts.{IsTextOf, IsPairOf, IsStyleOf, IsChildOf, IsNodeOf, IsLater}
use Rattle.lua_strings.specs.LuaBasicSeen.{values_seen, ends}
use Rattle.mw_htmls.specs.Nodes.{with_node, attrs_set, styles_set}

-- LISTS
pub all_then : {A : Type 0} (P : A → Type 0) (xs ys : List A) → AllByRecursion P xs → AllByRecursion P ys → AllByRecursion P (xs ++ ys)
all_then P [] ys a b = b
all_then P (x ∷ xs) ys a b = (a.0, all_then P xs ys a.1 b)

pub set_twice : {A : Type 0} (xs : List A) (n : ℕ) (a b : A) → slice_set (slice_set xs n a) n b ≡ slice_set xs n b
set_twice [] n a b = refl
set_twice (x ∷ xs) zero a b = refl
set_twice (x ∷ xs) (suc n) a b = ap (λ ys. x ∷ ys) (set_twice xs n a b)

-- CHILDREN in a later store
child_later : (s t : StoreView) → IsLater s t → (c : StoredChild) → IsChildOf s c → IsChildOf t c × (seen_child t.texts c ≡ seen_child s.texts c)
child_later s t l (child.Text id) h = let le = l.texts.length_ in (omega (arith, h, le), ap ChildText (l.texts.same id.at h))
child_later s t l (child.Node id) h = let le = l.markup in (omega (arith, h, le), refl)

pub children_later : (s t : StoreView) → IsLater s t → (cs : List StoredChild) → AllByRecursion (IsChildOf s) cs → AllByRecursion (IsChildOf t) cs × (map (seen_child t.texts) cs ≡ map (seen_child s.texts) cs)
children_later s t l [] a = (tt, refl)
children_later s t l (c ∷ cs) a =
    let one = child_later s t l c a.0 in
    let more = children_later s t l cs a.1 in
    ((one.0, more.0), ap (λ x. x ∷ map (seen_child t.texts) cs) one.1 ∙ ap (λ xs. seen_child s.texts c ∷ xs) more.1)

pub children_taken : (s t : StoreView) (cs : List StoredChild) → IsLater s t → AllByRecursion (IsChildOf s) cs → AllByRecursion (IsChildOf t) cs
children_taken s t cs l a = (children_later s t l cs a).0

-- one child more, that is a text
pub text_added : (s t : StoreView) (cs ds : List StoredChild) (id : TextId) (bytes : List ℕ) → IsLater s t → AllByRecursion (IsChildOf s) cs → ds ≡ cs ++ child.Text id ∷ [] → IsTextOf t id → text_at t.texts id.at ≡ bytes
    → AllByRecursion (IsChildOf t) ds × (map (seen_child t.texts) ds ≡ map (seen_child s.texts) cs ++ ChildText bytes ∷ [])
text_added s t cs ds id bytes l a is of there =
    let old = children_later s t l cs a in (
      subst (AllByRecursion (IsChildOf t)) (sym is) (all_then (IsChildOf t) cs (child.Text id ∷ []) old.0 (of, tt)),
      ap (map (seen_child t.texts)) is ∙ map-append (seen_child t.texts) cs (child.Text id ∷ []) ∙ ap (λ xs. xs ++ ChildText (text_at t.texts id.at) ∷ []) old.1 ∙ ap (λ b. map (seen_child s.texts) cs ++ ChildText b ∷ []) there,
    )

-- A NODE with more children
pub more_children : (s : StoreView) (n : MarkupNode) (new more : List StoredChild) → IsNodeOf s n → AllByRecursion (IsChildOf s) more → new ≡ n.children ++ more → IsNodeOf s (record n { children = new })
more_children s n new more of added is = record {
  name = of.name;
  parent = of.parent;
  attrs = of.attrs;
  styles = of.styles;
  children = subst (AllByRecursion (IsChildOf s)) (sym is) (all_then (IsChildOf s) n.children more of.children added);
}

children_are : (texts : List (List ℕ)) (n : MarkupNode) (new more : List StoredChild) (was : SeenNode) → seen_node texts n ≡ was → new ≡ n.children ++ more
    → seen_node texts (record n { children = new }) ≡ add_children (map (seen_child texts) more) was
children_are texts n new more was is e =
    ap (λ cs. let x : SeenNode = record (seen_node texts n) { children = map (seen_child texts) cs } in x) e
    ∙ ap (λ cs. let x : SeenNode = record (seen_node texts n) { children = cs } in x) (map-append (seen_child texts) n.children more)
    ∙ ap (add_children (map (seen_child texts) more)) is

-- an object whose node was taken out, and another one put in
put_back : (s t u : StoreView) (m : ℕ) (other node : SeenNode) → t ≡ with_node s m other → u ≡ with_node t m node → u ≡ with_node s m node
put_back s t u m other node taken put =
    put ∙ ap (λ (x : StoreView). with_node x m node) taken
    ∙ ap (λ ns. let h : Heap Proc = record s.heap { markup = ns } in let x : StoreView = record s { heap = h } in x) (set_twice s.heap.markup m other node)

pub node_put : (s t u : StoreView) (m : ℕ) (n : MarkupNode) (new more : List StoredChild) → ((other : SeenNode) × (t ≡ with_node s m other)) → seen_node t.texts n ≡ markup_at s.heap m → new ≡ n.children ++ more
    → u ≡ with_node t m (seen_node t.texts (record n { children = new })) → u ≡ with_node s m (add_children (map (seen_child s.texts) more) (markup_at s.heap m))
node_put s t u m n new more (other, taken) node e put =
    let whole = put_back s t u m other _ taken put in
    let texts : t.texts ≡ s.texts = ap (λ (x : StoreView). x.texts) taken in
    whole ∙ ap (with_node s m) (children_are t.texts n new more (markup_at s.heap m) node e ∙ ap (λ ts. add_children (map (seen_child ts) more) (markup_at s.heap m)) texts)

-- AN OBJECT is given
abbrev gave : Heap Proc → List kind.Value → Plain Proc
gave h ws = record { charge = 0; heap = h; end = Gives ws }

pub object_given : (h : Heap Proc) (t : StoreView) (v : kind.Value) (id : MarkupId) (vs : List Value) → t.heap ≡ h → kind.Markup id.at ≡ v → vs ≡ own.Markup id ∷ [] → gives h (v ∷ []) ≡ ends 0 t (Gives (values_seen t.texts vs))
object_given h t v id vs heap is list =
    ap (λ x. gave x (v ∷ [])) (sym heap) ∙ ap (λ x. gave t.heap (x ∷ [])) (sym is) ∙ ap (λ xs. gave t.heap (values_seen t.texts xs)) (sym list)

-- an object that was made is a child of another one
pub child_heap : (i k h : Heap Proc) (m a b : ℕ) → i ≡ set_markup_in k m (add_children (ChildNode a ∷ []) (markup_at k m)) → k ≡ h → a ≡ b → i ≡ set_markup_in h m (add_children (ChildNode b ∷ []) (markup_at h m))
child_heap i k h m a b e f g =
    e ∙ ap (λ (x : Heap Proc). set_markup_in x m (add_children (ChildNode a ∷ []) (markup_at x m))) f ∙ ap (λ (n : ℕ). set_markup_in h m (add_children (ChildNode n ∷ []) (markup_at h m))) g

-- ATTRIBUTES AND STYLES in a later store
text_stays : (s t : StoreView) → IsLater s t → (id : TextId) → IsTextOf s id → IsTextOf t id × (text_at t.texts id.at ≡ text_at s.texts id.at)
text_stays s t l id h = let le = l.texts.length_ in (omega (arith, h, le), l.texts.same id.at h)

pair_stays : (s t : StoreView) → IsLater s t → (p : TextPair) → IsPairOf s p → IsPairOf t p × (seen_pair t.texts p ≡ seen_pair s.texts p)
pair_stays s t l p h =
    let a = text_stays s t l p.name h.0 in
    let b = text_stays s t l p.value h.1 in
    ((a.0, b.0), ap (λ (x : List ℕ). let q : List ℕ × List ℕ = (x, text_at t.texts p.value.at) in q) a.1 ∙ ap (λ (x : List ℕ). let q : List ℕ × List ℕ = (text_at s.texts p.name.at, x) in q) b.1)

pub attrs_taken : (s t : StoreView) (ps : List TextPair) → IsLater s t → AllByRecursion (IsPairOf s) ps → AllByRecursion (IsPairOf t) ps × (map (seen_pair t.texts) ps ≡ map (seen_pair s.texts) ps)
attrs_taken s t [] l a = (tt, refl)
attrs_taken s t (p ∷ ps) l a =
    let one = pair_stays s t l p a.0 in
    let more = attrs_taken s t ps l a.1 in
    ((one.0, more.0), ap (λ x. x ∷ map (seen_pair t.texts) ps) one.1 ∙ ap (λ xs. seen_pair s.texts p ∷ xs) more.1)

style_stays : (s t : StoreView) → IsLater s t → (p : MarkupStyle) → IsStyleOf s p → IsStyleOf t p × (seen_style t.texts p ≡ seen_style s.texts p)
style_stays s t l (style.Item p) h =
    let a = text_stays s t l p.name h.0 in
    let b = text_stays s t l p.value h.1 in
    ((a.0, b.0), ap (λ x. Item x (text_at t.texts p.value.at)) a.1 ∙ ap (Item (text_at s.texts p.name.at)) b.1)
style_stays s t l (style.Text id) h = let a = text_stays s t l id h in (a.0, ap StyleText a.1)

pub styles_taken : (s t : StoreView) (ps : List MarkupStyle) → IsLater s t → AllByRecursion (IsStyleOf s) ps → AllByRecursion (IsStyleOf t) ps × (map (seen_style t.texts) ps ≡ map (seen_style s.texts) ps)
styles_taken s t [] l a = (tt, refl)
styles_taken s t (p ∷ ps) l a =
    let one = style_stays s t l p a.0 in
    let more = styles_taken s t ps l a.1 in
    ((one.0, more.0), ap (λ x. x ∷ map (seen_style t.texts) ps) one.1 ∙ ap (λ xs. seen_style s.texts p ∷ xs) more.1)

-- A NODE with other attributes, and with other styles
pub node_with_attrs : (s : StoreView) (n : MarkupNode) (ps : List TextPair) → IsNodeOf s n → AllByRecursion (IsPairOf s) ps → IsNodeOf s (record n { attrs = ps })
node_with_attrs s n ps of all = record { name = of.name; parent = of.parent; attrs = all; styles = of.styles; children = of.children }

pub node_with_styles : (s : StoreView) (n : MarkupNode) (ps : List MarkupStyle) → IsNodeOf s n → AllByRecursion (IsStyleOf s) ps → IsNodeOf s (record n { styles = ps })
node_with_styles s n ps of all = record { name = of.name; parent = of.parent; attrs = of.attrs; styles = all; children = of.children }

pub attrs_put : (s t u : StoreView) (m : ℕ) (n : MarkupNode) (ps : List TextPair) → ((other : SeenNode) × (t ≡ with_node s m other)) → seen_node t.texts n ≡ markup_at s.heap m
    → u ≡ with_node t m (seen_node t.texts (record n { attrs = ps })) → u ≡ with_node s m (attrs_set (map (seen_pair s.texts) ps) (markup_at s.heap m))
attrs_put s t u m n ps (other, taken) node put =
    let texts : t.texts ≡ s.texts = ap (λ (x : StoreView). x.texts) taken in
    put_back s t u m other _ taken put ∙ ap (λ x. with_node s m (attrs_set (map (seen_pair t.texts) ps) x)) node ∙ ap (λ ts. with_node s m (attrs_set (map (seen_pair ts) ps) (markup_at s.heap m))) texts

pub styles_put : (s t u : StoreView) (m : ℕ) (n : MarkupNode) (ps : List MarkupStyle) → ((other : SeenNode) × (t ≡ with_node s m other)) → seen_node t.texts n ≡ markup_at s.heap m
    → u ≡ with_node t m (seen_node t.texts (record n { styles = ps })) → u ≡ with_node s m (styles_set (map (seen_style s.texts) ps) (markup_at s.heap m))
styles_put s t u m n ps (other, taken) node put =
    let texts : t.texts ≡ s.texts = ap (λ (x : StoreView). x.texts) taken in
    put_back s t u m other _ taken put ∙ ap (λ x. with_node s m (styles_set (map (seen_style t.texts) ps) x)) node ∙ ap (λ ts. with_node s m (styles_set (map (seen_style ts) ps) (markup_at s.heap m))) texts

-- what was set is set in the heap of the earlier store, which is the same
pub set_there_attrs : (h : Heap Proc) (u v : StoreView) (m : ℕ) (made : List (List ℕ × List ℕ)) (are : List (List ℕ × List ℕ) → List (List ℕ × List ℕ)) → u.heap ≡ h → made ≡ are (markup_at u.heap m).attrs
    → v ≡ with_node u m (attrs_set made (markup_at u.heap m)) → v.heap ≡ set_markup_in h m (attrs_set (are (markup_at h m).attrs) (markup_at h m))
set_there_attrs h u v m made are heap is put =
    ap (λ (x : StoreView). x.heap) put ∙ ap (λ xs. set_markup_in u.heap m (attrs_set xs (markup_at u.heap m))) is
    ∙ ap (λ (x : Heap Proc). set_markup_in x m (attrs_set (are (markup_at x m).attrs) (markup_at x m))) heap

pub set_there_styles : (h : Heap Proc) (u v : StoreView) (m : ℕ) (made : List SeenStyle) (are : List SeenStyle → List SeenStyle) → u.heap ≡ h → made ≡ are (markup_at u.heap m).styles
    → v ≡ with_node u m (styles_set made (markup_at u.heap m)) → v.heap ≡ set_markup_in h m (styles_set (are (markup_at h m).styles) (markup_at h m))
set_there_styles h u v m made are heap is put =
    ap (λ (x : StoreView). x.heap) put ∙ ap (λ xs. set_markup_in u.heap m (styles_set xs (markup_at u.heap m))) is
    ∙ ap (λ (x : Heap Proc). set_markup_in x m (styles_set (are (markup_at x m).styles) (markup_at x m))) heap

-- A TEXT OF STYLES is added
pub style_pushed : (s : StoreView) (n : MarkupNode) (new : List MarkupStyle) (id : TextId) → IsNodeOf s n → IsTextOf s id → new ≡ n.styles ++ style.Text id ∷ [] → IsNodeOf s (record n { styles = new })
style_pushed s n new id of text is = node_with_styles s n new of (subst (AllByRecursion (IsStyleOf s)) (sym is) (all_then (IsStyleOf s) n.styles (style.Text id ∷ []) of.styles (text, tt)))

pub style_text_put : (h : Heap Proc) (s t u : StoreView) (m : ℕ) (n : MarkupNode) (new : List MarkupStyle) (id : TextId) (bytes : List ℕ) → s.heap ≡ h → text_at s.texts id.at ≡ bytes
    → ((other : SeenNode) × (t ≡ with_node s m other)) → seen_node t.texts n ≡ markup_at s.heap m → new ≡ n.styles ++ style.Text id ∷ []
    → u ≡ with_node t m (seen_node t.texts (record n { styles = new })) → u.heap ≡ set_markup_in h m (add_style_text bytes (markup_at h m))
style_text_put h s t u m n new id bytes same there (other, taken) node is put =
    let texts : t.texts ≡ s.texts = ap (λ (x : StoreView). x.texts) taken in
    let made : seen_node t.texts (record n { styles = new }) ≡ add_style_text bytes (markup_at s.heap m) =
    ap (λ ps. let x : SeenNode = record (seen_node t.texts n) { styles = map (seen_style t.texts) ps } in x) is
    ∙ ap (λ ps. let x : SeenNode = record (seen_node t.texts n) { styles = ps } in x) (map-append (seen_style t.texts) n.styles (style.Text id ∷ []))
    ∙ ap (λ ts. add_style_text (text_at ts id.at) (seen_node t.texts n)) texts ∙ ap (λ b. add_style_text b (seen_node t.texts n)) there ∙ ap (add_style_text bytes) node in
    ap (λ (x : StoreView). x.heap) (put_back s t u m other _ taken put) ∙ ap (set_markup_in s.heap m) made ∙ ap (λ (x : Heap Proc). set_markup_in x m (add_style_text bytes (markup_at x m))) same
