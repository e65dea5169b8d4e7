-- What nodes are, as they are held.
use Rattle.std.proofs.Common.{◌≡◌, ℕ, zero, suc, ◌+◌, ◌-◌, ◌≤◌, ◌<◌, List, [], ◌∷◌, ◌++◌, length, take, drop, map, get_or, reverse, slice_get, refl, sym, ◌∙◌, ap, subst, arith}
use Rattle.std.specs.Prelude.{Some, None}
use Rattle.std.proofs.Common.{length-append, length-drop}
use Rattle.std.proofs.lemmas.List.{length-reverse}
use Rattle.std.proofs.Math.ListN.{get_or-append}
use Rattle.std.proofs.Math.Seq.{get_or-append_seam, drop-append_seam}
use Rattle.std.proofs.lemmas.List.{take_all, take-append-le, drop-append-le, get_or_past}
use Rattle.std.proofs.lemmas.Option.{slice_get_past}
use Rattle.wiki_markup.specs.declared.held.Kept.{Kept}
use Rattle.wiki_markup.specs.declared.held.Kept.TheVariants.{Text as KeptText, Equals as KeptEquals, Branch as KeptBranch}
use Rattle.wiki_markup.specs.declared.held.Branch.{Branch}
use Rattle.wiki_markup.specs.Nodes.{NodeKind, Text, Equals, Node}
use Rattle.wiki_markup.specs.Build.{put_node, from_left}
use Rattle.wiki_markup.specs.Held.{begin_of, texts_from, AreEnds, branch_kind, node_of, nodes_from, nodes_before, AreNumbered, turned}

-- ---- texts

ends_most : (from : ℕ) (ends : List ℕ) (size : ℕ) → AreEnds from ends size → from ≤ size
ends_most from [] size h = omega (arith, h)
ends_most from (end ∷ ends) size h = omega (arith, h.0, ends_most end ends size h.1)

-- a place more, where the bytes end
ends_after : (from : ℕ) (ends : List ℕ) (size more : ℕ) → AreEnds from ends size → size ≤ more → AreEnds from (ends ++ more ∷ []) more
ends_after from [] size more h le = (omega (arith, h, le), refl)
ends_after from (end ∷ ends) size more h le = (h.0, ends_after end ends size more h.1 le)

ends_more : (ends bytes text : List ℕ) → AreEnds 0 ends (length bytes) → AreEnds 0 (ends ++ length (bytes ++ text) ∷ []) (length (bytes ++ text))
ends_more ends bytes text h = ends_after 0 ends (length bytes) (length (bytes ++ text)) h (omega (arith, length-append bytes text))

-- what stands in the bytes before stands in more of them
same_part : (from end : ℕ) (bytes text : List ℕ) → from ≤ end → end ≤ length bytes → take (end - from) (drop from (bytes ++ text)) ≡ take (end - from) (drop from bytes)
same_part from end bytes text h le =
    ap (take (end - from)) (drop-append-le from bytes text (omega (arith, h, le)))
    ∙ take-append-le (end - from) (drop from bytes) text (omega (arith, h, le, length-drop from bytes))

last_part : (from : ℕ) (bytes text : List ℕ) → from ≡ length bytes → take (length (bytes ++ text) - from) (drop from (bytes ++ text)) ≡ text
last_part from bytes text e =
    ap (λ n. take (length (bytes ++ text) - from) (drop n (bytes ++ text))) e
    ∙ ap (take (length (bytes ++ text) - from)) (drop-append_seam bytes text)
    ∙ take_all (length (bytes ++ text) - from) text (omega (arith, e, length-append bytes text))

cons_text : (a b : List ℕ) (as' bs : List (List ℕ)) → a ≡ b → as' ≡ bs → a ∷ as' ≡ b ∷ bs
cons_text a b as' bs e f = ap (λ x. x ∷ as') e ∙ ap (λ xs. b ∷ xs) f

texts_after : (from : ℕ) (ends bytes text : List ℕ) → AreEnds from ends (length bytes) → texts_from from (ends ++ length (bytes ++ text) ∷ []) (bytes ++ text) ≡ texts_from from ends bytes ++ text ∷ []
unfolding texts_from
texts_after from [] bytes text h = ap (λ x. x ∷ []) (last_part from bytes text h)
texts_after from (end ∷ ends) bytes text h =
    cons_text (take (end - from) (drop from (bytes ++ text))) (take (end - from) (drop from bytes)) (texts_from end (ends ++ length (bytes ++ text) ∷ []) (bytes ++ text)) (texts_from end ends bytes ++ text ∷ [])
    (same_part from end bytes text h.0 (ends_most end ends (length bytes) h.1))
    (texts_after end ends bytes text h.1)

texts_more : (ends bytes text : List ℕ) → AreEnds 0 ends (length bytes) → texts_from 0 (ends ++ length (bytes ++ text) ∷ []) (bytes ++ text) ≡ texts_from 0 ends bytes ++ text ∷ []
texts_more ends bytes text h = texts_after 0 ends bytes text h

-- a text was added
pub pushed_ends : (ends bytes text ends' bytes' : List ℕ) → (bytes' ≡ bytes ++ text) × (ends' ≡ ends ++ length (bytes ++ text) ∷ []) → AreEnds 0 ends (length bytes) → AreEnds 0 ends' (length bytes')
pushed_ends ends bytes text ends' bytes' e h =
    subst (λ (bs : List ℕ). AreEnds 0 ends' (length bs)) (sym e.0) (subst (λ (es : List ℕ). AreEnds 0 es (length (bytes ++ text))) (sym e.1) (ends_more ends bytes text h))

pub pushed_texts : (ends bytes text ends' bytes' : List ℕ) (t : List (List ℕ)) → (bytes' ≡ bytes ++ text) × (ends' ≡ ends ++ length (bytes ++ text) ∷ []) → AreEnds 0 ends (length bytes)
    → texts_from 0 ends bytes ≡ t → texts_from 0 ends' bytes' ≡ t ++ text ∷ []
pushed_texts ends bytes text ends' bytes' t e h v =
    ap (texts_from 0 ends') e.0 ∙ ap (λ (es : List ℕ). texts_from 0 es (bytes ++ text)) e.1
    ∙ texts_more ends bytes text h ∙ ap (λ (ts : List (List ℕ)). ts ++ text ∷ []) v

length_from : (from : ℕ) (ends bytes : List ℕ) → length (texts_from from ends bytes) ≡ length ends
unfolding texts_from
length_from from [] bytes = refl
length_from from (end ∷ ends) bytes = ap suc (length_from end ends bytes)

pub texts_length : (ends bytes : List ℕ) (t : List (List ℕ)) (n : ℕ) → texts_from 0 ends bytes ≡ t → n ≡ length ends → n ≡ length t
texts_length ends bytes t n v e = e ∙ sym (length_from 0 ends bytes) ∙ ap length v

pub begin_behind : (ends : List ℕ) (n : ℕ) → 0 < n → get_or ends (n - 1) 0 ≡ begin_of 0 ends n
begin_behind ends zero h = absurd (omega (arith, h))
begin_behind ends (suc n) h = ap (λ k. get_or ends k 0) (omega arith)

text_in : (from : ℕ) (ends bytes : List ℕ) (n : ℕ) → n < length ends → get_or (texts_from from ends bytes) n [] ≡ take (get_or ends n 0 - begin_of from ends n) (drop (begin_of from ends n) bytes)
unfolding texts_from
text_in from [] bytes n h = absurd (omega (arith, h))
text_in from (end ∷ ends) bytes zero h = refl
text_in from (end ∷ ends) bytes (suc zero) h = text_in end ends bytes zero (omega (arith, h))
text_in from (end ∷ ends) bytes (suc (suc n)) h = text_in end ends bytes (suc n) (omega (arith, h))

pub text_is : (ends bytes : List ℕ) (n from end : ℕ) → n < length ends → from ≡ begin_of 0 ends n → end ≡ get_or ends n 0 → take (end - from) (drop from bytes) ≡ get_or (texts_from 0 ends bytes) n []
text_is ends bytes n from end h f e =
    ap (λ k. take (end - k) (drop k bytes)) f
    ∙ ap (λ k. take (k - begin_of 0 ends n) (drop (begin_of 0 ends n) bytes)) e
    ∙ sym (text_in 0 ends bytes n h)

pub no_text : (ends bytes : List ℕ) (n : ℕ) → length ends ≤ n → [] ≡ get_or (texts_from 0 ends bytes) n []
no_text ends bytes n h = sym (get_or_past (texts_from 0 ends bytes) n [] (omega (arith, h, length_from 0 ends bytes)))

inside : (from : ℕ) (ends : List ℕ) (size n : ℕ) → AreEnds from ends size → n < length ends → (begin_of from ends n ≤ get_or ends n 0) × (get_or ends n 0 ≤ size)
inside from [] size n h less = absurd (omega (arith, less))
inside from (end ∷ ends) size zero h less = (h.0, ends_most end ends size h.1)
inside from (end ∷ ends) size (suc zero) h less = inside end ends size zero h.1 (omega (arith, less))
inside from (end ∷ ends) size (suc (suc n)) h less = inside end ends size (suc n) h.1 (omega (arith, less))

pub text_inside : (ends : List ℕ) (size n : ℕ) → AreEnds 0 ends size → n < length ends → (begin_of 0 ends n ≤ get_or ends n 0) × (get_or ends n 0 ≤ size)
text_inside ends size n h less = inside 0 ends size n h less

-- ---- nodes from the right

pub numbered_more : (n m : ℕ) (ks : List Kept) → n ≤ m → AreNumbered n ks → AreNumbered m ks
numbered_more n m [] le h = tt
numbered_more n m (KeptText number ∷ ks) le h = (omega (arith, le, h.0), numbered_more n m ks le h.1)
numbered_more n m (KeptEquals ∷ ks) le h = numbered_more n m ks le h
numbered_more n m (KeptBranch branch place ∷ ks) le h = numbered_more n m ks le h

cons_node : (a b : Node) (as' bs : List Node) → a ≡ b → as' ≡ bs → a ∷ as' ≡ b ∷ bs
cons_node a b as' bs e f = ap (λ x. x ∷ as') e ∙ ap (λ xs. b ∷ xs) f

text_node : (a b : List ℕ) (m n : ℕ) → a ≡ b → m ≡ n → (let x : Node = record { kind = Text a; end = m } in x) ≡ record { kind = Text b; end = n }
text_node a b m n e f = rw (e, f) refl

-- a text more changes no node
same_nodes : (texts : List (List ℕ)) (text : List ℕ) (ks : List Kept) → AreNumbered (length texts) ks → nodes_before (texts ++ text ∷ []) ks ≡ nodes_before texts ks
unfolding nodes_before
same_nodes texts text [] h = refl
same_nodes texts text (KeptText number ∷ ks) h =
    cons_node (record { kind = Text (get_or (texts ++ text ∷ []) number []); end = length ks }) (record { kind = Text (get_or texts number []); end = length ks })
    (nodes_before (texts ++ text ∷ []) ks) (nodes_before texts ks)
    (text_node _ _ (length ks) (length ks) (get_or-append texts (text ∷ []) [] number h.0) refl)
    (same_nodes texts text ks h.1)
same_nodes texts text (KeptEquals ∷ ks) h = ap (λ (ns : List Node). node_of texts (length ks) KeptEquals ∷ ns) (same_nodes texts text ks h)
same_nodes texts text (KeptBranch branch place ∷ ks) h = ap (λ (ns : List Node). node_of texts (length ks) (KeptBranch branch place) ∷ ns) (same_nodes texts text ks h)

before_length : (texts : List (List ℕ)) (ks : List Kept) → length (nodes_before texts ks) ≡ length ks
unfolding nodes_before
before_length texts [] = refl
before_length texts (k ∷ ks) = ap suc (before_length texts ks)

pub before_count : (texts : List (List ℕ)) (ks : List Kept) (ns : List Node) (n : ℕ) → nodes_before texts ks ≡ ns → n ≡ length ks → n ≡ length ns
before_count texts ks ns n v e = e ∙ sym (before_length texts ks) ∙ ap length v

text_put : (texts : List (List ℕ)) (text : List ℕ) (ks : List Kept) → AreNumbered (length texts) ks
    → nodes_before (texts ++ text ∷ []) (KeptText (length texts) ∷ ks) ≡ put_node (Text text) (length (nodes_before texts ks)) (nodes_before texts ks)
unfolding nodes_before
text_put texts text ks h =
    cons_node (record { kind = Text (get_or (texts ++ text ∷ []) (length texts) []); end = length ks }) (record { kind = Text text; end = length (nodes_before texts ks) })
    (nodes_before (texts ++ text ∷ []) ks) (nodes_before texts ks)
    (text_node _ _ (length ks) _ (get_or-append_seam texts text [] []) (sym (before_length texts ks)))
    (same_nodes texts text ks h)

pub put_text : (texts texts' : List (List ℕ)) (text : List ℕ) (ks ks' : List Kept) (number : ℕ) → texts' ≡ texts ++ text ∷ [] → number ≡ length texts → ks' ≡ KeptText number ∷ ks
    → AreNumbered (length texts) ks → nodes_before texts' ks' ≡ put_node (Text text) (length (nodes_before texts ks)) (nodes_before texts ks)
put_text texts texts' text ks ks' number t n k h =
    ap (λ (ts : List (List ℕ)). nodes_before ts ks') t
    ∙ ap (nodes_before (texts ++ text ∷ [])) (k ∙ ap (λ m. KeptText m ∷ ks) n)
    ∙ text_put texts text ks h

one_more : (texts : List (List ℕ)) (text : List ℕ) → length (texts ++ text ∷ []) ≡ length texts + 1
one_more texts text = length-append texts (text ∷ [])

-- the texts are there, before and after the node is put
pub numbered_kept : (texts texts' : List (List ℕ)) (text : List ℕ) (ks ks' : List Kept) → texts' ≡ texts ++ text ∷ [] → ks' ≡ ks → AreNumbered (length texts) ks → AreNumbered (length texts') ks'
numbered_kept texts texts' text ks ks' t k h =
    subst (AreNumbered (length texts')) (sym k) (numbered_more (length texts) (length texts') ks (omega (arith, ap length t, one_more texts text)) h)

pub numbered_put : (texts texts' : List (List ℕ)) (text : List ℕ) (ks ks' : List Kept) (number : ℕ) → texts' ≡ texts ++ text ∷ [] → number ≡ length texts → ks' ≡ KeptText number ∷ ks
    → AreNumbered (length texts) ks → AreNumbered (length texts') ks'
numbered_put texts texts' text ks ks' number t n k h =
    subst (AreNumbered (length texts')) (sym k)
    (omega (arith, n, ap length t, one_more texts text), numbered_more (length texts) (length texts') ks (omega (arith, ap length t, one_more texts text)) h)

equals_put : (texts : List (List ℕ)) (ks : List Kept) → nodes_before texts (KeptEquals ∷ ks) ≡ put_node Equals (length (nodes_before texts ks)) (nodes_before texts ks)
unfolding nodes_before
equals_put texts ks = ap (λ n. put_node Equals n (nodes_before texts ks)) (sym (before_length texts ks))

pub put_equals : (texts : List (List ℕ)) (ks ks' : List Kept) (ns : List Node) → nodes_before texts ks ≡ ns → ks' ≡ KeptEquals ∷ ks → nodes_before texts ks' ≡ put_node Equals (length ns) ns
put_equals texts ks ks' ns v k = ap (nodes_before texts) k ∙ equals_put texts ks ∙ ap (λ (xs : List Node). put_node Equals (length xs) xs) v

branch_put : (texts : List (List ℕ)) (branch : Branch) (right : ℕ) (ks : List Kept) → nodes_before texts (KeptBranch branch right ∷ ks) ≡ put_node (branch_kind branch) right (nodes_before texts ks)
unfolding nodes_before
branch_put texts branch right ks = refl

pub put_branch : (texts : List (List ℕ)) (branch : Branch) (right place : ℕ) (ks ks' : List Kept) (ns : List Node) → nodes_before texts ks ≡ ns → place ≡ right → ks' ≡ KeptBranch branch place ∷ ks
    → nodes_before texts ks' ≡ put_node (branch_kind branch) right ns
put_branch texts branch right place ks ks' ns v p k =
    ap (nodes_before texts) (k ∙ ap (λ m. KeptBranch branch m ∷ ks) p) ∙ branch_put texts branch right ks ∙ ap (put_node (branch_kind branch) right) v

-- ---- nodes from the left

cons_turned : (kind : NodeKind) (a b : ℕ) (as' bs : List Node) → a ≡ b → as' ≡ bs → put_node kind a as' ≡ put_node kind b bs
cons_turned kind a b as' bs e f = ap (λ n. put_node kind n as') e ∙ ap (put_node kind b) f

turned_from : (texts : List (List ℕ)) (ks : List Kept) (at n : ℕ) → n ≡ at + length ks → nodes_from texts at (map (turned n) ks) ≡ map (from_left n) (nodes_before texts ks)
unfolding nodes_from nodes_before
turned_from texts [] at n e = refl
turned_from texts (KeptText number ∷ ks) at n e =
    cons_turned (Text (get_or texts number [])) (at + 1) (n - length ks) (nodes_from texts (at + 1) (map (turned n) ks)) (map (from_left n) (nodes_before texts ks))
    (omega (arith, e)) (turned_from texts ks (at + 1) n (omega (arith, e)))
turned_from texts (KeptEquals ∷ ks) at n e =
    cons_turned Equals (at + 1) (n - length ks) (nodes_from texts (at + 1) (map (turned n) ks)) (map (from_left n) (nodes_before texts ks))
    (omega (arith, e)) (turned_from texts ks (at + 1) n (omega (arith, e)))
turned_from texts (KeptBranch branch right ∷ ks) at n e =
    ap (λ (ns : List Node). from_left n (node_of texts (length ks) (KeptBranch branch right)) ∷ ns) (turned_from texts ks (at + 1) n (omega (arith, e)))

turned_is : (texts : List (List ℕ)) (ks : List Kept) (n : ℕ) → n ≡ length ks → nodes_from texts 0 (map (turned n) ks) ≡ map (from_left (length (nodes_before texts ks))) (nodes_before texts ks)
turned_is texts ks n e =
    turned_from texts ks 0 n (omega (arith, e))
    ∙ ap (λ m. map (from_left m) (nodes_before texts ks)) (e ∙ sym (before_length texts ks))

-- all nodes, from the left
pub finished : (texts texts' : List (List ℕ)) (items ks : List Kept) (ns : List Node) → nodes_before texts (reverse items) ≡ ns → texts' ≡ texts → ks ≡ map (turned (length items)) (reverse items)
    → nodes_from texts' 0 ks ≡ map (from_left (length ns)) ns
finished texts texts' items ks ns v t k =
    ap (λ (ts : List (List ℕ)). nodes_from ts 0 ks) t
    ∙ ap (nodes_from texts 0) k
    ∙ turned_is texts (reverse items) (length items) (sym (length-reverse items))
    ∙ ap (λ (xs : List Node). map (from_left (length xs)) xs) v

from_length : (texts : List (List ℕ)) (at : ℕ) (ks : List Kept) → length (nodes_from texts at ks) ≡ length ks
unfolding nodes_from
from_length texts at [] = refl
from_length texts at (k ∷ ks) = ap suc (from_length texts (at + 1) ks)

node_from : (texts : List (List ℕ)) (ks : List Kept) (at i : ℕ) (d : Kept) → i < length ks → slice_get (nodes_from texts at ks) i ≡ Some (node_of texts (at + i + 1) (get_or ks i d))
unfolding nodes_from
node_from texts [] at i d h = absurd (omega (arith, h))
node_from texts (k ∷ ks) at zero d h = ap (λ n. Some (node_of texts n k)) (omega arith)
node_from texts (k ∷ ks) at (suc i) d h =
    node_from texts ks (at + 1) i d (omega (arith, h))
    ∙ ap (λ n. Some (node_of texts n (get_or ks i d))) (omega arith)

pub count_is : (texts : List (List ℕ)) (ks : List Kept) (ns : List Node) (n : ℕ) → nodes_from texts 0 ks ≡ ns → n ≡ length ks → n ≡ length ns
count_is texts ks ns n v e = e ∙ sym (from_length texts 0 ks) ∙ ap length v

pub node_is : (texts : List (List ℕ)) (ks : List Kept) (i : ℕ) (d : Kept) (x : Node) → i < length ks → x ≡ node_of texts (i + 1) (get_or ks i d) → Some x ≡ slice_get (nodes_from texts 0 ks) i
node_is texts ks i d x h e =
    let place : 0 + i + 1 ≡ i + 1 = omega arith in
    ap Some e ∙ ap (λ n. Some (node_of texts n (get_or ks i d))) (sym place) ∙ sym (node_from texts ks 0 i d h)

pub no_node : (texts : List (List ℕ)) (ks : List Kept) (i : ℕ) → length ks ≤ i → None ≡ slice_get (nodes_from texts 0 ks) i
no_node texts ks i h = sym (slice_get_past (nodes_from texts 0 ks) i (omega (arith, h, from_length texts 0 ks)))
