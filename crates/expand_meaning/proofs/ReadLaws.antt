-- Trees that are laid out as nodes are read back.
use Rattle.std.proofs.Common.{◌≡◌, Bool, true, false, cond, ℕ, zero, suc, ◌+◌, ◌-◌, List, [], ◌∷◌, ◌++◌, take, drop, length, refl, ap, sym, ◌∙◌, arith}
use Rattle.std.proofs.lemmas.List.{length-append}
use Rattle.std.proofs.Math.Seq.{take-append_seam, drop-append_seam}
use Rattle.wiki_markup.specs.Nodes.{Node, NodeKind, Text, Construct, Parameter, Part, Equals}
use Rattle.wiki_markup.specs.declared.cells.Shape.TheVariants.{Double, Triple, Square}
use Rattle.wiki_markup.specs.Items.{Opening, Closing, Split, Assign, Byte, Items, none, one, group, letters_from, items_from}
use Rattle.wiki_markup.specs.Pairing.{opening_byte, closing_byte, rewrite_all}
use Rattle.wiki_markup.specs.Trees.{Trees, done, text, equals, node, byte, bytes, splits, assigns, Parts, in_front, part_of, nothing, trees_of, count, preorder, pairing, marked_of}
use Rattle.wiki_markup.specs.declared.cells.Place.{Place as Where}
use Rattle.wiki_markup.specs.declared.cells.Place.TheVariants.{Outside, FirstPart, LaterPart, BehindEquals}
use Rattle.wiki_markup.specs.Formed.{Standing, In, AllParts, LaterParts, Formed, IsMarked}
use Rattle.wiki_markup.specs.declared.marked.ShownText.{ShownText}
use Rattle.expand_meaning.specs.Places.{planted, reach, trees_at, ReadBack}
use Rattle.expand_meaning.proofs.TreeLaws.{trees_first, no_trees}

-- a node is a construct, a parameter or a part
abbrev IsNode : NodeKind → Type 0
IsNode Construct = Unit {0}
IsNode Parameter = Unit {0}
IsNode Part = Unit {0}
IsNode (Text bs) = ⊥
IsNode Equals = ⊥

unfoldable Laid : Trees → Type 0
Laid done = Unit {0}
Laid (text bs rest) = Laid rest
Laid (equals rest) = Laid rest
Laid (node kind inside rest) = IsNode kind × Laid inside × Laid rest

-- as many nodes as the trees have
count_is : (t : Trees) (at : ℕ) → length (preorder at t) ≡ count t
unfolding preorder count
count_is done at = refl
count_is (text bs rest) at = omega (arith, count_is rest (at + 1))
count_is (equals rest) at = omega (arith, count_is rest (at + 1))
count_is (node kind inside rest) at =
    omega (arith, count_is inside (at + 1), count_is rest (at + 1 + count inside), length-append (preorder (at + 1) inside) (preorder (at + 1 + count inside) rest))

-- nothing stands in a text
leaf_at : (at : ℕ) (xs : List Node) → trees_at (at + 1 + (at + 1 - (at + 1))) (drop (at + 1 - (at + 1)) xs) ≡ trees_at (at + 1) xs
leaf_at at xs =
    let z : at + 1 - (at + 1) ≡ 0 = omega arith in
    let a : at + 1 + 0 ≡ at + 1 = omega arith in
    ap (λ n. trees_at (at + 1 + n) (drop n xs)) z ∙ ap (λ n. trees_at n xs) a

-- what stands in a node, and what stands behind it
node_by : (kind : NodeKind) (inside rest : Trees) (at n : ℕ) (xs ys : List Node) → n ≡ length xs → trees_at (at + 1) xs ≡ inside → trees_at (at + 1 + n) ys ≡ rest
    → trees_at at (record { kind = kind; end = at + 1 + n } ∷ (xs ++ ys)) ≡ planted kind inside rest
node_by kind inside rest at n xs ys e hi hr =
    let r : at + 1 + n - (at + 1) ≡ length xs = omega (arith, e) in
    let first : take (at + 1 + n - (at + 1)) (xs ++ ys) ≡ xs = ap (λ k. take k (xs ++ ys)) r ∙ take-append_seam xs ys in
    let behind : drop (at + 1 + n - (at + 1)) (xs ++ ys) ≡ ys = ap (λ k. drop k (xs ++ ys)) r ∙ drop-append_seam xs ys in
    let place : at + 1 + (at + 1 + n - (at + 1)) ≡ at + 1 + n = omega arith in
    trees_first at (record { kind = kind; end = at + 1 + n }) (xs ++ ys)
    ∙ ap (λ zs. planted kind (trees_at (at + 1) zs) (trees_at (at + 1 + (at + 1 + n - (at + 1))) (drop (at + 1 + n - (at + 1)) (xs ++ ys)))) first
    ∙ ap (λ t. planted kind t (trees_at (at + 1 + (at + 1 + n - (at + 1))) (drop (at + 1 + n - (at + 1)) (xs ++ ys)))) hi
    ∙ ap (λ zs. planted kind inside (trees_at (at + 1 + (at + 1 + n - (at + 1))) zs)) behind
    ∙ ap (λ k. planted kind inside (trees_at k ys)) place
    ∙ ap (planted kind inside) hr

-- such a node is planted as it was
node_read : (kind : NodeKind) (inside rest : Trees) → IsNode kind → planted kind inside rest ≡ node kind inside rest
node_read Construct inside rest k = refl
node_read Parameter inside rest k = refl
node_read Part inside rest k = refl
node_read (Text bs) inside rest k = absurd k
node_read Equals inside rest k = absurd k

-- such trees are read back, wherever they begin
read_laid : (t : Trees) (at : ℕ) → Laid t → trees_at at (preorder at t) ≡ t
unfolding Laid preorder
read_laid done at l = no_trees at
read_laid (text bs rest) at l =
    trees_first at (record { kind = Text bs; end = at + 1 }) (preorder (at + 1) rest)
    ∙ ap (text bs) (leaf_at at (preorder (at + 1) rest) ∙ read_laid rest (at + 1) l)
read_laid (equals rest) at l =
    trees_first at (record { kind = Equals; end = at + 1 }) (preorder (at + 1) rest)
    ∙ ap equals (leaf_at at (preorder (at + 1) rest) ∙ read_laid rest (at + 1) l)
read_laid (node kind inside rest) at l =
    node_by kind inside rest at (count inside) (preorder (at + 1) inside) (preorder (at + 1 + count inside) rest) (sym (count_is inside (at + 1)))
    (read_laid inside (at + 1) l.1) (read_laid rest (at + 1 + count inside) l.2)
    ∙ node_read kind inside rest l.0

-- trees of a page's form are such trees
formed_laid : (s : Standing) (t : Trees) → Formed s t → Laid t
unfolding Formed Laid
formed_laid s done f = tt
formed_laid (In w) (text bs rest) f = formed_laid (In w) rest f.2
formed_laid AllParts (text bs rest) f = absurd f
formed_laid LaterParts (text bs rest) f = absurd f
formed_laid (In LaterPart) (equals rest) f = formed_laid (In BehindEquals) rest f
formed_laid (In Outside) (equals rest) f = absurd f
formed_laid (In FirstPart) (equals rest) f = absurd f
formed_laid (In BehindEquals) (equals rest) f = absurd f
formed_laid AllParts (equals rest) f = absurd f
formed_laid LaterParts (equals rest) f = absurd f
formed_laid (In w) (node Construct inside rest) f = (tt, formed_laid AllParts inside f.0, formed_laid (In w) rest f.1)
formed_laid (In w) (node Parameter inside rest) f = (tt, formed_laid AllParts inside f.0, formed_laid (In w) rest f.1)
formed_laid AllParts (node Part inside rest) f = (tt, formed_laid (In FirstPart) inside f.0, formed_laid LaterParts rest f.1)
formed_laid LaterParts (node Part inside rest) f = (tt, formed_laid (In LaterPart) inside f.0, formed_laid LaterParts rest f.1)
formed_laid (In w) (node Part inside rest) f = absurd f
formed_laid (In w) (node Equals inside rest) f = absurd f
formed_laid (In w) (node (Text bs) inside rest) f = absurd f
formed_laid AllParts (node Construct inside rest) f = absurd f
formed_laid AllParts (node Parameter inside rest) f = absurd f
formed_laid AllParts (node Equals inside rest) f = absurd f
formed_laid AllParts (node (Text bs) inside rest) f = absurd f
formed_laid LaterParts (node Construct inside rest) f = absurd f
formed_laid LaterParts (node Parameter inside rest) f = absurd f
formed_laid LaterParts (node Equals inside rest) f = absurd f
formed_laid LaterParts (node (Text bs) inside rest) f = absurd f

pub read_back_at : (s : Standing) (t : Trees) (at : ℕ) → Formed s t → trees_at at (preorder at t) ≡ t
read_back_at s t at f = read_laid t at (formed_laid s t f)

-- THE LAW
pub read_back : ReadBack
read_back nodes marked = ap (trees_at 0) marked.2 ∙ read_back_at (In Outside) marked.0 0 marked.1

-- a pairing is made of such trees
laid_byte : (b : ℕ) (t : Trees) → Laid t → Laid (byte b t)
unfolding Laid
laid_byte b done l = tt
laid_byte b (text bs rest) l = l
laid_byte b (equals rest) l = l
laid_byte b (node kind inside rest) l = l

laid_bytes : (n b : ℕ) (t : Trees) → Laid t → Laid (bytes n b t)
unfolding bytes
laid_bytes zero b t l = l
laid_bytes (suc n) b t l = laid_byte b (bytes n b t) (laid_bytes n b t l)

abbrev LaidParts : Parts → Type 0
LaidParts p = Laid p.here × Laid p.later

laid_either : (b : Bool) (p q : Parts) → LaidParts p → LaidParts q → LaidParts (cond b p q)
laid_either true p q x y = x
laid_either false p q x y = y

laid_nothing : LaidParts nothing
unfolding Laid
laid_nothing = (tt, tt)

laid_cut : (p : Parts) → LaidParts p → LaidParts (record { here = done; later = part_of p })
unfolding Laid
laid_cut p l = (tt, (tt, l.0, l.1))

laid_equals : (p : Parts) → LaidParts p → LaidParts (in_front equals p)
unfolding Laid
laid_equals p l = l

laid_front : (n b : ℕ) (p : Parts) → LaidParts p → LaidParts (in_front (bytes n b) p)
laid_front n b p l = (laid_bytes n b p.here l.0, l.1)

laid_node : (kind : NodeKind) (p q : Parts) → IsNode kind → LaidParts p → LaidParts q → LaidParts (in_front (node kind (part_of p)) q)
unfolding Laid
laid_node kind p q k l m = ((k, (tt, l.0, l.1), m.0), m.1)

laid_of : (w : Where) (items : Items) (p : Parts) → LaidParts p → LaidParts (trees_of w items p)
unfolding trees_of
laid_of w none p l = l
laid_of w (one (Opening k n) rest) p l = laid_front n (opening_byte k) _ (laid_of w rest p l)
laid_of w (one (Closing k n) rest) p l = laid_front n (closing_byte k) _ (laid_of w rest p l)
laid_of w (one (Byte b) rest) p l = let h = laid_of w rest p l in (laid_byte b _ h.0, h.1)
laid_of w (one Split rest) p l =
    let h = laid_of w rest p l in
    laid_either (splits w) _ _ (laid_cut _ (laid_of LaterPart rest p l)) (laid_byte 124 _ h.0, h.1)
laid_of w (one Assign rest) p l =
    let h = laid_of w rest p l in
    laid_either (assigns w) _ _ (laid_equals _ (laid_of BehindEquals rest p l)) (laid_byte 61 _ h.0, h.1)
laid_of w (group Square inside rest) p l =
    laid_front 2 91 _ (laid_of Outside inside _ (laid_front 2 93 _ (laid_of w rest p l)))
laid_of w (group Double inside rest) p l = laid_node Construct _ _ tt (laid_of FirstPart inside nothing laid_nothing) (laid_of w rest p l)
laid_of w (group Triple inside rest) p l = laid_node Parameter _ _ tt (laid_of FirstPart inside nothing laid_nothing) (laid_of w rest p l)

-- the trees of a paired text are its pairing
pub pairing_back : (s : ShownText) → trees_at 0 (marked_of s) ≡ pairing s
pairing_back s = read_laid (pairing s) 0 (laid_of Outside (rewrite_all (items_from 0 (letters_from s.literals s.cuts 0 s.bytes))) nothing laid_nothing).0
