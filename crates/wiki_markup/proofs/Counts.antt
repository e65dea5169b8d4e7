-- There are at most as many nodes as bytes.
use Rattle.std.proofs.Common.{◌≡◌, ℕ, suc, zero, ◌+◌, ◌-◌, ◌≤◌, ◌<◌, Bool, true, false, List, [], ◌∷◌, ◌++◌, length, take, drop, replicate, cond, refl, sym, ◌∙◌, ap, arith, length-append}
use Rattle.std.proofs.lemmas.List.{length-replicate, length-take, length-drop}
use Rattle.wiki_markup.specs.declared.cells.Pair.{Pair}
use Rattle.wiki_markup.specs.declared.cells.Pair.TheVariants.{Brace, Bracket}
use Rattle.wiki_markup.specs.declared.cells.Shape.{Shape}
use Rattle.wiki_markup.specs.declared.cells.Shape.TheVariants.{Double, Triple, Square}
use Rattle.wiki_markup.specs.Items.{Leaf, Opening, Closing, Split, Assign, Byte, Items, none, one, group, size_of}
use Rattle.wiki_markup.specs.Trees.{Trees, done, text, equals, node, byte, bytes, Where, Outside, FirstPart, LaterPart, BehindEquals, Parts, in_front, nothing, trees_of, count, preorder}
use Rattle.wiki_markup.specs.Pairing.{opening_byte, closing_byte, rewrite_all, shape_of}
use Rattle.wiki_markup.specs.declared.cells.Cell.{Cell}
use Rattle.wiki_markup.specs.declared.cells.Cell.TheVariants.{Byte as ByteCell, Bar as BarCell, Equal as EqualCell, Inner}
use Rattle.wiki_markup.specs.declared.cells.Letter.{Letter}
use Rattle.wiki_markup.specs.declared.cells.Mark.{Mark}
use Rattle.wiki_markup.specs.declared.cells.Mark.TheVariants.{Open, Close, Bar, Equal, Plain}
use Rattle.wiki_markup.specs.declared.cells.Wait.{Wait}
use Rattle.wiki_markup.specs.declared.marked.Span.{Span}
use Rattle.wiki_markup.specs.Items.{same_pair, run, same_mark, leaf_for, leaf_of, items_from, letters_from}
use Rattle.wiki_markup.specs.Work.{marks, begin_cells, end_cells, cells_of, Work, pairs, top, join_run, close_run, step, scan, no_work, write_at, Stands, CanJoin, cells_before, waits_of}
use Rattle.wiki_markup.proofs.Closing.{joins, step_none, step_some, stands_join, stands_step, pairs_most, join_is, can_join}
use Rattle.wiki_markup.proofs.Passes.{scanned_cells}

-- how many bytes some items have
unfoldable pub bytes_in : Items → ℕ
bytes_in none = 0
bytes_in (one leaf rest) = size_of leaf + bytes_in rest
bytes_in (group shape inside rest) = marks shape + bytes_in inside + (marks shape + bytes_in rest)

abbrev pub nodes_in : Parts → ℕ
nodes_in p = count p.here + count p.later

count_byte : (b : ℕ) (t : Trees) → count (byte b t) ≤ 1 + count t
unfolding count
count_byte b done = omega arith
count_byte b (text bs rest) = omega arith
count_byte b (equals rest) = omega arith
count_byte b (node k i rest) = omega arith

count_bytes : (n b : ℕ) (t : Trees) → count (bytes n b t) ≤ n + count t
unfolding bytes
count_bytes zero b t = omega arith
count_bytes (suc n) b t = omega (arith, count_byte b (bytes n b t), count_bytes n b t)

pub count_trees : (items : Items) (w : Where) (p : Parts) → nodes_in (trees_of w items p) ≤ bytes_in items + nodes_in p
unfolding trees_of bytes_in count
count_trees none w p = omega arith
count_trees (group Square inside rest) w p =
    let behind = in_front (bytes 2 93) (trees_of w rest p) in
    omega (
      arith,
      count_trees inside Outside behind,
      count_trees rest w p,
      count_bytes 2 91 (trees_of Outside inside behind).here,
      count_bytes 2 93 (trees_of w rest p).here,
    )
count_trees (group Double inside rest) w p = omega (arith, count_trees inside FirstPart nothing, count_trees rest w p)
count_trees (group Triple inside rest) w p = omega (arith, count_trees inside FirstPart nothing, count_trees rest w p)
count_trees (one (Opening k n) rest) w p = omega (arith, count_trees rest w p, count_bytes n (opening_byte k) (trees_of w rest p).here)
count_trees (one (Closing k n) rest) w p = omega (arith, count_trees rest w p, count_bytes n (closing_byte k) (trees_of w rest p).here)
count_trees (one (Byte b) rest) w p = omega (arith, count_trees rest w p, count_byte b (trees_of w rest p).here)
count_trees (one Split rest) Outside p = omega (arith, count_trees rest Outside p, count_byte 124 (trees_of Outside rest p).here)
count_trees (one Split rest) FirstPart p = omega (arith, count_trees rest LaterPart p)
count_trees (one Split rest) LaterPart p = omega (arith, count_trees rest LaterPart p)
count_trees (one Split rest) BehindEquals p = omega (arith, count_trees rest LaterPart p)
count_trees (one Assign rest) Outside p = omega (arith, count_trees rest Outside p, count_byte 61 (trees_of Outside rest p).here)
count_trees (one Assign rest) FirstPart p = omega (arith, count_trees rest FirstPart p, count_byte 61 (trees_of FirstPart rest p).here)
count_trees (one Assign rest) LaterPart p = omega (arith, count_trees rest BehindEquals p)
count_trees (one Assign rest) BehindEquals p = omega (arith, count_trees rest BehindEquals p, count_byte 61 (trees_of BehindEquals rest p).here)

-- the list of nodes has that length
pub length_preorder : (t : Trees) (at : ℕ) → length (preorder at t) ≡ count t
unfolding preorder count
length_preorder done at = refl
length_preorder (text bs rest) at = rw (length_preorder rest (at + 1)) (omega arith)
length_preorder (equals rest) at = rw (length_preorder rest (at + 1)) (omega arith)
length_preorder (node k i rest) at =
    omega (arith, length-append (preorder (at + 1) i) (preorder (at + 1 + count i) rest), length_preorder i (at + 1), length_preorder rest (at + 1 + count i))

marks_some : (s : Shape) → 1 ≤ marks s
marks_some Double = omega arith
marks_some Triple = omega arith
marks_some Square = omega arith

-- A cell stands for each byte.
length_cells : (items : Items) → length (cells_of items) ≡ bytes_in items
unfolding cells_of bytes_in
length_cells none = refl
length_cells (one (Opening p n) rest) = omega (arith, length-append (replicate n (ByteCell (opening_byte p))) (cells_of rest), length-replicate n (ByteCell (opening_byte p)), length_cells rest)
length_cells (one (Closing p n) rest) = omega (arith, length-append (replicate n (ByteCell (closing_byte p))) (cells_of rest), length-replicate n (ByteCell (closing_byte p)), length_cells rest)
length_cells (one Split rest) = omega (arith, length_cells rest)
length_cells (one Assign rest) = omega (arith, length_cells rest)
length_cells (one (Byte b) rest) = omega (arith, length_cells rest)
length_cells (group s i rest) = omega (
  arith,
  marks_some s,
  length-append (replicate (marks s - 1) Inner) (cells_of i ++ (end_cells s ++ cells_of rest)),
  length-append (cells_of i) (end_cells s ++ cells_of rest),
  length-append (replicate (marks s - 1) Inner) (cells_of rest),
  length-replicate (marks s - 1) Inner,
  length_cells i,
  length_cells rest,
)

length_written : (i : ℕ) (new cells : List Cell) → i + length new ≤ length cells → length (write_at i new cells) ≡ length cells
length_written i new cells h = omega (arith, length-append (take i cells) (new ++ drop (i + length new) cells), length-append new (drop (i + length new) cells), length-take i cells, length-drop (i + length new) cells)

length_begin : (s : Shape) → length (begin_cells s) ≡ marks s
length_begin s = omega (arith, marks_some s, length-replicate (marks s - 1) Inner)

length_end : (s : Shape) → length (end_cells s) ≡ marks s
length_end s = omega (arith, marks_some s, length-replicate (marks s - 1) Inner)

no_pairs : (p : Pair) (n : ℕ) → pairs p n [] ≡ 0
unfolding top
no_pairs p n = refl

join_length : (p : Pair) (n k : ℕ) (w : Work) → Stands w → pairs p n w.waits ≡ k → 0 < k → length (join_run k w.waits w.cells).cells ≡ length w.cells + k
join_length p n k w s e h = go w.waits refl
  where
    go : (ws : List Wait) → w.waits ≡ ws → length (join_run k w.waits w.cells).cells ≡ length w.cells + k
    go [] i = absurd (omega (arith, h, e, ap (pairs p n) i, no_pairs p n))
    go (t ∷ ws) i =
        let can : CanJoin k t w = can_join k w t ws (joins p n k w s e h) i in
        let shape : Shape = shape_of t.pair k in
        let place : ℕ = t.place + (t.count - k) in
        ap (λ v. length v.cells) (join_is k w t ws i)
        ∙ length-append (write_at (t.place + (t.count - k)) (begin_cells (shape_of t.pair k)) w.cells) (end_cells (shape_of t.pair k))
        ∙ omega (
          arith,
          length_written (t.place + (t.count - k)) (begin_cells (shape_of t.pair k)) w.cells (omega (arith, length_begin (shape_of t.pair k), can.shape, can.most, can.inside)),
          length_end (shape_of t.pair k),
          can.shape,
        )

close_length : (f : ℕ) (p : Pair) (n : ℕ) (w : Work) → Stands w → n < f → length (close_run f p n w).cells ≡ length w.cells + n
close_length zero p n w s h = absurd (omega arith)
close_length (suc f) p n w s h = go (λ m w' s' h'. close_length f p m w' s' h') (pairs p n w.waits) refl
  where
    go : ((m : ℕ) (w' : Work) → Stands w' → m < f → length (close_run f p m w').cells ≡ length w'.cells + m) → (k : ℕ) → pairs p n w.waits ≡ k →
        length (close_run (suc f) p n w).cells ≡ length w.cells + n
    go ih zero e = ap (λ v. length v.cells) (step_none f p n w e) ∙ length-append w.cells (replicate n (ByteCell (closing_byte p))) ∙ ap (λ k. length w.cells + k) (length-replicate n (ByteCell (closing_byte p)))
    go ih (suc k) e =
        let some : 0 < suc k = omega arith in
        let most : suc k ≤ n = omega (arith, pairs_most p n w.waits, e) in
        ap (λ v. length v.cells) (step_some f p n k w e)
        ∙ omega (arith, ih (n - suc k) (join_run (suc k) w.waits w.cells) (stands_join p n (suc k) w s e some) (omega arith), join_length p n (suc k) w s e some)

step_length : (leaf : Leaf) (w : Work) → Stands w → length (step leaf w).cells ≡ length w.cells + size_of leaf
step_length (Opening p n) w s = length-append w.cells (replicate n (ByteCell (opening_byte p))) ∙ ap (λ k. length w.cells + k) (length-replicate n (ByteCell (opening_byte p)))
step_length (Closing p n) w s = close_length (suc n) p n w s (omega arith)
step_length Split w s = length-append w.cells (BarCell ∷ [])
step_length Assign w s = length-append w.cells (EqualCell ∷ [])
step_length (Byte b) w s = length-append w.cells (ByteCell b ∷ [])

-- Items without nodes, as they are read.
abbrev Unpaired : Items → Type 0
Unpaired none = Unit {0}
Unpaired (one leaf rest) = Unpaired rest
Unpaired (group s i rest) = ⊥

scan_length : (items : Items) (w : Work) → Unpaired items → Stands w → length (scan items w).cells ≡ length w.cells + bytes_in items
unfolding scan bytes_in
scan_length none w u s = omega arith
scan_length (one leaf rest) w u s = omega (arith, scan_length rest (step leaf w) u (stands_step leaf w s), step_length leaf w s)
scan_length (group a i rest) w u s = absurd u

-- Rewriting keeps the number of bytes.
settled_bytes : (items : Items) → Unpaired items → bytes_in (rewrite_all items) ≡ bytes_in items
unfolding cells_before waits_of
settled_bytes items u = sym (length_cells (rewrite_all items)) ∙ sym (ap length (scanned_cells items)) ∙ scan_length items no_work u ([], refl) ∙ omega arith

run_most : (m : Mark) (s : List Letter) → run m s ≤ length s
unfolding run
run_most m [] = omega arith
run_most m (x ∷ s) = pick (same_mark m x.mark) x.joins (run_most m s)
  where
    pick : (a b : Bool) → run m s ≤ length s → cond a (cond b (suc (run m s)) 1) 0 ≤ suc (length s)
    pick true true h = omega arith
    pick true false h = omega arith
    pick false b h = omega arith

leaf_most : (x : Letter) (s : List Letter) → size_of (leaf_of x s) ≤ suc (length s)
leaf_most x s = by_mark x.mark (run_most x.mark (x ∷ s))
  where
    by_mark : (m : Mark) → run x.mark (x ∷ s) ≤ suc (length s) → size_of (leaf_for m (run x.mark (x ∷ s)) x.byte) ≤ suc (length s)
    by_mark (Open p) h = h
    by_mark (Close p) h = h
    by_mark Bar h = omega arith
    by_mark Equal h = omega arith
    by_mark Plain h = omega arith

same_self : (p : Pair) → same_pair p p ≡ true
same_self Brace = refl
same_self Bracket = refl

run_self : (x : Letter) (s : List Letter) → same_mark x.mark x.mark ≡ true → 1 ≤ run x.mark (x ∷ s)
unfolding run
run_self x s e = rw e (pick x.joins)
  where
    pick : (b : Bool) → 1 ≤ cond b (suc (run x.mark s)) 1
    pick true = omega arith
    pick false = omega arith

leaf_least : (x : Letter) (s : List Letter) → 1 ≤ size_of (leaf_of x s)
leaf_least x s = by_mark x.mark refl
  where
    by_mark : (m : Mark) → x.mark ≡ m → 1 ≤ size_of (leaf_for m (run x.mark (x ∷ s)) x.byte)
    by_mark (Open p) e = run_self x s (rw e (same_self p))
    by_mark (Close p) e = run_self x s (rw e (same_self p))
    by_mark Bar e = omega arith
    by_mark Equal e = omega arith
    by_mark Plain e = omega arith

items_bytes : (k : ℕ) (s : List Letter) → k ≤ length s → k + bytes_in (items_from k s) ≡ length s
unfolding items_from bytes_in
items_bytes zero [] h = refl
items_bytes (suc k) [] h = absurd (omega arith)
items_bytes (suc k) (x ∷ s) h = omega (arith, items_bytes k s (omega arith))
items_bytes zero (x ∷ s) h =
    omega (arith, leaf_least x s, items_bytes (size_of (leaf_of x s) - 1) s (omega (arith, leaf_most x s)))

items_unpaired : (k : ℕ) (s : List Letter) → Unpaired (items_from k s)
unfolding items_from
items_unpaired zero [] = tt
items_unpaired (suc k) [] = tt
items_unpaired (suc k) (x ∷ s) = items_unpaired k s
items_unpaired zero (x ∷ s) = items_unpaired (size_of (leaf_of x s) - 1) s

pub letters_length : (literals : List Span) (cuts : List ℕ) (at : ℕ) (bs : List ℕ) → length (letters_from literals cuts at bs) ≡ length bs
unfolding letters_from
letters_length literals cuts at [] = refl
letters_length literals cuts at (b ∷ bs) = ap suc (letters_length literals cuts (at + 1) bs)

-- There are at most as many nodes as letters.
pub letters_most : (s : List Letter) → length (preorder 0 (trees_of Outside (rewrite_all (items_from 0 s)) nothing).here) ≤ length s
unfolding count
letters_most s =
    omega (
      arith,
      length_preorder (trees_of Outside (rewrite_all (items_from 0 s)) nothing).here 0,
      count_trees (rewrite_all (items_from 0 s)) Outside nothing,
      settled_bytes (items_from 0 s) (items_unpaired 0 s),
      items_bytes 0 s (omega arith),
    )
