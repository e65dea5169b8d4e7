-- What is paired has the form of a page's trees.
use Rattle.std.proofs.Common.{◌≡◌, ℕ, suc, zero, List, refl, sym, ◌∙◌, subst}
use Rattle.wiki_markup.specs.declared.cells.Shape.TheVariants.{Double, Triple, Square}
use Rattle.wiki_markup.specs.Nodes.{Construct, Parameter}
use Rattle.wiki_markup.specs.Items.{Opening, Closing, Split, Assign, Byte, Items, none, one, group, items_from}
use Rattle.wiki_markup.specs.Pairing.{opening_byte, closing_byte, rewrite_all}
use Rattle.wiki_markup.specs.declared.cells.Letter.{Letter}
use Rattle.wiki_markup.specs.Trees.{preorder, Trees, done, text, equals, node, byte, bytes, Where, Outside, FirstPart, LaterPart, BehindEquals, Parts, in_front, part_of, nothing, trees_of}
use Rattle.wiki_markup.specs.Formed.{In, LaterParts, Formed, IsMarked}

formed_byte : (v : Where) (b : ℕ) (t : Trees) → Formed (In v) t → Formed (In v) (byte b t)
unfolding Formed
formed_byte v b done h = (tt, tt, tt)
formed_byte v b (text bs rest) h = (tt, h.1, h.2)
formed_byte v b (equals rest) h = (tt, tt, h)
formed_byte v b (node k i rest) h = (tt, tt, h)

formed_bytes : (v : Where) (n b : ℕ) (t : Trees) → Formed (In v) t → Formed (In v) (bytes n b t)
unfolding bytes
formed_bytes v zero b t h = h
formed_bytes v (suc n) b t h = formed_byte v b (bytes n b t) (formed_bytes v n b t h)

-- In brackets or outside, items go in front of what stands behind them.
abbrev Outer : Items → Type 0
Outer items = (v : Where) (p : Parts) → Formed (In v) p.here →
    Formed (In v) (trees_of Outside items p).here × ((trees_of Outside items p).later ≡ p.later)

-- In a part, items end it.
abbrev Inner : Items → Where → Type 0
Inner items w = Formed (In w) (trees_of w items nothing).here × Formed LaterParts (trees_of w items nothing).later

pub record Both (items : Items) : Type 0 where
  pub outer : Outer items
  pub first : Inner items FirstPart
  pub later : Inner items LaterPart
  pub behind : Inner items BehindEquals

formed_node : (v : Where) (inside : Items) (t : Trees) → Inner inside FirstPart → Formed (In v) t →
    Formed (In v) (node Construct (part_of (trees_of FirstPart inside nothing)) t) × Formed (In v) (node Parameter (part_of (trees_of FirstPart inside nothing)) t)
unfolding Formed
formed_node v inside t h g = (((h.0, h.1), g), ((h.0, h.1), g))

formed_none : (w : Where) → Formed (In w) done × Formed LaterParts done
unfolding Formed
formed_none w = (tt, tt)

formed_cut : (w : Where) (q : Parts) → Formed (In LaterPart) q.here → Formed LaterParts q.later → Formed (In w) done × Formed LaterParts (part_of q)
unfolding Formed
formed_cut w q f g = (tt, (f, g))

formed_equals : (t : Trees) → Formed (In BehindEquals) t → Formed (In LaterPart) (equals t)
unfolding Formed
formed_equals t f = f

-- brackets and what is in them, in front of what stands behind
abbrev bracketed : Items → Parts → Parts
bracketed inside q = in_front (bytes 2 91) (trees_of Outside inside (in_front (bytes 2 93) q))

formed_square : (inside : Items) → Outer inside → (v : Where) (q : Parts) → Formed (In v) q.here →
    Formed (In v) (bracketed inside q).here × ((bracketed inside q).later ≡ q.later)
formed_square inside i v q f =
    let g = i v (in_front (bytes 2 93) q) (formed_bytes v 2 93 q.here f) in
    (formed_bytes v 2 91 (trees_of Outside inside (in_front (bytes 2 93) q)).here g.0, g.1)

square_inner : (inside rest : Items) (w : Where) → Outer inside → Inner rest w →
    Formed (In w) (bracketed inside (trees_of w rest nothing)).here × Formed LaterParts (bracketed inside (trees_of w rest nothing)).later
square_inner inside rest w i h =
    let g = formed_square inside i w (trees_of w rest nothing) h.0 in
    (g.0, subst (Formed LaterParts) (sym g.1) h.1)

square_outer : (inside rest : Items) → Outer inside → Outer rest → (v : Where) (p : Parts) → Formed (In v) p.here →
    Formed (In v) (bracketed inside (trees_of Outside rest p)).here × ((bracketed inside (trees_of Outside rest p)).later ≡ p.later)
square_outer inside rest i h v p f =
    let r = h v p f in
    let g = formed_square inside i v (trees_of Outside rest p) r.0 in
    (g.0, g.1 ∙ r.1)

both : (items : Items) → Both items
unfolding trees_of
both none = record { outer = λ v p h. (h, refl); first = formed_none FirstPart; later = formed_none LaterPart; behind = formed_none BehindEquals }
both (one (Byte b) rest) =
    let h = both rest in
    record {
      outer = λ v p f. let g = h.outer v p f in (formed_byte v b _ g.0, g.1);
      first = (formed_byte FirstPart b _ h.first.0, h.first.1);
      later = (formed_byte LaterPart b _ h.later.0, h.later.1);
      behind = (formed_byte BehindEquals b _ h.behind.0, h.behind.1);
    }
both (one (Opening k n) rest) =
    let h = both rest in
    record {
      outer = λ v p f. let g = h.outer v p f in (formed_bytes v n (opening_byte k) _ g.0, g.1);
      first = (formed_bytes FirstPart n (opening_byte k) _ h.first.0, h.first.1);
      later = (formed_bytes LaterPart n (opening_byte k) _ h.later.0, h.later.1);
      behind = (formed_bytes BehindEquals n (opening_byte k) _ h.behind.0, h.behind.1);
    }
both (one (Closing k n) rest) =
    let h = both rest in
    record {
      outer = λ v p f. let g = h.outer v p f in (formed_bytes v n (closing_byte k) _ g.0, g.1);
      first = (formed_bytes FirstPart n (closing_byte k) _ h.first.0, h.first.1);
      later = (formed_bytes LaterPart n (closing_byte k) _ h.later.0, h.later.1);
      behind = (formed_bytes BehindEquals n (closing_byte k) _ h.behind.0, h.behind.1);
    }
both (one Split rest) =
    let h = both rest in
    record {
      outer = λ v p f. let g = h.outer v p f in (formed_byte v 124 _ g.0, g.1);
      first = formed_cut FirstPart _ h.later.0 h.later.1;
      later = formed_cut LaterPart _ h.later.0 h.later.1;
      behind = formed_cut BehindEquals _ h.later.0 h.later.1;
    }
both (one Assign rest) =
    let h = both rest in
    record {
      outer = λ v p f. let g = h.outer v p f in (formed_byte v 61 _ g.0, g.1);
      first = (formed_byte FirstPart 61 _ h.first.0, h.first.1);
      later = (formed_equals _ h.behind.0, h.behind.1);
      behind = (formed_byte BehindEquals 61 _ h.behind.0, h.behind.1);
    }
both (group Double inside rest) =
    let h = both rest in
    let i = both inside in
    record {
      outer = λ v p f. let g = h.outer v p f in ((formed_node v inside _ i.first g.0).0, g.1);
      first = ((formed_node FirstPart inside _ i.first h.first.0).0, h.first.1);
      later = ((formed_node LaterPart inside _ i.first h.later.0).0, h.later.1);
      behind = ((formed_node BehindEquals inside _ i.first h.behind.0).0, h.behind.1);
    }
both (group Triple inside rest) =
    let h = both rest in
    let i = both inside in
    record {
      outer = λ v p f. let g = h.outer v p f in ((formed_node v inside _ i.first g.0).1, g.1);
      first = ((formed_node FirstPart inside _ i.first h.first.0).1, h.first.1);
      later = ((formed_node LaterPart inside _ i.first h.later.0).1, h.later.1);
      behind = ((formed_node BehindEquals inside _ i.first h.behind.0).1, h.behind.1);
    }
both (group Square inside rest) =
    let h = both rest in
    let i = both inside in
    record {
      outer = square_outer inside rest i.outer h.outer;
      first = square_inner inside rest FirstPart i.outer h.first;
      later = square_inner inside rest LaterPart i.outer h.later;
      behind = square_inner inside rest BehindEquals i.outer h.behind;
    }

pub later_nothing : (items : Items) → (trees_of Outside items nothing).later ≡ done
later_nothing items = ((both items).outer Outside nothing (unfold Formed in tt)).1

-- The nodes are the preorder of trees of that form.
pub letters_marked : (s : List Letter) → IsMarked (preorder 0 (trees_of Outside (rewrite_all (items_from 0 s)) nothing).here)
letters_marked s = ((trees_of Outside (rewrite_all (items_from 0 s)) nothing).here, ((both (rewrite_all (items_from 0 s))).outer Outside nothing (unfold Formed in tt)).0, refl)
