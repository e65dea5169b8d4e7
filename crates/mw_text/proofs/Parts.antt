-- The loop of `split`: one part after another.
use Rattle.std.proofs.Common.{◌≡◌, ℕ, zero, suc, ◌+◌, ◌-◌, ◌<◌, ◌≤◌, List, [], ◌∷◌, ◌++◌, length, Option, Some, None, refl, sym, ap, ◌∙◌, subst, arith, append_assoc}
use Rattle.std.specs.Str.{IsCharBoundary}
use Rattle.mw_text.specs.declared.splitting.Part.{Part}
use Rattle.mw_text.specs.declared.splitting.PartAnswer.{PartAnswer}
use Rattle.mw_text.specs.declared.splitting.PartAnswer.TheVariants as answer
use Rattle.mw_text.specs.declared.answers.PartsAnswer.TheVariants as all
use Rattle.mw_text.specs.Answers.{total, IsParts}
use Rattle.mw_text.specs.Split.{slice, in_front, and_later, parts_from, IsPart, IsNext, PartEnds, Sought, part_from, parts_of}

pub opened_parts : (sought : Sought) (s : List ℕ) → parts_from (part_from sought s) s (suc (length s)) 0 ≡ parts_of sought s
unfolding parts_of
opened_parts sought s = refl

-- tries and texts in front of those of the later places
abbrev pub joins : ℕ → List (List ℕ) → ℕ × List (List ℕ) → ℕ × List (List ℕ)
joins n made later = (n + later.0, made ++ later.1)

total_append : (xs ys : List (List ℕ)) → total (xs ++ ys) ≡ total xs + total ys
total_append [] ys = omega arith
total_append (x ∷ xs) ys = let e : total (xs ++ ys) ≡ total xs + total ys = total_append xs ys in omega (arith, e)

pub record Splits (part : ℕ → Part) (s : List ℕ) (all_parts : ℕ × List (List ℕ)) (budget left tries from : ℕ) (made : List (List ℕ)) : Type 0 where
  pub more : ℕ
  pub enough : length s - from < more
  pub whole : joins tries made (parts_from part s more from) ≡ all_parts
  pub paid : left + tries + total made ≡ budget
  pub place : IsCharBoundary s from

module _ (part : ℕ → Part) (s : List ℕ) (all_parts : ℕ × List (List ℕ)) (budget left tries from : ℕ) (made : List (List ℕ)) where
  pub splits_start : IsCharBoundary s 0 → parts_from part s (suc (length s)) 0 ≡ all_parts → Splits part s all_parts budget budget 0 0 []
  splits_start b e =
      let later = parts_from part s (suc (length s)) 0 in
      let z : 0 + later.0 ≡ later.0 = omega arith in record {
        more = suc (length s);
        enough = omega arith;
        whole = ap (λ n. (n, later.1)) z ∙ e;
        paid = omega arith;
        place = b;
      }

  -- the parts from a place are this one with the later ones
  opened : (more : ℕ) → length s - from < more
      → (m : ℕ) × (more ≡ suc m) × (parts_from part s more from ≡ and_later (parts_from part s m) (part from).tries (slice s from (part from).stop) (part from).next)
  opened zero lt = absurd (omega (arith, lt))
  opened (suc m) lt = (m, refl, refl)

  cost : (n : ℕ) (t : List ℕ) (next : Option ℕ) (later : ℕ → ℕ × List (List ℕ)) → (n ≤ (and_later later n t next).0) × (length t ≤ total (and_later later n t next).1)
  cost n t None later = (omega arith, omega arith)
  cost n t (Some next) later = (omega arith, omega arith)

  pub splits_spent : Splits part s all_parts budget left tries from made → (given : PartAnswer) → IsPart left s from (part from) given → given ≡ answer.Spent
      → IsParts budget all_parts all.Spent
  splits_spent h given is e =
      let lt : left < (part from).tries + length (slice s from (part from).stop) = subst (λ (g : PartAnswer). IsPart left s from (part from) g) e is in
      let o = opened h.more h.enough in
      let c = cost (part from).tries (slice s from (part from).stop) (part from).next (parts_from part s o.0) in
      let later = parts_from part s h.more from in
      let c0 : (part from).tries ≤ later.0 = subst (λ (l : ℕ × List (List ℕ)). (part from).tries ≤ l.0) (sym o.2) c.0 in
      let c1 : length (slice s from (part from).stop) ≤ total later.1 = subst (λ (l : ℕ × List (List ℕ)). length (slice s from (part from).stop) ≤ total l.1) (sym o.2) c.1 in
      let w0 : tries + later.0 ≡ all_parts.0 = ap (λ l. l.0) h.whole in
      let w1 : total (made ++ later.1) ≡ total all_parts.1 = ap (λ l. total l.1) h.whole in
      let a : total (made ++ later.1) ≡ total made + total later.1 = total_append made later.1 in
      let p : left + tries + total made ≡ budget = h.paid in
      omega (arith, lt, c0, c1, w0, w1, a, p)

  -- a part, with one part in front of it
  split_part : (p : Part) (m : ℕ) → p ≡ part from → parts_from part s (suc m) from ≡ and_later (parts_from part s m) p.tries (slice s from p.stop) p.next
  split_part p m e = ap (λ (q : Part). and_later (parts_from part s m) q.tries (slice s from q.stop) q.next) (sym e)

  move : (n : ℕ) (t : List ℕ) (later : ℕ × List (List ℕ)) → joins (tries + n) (made ++ t ∷ []) later ≡ joins tries made (in_front n t later)
  move n t later =
      let z : tries + n + later.0 ≡ tries + (n + later.0) = omega arith in
      ap (λ k. (k, (made ++ t ∷ []) ++ later.1)) z ∙ ap (λ l. (tries + (n + later.0), l)) (append_assoc made (t ∷ []) later.1)

  covered : (p : Part) → IsPart left s from (part from) (answer.Part p) → p.tries + length (slice s from p.stop) ≤ left
  covered p is = subst (λ (q : Part). q.tries + length (slice s from q.stop) ≤ left) (sym is.1) is.0

  pub splits_on : (p : Part) (text : List ℕ) (next left_now tries_now : ℕ) (made_now : List (List ℕ)) → Splits part s all_parts budget left tries from made
      → IsPart left s from (part from) (answer.Part p) → p.next ≡ Some next → PartEnds s from p
      → text ≡ slice s from p.stop → made_now ≡ made ++ text ∷ [] → tries_now ≡ tries + p.tries → left_now ≡ left - p.tries - length text
      → Splits part s all_parts budget left_now tries_now next made_now
  splits_on p text next left_now tries_now made_now h is n ends t m k l =
      let at : (from < next) × IsCharBoundary s next = subst (λ (o : Option ℕ). IsNext s from o) n ends.2 in
      let lt : from < next = at.0 in
      let b : IsCharBoundary s next = at.1 in
      let o = opened h.more h.enough in
      let later = parts_from part s o.0 next in
      let here : parts_from part s h.more from ≡ in_front p.tries (slice s from p.stop) later =
      ap (λ c. parts_from part s c from) o.1 ∙ split_part p o.0 is.1
      ∙ ap (λ x. and_later (parts_from part s o.0) p.tries (slice s from p.stop) x) n in
      let c : p.tries + length (slice s from p.stop) ≤ left = covered p is in
      let size : length text ≡ length (slice s from p.stop) = ap length t in
      let grown : made_now ≡ made ++ slice s from p.stop ∷ [] = m ∙ ap (λ x. made ++ x ∷ []) t in
      let a : total made_now ≡ total made + total (slice s from p.stop ∷ []) = ap total grown ∙ total_append made (slice s from p.stop ∷ []) in
      let paid : left + tries + total made ≡ budget = h.paid in
      let enough : length s - from < h.more = h.enough in
      let more : h.more ≡ suc o.0 = o.1 in
      let inside : next ≤ length s = b.0 in
      record {
        more = o.0;
        enough = omega (arith, enough, more, lt, inside);
        whole = ap (λ x. joins x made_now later) k ∙ ap (λ x. joins (tries + p.tries) x later) grown
            ∙ move p.tries (slice s from p.stop) later ∙ ap (λ x. joins tries made x) (sym here) ∙ h.whole;
        paid = omega (arith, c, size, a, paid, k, l);
        place = b;
      }

  pub splits_end : (p : Part) (text : List ℕ) (tries_now : ℕ) (made_now : List (List ℕ)) → Splits part s all_parts budget left tries from made
      → IsPart left s from (part from) (answer.Part p) → p.next ≡ None
      → text ≡ slice s from p.stop → made_now ≡ made ++ text ∷ [] → tries_now ≡ tries + p.tries
      → IsParts budget all_parts (all.Parts made_now tries_now)
  splits_end p text tries_now made_now h is n t m k =
      let o = opened h.more h.enough in
      let here : parts_from part s h.more from ≡ (p.tries, slice s from p.stop ∷ []) =
      ap (λ c. parts_from part s c from) o.1 ∙ split_part p o.0 is.1
      ∙ ap (λ x. and_later (parts_from part s o.0) p.tries (slice s from p.stop) x) n in
      let whole : (tries + p.tries, made ++ slice s from p.stop ∷ []) ≡ all_parts =
      ap (λ x. joins tries made x) (sym here) ∙ h.whole in
      let grown : made_now ≡ made ++ slice s from p.stop ∷ [] = m ∙ ap (λ x. made ++ x ∷ []) t in
      let c : p.tries + length (slice s from p.stop) ≤ left = covered p is in
      let a : total made_now ≡ total made + total (slice s from p.stop ∷ []) = ap total grown ∙ total_append made (slice s from p.stop ∷ []) in
      let paid : left + tries + total made ≡ budget = h.paid in
      let w0 : tries + p.tries ≡ all_parts.0 = ap (λ x. x.0) whole in
      let w1 : total (made ++ slice s from p.stop ∷ []) ≡ total all_parts.1 = ap (λ x. total x.1) whole in
      let g : total made_now ≡ total (made ++ slice s from p.stop ∷ []) = ap total grown in
      (omega (arith, c, a, paid, w0, w1, g), grown ∙ ap (λ x. x.1) whole, k ∙ w0)
