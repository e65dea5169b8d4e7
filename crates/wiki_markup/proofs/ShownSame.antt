-- When two shown texts are the same.
use Rattle.std.proofs.Common.{◌≡◌, ℕ, Bool, List, ◌&&◌, ap, ◌∙◌, rules}
use Rattle.std.specs.Bool.{Decides}
use Rattle.std.proofs.lemmas.Bool.Decides.{Decides-and, Decides-eqb}
use Rattle.wiki_markup.specs.declared.marked.Span.{Span}
use Rattle.wiki_markup.specs.declared.marked.ShownText.{ShownText}
use Rattle.wiki_markup.specs.contracts.marked.SpanPartialEq.TheImpl as spans

decides_too : {P Q : Type 0} (r : Bool) → (P → Q) → (Q → P) → Decides r P → Decides r Q
decides_too r f g h = (λ e. f (h.0 e), λ q. h.1 (g q))

same_span : (a b : Span) → (a.start ≡ b.start) × (a.end ≡ b.end) → a ≡ b
same_span a b e =
    ap (λ n. let s : Span = record { start = n; end = a.end } in s) e.0
    ∙ ap (λ n. let s : Span = record { start = b.start; end = n } in s) e.1

pub span_decides : (a b : Span) → Decides (spans.ghosts.eq a b) (a ≡ b)
span_decides a b =
    decides_too (spans.ghosts.eq a b) (same_span a b) (λ e. (ap (λ (s : Span). s.start) e, ap (λ (s : Span). s.end) e))
    (Decides-and _ _ (Decides-eqb a.start b.start) (Decides-eqb a.end b.end))

same_text : (a b : ShownText) → (a.bytes ≡ b.bytes) × ((a.literals ≡ b.literals) × (a.cuts ≡ b.cuts)) → a ≡ b
same_text a b e =
    ap (λ (x : List ℕ). let s : ShownText = record { bytes = x; literals = a.literals; cuts = a.cuts } in s) e.0
    ∙ ap (λ (x : List Span). let s : ShownText = record { bytes = b.bytes; literals = x; cuts = a.cuts } in s) e.1.0
    ∙ ap (λ (x : List ℕ). let s : ShownText = record { bytes = b.bytes; literals = b.literals; cuts = x } in s) e.1.1

pub text_decides : (a b : ShownText) (x y z : Bool) → Decides x (a.bytes ≡ b.bytes) → Decides y (a.literals ≡ b.literals) → Decides z (a.cuts ≡ b.cuts) → Decides (x && (y && z)) (a ≡ b)
text_decides a b x y z f g h =
    decides_too (x && (y && z)) (same_text a b) (λ e. (ap (λ (s : ShownText). s.bytes) e, (ap (λ (s : ShownText). s.literals) e, ap (λ (s : ShownText). s.cuts) e)))
    (Decides-and x (y && z) f (Decides-and y z g h))
