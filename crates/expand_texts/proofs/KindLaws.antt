-- A prefix of a text that may be shorter.
use Rattle.std.proofs.Common.{◌≡◌, ℕ, min, List, take, drop, length, refl, ap, ◌∙◌, Some, None, if◌then◌else◌}
use Rattle.std.proofs.lemmas.List.{take_min, drop_min}
use Rattle.std.specs.Str.{str_eq_ignore_ascii_case}
use Rattle.expand_meaning.specs.Kind.{behind}

pub behind_is : (p t : List ℕ) → (if str_eq_ignore_ascii_case (take (min (length p) (length t)) t) p then Some (drop (min (length p) (length t)) t) else None) ≡ behind p t
unfolding behind
behind_is p t =
    ap (λ front. if str_eq_ignore_ascii_case front p then Some (drop (min (length p) (length t)) t) else None) (take_min (length p) t)
    ∙ ap (λ rest. if str_eq_ignore_ascii_case (take (length p) t) p then Some rest else None) (drop_min (length p) t)

pub behind_found : (p t front rest : List ℕ) (cut : ℕ) → cut ≡ min (length p) (length t) → front ≡ take cut t → rest ≡ drop cut t → (if str_eq_ignore_ascii_case front p then Some rest else None) ≡ behind p t
behind_found p t front rest cut c f r =
    ap (λ x. if str_eq_ignore_ascii_case x p then Some rest else None) (f ∙ ap (λ n. take n t) c)
    ∙ ap (λ x. if str_eq_ignore_ascii_case (take (min (length p) (length t)) t) p then Some x else None) (r ∙ ap (λ n. drop n t) c)
    ∙ behind_is p t
