-- Copies of a text, put one after another.
use Rattle.std.proofs.Common.{◌≡◌, ℕ, zero, suc, ◌-◌, ◌<◌, List, ◌++◌, ap, ◌∙◌, arith}
use Rattle.std.proofs.lemmas.List.{append_assoc}
use Rattle.case_text.specs.Escapes.{copies}

-- One copy more is put, and one fewer is left.
pub one_copy : (copy old new all : List ℕ) (n : ℕ) → 0 < n → new ≡ old ++ copy → old ++ copies n copy ≡ all → new ++ copies (n - 1) copy ≡ all
one_copy copy old new all zero some put before = absurd (omega (arith, some))
one_copy copy old new all (suc n) some put before =
    let fewer : suc n - 1 ≡ n = omega arith in
    ap (λ m. new ++ copies m copy) fewer
    ∙ ap (λ t. t ++ copies n copy) put
    ∙ append_assoc old copy (copies n copy)
    ∙ before
