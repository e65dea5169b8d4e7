use Rattle.std.proofs.Common.{◌≡◌, List, ℕ, Result, Ok, Err, MatchResult, sym, ◌∙◌}
use Rattle.std.proofs.lemmas.Bool.{false_from_ne_true}
use Rattle.std.proofs.lemmas.Str.{is_utf8-from_IsUtf8, IsUtf8-from_is_utf8}
use Rattle.std.specs.Prelude.{is_ok}
use Rattle.std.specs.Str.{is_utf8, IsUtf8}
use Rattle.wk_base.proofs.title_read.is_utf8.Goals as goal

test_agrees : {A B : Type 0} (bs : List ℕ) (P : A → Type 0) (Q : B → Type 0) (r : Result A B)
    → MatchResult r (λ a. P a × IsUtf8 bs) (λ b. ¬ (IsUtf8 bs) × Q b) → is_ok r ≡ is_utf8 bs
test_agrees bs P Q (Ok text) h = sym (is_utf8-from_IsUtf8 bs h.1)
test_agrees bs P Q (Err fault) h = sym (false_from_ne_true _ (λ e. h.0 (IsUtf8-from_is_utf8 bs e)))

pub returns : goal.returns
returns c = c.is_ok.ensures.value ∙ test_agrees c.args.bytes.now _ _ c.from_utf8.result c.from_utf8.ensures.cases
