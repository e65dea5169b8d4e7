use Rattle.std.proofs.Common.{◌≡◌, List, [], ◌∷◌, ◌++◌, ℕ, ◌==◌, true, false, length, refl, sym, ap, ◌∙◌, arith}
use Rattle.std.proofs.lemmas.Bool.{eqb-true}
use Rattle.wk_base.specs.Titles.{prefix_of, title_text, with_prefix}
use Rattle.wk_base.proofs.title.Title.text.Goals as goal

without : (prefix name : List ℕ) → (length prefix == 0) ≡ true → name ≡ with_prefix prefix name
without [] name none = refl
without (c ∷ cs) name none = absurd (omega (arith, eqb-true (length (c ∷ cs)) 0 none))

behind : (prefix name : List ℕ) → (length prefix == 0) ≡ false → prefix ++ (58 ∷ name) ≡ with_prefix prefix name
behind [] name some = absurd cc
behind (c ∷ cs) name some = refl

pub returns-then-is_empty : goal.returns-then-is_empty
unfolding title_text
returns-then-is_empty c =
    let prefix : c.as_bytes-prefix.result.now ≡ prefix_of c.args.self.now.ns = c.as_bytes-prefix.ensures.value ∙ c.prefix.ensures in
    c.in_ok-name.ensures ∙ without _ _ (sym c.is_empty.ensures ∙ c.if-is_empty.true) ∙ ap (λ p. with_prefix p c.args.self.now.name) prefix

pub returns : goal.returns
unfolding title_text
returns c =
    let prefix : c.as_bytes-prefix.result.now ≡ prefix_of c.args.self.now.ns = c.as_bytes-prefix.ensures.value ∙ c.prefix.ensures in
    let name : c.into_vec.result.items ≡ c.args.self.now.name = c.into_vec.ensures ∙ c.in_ok-name.ensures in
    c.of_vec.ensures ∙ c.in_ok-text.ensures ∙ behind _ _ (sym c.is_empty.ensures ∙ c.if-is_empty.false)
    ∙ ap (λ p. with_prefix p c.into_vec.result.items) prefix ∙ ap (λ n. with_prefix (prefix_of c.args.self.now.ns) n) name
