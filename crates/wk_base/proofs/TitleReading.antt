-- How a text is cut and trimmed, step by step.
use Rattle.std.proofs.Common.{◌≡◌, ℕ, zero, suc, ◌<◌, ◌==◌, Bool, true, false, cond, List, [], ◌∷◌, take, drop, length, get_or, Option, Some, None, option_map, unwrap_or, Result, Ok, Err, IfOk, IfErr, ◌⊎◌, inr, Bor, refl, sym, ap, subst, ◌∙◌, arith}
use Rattle.std.proofs.lemmas.Bool.{cond-false, or_parts}
use Rattle.std.specs.List.{list_any}
use Rattle.wk_base.specs.declared.title.Namespace.{Namespace}
use Rattle.wk_base.specs.declared.title.Title.{Title}
use Rattle.wk_base.specs.declared.title_read.TitleFault.{TitleFault}
use Rattle.wk_base.specs.Space.{trim}
use Rattle.wk_base.specs.Titles.{cut_at_colon, cut_prefix, open_colon, choose_namespace, title_in, tidy, title_of, with_spaces, as_space}

-- A byte that is no colon stands for none.
either : (b : Bool) (c : ℕ) → (c == 58) ≡ false → (cond b 32 c == 58) ≡ false
either true c h = refl
either false c h = h

not_colon : (c : ℕ) → (c == 58) ≡ false → (as_space c == 58) ≡ false
not_colon c h = either (c == 95) c h

pub cut_here : (text : List ℕ) (i : ℕ) → i < length text → list_any (λ c. c == 58) (take i text) ≡ false → get_or text i 0 ≡ 58
    → cut_at_colon (with_spaces text) ≡ Some (with_spaces (take i text), with_spaces (drop (suc i) text))
cut_here [] i lt none here = absurd (omega arith)
cut_here (c ∷ cs) zero lt none here =
    subst (λ (b : ℕ). cut_at_colon (with_spaces (b ∷ cs)) ≡ Some ([], with_spaces cs)) (sym here) refl
cut_here (c ∷ cs) (suc i) lt none here =
    let parts = or_parts _ _ none in
    cond-false _ _ _ (not_colon c parts.0)
    ∙ ap (option_map (λ (p : List ℕ × List ℕ). (as_space c ∷ p.0, p.1))) (cut_here cs i (omega arith) parts.1 here)

pub no_cut : (text : List ℕ) → list_any (λ c. c == 58) text ≡ false → cut_at_colon (with_spaces text) ≡ None
no_cut [] none = refl
no_cut (c ∷ cs) none =
    let parts = or_parts _ _ none in
    cond-false _ _ _ (not_colon c parts.0)
    ∙ ap (option_map (λ (p : List ℕ × List ℕ). (as_space c ∷ p.0, p.1))) (no_cut cs parts.1)

mapped_or : {A B : Type 0} (f : A → B) (o : Option A) (default : A) → f (unwrap_or o default) ≡ unwrap_or (option_map f o) (f default)
mapped_or f None default = refl
mapped_or f (Some a) default = refl

abbrev pub spaced_rest : Namespace × Bor (List ℕ) → Namespace × List ℕ
spaced_rest cut = (cut.0, with_spaces cut.1.now)

abbrev of_chosen : Namespace × List ℕ → Result Title TitleFault
of_chosen chosen = title_in chosen.0 (tidy chosen.1)

abbrev of_opened : Namespace × List ℕ → Result Title TitleFault
of_opened opened = of_chosen (choose_namespace opened.1 opened.0)

-- The steps one after another are the whole.
pub reads : (text : List ℕ) (default : Namespace) (trimmed name : List ℕ) (opened chosen : Namespace × Bor (List ℕ))
    (cut : Option (Namespace × Bor (List ℕ))) (result : Result Title TitleFault)
    → trimmed ≡ trim (with_spaces text) → spaced_rest opened ≡ open_colon trimmed default
    → option_map spaced_rest cut ≡ cut_prefix (with_spaces opened.1.now) → chosen ≡ unwrap_or cut opened
    → name ≡ tidy (with_spaces chosen.1.now) → result ≡ title_in chosen.0 name → result ≡ title_of text default
unfolding title_of
reads text default trimmed name opened chosen cut result is_trimmed is_opened is_cut is_chosen is_name is_result =
    let there : spaced_rest chosen ≡ choose_namespace (with_spaces opened.1.now) opened.0 =
    ap spaced_rest is_chosen ∙ mapped_or spaced_rest cut opened ∙ ap (λ o. unwrap_or o (spaced_rest opened)) is_cut in
    is_result ∙ ap (title_in chosen.0) is_name ∙ ap of_chosen there
    ∙ ap of_opened (is_opened ∙ ap (λ t. open_colon t default) is_trimmed)

pub if_ok : (d r : Result Title TitleFault) → r ≡ d → IfOk r (λ title. d ≡ Ok title)
if_ok d (Ok title) h = sym h
if_ok d (Err fault) h = tt

pub if_err : (E : TitleFault → Type 0) (d r : Result Title TitleFault) → r ≡ d → IfErr r (λ fault. E fault ⊎ (d ≡ Err fault))
if_err E d (Ok title) h = tt
if_err E d (Err fault) h = inr (sym h)
