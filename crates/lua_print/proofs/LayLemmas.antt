-- Items that are laid out one after another.
use Rattle.std.proofs.Common.{◌≡◌, ℕ, zero, suc, ◌+◌, ◌-◌, ◌≤◌, Bool, true, false, List, [], ◌∷◌, ◌++◌, length, refl, sym, ap, ◌∙◌, arith, append_assoc}
use Rattle.std.specs.Prelude.{Option, None, Err, ◌==◌}
use Rattle.std.proofs.lemmas.Bool.{eqb-true}
use Rattle.lua_reading.specs.LuaGrammarDeclaredTokenClass.{TokenClass}
use Rattle.lua_syntax.specs.declared.fault.SyntaxFault.{SyntaxFault}
use Rattle.lua_syntax.specs.declared.fault.SyntaxFault.TheVariants.{At, NoMemory}
use Rattle.lua_parser.specs.Chunks.{IsParsed}
use Rattle.lua_print.specs.Items.{Item}
use Rattle.lua_print.specs.Answers.{IsChecked}
use Rattle.lua_print.specs.Layout.{is_opening, is_closing, is_tight, one_more, level, indent, before_item, laid_from, laid}

-- ---- indentation

indent_end : (n : ℕ) → indent n ++ (32 ∷ 32 ∷ []) ≡ indent (suc n)
indent_end zero = refl
indent_end (suc n) = ap (λ (t : List ℕ). 32 ∷ 32 ∷ t) (indent_end n)

-- one level more
pub indent_more : (before made made' : List ℕ) (n m : ℕ) → made ≡ before ++ indent n → made' ≡ made ++ (32 ∷ 32 ∷ []) → m ≡ n + 1 → made' ≡ before ++ indent m
indent_more before made made' n m h e s =
    let same : suc n ≡ m = omega (arith, s) in
    e ∙ ap (λ (t : List ℕ). t ++ (32 ∷ 32 ∷ [])) h ∙ append_assoc before (indent n) (32 ∷ 32 ∷ []) ∙ ap (λ (t : List ℕ). before ++ t) (indent_end n ∙ ap indent same)

-- ---- an item more

-- What was made, and what comes of the items behind it.
abbrev pub Lays : List ℕ → ℕ → ℕ → Option TokenClass → List Item → List ℕ → Type 0
Lays made opened closed before items whole = made ++ laid_from opened closed before items ≡ whole

pub item_laid : (made made' : List ℕ) (opened opened' closed closed' : ℕ) (before : Option TokenClass) (x : Item) (rest : List Item) (whole : List ℕ) → made' ≡ made ++ (before_item x.gap (level opened closed x.class) (is_tight before x.class x.bytes) ++ x.bytes) → opened' ≡ one_more (is_opening x.class) opened → closed' ≡ one_more (is_closing x.class) closed → Lays made opened closed before (x ∷ rest) whole → Lays made' opened' closed' x.class rest whole
item_laid made made' opened opened' closed closed' before x rest whole em eo ec h =
    ap (λ (t : List ℕ). t ++ laid_from opened' closed' x.class rest) em
    ∙ append_assoc made (before_item x.gap (level opened closed x.class) (is_tight before x.class x.bytes) ++ x.bytes) (laid_from opened' closed' x.class rest)
    ∙ ap (λ (n : ℕ). made ++ ((before_item x.gap (level opened closed x.class) (is_tight before x.class x.bytes) ++ x.bytes) ++ laid_from n closed' x.class rest)) eo
    ∙ ap (λ (n : ℕ). made ++ ((before_item x.gap (level opened closed x.class) (is_tight before x.class x.bytes) ++ x.bytes) ++ laid_from (one_more (is_opening x.class) opened) n x.class rest)) ec
    ∙ h

pub few_more : (b : Bool) (n m k : ℕ) → m ≡ one_more b n → n ≤ k → m ≤ k + 1
few_more true n m k e h = omega (arith, e, h)
few_more false n m k e h = omega (arith, e, h)

-- the items of a text that has some
pub laid_some : (items : List Item) (r : Bool) → r ≡ (length items == 0) → r ≡ false → laid items ≡ laid_from 0 0 None items
laid_some [] r e f = absurd cc
laid_some (x ∷ xs) r e f = refl

pub laid_none : (items : List Item) (r : Bool) → r ≡ (length items == 0) → r ≡ true → laid items ≡ []
laid_none [] r e f = refl
laid_none (x ∷ xs) r e f = let none : length (x ∷ xs) ≡ 0 = eqb-true _ _ (sym e ∙ f) in absurd (omega (arith, none))

-- ---- the fault of a text

pub err_checked : (fault : SyntaxFault) (text : List ℕ) → IsParsed (Err fault) text → IsChecked (Err fault) text
err_checked (At f) text h = h
err_checked NoMemory text h = tt
