-- The lemmas as the exits of the code want them: for functions, tables, prefix expressions and lists.
use Rattle.std.proofs.Common.{◌≡◌, ◌≢◌, ℕ, zero, suc, [], ◌∷◌, ◌++◌, ◌+◌, ◌<◌, ◌≤◌, max, Bool, true, false, List, length, refl, sym, ap, subst, ◌∙◌, inl, inr, arith, true≢false}
use Rattle.lua_lexer.specs.declared.token.Token.{Token}
use Rattle.lua_syntax.specs.declared.Expr.{Expr}
use Rattle.lua_grammar.specs.declared.TokenClass.{TokenClass}
use Rattle.lua_grammar.specs.declared.TokenClass.TheVariants.{Eof, Name, Text, Function, LeftParen, RightParen, LeftBrace, RightBrace, LeftBracket, RightBracket, Colon, Dot, Comma, Semicolon}
use Rattle.lua_grammar.specs.declared.Context.{Context}
use Rattle.lua_grammar.specs.Tokens.{class_at, tok_at, bytes_of}
use Rattle.lua_syntax.specs.declared.Field.{Field}
use Rattle.lua_syntax.specs.View.{expr_view, exprs_view, fields_view}
use Rattle.lua_syntax.specs.Tree.{Exp, Exps, Fields, Fun, FunctionE, NameE, IndexE, CallE, MethodE, TableE, ParenE}
use Rattle.lua_grammar.specs.Grammar.{under, suffix_goes}
use Rattle.lua_reading.specs.declared.answer.Fault.{Fault}
use Rattle.lua_reading.specs.declared.answer.Fault.TheVariants.{At, NoMemory}
use Rattle.lua_reading.specs.Parsing.{Lang, Below, ReadsTree, ReadsFault, HasOneEnd, exp_lang, prefix_lang, args_lang, all_lang, fields_lang, nothing, goes_on, exps_goes, fields_goes, operand_lang, ReadsOperand, ReadsPrefix, ReadsExp}
use Rattle.lua_reading.specs.Answers.{IfFault, ReadsNonEmpty, primary_lang, suffix_lang, name_lang, body_lang, field_lang, field_goes, one_field}
use Rattle.lua_reading.proofs.pieces.Steps.{Kind, Done, Word, Under, Left, Follows, all_read, under_step, under_fails, word_step, word_fails, named_step, named_fails, follows_word, follows_nothing}
use Rattle.lua_reading.proofs.pieces.Kinds.{exp_kind, args_kind, name_kind, fields_kind, body_kind}
use Rattle.lua_reading.proofs.expressions.Operands.{operand_reading}
use Rattle.lua_reading.proofs.expressions.Atoms.{table_starts, function_starts, fits_of}
use Rattle.lua_reading.proofs.levels.Suffixes.{IsArgs, Chain, chain_begins, primary_fails, chain_ends, chain_goes_on, chain_fails, chain_deep, dot_starts, bracket_starts, colon_starts, call_starts, suffix_can, suffix_room}
use Rattle.lua_reading.proofs.lists.ExpressionLists.{name_starts, paren_starts, primary_node, Listed, listed_fails, listed_end, listed_more}
use Rattle.lua_reading.proofs.lists.Fields.{Fielded, IsSeparator, fielded_fails, fielded_more, fielded_last, fielded_end}
use Rattle.lua_reading.proofs.expressions.Exits.{more_after, comma_not_eof, right_paren_not_eof, right_brace_not_eof, right_bracket_not_eof, name_not_eof, name_same, exp_under}

high_one : (k : ℕ) → max 1 (1 + k) ≡ 1 + k
high_one k = omega arith

-- A piece under a node, which ends the tree.
under_done : {S X : Type 0} {ts : List Token} {L : S → Lang} {goes : TokenClass → Bool} {a i m q k : ℕ} {K : Kind X} {f : X → S} {e : X} →
    Left S ts L goes i (Under X K (λ x. Done (f x))) m 1 → a ≤ 200 → ReadsTree X ts K.lang K.goes (suc a) m e q k → ((x : X) → Follows ts goes K.goes (Done (f x))) → ReadsTree S ts L goes a i (f e) q (1 + k)
under_done {S} {X} {ts} {L} {goes} {a} {i} {m} {q} {k} {K} {f} {e} l room g fol =
    subst (λ (z : ℕ). ReadsTree S ts L goes a i (f e) q z) (high_one k) (all_read (under_step {r = λ x. Done (f x)} l (omega arith) g fol) g.inside fits)
  where
    fits : Below (max 1 (1 + k)) a
    fits = omega (arith, g.height, room)

-- The same with a word behind it.
under_word : {S X : Type 0} {ts : List Token} {L : S → Lang} {goes : TokenClass → Bool} {a i m q k : ℕ} {K : Kind X} {w : TokenClass} {f : X → S} {e : X} →
    Left S ts L goes i (Under X K (λ x. Word w (Done (f x)))) m 1 → a ≤ 200 → ReadsTree X ts K.lang K.goes (suc a) m e q k → K.goes w ≡ false → class_at ts q ≡ w → q + 1 < length ts → ReadsTree S ts L goes a i (f e) (q + 1) (1 + k)
under_word {S} {X} {ts} {L} {goes} {a} {i} {m} {q} {k} {K} {w} {f} {e} l room g stop is inside =
    subst (λ (z : ℕ). ReadsTree S ts L goes a i (f e) (q + 1) z) (high_one k)
    (all_read (word_step {r = Done (f e)} (under_step {r = λ x. Word w (Done (f x))} l (omega arith) g (λ x. follows_word ts goes K.goes w (Done (f x)) stop)) is) inside fits)
  where
    fits : Below (max 1 (1 + k)) a
    fits = omega (arith, g.height, room)

under_no_word : {S X : Type 0} {ts : List Token} {L : S → Lang} {goes : TokenClass → Bool} {a i m q k : ℕ} {K : Kind X} {w : TokenClass} {f : X → S} {e : X} →
    Left S ts L goes i (Under X K (λ x. Word w (Done (f x)))) m 1 → a ≤ 200 → ReadsTree X ts K.lang K.goes (suc a) m e q k → K.goes w ≡ false → class_at ts q ≢ w → ReadsFault S ts L goes a i 5 q
under_no_word {S} {X} {ts} {L} {goes} {a} {i} {m} {q} {k} {K} {w} {f} {e} l room g stop ne =
    word_fails {r = Done (f e)} (under_step {r = λ x. Word w (Done (f x))} l (omega arith) g (λ x. follows_word ts goes K.goes w (Done (f x)) stop)) fits g.inside ne
  where
    fits : Below (max 1 (1 + k)) a
    fits = omega (arith, g.height, room)

-- ---- functions and tables

pub lambda_fault : (ts : List Token) (w v : Context) (i : ℕ) (f : Fault) → class_at ts i ≡ Function → w.above ≤ 200 → v ≡ under w → IfFault (ReadsFault Fun ts (body_lang false ts v) nothing v.above (i + 1)) f →
    IfFault (ReadsFault Exp ts (operand_lang ts w) nothing w.above i) f
lambda_fault ts w v i NoMemory is room ve x = tt
lambda_fault ts w v i (At f) is room ve x =
    let P : Context → Type 0 = λ u. ReadsFault Fun ts (body_lang false ts u) nothing u.above (i + 1) f.kind f.place in
    under_fails {K = body_kind false ts w} {r = λ u. Done (FunctionE (tok_at ts i).line u)} (function_starts ts w i is) (fits_of w.above room) (subst P ve x) (λ u. follows_nothing ts nothing (Done (FunctionE (tok_at ts i).line u)))

pub lambda_read : (ts : List Token) (w v : Context) (i : ℕ) (u : Fun) (x : Exp) (q h line : ℕ) → class_at ts i ≡ Function → w.above ≤ 200 → v ≡ under w → ReadsNonEmpty Fun ts (body_lang false ts v) nothing v.above (i + 1) u q h → line ≡ (tok_at ts i).line →
    x ≡ FunctionE line u → ReadsOperand ts w i x q (1 + h)
lambda_read ts w v i u x q h line is room ve g ln xe =
    let P : Context → Type 0 = λ z. ReadsNonEmpty Fun ts (body_lang false ts z) nothing z.above (i + 1) u q h in
    let g' = subst P ve g in
    subst (λ (z : Exp). ReadsOperand ts w i z q (1 + h)) (ap (λ (z : ℕ). FunctionE z u) (sym ln) ∙ sym xe)
    (operand_reading ts w i (FunctionE (tok_at ts i).line u) q (1 + h)
    (under_done {K = body_kind false ts w} {f = λ z. FunctionE (tok_at ts i).line z} (function_starts ts w i is) room g'.reading (λ z. follows_nothing ts nothing (Done (FunctionE (tok_at ts i).line z))))
    (omega (arith, g'.grows)) (omega arith))

pub table_fault : (ts : List Token) (w v : Context) (i : ℕ) (f : Fault) → class_at ts i ≡ LeftBrace → w.above ≤ 200 → v ≡ under w → IfFault (ReadsFault Fields ts (fields_lang ts v) fields_goes v.above (i + 1)) f →
    IfFault (ReadsFault Exp ts (operand_lang ts w) nothing w.above i) f
table_fault ts w v i NoMemory is room ve x = tt
table_fault ts w v i (At f) is room ve x =
    let P : Context → Type 0 = λ u. ReadsFault Fields ts (fields_lang ts u) fields_goes u.above (i + 1) f.kind f.place in
    under_fails {K = fields_kind ts w} {r = λ fs. Word RightBrace (Done (TableE (tok_at ts i).line fs))} (table_starts ts w i is) (fits_of w.above room) (subst P ve x)
    (λ fs. follows_word ts nothing fields_goes RightBrace (Done (TableE (tok_at ts i).line fs)) refl)

pub table_unclosed : (ts : List Token) (w v : Context) (i : ℕ) (fs : Fields) (q h : ℕ) → class_at ts i ≡ LeftBrace → w.above ≤ 200 → v ≡ under w → ReadsTree Fields ts (fields_lang ts v) fields_goes v.above (i + 1) fs q h → class_at ts q ≢ RightBrace →
    ReadsFault Exp ts (operand_lang ts w) nothing w.above i 5 q
table_unclosed ts w v i fs q h is room ve g ne =
    let P : Context → Type 0 = λ u. ReadsTree Fields ts (fields_lang ts u) fields_goes u.above (i + 1) fs q h in
    under_no_word {K = fields_kind ts w} {w = RightBrace} {f = λ z. TableE (tok_at ts i).line z} (table_starts ts w i is) room (subst P ve g) refl ne

pub table_read : (ts : List Token) (w v : Context) (i : ℕ) (fs : Fields) (x : Exp) (q h line : ℕ) → HasOneEnd ts → class_at ts i ≡ LeftBrace → w.above ≤ 200 → v ≡ under w → ReadsTree Fields ts (fields_lang ts v) fields_goes v.above (i + 1) fs q h → class_at ts q ≡ RightBrace →
    line ≡ (tok_at ts i).line → x ≡ TableE line fs → ReadsOperand ts w i x (q + 1) (1 + h)
table_read ts w v i fs x q h line ended is room ve g close ln xe =
    let P : Context → Type 0 = λ u. ReadsTree Fields ts (fields_lang ts u) fields_goes u.above (i + 1) fs q h in
    subst (λ (z : Exp). ReadsOperand ts w i z (q + 1) (1 + h)) (ap (λ (z : ℕ). TableE z fs) (sym ln) ∙ sym xe)
    (operand_reading ts w i (TableE (tok_at ts i).line fs) (q + 1) (1 + h)
    (under_word {K = fields_kind ts w} {w = RightBrace} {f = λ z. TableE (tok_at ts i).line z} (table_starts ts w i is) room (subst P ve g) refl close (more_after ts q RightBrace ended g.inside close right_brace_not_eof))
    (omega (arith, g.ordered)) (omega arith))

-- ---- names and parentheses

pub name_read : (ts : List Token) (w : Context) (i line : ℕ) (bytes : List ℕ) (x : Exp) → HasOneEnd ts → i < length ts → class_at ts i ≡ Name → w.above ≤ 200 → line ≡ (tok_at ts i).line → bytes ≡ bytes_of (tok_at ts i) → x ≡ NameE line bytes →
    ReadsNonEmpty Exp ts (primary_lang ts w) nothing w.above i x (i + 1) 1
name_read ts w i line bytes x ended inside is room ln be xe = record {
  grows = omega arith;
  reading = subst (λ (z : Exp). ReadsTree Exp ts (primary_lang ts w) nothing w.above i z (i + 1) 1) (sym (name_same ts i line bytes x ln be xe))
      (all_read (name_starts ts w i is) (more_after ts i Name ended inside is name_not_eof) (fits_of w.above room));
}

pub paren_fault : (ts : List Token) (w v : Context) (i : ℕ) (f : Fault) → class_at ts i ≡ LeftParen → w.above ≤ 200 → v ≡ under w → IfFault (ReadsFault Exp ts (exp_lang ts v 1) (goes_on 1) v.above (i + 1)) f →
    IfFault (ReadsFault Exp ts (primary_lang ts w) nothing w.above i) f
paren_fault ts w v i NoMemory is room ve x = tt
paren_fault ts w v i (At f) is room ve x =
    let P : Context → Type 0 = λ u. ReadsFault Exp ts (exp_lang ts u 1) (goes_on 1) u.above (i + 1) f.kind f.place in
    under_fails {K = exp_kind ts w 1} {r = λ e. Word RightParen (Done (ParenE (tok_at ts i).line e))} (paren_starts ts w i is) (fits_of w.above room) (subst P ve x)
    (λ e. follows_word ts nothing (goes_on 1) RightParen (Done (ParenE (tok_at ts i).line e)) refl)

pub paren_unclosed : (ts : List Token) (w v : Context) (i : ℕ) (e : Exp) (q h : ℕ) → class_at ts i ≡ LeftParen → w.above ≤ 200 → v ≡ under w → ReadsExp ts v 1 (i + 1) e q h → class_at ts q ≢ RightParen →
    ReadsFault Exp ts (primary_lang ts w) nothing w.above i 5 q
paren_unclosed ts w v i e q h is room ve g ne =
    under_no_word {K = exp_kind ts w 1} {w = RightParen} {f = λ z. ParenE (tok_at ts i).line z} (paren_starts ts w i is) room (exp_under ts w v 1 (i + 1) e q h ve g).reading refl ne

pub paren_read : (ts : List Token) (w v : Context) (i : ℕ) (e x : Exp) (q h line : ℕ) → HasOneEnd ts → class_at ts i ≡ LeftParen → w.above ≤ 200 → v ≡ under w → ReadsExp ts v 1 (i + 1) e q h → class_at ts q ≡ RightParen → line ≡ (tok_at ts i).line →
    x ≡ ParenE line e → ReadsNonEmpty Exp ts (primary_lang ts w) nothing w.above i x (q + 1) (1 + h)
paren_read ts w v i e x q h line ended is room ve g close ln xe =
    let g' = exp_under ts w v 1 (i + 1) e q h ve g in record {
      grows = omega (arith, g'.grows);
      reading = subst (λ (z : Exp). ReadsTree Exp ts (primary_lang ts w) nothing w.above i z (q + 1) (1 + h)) (ap (λ (z : ℕ). ParenE z e) (sym ln) ∙ sym xe)
          (under_word {K = exp_kind ts w 1} {w = RightParen} {f = λ z. ParenE (tok_at ts i).line z} (paren_starts ts w i is) room g'.reading refl close (more_after ts q RightParen ended g'.reading.inside close right_paren_not_eof));
    }

-- ---- suffixes

pub dot_fault : (ts : List Token) (w v : Context) (left : Exp) (i : ℕ) (f : Fault) → class_at ts i ≡ Dot → w.above ≤ 200 → v ≡ under w → IfFault (ReadsFault Exp ts (name_lang ts v) nothing v.above (i + 1)) f →
    IfFault (ReadsFault Exp ts (suffix_lang ts w left) nothing w.above i) f
dot_fault ts w v left i NoMemory is room ve x = tt
dot_fault ts w v left i (At f) is room ve x =
    let P : Context → Type 0 = λ u. ReadsFault Exp ts (name_lang ts u) nothing u.above (i + 1) f.kind f.place in
    under_fails {K = name_kind ts w} {r = λ k. Done (IndexE (tok_at ts i).line left k)} (dot_starts ts w left i is) (fits_of w.above room) (subst P ve x) (λ k. follows_nothing ts nothing (Done (IndexE (tok_at ts i).line left k)))

pub dot_read : (ts : List Token) (w v : Context) (left : Exp) (i : ℕ) (k x : Exp) (q h line : ℕ) → class_at ts i ≡ Dot → w.above ≤ 200 → v ≡ under w → ReadsNonEmpty Exp ts (name_lang ts v) nothing v.above (i + 1) k q h → line ≡ (tok_at ts i).line →
    x ≡ IndexE line left k → ReadsNonEmpty Exp ts (suffix_lang ts w left) nothing w.above i x q (1 + h)
dot_read ts w v left i k x q h line is room ve g ln xe =
    let P : Context → Type 0 = λ u. ReadsNonEmpty Exp ts (name_lang ts u) nothing u.above (i + 1) k q h in
    let g' = subst P ve g in record {
      grows = omega (arith, g'.grows);
      reading = subst (λ (z : Exp). ReadsTree Exp ts (suffix_lang ts w left) nothing w.above i z q (1 + h)) (ap (λ (z : ℕ). IndexE z left k) (sym ln) ∙ sym xe)
          (under_done {K = name_kind ts w} {f = λ z. IndexE (tok_at ts i).line left z} (dot_starts ts w left i is) room g'.reading (λ z. follows_nothing ts nothing (Done (IndexE (tok_at ts i).line left z))));
    }

pub bracket_fault : (ts : List Token) (w v : Context) (left : Exp) (i : ℕ) (f : Fault) → class_at ts i ≡ LeftBracket → w.above ≤ 200 → v ≡ under w → IfFault (ReadsFault Exp ts (exp_lang ts v 1) (goes_on 1) v.above (i + 1)) f →
    IfFault (ReadsFault Exp ts (suffix_lang ts w left) nothing w.above i) f
bracket_fault ts w v left i NoMemory is room ve x = tt
bracket_fault ts w v left i (At f) is room ve x =
    let P : Context → Type 0 = λ u. ReadsFault Exp ts (exp_lang ts u 1) (goes_on 1) u.above (i + 1) f.kind f.place in
    under_fails {K = exp_kind ts w 1} {r = λ k. Word RightBracket (Done (IndexE (tok_at ts i).line left k))} (bracket_starts ts w left i is) (fits_of w.above room) (subst P ve x)
    (λ k. follows_word ts nothing (goes_on 1) RightBracket (Done (IndexE (tok_at ts i).line left k)) refl)

pub bracket_unclosed : (ts : List Token) (w v : Context) (left : Exp) (i : ℕ) (k : Exp) (q h : ℕ) → class_at ts i ≡ LeftBracket → w.above ≤ 200 → v ≡ under w → ReadsExp ts v 1 (i + 1) k q h → class_at ts q ≢ RightBracket →
    ReadsFault Exp ts (suffix_lang ts w left) nothing w.above i 5 q
bracket_unclosed ts w v left i k q h is room ve g ne =
    under_no_word {K = exp_kind ts w 1} {w = RightBracket} {f = λ z. IndexE (tok_at ts i).line left z} (bracket_starts ts w left i is) room (exp_under ts w v 1 (i + 1) k q h ve g).reading refl ne

pub bracket_read : (ts : List Token) (w v : Context) (left : Exp) (i : ℕ) (k x : Exp) (q h line : ℕ) → HasOneEnd ts → class_at ts i ≡ LeftBracket → w.above ≤ 200 → v ≡ under w → ReadsExp ts v 1 (i + 1) k q h → class_at ts q ≡ RightBracket → line ≡ (tok_at ts i).line →
    x ≡ IndexE line left k → ReadsNonEmpty Exp ts (suffix_lang ts w left) nothing w.above i x (q + 1) (1 + h)
bracket_read ts w v left i k x q h line ended is room ve g close ln xe =
    let g' = exp_under ts w v 1 (i + 1) k q h ve g in record {
      grows = omega (arith, g'.grows);
      reading = subst (λ (z : Exp). ReadsTree Exp ts (suffix_lang ts w left) nothing w.above i z (q + 1) (1 + h)) (ap (λ (z : ℕ). IndexE z left k) (sym ln) ∙ sym xe)
          (under_word {K = exp_kind ts w 1} {w = RightBracket} {f = λ z. IndexE (tok_at ts i).line left z} (bracket_starts ts w left i is) room g'.reading refl close (more_after ts q RightBracket ended g'.reading.inside close right_bracket_not_eof));
    }

colon_named : (ts : List Token) (w : Context) (left : Exp) (i : ℕ) → class_at ts i ≡ Colon → class_at ts (i + 1) ≡ Name →
    Left Exp ts (suffix_lang ts w left) nothing i (Under Exps (args_kind ts w) (λ es. Done (MethodE (tok_at ts i).line left (bytes_of (tok_at ts (i + 1))) es))) (i + 2) 1
colon_named ts w left i is name =
    subst (λ (z : ℕ). Left Exp ts (suffix_lang ts w left) nothing i (Under Exps (args_kind ts w) (λ es. Done (MethodE (tok_at ts i).line left (bytes_of (tok_at ts (i + 1))) es))) z 1) two
    (named_step {r = λ x. Under Exps (args_kind ts w) (λ es. Done (MethodE (tok_at ts i).line left x es))} (colon_starts ts w left i is) name)
  where
    two : i + 1 + 1 ≡ i + 2
    two = omega arith

pub colon_no_name : (ts : List Token) (w : Context) (left : Exp) (i : ℕ) → i + 1 < length ts → class_at ts i ≡ Colon → w.above ≤ 200 → class_at ts (i + 1) ≢ Name → ReadsFault Exp ts (suffix_lang ts w left) nothing w.above i 5 (i + 1)
colon_no_name ts w left i inside is room ne =
    named_fails {r = λ x. Under Exps (args_kind ts w) (λ es. Done (MethodE (tok_at ts i).line left x es))} (colon_starts ts w left i is) (fits_of w.above room) inside ne

pub colon_fault : (ts : List Token) (w v : Context) (left : Exp) (i : ℕ) (f : Fault) → class_at ts i ≡ Colon → class_at ts (i + 1) ≡ Name → w.above ≤ 200 → v ≡ under w → IfFault (ReadsFault Exps ts (args_lang ts v) nothing v.above (i + 2)) f →
    IfFault (ReadsFault Exp ts (suffix_lang ts w left) nothing w.above i) f
colon_fault ts w v left i NoMemory is name room ve x = tt
colon_fault ts w v left i (At f) is name room ve x =
    let P : Context → Type 0 = λ u. ReadsFault Exps ts (args_lang ts u) nothing u.above (i + 2) f.kind f.place in
    under_fails {K = args_kind ts w} {r = λ es. Done (MethodE (tok_at ts i).line left (bytes_of (tok_at ts (i + 1))) es)} (colon_named ts w left i is name) (fits_of w.above room) (subst P ve x)
    (λ es. follows_nothing ts nothing (Done (MethodE (tok_at ts i).line left (bytes_of (tok_at ts (i + 1))) es)))

pub colon_read : (ts : List Token) (w v : Context) (left : Exp) (i : ℕ) (es : Exps) (x : Exp) (q h line : ℕ) (bytes : List ℕ) → class_at ts i ≡ Colon → class_at ts (i + 1) ≡ Name → w.above ≤ 200 → v ≡ under w →
    ReadsNonEmpty Exps ts (args_lang ts v) nothing v.above (i + 2) es q h → line ≡ (tok_at ts i).line → bytes ≡ bytes_of (tok_at ts (i + 1)) → x ≡ MethodE line left bytes es → ReadsNonEmpty Exp ts (suffix_lang ts w left) nothing w.above i x q (1 + h)
colon_read ts w v left i es x q h line bytes is name room ve g ln be xe =
    let P : Context → Type 0 = λ u. ReadsNonEmpty Exps ts (args_lang ts u) nothing u.above (i + 2) es q h in
    let g' = subst P ve g in record {
      grows = omega (arith, g'.grows);
      reading = subst (λ (z : Exp). ReadsTree Exp ts (suffix_lang ts w left) nothing w.above i z q (1 + h))
          (ap (λ (z : ℕ). MethodE z left (bytes_of (tok_at ts (i + 1))) es) (sym ln) ∙ ap (λ (z : List ℕ). MethodE line left z es) (sym be) ∙ sym xe)
          (under_done {K = args_kind ts w} {f = λ z. MethodE (tok_at ts i).line left (bytes_of (tok_at ts (i + 1))) z} (colon_named ts w left i is name) room g'.reading
          (λ z. follows_nothing ts nothing (Done (MethodE (tok_at ts i).line left (bytes_of (tok_at ts (i + 1))) z))));
    }

is_args : (s : TokenClass) → suffix_goes s ≡ true → s ≢ Dot → s ≢ LeftBracket → s ≢ Colon → IsArgs s
unfolding IsArgs
is_args LeftParen g a b c = inl refl
is_args Text g a b c = inr (inl refl)
is_args LeftBrace g a b c = inr (inr refl)
is_args Dot g a b c = absurd (a refl)
is_args LeftBracket g a b c = absurd (b refl)
is_args Colon g a b c = absurd (c refl)
is_args _ g a b c = absurd (true≢false (sym g))

pub call_fault : (ts : List Token) (w v : Context) (left : Exp) (i : ℕ) (f : Fault) → suffix_goes (class_at ts i) ≡ true → class_at ts i ≢ Dot → class_at ts i ≢ LeftBracket → class_at ts i ≢ Colon → w.above ≤ 200 → v ≡ under w →
    IfFault (ReadsFault Exps ts (args_lang ts v) nothing v.above i) f → IfFault (ReadsFault Exp ts (suffix_lang ts w left) nothing w.above i) f
call_fault ts w v left i NoMemory goes n1 n2 n3 room ve x = tt
call_fault ts w v left i (At f) goes n1 n2 n3 room ve x =
    let P : Context → Type 0 = λ u. ReadsFault Exps ts (args_lang ts u) nothing u.above i f.kind f.place in
    under_fails {K = args_kind ts w} {r = λ es. Done (CallE (tok_at ts i).line left es)} (call_starts ts w left i (is_args (class_at ts i) goes n1 n2 n3)) (fits_of w.above room) (subst P ve x)
    (λ es. follows_nothing ts nothing (Done (CallE (tok_at ts i).line left es)))

-- ---- the loop over suffixes

pub primary_fault : (ts : List Token) (w : Context) (i : ℕ) (f : Fault) → IfFault (ReadsFault Exp ts (primary_lang ts w) nothing w.above i) f → IfFault (ReadsFault Exp ts (prefix_lang ts w) suffix_goes w.above i) f
primary_fault ts w i NoMemory x = tt
primary_fault ts w i (At f) x = primary_fails ts w i f.kind f.place x

pub chain_end_read : (ts : List Token) (w : Context) (i : ℕ) (e : Exp) (m h : ℕ) (s : TokenClass) (b : Bool) → Chain ts w i e m h → s ≡ class_at ts m → b ≡ suffix_goes s → b ≡ false → ReadsPrefix ts w i e m h
chain_end_read ts w i e m h s b cl r be no_more = chain_ends ts w i e m h cl (ap suffix_goes (sym r) ∙ sym be ∙ no_more)

pub goes_read : (ts : List Token) (m : ℕ) (s : TokenClass) (b : Bool) → s ≡ class_at ts m → b ≡ suffix_goes s → b ≡ true → suffix_goes (class_at ts m) ≡ true
goes_read ts m s b r be go_on = ap suffix_goes (sym r) ∙ sym be ∙ go_on

pub chain_deep_read : (ts : List Token) (w : Context) (i : ℕ) (e : Exp) (m h : ℕ) (s : TokenClass) (b : Bool) → Chain ts w i e m h → s ≡ class_at ts m → b ≡ suffix_goes s → b ≡ true → 200 < w.above + h → ReadsFault Exp ts (prefix_lang ts w) suffix_goes w.above i 7 m
chain_deep_read ts w i e m h s b cl r be go_on over =
    let g = goes_read ts m s b r be go_on in chain_deep ts w i e m h cl g over (λ f hi. suffix_can ts w e m w.above f g hi)

pub chain_fault_read : (ts : List Token) (w : Context) (i : ℕ) (e : Exp) (m h : ℕ) (s : TokenClass) (b : Bool) (f : Fault) → Chain ts w i e m h → s ≡ class_at ts m → b ≡ suffix_goes s → b ≡ true → w.above + h ≤ 200 →
    IfFault (ReadsFault Exp ts (suffix_lang ts w e) nothing w.above m) f → IfFault (ReadsFault Exp ts (prefix_lang ts w) suffix_goes w.above i) f
chain_fault_read ts w i e m h s b NoMemory cl r be go_on room x = tt
chain_fault_read ts w i e m h s b (At f) cl r be go_on room x = chain_fails ts w i e m h f.kind f.place cl (goes_read ts m s b r be go_on) room x

-- A tree with a node has a level.
pub some_height : {X : Type 0} {ts : List Token} {L : X → Lang} {goes : TokenClass → Bool} {a i q : ℕ} {e : X} (h : ℕ) → ((x : X) (b n j : ℕ) → i < n → L x b n 7 i j → b ≤ 200) → ReadsNonEmpty X ts L goes a i e q h → 1 ≤ h
some_height {X} {ts} {L} {goes} {a} {i} {q} {e} zero noded g =
    let r : 500 ≤ 200 = noded e 500 (suc q) q (omega (arith, g.grows)) (g.reading.stands 500 (suc q) 7 (λ y. omega arith)) in absurd (omega (arith, r))
some_height (suc h) noded g = omega arith

pub chain_begin_read : (ts : List Token) (w : Context) (i : ℕ) (e : Exp) (q h : ℕ) → ReadsNonEmpty Exp ts (primary_lang ts w) nothing w.above i e q h → Chain ts w i e q h
chain_begin_read ts w i e q h g = chain_begins ts w i e q h (some_height h (primary_node ts w i) g) g

pub chain_more_read : (ts : List Token) (w : Context) (i : ℕ) (left e : Exp) (m q h k : ℕ) (s : TokenClass) (b : Bool) → Chain ts w i left m h → s ≡ class_at ts m → b ≡ suffix_goes s → b ≡ true → w.above + h ≤ 200 →
    ReadsNonEmpty Exp ts (suffix_lang ts w left) nothing w.above m e q k → Chain ts w i e q (max k (1 + h))
chain_more_read ts w i left e m q h k s b cl r be go_on room g =
    chain_goes_on ts w i left e m q h k cl (goes_read ts m s b r be go_on) room (some_height k (λ x c n j lt l. suffix_room ts w n c left x m j lt l) g) g

-- ---- lists

pub exps_fault : (ts : List Token) (w : Context) (i : ℕ) (xs : List Expr) (m h : ℕ) (f : Fault) → Listed ts w i xs m h → Below h w.above → IfFault (ReadsFault Exp ts (exp_lang ts w 1) (goes_on 1) w.above m) f →
    IfFault (ReadsFault Exps ts (all_lang ts w) exps_goes w.above i) f
exps_fault ts w i xs m h NoMemory l fits x = tt
exps_fault ts w i xs m h (At f) l fits x = listed_fails ts w i xs m h f.kind f.place l fits x

swap_max : (h k : ℕ) → max h k ≡ max k h
swap_max h k = omega arith

pub exps_end_read : (ts : List Token) (w : Context) (i : ℕ) (xs ys : List Expr) (m h : ℕ) (x : Expr) (q k j : ℕ) → Listed ts w i xs m h → i ≤ m → Below h w.above → ReadsExp ts w 1 m (expr_view x) q k → class_at ts q ≢ Comma → ys ≡ xs ++ x ∷ [] → j ≡ max k h →
    ReadsNonEmpty Exps ts (all_lang ts w) exps_goes w.above i (exprs_view ys) q j
exps_end_read ts w i xs ys m h x q k j l im fits g ne ye je =
    let hh : Below (max h k) w.above = omega (arith, fits, g.reading.height) in
    let st : ReadsTree Exps ts (all_lang ts w) exps_goes w.above i (exprs_view (xs ++ x ∷ [])) q (max h k) = all_read (listed_end ts w i xs m h x q k l g ne) g.reading.inside hh in
    record {
      grows = omega (arith, im, g.grows);
      reading = subst (λ (z : ℕ). ReadsTree Exps ts (all_lang ts w) exps_goes w.above i (exprs_view ys) q z) (swap_max h k ∙ sym je)
          (subst (λ (z : List Expr). ReadsTree Exps ts (all_lang ts w) exps_goes w.above i (exprs_view z) q (max h k)) (sym ye) st);
    }

pub exps_more_read : (ts : List Token) (w : Context) (i : ℕ) (xs ys : List Expr) (m h : ℕ) (x : Expr) (q k j : ℕ) → HasOneEnd ts → Listed ts w i xs m h → i ≤ m → Below h w.above → ReadsExp ts w 1 m (expr_view x) q k → class_at ts q ≡ Comma → ys ≡ xs ++ x ∷ [] → j ≡ max k h →
    (q + 1 < length ts) × (i ≤ q + 1) × Below j w.above × Listed ts w i ys (q + 1) j
exps_more_read ts w i xs ys m h x q k j ended l im fits g is ye je =
    let hh : Below (max h k) w.above = omega (arith, fits, g.reading.height) in (
      more_after ts q Comma ended g.reading.inside is comma_not_eof,
      omega (arith, im, g.grows),
      subst (λ (z : ℕ). Below z w.above) (swap_max h k ∙ sym je) hh,
      subst (λ (z : ℕ). Listed ts w i ys (q + 1) z) (swap_max h k ∙ sym je) (subst (λ (z : List Expr). Listed ts w i z (q + 1) (max h k)) (sym ye) (listed_more ts w i xs m h x q k l g is)),
    )

pub fields_fault : (ts : List Token) (w : Context) (i : ℕ) (xs : List Field) (m h : ℕ) (f : Fault) → Fielded ts w i xs m h → Below h w.above → class_at ts m ≢ RightBrace → IfFault (ReadsFault Fields ts (field_lang ts w) field_goes w.above m) f →
    IfFault (ReadsFault Fields ts (fields_lang ts w) fields_goes w.above i) f
fields_fault ts w i xs m h NoMemory l fits ne x = tt
fields_fault ts w i xs m h (At f) l fits ne x = fielded_fails ts w i xs m h f.kind f.place l fits ne x

pub fields_end_read : (ts : List Token) (w : Context) (i : ℕ) (xs : List Field) (m h : ℕ) → m < length ts → i ≤ m → Below h w.above → Fielded ts w i xs m h → class_at ts m ≡ RightBrace → ReadsTree Fields ts (fields_lang ts w) fields_goes w.above i (fields_view xs) m h
fields_end_read ts w i xs m h inside im fits l e = all_read (fielded_end ts w i xs m h l e) inside fits

pub fields_last_read : (ts : List Token) (w : Context) (i : ℕ) (xs ys : List Field) (m h : ℕ) (x : Field) (q k j : ℕ) → Below h w.above → Fielded ts w i xs m h → class_at ts m ≢ RightBrace → ReadsNonEmpty Fields ts (field_lang ts w) field_goes w.above m (one_field x) q k →
    class_at ts q ≢ Comma → class_at ts q ≢ Semicolon → ys ≡ xs ++ x ∷ [] → j ≡ max k h → ReadsTree Fields ts (fields_lang ts w) fields_goes w.above i (fields_view ys) q j
fields_last_read ts w i xs ys m h x q k j fits l ne g n1 n2 ye je =
    let hh : Below (max h k) w.above = omega (arith, fits, g.reading.height) in
    subst (λ (z : ℕ). ReadsTree Fields ts (fields_lang ts w) fields_goes w.above i (fields_view ys) q z) (swap_max h k ∙ sym je)
    (subst (λ (z : List Field). ReadsTree Fields ts (fields_lang ts w) fields_goes w.above i (fields_view z) q (max h k)) (sym ye) (all_read (fielded_last ts w i xs m h x q k l ne g n1 n2) g.reading.inside hh))

pub fields_more_read : (ts : List Token) (w : Context) (i : ℕ) (xs ys : List Field) (m h : ℕ) (x : Field) (q k j : ℕ) → HasOneEnd ts → i ≤ m → Below h w.above → Fielded ts w i xs m h → class_at ts m ≢ RightBrace → ReadsNonEmpty Fields ts (field_lang ts w) field_goes w.above m (one_field x) q k →
    IsSeparator (class_at ts q) → ys ≡ xs ++ x ∷ [] → j ≡ max k h → (q + 1 < length ts) × (i ≤ q + 1) × Below j w.above × Fielded ts w i ys (q + 1) j
fields_more_read ts w i xs ys m h x q k j ended im fits l ne g sep ye je =
    let hh : Below (max h k) w.above = omega (arith, fits, g.reading.height) in
    let inside : q + 1 < length ts = behind sep in (
      inside,
      omega (arith, im, g.grows),
      subst (λ (z : ℕ). Below z w.above) (swap_max h k ∙ sym je) hh,
      subst (λ (z : ℕ). Fielded ts w i ys (q + 1) z) (swap_max h k ∙ sym je) (subst (λ (z : List Field). Fielded ts w i z (q + 1) (max h k)) (sym ye) (fielded_more ts w i xs m h x q k l ne g inside sep)),
    )
  where
    semicolon_not_eof : Semicolon ≢ Eof
    semicolon_not_eof e = cc

    behind : IsSeparator (class_at ts q) → q + 1 < length ts
    behind (inl e) = more_after ts q Comma ended g.reading.inside e comma_not_eof
    behind (inr e) = more_after ts q Semicolon ended g.reading.inside e semicolon_not_eof
