-- The lemmas as the exits of the code want them: for arguments and fields.
use Rattle.std.proofs.Common.{◌≡◌, ◌≢◌, ℕ, pred, ◌-◌, ◌+◌, ◌<◌, ◌≤◌, ◌⊎◌, max, false, List, length, refl, sym, ap, subst, ◌∙◌, inl, inr, arith}
use Rattle.std.specs.Prelude.{Result, Ok, Err}
use Rattle.lua_lexer.specs.declared.token.Token.{Token}
use Rattle.lua_syntax.specs.declared.Expr.{Expr}
use Rattle.lua_grammar.specs.declared.TokenClass.{TokenClass}
use Rattle.lua_grammar.specs.declared.TokenClass.TheVariants.{Eof, Name, Text, LeftParen, RightParen, LeftBrace, LeftBracket, RightBracket, Comma, Semicolon, Assign}
use Rattle.lua_grammar.specs.declared.Context.{Context}
use Rattle.lua_grammar.specs.Tokens.{class_at, tok_at, bytes_of}
use Rattle.lua_syntax.specs.View.{expr_view, exprs_view}
use Rattle.lua_syntax.specs.Tree.{Exp, Exps, Fields, TextE, NoExp, NoField, Item, Pair}
use Rattle.lua_reading.specs.declared.answer.Fault.{Fault}
use Rattle.lua_reading.specs.declared.answer.Fault.TheVariants.{At, NoMemory}
use Rattle.lua_reading.specs.declared.answer.Reading.{Reading}
use Rattle.lua_reading.specs.Parsing.{Below, ReadsTree, ReadsFault, HasOneEnd, exp_lang, args_lang, all_lang, nothing, goes_on, exps_goes, operand_lang, ReadsOperand, ReadsExp}
use Rattle.lua_reading.specs.Answers.{IfFault, ReadsNonEmpty, Answer, Alone, field_lang, field_goes, IsItem}
use Rattle.lua_reading.proofs.pieces.Steps.{Done, Word, Here, Left, all_read, here_step, here_fails, word_step, word_fails, follows_word, follows_done, first_way, second_way, word_closed}
use Rattle.lua_reading.proofs.pieces.Kinds.{exp_kind, all_kind}
use Rattle.lua_syntax.specs.declared.BinaryOp.{BinaryOp}
use Rattle.lua_grammar.specs.Grammar.{under, right_level}
use Rattle.lua_reading.proofs.levels.Levels.{right-low}
use Rattle.lua_reading.proofs.levels.Climb.{Climbs}
use Rattle.lua_reading.proofs.levels.Suffixes.{Chain}
use Rattle.lua_reading.proofs.expressions.Operands.{form, operand_reading}
use Rattle.lua_reading.proofs.expressions.Atoms.{text_starts, fits_of}
use Rattle.lua_reading.proofs.lists.ExpressionLists.{open_starts, all_closed, alone_reading, alone_fails}
use Rattle.lua_reading.proofs.lists.Fields.{IsSeparator, bracket_field_starts, key_field_starts, item_reading, item_fails}
use Rattle.lua_reading.proofs.expressions.Exits.{more_after, right_paren_not_eof, text_not_eof, text_same}

-- ---- arguments

pub empty_args : (ts : List Token) (w : Context) (i : ℕ) → HasOneEnd ts → class_at ts i ≡ LeftParen → (tok_at ts i).line ≡ (tok_at ts (pred i)).end_line → i + 1 < length ts → class_at ts (i + 1) ≡ RightParen → ReadsNonEmpty Exps ts (args_lang ts w) nothing w.above i NoExp (i + 2) 0
empty_args ts w i ended is same inside close = record {
  grows = omega arith;
  reading = subst (λ (z : ℕ). ReadsTree Exps ts (args_lang ts w) nothing w.above i NoExp z 0) two
      (all_read (word_step {r = Done NoExp} (first_way (open_starts ts w i is same) (all_closed ts w (i + 1) close)) close) (more_after ts (i + 1) RightParen ended inside close right_paren_not_eof) (omega arith));
}
  where
    two : i + 1 + 1 ≡ i + 2
    two = omega arith

args_left : (ts : List Token) (w : Context) (i : ℕ) → class_at ts i ≡ LeftParen → (tok_at ts i).line ≡ (tok_at ts (pred i)).end_line → class_at ts (i + 1) ≢ RightParen →
    Left Exps ts (args_lang ts w) nothing i (Here Exps (all_kind ts w) (λ es. Word RightParen (Done es))) (i + 1) 0
args_left ts w i is same ne = second_way (open_starts ts w i is same) (word_closed ts nothing (i + 1) RightParen (Done NoExp) ne)

pub args_fault : (ts : List Token) (w : Context) (i : ℕ) (f : Fault) → class_at ts i ≡ LeftParen → (tok_at ts i).line ≡ (tok_at ts (pred i)).end_line → class_at ts (i + 1) ≢ RightParen → IfFault (ReadsFault Exps ts (all_lang ts w) exps_goes w.above (i + 1)) f →
    IfFault (ReadsFault Exps ts (args_lang ts w) nothing w.above i) f
args_fault ts w i NoMemory is same ne x = tt
args_fault ts w i (At f) is same ne x =
    here_fails {r = λ es. Word RightParen (Done es)} (args_left ts w i is same ne) (omega arith) x (λ es. follows_word ts nothing exps_goes RightParen (Done es) refl)

args_read' : (ts : List Token) (w : Context) (i : ℕ) (es : Exps) (q h : ℕ) → class_at ts i ≡ LeftParen → (tok_at ts i).line ≡ (tok_at ts (pred i)).end_line → class_at ts (i + 1) ≢ RightParen → ReadsNonEmpty Exps ts (all_lang ts w) exps_goes w.above (i + 1) es q h →
    Left Exps ts (args_lang ts w) nothing i (Word RightParen (Done es)) q (max 0 h)
args_read' ts w i es q h is same ne g = here_step {r = λ es. Word RightParen (Done es)} (args_left ts w i is same ne) g.reading (λ es. follows_word ts nothing exps_goes RightParen (Done es) refl)

high_none : (h : ℕ) → max 0 h ≡ h
high_none h = omega arith

pub args_unclosed : (ts : List Token) (w : Context) (i : ℕ) (es : Exps) (q h : ℕ) → class_at ts i ≡ LeftParen → (tok_at ts i).line ≡ (tok_at ts (pred i)).end_line → class_at ts (i + 1) ≢ RightParen → ReadsNonEmpty Exps ts (all_lang ts w) exps_goes w.above (i + 1) es q h →
    class_at ts q ≢ RightParen → ReadsFault Exps ts (args_lang ts w) nothing w.above i 5 q
args_unclosed ts w i es q h is same ne g no_close = word_fails {r = Done es} (args_read' ts w i es q h is same ne g) (omega (arith, g.reading.height)) g.reading.inside no_close

pub args_read : (ts : List Token) (w : Context) (i : ℕ) (es : Exps) (q h : ℕ) → HasOneEnd ts → class_at ts i ≡ LeftParen → (tok_at ts i).line ≡ (tok_at ts (pred i)).end_line → class_at ts (i + 1) ≢ RightParen → ReadsNonEmpty Exps ts (all_lang ts w) exps_goes w.above (i + 1) es q h →
    class_at ts q ≡ RightParen → ReadsNonEmpty Exps ts (args_lang ts w) nothing w.above i es (q + 1) h
args_read ts w i es q h ended is same ne g close = record {
  grows = omega (arith, g.grows);
  reading = subst (λ (z : ℕ). ReadsTree Exps ts (args_lang ts w) nothing w.above i es (q + 1) z) (high_none h)
      (all_read (word_step {r = Done es} (args_read' ts w i es q h is same ne g) close) (more_after ts q RightParen ended g.reading.inside close right_paren_not_eof) (omega (arith, g.reading.height)));
}

-- A string or a table alone.
pub alone_answer : (ts : List Token) (w : Context) (i : ℕ) (e : Reading Expr) (r : Result (Reading (List Expr)) Fault) → (class_at ts i ≡ Text) ⊎ (class_at ts i ≡ LeftBrace) → ReadsOperand ts w i (expr_view e.tree) e.end e.height → Alone e r →
    Answer ts exprs_view (args_lang ts w) nothing w.above i r
alone_answer ts w i e (Ok p) is g a =
    subst (λ (z : Reading (List Expr)). ReadsNonEmpty Exps ts (args_lang ts w) nothing w.above i (exprs_view z.tree) z.end z.height) (sym a) (alone_reading ts w i (expr_view e.tree) e.end e.height is g.grows g.reading)
alone_answer ts w i e (Err f) is g a = subst (λ (z : Fault). IfFault (ReadsFault Exps ts (args_lang ts w) nothing w.above i) z) (sym a) tt

pub alone_fault : (ts : List Token) (w : Context) (i : ℕ) (f : Fault) → class_at ts i ≡ LeftBrace → IfFault (ReadsFault Exp ts (operand_lang ts w) nothing w.above i) f → IfFault (ReadsFault Exps ts (args_lang ts w) nothing w.above i) f
alone_fault ts w i NoMemory is x = tt
alone_fault ts w i (At f) is x = alone_fails ts w i f.kind f.place is x

pub text_reading : (ts : List Token) (w : Context) (i line : ℕ) (bytes : List ℕ) (x : Exp) → HasOneEnd ts → i < length ts → class_at ts i ≡ Text → w.above ≤ 200 → line ≡ (tok_at ts i).line → bytes ≡ bytes_of (tok_at ts i) → x ≡ TextE line bytes → ReadsOperand ts w i x (i + 1) 1
text_reading ts w i line bytes x ended inside is room ln be xe =
    subst (λ (z : Exp). ReadsOperand ts w i z (i + 1) 1) (sym (text_same ts i line bytes x ln be xe))
    (operand_reading ts w i (TextE (tok_at ts i).line (bytes_of (tok_at ts i))) (i + 1) 1 (all_read (text_starts ts w i is) (more_after ts i Text ended inside is text_not_eof) (fits_of w.above room)) (omega arith) (omega arith))

pub before_it : (i : ℕ) → 1 ≤ i → i - 1 ≡ pred i
before_it i lt = omega (arith, lt)

-- ---- one field

pub bracket_key_fault : (ts : List Token) (w : Context) (i : ℕ) (f : Fault) → class_at ts i ≡ LeftBracket → IfFault (ReadsFault Exp ts (exp_lang ts w 1) (goes_on 1) w.above (i + 1)) f → IfFault (ReadsFault Fields ts (field_lang ts w) field_goes w.above i) f
bracket_key_fault ts w i NoMemory is x = tt
bracket_key_fault ts w i (At f) is x =
    here_fails {r = λ k. Word RightBracket (Word Assign (Here Exp (exp_kind ts w 1) (λ e. Done (Pair k e NoField))))} (bracket_field_starts ts w i is) (omega arith) x
    (λ k. follows_word ts field_goes (goes_on 1) RightBracket (Word Assign (Here Exp (exp_kind ts w 1) (λ e. Done (Pair k e NoField)))) refl)

key_left : (ts : List Token) (w : Context) (i : ℕ) (k : Exp) (q h : ℕ) → class_at ts i ≡ LeftBracket → ReadsExp ts w 1 (i + 1) k q h → Left Fields ts (field_lang ts w) field_goes i (Word RightBracket (Word Assign (Here Exp (exp_kind ts w 1) (λ e. Done (Pair k e NoField))))) q (max 0 h)
key_left ts w i k q h is g =
    here_step {r = λ k. Word RightBracket (Word Assign (Here Exp (exp_kind ts w 1) (λ e. Done (Pair k e NoField))))} (bracket_field_starts ts w i is) g.reading
    (λ k. follows_word ts field_goes (goes_on 1) RightBracket (Word Assign (Here Exp (exp_kind ts w 1) (λ e. Done (Pair k e NoField)))) refl)

pub bracket_key_unclosed : (ts : List Token) (w : Context) (i : ℕ) (k : Exp) (q h : ℕ) → class_at ts i ≡ LeftBracket → ReadsExp ts w 1 (i + 1) k q h → class_at ts q ≢ RightBracket → ReadsFault Fields ts (field_lang ts w) field_goes w.above i 5 q
bracket_key_unclosed ts w i k q h is g ne = word_fails {r = Word Assign (Here Exp (exp_kind ts w 1) (λ e. Done (Pair k e NoField)))} (key_left ts w i k q h is g) (omega (arith, g.reading.height)) g.reading.inside ne

key_closed : (ts : List Token) (w : Context) (i : ℕ) (k : Exp) (q h : ℕ) → class_at ts i ≡ LeftBracket → ReadsExp ts w 1 (i + 1) k q h → class_at ts q ≡ RightBracket → Left Fields ts (field_lang ts w) field_goes i (Word Assign (Here Exp (exp_kind ts w 1) (λ e. Done (Pair k e NoField)))) (q + 1) (max 0 h)
key_closed ts w i k q h is g close = word_step {r = Word Assign (Here Exp (exp_kind ts w 1) (λ e. Done (Pair k e NoField)))} (key_left ts w i k q h is g) close

pub bracket_key_alone : (ts : List Token) (w : Context) (i : ℕ) (k : Exp) (q h : ℕ) → class_at ts i ≡ LeftBracket → ReadsExp ts w 1 (i + 1) k q h → class_at ts q ≡ RightBracket → q + 1 < length ts → class_at ts (q + 1) ≢ Assign → ReadsFault Fields ts (field_lang ts w) field_goes w.above i 5 (q + 1)
bracket_key_alone ts w i k q h is g close inside ne = word_fails {r = Here Exp (exp_kind ts w 1) (λ e. Done (Pair k e NoField))} (key_closed ts w i k q h is g close) (omega (arith, g.reading.height)) inside ne

field_stops : (s : TokenClass) → field_goes s ≡ false → goes_on 1 s ≡ false
field_stops Assign e = refl
field_stops _ e = e

value_left : (ts : List Token) (w : Context) (i : ℕ) (k : Exp) (q h : ℕ) → class_at ts i ≡ LeftBracket → ReadsExp ts w 1 (i + 1) k q h → class_at ts q ≡ RightBracket → class_at ts (q + 1) ≡ Assign → Left Fields ts (field_lang ts w) field_goes i (Here Exp (exp_kind ts w 1) (λ e. Done (Pair k e NoField))) (q + 2) (max 0 h)
value_left ts w i k q h is g close assign =
    subst (λ (z : ℕ). Left Fields ts (field_lang ts w) field_goes i (Here Exp (exp_kind ts w 1) (λ e. Done (Pair k e NoField))) z (max 0 h)) two
    (word_step {r = Here Exp (exp_kind ts w 1) (λ e. Done (Pair k e NoField))} (key_closed ts w i k q h is g close) assign)
  where
    two : q + 1 + 1 ≡ q + 2
    two = omega arith

pub bracket_value_fault : (ts : List Token) (w : Context) (i : ℕ) (k : Exp) (q h : ℕ) (f : Fault) → class_at ts i ≡ LeftBracket → ReadsExp ts w 1 (i + 1) k q h → class_at ts q ≡ RightBracket → class_at ts (q + 1) ≡ Assign →
    IfFault (ReadsFault Exp ts (exp_lang ts w 1) (goes_on 1) w.above (q + 2)) f → IfFault (ReadsFault Fields ts (field_lang ts w) field_goes w.above i) f
bracket_value_fault ts w i k q h NoMemory is g close assign x = tt
bracket_value_fault ts w i k q h (At f) is g close assign x =
    here_fails {r = λ e. Done (Pair k e NoField)} (value_left ts w i k q h is g close assign) (omega (arith, g.reading.height)) x (λ e. follows_done ts field_goes (goes_on 1) (Pair k e NoField) field_stops)

pub bracket_value_read : (ts : List Token) (w : Context) (i : ℕ) (k : Exp) (q h : ℕ) (e : Exp) (p j : ℕ) (m : ℕ) (x : Fields) → class_at ts i ≡ LeftBracket → ReadsExp ts w 1 (i + 1) k q h → class_at ts q ≡ RightBracket → class_at ts (q + 1) ≡ Assign →
    ReadsExp ts w 1 (q + 2) e p j → m ≡ max j h → x ≡ Pair k e NoField → ReadsNonEmpty Fields ts (field_lang ts w) field_goes w.above i x p m
bracket_value_read ts w i k q h e p j m x is g close assign v me xe =
    let l = here_step {r = λ e. Done (Pair k e NoField)} (value_left ts w i k q h is g close assign) v.reading (λ e. follows_done ts field_goes (goes_on 1) (Pair k e NoField) field_stops) in
    let hh : Below (max (max 0 h) j) w.above = omega (arith, g.reading.height, v.reading.height) in
    let me' : max (max 0 h) j ≡ m = swapped ∙ sym me in
    record {
      grows = omega (arith, g.grows, v.grows);
      reading = subst (λ (z : ℕ). ReadsTree Fields ts (field_lang ts w) field_goes w.above i x p z) me'
          (subst (λ (z : Fields). ReadsTree Fields ts (field_lang ts w) field_goes w.above i z p (max (max 0 h) j)) (sym xe) (all_read l v.reading.inside hh));
    }
  where
    swapped : max (max 0 h) j ≡ max j h
    swapped = omega arith

pub key_value_fault : (ts : List Token) (w : Context) (i : ℕ) (f : Fault) → class_at ts i ≡ Name → class_at ts (i + 1) ≡ Assign → i + 1 < length ts → w.above ≤ 200 → IfFault (ReadsFault Exp ts (exp_lang ts w 1) (goes_on 1) w.above (i + 2)) f →
    IfFault (ReadsFault Fields ts (field_lang ts w) field_goes w.above i) f
key_value_fault ts w i NoMemory is assign inside room x = tt
key_value_fault ts w i (At f) is assign inside room x =
    here_fails {r = λ e. Done (Pair (TextE (tok_at ts i).line (bytes_of (tok_at ts i))) e NoField)} (key_field_starts ts w i is assign inside room) (fits_of w.above room) x
    (λ e. follows_done ts field_goes (goes_on 1) (Pair (TextE (tok_at ts i).line (bytes_of (tok_at ts i))) e NoField) field_stops)

pub key_value_read : (ts : List Token) (w : Context) (i : ℕ) (e : Exp) (p j m line : ℕ) (bytes : List ℕ) (k : Exp) (x : Fields) → class_at ts i ≡ Name → class_at ts (i + 1) ≡ Assign → i + 1 < length ts → w.above ≤ 200 → ReadsExp ts w 1 (i + 2) e p j → m ≡ max j 1 →
    line ≡ (tok_at ts i).line → bytes ≡ bytes_of (tok_at ts i) → k ≡ TextE line bytes → x ≡ Pair k e NoField → ReadsNonEmpty Fields ts (field_lang ts w) field_goes w.above i x p m
key_value_read ts w i e p j m line bytes k x is assign inside room v me ln be ke xe =
    let key : Exp = TextE (tok_at ts i).line (bytes_of (tok_at ts i)) in
    let l = here_step {r = λ e. Done (Pair (TextE (tok_at ts i).line (bytes_of (tok_at ts i))) e NoField)} (key_field_starts ts w i is assign inside room) v.reading
    (λ e. follows_done ts field_goes (goes_on 1) (Pair (TextE (tok_at ts i).line (bytes_of (tok_at ts i))) e NoField) field_stops) in
    let hh : Below (max 1 j) w.above = omega (arith, room, v.reading.height) in
    record {
      grows = omega (arith, v.grows);
      reading = subst (λ (z : ℕ). ReadsTree Fields ts (field_lang ts w) field_goes w.above i x p z) (swapped ∙ sym me)
          (subst (λ (z : Fields). ReadsTree Fields ts (field_lang ts w) field_goes w.above i z p (max 1 j)) (sym (xe ∙ ap (λ (z : Exp). Pair z e NoField) (text_same ts i line bytes k ln be ke))) (all_read l v.reading.inside hh));
    }
  where
    swapped : max 1 j ≡ max j 1
    swapped = omega arith

pub item_fault : (ts : List Token) (w : Context) (i : ℕ) (f : Fault) → class_at ts i ≢ LeftBracket → IsItem ts i → IfFault (ReadsFault Exp ts (exp_lang ts w 1) (goes_on 1) w.above i) f → IfFault (ReadsFault Fields ts (field_lang ts w) field_goes w.above i) f
item_fault ts w i NoMemory ne it x = tt
item_fault ts w i (At f) ne it x = item_fails ts w i f.kind f.place ne it x

pub item_read : (ts : List Token) (w : Context) (i : ℕ) (e : Exp) (q h : ℕ) (x : Fields) → class_at ts i ≢ LeftBracket → IsItem ts i → ReadsExp ts w 1 i e q h → x ≡ Item e NoField → ReadsNonEmpty Fields ts (field_lang ts w) field_goes w.above i x q h
item_read ts w i e q h x ne it g xe = subst (λ (z : Fields). ReadsNonEmpty Fields ts (field_lang ts w) field_goes w.above i z q h) (sym xe) (item_reading ts w i e q h ne it g)

-- ---- what calls want

pub under_low : (w v : Context) → v ≡ under w → w.above ≤ 200 → v.above ≤ 201
under_low w v e room = let P : Context → Type 0 = λ u. u.above ≤ 201 in subst P (sym e) (omega (arith, room))

pub seven_low : (r : ℕ) (op : BinaryOp) → r ≡ right_level op → r ≤ 7
seven_low r op e = subst (λ (z : ℕ). z ≤ 7) (sym e) (right-low op)

pub less_room : (a h : ℕ) → a + h ≤ 200 → a ≤ 200
less_room a h x = omega (arith, x)

pub climbs_high : (ts : List Token) (w : Context) (l i : ℕ) (e : Exp) (m h k : ℕ) → k ≡ h → Climbs ts w l i e m (1 + h) → Climbs ts w l i e m (1 + k)
climbs_high ts w l i e m h k q c = subst (λ (z : ℕ). Climbs ts w l i e m (1 + z)) (sym q) c

pub chain_high : (ts : List Token) (w : Context) (i : ℕ) (e : Exp) (m h k : ℕ) → k ≡ h → Chain ts w i e m h → Chain ts w i e m k
chain_high ts w i e m h k q c = subst (λ (z : ℕ). Chain ts w i e m z) (sym q) c

pub prefix_form_of : (ts : List Token) (i : ℕ) (s : TokenClass) → s ≡ class_at ts i → (s ≡ Name) ⊎ (s ≡ LeftParen) → form (class_at ts i) ≡ 12
prefix_form_of ts i s e (inl x) = ap form (sym e ∙ x)
prefix_form_of ts i s e (inr x) = ap form (sym e ∙ x)

pub same_line : (ts : List Token) (i l e : ℕ) → 1 ≤ i → l ≡ (tok_at ts i).line → e ≡ (tok_at ts (i - 1)).end_line → l ≡ e → (tok_at ts i).line ≡ (tok_at ts (pred i)).end_line
same_line ts i l e lt le ee s = sym le ∙ s ∙ ee ∙ ap (λ (z : ℕ). (tok_at ts z).end_line) (before_it i lt)

pub other_line : (ts : List Token) (i l e : ℕ) → 1 ≤ i → l ≡ (tok_at ts i).line → e ≡ (tok_at ts (i - 1)).end_line → l ≢ e → (tok_at ts i).line ≢ (tok_at ts (pred i)).end_line
other_line ts i l e lt le ee ne s = ne (le ∙ s ∙ ap (λ (z : ℕ). (tok_at ts z).end_line) (sym (before_it i lt)) ∙ sym ee)

-- Two more places.
pub two_more : (ts : List Token) (i : ℕ) (s : TokenClass) → HasOneEnd ts → i + 1 < length ts → class_at ts (i + 1) ≡ s → s ≢ Eof → i + 2 < length ts
two_more ts i s ended inside e ne = let x : i + 1 + 1 < length ts = more_after ts (i + 1) s ended inside e ne in omega (arith, x)

pub is_separator : (ts : List Token) (q : ℕ) (s : TokenClass) → s ≡ class_at ts q → (s ≡ Comma) ⊎ (s ≡ Semicolon) → IsSeparator (class_at ts q)
is_separator ts q s e (inl x) = inl (sym e ∙ x)
is_separator ts q s e (inr x) = inr (sym e ∙ x)
