-- The lemmas as the exits of the code want them: for expressions.
use Rattle.std.proofs.Common.{◌≡◌, ◌≢◌, ℕ, suc, pred, ◌+◌, ◌<◌, ◌≤◌, ◌⊎◌, max, false, List, length, refl, sym, ap, subst, ◌∙◌, inl, inr, arith, true≢false, add-one, eq-or-lt_of_le}
use Rattle.std.specs.Prelude.{Result, Ok, Err}
use Rattle.lua_lexer.specs.declared.token.Token.{Token}
use Rattle.lua_syntax.specs.declared.Expr.{Expr}
use Rattle.lua_syntax.specs.declared.BinaryOp.{BinaryOp}
use Rattle.lua_syntax.specs.declared.UnaryOp.{UnaryOp}
use Rattle.lua_syntax.specs.declared.UnaryOp.TheVariants.{Not as NotOp, Len, Minus as MinusOp}
use Rattle.lua_grammar.specs.declared.TokenClass.{TokenClass}
use Rattle.lua_grammar.specs.declared.TokenClass.TheVariants.{Eof, Name, Number, Text, Nil, True, False, Dots, Function, Not, Hash, Minus, LeftParen, RightParen, LeftBrace, RightBrace, LeftBracket, RightBracket, Colon, Dot, Comma, Assign}
use Rattle.lua_grammar.specs.declared.Context.{Context}
use Rattle.lua_grammar.specs.Tokens.{class_at, tok_at, bytes_of}
use Rattle.lua_syntax.specs.View.{expr_view}
use Rattle.lua_syntax.specs.Tree.{Exp, TextE, NameE, BinaryE, UnaryE}
use Rattle.lua_grammar.specs.Grammar.{mark_of, level, right_level, sign_of, under}
use Rattle.lua_reading.specs.declared.answer.Fault.{Fault}
use Rattle.lua_reading.specs.declared.answer.Fault.TheVariants.{At, NoMemory}
use Rattle.lua_reading.specs.declared.answer.Reading.{Reading}
use Rattle.lua_reading.specs.Parsing.{Below, ReadsTree, ReadsFault, HasOneEnd, exp_lang, nothing, goes_on, operand_lang, ReadsOperand, ReadsExp}
use Rattle.lua_reading.specs.Answers.{IfFault, ReadsNonEmpty, OperandAnswer, PrefixAnswer, OneToken, name_lang, has_parts}
use Rattle.lua_reading.proofs.pieces.Steps.{Done, Left, all_read, under_step, under_fails, follows_nothing}
use Rattle.lua_reading.proofs.levels.Levels.{not_op-stops, goes-not}
use Rattle.lua_reading.proofs.levels.Climb.{Climbs, finish, more, deep, right_breaks, operand_breaks}
use Rattle.lua_reading.proofs.expressions.Operands.{form, operand_reading, prefix_operand, prefix_operand_fails}
use Rattle.lua_reading.proofs.expressions.Atoms.{operand_deep, operand_unexpected, left_can, closed_kind, closed_reading, closed_fails, unary_starts, fits_of}
use Rattle.lua_reading.proofs.lists.ExpressionLists.{key_starts}

-- A token that isn't the end has another behind it.
pub more_after : (ts : List Token) (i : ℕ) (s : TokenClass) → HasOneEnd ts → i < length ts → class_at ts i ≡ s → s ≢ Eof → i + 1 < length ts
unfolding HasOneEnd
more_after ts i s e lt is ne = go (eq-or-lt_of_le lt)
  where
    go : (suc i ≡ length ts) ⊎ (suc i < length ts) → i + 1 < length ts
    go (inl eq) = absurd (ne (sym is ∙ subst (λ (y : ℕ). class_at ts (pred y) ≡ Eof) (sym eq) e.1))
    go (inr x) = omega (arith, x)

-- The class that was read.
pub is_class : (ts : List Token) (i : ℕ) (r s : TokenClass) → r ≡ class_at ts i → r ≡ s → class_at ts i ≡ s
is_class ts i r s e x = sym e ∙ x

pub isn't : (ts : List Token) (i : ℕ) (r s : TokenClass) → r ≡ class_at ts i → r ≢ s → class_at ts i ≢ s
isn't ts i r s e x y = x (e ∙ y)

-- ---- one token

pub one_token_read : (ts : List Token) (w : Context) (i : ℕ) (s : TokenClass) (tree : Expr) (e : Exp) (r : Result (Reading Expr) Fault) → HasOneEnd ts → i < length ts → class_at ts i ≡ s → s ≢ Eof →
    Left Exp ts (operand_lang ts w) nothing i (Done e) (i + 1) 1 → expr_view tree ≡ e → OneToken tree i w r → OperandAnswer ts w i r
one_token_read ts w i s tree e (Ok p) ended inside is ne l ve o =
    let st : ReadsOperand ts w i (expr_view tree) (i + 1) 1 =
    subst (λ (x : Exp). ReadsOperand ts w i x (i + 1) 1) (sym ve)
    (operand_reading ts w i e (i + 1) 1 (all_read l (more_after ts i s ended inside is ne) (fits_of w.above o.0)) (omega arith) (omega arith)) in
    subst (λ (y : Reading Expr). ReadsOperand ts w i (expr_view y.tree) y.end y.height) (sym o.1) st
one_token_read ts w i s tree e (Err f) ended inside is ne l ve o =
    subst (λ (y : Fault). IfFault (ReadsFault Exp ts (operand_lang ts w) nothing w.above i) y) (sym o.1) (operand_deep ts w i inside o.0 (left_can w l))

plain_form : (s : TokenClass) → has_parts s ≡ false → s ≢ Nil → s ≢ True → s ≢ False → s ≢ Text → s ≢ Number → s ≢ Dots → form s ≡ 0
plain_form Nil h a b c d e f = absurd (a refl)
plain_form True h a b c d e f = absurd (b refl)
plain_form False h a b c d e f = absurd (c refl)
plain_form Text h a b c d e f = absurd (d refl)
plain_form Number h a b c d e f = absurd (e refl)
plain_form Dots h a b c d e f = absurd (f refl)
plain_form Name h a b c d e f = absurd (true≢false h)
plain_form LeftParen h a b c d e f = absurd (true≢false h)
plain_form LeftBrace h a b c d e f = absurd (true≢false h)
plain_form Function h a b c d e f = absurd (true≢false h)
plain_form Not h a b c d e f = absurd (true≢false h)
plain_form Hash h a b c d e f = absurd (true≢false h)
plain_form Minus h a b c d e f = absurd (true≢false h)
plain_form _ h a b c d e f = refl

pub literal_unexpected : (ts : List Token) (w : Context) (i : ℕ) (s : TokenClass) → i < length ts → s ≡ class_at ts i → has_parts (class_at ts i) ≡ false → s ≢ Nil → s ≢ True → s ≢ False → s ≢ Text → s ≢ Number → s ≢ Dots →
    ReadsFault Exp ts (operand_lang ts w) nothing w.above i 5 i
literal_unexpected ts w i s inside e h n1 n2 n3 n4 n5 n6 =
    let P : TokenClass → Type 0 = λ z. has_parts z ≡ false in
    operand_unexpected ts w i inside (ap form (sym e) ∙ plain_form s (subst P (sym e) h) n1 n2 n3 n4 n5 n6)

pub nil_not_eof : Nil ≢ Eof
nil_not_eof e = cc

pub true_not_eof : True ≢ Eof
true_not_eof e = cc

pub false_not_eof : False ≢ Eof
false_not_eof e = cc

pub text_not_eof : Text ≢ Eof
text_not_eof e = cc

pub number_not_eof : Number ≢ Eof
number_not_eof e = cc

pub dots_not_eof : Dots ≢ Eof
dots_not_eof e = cc

pub name_not_eof : Name ≢ Eof
name_not_eof e = cc

pub left_paren_not_eof : LeftParen ≢ Eof
left_paren_not_eof e = cc

pub right_paren_not_eof : RightParen ≢ Eof
right_paren_not_eof e = cc

pub left_brace_not_eof : LeftBrace ≢ Eof
left_brace_not_eof e = cc

pub right_brace_not_eof : RightBrace ≢ Eof
right_brace_not_eof e = cc

pub left_bracket_not_eof : LeftBracket ≢ Eof
left_bracket_not_eof e = cc

pub right_bracket_not_eof : RightBracket ≢ Eof
right_bracket_not_eof e = cc

pub colon_not_eof : Colon ≢ Eof
colon_not_eof e = cc

pub dot_not_eof : Dot ≢ Eof
dot_not_eof e = cc

pub comma_not_eof : Comma ≢ Eof
comma_not_eof e = cc

pub assign_not_eof : Assign ≢ Eof
assign_not_eof e = cc

pub function_not_eof : Function ≢ Eof
function_not_eof e = cc

pub sign_not_eof : (op : UnaryOp) → sign_of op ≢ Eof
sign_not_eof NotOp e = cc
sign_not_eof Len e = cc
sign_not_eof MinusOp e = cc

-- ---- a name that is a text

pub key_read : (ts : List Token) (w : Context) (i : ℕ) (tree : Expr) (line : ℕ) (bytes : List ℕ) → HasOneEnd ts → i < length ts → class_at ts i ≡ Name → w.above ≤ 200 → line ≡ (tok_at ts i).line → bytes ≡ bytes_of (tok_at ts i) →
    expr_view tree ≡ TextE line bytes → ReadsNonEmpty Exp ts (name_lang ts w) nothing w.above i (expr_view tree) (i + 1) 1
key_read ts w i tree line bytes ended inside is room le be ve = record {
  grows = omega arith;
  reading = subst (λ (x : Exp). ReadsTree Exp ts (name_lang ts w) nothing w.above i x (i + 1) 1)
      (ap (λ (z : ℕ). TextE z (bytes_of (tok_at ts i))) (sym le) ∙ ap (λ (z : List ℕ). TextE line z) (sym be) ∙ sym ve)
      (all_read (key_starts ts w i is) (more_after ts i Name ended inside is name_not_eof) (fits_of w.above room));
}

pub text_same : (ts : List Token) (i line : ℕ) (bytes : List ℕ) (e : Exp) → line ≡ (tok_at ts i).line → bytes ≡ bytes_of (tok_at ts i) → e ≡ TextE line bytes → e ≡ TextE (tok_at ts i).line (bytes_of (tok_at ts i))
text_same ts i line bytes e le be q = q ∙ ap (λ (z : ℕ). TextE z bytes) le ∙ ap (λ (z : List ℕ). TextE (tok_at ts i).line z) be

pub name_same : (ts : List Token) (i line : ℕ) (bytes : List ℕ) (e : Exp) → line ≡ (tok_at ts i).line → bytes ≡ bytes_of (tok_at ts i) → e ≡ NameE line bytes → e ≡ NameE (tok_at ts i).line (bytes_of (tok_at ts i))
name_same ts i line bytes e le be q = q ∙ ap (λ (z : ℕ). NameE z bytes) le ∙ ap (λ (z : List ℕ). NameE (tok_at ts i).line z) be

-- ---- expressions

pub operand_fault : (ts : List Token) (w : Context) (l i : ℕ) (f : Fault) → l ≤ 7 → IfFault (ReadsFault Exp ts (operand_lang ts w) nothing w.above i) f → IfFault (ReadsFault Exp ts (exp_lang ts w l) (goes_on l) w.above i) f
operand_fault ts w l i NoMemory le x = tt
operand_fault ts w l i (At f) le x = operand_breaks ts w l i f.kind f.place le x

pub finish_read : (ts : List Token) (w : Context) (l i : ℕ) (e : Exp) (m h : ℕ) (s : TokenClass) → l ≤ 7 → Climbs ts w l i e m h → s ≡ class_at ts m → ((op : BinaryOp) → s ≢ mark_of op) → ReadsExp ts w l i e m h
finish_read ts w l i e m h s le cl r ne = finish ts w l i e m h le cl (let P : TokenClass → Type 0 = λ z. goes_on l z ≡ false in subst P r (not_op-stops l s ne))

pub low_read : (ts : List Token) (w : Context) (l i : ℕ) (e : Exp) (m h k : ℕ) (s : TokenClass) (op : BinaryOp) → l ≤ 7 → Climbs ts w l i e m h → s ≡ class_at ts m → s ≡ mark_of op → k ≡ level op → k < l → ReadsExp ts w l i e m h
low_read ts w l i e m h k s op le cl r is ke lt =
    finish ts w l i e m h le cl (let P : TokenClass → Type 0 = λ z. goes_on l z ≡ false in subst P (sym is ∙ r) (goes-not l op (subst (λ (y : ℕ). y < l) ke lt)))

pub least_read : (l k : ℕ) (op : BinaryOp) → k ≡ level op → l ≤ k → l ≤ level op
least_read l k op e le = subst (λ (y : ℕ). l ≤ y) e le

pub deep_read : (ts : List Token) (w : Context) (l i : ℕ) (e : Exp) (m h k : ℕ) (s : TokenClass) (op : BinaryOp) → l ≤ 7 → Climbs ts w l i e m h → s ≡ class_at ts m → s ≡ mark_of op → k ≡ level op → l ≤ k → 200 < w.above + h →
    ReadsFault Exp ts (exp_lang ts w l) (goes_on l) w.above i 7 m
deep_read ts w l i e m h k s op le cl r is ke lk over = deep ts w l i e op m h le cl (sym r ∙ is) (least_read l k op ke lk) over

pub right_fault : (ts : List Token) (w v : Context) (l i : ℕ) (e : Exp) (m h k r : ℕ) (s : TokenClass) (op : BinaryOp) (f : Fault) → l ≤ 7 → Climbs ts w l i e m h → s ≡ class_at ts m → s ≡ mark_of op → k ≡ level op → l ≤ k → w.above + h ≤ 200 →
    r ≡ right_level op → v ≡ under w → IfFault (ReadsFault Exp ts (exp_lang ts v r) (goes_on r) v.above (m + 1)) f → IfFault (ReadsFault Exp ts (exp_lang ts w l) (goes_on l) w.above i) f
right_fault ts w v l i e m h k r s op NoMemory le cl q is ke lk room re ve x = tt
right_fault ts w v l i e m h k r s op (At f) le cl q is ke lk room re ve x =
    let P : Context → ℕ → ℕ → Type 0 = λ u y z. ReadsFault Exp ts (exp_lang ts u y) (goes_on y) u.above z f.kind f.place in
    let Q : Context → Type 0 = λ u. P u r (m + 1) in
    right_breaks ts w l i e op m h f.kind f.place le cl (sym q ∙ is) (least_read l k op ke lk) room
    (subst (λ (z : ℕ). P (under w) (right_level op) z) (add-one m) (subst (λ (y : ℕ). P (under w) y (m + 1)) re (subst Q ve x)))

pub more_read : (ts : List Token) (w v : Context) (l i : ℕ) (e right x : Exp) (m h k r q j line : ℕ) (s : TokenClass) (op : BinaryOp) → l ≤ 7 → Climbs ts w l i e m h → s ≡ class_at ts m → s ≡ mark_of op → k ≡ level op → l ≤ k → w.above + h ≤ 200 →
    r ≡ right_level op → v ≡ under w → ReadsExp ts v r (m + 1) right q j → line ≡ (tok_at ts m).line → x ≡ BinaryE line op e right → Climbs ts w l i x q (1 + max h j)
more_read ts w v l i e right x m h k r q j line s op le cl s' is ke lk room re ve g ln xe =
    let P : Context → ℕ → ℕ → Type 0 = λ u y z. ReadsExp ts u y z right q j in
    let Q : Context → Type 0 = λ u. P u r (m + 1) in
    subst (λ (y : Exp). Climbs ts w l i y q (1 + max h j)) (sym xe)
    (more ts w l i e right op line m q h j le cl (sym s' ∙ is) (least_read l k op ke lk) ln room
    (subst (λ (z : ℕ). P (under w) (right_level op) z) (add-one m) (subst (λ (y : ℕ). P (under w) y (m + 1)) re (subst Q ve g))))

-- ---- operands with parts

pub prefix_answer : (ts : List Token) (w : Context) (i : ℕ) (r : Result (Reading Expr) Fault) → form (class_at ts i) ≡ 12 → PrefixAnswer ts w i r → OperandAnswer ts w i r
prefix_answer ts w i (Ok p) c x = prefix_operand ts w i (expr_view p.tree) p.end p.height c x
prefix_answer ts w i (Err NoMemory) c x = tt
prefix_answer ts w i (Err (At f)) c x = prefix_operand_fails ts w i f.kind f.place c x

-- One more node above.
pub exp_under : (ts : List Token) (w v : Context) (l i : ℕ) (e : Exp) (q h : ℕ) → v ≡ under w → ReadsExp ts v l i e q h → ReadsExp ts (under w) l i e q h
exp_under ts w v l i e q h ve g = let P : Context → Type 0 = λ u. ReadsExp ts u l i e q h in subst P ve g

pub unary_fault : (ts : List Token) (w v : Context) (i : ℕ) (op : UnaryOp) (f : Fault) → class_at ts i ≡ sign_of op → w.above ≤ 200 → v ≡ under w → IfFault (ReadsFault Exp ts (exp_lang ts v 7) (goes_on 7) v.above (i + 1)) f →
    IfFault (ReadsFault Exp ts (operand_lang ts w) nothing w.above i) f
unary_fault ts w v i op NoMemory is room ve x = tt
unary_fault ts w v i op (At f) is room ve x =
    let P : Context → Type 0 = λ u. ReadsFault Exp ts (exp_lang ts u 7) (goes_on 7) u.above (i + 1) f.kind f.place in
    under_fails {K = closed_kind ts w} {r = λ e. Done (UnaryE (tok_at ts i).line op e)} (unary_starts ts w i op is) (fits_of w.above room) (closed_fails ts (under w) (i + 1) f.kind f.place (subst P ve x)) (λ e. follows_nothing ts nothing (Done (UnaryE (tok_at ts i).line op e)))

height_one : (k : ℕ) → max 1 (1 + k) ≡ 1 + k
height_one k = omega arith

pub unary_read : (ts : List Token) (w v : Context) (i : ℕ) (op : UnaryOp) (e x : Exp) (q h line : ℕ) → class_at ts i ≡ sign_of op → w.above ≤ 200 → v ≡ under w → ReadsExp ts v 7 (i + 1) e q h → line ≡ (tok_at ts i).line →
    x ≡ UnaryE line op e → ReadsOperand ts w i x q (1 + h)
unary_read ts w v i op e x q h line is room ve g ln xe =
    let u : ReadsExp ts (under w) 7 (i + 1) e q h = exp_under ts w v 7 (i + 1) e q h ve g in
    let l : Left Exp ts (operand_lang ts w) nothing i (Done (UnaryE (tok_at ts i).line op e)) q (max 1 (1 + h)) =
    under_step {K = closed_kind ts w} {r = λ z. Done (UnaryE (tok_at ts i).line op z)} (unary_starts ts w i op is) (omega arith) (closed_reading ts (under w) (i + 1) e q h u) (λ z. follows_nothing ts nothing (Done (UnaryE (tok_at ts i).line op z))) in
    let hh : Below (max 1 (1 + h)) w.above = omega (arith, u.reading.height, room, u.some_node) in
    let st : ReadsOperand ts w i (UnaryE (tok_at ts i).line op e) q (max 1 (1 + h)) = operand_reading ts w i (UnaryE (tok_at ts i).line op e) q (max 1 (1 + h)) (all_read l u.reading.inside hh) (omega (arith, u.grows)) (omega arith) in
    subst (λ (z : ℕ). ReadsOperand ts w i x q z) (height_one h) (subst (λ (z : Exp). ReadsOperand ts w i z q (max 1 (1 + h))) (ap (λ (z : ℕ). UnaryE z op e) (sym ln) ∙ sym xe) st)
