-- Lists of tokens: a piece more, the end, a fault, and that one list fits.
use Rattle.std.proofs.Common.{◌≡◌, ℕ, ◌+◌, ◌<◌, Bool, true, false, List, [], ◌∷◌, ◌++◌, length, take, drop, refl, sym, ap, subst, ◌∙◌, arith, append_assoc, true≢false}
use Rattle.std.specs.Prelude.{Result, Ok, Err, IfOk, IfErr, ◌==◌}
use borrow.Author.Tests.{eqb-true}
use Rattle.lua_syntax.specs.declared.fault.SyntaxFault.{SyntaxFault}
use Rattle.lua_syntax.specs.declared.fault.SyntaxFault.TheVariants.{At, NoMemory as WantOfMemory}
use Rattle.lua_lexer.specs.declared.token.Piece.{Piece}
use Rattle.lua_lexer.specs.declared.token.Token.{Token}
use Rattle.lua_lexer.specs.declared.token.Stop.{Stop}
use Rattle.lua_lexer.specs.declared.token.Stop.TheVariants.{Fault, NoMemory}
use Rattle.lua_lexer.specs.Lexis.{piece_of, breaks, tokens_of, end_token, line_behind, Spells, Stops, Lexes, FirstFault}
use Rattle.lua_lexer.specs.Answers.{IsPiece, IsStop, IsLexed}

same_ok : (x : Result Piece ℕ) (p q : Piece) → x ≡ Ok p → x ≡ Ok q → p ≡ q
same_ok x p q e f = cc

ok_err : (x : Result Piece ℕ) (p : Piece) (k : ℕ) → x ≡ Ok p → x ≡ Err k → ⊥
ok_err x p k e f = cc

same_err : (x : Result Piece ℕ) (k l : ℕ) → x ≡ Err k → x ≡ Err l → k ≡ l
same_err x k l e f = cc

not_empty : (t : List ℕ) → t ≡ [] → 0 < length t → ⊥
not_empty t e h = omega (arith, ap length e, h)

pub one_list : (t : List ℕ) (ps qs : List Piece) (place line : ℕ) (ts us : List Token) → Spells t ps place line ts → Spells t qs place line us → ts ≡ us
one_list t [] [] place line ts us h k = h.1 ∙ sym k.1
one_list t [] (q ∷ qs) place line ts us h k = absurd (not_empty t h.0 k.0)
one_list t (p ∷ ps) [] place line ts us h k = absurd (not_empty t k.0 h.0)
one_list t (p ∷ ps) (q ∷ qs) place line ts us h k =
    let same : q ≡ p = same_ok (piece_of t) q p k.1 h.1 in
    let k' : Spells t (p ∷ qs) place line us = subst (λ (x : Piece). Spells t (x ∷ qs) place line us) same k in
    let rest : h.2.0 ≡ k'.2.0 = one_list (drop p.size t) ps qs (place + p.size) (line_behind p t line) h.2.0 k'.2.0 h.2.2 k'.2.2 in
    h.2.1 ∙ ap (λ x. tokens_of p place line (line_behind p t line) ++ x) rest ∙ sym k'.2.1

pub no_list_with_fault : (t : List ℕ) (ps qs : List Piece) (place line : ℕ) (ts : List Token) (kind fault_line : ℕ) → Spells t ps place line ts → Stops t qs line kind fault_line → ⊥
no_list_with_fault t [] [] place line ts kind fault_line h k = not_empty t h.0 k.0
no_list_with_fault t [] (q ∷ qs) place line ts kind fault_line h k = not_empty t h.0 k.0
no_list_with_fault t (p ∷ ps) [] place line ts kind fault_line h k = ok_err (piece_of t) p kind h.1 k.1
no_list_with_fault t (p ∷ ps) (q ∷ qs) place line ts kind fault_line h k =
    let same : q ≡ p = same_ok (piece_of t) q p k.1 h.1 in
    let k' : Stops t (p ∷ qs) line kind fault_line = subst (λ (x : Piece). Stops t (x ∷ qs) line kind fault_line) same k in
    no_list_with_fault (drop p.size t) ps qs (place + p.size) (line_behind p t line) h.2.0 kind fault_line h.2.2 k'.2

pub one_fault : (t : List ℕ) (ps qs : List Piece) (line kind fault_line other_kind other_line : ℕ) → Stops t ps line kind fault_line → Stops t qs line other_kind other_line → (kind ≡ other_kind) × (fault_line ≡ other_line)
one_fault t [] [] line kind fault_line other_kind other_line h k = (same_err (piece_of t) kind other_kind h.1 k.1, h.2 ∙ sym k.2)
one_fault t [] (q ∷ qs) line kind fault_line other_kind other_line h k = absurd (ok_err (piece_of t) q kind k.1 h.1)
one_fault t (p ∷ ps) [] line kind fault_line other_kind other_line h k = absurd (ok_err (piece_of t) p other_kind h.1 k.1)
one_fault t (p ∷ ps) (q ∷ qs) line kind fault_line other_kind other_line h k =
    let same : q ≡ p = same_ok (piece_of t) q p k.1 h.1 in
    let k' : Stops t (p ∷ qs) line other_kind other_line = subst (λ (x : Piece). Stops t (x ∷ qs) line other_kind other_line) same k in
    one_fault (drop p.size t) ps qs (line_behind p t line) kind fault_line other_kind other_line h.2 k'.2

-- ---- one piece more

behind : (p : Piece) (left front : List ℕ) (line end_line count : ℕ) → count ≡ breaks front → front ≡ take p.size left → end_line ≡ line + count → end_line ≡ line_behind p left line
behind p left front line end_line count ec ef ee = ee ∙ ap (λ n. line + n) (ec ∙ ap breaks ef)

pub spells_step : (text left back front : List ℕ) (tokens tokens' : List Token) (p : Piece) (place place' line end_line count : ℕ)
    → ((ps : List Piece) (ts : List Token) → Spells left ps place line ts → Lexes text (tokens ++ ts))
    → 0 < length left → piece_of left ≡ Ok p → back ≡ drop p.size left → front ≡ take p.size left → count ≡ breaks front → end_line ≡ line + count → place' ≡ place + p.size
    → tokens' ≡ tokens ++ tokens_of p place line end_line
    → (ps : List Piece) (ts : List Token) → Spells back ps place' end_line ts → Lexes text (tokens' ++ ts)
spells_step text left back front tokens tokens' p place place' line end_line count inv h found eb ef ec ee ep et ps ts s =
    let lines : end_line ≡ line_behind p left line = behind p left front line end_line count ec ef ee in
    let s1 : Spells (drop p.size left) ps place' end_line ts = subst (λ (x : List ℕ). Spells x ps place' end_line ts) eb s in
    let s2 : Spells (drop p.size left) ps (place + p.size) end_line ts = subst (λ (x : ℕ). Spells (drop p.size left) ps x end_line ts) ep s1 in
    let s3 : Spells (drop p.size left) ps (place + p.size) (line_behind p left line) ts = subst (λ (x : ℕ). Spells (drop p.size left) ps (place + p.size) x ts) lines s2 in
    let whole : Lexes text (tokens ++ (tokens_of p place line (line_behind p left line) ++ ts)) = inv (p ∷ ps) (tokens_of p place line (line_behind p left line) ++ ts) (h, found, (ts, refl, s3)) in
    let same : tokens' ++ ts ≡ tokens ++ (tokens_of p place line (line_behind p left line) ++ ts) =
    ap (λ x. x ++ ts) (et ∙ ap (λ n. tokens ++ tokens_of p place line n) lines) ∙ append_assoc tokens (tokens_of p place line (line_behind p left line)) ts in
    subst (λ (x : List Token). Lexes text x) (sym same) whole

pub stops_step : (text left back front : List ℕ) (p : Piece) (line end_line count : ℕ)
    → ((ps : List Piece) (kind fault_line : ℕ) → Stops left ps line kind fault_line → FirstFault text kind fault_line)
    → 0 < length left → piece_of left ≡ Ok p → back ≡ drop p.size left → front ≡ take p.size left → count ≡ breaks front → end_line ≡ line + count
    → (ps : List Piece) (kind fault_line : ℕ) → Stops back ps end_line kind fault_line → FirstFault text kind fault_line
stops_step text left back front p line end_line count inv h found eb ef ec ee ps kind fault_line s =
    let lines : end_line ≡ line_behind p left line = behind p left front line end_line count ec ef ee in
    let s1 : Stops (drop p.size left) ps end_line kind fault_line = subst (λ (x : List ℕ). Stops x ps end_line kind fault_line) eb s in
    let s2 : Stops (drop p.size left) ps (line_behind p left line) kind fault_line = subst (λ (x : ℕ). Stops (drop p.size left) ps x kind fault_line) lines s1 in
    inv (p ∷ ps) kind fault_line (h, found, s2)

pub fault_is : (s : SyntaxFault) (stop : Stop) (line : ℕ) (text left : List ℕ) → IsStop s stop line → 0 < length left → IsPiece (Err stop) (piece_of left) → ((ps : List Piece) (kind fault_line : ℕ) → Stops left ps line kind fault_line → FirstFault text kind fault_line) → IsLexed (Err s) text
fault_is (At f) (Fault k) line text left is h found inv = inv [] f.kind f.line (h, found ∙ ap Err (sym is.0), is.1)
fault_is (At f) NoMemory line text left is h found inv = absurd is
fault_is WantOfMemory (Fault k) line text left is h found inv = absurd is
fault_is WantOfMemory NoMemory line text left is h found inv = tt

pub empty_is : (left : List ℕ) → (length left == 0) ≡ true → left ≡ []
empty_is [] e = refl
empty_is (c ∷ cs) e = let none : length (c ∷ cs) ≡ 0 = eqb-true _ _ e in absurd (omega (arith, none))

pub end_is : (r : Result (List Token) SyntaxFault) (text left : List ℕ) (tokens : List Token) (place line : ℕ) → left ≡ [] → IfOk r (λ list. list ≡ tokens ++ end_token place line ∷ []) → IfErr r (λ e. e ≡ WantOfMemory) → ((ps : List Piece) (ts : List Token) → Spells left ps place line ts → Lexes text (tokens ++ ts)) → IsLexed r text
end_is (Ok list) text left tokens place line e h k inv = subst (λ (x : List Token). Lexes text x) (sym h) (inv [] (end_token place line ∷ []) (e, refl))
end_is (Err (At f)) text left tokens place line e h k inv = absurd (let same : At f ≡ WantOfMemory = k in cc)
end_is (Err WantOfMemory) text left tokens place line e h k inv = tt

pub there : (left : List ℕ) (r : Bool) → r ≡ (length left == 0) → r ≡ false → 0 < length left
there [] r e f = absurd (true≢false (sym e ∙ f))
there (c ∷ cs) r e f = omega arith
