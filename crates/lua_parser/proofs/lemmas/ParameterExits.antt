-- The lemmas as the exits of the code want them: for parameters.
use Rattle.std.proofs.Common.{◌≡◌, ◌≢◌, ℕ, [], ◌∷◌, ◌++◌, ◌+◌, ◌<◌, ◌≤◌, ◌-◌, max, Bool, true, false, List, length, refl, sym, ap, subst, ◌∙◌, arith}
use Rattle.lua_lexer.specs.declared.token.Token.{Token}
use Rattle.lua_reading.specs.LuaGrammarDeclaredTokenClassTheVariants.{Eof, Name, Comma, Dots, LeftParen, RightParen, End}
use Rattle.lua_reading.specs.LuaGrammarTokens.{class_at, tok_at, bytes_of}
use Rattle.lua_reading.specs.declared.answer.Reading.{Reading}
use Rattle.lua_parser.specs.declared.params.ParameterList.{ParameterList}
use Rattle.lua_reading.specs.LuaGrammarDeclaredContext.{Context}
use Rattle.lua_syntax.specs.Tree.{Fun, Block, Lambda}
use Rattle.lua_reading.specs.LuaGrammarGrammar.{in_function}
use Rattle.lua_reading.specs.declared.answer.Fault.{Fault}
use Rattle.lua_reading.specs.declared.answer.Fault.TheVariants.{At, NoMemory}
use Rattle.lua_reading.specs.Parsing.{ReadsTree, ReadsFault, Below, HasOneEnd, nothing, block_lang, block_goes}
use Rattle.lua_reading.proofs.pieces.Steps.{Done, Word, Here, Left, here_step, here_fails, word_step, word_fails, follows_word, all_read}
use Rattle.lua_reading.proofs.pieces.Kinds.{params_kind, block_kind}
use Rattle.lua_reading.specs.Answers.{params_lang, params_goes, Parameters, IfFault, ReadsNonEmpty, body_lang, self_first}
use Rattle.lua_parser.specs.Parts.{params_view}
use Rattle.lua_reading.proofs.functions.Bodies.{Params_so_far, params_more, body_tree, body_starts}
use Rattle.lua_reading.proofs.expressions.Exits.{more_after, comma_not_eof, name_not_eof}

pub list_made : (ts : List Token) (i : ℕ) (ns : List (List ℕ)) (d : Bool) (q : ℕ) (r : Reading ParameterList) → r ≡ record { tree = record { names = ns; dots = d }; end = q; height = 0 } → ((a : ℕ) → ReadsTree Parameters ts (params_lang ts) params_goes a i (ns, d) q 0) →
    (a : ℕ) → ReadsTree Parameters ts (params_lang ts) params_goes a i (params_view r.tree) r.end r.height
list_made ts i ns d q r e st a = subst (λ (z : Reading ParameterList). ReadsTree Parameters ts (params_lang ts) params_goes a i (params_view z.tree) z.end z.height) (sym e) (st a)

pub dots_not_end : Dots ≢ Eof
dots_not_end e = cc

pub params_more_read : (ts : List Token) (i : ℕ) (xs ys : List (List ℕ)) (m : ℕ) (x : List ℕ) → HasOneEnd ts → m < length ts → Params_so_far ts i xs m → class_at ts m ≡ Name → class_at ts (m + 1) ≡ Comma → x ≡ bytes_of (tok_at ts m) → ys ≡ xs ++ x ∷ [] →
    (m + 2 < length ts) × Params_so_far ts i ys (m + 2)
params_more_read ts i xs ys m x ended inside l e c xe ye =
    let one : m + 1 < length ts = more_after ts m Name ended inside e name_not_eof in
    let two : m + 1 + 1 < length ts = more_after ts (m + 1) Comma ended one c comma_not_eof in
    (omega (arith, two), params_more ts i xs ys m x l e c xe ye)

-- ---- the body of a function

pub body_no_open : (m : Bool) (ts : List Token) (w : Context) (i : ℕ) → i < length ts → class_at ts i ≢ LeftParen → ReadsFault Fun ts (body_lang m ts w) nothing w.above i 5 i
body_no_open m ts w i inside ne =
    word_fails {r = Here Parameters (params_kind ts) (λ p. Word RightParen (Here Block (block_kind ts (in_function p.1 w)) (λ b. Word End (Done (body_tree m p b)))))} (body_starts m ts w i) (omega arith) inside ne

opened : (m : Bool) (ts : List Token) (w : Context) (i : ℕ) → class_at ts i ≡ LeftParen →
    Left Fun ts (body_lang m ts w) nothing i (Here Parameters (params_kind ts) (λ p. Word RightParen (Here Block (block_kind ts (in_function p.1 w)) (λ b. Word End (Done (body_tree m p b)))))) (i + 1) 0
opened m ts w i e =
    word_step {r = Here Parameters (params_kind ts) (λ p. Word RightParen (Here Block (block_kind ts (in_function p.1 w)) (λ b. Word End (Done (body_tree m p b)))))} (body_starts m ts w i) e

pub body_params_fault : (m : Bool) (ts : List Token) (w : Context) (i : ℕ) (f : Fault) → class_at ts i ≡ LeftParen → IfFault (ReadsFault Parameters ts (params_lang ts) params_goes w.above (i + 1)) f → IfFault (ReadsFault Fun ts (body_lang m ts w) nothing w.above i) f
body_params_fault m ts w i NoMemory e x = tt
body_params_fault m ts w i (At f) e x =
    here_fails {r = λ p. Word RightParen (Here Block (block_kind ts (in_function p.1 w)) (λ b. Word End (Done (body_tree m p b))))} (opened m ts w i e) (omega arith) x
    (λ p. follows_word ts nothing params_goes RightParen (Here Block (block_kind ts (in_function p.1 w)) (λ b. Word End (Done (body_tree m p b)))) refl)

listed : (m : Bool) (ts : List Token) (w : Context) (i : ℕ) (p : Parameters) (q h : ℕ) → class_at ts i ≡ LeftParen → ReadsTree Parameters ts (params_lang ts) params_goes w.above (i + 1) p q h →
    Left Fun ts (body_lang m ts w) nothing i (Word RightParen (Here Block (block_kind ts (in_function p.1 w)) (λ b. Word End (Done (body_tree m p b))))) q (max 0 h)
listed m ts w i p q h e g =
    here_step {r = λ p. Word RightParen (Here Block (block_kind ts (in_function p.1 w)) (λ b. Word End (Done (body_tree m p b))))} (opened m ts w i e) g
    (λ p. follows_word ts nothing params_goes RightParen (Here Block (block_kind ts (in_function p.1 w)) (λ b. Word End (Done (body_tree m p b)))) refl)

pub body_no_close : (m : Bool) (ts : List Token) (w : Context) (i : ℕ) (p : Parameters) (q h : ℕ) → class_at ts i ≡ LeftParen → ReadsTree Parameters ts (params_lang ts) params_goes w.above (i + 1) p q h → class_at ts q ≢ RightParen → ReadsFault Fun ts (body_lang m ts w) nothing w.above i 5 q
body_no_close m ts w i p q h e g ne = word_fails {r = Here Block (block_kind ts (in_function p.1 w)) (λ b. Word End (Done (body_tree m p b)))} (listed m ts w i p q h e g) (omega (arith, g.height)) g.inside ne

closed : (m : Bool) (ts : List Token) (w : Context) (i : ℕ) (p : Parameters) (q h : ℕ) → class_at ts i ≡ LeftParen → ReadsTree Parameters ts (params_lang ts) params_goes w.above (i + 1) p q h → class_at ts q ≡ RightParen →
    Left Fun ts (body_lang m ts w) nothing i (Here Block (block_kind ts (in_function p.1 w)) (λ b. Word End (Done (body_tree m p b)))) (q + 1) (max 0 h)
closed m ts w i p q h e g c = word_step {r = Here Block (block_kind ts (in_function p.1 w)) (λ b. Word End (Done (body_tree m p b)))} (listed m ts w i p q h e g) c

-- The place of the block, as the code has it.
pub inner_at : (ts : List Token) (w v : Context) (d : Bool) (i : ℕ) (b : Block) (q h : ℕ) → v ≡ in_function d w → ReadsTree Block ts (block_lang ts v) block_goes v.above i b q h → ReadsTree Block ts (block_lang ts (in_function d w)) block_goes w.above i b q h
inner_at ts w v d i b q h e g = let P : Context → Type 0 = λ u. ReadsTree Block ts (block_lang ts u) block_goes u.above i b q h in subst P e g

pub body_block_fault : (m : Bool) (ts : List Token) (w v : Context) (i : ℕ) (p : Parameters) (q h : ℕ) (f : Fault) → class_at ts i ≡ LeftParen → ReadsTree Parameters ts (params_lang ts) params_goes w.above (i + 1) p q h → class_at ts q ≡ RightParen → v ≡ in_function p.1 w →
    IfFault (ReadsFault Block ts (block_lang ts v) block_goes v.above (q + 1)) f → IfFault (ReadsFault Fun ts (body_lang m ts w) nothing w.above i) f
body_block_fault m ts w v i p q h NoMemory e g c ve x = tt
body_block_fault m ts w v i p q h (At f) e g c ve x =
    let P : Context → Type 0 = λ u. ReadsFault Block ts (block_lang ts u) block_goes u.above (q + 1) f.kind f.place in
    here_fails {r = λ b. Word End (Done (body_tree m p b))} (closed m ts w i p q h e g c) (omega (arith, g.height)) (subst P ve x) (λ b. follows_word ts nothing block_goes End (Done (body_tree m p b)) refl)

blocked : (m : Bool) (ts : List Token) (w v : Context) (i : ℕ) (p : Parameters) (q h : ℕ) (b : Block) (r k : ℕ) → class_at ts i ≡ LeftParen → ReadsTree Parameters ts (params_lang ts) params_goes w.above (i + 1) p q h → class_at ts q ≡ RightParen → v ≡ in_function p.1 w →
    ReadsTree Block ts (block_lang ts v) block_goes v.above (q + 1) b r k → Left Fun ts (body_lang m ts w) nothing i (Word End (Done (body_tree m p b))) r (max (max 0 h) k)
blocked m ts w v i p q h b r k e g c ve x =
    here_step {r = λ b. Word End (Done (body_tree m p b))} (closed m ts w i p q h e g c) (inner_at ts w v p.1 (q + 1) b r k ve x) (λ b. follows_word ts nothing block_goes End (Done (body_tree m p b)) refl)

pub fun_no_end : (m : Bool) (ts : List Token) (w v : Context) (i : ℕ) (p : Parameters) (q h : ℕ) (b : Block) (r k : ℕ) → class_at ts i ≡ LeftParen → ReadsTree Parameters ts (params_lang ts) params_goes w.above (i + 1) p q h → class_at ts q ≡ RightParen → v ≡ in_function p.1 w →
    ReadsTree Block ts (block_lang ts v) block_goes v.above (q + 1) b r k → class_at ts r ≢ End → ReadsFault Fun ts (body_lang m ts w) nothing w.above i 5 r
fun_no_end m ts w v i p q h b r k e g c ve x ne =
    word_fails {r = Done (body_tree m p b)} (blocked m ts w v i p q h b r k e g c ve x) (omega (arith, g.height, (inner_at ts w v p.1 (q + 1) b r k ve x).height)) x.inside ne

end_not_eof : End ≢ Eof
end_not_eof e = cc

-- Parameters have no nodes.
no_levels : (ts : List Token) (i : ℕ) (p : Parameters) (q h : ℕ) → ((a : ℕ) → ReadsTree Parameters ts (params_lang ts) params_goes a i p q h) → h ≡ 0
no_levels ts i p q h g = let x : h ≤ 201 - 500 = (g 500).height in omega (arith, x)

tree_named : (m : Bool) (p : Parameters) (b : Block) (ns : List (List ℕ)) → ns ≡ self_first m p.0 → Lambda ns p.1 b ≡ body_tree m p b
tree_named false p b ns e = ap (λ (z : List (List ℕ)). Lambda z p.1 b) e
tree_named true p b ns e = ap (λ (z : List (List ℕ)). Lambda z p.1 b) e

pub body_read : (m : Bool) (ts : List Token) (w v : Context) (i : ℕ) (p : Parameters) (q h : ℕ) (b : Block) (r k : ℕ) (ns : List (List ℕ)) (x : Fun) → HasOneEnd ts → class_at ts i ≡ LeftParen → ((a : ℕ) → ReadsTree Parameters ts (params_lang ts) params_goes a (i + 1) p q h) → class_at ts q ≡ RightParen →
    v ≡ in_function p.1 w → ReadsTree Block ts (block_lang ts v) block_goes v.above (q + 1) b r k → class_at ts r ≡ End → ns ≡ self_first m p.0 → x ≡ Lambda ns p.1 b → ReadsNonEmpty Fun ts (body_lang m ts w) nothing w.above i x (r + 1) k
body_read m ts w v i p q h b r k ns x ended e g c ve y end ne xe =
    let zero : h ≡ 0 = no_levels ts (i + 1) p q h g in
    let hh : Below (max (max 0 h) k) w.above = omega (arith, (inner_at ts w v p.1 (q + 1) b r k ve y).height, zero) in
    let same : max (max 0 h) k ≡ k = omega (arith, zero) in
    record {
      grows = omega (arith, (g w.above).ordered, y.ordered);
      reading = subst (λ (z : ℕ). ReadsTree Fun ts (body_lang m ts w) nothing w.above i x (r + 1) z) same
          (subst (λ (z : Fun). ReadsTree Fun ts (body_lang m ts w) nothing w.above i z (r + 1) (max (max 0 h) k)) (sym (tree_named m p b ns ne) ∙ sym xe)
          (all_read (word_step {r = Done (body_tree m p b)} (blocked m ts w v i p q h b r k e (g w.above) c ve y) end) (more_after ts r End ended y.inside end end_not_eof) hh));
    }

pub function_high : (w v : Context) (d : Bool) → v ≡ in_function d w → w.above ≤ 201 → v.above ≤ 201
function_high w v d e h = let P : Context → Type 0 = λ u. u.above ≤ 201 in subst P (sym e) h
