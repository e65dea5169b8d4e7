-- A list of tokens, and so a text, spells one chunk at most.
use Rattle.std.proofs.Common.{◌≡◌, ℕ, zero, suc, pred, ◌+◌, ◌<◌, ◌≤◌, ◌⊎◌, List, length, sym, ap, subst, inl, inr, le_refl, arith, eq-or-lt_of_le}
use Rattle.lua_reading.specs.LuaLexerDeclaredTokenToken.{Token}
use Rattle.lua_reading.specs.LuaLexerLexis.{Lexes}
use Rattle.lua_reading.proofs.LuaLexerLists.{one_list}
use Rattle.lua_reading.specs.LuaGrammarDeclaredTokenClassTheVariants.{Eof}
use Rattle.lua_reading.specs.LuaGrammarDeclaredContext.{Context}
use Rattle.lua_reading.specs.LuaGrammarTokens.{class_at}
use Rattle.lua_reading.specs.LuaSyntaxTree.{Exp, Exps, Fields, Fun, Block, Arms}
use Rattle.lua_reading.specs.LuaGrammarGrammar.{given_tokens, suffix_goes, outside, SpellsChunk, IsChunk}
use Rattle.lua_reading.specs.Parsing.{Stops, nothing, goes_on, exps_goes, names_goes, fields_goes, block_goes, arms_goes, exp_lang, all_lang, args_lang, fields_lang, block_lang, arms_lang, prefix_lang, operand_lang}
use Rattle.lua_reading.specs.Answers.{suffix_lang, body_lang, params_goes, Parameters}
use Rattle.lua_reading.specs.StatAnswers.{more_names_lang}
use Rattle.lua_reading.proofs.statements.SimpleSteps.{more_vars_lang}
use Rattle.lua_reading.proofs.functions.Bodies.{some_lang}
use Rattle.lua_grammar_laws.proofs.Rests.{EndsText, Unique, relax, Sure}
use Rattle.lua_grammar_laws.proofs.Chains.{exp_once, prefix_once}
use Rattle.lua_grammar_laws.proofs.Expressions.{operand_once, primary_once, suffix_once, args_once, all_once}
use Rattle.lua_grammar_laws.proofs.Fields.{fields_once}
use Rattle.lua_grammar_laws.proofs.Bodies.{names_once, some_once, body_once}
use Rattle.lua_grammar_laws.proofs.Statements.{vars_once, stat_once}
use Rattle.lua_grammar_laws.proofs.Blocks.{block_once, arms_once}

-- ---- from the places behind i to i itself

prefix_here : (ts : List Token) (w : Context) (i : ℕ) → EndsText ts → i < length ts → Sure ts (i + 1) → Unique 1 Exp ts (prefix_lang ts w) suffix_goes i
prefix_here ts w i ends lt s = prefix_once ts w i (primary_once ts w i ends lt s) (s.suffix w)

operand_here : (ts : List Token) (w : Context) (i : ℕ) → EndsText ts → i < length ts → Sure ts (i + 1) → Unique 1 Exp ts (operand_lang ts w) nothing i
operand_here ts w i ends lt s = operand_once ts w i ends lt s (prefix_here ts w i ends lt s)

exp_here : (ts : List Token) (w : Context) (l i : ℕ) → l ≤ 7 → EndsText ts → i < length ts → Sure ts (i + 1) → Unique 1 Exp ts (exp_lang ts w l) (goes_on l) i
exp_here ts w l i le ends lt s = exp_once ts w l i le ends lt (operand_here ts w i ends lt s) (s.exp w)

first_here : (ts : List Token) (w : Context) (i : ℕ) → EndsText ts → i < length ts → Sure ts (i + 1) → Unique 1 Exp ts (exp_lang ts w 1) (goes_on 1) i
first_here ts w i ends lt s = exp_here ts w 1 i (omega arith) ends lt s

args_here : (ts : List Token) (w : Context) (i : ℕ) → EndsText ts → i < length ts → Sure ts (i + 1) → Unique 1 Exps ts (args_lang ts w) nothing i
args_here ts w i ends lt s = args_once ts w i ends lt s (operand_here ts w i ends lt s)

block_here : (ts : List Token) (w : Context) (i : ℕ) → EndsText ts → i < length ts → Sure ts (i + 1) → Unique 0 Block ts (block_lang ts w) block_goes i
block_here ts w i ends lt s = block_once ts w i ends lt s (stat_once ts w i ends lt s (prefix_here ts w i ends lt s))

-- A fact of all places from p on is one of p and one of the places behind it.
from_place : (P : ℕ → Type 0) (n p m : ℕ) → p ≤ m → m < n → (p < n → P p) → (p + 1 ≤ m → m < n → P m) → P m
from_place P n p m lo lt here later = go (eq-or-lt_of_le lo)
  where
    go : (p ≡ m) ⊎ (p < m) → P m
    go (inl e) = subst P e (here (omega (arith, e, lt)))
    go (inr l) = later (omega (arith, l)) lt

sure_here : (ts : List Token) (p : ℕ) → EndsText ts → Sure ts (p + 1) → Sure ts p
sure_here ts p ends s = record {
  exp = λ w l le m lo lt. from_place (λ q. Unique 0 Exp ts (exp_lang ts w l) (goes_on l) q) (length ts) p m lo lt (λ i. relax (exp_here ts w l p le ends i s)) (s.exp w l le m);
  prefix = λ w m lo lt. from_place (λ q. Unique 1 Exp ts (prefix_lang ts w) suffix_goes q) (length ts) p m lo lt (λ i. prefix_here ts w p ends i s) (s.prefix w m);
  suffix = λ w left m lo lt. from_place (λ q. Unique 1 Exp ts (suffix_lang ts w left) nothing q) (length ts) p m lo lt (λ i. suffix_once ts w left p ends i s (args_here ts w p ends i s)) (s.suffix w left m);
  args = λ w m lo lt. from_place (λ q. Unique 0 Exps ts (args_lang ts w) nothing q) (length ts) p m lo lt (λ i. relax (args_here ts w p ends i s)) (s.args w m);
  all = λ w m lo lt. from_place (λ q. Unique 0 Exps ts (all_lang ts w) exps_goes q) (length ts) p m lo lt (λ i. relax (all_once ts w p ends i s (first_here ts w p ends i s))) (s.all w m);
  vars = λ w m lo lt. from_place (λ q. Unique 0 Exps ts (more_vars_lang ts w) names_goes q) (length ts) p m lo lt (λ i. vars_once ts w p ends i s) (s.vars w m);
  fields = λ w m lo lt. from_place (λ q. Unique 0 Fields ts (fields_lang ts w) fields_goes q) (length ts) p m lo lt (λ i. fields_once ts w p ends i s (first_here ts w p ends i s)) (s.fields w m);
  names = λ m lo lt. from_place (λ q. Unique 0 (List (List ℕ)) ts (more_names_lang ts) names_goes q) (length ts) p m lo lt (λ i. names_once ts p ends i s) (s.names m);
  some = λ m lo lt. from_place (λ q. Unique 0 Parameters ts (some_lang ts) params_goes q) (length ts) p m lo lt (λ i. relax (some_once ts p ends i s)) (s.some m);
  body = λ method w m lo lt. from_place (λ q. Unique 0 Fun ts (body_lang method ts w) nothing q) (length ts) p m lo lt (λ i. relax (body_once method ts w p ends i s)) (s.body method w m);
  block = λ w m lo lt. from_place (λ q. Unique 0 Block ts (block_lang ts w) block_goes q) (length ts) p m lo lt (λ i. block_here ts w p ends i s) (s.block w m);
  arms = λ w m lo lt. from_place (λ q. Unique 0 Arms ts (arms_lang ts w) arms_goes q) (length ts) p m lo lt (λ i. relax (arms_once ts w p ends i s (first_here ts w p ends i s))) (s.arms w m);
}

-- ---- all places

-- Behind the last token nothing stands.
sure_behind : (ts : List Token) (p : ℕ) → length ts ≤ p → Sure ts p
sure_behind ts p le = record {
  exp = λ w l le7 m lo lt. absurd (omega (arith, le, lo, lt));
  prefix = λ w m lo lt. absurd (omega (arith, le, lo, lt));
  suffix = λ w left m lo lt. absurd (omega (arith, le, lo, lt));
  args = λ w m lo lt. absurd (omega (arith, le, lo, lt));
  all = λ w m lo lt. absurd (omega (arith, le, lo, lt));
  vars = λ w m lo lt. absurd (omega (arith, le, lo, lt));
  fields = λ w m lo lt. absurd (omega (arith, le, lo, lt));
  names = λ m lo lt. absurd (omega (arith, le, lo, lt));
  some = λ m lo lt. absurd (omega (arith, le, lo, lt));
  body = λ method w m lo lt. absurd (omega (arith, le, lo, lt));
  block = λ w m lo lt. absurd (omega (arith, le, lo, lt));
  arms = λ w m lo lt. absurd (omega (arith, le, lo, lt));
}

sure : (ts : List Token) → EndsText ts → (d p : ℕ) → length ts ≤ p + d → Sure ts p
sure ts ends zero p le = sure_behind ts p (omega (arith, le))
sure ts ends (suc d) p le = sure_here ts p ends (sure ts ends d (p + 1) (omega (arith, le)))

-- ---- chunks

-- Tokens that spell a chunk end with the end.
chunk_ends : (ts : List Token) (b : Block) (k : ℕ) → SpellsChunk (given_tokens ts (length ts) k) b (length ts) → EndsText ts
unfolding SpellsChunk
chunk_ends ts b k d =
    let at : d.0 ≡ pred (length ts) = ap pred (sym d.2.1) in
    subst (λ (y : ℕ). class_at ts y ≡ Eof) at (d.2.0 (omega (arith, d.2.1)))

-- The grammar alone spells one chunk at most, where each numeral has its value.
pub one_chunk : (ts : List Token) (b c : Block) → SpellsChunk (given_tokens ts (length ts) 6) b (length ts) → SpellsChunk (given_tokens ts (length ts) 6) c (length ts) → b ≡ c
unfolding SpellsChunk
one_chunk ts b c dx dy =
    let whole = (sure ts (chunk_ends ts b 6 dx) (length ts) 0 (omega arith)).block outside 0 (le_refl 0) (omega (arith, dx.2.1)) in
    (whole.same b c 0 0 dx.0 dy.0 dx.1 (stops dx.0 dx.2.0) dy.1 (stops dy.0 dy.2.0)).0
  where
    stops : (j : ℕ) → (j < length ts → class_at ts j ≡ Eof) → Stops ts block_goes (length ts) j
    stops j e lt = ap block_goes (e lt)

pub spelled_once : (ts : List Token) (b c : Block) → IsChunk ts b → IsChunk ts c → b ≡ c
unfolding IsChunk
spelled_once ts b c x y = one_chunk ts b c (x 6) (y 6)

pub text_spelled_once : (text : List ℕ) (ts us : List Token) (b c : Block) → Lexes text ts → Lexes text us → IsChunk ts b → IsChunk us c → b ≡ c
text_spelled_once text ts us b c h k x y =
    let same : us ≡ ts = sym (one_list text h.0 k.0 0 1 ts us h.1 k.1) in
    spelled_once ts b c x (subst (λ (v : List Token). IsChunk v c) same y)
