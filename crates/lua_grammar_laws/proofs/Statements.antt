-- Statements are unique where what they are made of is unique behind their first token.
use Rattle.std.proofs.Common.{◌≡◌, ◌≢◌, ℕ, suc, ◌∷◌, ◌+◌, ◌<◌, ◌≤◌, Bool, false, List, length, refl, sym, ap, subst, ◌∙◌, inl, inr, le_refl, arith, true≢false}
use Rattle.lua_reading.specs.LuaLexerDeclaredTokenToken.{Token}
use Rattle.lua_reading.specs.LuaGrammarDeclaredTokenClass.{TokenClass}
use Rattle.lua_reading.specs.LuaGrammarDeclaredTokenClassTheVariants.{Name, Break, Do, End, For, Function, If, In, Local, Repeat, Return, Until, While, Assign, Comma, LeftParen}
use Rattle.lua_reading.specs.LuaGrammarDeclaredContext.{Context}
use Rattle.lua_reading.specs.LuaGrammarTokens.{class_at, tok_at}
use Rattle.lua_reading.specs.LuaSyntaxTree.{Exp, Exps, Fun, Block, Stat, NameE, IndexE, NoExp, MoreExp, CountS, CountByS, EachS, LocalS, ReturnS, BreakS}
use Rattle.lua_reading.specs.LuaGrammarGrammar.{given_tokens, in_loop, MoreExps, SpellsStat, suffix_goes}
use Rattle.lua_reading.specs.Parsing.{Stops, high, prefix_lang, stat_lang, nothing, goes_on, exps_goes, names_goes, stat_goes, last_goes, block_goes, arms_goes, goes_after}
use Rattle.lua_reading.specs.StatAnswers.{head_goes, Opening, do_lang}
use Rattle.lua_reading.proofs.pieces.Steps.{Rest, Done, Word, Named, Here, Under, Either, Reads, follows_word, follows_done, follows_either, follows_nothing}
use Rattle.lua_reading.proofs.pieces.Kinds.{exp_kind, all_kind}
use Rattle.lua_reading.proofs.lists.Names.{more_names_kind, do_left, follows_do}
use Rattle.lua_reading.proofs.statements.Begins.{Starts, stat_begins, all_begins, var_prefix}
use Rattle.lua_reading.proofs.statements.Split.{do_starts, while_starts, repeat_starts, return_starts, return_rest}
use Rattle.lua_reading.proofs.statements.Forms.{local_starts, local_rest, for_starts, for_rest, count_rest, each_rest, loop_rest, last_rest, if_starts, if_rest}
use Rattle.lua_reading.proofs.statements.PlainExits.{stat_exp, last_exps}
use Rattle.lua_reading.proofs.statements.FormExits.{stat_names, stat_exps}
use Rattle.lua_reading.proofs.statements.ForExits.{each_closed}
use Rattle.lua_reading.proofs.statements.Arms.{if_follows}
use Rattle.lua_reading.proofs.statements.Blocks.{begins_stat, stat_starts}
use Rattle.lua_reading.proofs.statements.SimpleSteps.{Choice, simples, targets, chosen_lang, chosen_kind, relevel, prefix_ends, more_vars_lang, more_vars_kind, behind_simple, simple_starts}
use Rattle.lua_reading.proofs.functions.NamedSteps.{named_starts, named_rest, body_follows, deeper_lang}
use Rattle.lua_grammar_laws.proofs.Rests.{EndsText, next_token, Unique, relax, Apart, Sound, alike, words_apart, done_apart, from_left, from_under, from_word, from_token, Sure}
use Rattle.lua_grammar_laws.proofs.Bodies.{head_once}

-- ---- targets

-- A prefix expression of some class, which has ended.
chosen_once : (c : Choice) (ts : List Token) (w : Context) (i : ℕ) → Unique 1 Exp ts (prefix_lang ts w) suffix_goes i → Unique 1 Exp ts (chosen_lang c ts w) nothing i
chosen_once c ts w i u = record { same = λ x y b d j k dx sx dy sy. u.same x y b d j k (is x b j dx) (stops x b j dx) (is y d k dy) (stops y d k dy) }
  where
    stops : (x : Exp) (b j : ℕ) → chosen_lang c ts w x b (length ts) 6 i j → Stops ts suffix_goes (length ts) j
    stops x b j d = prefix_ends ts (length ts) 6 (high w b) 9 x i j (le_refl 9) (c.prefix x d.0) d.1

    is : (x : Exp) (b j : ℕ) → chosen_lang c ts w x b (length ts) 6 i j → prefix_lang ts w x b (length ts) 6 i j
    is x b j d = (c.prefix x d.0, relevel ts (length ts) 6 (high w b) 9 10 x i j (c.prefix x d.0) d.1 (stops x b j d))

-- What is left behind a first comma.
abbrev vars_behind : List Token → Context → Rest Exps
vars_behind ts w = Here Exp (chosen_kind targets ts w) (λ e. Here Exps (more_vars_kind ts w) (λ es. Done (MoreExp e es)))

vars_split : (ts : List Token) (w : Context) (i : ℕ) (x : Exps) (b j : ℕ) → more_vars_lang ts w x b (length ts) 6 i j → Reads ts (Either (Done NoExp) (Word Comma (vars_behind ts w))) x b (length ts) 6 i j
unfolding MoreExps
vars_split ts w i NoExp b j (v, d) = inl (refl, d)
vars_split ts w i (MoreExp e es) b j (v, d) =
    let q = var_prefix e v.0 in
    inr (d.0, d.1, (e, d.2.0, (v.0, relevel ts (length ts) 6 (high w b) 1 9 e d.0 d.2.0 q d.2.1 (prefix_ends ts (length ts) 6 (high w b) 1 e d.0 d.2.0 (omega arith) q d.2.1)), (es, j, (v.1, d.2.2), (refl, refl))))

vars_end : (ts : List Token) (i j : ℕ) → i < length ts → i ≡ j → Stops ts names_goes (length ts) j → class_at ts i ≡ Comma → ⊥
vars_end ts i j lt e st here =
    let P : ℕ → Type 0 = λ v. v < length ts → names_goes (class_at ts v) ≡ false in
    true≢false (sym (ap names_goes here) ∙ subst P (sym e) st lt)

pub vars_once : (ts : List Token) (w : Context) (i : ℕ) → EndsText ts → i < length ts → Sure ts (i + 1) → Unique 0 Exps ts (more_vars_lang ts w) names_goes i
vars_once ts w i ends lt s = record { same = λ x y b c j k dx sx dy sy. go x y b c j k sx sy (vars_split ts w i x b j dx) (vars_split ts w i y c k dy) }
  where
    Split : Exps → ℕ → ℕ → Type 0
    Split x b j = Reads ts (Either (Done NoExp) (Word Comma (vars_behind ts w))) x b (length ts) 6 i j

    sound : Sound ts names_goes (i + 1) (vars_behind ts w)
    sound = (nothing, (λ m lo l. relax (chosen_once targets ts w m (s.prefix w m lo l))), (λ e. follows_nothing ts names_goes _), λ e. (names_goes, s.vars w, (λ es. follows_done ts names_goes names_goes _ (λ v z. z)), λ es. tt))

    go : (x y : Exps) (b c j k : ℕ) → Stops ts names_goes (length ts) j → Stops ts names_goes (length ts) k → Split x b j → Split y c k → (x ≡ y) × (j ≡ k) × (0 + i ≤ j) × (j < length ts)
    go x y b c j k sx sy (inl u) (inl v) = (u.0 ∙ sym v.0, sym u.1 ∙ v.1, omega (arith, u.1), omega (arith, u.1, lt))
    go x y b c j k sx sy (inl u) (inr v) = absurd (vars_end ts i j lt u.1 sx (v.1.0 lt))
    go x y b c j k sx sy (inr u) (inl v) = absurd (vars_end ts i k lt v.1 sy (u.1.0 lt))
    go x y b c j k sx sy (inr u) (inr v) =
        let inside = next_token ts i Comma ends lt (u.1.0 lt) refl in
        let z = alike ts names_goes (i + 1) (vars_behind ts w) ends sound (suc i) (omega arith) (omega (arith, inside)) x y b c j k
        (subst (λ (q : ℕ). Reads ts (vars_behind ts w) x b (length ts) 6 q j) u.1.1 u.2) sx (subst (λ (q : ℕ). Reads ts (vars_behind ts w) y c (length ts) 6 q k) v.1.1 v.2) sy in
        (z.0, z.1, omega (arith, z.2), z.3)

-- ---- what is left of each statement

-- do block end
do_once : (ts : List Token) (w : Context) (p m : ℕ) → EndsText ts → Sure ts p → p ≤ m → m < length ts → Unique 0 Block ts (do_lang ts w) nothing m
do_once ts w p m ends s lo lt =
    relax (from_word ends (do_left ts w m) lt refl (block_goes, (λ q lo2 l. s.block w q (omega (arith, lo, lo2)) l), (λ k. follows_word ts nothing block_goes End _ refl), λ k. (refl, tt)))

loop_sound : (ts : List Token) (w : Context) (goes : TokenClass → Bool) (p : ℕ) (of : Block → Stat) → EndsText ts → Sure ts p → Sound ts goes p (loop_rest ts w of)
loop_sound ts w goes p of ends s = (nothing, (λ m lo l. do_once ts (in_loop w) p m ends s lo l), (λ k. follows_nothing ts goes _), λ k. tt)

last_sound : (ts : List Token) (w : Context) (goes : TokenClass → Bool) (p line : ℕ) (x : List ℕ) (a c : Exp) → EndsText ts → Sure ts p → Sound ts goes p (last_rest ts w line x a c)
last_sound ts w goes p line x a c ends s = (
  apart,
  loop_sound ts w goes p (CountS line x a c) ends s,
  (refl, (goes_on 1, s.exp w 1 (omega arith), (λ by. follows_do ts goes (goes_on 1) (in_loop w) (λ k. Done (CountByS line x a c by k)) refl), λ by. loop_sound ts w goes p (CountByS line x a c by) ends s)),
)
  where
    apart : Apart Stat ts goes p (loop_rest ts w (CountS line x a c)) (Word Comma (Under Exp (exp_kind ts w 1) (λ by. loop_rest ts w (CountByS line x a c by))))
    apart = record { shut = λ m lo lt u v b d j k dx sx dy sy. let q : Do ≡ Comma = sym (dx.2.1.0 lt) ∙ dy.1.0 lt in cc }

count_sound : (ts : List Token) (w : Context) (goes : TokenClass → Bool) (p line : ℕ) (x : List ℕ) → EndsText ts → Sure ts p → Sound ts goes p (count_rest ts w line x)
count_sound ts w goes p line x ends s = (
  refl,
  (
    goes_on 1,
    s.exp w 1 (omega arith),
    (λ a. follows_word ts goes (goes_on 1) Comma _ refl),
    λ a. (
      refl,
      (
        goes_on 1,
        s.exp w 1 (omega arith),
        (λ c. follows_either ts goes (goes_on 1) (loop_rest ts w (CountS line x a c)) (Word Comma (Under Exp (exp_kind ts w 1) (λ by. loop_rest ts w (CountByS line x a c by))))
            (follows_do ts goes (goes_on 1) (in_loop w) (λ k. Done (CountS line x a c k)) refl) (follows_word ts goes (goes_on 1) Comma _ refl)),
        λ c. last_sound ts w goes p line x a c ends s,
      ),
    ),
  ),
)

each_sound : (ts : List Token) (w : Context) (goes : TokenClass → Bool) (p line : ℕ) (xs : List (List ℕ)) → EndsText ts → Sure ts p → Sound ts goes p (each_rest ts w line xs)
each_sound ts w goes p line xs ends s =
    (refl, (exps_goes, s.all w, (λ es. follows_do ts goes exps_goes (in_loop w) (λ k. Done (EachS line xs es k)) refl), λ es. loop_sound ts w goes p (EachS line xs es) ends s))

for_sound : (ts : List Token) (w : Context) (goes : TokenClass → Bool) (p line : ℕ) → EndsText ts → Sure ts p → Sound ts goes p (for_rest ts w line)
for_sound ts w goes p line ends s = (
  refl,
  λ x. (
    apart x,
    count_sound ts w goes p line x ends s,
    (names_goes, s.names, (λ xs. follows_word ts goes names_goes In _ refl), λ xs. each_sound ts w goes p line (x ∷ xs) ends s),
  ),
)
  where
    apart : (x : List ℕ) → Apart Stat ts goes p (count_rest ts w line x) (Here (List (List ℕ)) (more_names_kind ts) (λ xs. each_rest ts w line (x ∷ xs)))
    apart x = record { shut = λ m lo lt u v b c j k dx sx dy sy. each_closed ts w goes line m x (dx.1.0 lt) v c (length ts) 6 k lt dy sy }

-- A word, or a name.
word_named_apart : {S : Type 0} {ts : List Token} {goes : TokenClass → Bool} {p : ℕ} {w v : TokenClass} {r : Rest S} {s : List ℕ → Rest S} → w ≢ v → Apart S ts goes p (Word w r) (Named v s)
word_named_apart ne = record { shut = λ m lo lt x y b c j k dx sx dy sy. ne (sym (dx.1.0 lt) ∙ (dy.2.0 lt).0) }

local_sound : (ts : List Token) (w : Context) (p line : ℕ) → Sure ts p → Sound ts stat_goes p (local_rest ts w line)
local_sound ts w p line s = (
  word_named_apart (λ e. cc),
  (refl, (refl, λ x. (nothing, s.body false w, (λ v. follows_nothing ts stat_goes _), λ v. tt))),
  (
    refl,
    λ x. (
      names_goes,
      s.names,
      (λ xs. follows_either ts stat_goes names_goes (Done (LocalS line (x ∷ xs) NoExp)) (Word Assign (Under Exps (all_kind ts w) (λ es. Done (LocalS line (x ∷ xs) es))))
          (follows_done ts stat_goes names_goes _ stat_names) (follows_word ts stat_goes names_goes Assign _ refl)),
      λ xs. (done_apart refl, tt, (refl, (exps_goes, s.all w, (λ es. follows_done ts stat_goes exps_goes _ stat_exps), λ es. tt))),
    ),
  ),
)

if_sound : (ts : List Token) (w : Context) (p line : ℕ) → Sure ts p → Sound ts stat_goes p (if_rest ts w line)
if_sound ts w p line s = (
  arms_goes,
  s.arms w,
  if_follows ts w stat_goes line,
  λ a. (words_apart (λ e. cc), (refl, tt), (refl, (block_goes, s.block w, (λ k. follows_word ts stat_goes block_goes End _ refl), λ k. (refl, tt)))),
)

-- `return` alone, or with expressions.
return_sound : (ts : List Token) (w : Context) (p line : ℕ) → Sure ts p → Sound ts last_goes p (return_rest ts w line)
return_sound ts w p line s = (apart, tt, (exps_goes, s.all w, (λ es. follows_done ts last_goes exps_goes _ last_exps), λ es. tt))
  where
    apart : Apart Stat ts last_goes p (Done (ReturnS line NoExp)) (Under Exps (all_kind ts w) (λ es. Done (ReturnS line es)))
    apart = record {
      shut = λ m lo lt u v b c j k dx sx dy sy.
          let P : ℕ → Type 0 = λ q. q < length ts → last_goes (class_at ts q) ≡ false in
          true≢false (sym (all_begins ts (length ts) 6 (high w (suc c)) dy.0 m dy.1 dy.2 lt) ∙ subst P (sym dx.1) sx lt);
    }

-- A variable goes on as an assignment, a call is whole.
simple_sound : (ts : List Token) (w : Context) (p line : ℕ) → Sure ts p → (x : Exp) → Sound ts stat_goes p (behind_simple ts w line x)
simple_sound ts w p line s (NameE l x) =
    (names_goes, s.vars w, (λ xs. follows_word ts stat_goes names_goes Assign _ refl), λ xs. (refl, (exps_goes, s.all w, (λ es. follows_done ts stat_goes exps_goes _ stat_exps), λ es. tt)))
simple_sound ts w p line s (IndexE l t k) =
    (names_goes, s.vars w, (λ xs. follows_word ts stat_goes names_goes Assign _ refl), λ xs. (refl, (exps_goes, s.all w, (λ es. follows_done ts stat_goes exps_goes _ stat_exps), λ es. tt)))
simple_sound ts w p line s e = tt

named_sound : (ts : List Token) (w : Context) (p line : ℕ) → EndsText ts → Sure ts p → Sound ts stat_goes p (named_rest ts w line)
named_sound ts w p line ends s =
    (head_goes, (λ m lo lt. relax (head_once ts w m ends lt)), body_follows ts w stat_goes line, λ h. (nothing, deeper h.1, (λ v. follows_nothing ts stat_goes _), λ v. tt))
  where
    deeper : (method : Bool) (m : ℕ) → p ≤ m → m < length ts → Unique 0 Fun ts (deeper_lang method ts w) nothing m
    deeper method m lo lt = record { same = λ x y b c. (s.body method w m lo lt).same x y (suc b) (suc c) }

break_is : (ts : List Token) (w : Context) (i : ℕ) → i < length ts → class_at ts i ≡ Break → (x : Stat) (b j : ℕ) → stat_lang ts w x b (length ts) 6 i j → (x ≡ BreakS (tok_at ts i).line) × (j ≡ suc i)
unfolding SpellsStat
break_is ts w i lt e x b j d = go x (subst (λ (v : TokenClass). Starts x v) e (stat_begins ts (length ts) 6 (high w b) x i j d lt)) d
  where
    go : (x : Stat) → Starts x Break → SpellsStat (given_tokens ts (length ts) 6) (high w b) x i j → (x ≡ BreakS (tok_at ts i).line) × (j ≡ suc i)
    go (BreakS l) y z = (ap BreakS z.1.0, z.2.2 ∙ ap suc (sym z.1.2))
    go x y z = absurd y

-- ---- a statement

simple_once : (ts : List Token) (w : Context) (i : ℕ) → EndsText ts → i < length ts → Opening (class_at ts i) → Sure ts (i + 1) → Unique 1 Exp ts (prefix_lang ts w) suffix_goes i → Unique 1 Stat ts (stat_lang ts w) stat_goes i
simple_once ts w i ends lt o s prefix =
    from_under nothing ends (simple_starts ts w stat_goes i o) lt (chosen_once simples ts w i prefix) (λ x. follows_nothing ts stat_goes _) (simple_sound ts w (i + 1) (tok_at ts i).line s)

-- A statement, where a prefix expression at its place is unique.
stat_at : (ts : List Token) (w : Context) (i : ℕ) → EndsText ts → i < length ts → Sure ts (i + 1) → Unique 1 Exp ts (prefix_lang ts w) suffix_goes i → (v : TokenClass) → class_at ts i ≡ v → Unique 1 Stat ts (stat_lang ts w) (goes_after v) i
stat_at ts w i ends lt s prefix Do e =
    from_left ends (do_starts ts w stat_goes i e) (next_token ts i Do ends lt e refl) (omega arith) (block_goes, s.block w, (λ k. follows_word ts stat_goes block_goes End _ refl), λ k. (refl, tt))
stat_at ts w i ends lt s prefix While e =
    from_left ends (while_starts ts w stat_goes i e) (next_token ts i While ends lt e refl) (omega arith)
    (goes_on 1, s.exp w 1 (omega arith), (λ x. follows_word ts stat_goes (goes_on 1) Do _ refl), λ x. (refl, (block_goes, s.block (in_loop w), (λ k. follows_word ts stat_goes block_goes End _ refl), λ k. (refl, tt))))
stat_at ts w i ends lt s prefix Repeat e =
    from_left ends (repeat_starts ts w stat_goes i e) (next_token ts i Repeat ends lt e refl) (omega arith)
    (block_goes, s.block (in_loop w), (λ k. follows_word ts stat_goes block_goes Until _ refl), λ k. (refl, (goes_on 1, s.exp w 1 (omega arith), (λ x. follows_done ts stat_goes (goes_on 1) _ stat_exp), λ x. tt)))
stat_at ts w i ends lt s prefix If e = from_left ends (if_starts ts w stat_goes i e) (next_token ts i If ends lt e refl) (omega arith) (if_sound ts w (i + 1) (tok_at ts i).line s)
stat_at ts w i ends lt s prefix For e = from_left ends (for_starts ts w stat_goes i e) (next_token ts i For ends lt e refl) (omega arith) (for_sound ts w stat_goes (i + 1) (tok_at ts i).line ends s)
stat_at ts w i ends lt s prefix Local e = from_left ends (local_starts ts w stat_goes i e) (next_token ts i Local ends lt e refl) (omega arith) (local_sound ts w (i + 1) (tok_at ts i).line s)
stat_at ts w i ends lt s prefix Return e = from_left ends (return_starts ts w last_goes i e) (next_token ts i Return ends lt e refl) (omega arith) (return_sound ts w (i + 1) (tok_at ts i).line s)
stat_at ts w i ends lt s prefix Break e = from_token (BreakS (tok_at ts i).line) (next_token ts i Break ends lt e refl) (break_is ts w i lt e)
stat_at ts w i ends lt s prefix Function e = from_left ends (named_starts ts w stat_goes i e) (next_token ts i Function ends lt e refl) (omega arith) (named_sound ts w (i + 1) (tok_at ts i).line ends s)
stat_at ts w i ends lt s prefix Name e = simple_once ts w i ends lt (subst Opening (sym e) tt) s prefix
stat_at ts w i ends lt s prefix LeftParen e = simple_once ts w i ends lt (subst Opening (sym e) tt) s prefix
stat_at ts w i ends lt s prefix v e = record {
  same = λ x y b c j k dx sx dy sy. absurd (true≢false (sym (stat_starts x (class_at ts i) (stat_begins ts (length ts) 6 (high w b) x i j dx lt)) ∙ ap begins_stat e));
}

pub stat_once : (ts : List Token) (w : Context) (i : ℕ) → EndsText ts → i < length ts → Sure ts (i + 1) → Unique 1 Exp ts (prefix_lang ts w) suffix_goes i → Unique 1 Stat ts (stat_lang ts w) (goes_after (class_at ts i)) i
stat_once ts w i ends lt s prefix = stat_at ts w i ends lt s prefix (class_at ts i) refl
