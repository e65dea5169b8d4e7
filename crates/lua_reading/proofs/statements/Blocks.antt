-- The statements of a block.
use Rattle.std.proofs.Common.{◌≡◌, ◌≢◌, ℕ, [], ◌∷◌, ◌++◌, ◌-◌, ◌<◌, ◌≤◌, ◌⊎◌, max, Bool, true, false, List, length, refl, sym, ap, subst, ◌∙◌, inl, inr, arith, true≢false}
use Rattle.lua_lexer.specs.declared.token.Token.{Token}
use Rattle.lua_syntax.specs.declared.Stat.{Stat as StatNode}
use Rattle.lua_grammar.specs.declared.TokenClass.{TokenClass}
use Rattle.lua_grammar.specs.declared.TokenClass.TheVariants.{Name, Break, Do, Else, Elseif, End, Eof, For, Function, If, Local, Repeat, Return, Until, While, LeftParen, Semicolon}
use Rattle.lua_grammar.specs.declared.Context.{Context}
use Rattle.lua_grammar.specs.Tokens.{class_at}
use Rattle.lua_syntax.specs.Tree.{Block, Stat, NoStat, MoreStat, AssignS, CallS, DoS, WhileS, RepeatS, IfS, IfElseS, CountS, CountByS, EachS, LocalFunctionS, LocalS, ReturnS, BreakS}
use Rattle.lua_grammar.specs.Grammar.{given_tokens, word, SpellsBlock, SpellsStat, IsLast, IsEmpty}
use Rattle.lua_syntax.specs.View.{stat_view, stats_view}
use Rattle.lua_reading.specs.declared.answer.Fault.{Fault}
use Rattle.lua_reading.specs.Parsing.{Stops, ReadsTree, ReadsFault, high, stat_lang, block_lang, block_goes, stat_goes, last_goes, goes_after}
use Rattle.lua_reading.specs.Answers.{IfFault, ReadsNonEmpty}
use Rattle.lua_reading.specs.StatAnswers.{Behind, closing, Opening}
use Rattle.lua_reading.proofs.pieces.Steps.{Rest, Done, Word, Here, Either, Reads, Left, Follows, Closed, word_step, here_step, first_way, second_way, word_closed, done_closed, all_read, follows_word, follows_either, unexpected}
use Rattle.lua_reading.proofs.pieces.Kinds.{block_kind, stat_kind, stat_opens}
use Rattle.lua_reading.proofs.statements.Begins.{Starts, Beginning, stat_begins}
use Rattle.lua_reading.proofs.lists.Names.{same_rest, start, at_place}
use Rattle.lua_reading.proofs.statements.FormExits.{here_fault}

-- ---- first words

abbrev pub IsWord : TokenClass → Type 0
IsWord s = (block_goes s ≡ true) × (stat_goes s ≡ false)

pub opening_word : (s : TokenClass) → Opening s → IsWord s
opening_word Name x = (refl, refl)
opening_word LeftParen x = (refl, refl)
opening_word s x = absurd x

pub beginning_word : (s : TokenClass) → Beginning s → IsWord s
beginning_word Function x = (refl, refl)
beginning_word Name x = (refl, refl)
beginning_word LeftParen x = (refl, refl)
beginning_word s x = absurd x

-- A block goes on with the first word of a statement, and no statement does.
pub stat_word : (x : Stat) (s : TokenClass) → Starts x s → IsWord s
stat_word (AssignS l xs es) s y = beginning_word s y
stat_word (CallS l e) s y = opening_word s y
stat_word (DoS l b) Do y = (refl, refl)
stat_word (DoS l b) s y = absurd y
stat_word (WhileS l e b) While y = (refl, refl)
stat_word (WhileS l e b) s y = absurd y
stat_word (RepeatS l b e) Repeat y = (refl, refl)
stat_word (RepeatS l b e) s y = absurd y
stat_word (IfS l as') If y = (refl, refl)
stat_word (IfS l as') s y = absurd y
stat_word (IfElseS l as' b) If y = (refl, refl)
stat_word (IfElseS l as' b) s y = absurd y
stat_word (CountS l x a b c) For y = (refl, refl)
stat_word (CountS l x a b c) s y = absurd y
stat_word (CountByS l x a b by c) For y = (refl, refl)
stat_word (CountByS l x a b by c) s y = absurd y
stat_word (EachS l xs es b) For y = (refl, refl)
stat_word (EachS l xs es b) s y = absurd y
stat_word (LocalFunctionS l x v) Local y = (refl, refl)
stat_word (LocalFunctionS l x v) s y = absurd y
stat_word (LocalS l xs es) Local y = (refl, refl)
stat_word (LocalS l xs es) s y = absurd y
stat_word (ReturnS l es) Return y = (refl, refl)
stat_word (ReturnS l es) s y = absurd y
stat_word (BreakS l) Break y = (refl, refl)
stat_word (BreakS l) s y = absurd y

pub not_semicolon : (x : Stat) → Starts x Semicolon → ⊥
not_semicolon (ReturnS l es) y = absurd y
not_semicolon x y = absurd y

-- ---- what may end a block

abbrev pub ends_with : TokenClass → Stat → Bool
ends_with first (ReturnS l es) = true
ends_with first (BreakS l) = true
ends_with first x = closing first

pub same_end : (x : Stat) (first : TokenClass) → Starts x first → ends_with first x ≡ closing first
same_end (ReturnS l es) Return y = refl
same_end (ReturnS l es) s y = absurd y
same_end (BreakS l) Break y = refl
same_end (BreakS l) s y = absurd y
same_end x s y = refl

pub is_last : (x : Stat) (first : TokenClass) → Starts x first → ends_with first x ≡ true → IsLast x
is_last (ReturnS l es) s y e = tt
is_last (BreakS l) s y e = tt
is_last x Return y e = absurd y
is_last x Break y e = absurd y
is_last x s y e = absurd (true≢false (sym e))

pub not_last : (x : Stat) (first : TokenClass) → ends_with first x ≡ false → IsLast x → ⊥
not_last (ReturnS l es) s e y = true≢false e
not_last (BreakS l) s e y = true≢false e
not_last x s e y = absurd y

pub return_ends_with : (x : Stat) → ends_with Return x ≡ true
return_ends_with (ReturnS l es) = refl
return_ends_with (BreakS l) = refl
return_ends_with x = refl

-- these statements, and then a block
abbrev pub add_stats : List StatNode → Block → Block
add_stats [] b = b
add_stats (s ∷ ss) b = MoreStat (stat_view s) (add_stats ss b)

pub add_one_stat : (xs : List StatNode) (x : StatNode) (b : Block) → add_stats (xs ++ x ∷ []) b ≡ add_stats xs (MoreStat (stat_view x) b)
add_one_stat [] x b = refl
add_one_stat (y ∷ ys) x b = ap (λ (z : Block). MoreStat (stat_view y) z) (add_one_stat ys x b)

pub all_stats : (xs : List StatNode) → stats_view xs ≡ add_stats xs NoStat
all_stats [] = refl
all_stats (x ∷ xs) = ap (λ (z : Block). MoreStat (stat_view x) z) (all_stats xs)

abbrev pub behind_stat : List Token → Context → List StatNode → Stat → Bool → Rest Block
behind_stat ts w xs s true = Done (add_stats xs (MoreStat s NoStat))
behind_stat ts w xs s false = Here Block (block_kind ts w) (λ b. Done (add_stats xs (MoreStat s b)))

abbrev pub stat_end : List Token → Context → List StatNode → TokenClass → Stat → Rest Block
stat_end ts w xs first s = Either (Word Semicolon (behind_stat ts w xs s (ends_with first s))) (behind_stat ts w xs s (ends_with first s))

abbrev pub stat_rest : List Token → Context → List StatNode → TokenClass → Rest Block
stat_rest ts w xs first = Here Stat (stat_kind ts w first) (stat_end ts w xs first)

abbrev pub block_rest : List Token → Context → List StatNode → Rest Block
block_rest ts w xs = Here Block (block_kind ts w) (λ b. Done (add_stats xs b))

-- These statements have been read.
pub record BlockRead (ts : List Token) (w : Context) (i : ℕ) (xs : List StatNode) (m h : ℕ) : Type 0 where
  pub left : Left Block ts (block_lang ts w) block_goes i (block_rest ts w xs) m h
  pub inside : m < length ts
  pub fits : h ≤ 201 - w.above

pub block_start : (ts : List Token) (w : Context) (i : ℕ) → i < length ts → BlockRead ts w i [] i 0
block_start ts w i inside = record { left = start ts (block_kind ts w) block_goes i; inside = inside; fits = omega arith }

pub empty : (b : Block) → IsEmpty b → b ≡ NoStat
empty NoStat e = refl
empty (MoreStat s b) e = absurd e

pub stat_split : {ts : List Token} {w : Context} {i : ℕ} {xs : List StatNode} {m h : ℕ} → BlockRead ts w i xs m h → block_goes (class_at ts m) ≡ true → Left Block ts (block_lang ts w) block_goes i (stat_rest ts w xs (class_at ts m)) m h
unfolding SpellsBlock
stat_split {ts} {w} {i} {xs} {m} {h} r goes = same_rest (stat_rest ts w xs (class_at ts m)) r.left (λ s b n f j lt st x. down x.0 s b n f j x.1 lt st x.2 x.3) up
  where
    behind : (c : Bool) (x : Stat) (k s : Block) (b n f o p j : ℕ) → ends_with (class_at ts m) x ≡ c → Starts x (class_at ts m) → (IsLast x → IsEmpty k) → SpellsBlock (given_tokens ts n f) (high w b) k o p → s ≡ add_stats xs (MoreStat x k) → p ≡ j → Reads ts (behind_stat ts w xs x c) s b n f o j
    behind true x k s b n f o p j c y last d same at =
        let e : k ≡ NoStat = empty k (last (is_last x (class_at ts m) y c)) in
        (same ∙ ap (λ (z : Block). add_stats xs (MoreStat x z)) e, subst (λ (z : Block). SpellsBlock (given_tokens ts n f) (high w b) z o p) e d ∙ at)
    behind false x k s b n f o p j c y last d same at = (k, p, d, (same, at))

    down : (k s : Block) (b n f j p : ℕ) → m < n → Stops ts block_goes n j → SpellsBlock (given_tokens ts n f) (high w b) k m p → (s ≡ add_stats xs k) × (p ≡ j) → Reads ts (stat_rest ts w xs (class_at ts m)) s b n f m j
    down NoStat s b n f j p lt st d e =
        let P : ℕ → Type 0 = λ y. y < n → block_goes (class_at ts y) ≡ false in
        absurd (true≢false (sym goes ∙ subst P (sym (d ∙ e.1)) st lt))
    down (MoreStat x k) s b n f j p lt st d e =
        let y = stat_begins ts n f (high w b) x m d.0 d.1 lt in
        let t = d.2.2 in
        let rest = behind (ends_with (class_at ts m) x) x k s b n f t.0 p j refl y d.2.1.0 t.2 e.0 e.1 in (
          x,
          d.2.0,
          subst (λ (z : ℕ). SpellsStat (given_tokens ts n f) (high w b) x m z) d.2.1.1 d.1,
          elim t.1 [
            | inl z ↦ inr (subst (λ (v : ℕ). Reads ts (behind_stat ts w xs x (ends_with (class_at ts m) x)) s b n f v j) (sym z) rest)
            | inr z ↦ inl (t.0, z, rest)
          ],
        )

    ahead : (c : Bool) (x : Stat) (s : Block) (b n f q o j : ℕ) → ends_with (class_at ts m) x ≡ c → SpellsStat (given_tokens ts n f) (high w b) x m q → (q ≡ o) ⊎ word (given_tokens ts n f) Semicolon q o → Reads ts (behind_stat ts w xs x c) s b n f o j →
        Reads ts (block_rest ts w xs) s b n f m j
    ahead true x s b n f q o j c d semi z = (MoreStat x NoStat, o, (q, d, (q, ((λ l. tt), refl), (o, semi, refl))), z)
    ahead false x s b n f q o j c d semi z = (MoreStat x z.0, z.1, (q, d, (q, ((λ l. absurd (not_last x (class_at ts m) c l)), refl), (o, semi, z.2))), z.3)

    up : (s : Block) (b n f j : ℕ) → Reads ts (stat_rest ts w xs (class_at ts m)) s b n f m j → Reads ts (block_rest ts w xs) s b n f m j
    up s b n f j x = elim x.3 [
      | inl y ↦ ahead (ends_with (class_at ts m) x.0) x.0 s b n f x.1 y.0 j refl x.2 (inr y.1) y.2
      | inr y ↦ ahead (ends_with (class_at ts m) x.0) x.0 s b n f x.1 x.1 j refl x.2 (inl refl) y
    ]

-- ---- what follows a statement

pub block_last : (s : TokenClass) → block_goes s ≡ false → last_goes s ≡ false
block_last Semicolon e = refl
block_last s e = e

pub block_stat : (s : TokenClass) → block_goes s ≡ false → stat_goes s ≡ false
block_stat Else e = refl
block_stat Elseif e = refl
block_stat End e = refl
block_stat Until e = refl
block_stat Eof e = refl
block_stat s e = absurd (true≢false e)

pub block_after : (first s : TokenClass) → block_goes s ≡ false → goes_after first s ≡ false
block_after Return s e = block_last s e
block_after first s e = block_stat s e

pub semicolon_after : (first : TokenClass) → goes_after first Semicolon ≡ false
semicolon_after Return = refl
semicolon_after first = refl

-- A block stands behind another statement than `return`.
pub word_after : (first s : TokenClass) (x : Stat) → ends_with first x ≡ false → stat_goes s ≡ false → goes_after first s ≡ false
word_after Return s x e g = absurd (true≢false (sym (return_ends_with x) ∙ e))
word_after first s x e g = g

pub behind_follows : (ts : List Token) (w : Context) (xs : List StatNode) (first : TokenClass) (x : Stat) (c : Bool) → ends_with first x ≡ c → Follows ts block_goes (goes_after first) (behind_stat ts w xs x c)
unfolding Follows SpellsBlock
behind_follows ts w xs first x true e t b n f m j d st lt =
    let P : ℕ → Type 0 = λ y. y < n → block_goes (class_at ts y) ≡ false in block_after first (class_at ts m) (subst P (sym d.1) st lt)
behind_follows ts w xs first x false e t b n f m j d st lt = go d.0 d.1 d.2 d.3.1
  where
    go : (k : Block) (p : ℕ) → SpellsBlock (given_tokens ts n f) (high w b) k m p → p ≡ j → goes_after first (class_at ts m) ≡ false
    go NoStat p y at = let P : ℕ → Type 0 = λ y. y < n → block_goes (class_at ts y) ≡ false in block_after first (class_at ts m) (subst P (sym (y ∙ at)) st lt)
    go (MoreStat z k) p y at = word_after first (class_at ts m) x e (stat_word z (class_at ts m) (stat_begins ts n f (high w b) z m y.0 y.1 lt)).1

pub stat_follows : (ts : List Token) (w : Context) (xs : List StatNode) (first : TokenClass) (x : Stat) → Follows ts block_goes (goes_after first) (stat_end ts w xs first x)
stat_follows ts w xs first x =
    follows_either ts block_goes (goes_after first) _ _ (follows_word ts block_goes (goes_after first) Semicolon _ (semicolon_after first)) (behind_follows ts w xs first x (ends_with first x) refl)

-- Nothing behind a statement begins with `;`.
pub behind_closed : (ts : List Token) (w : Context) (xs : List StatNode) (x : Stat) (c : Bool) (q : ℕ) → class_at ts q ≡ Semicolon → Closed ts block_goes q (behind_stat ts w xs x c)
unfolding SpellsBlock
behind_closed ts w xs x true q semi s b n f j lt d st = done_closed ts block_goes q (add_stats xs (MoreStat x NoStat)) (ap block_goes semi) s b n f j lt d st
behind_closed ts w xs x false q semi s b n f j lt d st = go d.0 d.1 d.2 d.3.1
  where
    go : (k : Block) (p : ℕ) → SpellsBlock (given_tokens ts n f) (high w b) k q p → p ≡ j → ⊥
    go NoStat p y at = let P : ℕ → Type 0 = λ y. y < n → block_goes (class_at ts y) ≡ false in true≢false (sym (ap block_goes semi) ∙ subst P (sym (y ∙ at)) st lt)
    go (MoreStat z k) p y at = not_semicolon z (subst (λ (v : TokenClass). Starts z v) semi (stat_begins ts n f (high w b) z q y.0 y.1 lt))

-- ---- one more statement

pub stat_fault : {ts : List Token} {w : Context} {i : ℕ} {xs : List StatNode} {m h : ℕ} (f : Fault) → BlockRead ts w i xs m h → block_goes (class_at ts m) ≡ true → IfFault (ReadsFault Stat ts (stat_lang ts w) (goes_after (class_at ts m)) w.above m) f →
    IfFault (ReadsFault Block ts (block_lang ts w) block_goes w.above i) f
stat_fault {ts} {w} {i} {xs} {m} {h} f r goes x = here_fault {K = stat_kind ts w (class_at ts m)} {r = stat_end ts w xs (class_at ts m)} w.above (stat_split r goes) r.fits f x (stat_follows ts w xs (class_at ts m))

-- The statement, and the `;` behind it, if there is one.
pub stat_read : {ts : List Token} {w : Context} {i : ℕ} {xs : List StatNode} {m h q g : ℕ} {x : Stat} (p : ℕ) → BlockRead ts w i xs m h → block_goes (class_at ts m) ≡ true → ReadsNonEmpty Stat ts (stat_lang ts w) (goes_after (class_at ts m)) w.above m x q g → Behind ts q p →
    Left Block ts (block_lang ts w) block_goes i (behind_stat ts w xs x (closing (class_at ts m))) p (max h g)
stat_read {ts} {w} {i} {xs} {m} {h} {q} {g} {x} p r goes s b =
    subst (λ (c : Bool). Left Block ts (block_lang ts w) block_goes i (behind_stat ts w xs x c) p (max h g)) same (go b)
  where
    same : ends_with (class_at ts m) x ≡ closing (class_at ts m)
    same = same_end x (class_at ts m) (stat_begins ts (length ts) 5 (high w w.above) x m q (s.reading.stands w.above (length ts) 5 (λ e. absurd (omega (arith, e)))) r.inside)

    read : Left Block ts (block_lang ts w) block_goes i (stat_end ts w xs (class_at ts m) x) q (max h g)
    read = here_step {K = stat_kind ts w (class_at ts m)} {r = stat_end ts w xs (class_at ts m)} (stat_split r goes) s.reading (stat_follows ts w xs (class_at ts m))

    go : Behind ts q p → Left Block ts (block_lang ts w) block_goes i (behind_stat ts w xs x (ends_with (class_at ts m) x)) p (max h g)
    go (inl y) = at_place p (sym y.1) (word_step (first_way read (behind_closed ts w xs x (ends_with (class_at ts m) x) q y.0)) y.0)
    go (inr y) = at_place p (sym y.1) (second_way read (word_closed ts block_goes q Semicolon (behind_stat ts w xs x (ends_with (class_at ts m) x)) y.0))

pub block_more : {ts : List Token} {w : Context} {i : ℕ} {xs : List StatNode} {m h q g : ℕ} (x : StatNode) (new : List StatNode) (p l : ℕ) → BlockRead ts w i xs m h → block_goes (class_at ts m) ≡ true →
    ReadsNonEmpty Stat ts (stat_lang ts w) (goes_after (class_at ts m)) w.above m (stat_view x) q g → Behind ts q p → p < length ts → closing (class_at ts m) ≡ false → new ≡ xs ++ x ∷ [] → l ≡ max h g → BlockRead ts w i new p l
block_more {ts} {w} {i} {xs} {m} {h} {q} {g} x new p l r goes s b inside open' is high' = record {
  left = subst (λ (y : ℕ). Left Block ts (block_lang ts w) block_goes i (block_rest ts w new) p y) (sym high')
      (same_rest (block_rest ts w new) (subst (λ (c : Bool). Left Block ts (block_lang ts w) block_goes i (behind_stat ts w xs (stat_view x) c) p (max h g)) open' (stat_read p r goes s b))
      (λ s b n f j lt st z. (z.0, z.1, z.2, (z.3.0 ∙ sym (same z.0), z.3.1)))
      (λ s b n f j z. (z.0, z.1, z.2, (z.3.0 ∙ same z.0, z.3.1))));
  inside = inside;
  fits = omega (arith, high', r.fits, s.reading.height);
}
  where
    same : (k : Block) → add_stats new k ≡ add_stats xs (MoreStat (stat_view x) k)
    same k = ap (λ (y : List StatNode). add_stats y k) is ∙ add_one_stat xs x k

pub block_last_stat : {ts : List Token} {w : Context} {i : ℕ} {xs : List StatNode} {m h q g : ℕ} (x : StatNode) (new : List StatNode) (p l : ℕ) → BlockRead ts w i xs m h → block_goes (class_at ts m) ≡ true →
    ReadsNonEmpty Stat ts (stat_lang ts w) (goes_after (class_at ts m)) w.above m (stat_view x) q g → Behind ts q p → p < length ts → closing (class_at ts m) ≡ true → new ≡ xs ++ x ∷ [] → l ≡ max h g →
    ReadsTree Block ts (block_lang ts w) block_goes w.above i (stats_view new) p l
block_last_stat {ts} {w} {i} {xs} {m} {h} {q} {g} x new p l r goes s b inside last is high' =
    subst (λ (y : Block). ReadsTree Block ts (block_lang ts w) block_goes w.above i y p l) (sym same)
    (subst (λ (y : ℕ). ReadsTree Block ts (block_lang ts w) block_goes w.above i (add_stats xs (MoreStat (stat_view x) NoStat)) p y) (sym high')
    (all_read (subst (λ (c : Bool). Left Block ts (block_lang ts w) block_goes i (behind_stat ts w xs (stat_view x) c) p (max h g)) last (stat_read p r goes s b)) inside (omega (arith, r.fits, s.reading.height))))
  where
    same : stats_view new ≡ add_stats xs (MoreStat (stat_view x) NoStat)
    same = all_stats new ∙ ap (λ (y : List StatNode). add_stats y NoStat) is ∙ add_one_stat xs x NoStat

-- The block ends here.
pub block_done : {ts : List Token} {w : Context} {i : ℕ} {xs : List StatNode} {m h : ℕ} → BlockRead ts w i xs m h → block_goes (class_at ts m) ≡ false → ReadsTree Block ts (block_lang ts w) block_goes w.above i (stats_view xs) m h
unfolding SpellsBlock
block_done {ts} {w} {i} {xs} {m} {h} r ends =
    subst (λ (y : Block). ReadsTree Block ts (block_lang ts w) block_goes w.above i y m h) (sym (all_stats xs)) (all_read (same_rest (Done (add_stats xs NoStat)) r.left (λ s b n f j lt st x. down x.0 s b n f j x.1 lt x.2 x.3) (λ s b n f j x. (NoStat, m, refl, x))) r.inside r.fits)
  where
    down : (k s : Block) (b n f j p : ℕ) → m < n → SpellsBlock (given_tokens ts n f) (high w b) k m p → (s ≡ add_stats xs k) × (p ≡ j) → Reads ts (Done (add_stats xs NoStat)) s b n f m j
    down NoStat s b n f j p lt d e = (e.0, d ∙ e.1)
    down (MoreStat x k) s b n f j p lt d e = absurd (true≢false (sym (stat_word x (class_at ts m) (stat_begins ts n f (high w b) x m d.0 d.1 lt)).0 ∙ ends))

-- ---- no statement

abbrev pub begins_stat : TokenClass → Bool
begins_stat Do = true
begins_stat While = true
begins_stat Repeat = true
begins_stat If = true
begins_stat For = true
begins_stat Local = true
begins_stat Return = true
begins_stat Break = true
begins_stat Function = true
begins_stat Name = true
begins_stat LeftParen = true
begins_stat s = false

pub opening_starts : (s : TokenClass) → Opening s → begins_stat s ≡ true
opening_starts Name x = refl
opening_starts LeftParen x = refl
opening_starts s x = absurd x

pub beginning_starts : (s : TokenClass) → Beginning s → begins_stat s ≡ true
beginning_starts Function x = refl
beginning_starts Name x = refl
beginning_starts LeftParen x = refl
beginning_starts s x = absurd x

pub stat_starts : (x : Stat) (s : TokenClass) → Starts x s → begins_stat s ≡ true
stat_starts (AssignS l xs es) s y = beginning_starts s y
stat_starts (CallS l e) s y = opening_starts s y
stat_starts (DoS l b) Do y = refl
stat_starts (DoS l b) s y = absurd y
stat_starts (WhileS l e b) While y = refl
stat_starts (WhileS l e b) s y = absurd y
stat_starts (RepeatS l b e) Repeat y = refl
stat_starts (RepeatS l b e) s y = absurd y
stat_starts (IfS l as') If y = refl
stat_starts (IfS l as') s y = absurd y
stat_starts (IfElseS l as' b) If y = refl
stat_starts (IfElseS l as' b) s y = absurd y
stat_starts (CountS l x a b c) For y = refl
stat_starts (CountS l x a b c) s y = absurd y
stat_starts (CountByS l x a b by c) For y = refl
stat_starts (CountByS l x a b by c) s y = absurd y
stat_starts (EachS l xs es b) For y = refl
stat_starts (EachS l xs es b) s y = absurd y
stat_starts (LocalFunctionS l x v) Local y = refl
stat_starts (LocalFunctionS l x v) s y = absurd y
stat_starts (LocalS l xs es) Local y = refl
stat_starts (LocalS l xs es) s y = absurd y
stat_starts (ReturnS l es) Return y = refl
stat_starts (ReturnS l es) s y = absurd y
stat_starts (BreakS l) Break y = refl
stat_starts (BreakS l) s y = absurd y

pub default_stat : (s : TokenClass) → s ≢ Do → s ≢ While → s ≢ Repeat → s ≢ If → s ≢ For → s ≢ Local → s ≢ Return → s ≢ Break → s ≢ Function → s ≢ Name → s ≢ LeftParen → begins_stat s ≡ false
default_stat Do n0 n1 n2 n3 n4 n5 n6 n7 n8 n9 n10 = absurd (n0 refl)
default_stat While n0 n1 n2 n3 n4 n5 n6 n7 n8 n9 n10 = absurd (n1 refl)
default_stat Repeat n0 n1 n2 n3 n4 n5 n6 n7 n8 n9 n10 = absurd (n2 refl)
default_stat If n0 n1 n2 n3 n4 n5 n6 n7 n8 n9 n10 = absurd (n3 refl)
default_stat For n0 n1 n2 n3 n4 n5 n6 n7 n8 n9 n10 = absurd (n4 refl)
default_stat Local n0 n1 n2 n3 n4 n5 n6 n7 n8 n9 n10 = absurd (n5 refl)
default_stat Return n0 n1 n2 n3 n4 n5 n6 n7 n8 n9 n10 = absurd (n6 refl)
default_stat Break n0 n1 n2 n3 n4 n5 n6 n7 n8 n9 n10 = absurd (n7 refl)
default_stat Function n0 n1 n2 n3 n4 n5 n6 n7 n8 n9 n10 = absurd (n8 refl)
default_stat Name n0 n1 n2 n3 n4 n5 n6 n7 n8 n9 n10 = absurd (n9 refl)
default_stat LeftParen n0 n1 n2 n3 n4 n5 n6 n7 n8 n9 n10 = absurd (n10 refl)
default_stat s n0 n1 n2 n3 n4 n5 n6 n7 n8 n9 n10 = refl

pub no_stat : (ts : List Token) (w : Context) (goes : TokenClass → Bool) (i : ℕ) (s : TokenClass) → s ≡ class_at ts i → begins_stat s ≡ false → i < length ts → ReadsFault Stat ts (stat_lang ts w) goes w.above i 5 i
no_stat ts w goes i s at e inside =
    unexpected (λ x b n f j lt l st. true≢false (sym (stat_starts x (class_at ts i) (stat_begins ts n f (high w b) x i j l lt)) ∙ ap begins_stat (sym at) ∙ e)) (stat_opens ts w) inside
