-- The items of a text, one piece after another.
use Rattle.std.proofs.Common.{◌≡◌, ℕ, zero, suc, ◌+◌, ◌-◌, ◌<◌, ◌≤◌, Bool, true, false, List, [], ◌∷◌, ◌++◌, length, take, drop, get_or, refl, sym, ap, subst, ◌∙◌, arith, append_assoc, append-nil, length-drop}
use Rattle.std.specs.Prelude.{Option, Some, None, Result, Ok}
use Rattle.std.proofs.lemmas.Bool.{cond-true, cond-false}
use Rattle.std.proofs.lemmas.List.{get_or-take, get_or-drop, get_or_default, drop-drop}
use Rattle.lua_lexer.specs.declared.token.Token.{Token}
use Rattle.lua_lexer.specs.declared.token.Piece.{Piece}
use Rattle.lua_lexer.specs.WkBaseSpace.{is_white}
use Rattle.lua_lexer.specs.Lexis.{at, breaks, no_token, token_piece, piece_of, tokens_of, line_behind, Spells, Lexes}
use Rattle.lua_reading.specs.LuaGrammarDeclaredTokenClass.{TokenClass}
use Rattle.lua_reading.specs.LuaGrammarTokens.{kind_class, tok_at}
use Rattle.lua_print.specs.declared.items.Gap.{Gap}
use Rattle.lua_print.specs.declared.items.Gap.TheVariants.{First, Beside}
use Rattle.lua_print.specs.declared.items.Front.TheVariants.{Space, Shown}
use Rattle.lua_print.specs.Items.{Item, item, behind_space, each_piece, pieces_by, items_from, items_of}
use Rattle.lua_print.specs.Answers.{IsNext, IsFront, tokens_in}
use Rattle.lua_token_laws.proofs.SizeLemmas.{found_fits}
use Rattle.lua_print.proofs.FrontLemmas.{next_piece}

-- ---- the pieces of a text

no_pieces : (n : ℕ) → pieces_by n [] ≡ []
unfolding pieces_by piece_of
no_pieces zero = refl
no_pieces (suc n) = refl

pub spelled_pieces : (text : List ℕ) (ps : List Piece) (place line : ℕ) (tokens : List Token) (n : ℕ) → length text ≤ n → Spells text ps place line tokens → pieces_by n text ≡ ps
unfolding pieces_by
spelled_pieces text [] place line tokens n h s = ap (pieces_by n) s.0 ∙ no_pieces n
spelled_pieces text (p ∷ ps) place line tokens zero h s = absurd (omega (arith, h, s.0))
spelled_pieces text (p ∷ ps) place line tokens (suc n) h s =
    let fits = found_fits text p s.0 s.1 in
    let left : length (drop p.size text) ≡ length text - p.size = length-drop p.size text in
    let less : length (drop p.size text) ≤ n = omega (arith, left, fits.0, fits.1, h) in
    ap (λ (x : Result Piece ℕ). each_piece x (λ q. q ∷ pieces_by n (drop q.size text))) s.1
    ∙ ap (λ (qs : List Piece). p ∷ qs) (spelled_pieces (drop p.size text) ps (place + p.size) (line_behind p text line) s.2.0 n less s.2.2)

-- ---- what is left of a text

-- Items, and those of the rest of the text, are all items.
abbrev pub Rest : List Token → List Item → Gap → List ℕ → ℕ → List Item → Type 0
Rest tokens items gap left place whole = (ps : List Piece) × ((line : ℕ) × Spells left ps place line tokens × (items ++ items_from gap left ps ≡ whole))

pub rest_start : (text : List ℕ) (tokens : List Token) → Lexes text tokens → Rest tokens [] First text 0 (items_of text)
unfolding items_of
rest_start text tokens s =
    (s.0, (1, s.1, ap (items_from First text) (sym (spelled_pieces text s.0 0 1 tokens (length text) (omega arith) s.1))))

some_tokens : (text : List ℕ) (ps : List Piece) (place line : ℕ) (tokens : List Token) → Spells text ps place line tokens → 0 < length tokens
some_tokens text [] place line tokens s = let one : length tokens ≡ 1 = ap length s.1 in omega (arith, one)
some_tokens text (p ∷ ps) place line tokens s =
    let later : 0 < length s.2.0 = some_tokens (drop p.size text) ps (place + p.size) (line_behind p text line) s.2.0 s.2.2 in
    let whole : length tokens ≡ length (tokens_of p place line (line_behind p text line) ++ s.2.0) = ap length s.2.1 in
    subst (λ (n : ℕ). 0 < n) (sym whole) (more (tokens_of p place line (line_behind p text line)) s.2.0 later)
  where
    more : (ts us : List Token) → 0 < length us → 0 < length (ts ++ us)
    more [] us h = h
    more (t ∷ ts) us h = omega arith

-- There is a next token.
pub next_inside : (all : List Token) (next : ℕ) (items : List Item) (gap : Gap) (left : List ℕ) (place : ℕ) (whole : List Item) → Rest (drop next all) items gap left place whole → next < length all
next_inside all next items gap left place whole r =
    let some : 0 < length (drop next all) = some_tokens left r.0 place r.1.0 (drop next all) r.1.1 in
    let left_over : length (drop next all) ≡ length all - next = length-drop next all in
    omega (arith, some, left_over)

pub token_is : (all : List Token) (next : ℕ) (token : Token) → next < length all → token ≡ tok_at all next → token ≡ get_or all next token
unfolding tok_at
token_is all next token lt e = e ∙ get_or_default all next _ token lt

-- What stands at the front is known by the next token.
pub is_next : (all : List Token) (next : ℕ) (token : Token) (items : List Item) (gap : Gap) (left : List ℕ) (place : ℕ) (whole : List Item) → 0 < length left → token ≡ get_or all next token → Rest (drop next all) items gap left place whole → IsNext left place token
is_next all next token items gap left place whole h e r =
    let first : next + 0 ≡ next = omega arith in
    let same : token ≡ get_or (drop next all) 0 token = e ∙ sym (get_or-drop next all 0 token ∙ ap (λ (n : ℕ). get_or all n token) first) in
    next_piece left r.0 place r.1.0 (drop next all) token h same (some_tokens left r.0 place r.1.0 (drop next all) r.1.1) r.1.1

-- ---- a step

-- What stands at the front is the first piece.
same_front : (left : List ℕ) (p q : Piece) → piece_of left ≡ Ok p → piece_of left ≡ Ok q → p ≡ q
same_front left p q e f = let same : Ok p ≡ Ok q = sym e ∙ f in cc

white_front : (left : List ℕ) (size : ℕ) (b : Bool) → 0 < size → is_white (at left 0) ≡ b → is_white (at (take size left) 0) ≡ b
white_front left size b h w = ap is_white (get_or-take size left 0 256 h) ∙ w

pub space_step : (tokens : List Token) (items : List Item) (gap after : Gap) (left back space : List ℕ) (place size n : ℕ) (whole : List Item) → 0 < length left → IsFront (Space size) left → space ≡ take size left → back ≡ drop size left → n ≡ breaks space → after ≡ behind_space gap n → Rest tokens items gap left place whole → Rest tokens items after back (place + size) whole
unfolding items_from
space_step tokens items gap after left back space place size n whole h front es eb en ea ([], r) = let none : length left ≡ 0 = ap length r.1.0 in absurd (omega (arith, h, none))
space_step tokens items gap after left back space place size n whole h front es eb en ea (p ∷ ps, r) =
    let same : p ≡ no_token size = same_front left p (no_token size) r.1.1 front.0 in
    let positive : 0 < size = (found_fits left (no_token size) h front.0).0 in
    let here : Spells left (no_token size ∷ ps) place r.0 tokens = subst (λ (q : Piece). Spells left (q ∷ ps) place r.0 tokens) same r.1 in
    let all : items ++ items_from gap left (no_token size ∷ ps) ≡ whole = subst (λ (q : Piece). items ++ items_from gap left (q ∷ ps) ≡ whole) same r.2 in
    let gap_is : after ≡ behind_space gap (breaks (take size left)) = ea ∙ ap (behind_space gap) (en ∙ ap breaks es) in
    let passed : items_from gap left (no_token size ∷ ps) ≡ items_from (behind_space gap (breaks (take size left))) (drop size left) ps = cond-true _ _ _ (white_front left size true positive front.1) in
    let rest : Spells (drop size left) ps (place + size) (line_behind (no_token size) left r.0) tokens = subst (λ (ts : List Token). Spells (drop size left) ps (place + size) (line_behind (no_token size) left r.0) ts) (sym here.2.1) here.2.2 in (
      ps,
      (
        line_behind (no_token size) left r.0,
        subst (λ (t : List ℕ). Spells t ps (place + size) (line_behind (no_token size) left r.0) tokens) (sym eb) rest,
        ap (λ (g : Gap). items ++ items_from g back ps) gap_is ∙ ap (λ (t : List ℕ). items ++ items_from (behind_space gap (breaks (take size left))) t ps) eb ∙ ap (λ (is : List Item). items ++ is) (sym passed) ∙ all,
      ),
    )

-- A comment, and a token, in front of what follows.
item_more : (items items' later whole : List Item) (x : Item) → items' ≡ items ++ x ∷ [] → items ++ x ∷ later ≡ whole → items' ++ later ≡ whole
item_more items items' later whole x e h = ap (λ (is : List Item). is ++ later) e ∙ append_assoc items (x ∷ []) later ∙ h

comment_step : (tokens : List Token) (items items' : List Item) (gap : Gap) (left back bytes : List ℕ) (place size : ℕ) (whole : List Item) → 0 < length left → IsFront (Shown None size) left → bytes ≡ take size left → back ≡ drop size left → items' ≡ items ++ item gap None bytes ∷ [] → Rest tokens items gap left place whole → Rest tokens items' Beside back (place + size) whole
unfolding items_from
comment_step tokens items items' gap left back bytes place size whole h front es eb ei ([], r) = let none : length left ≡ 0 = ap length r.1.0 in absurd (omega (arith, h, none))
comment_step tokens items items' gap left back bytes place size whole h front es eb ei (p ∷ ps, r) =
    let same : p ≡ no_token size = same_front left p (no_token size) r.1.1 front.0 in
    let positive : 0 < size = (found_fits left (no_token size) h front.0).0 in
    let here : Spells left (no_token size ∷ ps) place r.0 tokens = subst (λ (q : Piece). Spells left (q ∷ ps) place r.0 tokens) same r.1 in
    let all : items ++ items_from gap left (no_token size ∷ ps) ≡ whole = subst (λ (q : Piece). items ++ items_from gap left (q ∷ ps) ≡ whole) same r.2 in
    let passed : items_from gap left (no_token size ∷ ps) ≡ item gap None (take size left) ∷ items_from Beside (drop size left) ps = cond-false _ _ _ (white_front left size false positive front.1) in
    let rest : Spells (drop size left) ps (place + size) (line_behind (no_token size) left r.0) tokens = subst (λ (ts : List Token). Spells (drop size left) ps (place + size) (line_behind (no_token size) left r.0) ts) (sym here.2.1) here.2.2 in
    let more : items' ≡ items ++ item gap None (take size left) ∷ [] = ei ∙ ap (λ (b : List ℕ). items ++ item gap None b ∷ []) es in (
      ps,
      (
        line_behind (no_token size) left r.0,
        subst (λ (t : List ℕ). Spells t ps (place + size) (line_behind (no_token size) left r.0) tokens) (sym eb) rest,
        ap (λ (t : List ℕ). items' ++ items_from Beside t ps) eb ∙ item_more items items' (items_from Beside (drop size left) ps) whole (item gap None (take size left)) more (ap (λ (is : List Item). items ++ is) (sym passed) ∙ all),
      ),
    )

token_step : (tokens : List Token) (items items' : List Item) (gap : Gap) (class : TokenClass) (left back bytes : List ℕ) (place size : ℕ) (whole : List Item) → 0 < length left → IsFront (Shown (Some class) size) left → bytes ≡ take size left → back ≡ drop size left → items' ≡ items ++ item gap (Some class) bytes ∷ [] → Rest tokens items gap left place whole → Rest (drop 1 tokens) items' Beside back (place + size) whole
unfolding items_from
token_step tokens items items' gap class left back bytes place size whole h front es eb ei ([], r) = let none : length left ≡ 0 = ap length r.1.0 in absurd (omega (arith, h, none))
token_step tokens items items' gap class left back bytes place size whole h (kind, found, class_is) es eb ei (p ∷ ps, r) =
    let same : p ≡ token_piece kind size = same_front left p (token_piece kind size) r.1.1 found in
    let here : Spells left (token_piece kind size ∷ ps) place r.0 tokens = subst (λ (q : Piece). Spells left (q ∷ ps) place r.0 tokens) same r.1 in
    let all : items ++ items_from gap left (token_piece kind size ∷ ps) ≡ whole = subst (λ (q : Piece). items ++ items_from gap left (q ∷ ps) ≡ whole) same r.2 in
    let tail : drop 1 tokens ≡ here.2.0 = ap (drop 1) here.2.1 in
    let rest : Spells (drop size left) ps (place + size) (line_behind (token_piece kind size) left r.0) (drop 1 tokens) = subst (λ (ts : List Token). Spells (drop size left) ps (place + size) (line_behind (token_piece kind size) left r.0) ts) (sym tail) here.2.2 in
    let more : items' ≡ items ++ item gap (Some (kind_class kind)) (take size left) ∷ [] = ei ∙ ap (λ (b : List ℕ). items ++ item gap (Some class) b ∷ []) es ∙ ap (λ (c : TokenClass). items ++ item gap (Some c) (take size left) ∷ []) class_is in (
      ps,
      (
        line_behind (token_piece kind size) left r.0,
        subst (λ (t : List ℕ). Spells t ps (place + size) (line_behind (token_piece kind size) left r.0) (drop 1 tokens)) (sym eb) rest,
        ap (λ (t : List ℕ). items' ++ items_from Beside t ps) eb ∙ item_more items items' (items_from Beside (drop size left) ps) whole (item gap (Some (kind_class kind)) (take size left)) more all,
      ),
    )

pub item_step : (all : List Token) (next : ℕ) (items items' : List Item) (gap : Gap) (class : Option TokenClass) (left back bytes : List ℕ) (place size count : ℕ) (whole : List Item) → 0 < length left → IsFront (Shown class size) left → bytes ≡ take size left → back ≡ drop size left → items' ≡ items ++ item gap class bytes ∷ [] → count ≡ tokens_in class → Rest (drop next all) items gap left place whole → Rest (drop (next + count) all) items' Beside back (place + size) whole
item_step all next items items' gap None left back bytes place size count whole h front es eb ei ec r =
    let same : next + count ≡ next = omega (arith, ec) in
    subst (λ (n : ℕ). Rest (drop n all) items' Beside back (place + size) whole) (sym same) (comment_step (drop next all) items items' gap left back bytes place size whole h front es eb ei r)
item_step all next items items' gap (Some class) left back bytes place size count whole h front es eb ei ec r =
    let same : drop (next + count) all ≡ drop 1 (drop next all) = ap (λ (n : ℕ). drop (next + n) all) ec ∙ sym (drop-drop 1 next all) in
    subst (λ (ts : List Token). Rest ts items' Beside back (place + size) whole) (sym same) (token_step (drop next all) items items' gap class left back bytes place size whole h front es eb ei r)

-- How far a step goes: no further than the text, and a token is no longer than its place.
pub front_fits : (left : List ℕ) (class : Option TokenClass) (size : ℕ) → 0 < length left → IsFront (Shown class size) left → (0 < size) × (size ≤ length left)
front_fits left None size h front = found_fits left (no_token size) h front.0
front_fits left (Some class) size h front = found_fits left (token_piece front.0 size) h front.1

pub space_fits : (left : List ℕ) (size : ℕ) → 0 < length left → IsFront (Space size) left → (0 < size) × (size ≤ length left)
space_fits left size h front = found_fits left (no_token size) h front.0

pub few_tokens : (class : Option TokenClass) (count : ℕ) → count ≡ tokens_in class → count ≤ 1
few_tokens None count e = omega (arith, e)
few_tokens (Some class) count e = omega (arith, e)

-- ---- the end

pub rest_end : (tokens : List Token) (items : List Item) (gap : Gap) (left : List ℕ) (place : ℕ) (whole : List Item) → length left ≡ 0 → Rest tokens items gap left place whole → items ≡ whole
unfolding items_from
rest_end tokens items gap left place whole h ([], r) = sym (append-nil items) ∙ r.2
rest_end tokens items gap left place whole h (p ∷ ps, r) = absurd (omega (arith, h, r.1.0))
