-- The tokens of two texts with the same items: their kinds are the same, and their lines go on together.
use Rattle.std.proofs.Common.{◌≡◌, ◌≢◌, ℕ, ◌+◌, ◌<◌, ◌≤◌, ◌⊎◌, inl, inr, Bool, true, false, List, [], ◌∷◌, ◌++◌, length, take, drop, refl, sym, ap, subst, ◌∙◌, arith, append-nil, true≢false, le_refl}
use Rattle.std.specs.Prelude.{Option, Some, None, Ok, if◌then◌else◌, ◌==◌, ◌&&◌}
use Rattle.std.proofs.lemmas.Bool.{and_parts, cond_both, eq-eqb, eqb-true}
use Rattle.lua_lexer.specs.declared.token.TokenKind.{TokenKind}
use Rattle.lua_lexer.specs.declared.token.TokenKind.TheVariants.{End as EndToken}
use Rattle.lua_lexer.specs.declared.token.Token.{Token}
use Rattle.lua_lexer.specs.declared.token.Piece.{Piece}
use Rattle.lua_lexer.specs.WkBaseSpace.{is_white}
use Rattle.lua_lexer.specs.Lexis.{at, breaks, no_token, token_piece, piece_of, tokens_of, end_token, Spells}
use Rattle.lua_reading.specs.LuaGrammarDeclaredTokenClass.{TokenClass}
use Rattle.lua_reading.specs.LuaGrammarTokens.{kind_class}
use Rattle.lua_token_laws.specs.Pieces.{Ends}
use Rattle.lua_token_laws.proofs.FirstBytes.{kind_at, dark_behind}
use Rattle.lua_print.specs.declared.items.Gap.{Gap}
use Rattle.lua_print.specs.declared.items.Gap.TheVariants.{First, Beside, Below, Apart}
use Rattle.lua_print.specs.Items.{Item, item, gap_of, behind_space, with_piece, items_from}
use Rattle.lua_print.proofs.ItemStays.{stands_end}
use Rattle.lua_print.proofs.RowLaws.{by_first, token_sound}
use Rattle.lua_print.proofs.TokenChains.{Steps, Chain}

-- ---- the kind of a token, by its bytes

abbrev kind_in : List ℕ → Option TokenKind
kind_in bytes = kind_at (piece_of bytes)

-- Behind a text there is no byte that goes on with its last piece.
end_ends : Ends 256
end_ends = record { name = refl; number = refl; digit = refl; exponent = (refl, refl); mark = (refl, refl); hyphen = refl; bracket = refl; equals = refl }

kind_is : (gap : Gap) (text : List ℕ) (kind : TokenKind) (size : ℕ) → 0 < length text → piece_of text ≡ Ok (token_piece kind size) → kind_in (take size text) ≡ Some kind
kind_is gap text kind size some found =
    let stands : piece_of (take size text ++ []) ≡ Ok (token_piece kind size) = stands_end (item gap (Some (kind_class kind)) (take size text)) (token_sound gap text kind size some found) [] end_ends (λ l. absurd (no_line l.0)) in
    ap kind_in (sym (append-nil (take size text))) ∙ ap kind_at stands
  where
    no_line : ◌≡◌ {A = Option TokenKind} (Some kind) None → ⊥
    no_line wrong = absurd cc

-- ---- tokens and items

-- White space that has no line break, or stands at the front.
abbrev flat : Gap → Bool
flat First = true
flat Beside = true
flat gap = false

abbrev plain : List ℕ → Bool
plain bytes = breaks bytes == 0

-- The token that these bytes are, on some line.
pub record TokenIs (bytes : List ℕ) (t : Token) : Type 0 where
  pub kind : kind_in bytes ≡ Some t.kind
  pub lines : t.end_line ≡ t.line + breaks bytes

abbrev IsEnd : List Token → Type 0
IsEnd [] = ⊥
IsEnd (t ∷ []) = t.kind ≡ EndToken
IsEnd (t ∷ u ∷ ts) = ⊥

-- Items, and their tokens, behind line a where the last token ends. While the flag holds, nothing breaks a line behind that token.
-- In the text: a token on line a has the flag.
abbrev HighBy : Option TokenClass → List ℕ → ℕ → Bool → List Token → (ℕ → Bool → List Token → Type 0) → Type 0
HighBy None bytes a flag ts further = further a (flag && plain bytes) ts
HighBy (Some class) bytes a flag [] further = ⊥
HighBy (Some class) bytes a flag (t ∷ ts) further = TokenIs bytes t × (a ≤ t.line) × (t.line ≡ a → flag ≡ true) × further t.end_line true ts

abbrev High : ℕ → Bool → List Item → List Token → Type 0
High a flag [] ts = IsEnd ts
High a flag (i ∷ is) ts = HighBy i.class i.bytes a (flag && flat i.gap) ts (λ b f us. High b f is us)

-- In its layout: a token with the flag is on line a.
abbrev LowBy : Option TokenClass → List ℕ → ℕ → Bool → List Token → (ℕ → Bool → List Token → Type 0) → Type 0
LowBy None bytes a flag ts further = further a (flag && plain bytes) ts
LowBy (Some class) bytes a flag [] further = ⊥
LowBy (Some class) bytes a flag (t ∷ ts) further = TokenIs bytes t × (flag ≡ true → t.line ≡ a) × further t.end_line true ts

abbrev Low : ℕ → Bool → List Item → List Token → Type 0
Low a flag [] ts = IsEnd ts
Low a flag (i ∷ is) ts = LowBy i.class i.bytes a (flag && flat i.gap) ts (λ b f us. Low b f is us)

-- ---- the two go on together

one_kind : (bytes : List ℕ) (t u : Token) → TokenIs bytes t → TokenIs bytes u → u.kind ≡ t.kind
one_kind bytes t u x y = some (sym y.kind ∙ x.kind)
  where
    some : ◌≡◌ {A = Option TokenKind} (Some u.kind) (Some t.kind) → u.kind ≡ t.kind
    some e = cc

steps : (bytes : List ℕ) (flag : Bool) (a b : ℕ) (t u : Token) → TokenIs bytes t → TokenIs bytes u → a ≤ t.line → (t.line ≡ a → flag ≡ true) → (flag ≡ true → u.line ≡ b) → Steps a b t u
steps bytes flag a b t u x y le up down = record {
  low = le;
  starts = λ e. down (up e);
  grows = let lines : t.end_line ≡ t.line + breaks bytes = x.lines in omega (arith, lines);
  ends = λ e. let left : t.end_line ≡ t.line + breaks bytes = x.lines in let right : u.end_line ≡ u.line + breaks bytes = y.lines in omega (arith, left, right, e);
}

end_chain : (a b : ℕ) (ts us : List Token) → IsEnd ts → IsEnd us → Chain a b ts us
end_chain a b [] us x y = absurd x
end_chain a b (t ∷ t' ∷ ts) us x y = absurd x
end_chain a b (t ∷ []) [] x y = absurd y
end_chain a b (t ∷ []) (u ∷ u' ∷ us) x y = absurd y
end_chain a b (t ∷ []) (u ∷ []) x y = (y ∙ sym x, inl (ap kind_class x, refl, refl))

chain_by : (class : Option TokenClass) (bytes : List ℕ) (flag : Bool) (is : List Item) (a b : ℕ) (ts us : List Token)
    → ((a b : ℕ) (flag : Bool) (ts us : List Token) → High a flag is ts → Low b flag is us → Chain a b ts us)
    → HighBy class bytes a flag ts (λ c f vs. High c f is vs) → LowBy class bytes b flag us (λ c f vs. Low c f is vs) → Chain a b ts us
chain_by None bytes flag is a b ts us rest x y = rest a b (flag && plain bytes) ts us x y
chain_by (Some class) bytes flag is a b [] us rest x y = absurd x
chain_by (Some class) bytes flag is a b (t ∷ ts) [] rest x y = absurd y
chain_by (Some class) bytes flag is a b (t ∷ ts) (u ∷ us) rest (token, le, up, x) (other, down, y) =
    (one_kind bytes t u token other, inr (steps bytes flag a b t u token other le up down, rest t.end_line u.end_line true ts us x y))

pub chain : (is : List Item) (a b : ℕ) (flag : Bool) (ts us : List Token) → High a flag is ts → Low b flag is us → Chain a b ts us
chain [] a b flag ts us x y = end_chain a b ts us x y
chain (i ∷ is) a b flag ts us x y = chain_by i.class i.bytes (flag && flat i.gap) is a b ts us (λ a b flag ts us. chain is a b flag ts us) x y

-- ---- the tokens of a text

flat_some : (gap : Gap) (n : ℕ) → flat gap ≡ true → n ≡ 0 → flat (behind_space gap n) ≡ true
flat_some First n f e = refl
flat_some Beside n f e = ap (λ (k : ℕ). flat (gap_of k)) e
flat_some Below n f e = absurd (true≢false (sym f))
flat_some Apart n f e = absurd (true≢false (sym f))

flat_none : (n : ℕ) → flat (gap_of n) ≡ true → n ≡ 0
flat_none n =
    cond_both (n == 0) Beside (if n == 1 then Below else Apart) (λ (g : Gap). flat g ≡ true → n ≡ 0) (λ e h. eqb-true n 0 e)
    (λ e. cond_both (n == 1) Below Apart (λ (g : Gap). flat g ≡ true → n ≡ 0) (λ f h. absurd (true≢false (sym h))) (λ f h. absurd (true≢false (sym h))))

both_true : (x y : Bool) → x ≡ true → y ≡ true → (x && y) ≡ true
both_true true true e f = refl
both_true true false e f = f
both_true false y e f = absurd cc

token_of : (gap : Gap) (text : List ℕ) (kind : TokenKind) (size place line : ℕ) → 0 < length text → piece_of text ≡ Ok (token_piece kind size)
    → TokenIs (take size text) (record { kind = kind; start = place; end = place + size; line = line; end_line = line + breaks (take size text) })
token_of gap text kind size place line some found = record { kind = kind_is gap text kind size some found; lines = refl }

end_of : (ts : List Token) (place line : ℕ) → ts ≡ end_token place line ∷ [] → IsEnd ts
end_of ts place line e = subst IsEnd (sym e) refl

-- What is shown of the rest of a text.
abbrev HighRest : List Piece → List ℕ → ℕ → List Token → Type 0
HighRest ps text line tokens = (gap : Gap) (a : ℕ) (flag : Bool) → a ≤ line → (line ≡ a → (flag && flat gap) ≡ true) → High a flag (items_from gap text ps) tokens

module _ (ps : List Piece) (text : List ℕ) (size place line : ℕ) (later : List Token) (some : 0 < length text) where
  module _ (gap : Gap) (a : ℕ) (flag : Bool) (rest : HighRest ps (drop size text) (line + breaks (take size text)) later) (le : a ≤ line) (up : line ≡ a → (flag && flat gap) ≡ true) where
    high_none : (b : Bool) → High a flag (if b then items_from (behind_space gap (breaks (take size text))) (drop size text) ps else item gap None (take size text) ∷ items_from Beside (drop size text) ps) later
    high_none true = rest (behind_space gap (breaks (take size text))) a flag (omega (arith, le)) (λ e.
        let here : line ≡ a = omega (arith, e, le) in
        let none : breaks (take size text) ≡ 0 = omega (arith, e, here) in
        let parts = and_parts flag (flat gap) (up here) in
        both_true flag (flat (behind_space gap (breaks (take size text)))) parts.0 (flat_some gap (breaks (take size text)) parts.1 none))
    high_none false = rest Beside a ((flag && flat gap) && plain (take size text)) (omega (arith, le)) (λ e.
        let here : line ≡ a = omega (arith, e, le) in
        let none : breaks (take size text) ≡ 0 = omega (arith, e, here) in
        both_true ((flag && flat gap) && plain (take size text)) true (both_true (flag && flat gap) (plain (take size text)) (up here) (eq-eqb (breaks (take size text)) 0 none)) refl)

    high_piece : (kind : Option TokenKind) (tokens : List Token) → piece_of text ≡ Ok (record { kind = kind; size = size }) → tokens ≡ tokens_of (record { kind = kind; size = size }) place line (line + breaks (take size text)) ++ later
        → High a flag (with_piece kind gap (take size text) (λ g. items_from g (drop size text) ps)) tokens
    high_piece (Some kind) tokens found e =
        let all : tokens ≡ record { kind = kind; start = place; end = place + size; line = line; end_line = line + breaks (take size text) } ∷ later = e in
        subst (High a flag (item gap (Some (kind_class kind)) (take size text) ∷ items_from Beside (drop size text) ps)) (sym all)
        (token_of gap text kind size place line some found, le, up, rest Beside (line + breaks (take size text)) true (le_refl (line + breaks (take size text))) (λ same. refl))
    high_piece None tokens found e =
        let all : tokens ≡ later = e in
        subst (λ (is : List Item). High a flag is tokens) (sym (by_first (is_white (at text 0)) gap text size ps some found refl))
        (subst (High a flag (if is_white (at text 0) then items_from (behind_space gap (breaks (take size text))) (drop size text) ps else item gap None (take size text) ∷ items_from Beside (drop size text) ps)) (sym all)
        (high_none (is_white (at text 0))))

pub high : (ps : List Piece) (text : List ℕ) (place line : ℕ) (tokens : List Token) → Spells text ps place line tokens → HighRest ps text line tokens
unfolding items_from
high [] text place line tokens spelled gap a flag le up = end_of tokens place line spelled.1
high (p ∷ ps) text place line tokens (some, found, (later, all, spelled)) gap a flag le up =
    high_piece ps text p.size place line later some gap a flag (high ps (drop p.size text) (place + p.size) (line + breaks (take p.size text)) later spelled) le up p.kind tokens found all

-- ---- the tokens of a layout

-- White space stands behind an item alone: before the first one none counts, for the flag does not hold.
abbrev Fresh : Gap → Bool → List ℕ → Type 0
Fresh gap flag text = (gap ≡ Beside) ⊎ ((is_white (at text 0) ≡ false) ⊎ (flag ≡ false))

abbrev LowRest : List Piece → List ℕ → ℕ → List Token → Type 0
LowRest ps text line tokens = (gap : Gap) (a : ℕ) (flag : Bool) → ((flag && flat gap) ≡ true → line ≡ a) → Fresh gap flag text → Low a flag (items_from gap text ps) tokens

-- The flag behind white space says that it had no line break.
flag_behind : (gap : Gap) (flag : Bool) (text : List ℕ) (line a n : ℕ) → ((flag && flat gap) ≡ true → line ≡ a) → Fresh gap flag text → is_white (at text 0) ≡ true → (flag && flat (behind_space gap n)) ≡ true → line + n ≡ a
flag_behind gap flag text line a n down (inl e) white f =
    let parts = and_parts flag (flat (behind_space gap n)) f in
    let none : n ≡ 0 = flat_none n (ap (λ (g : Gap). flat (behind_space g n)) (sym e) ∙ parts.1) in
    let here : line ≡ a = down (both_true flag (flat gap) parts.0 (ap flat e)) in
    omega (arith, none, here)
flag_behind gap flag text line a n down (inr (inl dark)) white f = absurd (true≢false (sym white ∙ dark))
flag_behind gap flag text line a n down (inr (inr none)) white f = absurd (true≢false (sym (and_parts flag (flat (behind_space gap n)) f).0 ∙ none))

module _ (ps : List Piece) (text : List ℕ) (size place line : ℕ) (later : List Token) (some : 0 < length text) (gap : Gap) (a : ℕ) (flag : Bool) (rest : LowRest ps (drop size text) (line + breaks (take size text)) later)
    (down : (flag && flat gap) ≡ true → line ≡ a) (fresh : Fresh gap flag text) where
  low_none : (b : Bool) → is_white (at text 0) ≡ b → piece_of text ≡ Ok (no_token size)
      → Low a flag (if b then items_from (behind_space gap (breaks (take size text))) (drop size text) ps else item gap None (take size text) ∷ items_from Beside (drop size text) ps) later
  low_none true white found = rest (behind_space gap (breaks (take size text))) a flag
      (λ f. flag_behind gap flag text line a (breaks (take size text)) down fresh white f) (inr (inl (dark_behind text size found white)))
  low_none false dark found = rest Beside a ((flag && flat gap) && plain (take size text)) (λ f.
      let parts = and_parts (flag && flat gap) (plain (take size text)) (and_parts ((flag && flat gap) && plain (take size text)) true f).0 in
      let none : breaks (take size text) ≡ 0 = eqb-true (breaks (take size text)) 0 parts.1 in
      let here : line ≡ a = down parts.0 in
      omega (arith, none, here)) (inl refl)

  low_piece : (kind : Option TokenKind) (tokens : List Token) → piece_of text ≡ Ok (record { kind = kind; size = size }) → tokens ≡ tokens_of (record { kind = kind; size = size }) place line (line + breaks (take size text)) ++ later
      → Low a flag (with_piece kind gap (take size text) (λ g. items_from g (drop size text) ps)) tokens
  low_piece (Some kind) tokens found e =
      let all : tokens ≡ record { kind = kind; start = place; end = place + size; line = line; end_line = line + breaks (take size text) } ∷ later = e in
      subst (Low a flag (item gap (Some (kind_class kind)) (take size text) ∷ items_from Beside (drop size text) ps)) (sym all)
      (token_of gap text kind size place line some found, down, rest Beside (line + breaks (take size text)) true (λ f. refl) (inl refl))
  low_piece None tokens found e =
      let all : tokens ≡ later = e in
      subst (λ (is : List Item). Low a flag is tokens) (sym (by_first (is_white (at text 0)) gap text size ps some found refl))
      (subst (Low a flag (if is_white (at text 0) then items_from (behind_space gap (breaks (take size text))) (drop size text) ps else item gap None (take size text) ∷ items_from Beside (drop size text) ps)) (sym all)
      (low_none (is_white (at text 0)) refl found))

pub low : (ps : List Piece) (text : List ℕ) (place line : ℕ) (tokens : List Token) → Spells text ps place line tokens → LowRest ps text line tokens
unfolding items_from
low [] text place line tokens spelled gap a flag down fresh = end_of tokens place line spelled.1
low (p ∷ ps) text place line tokens (some, found, (later, all, spelled)) gap a flag down fresh =
    low_piece ps text p.size place line later some gap a flag (low ps (drop p.size text) (place + p.size) (line + breaks (take p.size text)) later spelled) down fresh p.kind tokens found all

-- The tokens of two texts that have the same items.
pub same_items : (text layout : List ℕ) (ps qs : List Piece) (ts us : List Token) → Spells text ps 0 1 ts → Spells layout qs 0 1 us → items_from First layout qs ≡ items_from First text ps → Chain 0 0 ts us
same_items text layout ps qs ts us x y e =
    chain (items_from First text ps) 0 0 false ts us (high ps text 0 1 ts x First 0 false (omega arith) (λ wrong. absurd (omega (arith, wrong))))
    (subst (λ (is : List Item). Low 0 false is us) e (low qs layout 0 1 us y First 0 false (λ wrong. absurd cc) (inr (inr refl))))
