-- Items that are laid out are read back, where each may stand in front of the next.
use Rattle.std.proofs.Common.{◌≡◌, ◌≢◌, ℕ, ◌+◌, ◌-◌, Bool, true, false, List, [], ◌∷◌, ◌++◌, length, refl, sym, ap, subst, ◌∙◌, append_assoc}
use Rattle.std.specs.Prelude.{Option, Some, None, Ok}
use Rattle.std.proofs.lemmas.List.{get_or_append_left}
use Rattle.lua_lexer.specs.WkBaseSpace.{is_white}
use Rattle.lua_lexer.specs.Lexis.{at, is_equals, piece_of}
use Rattle.lua_reading.specs.LuaGrammarDeclaredTokenClass.{TokenClass}
use Rattle.lua_reading.specs.LuaGrammarDeclaredTokenClassTheVariants.{LeftBracket, Dot}
use Rattle.lua_token_laws.proofs.PieceStays.{lf_ends, space_ends}
use Rattle.lua_print.specs.declared.items.Gap.{Gap}
use Rattle.lua_print.specs.declared.items.Gap.TheVariants.{First, Beside, Below, Apart}
use Rattle.lua_print.specs.Items.{Item, item, items_from, items_of}
use Rattle.lua_print.specs.Layout.{is_tight, level, one_more, is_opening, is_closing, indent, before_item, laid_from, laid}
use Rattle.lua_print.proofs.Readings.{Reads, read_item, read_space, read_line, read_lines, read_end, read_all}
use Rattle.lua_print.proofs.ItemStays.{Sound, IsLine, Before, CanPrecede, CanFollow, Well, bytes_some, bytes_size, bytes_dark, stands_end, tight_stands}

-- How an item may stand behind another.
pub record Joint (i j : Item) (s : Sound i) : Type 0 where
  pub later : j.gap ≢ First
  pub line : IsLine i s → j.gap ≢ Beside
  pub dot_behind : j.class ≡ Some Dot → CanPrecede i.class
  pub behind_dot : i.class ≡ Some Dot → CanFollow j.class
  pub behind_bracket : i.class ≡ Some LeftBracket → is_equals (at j.bytes 0) ≡ false

-- Items behind one.
abbrev pub Behind : (i : Item) → Sound i → List Item → Type 0
Behind i s [] = Unit {0}
Behind i s (j ∷ js) = (t : Sound j) × Joint i j s × Behind j t js

-- Items of which the first is the first of a text.
abbrev pub Row : List Item → Type 0
Row [] = Unit {0}
Row (i ∷ is) = (s : Sound i) × (i.gap ≡ First) × Behind i s is

-- ---- what is put behind an item

well : (i j : Item) (s : Sound i) → Joint i j s → j.gap ≡ Beside → Well i j s
well i j s t e = record { line = λ l. t.line l e; dot_behind = t.dot_behind; behind_dot = t.behind_dot; behind_bracket = t.behind_bracket }

-- An item in front of the next, with the gap between them.
module _ (i j : Item) (s : Sound i) (t : Sound j) (joint : Joint i j s) (more : List ℕ) (n : ℕ) where
  abbrev between : Gap → Bool → List ℕ
  between gap tight = before_item gap n tight ++ j.bytes ++ more

  beside_stands : (tight : Bool) → is_tight i.class j.class j.bytes ≡ tight → j.gap ≡ Beside → Before i s (between Beside tight)
  beside_stands true e g = tight_stands i j s t more (well i j s joint g) e
  beside_stands false e g = stands_end i s (32 ∷ (j.bytes ++ more)) space_ends (λ l. absurd (joint.line l g))

  pub gap_stands : (gap : Gap) → j.gap ≡ gap → Before i s (between gap (is_tight i.class j.class j.bytes))
  gap_stands First e = absurd (joint.later e)
  gap_stands Beside e = beside_stands (is_tight i.class j.class j.bytes) refl e
  gap_stands Below e = stands_end i s ((10 ∷ indent n) ++ j.bytes ++ more) lf_ends (λ l. refl)
  gap_stands Apart e = stands_end i s ((10 ∷ 10 ∷ indent n) ++ j.bytes ++ more) lf_ends (λ l. refl)

  -- What is read of the gap and the next item.
  module _ (js : List Item) (reads : (gap : Gap) → Reads gap (j.bytes ++ more) (item gap j.class j.bytes ∷ js)) where
    dark : is_white (at (j.bytes ++ more) 0) ≡ false
    dark = ap is_white (get_or_append_left j.bytes more 256 0 (bytes_some j t)) ∙ bytes_dark j t

    beside_reads : (tight : Bool) → Reads Beside (between Beside tight) (item Beside j.class j.bytes ∷ js)
    beside_reads true = reads Beside
    beside_reads false = read_space (j.bytes ++ more) (item Beside j.class j.bytes ∷ js) dark (reads Beside)

    gap_reads : (gap : Gap) (tight : Bool) → (gap ≡ First → ⊥) → Reads Beside (between gap tight) (item gap j.class j.bytes ∷ js)
    gap_reads First tight later = absurd (later refl)
    gap_reads Beside tight later = beside_reads tight
    gap_reads Below tight later = subst (λ (t : List ℕ). Reads Beside t (item Below j.class j.bytes ∷ js)) (sym (append_assoc (10 ∷ indent n) j.bytes more)) (read_line n (j.bytes ++ more) (item Below j.class j.bytes ∷ js) dark (reads Below))
    gap_reads Apart tight later = subst (λ (t : List ℕ). Reads Beside t (item Apart j.class j.bytes ∷ js)) (sym (append_assoc (10 ∷ 10 ∷ indent n) j.bytes more)) (read_lines n (j.bytes ++ more) (item Apart j.class j.bytes ∷ js) dark (reads Apart))

-- ---- all items

-- An item that stands in front of what is behind it is read, and then the rest.
read_sound : (i : Item) (s : Sound i) (gap : Gap) (rest : List ℕ) (is : List Item) → Before i s rest → Reads Beside rest is → Reads gap (i.bytes ++ rest) (item gap i.class i.bytes ∷ is)
read_sound i s gap rest is stands reads =
    let found : piece_of (i.bytes ++ rest) ≡ Ok (record { kind = s.kind; size = length i.bytes }) = stands ∙ ap (λ (n : ℕ). Ok (record { kind = s.kind; size = n })) (sym (bytes_size i s)) in
    subst (λ (c : Option TokenClass). Reads gap (i.bytes ++ rest) (item gap c i.bytes ∷ is)) (sym s.class_is)
    (read_item gap s.kind i.bytes rest is (bytes_some i s) (bytes_dark i s) found reads)

reads_from : (js : List Item) (o c : ℕ) (i : Item) (s : Sound i) → Behind i s js → (gap : Gap) → Reads gap (i.bytes ++ laid_from o c i.class js) (item gap i.class i.bytes ∷ js)
reads_from [] o c i s b gap = read_sound i s gap (10 ∷ []) [] (stands_end i s (10 ∷ []) lf_ends (λ l. refl)) read_end
reads_from (j ∷ js) o c i s (t, joint, b) gap =
    let more : List ℕ = laid_from (one_more (is_opening j.class) o) (one_more (is_closing j.class) c) j.class js in
    let n : ℕ = level o c j.class in
    read_sound i s gap (laid_from o c i.class (j ∷ js)) (j ∷ js)
    (gap_stands i j s t joint more n j.gap refl)
    (gap_reads i j s t joint more n js (λ g. reads_from js (one_more (is_opening j.class) o) (one_more (is_closing j.class) c) j t b g) j.gap (is_tight i.class j.class j.bytes) joint.later)

-- What is laid out is read as the items that were.
pub laid_reads : (items : List Item) → Row items → Reads First (laid items) items
unfolding items_from
laid_reads [] r = ([], refl, refl)
laid_reads (i ∷ is) (s, first, b) =
    let opened : ℕ = one_more (is_opening i.class) 0 in
    let closed : ℕ = one_more (is_closing i.class) 0 in
    let text : laid (i ∷ is) ≡ i.bytes ++ laid_from opened closed i.class is = ap (λ (g : Gap). before_item g (level 0 0 i.class) (is_tight None i.class i.bytes) ++ i.bytes ++ laid_from opened closed i.class is) first in
    let same : item First i.class i.bytes ≡ i = ap (λ (g : Gap). item g i.class i.bytes) (sym first) in
    subst (λ (t : List ℕ). Reads First t (i ∷ is)) (sym text)
    (subst (λ (x : Item). Reads First (i.bytes ++ laid_from opened closed i.class is) (x ∷ is)) same (reads_from is opened closed i s b First))

pub laid_items : (items : List Item) → Row items → items_of (laid items) ≡ items
laid_items items r = read_all (laid items) items (laid_reads items r)
