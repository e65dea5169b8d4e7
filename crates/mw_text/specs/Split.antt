-- SPLIT (Scribunto manual, mw.text.split, mw.text.gsplit): the parts of a text between the matches of a pattern over code
-- points, or between the places of a plain text. All places are bytes.
use Rattle.std.specs.Prelude.{◌≡◌, ℕ, zero, suc, ◌+◌, ◌-◌, ◌<◌, ◌≤◌, Bool, true, false, nat_lt, if◌then◌else◌, List, [], ◌∷◌, length, take, drop, Option, Some, None, Result, Ok, Err, IsUtf8, IsCharBoundary, IfSome}
use Rattle.std.specs.Option.{option_map}
use Rattle.mw_ustring.specs.LuaPatternDeclaredItemItem.{Item}
use Rattle.mw_ustring.specs.LuaPatternDeclaredPatternSearch.{Search}
use Rattle.mw_ustring.specs.LuaPatternDeclaredPatternSearchTheVariants as search
use Rattle.mw_ustring.specs.LuaPatternDeclaredReadPatternFault.{PatternFault}
use Rattle.mw_ustring.specs.LuaPatternDeclaredReadPatternFaultTheVariants as fault
use Rattle.mw_ustring.specs.LuaPatternLetters.{Symbol}
use Rattle.mw_ustring.specs.LuaPatternTexts.{points}
use Rattle.mw_ustring.specs.LuaPatternWay.{Answer, At, Nowhere, first}
use Rattle.mw_ustring.specs.LuaPatternRead.{Read, Fault, Fine, read_of, codes}
use Rattle.mw_ustring.specs.LuaStringFinds.{place_of}
use Rattle.mw_text.specs.declared.answers.PartsAnswer.{PartsAnswer}
use Rattle.mw_text.specs.declared.splitting.Part.{Part}
use Rattle.mw_text.specs.declared.splitting.PartAnswer.{PartAnswer}
use Rattle.mw_text.specs.declared.splitting.PartAnswer.TheVariants as answer
use Rattle.mw_text.specs.declared.splitting.Separator.{Separator}
use Rattle.mw_text.specs.declared.splitting.Separator.TheVariants as separator
use Rattle.mw_text.specs.Answers.{IsParts}

-- ---- what stands between the parts

-- a text as it is, or the items of a pattern, anchored or not
pub data Sought : Type 0 where
  Plain : List ℕ → Sought
  Items : Bool → List Item → Sought

abbrev pub sought_in : Read → Result Sought ℕ
sought_in (Fault n) = Err n
sought_in (Fine anchored items slots) = Ok (Items anchored items)

abbrev pub sought_by : Bool → List ℕ → Result Sought ℕ
sought_by true pattern = Ok (Plain pattern)
sought_by false pattern = sought_in (read_of (codes points pattern))

abbrev pub sought_of : Separator → Sought
sought_of (separator.Plain needle) = Plain needle.now
sought_of (separator.Pattern pattern) = Items pattern.anchored pattern.items

-- A plain text is in UTF-8.
abbrev pub IsSeparator : Sought → Type 0
IsSeparator (Plain needle) = IsUtf8 needle
IsSeparator (Items anchored items) = Unit {0}

-- The fault is the one with this number, or memory ran out.
abbrev pub IsSoughtFault : Result Sought ℕ → PatternFault → Type 0
IsSoughtFault sought (fault.At n) = sought ≡ Err n
IsSoughtFault sought fault.NoMemory = Unit {0}

-- ---- where it is found

-- the first place from a place on, if there is one: its start and its end, with the tries
pub record Found : Type 0 where
  pub span : Option (ℕ × ℕ)
  pub tries : ℕ

abbrev pub match_found : Answer → Found
match_found (At start end marks n) = record { span = Some (start, end); tries = n }
match_found (Nowhere n) = record { span = None; tries = n }

-- A plain text is found without tries.
abbrev pub found_from : Sought → List ℕ → ℕ → Found
found_from (Plain needle) s from = record {
  span = option_map (λ k. (from + k, from + k + length needle)) (place_of needle (drop from s));
  tries = 0;
}
found_from (Items anchored items) s from = match_found (first points anchored items s from)

-- what a search tells of it
abbrev pub IsMet : ℕ → Found → Search → Type 0
IsMet budget found (search.Found m n) = (found.tries ≤ budget) × (found.span ≡ Some (m.start, m.end)) × (n ≡ found.tries)
IsMet budget found (search.NotFound n) = (found.tries ≤ budget) × (found.span ≡ None) × (n ≡ found.tries)
IsMet budget found search.Spent = budget < found.tries

-- ---- one part

-- An empty match ends its part after the code point that follows it, if there is one. The search goes on there, or the list
-- ends where no code point is left.
abbrev pub after_empty : ℕ → ℕ → List Symbol → Part
after_empty place n [] = record { stop = place; next = None; tries = n }
after_empty place n (c ∷ []) = record { stop = place + c.size; next = None; tries = n }
after_empty place n (c ∷ (d ∷ cs)) = record { stop = place + c.size; next = Some (place + c.size); tries = n }

-- After a match that isn't empty the search goes on at its end.
abbrev pub cut_at : List ℕ → ℕ → ℕ → ℕ → Part
cut_at s start end n =
    if nat_lt start end then record { stop = start; next = Some end; tries = n }
    else after_empty start n (points.symbols (drop start s))

-- where a part ends, and where the next one begins; without a match the rest is the last part, also an empty one
abbrev pub cut : List ℕ → Option (ℕ × ℕ) → ℕ → Part
cut s None n = record { stop = length s; next = None; tries = n }
cut s (Some span) n = cut_at s span.0 span.1 n

-- THE PART that begins at a place
abbrev pub part_from : Sought → List ℕ → ℕ → Part
part_from sought s from = let found = found_from sought s from in cut s found.span found.tries

abbrev pub slice : List ℕ → ℕ → ℕ → List ℕ
slice s from to = take (to - from) (drop from s)

-- Within a budget: the part and the tries up to its end.
abbrev pub IsPart : ℕ → List ℕ → ℕ → Part → PartAnswer → Type 0
IsPart budget s from part (answer.Part given) = (part.tries + length (slice s from part.stop) ≤ budget) × (given ≡ part)
IsPart budget s from part answer.Spent = budget < part.tries + length (slice s from part.stop)

-- The places of a part: code points begin there, and the next part begins behind this one's beginning.
abbrev pub IsNext : List ℕ → ℕ → Option ℕ → Type 0
IsNext s from next = IfSome next (λ n. (from < n) × IsCharBoundary s n)

abbrev pub PartEnds : List ℕ → ℕ → Part → Type 0
PartEnds s from part = (from ≤ part.stop) × IsCharBoundary s part.stop × IsNext s from part.next

abbrev pub HasEnds : List ℕ → ℕ → PartAnswer → Type 0
HasEnds s from (answer.Part part) = PartEnds s from part
HasEnds s from answer.Spent = Unit {0}

-- what a call of the iterator gives
abbrev pub IsNextPart : ℕ → List ℕ → ℕ → Result Sought ℕ → PartAnswer → Type 0
IsNextPart budget s from (Err n) given = ⊥
IsNextPart budget s from (Ok sought) given = IsPart budget s from (part_from sought s from) given

-- ---- all parts, with the tries

-- a part in front of what the later places give
abbrev pub in_front : ℕ → List ℕ → ℕ × List (List ℕ) → ℕ × List (List ℕ)
in_front n part later = (n + later.0, part ∷ later.1)

abbrev pub and_later : (ℕ → ℕ × List (List ℕ)) → ℕ → List ℕ → Option ℕ → ℕ × List (List ℕ)
and_later later n part None = (n, part ∷ [])
and_later later n part (Some next) = in_front n part (later next)

-- The search goes on behind each place, so that there are at most as many parts as there are places.
abbrev pub parts_from : (ℕ → Part) → List ℕ → ℕ → ℕ → ℕ × List (List ℕ)
parts_from part s zero from = (0, [])
parts_from part s (suc more) from =
    let p = part from in and_later (λ next. parts_from part s more next) p.tries (slice s from p.stop) p.next

unfoldable pub parts_of : Sought → List ℕ → ℕ × List (List ℕ)
parts_of sought s = parts_from (part_from sought s) s (suc (length s)) 0

abbrev pub IsSplit : ℕ → List ℕ → Result Sought ℕ → PartsAnswer → Type 0
IsSplit budget s (Err n) given = ⊥
IsSplit budget s (Ok sought) given = IsParts budget (parts_of sought s) given
