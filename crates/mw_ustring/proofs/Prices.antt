-- What a pattern that was read answers over code points.
use Rattle.std.proofs.Common.{◌≡◌, ℕ, ◌-◌, Bool, true, false, nat_le, List, length, drop, true≢false, sym, subst}
use Rattle.lua_string.specs.LuaPatternDeclaredPatternMatch.{Match}
use Rattle.lua_string.specs.LuaPatternDeclaredPatternSearch.{Search}
use Rattle.lua_string.specs.LuaPatternDeclaredPatternSearchTheVariants as search
use Rattle.lua_string.specs.LuaPatternDeclaredSlotsSlot.{Slot}
use Rattle.lua_string.specs.LuaPatternDeclaredItemItem.{Item}
use Rattle.lua_string.specs.LuaPatternDeclaredReadPatternFault.{PatternFault}
use Rattle.lua_string.specs.LuaPatternWay.{first}
use Rattle.lua_string.specs.LuaPatternFound.{IsSearch}
use Rattle.lua_string.specs.LuaPatternRead.{Read, Fine, read_of, codes}
use Rattle.lua_string.specs.LuaPatternReads.{IsReadFault}
use Rattle.lua_string.specs.LuaPatternTexts.{points}
use Rattle.lua_string.specs.Finds.{IsPriced, IsPlain, place_of}
use Rattle.lua_string.proofs.Prices.{price_found, price_exceeds, price_none, price_spent}
use Rattle.mw_ustring.specs.Finds.{AnswersRead, Answers, Finds, IsFindFault}

module _ (size : Match → ℕ) (budget : ℕ) (s pattern : List ℕ) (from : ℕ) (anchored : Bool) (items : List Item) (slots : List Slot) where
  answer : (found : Search) → read_of (codes points pattern) ≡ Fine anchored items slots
      → IsPriced size budget slots (first points anchored items s from) found → Answers size budget s pattern from found
  answer found er h = let P : Read → Type 0 = λ r. AnswersRead size budget s from r found in subst P (sym er) h

  pub answer_found : (m : Match) (tries : ℕ) → read_of (codes points pattern) ≡ Fine anchored items slots
      → IsSearch budget slots (first points anchored items s from) (search.Found m tries) → nat_le (size m) (budget - tries) ≡ true → Answers size budget s pattern from (search.Found m tries)
  answer_found m tries er h fits = answer (search.Found m tries) er (price_found size budget slots (first points anchored items s from) m tries h fits)

  pub answer_exceeds : (m : Match) (tries : ℕ) → read_of (codes points pattern) ≡ Fine anchored items slots
      → IsSearch budget slots (first points anchored items s from) (search.Found m tries) → nat_le (size m) (budget - tries) ≡ false → Answers size budget s pattern from search.Spent
  answer_exceeds m tries er h fits = answer search.Spent er (price_exceeds size budget slots (first points anchored items s from) m tries h fits)

  pub answer_none : (tries : ℕ) → read_of (codes points pattern) ≡ Fine anchored items slots
      → IsSearch budget slots (first points anchored items s from) (search.NotFound tries) → Answers size budget s pattern from (search.NotFound tries)
  answer_none tries er h = answer (search.NotFound tries) er (price_none size budget slots (first points anchored items s from) tries h)

  pub answer_spent : read_of (codes points pattern) ≡ Fine anchored items slots
      → IsSearch budget slots (first points anchored items s from) search.Spent → Answers size budget s pattern from search.Spent
  answer_spent er h = answer search.Spent er (price_spent size budget slots (first points anchored items s from) h)

pub find_pattern : (size : Match → ℕ) (plain : Bool) (budget : ℕ) (s pattern : List ℕ) (from : ℕ) (found : Search) → plain ≡ false
    → Answers size budget s pattern from found → Finds size plain budget s pattern from found
find_pattern size false budget s pattern from found e h = h
find_pattern size true budget s pattern from found e h = absurd (true≢false e)

pub find_plain : (size : Match → ℕ) (plain : Bool) (budget : ℕ) (s pattern : List ℕ) (from : ℕ) (found : Search) → plain ≡ true
    → IsPlain from (length pattern) (place_of pattern (drop from s)) found → Finds size plain budget s pattern from found
find_plain size true budget s pattern from found e h = h
find_plain size false budget s pattern from found e h = absurd (true≢false (sym e))

pub find_fault : (plain : Bool) (pattern : List ℕ) (e : PatternFault) → plain ≡ false → IsReadFault (read_of (codes points pattern)) e → IsFindFault plain pattern e
find_fault false pattern e is h = h
find_fault true pattern e is h = absurd (true≢false is)
