-- WHAT IS PREPARED OF A PAGE: its text cut and paired in both modes, and of a page of namespace Module the code of its text, or the text's first
-- fault.
use Rattle.std.specs.Prelude.{◌≡◌, ℕ, Bool, true, false, List, [], ◌∷◌, Option, Some, None, Result}
use Rattle.lua_code.specs.WkBaseTitles.{is_module}
use Rattle.lua_parser.specs.LuaSyntaxDeclaredFaultFaultAt.{FaultAt}
use Rattle.lua_code.specs.declared.proto.Protos.{Protos}
use Rattle.lua_code.specs.Held.{code_seen}
use Rattle.wiki_texts.specs.declared.raw.RawPage.{RawPage}
use Rattle.wiki_texts.specs.declared.prepared.Prepared.{Prepared}
use Rattle.wiki_texts.specs.Pages.{entry_of}
use Rattle.wiki_texts.specs.Code.{IsCodeOf}

-- a page of another namespace has no code
abbrev pub IsCodeOfPage : Bool → List ℕ → Option (Result Protos FaultAt) → Type 0
IsCodeOfPage false text None = Unit {0}
IsCodeOfPage true text (Some code) = IsCodeOf text (code_seen code)
IsCodeOfPage _ _ _ = ⊥

pub record IsPrepared (page : RawPage) (p : Prepared) : Type 0 where
  pub entry : p.entry ≡ entry_of page.bytes
  pub code : IsCodeOfPage (is_module page.title.ns) page.bytes p.code

-- of each page of a list, in order
abbrev pub ArePrepared : List RawPage → List Prepared → Type 0
ArePrepared [] [] = Unit {0}
ArePrepared (page ∷ pages) (p ∷ ps) = IsPrepared page p × ArePrepared pages ps
ArePrepared _ _ = ⊥
