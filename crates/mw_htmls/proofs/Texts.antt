-- The texts of `wikitext`, read one after another.
use Rattle.std.proofs.lemmas.List.{map-append}
use Rattle.std.proofs.Common.{◌≡◌, ◌∙◌, ap, sym, refl, ℕ, ◌+◌, true, false, List, [], ◌∷◌, ◌++◌, map, append_assoc, Option, Some, None, Ok, Err, codes}
use Rattle.std.specs.Option.{option_map}
use Rattle.lua_strings.specs.LuaHeapValue as kind
use Rattle.lua_strings.specs.LuaHeapValue.{Value, is_nil}
use Rattle.lua_strings.specs.LuaMeaningScope.{Bytes}
use Rattle.lua_strings.specs.LuaMeaningValues.{text_in}
use Rattle.lua_strings.specs.LuaMeaningMessages.{bad_argument, expected}
use Rattle.lua_strings.specs.LuaMeaningArguments.{Argument, some_text, a_text}
use Rattle.lua_strings.specs.LuaMeaningChecks.{and_those}
use Rattle.lua_strings.specs.LuaMeaningHtml.{texts_from}
use Rattle.lua_strings.specs.LuaBasicDeclaredTextsTextIn.{TextIn}
use Rattle.lua_strings.specs.LuaBasicArguments.{text_bytes}
use Rattle.lua_strings.proofs.Numbered.{behind, all-read}

-- nil ends them
texts-nil : (n : ℕ) (v : Value) (more : List Value) → is_nil v ≡ true → texts_from n (v ∷ more) ≡ Ok []
texts-nil n kind.Nil more h = refl
texts-nil n v more h = absurd cc

pub text_ends : (done : List Bytes) (n : ℕ) (v : Value) (more : List Value) (whole : Argument (List Bytes)) → is_nil v ≡ true → behind done (texts_from n (v ∷ more)) ≡ whole → whole ≡ Ok done
text_ends done n v more whole h e = all-read done whole (sym (ap (behind done) (texts-nil n v more h)) ∙ e)

-- another value is a text, or none
texts-value : (n : ℕ) (v : Value) (more : List Value) → is_nil v ≡ false → texts_from n (v ∷ more) ≡ and_those (a_text n (codes "wikitext") (v ∷ more)) (texts_from (n + 1) more)
texts-value n kind.Nil more h = absurd cc
texts-value n v more h = refl

abbrev found : ℕ → List Value → Option Bytes → Argument Bytes
found n given o = some_text n (codes "wikitext") given o

pub text_missing : (done : List Bytes) (n : ℕ) (v : Value) (more : List Value) (whole : Argument (List Bytes)) → is_nil v ≡ false → (o : Option TextIn) → option_map text_bytes o ≡ text_in v → o ≡ None
    → behind done (texts_from n (v ∷ more)) ≡ whole → whole ≡ Err (bad_argument n (codes "wikitext") (expected (codes "string") (v ∷ more)))
text_missing done n v more whole h o is none e =
    let missing : text_in v ≡ None = sym is ∙ ap (option_map text_bytes) none in
    sym e ∙ ap (behind done) (texts-value n v more h) ∙ ap (λ t. behind done (and_those (found n (v ∷ more) t) (texts_from (n + 1) more))) missing

one-behind : (done : List Bytes) (x : Bytes) (a : Argument (List Bytes)) → behind done (and_those (Ok x) a) ≡ behind (done ++ x ∷ []) a
one-behind done x (Ok more) = ap Ok (sym (append_assoc done (x ∷ []) more))
one-behind done x (Err message) = refl

pub text_read : (done after : List TextIn) (n m : ℕ) (v : Value) (more : List Value) (whole : Argument (List Bytes)) (t : TextIn) → is_nil v ≡ false → (o : Option TextIn) → option_map text_bytes o ≡ text_in v → o ≡ Some t
    → m ≡ n + 1 → after ≡ done ++ t ∷ [] → behind (map text_bytes done) (texts_from n (v ∷ more)) ≡ whole → behind (map text_bytes after) (texts_from m more) ≡ whole
text_read done after n m v more whole t h o is some next pushed e =
    let there : text_in v ≡ Some (text_bytes t) = sym is ∙ ap (option_map text_bytes) some in
    let rest = texts_from (n + 1) more in
    ap (λ i. behind (map text_bytes after) (texts_from i more)) next ∙ ap (λ xs. behind (map text_bytes xs) rest) pushed ∙ ap (λ xs. behind xs rest) (map-append text_bytes done (t ∷ []))
    ∙ sym (one-behind (map text_bytes done) (text_bytes t) rest) ∙ sym (ap (λ b. behind (map text_bytes done) (and_those (found n (v ∷ more) b) rest)) there) ∙ sym (ap (behind (map text_bytes done)) (texts-value n v more h)) ∙ e
