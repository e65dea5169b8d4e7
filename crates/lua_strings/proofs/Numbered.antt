-- All arguments of a function, read one after another.
use Rattle.std.proofs.Common.{◌≡◌, ◌∙◌, ap, sym, refl, ℕ, ◌+◌, ℤ, true, unsigned_abs, List, [], ◌∷◌, ◌++◌, append_assoc, append-nil, Some, None, Ok, Err, codes}
use Rattle.std.specs.Prelude.{Option, if◌then◌else◌}
use Rattle.lua_string.specs.Texts.{is_code}
use Rattle.lua_basic.specs.LuaHeapValue.{Value}
use Rattle.lua_basic.specs.LuaMeaningScope.{Bytes}
use Rattle.lua_basic.specs.LuaMeaningValues.{number_in}
use Rattle.lua_basic.specs.LuaMeaningMessages.{bad_argument, expected}
use Rattle.lua_basic.specs.LuaMeaningArguments.{Argument, some_number}
use Rattle.lua_basic.specs.LuaMeaningChecks.{out_of_range, code_in, and_those, codes_from, numbers_from}
use Rattle.lua_strings.specs.Found.{number_code, code_of, codes_of}

-- those that were read, in front of those that are still to read
abbrev pub behind : {A : Type 0} → List A → Argument (List A) → Argument (List A)
behind done (Ok more) = Ok (done ++ more)
behind done (Err message) = Err message

pub behind-none : {A : Type 0} (a : Argument (List A)) → behind [] a ≡ a
behind-none (Ok more) = refl
behind-none (Err message) = refl

pub all-read : {A : Type 0} (done : List A) (whole : Argument (List A)) → behind done (Ok []) ≡ whole → whole ≡ Ok done
all-read done whole e = sym e ∙ ap Ok (append-nil done)

one-behind : {A : Type 0} (done : List A) (x : A) (a : Argument (List A)) → behind done (and_those (Ok x) a) ≡ behind (done ++ x ∷ []) a
one-behind done x (Ok more) = ap Ok (sym (append_assoc done (x ∷ []) more))
one-behind done x (Err message) = refl

-- NUMBERS
pub number-read : (done after : List ℤ) (n m : ℕ) (function : Bytes) (v : Value) (vs : List Value) (z : ℤ) (whole : Argument (List ℤ)) → m ≡ n + 1 → after ≡ done ++ z ∷ [] → number_in v ≡ Some z
    → behind done (numbers_from n function (v ∷ vs)) ≡ whole → behind after (numbers_from m function vs) ≡ whole
number-read done after n m function v vs z whole next is number e =
    let more = numbers_from (n + 1) function vs in
    ap (λ i. behind after (numbers_from i function vs)) next ∙ ap (λ xs. behind xs more) is ∙ sym (one-behind done z more)
    ∙ sym (ap (λ o. behind done (and_those (some_number n function (v ∷ vs) o) more)) number) ∙ e

pub number-missing : (done : List ℤ) (n : ℕ) (function : Bytes) (v : Value) (vs : List Value) (whole : Argument (List ℤ)) → number_in v ≡ None
    → behind done (numbers_from n function (v ∷ vs)) ≡ whole → whole ≡ Err (bad_argument n function (expected (codes "number") (v ∷ vs)))
number-missing done n function v vs whole number e =
    sym e ∙ ap (λ o. behind done (and_those (some_number n function (v ∷ vs) o) (numbers_from (n + 1) function vs))) number

-- CODES
abbrev coded : ℕ → Bytes → List Value → Option ℤ → Argument ℕ
coded n function given o = code_in n function (some_number n function given o)

-- of all values those in front are codes, and `vs`, from number n on, are still to check
abbrev pub CheckedTo : ℕ → List Value → List Value → Type 0
CheckedTo n vs all =
    (done : Bytes) × ((function : Bytes) → behind done (codes_from n function vs) ≡ codes_from 1 function all) × (done ++ codes_of vs ≡ codes_of all)

pub none_checked : (all : List Value) → CheckedTo 1 all all
none_checked all = ([], λ function. behind-none (codes_from 1 function all), refl)

pub one_checked : (n m : ℕ) (v : Value) (vs all : List Value) (z : ℤ) → m ≡ n + 1 → number_in v ≡ Some z → is_code z ≡ true → CheckedTo n (v ∷ vs) all → CheckedTo m vs all
one_checked n m v vs all z next number code (done, whole, made) =
    let byte = unsigned_abs z in
    let same : code_of v ≡ byte = ap number_code number ∙ ap (λ (b : _). if b then byte else 0) code in (
      done ++ byte ∷ [],
      λ function.
          let more = codes_from (n + 1) function vs in
          let read : coded n function (v ∷ vs) (number_in v) ≡ Ok byte = ap (coded n function (v ∷ vs)) number ∙ ap (λ (b : _). if b then Ok byte else Err (out_of_range n function)) code in
          ap (λ i. behind (done ++ byte ∷ []) (codes_from i function vs)) next ∙ sym (one-behind done byte more) ∙ sym (ap (λ a. behind done (and_those a more)) read) ∙ whole function,
      append_assoc done (byte ∷ []) (codes_of vs) ∙ sym (ap (λ c. done ++ c ∷ codes_of vs) same) ∙ made,
    )
