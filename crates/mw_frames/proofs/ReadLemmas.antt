-- Entries that are read as arguments, one after another.
use Rattle.std.specs.Prelude.{if◌then◌else◌}
use Rattle.std.proofs.Common.{◌≡◌, ◌∙◌, ap, sym, refl, true, false, List, [], ◌∷◌, ◌++◌, append_assoc, append-nil, Ok, Err}
use Rattle.std.proofs.Common.{ℕ, ◌+◌, Bool, Option, Some, None, subst, arith}
use Rattle.lua_basic.specs.LuaHeapValue.{Value, Nil, Truth, Number, Text, Table, Closure, Builtin, Markup, is_nil}
use Rattle.lua_basic.specs.LuaHeapTable.{Entries}
use Rattle.lua_basic.specs.LuaMeaningScope.{Bytes}
use Rattle.lua_basic.specs.LuaMeaningValues.{text_in}
use Rattle.lua_basic.specs.LuaMeaningArguments.{Argument, unless_refused, passed as passed_in}
use Rattle.lua_basic.specs.LuaMeaningTag.{named_attribute, entry_attribute}
use Rattle.lua_basic.specs.LuaMeaningFrameMethods.{read_args, entry_arg, arg_of, arg_value, in_front}
use Rattle.mw_frame.specs.declared.scene.Arg.{Arg}
use Rattle.mw_frames.specs.declared.reading.ArgText.{ArgText}
use Rattle.std.specs.Prelude.{Result}
use Rattle.mw_frame.specs.WkBaseDeclaredLeftLeft.{Left}
use Rattle.lua_basic.specs.declared.stop.Stop.{Stop}
use Rattle.lua_basic.specs.declared.stop.Stop.TheVariants as stop
use Rattle.mw_frames.specs.Costs.{Took, Unpaid, MayPay, SoFar}
use Rattle.mw_frames.proofs.Sums.{took_none, took_then, lacked_then, took-more}
use Rattle.mw_frames.specs.Reading.{IsPassed, passing, arg_seen, args_seen, is_read, behind}

behind-front : (done : List Arg) (a : Arg) (r : Argument (List Arg)) → behind (done ++ a ∷ []) r ≡ behind done (in_front (Ok a) r)
behind-front done a (Ok more) = ap Ok (append_assoc done (a ∷ []) more)
behind-front done a (Err message) = refl

args-push : (xs : List ArgText) (x : ArgText) → args_seen (xs ++ x ∷ []) ≡ args_seen xs ++ arg_seen x ∷ []
args-push [] x = refl
args-push (y ∷ ys) x = ap (λ l. arg_seen y ∷ l) (args-push ys x)

pub nothing-before : (r : Argument (List Arg)) → behind [] r ≡ r
nothing-before (Ok more) = refl
nothing-before (Err message) = refl

live : (e : Value × Value) (more : Entries) → is_nil e.1 ≡ false → read_args (e ∷ more) ≡ in_front (arg_of (text_in e.0) (arg_value e.1)) (read_args more)
live e more h = rw h refl

pub passed : (xs : List Arg) (e : Value × Value) (more : Entries) → is_nil e.1 ≡ true → behind xs (read_args more) ≡ behind xs (read_args (e ∷ more))
passed xs e more h = rw h refl

pub taken : (xs ys : List ArgText) (x : ArgText) (e : Value × Value) (more : Entries) → is_nil e.1 ≡ false → arg_of (text_in e.0) (arg_value e.1) ≡ Ok (arg_seen x) → ys ≡ xs ++ x ∷ []
    → behind (args_seen ys) (read_args more) ≡ behind (args_seen xs) (read_args (e ∷ more))
taken xs ys x e more h a y =
    let rest = read_args more in
    ap (λ l. behind (args_seen l) rest) y ∙ ap (λ l. behind l rest) (args-push xs x) ∙ behind-front (args_seen xs) (arg_seen x) rest
    ∙ ap (λ r. behind (args_seen xs) (in_front r rest)) (sym a) ∙ ap (behind (args_seen xs)) (sym (live e more h))

pub refused : (xs : List Arg) (e : Value × Value) (more : Entries) (message : Bytes) → is_nil e.1 ≡ false → arg_of (text_in e.0) (arg_value e.1) ≡ Err message → behind xs (read_args (e ∷ more)) ≡ Err message
refused xs e more message h a = ap (behind xs) (live e more h) ∙ ap (λ r. behind xs (in_front r (read_args more))) a

pub all-read : (xs : List Arg) (es : Entries) → es ≡ [] → behind xs (read_args es) ≡ Ok xs
all-read xs es e = ap (λ l. behind xs (read_args l)) e ∙ ap Ok (append-nil xs)

-- CLEARED ENTRIES that are passed
module _ {A : Type 0} (reads : Value × Value → Argument A) where
  pub past-cleared : (e : Value × Value) (more : Entries) → is_nil e.1 ≡ true → passed_in reads (e ∷ more) ≡ 1 + passed_in reads more
  past-cleared e more h = rw h refl

  past-live : (e : Value × Value) (more : Entries) → is_nil e.1 ≡ false → passed_in reads (e ∷ more) ≡ unless_refused (reads e) (passed_in reads more)
  past-live e more h = rw h refl

  kept : (a : Argument A) (n : ℕ) → is_read a ≡ true → unless_refused a n ≡ n
  kept (Ok x) n h = refl
  kept (Err message) n h = absurd cc

  ended : (a : Argument A) (n : ℕ) → is_read a ≡ false → unless_refused a n ≡ 0
  ended (Ok x) n h = absurd cc
  ended (Err message) n h = refl

  pub past-read : (e : Value × Value) (more : Entries) → is_nil e.1 ≡ false → is_read (reads e) ≡ true → passed_in reads (e ∷ more) ≡ passed_in reads more
  past-read e more h r = past-live e more h ∙ kept (reads e) (passed_in reads more) r

  pub past-none : (e : Value × Value) (more : Entries) → is_nil e.1 ≡ false → is_read (reads e) ≡ false → passed_in reads (e ∷ more) ≡ 0
  past-none e more h r = past-live e more h ∙ ended (reads e) (passed_in reads more) r

-- an entry is an argument where it is an attribute
alike : (o : Option Bytes) (k v : Value) → is_read (arg_of o (arg_value v)) ≡ is_read (named_attribute o (k, v))
alike None k v = refl
alike (Some name) k Nil = refl
alike (Some name) k (Truth true) = refl
alike (Some name) k (Truth false) = refl
alike (Some name) k (Number n) = refl
alike (Some name) k (Text t) = refl
alike (Some name) k (Table t) = refl
alike (Some name) k (Closure c) = refl
alike (Some name) k (Builtin b) = refl
alike (Some name) k (Markup m) = refl

unless-alike : {A B : Type 0} (a : Argument A) (b : Argument B) (n k : ℕ) → is_read a ≡ is_read b → n ≡ k → unless_refused a n ≡ unless_refused b k
unless-alike (Ok a) (Ok b) n k h e = e
unless-alike (Err a) (Err b) n k h e = refl
unless-alike (Ok a) (Err b) n k h e = absurd cc
unless-alike (Err a) (Ok b) n k h e = absurd cc

if-alike : (b : Bool) (x y z w : ℕ) → x ≡ y → z ≡ w → (if b then x else z) ≡ (if b then y else w)
if-alike true x y z w e f = e
if-alike false x y z w e f = f

pub passed-alike : (es : Entries) → passed_in entry_arg es ≡ passed_in entry_attribute es
passed-alike [] = refl
passed-alike (e ∷ more) =
    let rest = passed-alike more in
    if-alike (is_nil e.1) _ _ _ _ (ap (λ (n : ℕ). 1 + n) rest) (unless-alike (entry_arg e) (entry_attribute e) _ _ (alike (text_in e.0) e.0 e.1) rest)

-- ONE ENTRY on the way
passing-cleared : (e : Value × Value) → is_nil e.1 ≡ true → passing e ≡ 1
passing-cleared e h = rw h refl

passing-live : (e : Value × Value) → is_nil e.1 ≡ false → passing e ≡ 0
passing-live e h = rw h refl

one-behind : (p x n : ℕ) → p ≡ 1 → x ≡ 1 + n → x ≡ p + n
one-behind p x n h e = omega arith

none-behind : (p x n : ℕ) → p ≡ 0 → x ≡ n → x ≡ p + n
none-behind p x n h e = omega arith

pub passed-over : (e : Value × Value) (l m : Left) → is_nil e.1 ≡ true → Took 1 l m → IsPassed e l m (Ok true)
passed-over e l m h took = (rw h took, λ more. one-behind (passing e) (passed_in entry_arg (e ∷ more)) (passed_in entry_arg more) (passing-cleared e h) (past-cleared entry_arg e more h))

pub passed-short : (e : Value × Value) (l m : Left) (s : Stop) (r : Result Bool Stop) → is_nil e.1 ≡ true → Unpaid 1 l m s → r ≡ Err s → IsPassed e l m r
passed-short e l m stop.Spent r h lacked is = subst (IsPassed e l m) (sym is) (lacked, λ more. past-cleared entry_arg e more h)
passed-short e l m (stop.Raised v level) r h lacked is = absurd lacked
passed-short e l m stop.NoMemory r h lacked is = absurd lacked

pub named-or-not : (e : Value × Value) (l : Left) (b : Bool) → is_nil e.1 ≡ false → b ≡ is_read (entry_arg e) → IsPassed e l l (Ok b)
named-or-not e l true h is = (rw h (took_none l), λ more. none-behind (passing e) (passed_in entry_arg (e ∷ more)) (passed_in entry_arg more) (passing-live e h) (past-read entry_arg e more h (sym is)))
named-or-not e l false h is = (took_none l, λ more. past-none entry_arg e more h (sym is))

-- THE WALK: so much was taken, and so much is still to take of what is behind a place
pub passed-one : (e : Value × Value) (l m k : Left) (es more : Entries) (all : ℕ) → SoFar l m (passed_in entry_arg es) all → es ≡ e ∷ more → IsPassed e m k (Ok true) → SoFar l k (passed_in entry_arg more) all
passed-one e l m k es more all so is (took, past) = took-more l m k (passed_in entry_arg es) (passed_in entry_arg more) all (passing e) so (ap (passed_in entry_arg) is ∙ past more) took

pub passed-last : (l m : Left) (es : Entries) (all : ℕ) → SoFar l m (passed_in entry_arg es) all → es ≡ [] → Took all l m
passed-last l m es all (n, took, sum) is =
    let none : passed_in entry_arg es ≡ 0 = ap (passed_in entry_arg) is in
    let whole : n ≡ all = omega (arith, sum, none) in
    subst (λ (k : ℕ). Took k l m) whole took

pub passed-end : (e : Value × Value) (l m k : Left) (es more : Entries) (all : ℕ) → SoFar l m (passed_in entry_arg es) all → es ≡ e ∷ more → IsPassed e m k (Ok false) → Took all l k
passed-end e l m k es more all (n, took, sum) is (nothing, past) =
    let none : passed_in entry_arg es ≡ 0 = ap (passed_in entry_arg) is ∙ past more in
    let whole : n + 0 ≡ all = omega (arith, sum, none) in
    subst (λ (x : ℕ). Took x l k) whole (took_then n 0 l m k took nothing)

pub passed-stop : (e : Value × Value) (l m k : Left) (es more : Entries) (all : ℕ) (s : Stop) (r : Result (Unit {0}) Stop) → SoFar l m (passed_in entry_arg es) all → es ≡ e ∷ more → IsPassed e m k (Err s) → r ≡ Err s → MayPay all l k r
passed-stop e l m k es more all stop.Spent r (n, took, sum) is (lacks, past) at =
    let step : passed_in entry_arg es ≡ 1 + passed_in entry_arg more = ap (passed_in entry_arg) is ∙ past more in
    let lacked = lacked_then n 1 l m k took lacks in
    subst (MayPay all l k) (sym at) (omega (arith, lacked.0, sum, step), lacked.1)
passed-stop e l m k es more all (stop.Raised v level) r so is lacks at = absurd lacks
passed-stop e l m k es more all stop.NoMemory r so is lacks at = absurd lacks
