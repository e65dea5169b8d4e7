-- What a call gave is handed on.
use Rattle.std.specs.Prelude.{Result, Ok, Err, IfOk}

pub if_ok : {A E : Type 0} (P Q : A → Type 0) (r : Result A E) → ((a : A) → P a → Q a) → IfOk r P → IfOk r Q
if_ok P Q (Ok a) f p = f a p
if_ok P Q (Err e) f p = tt

-- what holds whatever it gave
pub if_any : {A E : Type 0} (Q : A → Type 0) (r : Result A E) → ((a : A) → Q a) → IfOk r Q
if_any Q (Ok a) f = f a
if_any Q (Err e) f = tt
