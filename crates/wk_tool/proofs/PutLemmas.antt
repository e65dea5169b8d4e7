-- What a put leaves, whether it failed or not.
use Rattle.std.proofs.Common.{ℕ, List, length, sym, subst}
use Rattle.std.specs.Prelude.{Option, Result, Ok, Err, OnOk, OnErr}
use Rattle.std.proofs.Math.Seq.{take-length}
use Rattle.wk_shelf.specs.Put.{Puts, PutsSome}

-- a whole piece is a prefix of it
pub whole : (old new : Option (List ℕ)) (piece : List ℕ) → Puts old new piece → PutsSome old new piece
whole old new piece h = (length piece, subst (λ text. Puts old new text) (sym (take-length piece)) h)

pub some_put : {T E : Type 0} (result : Result T E) (old new : Option (List ℕ)) (piece : List ℕ) → OnOk result (Puts old new piece) → OnErr result (PutsSome old new piece) → PutsSome old new piece
some_put (Ok _) old new piece done some = whole old new piece done
some_put (Err _) old new piece done some = some
