-- What holds of a result for each world holds for all of them.
use Rattle.std.specs.Prelude.{Result, Ok, Err, IfOk}

pub for_each : {W X Y : Type 0} (P : W → X → Type 0) (r : Result X Y) → ((w : W) → IfOk r (P w)) → IfOk r (λ x. (w : W) → P w x)
for_each P (Ok x) h = h
for_each P (Err y) h = tt
