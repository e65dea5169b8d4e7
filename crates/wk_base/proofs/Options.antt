-- What equal options say of what is in them.
use Rattle.std.proofs.Common.{◌≡◌, Some, None}

-- Two full options that are equal hold the same.
pub some_same : {A : Type 0} (x y : A) → Some x ≡ Some y → x ≡ y
some_same x y e = cc

-- An empty option isn't a full one.
pub none_some : {A : Type 0} (x : A) → None ≡ Some x → ⊥
none_some x e = absurd cc
