-- What a call did that may fail.
use Rattle.std.proofs.Common.{◌≡◌, true}
use Rattle.std.specs.Prelude.{Result, Ok, Err, OnOk, OnErr}
use Rattle.std.specs.Result.{is_ok}

pub done : {T E P : Type 0} (r : Result T E) → is_ok r ≡ true → OnOk r P → P
done (Ok x) h p = p
done (Err e) h p = absurd (cc)

pub either_way : {T E P Q R : Type 0} (r : Result T E) → OnOk r P → OnErr r Q → (P → R) → (Q → R) → R
either_way (Ok x) p q f g = f p
either_way (Err e) p q f g = g q
