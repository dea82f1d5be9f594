-- A result that is no error.
use Rattle.std.proofs.Common.{◌≡◌, false, true, true≢false, Ok, Err}
use Rattle.std.specs.Prelude.{Result, OnOk, is_err}

pub of_ok : {T E P : Type 0} (r : Result T E) → is_err r ≡ false → OnOk r P → P
of_ok (Ok x) e h = h
of_ok (Err x) e h = absurd (true≢false e)
