-- What holds anyway holds on success, and on failure.
use Rattle.std.specs.Prelude.{Result, Ok, Err, OnOk, OnErr}

pub on-any : {T E P : Type 0} (r : Result T E) → P → OnOk r P
on-any (Ok x) p = p
on-any (Err e) p = tt

pub on-any-err : {T E P : Type 0} (r : Result T E) → P → OnErr r P
on-any-err (Ok x) p = tt
on-any-err (Err e) p = p
