-- What is true of what was answered, from other facts about it.
use Rattle.std.proofs.Common.{ap, Result, Ok, Err, IfOk}
use Rattle.std.specs.Result.{IsErrOf, result_err}
use Rattle.std.proofs.lemmas.Option.{same_Some}

pub if_both : {X E : Type 0} (r : Result X E) (A B P : X → Type 0) → IfOk r A → IfOk r B → ((x : X) → A x → B x → P x) → IfOk r P
if_both (Ok x) A B P a b f = f x a b
if_both (Err e) A B P a b f = tt

-- an error is the same whatever might have been answered
pub same_error : {T U E : Type 0} (e x : E) → IsErrOf {T = T} (Err e) x → IsErrOf {T = U} (Err e) x
same_error {T} {U} {E} e x h = ap (λ (z : E). Err z) (same_Some e x (ap result_err h))
