-- A refusal that `?` hands on.
-- Assumes nothing.
use Rattle.std.specs.Prelude.{◌≡◌, Result, Err, IsErr, IsErrAnd}
use Rattle.std.proofs.Common.{ap, ◌∙◌}
use Rattle.std.proofs.lemmas.Result.{err_from_is_err_and}
use Rattle.standard.specs.declared.Refusal.{Refusal}

-- what a call returns at a `?` is the refusal that stopped it
pub handed_on : {T : Type 0} (result : Result T Refusal) (r : Refusal) → IsErr result × IsErrAnd result (λ s. s ≡ r) → result ≡ Err r
handed_on result r h =
    let p = err_from_is_err_and result h.1 in
    p.1 ∙ ap Err p.2
