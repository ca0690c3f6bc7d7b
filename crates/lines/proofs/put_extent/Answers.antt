-- The parts in a row.
-- Assumes nothing.
use mathlib.Core.Path.{ap, ◌∙◌}
use mathlib.Core.List.{◌++◌}
use native.Mathlib.Omega.{arith}
use Rattle.standard.specs.Addresses.{five_bytes}
use Rattle.standard.specs.Labels.{start_of}
use Rattle.standard.specs.declared.Address.{Address}
use Rattle.text.proofs.LaidLaws.{writes_as, writes_more}
use Rattle.lines.specs.Parts.{bar, extent_fields}
use Rattle.lines.proofs.put_extent.Goals as goal

pub returns : goal.returns
unfolding extent_fields
returns c =
    let h = c.args.h.now in
    let e = ap (λ (a : Address). bar (five_bytes a) ++ bar (five_bytes c.end_of.result)) c.start_of.ensures.0
    ∙ ap (λ (a : Address). bar (five_bytes (start_of h)) ++ bar (five_bytes a)) c.end_of.ensures.0 in
    writes_as (omega arith) e (writes_more c.byte.ensures (writes_more c.address.ensures.0 (writes_more c.byte-2.ensures c.address-2.ensures.0)))
