-- The parts in a row.
-- Assumes nothing.
use Prim.Native.Nat.{ℕ}
use mathlib.Core.Path.{ap, ◌∙◌}
use mathlib.Core.List.{List, ◌++◌}
use native.Mathlib.Omega.{arith}
use Rattle.standard.specs.Characters.{bytes, shown}
use Rattle.standard.specs.Layout.{vol1_of}
use Rattle.standard.specs.Volume.{volume_name}
use Rattle.standard.specs.Listing.{newline}
use Rattle.text.proofs.LaidLaws.{writes_as, writes_more}
use Rattle.lines.specs.Parts.{numbers_shown}
use Rattle.lines.proofs.Laws.{volume_is}
use Rattle.lines.proofs.volume_line.Goals as goal

pub returns : goal.returns
returns c =
    let x = c.args in
    let v = ap volume_name c.index_body-v.ensures.0 in
    let e = ap (λ (t : List ℕ). bytes "VOLUME " ++ (t ++ (numbers_shown x.g ++ ((bytes " FREE=" ++ shown x.free) ++ newline)))) v
    ∙ ap (λ (k : ℕ). bytes "VOLUME " ++ (volume_name (vol1_of x.image.now) ++ (numbers_shown x.g ++ ((bytes " FREE=" ++ shown k) ++ newline)))) c.requires.2
    ∙ volume_is x.g x.image.now in
    writes_as (omega arith) e (writes_more c.bytes.ensures (writes_more c.bytes-2.ensures (writes_more c.put_numbers.ensures (writes_more c.named.ensures c.byte.ensures))))
