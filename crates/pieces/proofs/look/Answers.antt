-- `look` meets its contract.
-- Assumes nothing.
use mathlib.Core.Path.{◌∙◌, sym, ap}
use lib.ListN.{take}
use native.Mathlib.Omega.{arith}
use Rattle.standard.specs.Pieces.{look_in}
use Rattle.labels.specs.Forms.{format_for}
use Rattle.labels.specs.declared.Form.{Form}
use Rattle.blocks.specs.Streams.{stream}
use Rattle.pieces.specs.Looks.{seen_of}
use Rattle.pieces.proofs.WordLaws.{look_fixed}
use Rattle.pieces.proofs.look.Goals as goal

pub returns-in-Fixed : goal.returns-in-Fixed
returns-in-Fixed c =
    let x = c.args in
    c.look_f.ensures ∙ (look_fixed x.r x.n (stream x.g x.image.now x.c x.i) (omega arith) ∙ ap (λ (f : Form). seen_of (look_in (format_for f) x.r x.blocked x.o (take x.n (stream x.g x.image.now x.c x.i)))) (sym c.in-Fixed.is))
