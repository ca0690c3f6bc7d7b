-- Too long, refused, or accepted.
-- Assumes nothing.
use mathlib.Core.Path.{sym, ap, ◌∙◌}
use native.Mathlib.Omega.{arith}
use Rattle.text.proofs.LaidLaws.{writes_as}
use Rattle.standard.specs.Listing.{refused_line}
use Rattle.volume.specs.Stages.{refusal_of}
use Rattle.lines.proofs.Laws.{listing_long, listing_refused, listing_volume}
use Rattle.lines.proofs.put_listing.Goals as goal

pub returns-then-image-gt65536 : goal.returns-then-image-gt65536
returns-then-image-gt65536 c = writes_as (omega arith) (listing_long c.args.image.now (omega arith)) c.bytes.ensures

pub returns-in_default : goal.returns-in_default
returns-in_default c =
    let t = c.in_default.is in
    let j = sym c.judge-verdict.ensures ∙ t in
    writes_as (omega arith) (ap refused_line (c.refusal_of.ensures ∙ ap refusal_of t) ∙ listing_refused c.args.image.now _ (omega arith) j) c.refused_line.ensures

pub returns : goal.returns
returns c =
    let j = sym c.judge-verdict.ensures ∙ c.in-Ok.is in
    writes_as (omega arith) (listing_volume c.args.image.now _ (omega arith) j) c.volume_lines.ensures
