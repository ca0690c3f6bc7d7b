-- Each turn reads behind what was filled before.
-- Assumes nothing.
use Rattle.std.proofs.Common.{◌≡◌, ℕ, ◌+◌, ◌≤◌, List, ◌++◌, rules, sym, ap, ◌∙◌, subst, length, take, length-take-le}
use Rattle.std.proofs.lemmas.List.{take-append-le}
use Rattle.std.proofs.Math.Seq.{take-append-add}
use Rattle.std.proofs.KnownBytes.{Consumes-trans}
use Rattle.std.specs.Io.KnownBytes.{Consumes}
use Rattle.input.proofs.read_full.Goals as goal

filled_more : (front more rest : List ℕ) (a n : ℕ) → length front ≡ a → n ≤ length more → front ++ take n more ≡ take (a + n) (front ++ (more ++ rest))
filled_more front more rest a n e h =
    ap (λ l. front ++ l) (sym (take-append-le n more rest h)) ∙ sym (take-append-add front (more ++ rest) n) ∙ ap (λ k. take (k + n) (front ++ (more ++ rest))) e

pub loop-filled-preserved : goal.loop-filled-preserved
loop-filled-preserved g c =
    let l = c.loop-filled in
    let read = c.in_ok-n.ensures in
    let joined = filled_more (take l.filled l.buffer) c.read.new.buf _ l.filled c.in_ok-n.n (length-take-le l.filled l.buffer l.invariant.0) read.bound.0 in
    (search rules, subst (Consumes _ _) joined (Consumes-trans _ _ _ _ _ l.invariant.1 read.bytes.0))
