-- None is left; or the address is reckoned from the rank.
-- Assumes nothing.
use Prim.Native.Nat.{ℕ, ◌+◌}
use mathlib.Core.Path.{ap, ◌∙◌}
use native.Mathlib.Omega.{arith}
use Rattle.standard.specs.Addresses.{address_of}
use Rattle.extents.proofs.CursorLaws.{legal_head, legal_none}
use Rattle.layout.proofs.TrackLaws.{legal_small}
use Rattle.extents.proofs.RankLaws.{from_nth, none_left, no_addresses, sides_some}
use Rattle.extents.proofs.skip_any.Goals as goal

pub returns-then-left-n : goal.returns-then-left-n
returns-then-left-n c =
    let x = c.args in
    (no_addresses x.g x.from.at ∙ none_left x.g x.from.left x.from.at x.n (omega arith), legal_none x.g x.from.at, omega arith)

pub rank_of-requires : goal.rank_of-requires
rank_of-requires c =
    let x = c.args in
    let p = legal_small x.g x.from.at (omega arith) (omega arith) (omega arith) (legal_head _ _ _ (omega arith) c.requires.0) in
    (p.1, p.2, p.4)

pub address_of-requires : goal.address_of-requires
address_of-requires c =
    let x = c.args in
    let s = sides_some x.g x.from.at (legal_head x.g x.from.left x.from.at (omega arith) c.requires.0) in
    (s.0, s.1, omega (arith, c.rank_of.ensures.1))

pub returns : goal.returns
returns c =
    let x = c.args in
    let f = from_nth x.g x.from.left x.from.at x.n (omega arith) c.requires.0 in
    let e = c.address_of.ensures ∙ ap (λ (k : ℕ). address_of x.g (k + x.n)) c.rank_of.ensures.0 in
    rw e (f.records, f.right, omega arith)
