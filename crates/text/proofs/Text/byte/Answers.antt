-- A byte behind the buffer's end changes nothing; any other is set.
-- Assumes nothing.
use mathlib.Core.Path.{refl, sym}
use mathlib.Core.List.{[], ◌∷◌}
use native.Mathlib.Omega.{arith}
use Rattle.text.proofs.LaidLaws.{laid_outside, laid_byte}
use Rattle.text.proofs.Text.byte.Goals as goal
use Rattle.text.proofs.Text.byte.Goals.{then-self, else-self}

pub returns : goal.returns
returns c =
    let t = c.args.self.now in
    let s = c.args.c ∷ [] in
    elim c.if-self.branch [
      | then-self w ↦ rw w.self-is (record { same = refl; puts = record { next = refl; stands = laid_byte t.out.now t.at c.args.c w.if-self.true }; within = omega arith })
      | else-self w ↦ rw w.self-is (record { same = refl; puts = record { next = refl; stands = sym (laid_outside t.out.now t.at s (omega (arith, w.if-self.false))) }; within = omega arith })
    ]
