-- `is_named` meets its contract.
-- Assumes nothing.
use Prim.Native.Nat.{ℕ}
use mathlib.Core.Path.{sym, ap, ◌∙◌}
use mathlib.Core.List.{List}
use Rattle.standard.specs.Characters.{same}
use Rattle.standard.specs.Labels.{name_of}
use Rattle.finding.proofs.FindLaws.{unnamed, named_by}
use Rattle.finding.proofs.is_named.Goals as goal

pub returns-then-is_known : goal.returns-then-is_known
returns-then-is_known c =
    let x = c.args in
    named_by _ _ _ _ _ (sym c.is_known.ensures ∙ c.if-is_known.true) (c.name_is.ensures ∙ ap (λ (l : List ℕ). same (name_of l) x.name.now) c.label_at.ensures.0)

pub returns-else-is_known : goal.returns-else-is_known
returns-else-is_known c = c.if-is_known.false ∙ unnamed _ _ _ _ (sym c.is_known.ensures ∙ c.if-is_known.false)
