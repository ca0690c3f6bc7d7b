-- `judge_sectors` meets its contract: the length, the kinds, and the rest.
-- Assumes nothing.
use Rattle.std.specs.Prelude.{Err}
use mathlib.Core.Path.{ap, ◌∙◌}
use Rattle.standard.proofs.RefusalLaws.{handed_on}
use Rattle.volume.proofs.JudgeLaws.{wrong_length, bad_kind, behind_6}
use Rattle.volume.proofs.judge_sectors.Goals as goal

pub returns-then-n-m : goal.returns-then-n-m
returns-then-n-m c = ap Err c.at.ensures ∙ wrong_length _ _ c.requires.2 _ c.image_length-m.ensures.0 c.if-n-m.true

pub kinds-requires : goal.kinds-requires
kinds-requires c = c.if-n-m.false ∙ c.image_length-m.ensures.0

pub returns-in_err-kinds : goal.returns-in_err-kinds
returns-in_err-kinds c = handed_on _ _ c.from_residual.ensures ∙ bad_kind _ _ c.requires.2 (c.if-n-m.false ∙ c.image_length-m.ensures.0) _ _ c.kinds.ensures c.in_err-kinds.was

pub judge_defects-requires : goal.judge_defects-requires
judge_defects-requires c = (c.requires.0, c.requires.1, c.requires.2, c.if-n-m.false ∙ c.image_length-m.ensures.0)

pub returns : goal.returns
returns c = behind_6 _ _ c.requires.2 (c.if-n-m.false ∙ c.image_length-m.ensures.0) _ _ c.kinds.ensures c.in_ok-kinds.was c.judge_defects.ensures
