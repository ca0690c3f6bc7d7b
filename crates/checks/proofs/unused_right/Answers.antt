-- `unused_right` meets its contract: neither spaces nor digits, or a number that fits or not.
-- Assumes nothing.
use Rattle.checks.proofs.PartLaws.{unused_no, unused_is}
use Rattle.checks.proofs.ExitLaws.{blank_no, blank_yes, unused_blank}
use Rattle.checks.proofs.unused_right.Goals as goal

pub returns-in_default : goal.returns-in_default
returns-in_default c = search (unused_no, blank_no)

pub returns : goal.returns
returns c = search (unused_is, blank_yes, unused_blank)
