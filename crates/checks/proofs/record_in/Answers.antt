-- `record_in` meets its contract: neither spaces nor digits, or a number that fits or not.
-- Assumes nothing.
use Rattle.fields.proofs.PerhapsLaws.{none_handed, then_made}
use Rattle.checks.proofs.PartLaws.{record_no, record_is}
use Rattle.checks.proofs.ExitLaws.{blank_no, blank_yes, record_blank}
use Rattle.checks.proofs.record_in.Goals as goal

pub returns-in_err-r : goal.returns-in_err-r
returns-in_err-r c = search (none_handed, record_no, blank_no, c.in_err-r.was)

pub returns : goal.returns
returns c = search (then_made, record_is, record_blank, blank_yes, c.in_ok-r.was)
