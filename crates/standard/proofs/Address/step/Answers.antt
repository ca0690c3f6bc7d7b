-- `Address::step` meets its contract: one law of AddressLaws for each of its four exits.
-- Assumes nothing.
use Rattle.standard.proofs.AddressLaws.{to_sector, to_side, to_cylinder, to_none}
use Rattle.standard.proofs.Address.step.Goals as goal

pub returns-then-n-sectors : goal.returns-then-n-sectors
returns-then-n-sectors c = to_sector _ _ _ c.from-sectors.ensures c.if-n-sectors.true

pub returns-then-has_next : goal.returns-then-has_next
returns-then-has_next c =
    to_side _ _ _ _ _ c.from-sides.ensures c.from-sectors.ensures c.if-n-sectors.false c.has_next.ensures c.if-has_next.true

pub returns-then-c-cylinders : goal.returns-then-c-cylinders
returns-then-c-cylinders c =
    let more = c.has_next.ensures in
    to_cylinder _ _ _ _ _ _ c.from-cylinders.ensures c.from-sides.ensures c.from-sectors.ensures c.if-n-sectors.false more c.if-has_next.false c.if-c-cylinders.true

pub returns : goal.returns
returns c =
    let more = c.has_next.ensures in
    to_none _ _ _ _ _ _ c.from-cylinders.ensures c.from-sides.ensures c.from-sectors.ensures c.if-n-sectors.false more c.if-has_next.false c.if-c-cylinders.false
