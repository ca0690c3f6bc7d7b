-- `is_cylinder` meets its contract: digits, of which the last is compared.
-- Assumes nothing.
use Rattle.standard.specs.Characters.{digits, number}
use Rattle.fields.proofs.PerhapsLaws.{some_if}
use Rattle.numbers.proofs.is_cylinder.Goals as goal

pub returns : goal.returns
returns c =
    let f = c.args.f.now in
    cc (some_if (digits f) (number f))
