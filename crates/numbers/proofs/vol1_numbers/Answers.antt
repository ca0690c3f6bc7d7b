-- `vol1_numbers` meets its contract: the numbers of a VOL1 without a fault fit (`vol1_small`).
-- Assumes nothing.
use native.Mathlib.Omega.{arith}
use borrow.Author.Rules.{rules}
use Rattle.numbers.specs.Numbers.{bare}
use Rattle.numbers.proofs.Laws.{vol1_small}
use Rattle.numbers.proofs.vol1_numbers.Goals as goal

pub hex_byte-requires : goal.hex_byte-requires
hex_byte-requires c = (search rules, (vol1_small c.args.v.now c.requires.1).l)

pub hex_byte-requires-2 : goal.hex_byte-requires-2
hex_byte-requires-2 c =
    (search rules, (vol1_small c.args.v.now c.requires.1).i)

pub hex_byte-requires-3 : goal.hex_byte-requires-3
hex_byte-requires-3 c =
    (search rules, (vol1_small c.args.v.now c.requires.1).d)

pub overflow_cast-result : goal.overflow_cast-result
overflow_cast-result c =
    omega (arith, (vol1_small c.args.v.now c.requires.1).k, c.kind_in-k.ensures)

pub record_size-requires : goal.record_size-requires
record_size-requires c =
    omega (arith, (vol1_small c.args.v.now c.requires.1).k, c.kind_in-k.ensures)

pub hex_byte-requires-4 : goal.hex_byte-requires-4
hex_byte-requires-4 c =
    (search rules, (vol1_small c.args.v.now c.requires.1).s)

pub returns : goal.returns
unfolding bare
returns c = cc
