-- `decimal_in` meets its contract: one digit more, or none; at the end every character was a digit.
-- Assumes nothing.
use mathlib.Core.Bool.{true}
use mathlib.Core.Path.{◌≡◌, sym, ◌∙◌}
use native.Mathlib.Omega.{arith}
use borrow.Author.Tests.{not-false}
use Rattle.standard.specs.Characters.{is_digit}
use Rattle.fields.proofs.PerhapsLaws.{is_number, is_nothing}
use Rattle.fields.proofs.LoopLaws.{every_more, every_stop, every_end, number_more, number_end, bound_more, digit_most}
use Rattle.fields.proofs.decimal_in.Goals as goal

pub returns-then-not-is_digit : goal.returns-then-not-is_digit
returns-then-not-is_digit c =
    let w = c.loop-b in
    is_nothing _ _ (w.invariant.1 ∙ every_stop is_digit c.args.f.now w.b-index (omega arith) (cc))

pub loop-b-preserved : goal.loop-b-preserved
loop-b-preserved c =
    let w = c.loop-b in
    let f = c.args.f.now in
    let d : is_digit c.from-c.result ≡ true = not-false (is_digit c.from-c.result) (cc) in (
      bound_more _ _ _ w.invariant.0 (omega (arith, c.digit.ensures, digit_most c.from-c.result d)),
      w.invariant.1 ∙ every_more is_digit f w.b-index (omega arith) (cc),
      w.invariant.2 ∙ number_more f w.n w.b-index (omega arith) ∙ cc,
    )

pub returns : goal.returns
returns c =
    let w = c.loop-b in
    let f = c.args.f.now in
    is_number _ _ _ (w.invariant.1 ∙ every_end is_digit f w.b-index (omega arith)) (sym (w.invariant.2 ∙ number_end f w.n w.b-index (omega arith)))
