use Rattle.std.proofs.Common.{◌≡◌, ℕ, ◌+◌, ◌*◌, ◌<◌, min, sym, ◌∙◌, subst, arith}
use Rattle.std.specs.Char.{digit_value, NotDecimalDigitIn}
use Rattle.tables.proofs.Capped.{capped_digits, digits_on, digits_off, digits_all}
use Rattle.tables.proofs.numbers.digits.Goals as goal

pub returns-in_err-digit : goal.returns-in_err-digit
returns-in_err-digit c =
    let xs = c.args.text.now in
    let none = subst (NotDecimalDigitIn 10) c.from.ensures c.in_err-digit.ensures.cases in
    c.from_residual.ensures ∙ sym (capped_digits xs 0 ∙ sym c.loop-b.invariant ∙ digits_off xs c.loop-b.b-index c.loop-b.n c.loop-b-test.true none)

pub loop-b-preserved : goal.loop-b-preserved
loop-b-preserved c =
    let d = c.in_ok-digit.digit in
    let both = subst (λ (b : ℕ). (digit_value b < 10) × (d ≡ digit_value b)) c.from.ensures c.in_ok-digit.ensures.value in
    let total : c.min-n.result ≡ min (c.loop-b.n * 10 + d) 1000000001 = omega arith in
    digits_on c.args.text.now c.loop-b.b-index c.loop-b.n d c.min-n.result c.loop-b-test.true both.0 both.1 total ∙ c.loop-b.invariant

pub returns : goal.returns
returns c = sym (capped_digits c.args.text.now 0 ∙ sym c.loop-b.invariant ∙ digits_all c.args.text.now c.loop-b.b-index c.loop-b.n c.loop-b-test.false)
