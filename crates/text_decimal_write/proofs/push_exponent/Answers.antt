use Rattle.std.proofs.Common.{ℕ, List, [], ◌∷◌, ◌++◌, ap, ◌∙◌, arith}
use Rattle.text_decimal_write.specs.Decimals.{digits_text}
use Rattle.text_decimal_write.proofs.Bytes.{exponent_minus, exponent_plus}
use Rattle.text_decimal_write.proofs.push_exponent.Goals.{then-tens-lt324, else-tens-lt324}
use Rattle.text_decimal_write.proofs.push_exponent.Goals as goal

pub returns-clause-items : goal.returns-clause-items
returns-clause-items c =
    let text : List ℕ = c.args.text.now.items in
    let d : ℕ = c.abs_diff.result in
    c.push_digits.ensures.items
    ∙ ap (λ (t : List ℕ). t ++ digits_text c.args.n d) (c.push-2.ensures.items ∙ ap (λ (t : List ℕ). t ++ c.if-tens-lt324.push ∷ []) c.push.ensures.items)
    ∙ elim c.if-tens-lt324.branch [
      | then-tens-lt324 w ↦ exponent_minus text c.args.n c.args.tens d _ w.if-tens-lt324.true (c.abs_diff.ensures ∙ omega arith) w.push-is
      | else-tens-lt324 w ↦ exponent_plus text c.args.n c.args.tens d _ w.if-tens-lt324.false (c.abs_diff.ensures ∙ omega arith) w.push-is
    ]
