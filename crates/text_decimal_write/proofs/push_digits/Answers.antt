use Rattle.std.proofs.Common.{◌≡◌, ℕ, List, ◌++◌, ◌-◌, ap, sym, ◌∙◌, append_assoc, arith}
use mathlib.Core.List.{append-nil}
use Rattle.text_decimal_write.specs.Decimals.{digits_text}
use Rattle.text_decimal_write.proofs.Bytes.{digit_next, digits_none}
use Rattle.text_decimal_write.proofs.push_digits.Goals as goal

pub loop-left-preserved : goal.loop-left-preserved
loop-left-preserved c =
    let left : ℕ = c.loop-left.left in
    let text : List ℕ = c.loop-left.text.items in
    let v : ℕ = c.args.v in
    record {
      is =
          ap (λ (t : List ℕ). t ++ digits_text (left - 1) v) c.push.ensures.items
          ∙ append_assoc text _ _
          ∙ ap (λ (t : List ℕ). text ++ t) (sym (digit_next left v c.cut.result (omega arith) c.cut.ensures))
          ∙ c.loop-left.invariant.is;
      long = omega arith;
    }

pub returns-clause-items : goal.returns-clause-items
returns-clause-items c =
    let left : 0 ≡ c.loop-left.left = omega arith in
    sym (append-nil _)
    ∙ ap (λ (t : List ℕ). c.loop-left.text.items ++ t) (sym (digits_none c.args.v) ∙ ap (λ (k : ℕ). digits_text k c.args.v) left)
    ∙ c.loop-left.invariant.is
